-- The front of a packet's line, with the packet's offset.
use Rattle.std.proofs.Common.{◌≡◌, ℕ, ◌+◌, ◌-◌, ◌/◌, ◌%◌, ◌^◌, ◌<◌, ◌≤◌, List, [], ◌∷◌, ◌++◌, length, take, sym, ap, ◌∙◌, arith, append_assoc}
use Rattle.std.proofs.lemmas.List.{length-append, take_at}
use Rattle.path_text.specs.Lines.{digit, decimal, line_start}
use Rattle.path_text.specs.PacketLines.{packet_head}
use Rattle.path_text.proofs.DigitLemmas.{decimal_step, few_decimal_64}

pub head_length : (id at : ℕ) → length (packet_head id at) ≡ length (decimal at) + 4
head_length id at = omega (arith, length-append (decimal at) (32 ∷ []))

pub head_short : (id at : ℕ) → at < 2 ^ 64 → length (packet_head id at) ≤ 24
head_short id at fits = omega (arith, head_length id at, few_decimal_64 at fits)

-- all but the last two digits
abbrev front : ℕ → ℕ → List ℕ
front id at = line_start id ++ decimal (at / 100)

abbrev pub last_two : ℕ → List ℕ
last_two at = digit (at % 100 / 10) ∷ digit (at % 100 % 10) ∷ []

head_parts : (id at : ℕ) → 100 ≤ at → packet_head id at ≡ front id at ++ (last_two at ++ (32 ∷ []))
head_parts id at above =
    ap (λ t. line_start id ++ (t ++ (32 ∷ []))) (decimal_step at above)
    ∙ ap (λ t. line_start id ++ t) (append_assoc (decimal (at / 100)) (last_two at) (32 ∷ []))

-- the last two digits are put anew
pub last_digits_put : (id old at : ℕ) (line : List ℕ) → 100 ≤ at → old / 100 ≡ at / 100 → line ≡ packet_head id old
    → (take (length line - 3) line ++ last_two at) ++ (32 ∷ []) ≡ packet_head id at
last_digits_put id old at line above same is =
    let parts : line ≡ front id old ++ (last_two old ++ (32 ∷ [])) = is ∙ head_parts id old (omega (arith, above, same)) in
    let place : length (front id old) ≡ length line - 3 =
    omega (arith, ap length parts, length-append (front id old) (last_two old ++ (32 ∷ []))) in
    ap (λ t. (take (length line - 3) t ++ last_two at) ++ (32 ∷ [])) parts
    ∙ ap (λ t. (t ++ last_two at) ++ (32 ∷ [])) (take_at (front id old) (last_two old ++ (32 ∷ [])) (length line - 3) place)
    ∙ ap (λ n. ((line_start id ++ decimal n) ++ last_two at) ++ (32 ∷ [])) same
    ∙ append_assoc (front id at) (last_two at) (32 ∷ []) ∙ sym (head_parts id at above)
