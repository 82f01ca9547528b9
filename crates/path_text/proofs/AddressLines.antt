-- The line of an instruction, when it moves to another address.
use Rattle.std.proofs.Common.{◌≡◌, ℕ, ◌+◌, ◌-◌, ◌/◌, ◌<◌, ◌≤◌, List, [], ◌∷◌, ◌++◌, length, take, drop, set, refl, sym, ap, ◌∙◌, arith, append_assoc, take_all}
use Rattle.std.specs.Prelude.{map}
use Rattle.std.specs.Int.Digits.{digits_of}
use Rattle.std.proofs.lemmas.List.{length-append, length-take-le, length-drop, take-append-drop, take-take, take_at, take_more_set}
use Rattle.std.proofs.Math.Seq.{drop-append_seam}
use Rattle.path_text.specs.Lines.{digit, hex, last_four_hex, line_start, address_line}
use Rattle.path_text.proofs.DigitLemmas.{before_last, few_digits}
use Rattle.path_text.proofs.HexLemmas.{hex_four, at_least_four_hex}

-- the bytes of the line: its start, and then the digits, where they end at `end`
pub front_there : (id address n : ℕ) (bytes : List ℕ) → 3 ≤ n → take n bytes ≡ address_line id address → take 3 bytes ≡ line_start id
front_there id address n bytes more is =
    sym (take-take 3 n bytes more) ∙ ap (take 3) is

pub digits_there : (id address end : ℕ) (bytes : List ℕ) → end ≡ 3 + length (hex address) → take (end + 1) bytes ≡ address_line id address
    → take end bytes ≡ take 3 bytes ++ hex address
digits_there id address end bytes place is =
    before_last end (end + 1) bytes (line_start id ++ hex address) 10 refl (omega (arith, place, length-append (line_start id) (hex address)))
    (is ∙ sym (append_assoc (line_start id) (hex address) (10 ∷ [])))
    ∙ ap (λ t. t ++ hex address) (sym (front_there id address (end + 1) bytes (omega (arith, place)) is))

-- so many bytes are in it
pub line_length : (id address n : ℕ) (bytes : List ℕ) → n ≤ length bytes → take n bytes ≡ address_line id address
    → n ≡ length (hex address) + 4
line_length id address n bytes within is =
    omega (
      arith,
      length-take-le n bytes within,
      ap length is,
      length-append (line_start id) (hex address ++ (10 ∷ [])),
      length-append (hex address) (10 ∷ []),
    )

-- the bytes of a line, where others follow
cut_line : (id address end : ℕ) (rest : List ℕ) → end ≡ 3 + length (hex address)
    → take (end + 1) (line_start id ++ (hex address ++ (10 ∷ rest))) ≡ address_line id address
cut_line id address end rest place =
    ap (λ t. take (end + 1) (line_start id ++ t)) (sym (append_assoc (hex address) (10 ∷ []) rest))
    ∙ take_at (address_line id address) rest (end + 1)
    (omega (arith, place, length-append (line_start id) (hex address ++ (10 ∷ [])), length-append (hex address) (10 ∷ [])))

-- its LF, and what follows
from_end : (id address end : ℕ) (bytes : List ℕ) → end ≡ 3 + length (hex address) → take (end + 1) bytes ≡ address_line id address
    → drop end bytes ≡ 10 ∷ drop (end + 1) bytes
from_end id address end bytes place is =
    let front = line_start id ++ hex address in let rest = drop (end + 1) bytes in
    let whole : bytes ≡ front ++ (10 ∷ rest) =
    sym (take-append-drop (end + 1) bytes) ∙ ap (λ t. t ++ rest) (is ∙ sym (append_assoc (line_start id) (hex address) (10 ∷ [])))
    ∙ append_assoc front (10 ∷ []) rest in
    let len : end ≡ length front = omega (arith, place, length-append (line_start id) (hex address)) in
    ap (drop end) whole ∙ ap (λ k. drop k (front ++ (10 ∷ rest))) len ∙ drop-append_seam front (10 ∷ rest)

-- other last four digits, before the LF that is there
pub line_changed : (id old new end : ℕ) (bytes : List ℕ) → 4096 ≤ old → 4096 ≤ new → old / 65536 ≡ new / 65536 → end ≡ 3 + length (hex old)
    → take (end + 1) bytes ≡ address_line id old → take (end + 1) (take (end - 4) bytes ++ (last_four_hex new ++ drop end bytes)) ≡ address_line id new
line_changed id old new end bytes some_old some_new same place is =
    let start = line_start id in let upper = map digit (digits_of 16 (old / 65536)) in let rest = drop (end + 1) bytes in
    let all_old : hex old ≡ upper ++ last_four_hex old = hex_four old some_old in
    let all_new : hex new ≡ upper ++ last_four_hex new =
    hex_four new some_new ∙ ap (λ k. map digit (digits_of 16 k) ++ last_four_hex new) (sym same) in
    let many_old : length (hex old) ≡ length upper + 4 = ap length all_old ∙ length-append upper (last_four_hex old) in
    let many_new : length (hex new) ≡ length upper + 4 = ap length all_new ∙ length-append upper (last_four_hex new) in
    let front : take (end - 4) bytes ≡ start ++ upper =
    sym (take-take (end - 4) end bytes (omega arith))
    ∙ ap (take (end - 4)) (digits_there id old end bytes place is)
    ∙ ap (λ t. take (end - 4) (t ++ hex old)) (front_there id old (end + 1) bytes (omega (arith, place)) is)
    ∙ ap (λ t. take (end - 4) (start ++ t)) all_old ∙ ap (take (end - 4)) (sym (append_assoc start upper (last_four_hex old)))
    ∙ take_at (start ++ upper) (last_four_hex old) (end - 4) (omega (arith, place, many_old, length-append start upper)) in
    ap (λ t. take (end + 1) (t ++ (last_four_hex new ++ drop end bytes))) front
    ∙ ap (λ t. take (end + 1) ((start ++ upper) ++ (last_four_hex new ++ t))) (from_end id old end bytes place is)
    ∙ ap (take (end + 1)) (append_assoc start upper (last_four_hex new ++ (10 ∷ rest)))
    ∙ ap (λ t. take (end + 1) (start ++ t)) (sym (append_assoc upper (last_four_hex new) (10 ∷ rest)))
    ∙ ap (λ t. take (end + 1) (start ++ (t ++ (10 ∷ rest)))) (sym all_new)
    ∙ cut_line id new end rest (omega (arith, place, many_old, many_new))

-- any other digits, and then LF
pub line_made : (id new end : ℕ) (bytes : List ℕ) → take 3 bytes ≡ line_start id → end ≡ 3 + length (hex new) → end < length bytes
    → take (end + 1) (set (take 3 bytes ++ (hex new ++ drop end bytes)) end 10) ≡ address_line id new
line_made id new end bytes front place within =
    let made = take 3 bytes ++ hex new in let rest = drop end bytes in
    let same : take 3 bytes ++ (hex new ++ rest) ≡ made ++ rest = sym (append_assoc (take 3 bytes) (hex new) rest) in
    let three : length (take 3 bytes) ≡ 3 = length-take-le 3 bytes (omega (arith, place, within)) in
    let len : length made ≡ end = omega (arith, place, within, length-append (take 3 bytes) (hex new), three) in
    ap (λ t. take (end + 1) (set t end 10)) same
    ∙ take_more_set (made ++ rest) end 10 (omega (arith, len, within, length-append made rest, length-drop end bytes))
    ∙ ap (λ t. t ++ (10 ∷ [])) (take_at made rest end len ∙ ap (λ t. t ++ hex new) front)
    ∙ append_assoc (line_start id) (hex new) (10 ∷ [])

-- ---- bytes that are the line and no more

pub whole_length : (id address : ℕ) (bytes : List ℕ) → bytes ≡ address_line id address → length bytes ≡ length (hex address) + 4
whole_length id address bytes is =
    omega (arith, ap length is, length-append (line_start id) (hex address ++ (10 ∷ [])), length-append (hex address) (10 ∷ []))

-- a line of at least eight bytes has an address of at least four digits
pub long_address : (id address : ℕ) → 8 ≤ length (address_line id address) → 4096 ≤ address
long_address id address long =
    let few : address < 4096 → ⊥ = λ below. omega (
      arith,
      long,
      whole_length id address (address_line id address) refl,
      few_digits 16 3 address (omega arith) (omega arith) (omega arith),
    ) in
    omega (arith, few)

pub whole_changed : (id old new end : ℕ) (bytes : List ℕ) → 4096 ≤ old → 4096 ≤ new → old / 65536 ≡ new / 65536 → length bytes ≡ end + 1
    → bytes ≡ address_line id old → take (end - 4) bytes ++ (last_four_hex new ++ drop end bytes) ≡ address_line id new
whole_changed id old new end bytes some_old some_new same len is =
    let four = at_least_four_hex old some_old in let many = whole_length id old bytes is in
    let made = take (end - 4) bytes ++ (last_four_hex new ++ drop end bytes) in
    let short : length made ≤ end + 1 = omega (
      arith,
      len,
      four,
      many,
      length-append (take (end - 4) bytes) (last_four_hex new ++ drop end bytes),
      length-append (last_four_hex new) (drop end bytes),
      length-take-le (end - 4) bytes (omega (arith, len)),
      length-drop end bytes,
    ) in
    sym (take_all (end + 1) made short)
    ∙ line_changed id old new end bytes some_old some_new same (omega (arith, len, many)) (take_all (end + 1) bytes (omega (arith, len)) ∙ is)

pub same_size : (new end : ℕ) (bytes : List ℕ) → 4 ≤ end → length bytes ≡ end + 1
    → length (take (end - 4) bytes ++ (last_four_hex new ++ drop end bytes)) ≡ end + 1
same_size new end bytes four len =
    omega (
      arith,
      len,
      four,
      length-append (take (end - 4) bytes) (last_four_hex new ++ drop end bytes),
      length-append (last_four_hex new) (drop end bytes),
      length-take-le (end - 4) bytes (omega (arith, len)),
      length-drop end bytes,
    )
