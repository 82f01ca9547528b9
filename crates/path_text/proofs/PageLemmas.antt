-- Lines that are put together from a head, a digit and an end.
use Rattle.std.proofs.Common.{◌≡◌, inl, inr, ℕ, zero, suc, ◌+◌, ◌-◌, ◌*◌, ◌/◌, ◌%◌, ◌^◌, ◌<◌, ◌≤◌}
use Rattle.std.proofs.Common.{List, [], ◌∷◌, ◌++◌, length, take, drop, slice_index_or, sym, ap, ◌∙◌, arith, append_assoc, append-nil}
use Rattle.std.specs.Prelude.{map}
use Rattle.std.specs.Int.Digits.{digits_of}
use Rattle.std.proofs.Math.Nat.{eq-or-lt_of_le, mod-eq_of_lt}
use Rattle.std.proofs.Math.Seq.{drop-cons, drop-length, take-append-add}
use Rattle.std.proofs.lemmas.List.{length-append, length-take-le, length-drop, take_at, drop_at, take-take, drop-take, take-append-le, drop-append-le}
use Rattle.path_text.specs.Lines.{digit, hex, last_four_hex, line_start, address_line}
use Rattle.path_text.specs.PageLines.{HoldsEnds, line_end, line_head, upper_digits}
use Rattle.path_text.specs.PathLines.{instruction_lines}
use Rattle.path_text.proofs.DigitLemmas.{few_digits}
use Rattle.path_text.proofs.HexLemmas.{hex_four}
use Rattle.path_text.proofs.LineLemmas.{instruction_lines-add}

-- ---- the table of ends

-- an end behind others changes none of them
end_kept : (ends rest : List ℕ) (k place : ℕ) → place < k → 4 * k ≤ length ends
    → take 4 (drop (4 * place) (take (4 * k) ends ++ rest)) ≡ take 4 (drop (4 * place) ends)
end_kept ends rest k place before within =
    let more = 4 * k - 4 * place in
    let all : 4 * k ≡ 4 * place + more = omega (arith, before) in
    let size = length-take-le (4 * k) ends within in
    ap (take 4) (drop-append-le (4 * place) (take (4 * k) ends) rest (omega (arith, before, size)))
    ∙ take-append-le 4 (drop (4 * place) (take (4 * k) ends)) rest
    (omega (arith, before, size, length-drop (4 * place) (take (4 * k) ends)))
    ∙ ap (λ n. take 4 (drop (4 * place) (take n ends))) all
    ∙ ap (take 4) (drop-take (4 * place) more ends)
    ∙ take-take 4 more (drop (4 * place) ends) (omega (arith, before))

pub holds_more : (ends : List ℕ) (k : ℕ) → 4 * k + 4 ≤ length ends → HoldsEnds ends k
    → HoldsEnds (take (4 * k) ends ++ (line_end k ++ drop (4 * k + 4) ends)) (k + 1)
holds_more ends k within held =
    let rest = line_end k ++ drop (4 * k + 4) ends in
    record {
      each = λ place before. elim (eq-or-lt_of_le {n = place} {m = k} (omega (arith, before))) [
        | inl is ↦ ap (λ n. take 4 (drop (4 * n) (take (4 * k) ends ++ rest))) is
            ∙ ap (take 4) (drop_at (take (4 * k) ends) rest (4 * k) (length-take-le (4 * k) ends (omega (arith, within))))
            ∙ ap line_end (sym is)
        | inr below ↦ end_kept ends rest k place below (omega (arith, within)) ∙ held.each place below
      ];
    }

-- ---- bytes that are put

-- what counts of a head that was put
pub front_of_head : (at len : ℕ) (old new head : List ℕ) → at ≤ length old → len ≤ length head → len ≤ 16 → take (at + 16) new ≡ take at old ++ head
    → take (at + len) new ≡ take at old ++ take len head
front_of_head at len old new head within few short put =
    let front = take at old in
    let place : at + len ≡ length front + len = omega (arith, length-take-le at old within) in
    sym (take-take (at + len) (at + 16) new (omega (arith, short))) ∙ ap (take (at + len)) put
    ∙ ap (λ n. take n (front ++ head)) place ∙ take-append-add front head len

-- so many elements from a place on, one by one
abbrev pub elements_from : ℕ → ℕ → List ℕ → List ℕ
elements_from at zero xs = []
elements_from at (suc n) xs = slice_index_or xs at 0 ∷ elements_from (at + 1) n xs

are_all : (at n : ℕ) (xs : List ℕ) → length xs ≡ at + n → elements_from at n xs ≡ drop at xs
are_all at zero xs long = let all : at ≡ length xs = omega (arith, long) in sym (ap (λ k. drop k xs) all ∙ drop-length xs)
are_all at (suc n) xs long =
    let next : at + 1 ≡ suc at = omega arith in
    ap (λ t. slice_index_or xs at 0 ∷ t) (are_all (at + 1) n xs (omega (arith, long)) ∙ ap (λ k. drop k xs) next)
    ∙ sym (drop-cons xs at 0 (omega (arith, long)))

pub sixteen_elements : (xs : List ℕ) → length xs ≡ 16 → elements_from 0 16 xs ≡ xs
sixteen_elements xs long = are_all 0 16 xs long

-- a head that was put by fours
pub put_by_fours : (at : ℕ) (old one two three four a b c d : List ℕ) → take (at + 4) one ≡ take at old ++ a
    → take (at + 4 + 4) two ≡ take (at + 4) one ++ b → take (at + 8 + 4) three ≡ take (at + 8) two ++ c
    → take (at + 12 + 4) four ≡ take (at + 12) three ++ d → take (at + 16) four ≡ take at old ++ (a ++ (b ++ (c ++ d)))
put_by_fours at old one two three four a b c d first second third fourth =
    let eight : at + 4 + 4 ≡ at + 8 = omega arith in
    let twelve : at + 8 + 4 ≡ at + 12 = omega arith in
    let sixteen : at + 16 ≡ at + 12 + 4 = omega arith in
    ap (λ n. take n four) sixteen ∙ fourth
    ∙ ap (λ t. t ++ d) (ap (λ n. take n three) (sym twelve) ∙ third ∙ ap (λ t. t ++ c) (ap (λ n. take n two) (sym eight) ∙ second ∙ ap (λ t. t ++ b) first))
    ∙ append_assoc ((take at old ++ a) ++ b) c d ∙ append_assoc (take at old ++ a) b (c ++ d) ∙ append_assoc (take at old) a (b ++ (c ++ d))

-- ---- the digits of a line

pub few_upper : (address : ℕ) → address < 2 ^ 64 → length (hex (address / 65536)) ≤ 12
few_upper address fits = few_digits 16 12 (address / 65536) (omega arith) (omega arith) (omega arith)

-- the digits of a page are put behind the start of a head
pub head_put : (head digits : List ℕ) (end : ℕ) → 3 ≤ length head → end ≡ 3 + length digits
    → take end (take 3 head ++ (digits ++ drop end head)) ≡ take 3 head ++ digits
head_put head digits end some place =
    let start = take 3 head in
    ap (take end) (sym (append_assoc start digits (drop end head)))
    ∙ take_at (start ++ digits) (drop end head) end (omega (arith, place, length-append start digits, length-take-le 3 head some))

-- a line has three parts
pub line_of_parts : (id address : ℕ) → 4096 ≤ address → address % 4 ≡ 0
    → line_head id address ++ (digit (address / 4096 % 16) ∷ line_end (address / 4 % 1024)) ≡ address_line id address
line_of_parts id address above whole =
    let place = address / 4 % 1024 in let upper = upper_digits address in let fourth = digit (address / 4096 % 16) in
    let third : place / 64 ≡ address / 256 % 16 = omega arith in
    let second : place / 4 % 16 ≡ address / 16 % 16 = omega arith in
    let last : place % 4 * 4 ≡ address % 16 = omega (arith, whole) in
    ap (λ d. line_start id ++ (upper ++ (fourth ∷ digit d ∷ digit (place / 4 % 16) ∷ digit (place % 4 * 4) ∷ 10 ∷ []))) third
    ∙ ap (λ d. line_start id ++ (upper ++ (fourth ∷ digit (address / 256 % 16) ∷ digit d ∷ digit (place % 4 * 4) ∷ 10 ∷ []))) second
    ∙ ap (λ d. line_start id ++ (upper ++ (fourth ∷ digit (address / 256 % 16) ∷ digit (address / 16 % 16) ∷ digit d ∷ 10 ∷ []))) last
    ∙ ap (λ t. line_start id ++ t) (sym (append_assoc upper (last_four_hex address) (10 ∷ [])))
    ∙ ap (λ t. line_start id ++ (t ++ 10 ∷ [])) (sym (hex_four address above))

-- one more line
instruction_lines-next : (id start done : ℕ) → start + 4 * done < 2 ^ 64
    → instruction_lines id start done ++ address_line id (start + 4 * done) ≡ instruction_lines id start (done + 1)
instruction_lines-next id start zero fits =
    let same : start + 4 * zero ≡ start = omega arith in
    ap (address_line id) same ∙ sym (append-nil (address_line id start))
instruction_lines-next id start (suc k) fits =
    let next : (start + suc k * 4) % 2 ^ 64 ≡ start + 4 * suc k = mod-eq_of_lt (omega (arith, fits)) ∙ omega arith in
    ap (λ t. instruction_lines id start (suc k) ++ t) (ap (address_line id) (sym next) ∙ sym (append-nil (address_line id ((start + suc k * 4) % 2 ^ 64))))
    ∙ instruction_lines-add id start k 1

-- the line of a place in the same 4 KiB, behind the lines before it
pub line_behind : (id start done place : ℕ) → 4096 ≤ start → start % 4 ≡ 0 → start < 2 ^ 64 → start % 4096 + 4 * done < 4096
    → place ≡ start / 4 % 1024 + done
    → instruction_lines id start done ++ (line_head id start ++ (digit (start / 4096 % 16) ∷ line_end place)) ≡ instruction_lines id start (done + 1)
line_behind id start done place above whole fits near is =
    let address = start + 4 * done in
    let four : address / 4096 ≡ start / 4096 = omega (arith, near) in
    let part : (n : ℕ) → n / 65536 ≡ n / 4096 / 16 = λ n. omega arith in
    let page : address / 65536 ≡ start / 65536 = part address ∙ ap (λ n. n / 16) four ∙ sym (part start) in
    let there : address / 4 % 1024 ≡ place = omega (arith, near, is) in
    let aligned : address % 4 ≡ 0 = omega (arith, whole) in
    ap (λ n. instruction_lines id start done ++ (line_head id start ++ (digit (start / 4096 % 16) ∷ line_end n))) (sym there)
    ∙ ap (λ n. instruction_lines id start done ++ (line_head id start ++ (digit (n % 16) ∷ line_end (address / 4 % 1024)))) (sym four)
    ∙ ap (λ n. instruction_lines id start done ++ ((line_start id ++ map digit (digits_of 16 n)) ++ (digit (address / 4096 % 16) ∷ line_end (address / 4 % 1024)))) (sym page)
    ∙ ap (λ t. instruction_lines id start done ++ t) (line_of_parts id address (omega (arith, above)) aligned)
    ∙ instruction_lines-next id start done (omega (arith, near, fits))
