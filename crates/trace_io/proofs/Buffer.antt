-- Lemmas on the buffer before a writer.
use Rattle.std.proofs.Common.{◌≡◌, ℕ, ◌+◌, ◌-◌, ◌≤◌, List, ◌++◌, take, drop, sym, ap, ◌∙◌, arith}
use Rattle.std.proofs.lemmas.List.{take-append-drop, drop-drop, drop-take}
use Rattle.std.proofs.KnownBytes.{append_known-moved}
use Rattle.std.specs.Io.KnownBytes.{Appends, Keeps, append_known}
use Rattle.std.specs.declared.option.Option.{Option}

-- the writer took the first n bytes that were held back
pub passed : (a b : Option (List ℕ)) (xs : List ℕ) (s l n : ℕ) → s ≤ l → Appends a b (take n (take (l - s) (drop s xs)))
    → Keeps (append_known a (drop s (take l xs))) (append_known b (drop (s + n) (take l xs)))
passed a b xs s l n within p =
    let joined : s + (l - s) ≡ l = omega (arith, within) in
    let same : drop s (take l xs) ≡ take (l - s) (drop s xs) = ap (λ m. drop s (take m xs)) (sym joined) ∙ drop-take s (l - s) xs in
    let front = take n (take (l - s) (drop s xs)) in
    append_known-moved a b front (drop (s + n) (take l xs)) (drop s (take l xs)) p
    (same ∙ sym (take-append-drop n (take (l - s) (drop s xs)))
    ∙ ap (λ ys. front ++ ys) (ap (drop n) (sym same) ∙ drop-drop n s (take l xs)))
