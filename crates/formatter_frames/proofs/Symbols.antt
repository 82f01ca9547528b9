-- Symbols one after the other.
use Rattle.std.proofs.Common.{◌≡◌, ℕ, List, [], ◌∷◌, ◌++◌, refl, ap, sym, ◌∙◌, append_assoc, inl, inr}
use Rattle.std.specs.Prelude.{Option, Some, None, ◌==◌}
use Rattle.std.proofs.lemmas.Bool.{eqb-true, cases_Bool}
use Rattle.formatter_frames.specs.declared.symbol.Symbol.{Symbol}
use Rattle.formatter_frames.specs.declared.symbol.Symbol.TheVariants.{NewId, Data}
use Rattle.formatter_frames.specs.Symbols.{pairs_of, id_after, told, symbols_of}

pub pairs_of-append : (current : Option ℕ) (xs ys : List Symbol) → pairs_of current (xs ++ ys) ≡ pairs_of current xs ++ pairs_of (id_after current xs) ys
pairs_of-append current [] ys = refl
pairs_of-append current (NewId id ∷ xs) ys = pairs_of-append (Some id) xs ys
pairs_of-append None (Data byte ∷ xs) ys = pairs_of-append None xs ys
pairs_of-append (Some id) (Data byte ∷ xs) ys = ap (λ pairs. (id, byte) ∷ pairs) (pairs_of-append (Some id) xs ys)

pub id_after-append : (current : Option ℕ) (xs ys : List Symbol) → id_after current (xs ++ ys) ≡ id_after (id_after current xs) ys
id_after-append current [] ys = refl
id_after-append current (NewId id ∷ xs) ys = id_after-append (Some id) xs ys
id_after-append current (Data byte ∷ xs) ys = id_after-append current xs ys

-- one symbol taken: its pairs join those before it
pub one_taken : (all taken new : List (ℕ × ℕ)) (current next : Option ℕ) (symbol : Symbol) (rest : List Symbol)
    → all ≡ taken ++ pairs_of current (symbol ∷ rest) → new ≡ taken ++ pairs_of current (symbol ∷ []) → next ≡ id_after current (symbol ∷ [])
    → all ≡ new ++ pairs_of next rest
one_taken all taken new current next symbol rest whole is after =
    rw (is, after) (whole ∙ ap (λ pairs. taken ++ pairs) (pairs_of-append current (symbol ∷ []) rest)
    ∙ sym (append_assoc taken (pairs_of current (symbol ∷ [])) (pairs_of (id_after current (symbol ∷ [])) rest)))

pub one_passed : (last current next : Option ℕ) (symbol : Symbol) (rest : List Symbol) → last ≡ id_after current (symbol ∷ rest)
    → next ≡ id_after current (symbol ∷ []) → last ≡ id_after next rest
one_passed last current next symbol rest whole after = rw after (whole ∙ id_after-append current (symbol ∷ []) rest)

-- an ID holds once it is told
id_told : (current : Option ℕ) (id byte : ℕ) (rest : List Symbol) → id_after current (told current id ++ Data byte ∷ rest) ≡ id_after (Some id) rest
id_told None id byte rest = refl
id_told (Some current) id byte rest = elim (cases_Bool (current == id)) [
  | inl same ↦ rw same (ap (λ n. id_after (Some n) rest) (eqb-true current id same))
  | inr other ↦ rw other refl
]

-- the symbols of one pair more
pub symbols_of-push : (current : Option ℕ) (pairs : List (ℕ × ℕ)) (pair : ℕ × ℕ)
    → symbols_of current (pairs ++ pair ∷ []) ≡ symbols_of current pairs ++ (told (id_after current (symbols_of current pairs)) pair.0 ++ Data pair.1 ∷ [])
symbols_of-push current [] pair = refl
symbols_of-push current (first ∷ pairs) pair =
    ap (λ xs. told current first.0 ++ Data first.1 ∷ xs) (symbols_of-push (Some first.0) pairs pair)
    ∙ rw (id_told current first.0 first.1 (symbols_of (Some first.0) pairs))
    (sym (append_assoc (told current first.0) (Data first.1 ∷ symbols_of (Some first.0) pairs)
    (told (id_after (Some first.0) (symbols_of (Some first.0) pairs)) pair.0 ++ Data pair.1 ∷ [])))

pub id_after-push : (pairs : List (ℕ × ℕ)) (pair : ℕ × ℕ) → id_after None (symbols_of None (pairs ++ pair ∷ [])) ≡ Some pair.0
id_after-push pairs pair =
    ap (id_after None) (symbols_of-push None pairs pair)
    ∙ id_after-append None (symbols_of None pairs) (told (id_after None (symbols_of None pairs)) pair.0 ++ Data pair.1 ∷ [])
    ∙ id_told (id_after None (symbols_of None pairs)) pair.0 pair.1 []
