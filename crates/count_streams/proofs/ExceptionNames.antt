-- The name of an exception is that of no other, and has no space.
use Rattle.std.proofs.Common.{◌≡◌, ◌⊎◌, ℕ, ◌==◌, if◌then◌else◌, Bool, true, false, List, [], ◌∷◌, ◌++◌, Option, Some, None, inl, inr, refl, sym, ap, ◌∙◌}
use Rattle.std.proofs.Common.{◌+◌, arith, map, nat_lt, subst}
use Rattle.std.specs.Prelude.{⊤, bytes_eq}
use Rattle.std.specs.Cmp.Lexicographic.{bytes_decides}
use Rattle.std.specs.Int.Digits.{digits_of}
use Rattle.std.proofs.lemmas.Bool.{eqb-true}
use Rattle.std.proofs.lemmas.Bool.Decides.{eqb_tells}
use Rattle.path_text.specs.Lines.{decimal, digit, in_base}
use Rattle.path_text.specs.PathLines.{exception_names, name_among}
use Rattle.count_streams.proofs.HexTexts.{can_all_be_hex, decimal_can, never, same_number}

-- ---- by its name the type

-- the first type with a name
abbrev type_named : List (ℕ × List ℕ) → List ℕ → Option ℕ
type_named [] name = None
type_named (n ∷ names) name = if bytes_eq n.1 name then Some n.0 else type_named names name

abbrev named : List ℕ → Option ℕ
named name = type_named exception_names name

-- each of these is found by its name
abbrev AreFound : List (ℕ × List ℕ) → Type 0
AreFound [] = ⊤
AreFound (n ∷ names) = (named n.1 ≡ Some n.0) × AreFound names

all_found : AreFound exception_names
all_found = (refl, (refl, (refl, (refl, (refl, (refl, (refl, (refl, (refl, (refl, (refl, (refl, tt))))))))))))

-- a name is found, or it is a number
abbrev IsNamed : ℕ → List ℕ → Type 0
IsNamed type name = (named name ≡ Some type) ⊎ (name ≡ decimal type)

here_or_behind : (test : Bool) (type own : ℕ) (name others : List ℕ) → (test ≡ true → own ≡ type) → named name ≡ Some own → IsNamed type others
    → IsNamed type (if test then name else others)
here_or_behind true type own name others same found behind = inl (found ∙ ap (λ (k : ℕ). Some k) (same refl))
here_or_behind false type own name others same found behind = behind

is_named : (names : List (ℕ × List ℕ)) (type : ℕ) → AreFound names → IsNamed type (name_among names type)
is_named [] type found = inr refl
is_named (n ∷ names) type found =
    here_or_behind (n.0 == type) type n.0 n.1 (name_among names type) (λ is. eqb-true n.0 type is) found.0 (is_named names type found.1)

-- ---- no number is a name

-- each of these has a byte that no number has
abbrev HaveOther : List (ℕ × List ℕ) → Type 0
HaveOther [] = ⊤
HaveOther (n ∷ names) = (can_all_be_hex n.1 ≡ false) × HaveOther names

all_have_other : HaveOther exception_names
all_have_other = (refl, (refl, (refl, (refl, (refl, (refl, (refl, (refl, (refl, (refl, (refl, (refl, tt))))))))))))

no_number : (names : List (ℕ × List ℕ)) (n : ℕ) → HaveOther names → type_named names (decimal n) ≡ None
no_number [] n have = refl
no_number (m ∷ names) n have =
    let differs = never (bytes_eq m.1 (decimal n))
    (λ same. let e = sym have.0 ∙ ap can_all_be_hex ((bytes_decides m.1 (decimal n)).0 same) ∙ decimal_can n in absurd cc) in
    ap (λ (t : Bool). if t then Some m.0 else type_named names (decimal n)) differs ∙ no_number names n have.1

-- ---- so each has its own

same_type : (a b : ℕ) (name : List ℕ) → IsNamed a name → IsNamed b name → a ≡ b
same_type a b name (inl x) (inl y) = let e : Some a ≡ Some b = sym x ∙ y in cc
same_type a b name (inl x) (inr y) = let e : Some a ≡ None = sym x ∙ ap named y ∙ no_number exception_names b all_have_other in absurd cc
same_type a b name (inr x) (inl y) = let e : Some b ≡ None = sym y ∙ ap named x ∙ no_number exception_names a all_have_other in absurd cc
same_type a b name (inr x) (inr y) = same_number 10 a b (omega arith) (sym x ∙ y)

pub type_of_name : (a b : ℕ) → name_among exception_names a ≡ name_among exception_names b → a ≡ b
type_of_name a b same =
    same_type a b (name_among exception_names a) (is_named exception_names a all_found)
    (subst (IsNamed b) (sym same) (is_named exception_names b all_found))

-- ---- it has no space

abbrev has_space : List ℕ → Bool
has_space [] = false
has_space (b ∷ text) = if b == 32 then true else has_space text

abbrev HaveNone : List (ℕ × List ℕ) → Type 0
HaveNone [] = ⊤
HaveNone (n ∷ names) = (has_space n.1 ≡ false) × HaveNone names

all_have_none : HaveNone exception_names
all_have_none = (refl, (refl, (refl, (refl, (refl, (refl, (refl, (refl, (refl, (refl, (refl, (refl, tt))))))))))))

passed : (test rest : Bool) → test ≡ false → rest ≡ false → (if test then true else rest) ≡ false
passed true rest differs none = differs
passed false rest differs none = none

no_digit : (d : ℕ) → (digit d == 32) ≡ false
no_digit d = elim (eqb_tells (digit d) 32) [
  | inl same ↦ absurd (above (nat_lt d 10) same.1)
  | inr differ ↦ differ.0
]
  where
    above : (small : Bool) → (if small then 48 + d else 87 + d) ≡ 32 → ⊥
    above true is = omega (arith, is)
    above false is = omega (arith, is)

no_digits : (ds : List ℕ) → has_space (map digit ds) ≡ false
no_digits [] = refl
no_digits (d ∷ ds) = passed (digit d == 32) (has_space (map digit ds)) (no_digit d) (no_digits ds)

either : (test : Bool) (x y : List ℕ) → has_space x ≡ false → has_space y ≡ false → has_space (if test then x else y) ≡ false
either true x y none also = none
either false x y none also = also

no_space_in_number : (base n : ℕ) → has_space (in_base base n) ≡ false
unfolding in_base
no_space_in_number base n = either (n == 0) (48 ∷ []) (map digit (digits_of base n)) refl (no_digits (digits_of base n))

no_space : (names : List (ℕ × List ℕ)) (type : ℕ) → HaveNone names → has_space (name_among names type) ≡ false
no_space [] type none = no_space_in_number 10 type
no_space (n ∷ names) type none = either (n.0 == type) n.1 (name_among names type) none.0 (no_space names type none.1)

-- two texts without a space, each before one
before_space : (xs ys rest others : List ℕ) → has_space xs ≡ false → has_space ys ≡ false → xs ++ 32 ∷ rest ≡ ys ++ 32 ∷ others → xs ≡ ys
before_space [] [] rest others none also e = refl
before_space [] (y ∷ ys) rest others none also e = let here : y ≡ 32 = cc in let at = ap (λ (b : ℕ). if b == 32 then true else has_space ys) here in absurd cc
before_space (x ∷ xs) [] rest others none also e = let here : x ≡ 32 = cc in let at = ap (λ (b : ℕ). if b == 32 then true else has_space xs) here in absurd cc
before_space (x ∷ xs) (y ∷ ys) rest others none also e =
    let here : x ≡ y = cc in
    let behind : xs ++ 32 ∷ rest ≡ ys ++ 32 ∷ others = cc in
    ap (λ (b : ℕ). b ∷ xs) here
    ∙ ap (λ (l : List ℕ). y ∷ l) (before_space xs ys rest others (later (x == 32) (has_space xs) none) (later (y == 32) (has_space ys) also) behind)
  where
    later : (test rest : Bool) → (if test then true else rest) ≡ false → rest ≡ false
    later true rest none = absurd cc
    later false rest none = none

pub type_before_space : (a b : ℕ) (rest others : List ℕ)
    → name_among exception_names a ++ 32 ∷ rest ≡ name_among exception_names b ++ 32 ∷ others → a ≡ b
type_before_space a b rest others same =
    type_of_name a b
    (before_space (name_among exception_names a) (name_among exception_names b) rest others (no_space exception_names a all_have_none)
    (no_space exception_names b all_have_none) same)
