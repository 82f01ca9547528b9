-- The encodings in the order in which they are looked for, which gives the same class as that of the table.
use Rattle.std.proofs.Common.{◌≡◌, ℕ, Bool, true, false, List, [], ◌∷◌, ◌++◌, refl, sym, ap, ◌∙◌}
use Rattle.std.specs.Prelude.{bit_and, ◌==◌, ◌&&◌, if◌then◌else◌, not}
use Rattle.std.specs.List.{list_all}
use Rattle.std.proofs.lemmas.Bool.{and_parts, eqb-true, eqb-false, ne_eqb}
use Rattle.std.proofs.lemmas.Nat.{and_assoc, and_comm}
use Rattle.std.proofs.lemmas.List.{append-nil}
use Rattle.a64_branches.specs.declared.class.Class.{Class}
use Rattle.a64_branches.specs.declared.class.Class.TheVariants.{Plain}
use Rattle.a64_branches.specs.Classes.{Row, rows, class_by, class_of, conditional_branches, barriers, branches_to_registers}
use Rattle.a64_branches.specs.Classes.{unconditional_branches, testing_branches, rows_as_tested}

abbrev fits : Row → ℕ → Bool
fits r word = bit_and word r.mask == r.value

-- ---- the order of rows that no word has both of

abbrev are_apart : Row → Row → Bool
are_apart r x = not (bit_and r.value x.mask == bit_and x.value r.mask)

abbrev apart_from_all : List Row → Row → Bool
apart_from_all xs r = list_all (are_apart r) xs

under_both : (word a b : ℕ) → bit_and (bit_and word a) b ≡ bit_and (bit_and word b) a
under_both word a b = and_assoc b word a ∙ ap (bit_and word) (and_comm a b) ∙ sym (and_assoc a word b)

false_of : (b : Bool) → not b ≡ true → b ≡ false
false_of true e = sym e
false_of false e = refl

not_both : (r x : Row) (word : ℕ) → are_apart r x ≡ true → fits r word ≡ true → fits x word ≡ true → ⊥
not_both r x word apart e f =
    let one = eqb-true (bit_and word r.mask) r.value e in
    let other = eqb-true (bit_and word x.mask) x.value f in
    eqb-false (bit_and r.value x.mask) (bit_and x.value r.mask) (false_of _ apart)
    (ap (λ v. bit_and v x.mask) (sym one) ∙ under_both word r.mask x.mask ∙ ap (λ v. bit_and v r.mask) other)

exchange : (a b : Bool) (x y z : Class) → (a ≡ true → b ≡ true → ⊥) → (if a then x else if b then y else z) ≡ (if b then y else if a then x else z)
exchange true true x y z not = absurd (not refl refl)
exchange true false x y z not = refl
exchange false true x y z not = refl
exchange false false x y z not = refl

row_first : (r : Row) (xs ys : List Row) (word : ℕ) → apart_from_all xs r ≡ true
    → class_by (xs ++ r ∷ ys) word ≡ (if fits r word then r.class word else class_by (xs ++ ys) word)
row_first r [] ys word apart = refl
row_first r (x ∷ xs) ys word apart =
    let parts = and_parts (are_apart r x) (apart_from_all xs r) apart in
    ap (λ (c : Class). if fits x word then x.class word else c) (row_first r xs ys word parts.1)
    ∙ exchange (fits x word) (fits r word) (x.class word) (r.class word) (class_by (xs ++ ys) word) (λ e f. not_both r x word parts.0 f e)

rows_first : (rs xs : List Row) (word : ℕ) → list_all (apart_from_all xs) rs ≡ true → class_by (xs ++ rs) word ≡ class_by (rs ++ xs) word
rows_first [] xs word apart = ap (λ (table : List Row). class_by table word) (append-nil xs)
rows_first (r ∷ rs) xs word apart =
    let parts = and_parts (apart_from_all xs r) (list_all (apart_from_all xs) rs) apart in
    row_first r xs rs word parts.0 ∙ ap (λ (c : Class). if fits r word then r.class word else c) (rows_first rs xs word parts.1)

with_before : (before xs ys : List Row) (word : ℕ) → class_by xs word ≡ class_by ys word → class_by (before ++ xs) word ≡ class_by (before ++ ys) word
with_before [] xs ys word same = same
with_before (r ∷ before) xs ys word same = ap (λ (c : Class). if fits r word then r.class word else c) (with_before before xs ys word same)

pub same_class : (word : ℕ) → class_by rows_as_tested word ≡ class_of word
unfolding class_of
same_class word =
    sym (with_before conditional_branches (barriers ++ branches_to_registers ++ unconditional_branches ++ testing_branches)
    (unconditional_branches ++ testing_branches ++ barriers ++ branches_to_registers) word
    (rows_first (unconditional_branches ++ testing_branches) (barriers ++ branches_to_registers) word refl))

-- ---- the words of other groups

abbrev is_within : Row → Bool
is_within r = (bit_and r.mask 0x1c000000 == 0x1c000000) && (bit_and r.value 0x1c000000 == 0x14000000)

fits_none : (r : Row) (word : ℕ) → is_within r ≡ true → (bit_and word 0x1c000000 == 0x14000000) ≡ false → fits r word ≡ false
fits_none r word within other =
    let parts = and_parts (bit_and r.mask 0x1c000000 == 0x1c000000) (bit_and r.value 0x1c000000 == 0x14000000) within in
    let mask = eqb-true (bit_and r.mask 0x1c000000) 0x1c000000 parts.0 in
    let value = eqb-true (bit_and r.value 0x1c000000) 0x14000000 parts.1 in
    ne_eqb (bit_and word r.mask) r.value
    (λ e. eqb-false (bit_and word 0x1c000000) 0x14000000 other
    (sym (ap (bit_and word) mask) ∙ sym (and_assoc 0x1c000000 word r.mask) ∙ ap (λ v. bit_and v 0x1c000000) e ∙ value))

plain_by : (table : List Row) (word : ℕ) → list_all is_within table ≡ true → (bit_and word 0x1c000000 == 0x14000000) ≡ false → class_by table word ≡ Plain
plain_by [] word within other = refl
plain_by (r ∷ rs) word within other =
    let parts = and_parts (is_within r) (list_all is_within rs) within in
    ap (λ (b : Bool). if b then r.class word else class_by rs word) (fits_none r word parts.0 other) ∙ plain_by rs word parts.1 other

pub plain_outside : (word : ℕ) → (bit_and word 0x1c000000 == 0x14000000) ≡ false → class_of word ≡ Plain
unfolding class_of
plain_outside word other = plain_by rows word refl other
