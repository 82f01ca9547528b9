-- A word that is a branch to a register has that class: it is neither plain nor a conditional branch.
use Rattle.std.proofs.Common.{◌≡◌, ℕ, ◌+◌, Bool, true, false, List, [], ◌∷◌, ◌++◌, take, drop, Option, Some, None, refl, sym, ap, ◌∙◌}
use Rattle.std.specs.Prelude.{bit_and, ◌==◌, ◌||◌, if◌then◌else◌, not}
use Rattle.std.specs.List.{list_all}
use Rattle.std.specs.Option.{option_map, option_map_or}
use Rattle.std.proofs.lemmas.Bool.{and_parts, eqb-true, eqb-false, false_from_ne_true}
use Rattle.std.proofs.lemmas.Nat.{and_assoc, and_comm}
use Rattle.a64_branches.specs.Classes.{Row, class_by, class_of, row, rows}
use Rattle.a64_branches.specs.declared.class.Class.{Class}
use Rattle.a64_branches.specs.declared.class.Class.TheVariants.{Ind, Plain}
use Rattle.path_counts.specs.Targets.{is_pointer_branch}
use Rattle.path_walker.specs.Walk.{is_cond, is_to_register}
use Rattle.program_image.specs.Blocks.{class_at}
use Rattle.program_image.specs.Part.{word_of}
use Rattle.program_image.specs.declared.image.Image.{Image}
use Rattle.count_streams.specs.Pairs.{branch_at}

abbrev fits : Row → ℕ → Bool
fits r word = bit_and word r.mask == r.value

-- no word has both rows
abbrev are_apart : Row → Row → Bool
are_apart r x = not (bit_and r.value x.mask == bit_and x.value r.mask)

under_both : (word a b : ℕ) → bit_and (bit_and word a) b ≡ bit_and (bit_and word b) a
under_both word a b = and_assoc b word a ∙ ap (bit_and word) (and_comm a b) ∙ sym (and_assoc a word b)

false_of : (b : Bool) → not b ≡ true → b ≡ false
false_of true e = sym e
false_of false e = refl

not_both : (r x : Row) (word : ℕ) → are_apart r x ≡ true → fits r word ≡ true → fits x word ≡ true → ⊥
not_both r x word apart e f =
    let one = eqb-true (bit_and word r.mask) r.value e in
    let other = eqb-true (bit_and word x.mask) x.value f in
    eqb-false (bit_and r.value x.mask) (bit_and x.value r.mask) (false_of _ apart)
    (ap (λ v. bit_and v x.mask) (sym one) ∙ under_both word r.mask x.mask ∙ ap (λ v. bit_and v r.mask) other)

passed_over : (b : Bool) (x y z : Class) → (b ≡ true → ⊥) → y ≡ z → (if b then x else y) ≡ z
passed_over true x y z not same = absurd (not refl)
passed_over false x y z not same = same

-- the class of a row that a word has, which has none of those before it
class_there : (before : List Row) (r : Row) (after : List Row) (word : ℕ) → list_all (are_apart r) before ≡ true → fits r word ≡ true
    → class_by (before ++ r ∷ after) word ≡ r.class word
class_there [] r after word apart fit = ap (λ (b : Bool). if b then r.class word else class_by after word) fit
class_there (x ∷ before) r after word apart fit =
    let parts = and_parts (are_apart r x) (list_all (are_apart r) before) apart in
    passed_over (fits x word) (x.class word) (class_by (before ++ r ∷ after) word) (r.class word) (not_both r x word parts.0 fit)
    (class_there before r after word parts.1 fit)

any_of_six : (a b c d e f : Bool) (P : Type 0) → (a ≡ true → P) → (b ≡ true → P) → (c ≡ true → P) → (d ≡ true → P) → (e ≡ true → P)
    → (f ≡ true → P) → a || (b || (c || (d || (e || (f || false))))) ≡ true → P
any_of_six true b c d e f P p q r s t u is = p refl
any_of_six false true c d e f P p q r s t u is = q refl
any_of_six false false true d e f P p q r s t u is = r refl
any_of_six false false false true e f P p q r s t u is = s refl
any_of_six false false false false true f P p q r s t u is = t refl
any_of_six false false false false false true P p q r s t u is = u refl
any_of_six false false false false false false P p q r s t u is = u is

-- the class of the n-th row of the table, where no row before it has words of it
class_of_row : (n : ℕ) (r : Row) (word : ℕ) → take n rows ++ r ∷ drop (n + 1) rows ≡ rows → list_all (are_apart r) (take n rows) ≡ true
    → fits r word ≡ true → class_of word ≡ r.class word
unfolding class_of
class_of_row n r word place apart fit =
    ap (λ (table : List Row). class_by table word) (sym place) ∙ class_there (take n rows) r (drop (n + 1) rows) word apart fit

pointer_class : (word : ℕ) → is_pointer_branch word ≡ true → (link : Bool) × (class_of word ≡ Ind link)
pointer_class word is =
    let to : Bool → ℕ → Class = λ link word. Ind link in
    any_of_six (bit_and word 0xfffffc1f == 0xd61f0000) (bit_and word 0xfffffc1f == 0xd63f0000) (bit_and word 0xfffff81f == 0xd61f081f)
    (bit_and word 0xfffff81f == 0xd63f081f) (bit_and word 0xfffff800 == 0xd71f0800) (bit_and word 0xfffff800 == 0xd73f0800)
    ((link : Bool) × (class_of word ≡ Ind link))
    (λ fit. (false, class_of_row 3 (row 0xfffffc1f 0xd61f0000 (to false)) word refl refl fit))
    (λ fit. (true, class_of_row 4 (row 0xfffffc1f 0xd63f0000 (to true)) word refl refl fit))
    (λ fit. (false, class_of_row 7 (row 0xfffff81f 0xd61f081f (to false)) word refl refl fit))
    (λ fit. (true, class_of_row 8 (row 0xfffff81f 0xd63f081f (to true)) word refl refl fit))
    (λ fit. (false, class_of_row 11 (row 0xfffff800 0xd71f0800 (to false)) word refl refl fit))
    (λ fit. (true, class_of_row 12 (row 0xfffff800 0xd73f0800 (to true)) word refl refl fit)) is

-- ---- the words of an image

none_by : (word : Option ℕ) (address : ℕ) → ((link : Bool) → option_map class_of word ≡ Some (Ind link) → ⊥)
    → (if option_map_or is_pointer_branch word false then Some address else None) ≡ None
none_by None address not = refl
none_by (Some w) address not =
    let none = false_from_ne_true (is_pointer_branch w) (λ is. let (link, class) = pointer_class w is in not link (ap Some class)) in
    ap (λ (b : Bool). if b then Some address else None) none

pub plain_is_none : (image : Image) (address : ℕ) → class_at image address ≡ Some Plain → branch_at image address ≡ None
plain_is_none image address plain = none_by (word_of image address) address (λ link class. let e : Some Plain ≡ Some (Ind link) = sym plain ∙ class in cc)

pub other_is_none : (image : Image) (address : ℕ) → is_to_register (class_at image address) ≡ false → branch_at image address ≡ None
other_is_none image address other =
    none_by (word_of image address) address (λ link class. let e : true ≡ false = sym (ap is_to_register class) ∙ other in cc)

pub cond_is_none : (image : Image) (address : ℕ) → is_cond (class_at image address) ≡ true → branch_at image address ≡ None
cond_is_none image address cond =
    none_by (word_of image address) address (λ link class. let e : true ≡ false = sym cond ∙ ap is_cond class in cc)
