-- The entries that are from an address, among entries in order.
use Rattle.std.proofs.Common.{◌≡◌, ℕ, zero, suc, ◌+◌, ◌<◌, ◌≤◌, List, [], ◌∷◌, ◌++◌, length, map, refl}
use Rattle.std.proofs.Common.{sym, ap, ◌∙◌, arith, true, subst, get_or, take, drop, append_assoc, inl, inr, Some}
use Rattle.std.specs.Prelude.{All, ◌==◌, slice_get}
use Rattle.std.proofs.lemmas.Bool.{ne_eqb}
use Rattle.std.proofs.lemmas.Bool.Decides.{leb_tells, nat_tests}
use Rattle.std.proofs.lemmas.List.{drop_more, get_or-map, length-map}
use Rattle.std.proofs.lemmas.List.Elements.{All-cons, All-head, All-more, All-nil, All-tail, filter-append}
use Rattle.program_image.specs.Part.{IsImage, Part}
use Rattle.program_image.specs.Places.{word_addresses}
use Rattle.program_image.proofs.WordPlaces.{word_at}
use Rattle.program_image.proofs.WordsBelow.{below_rises}
use Rattle.path_counts.specs.declared.targets.Target.{Target}
use Rattle.path_counts.specs.CountLines.{from_entries, to_line, to_lines}
use Rattle.path_counts.specs.Targets.{Rises, pair_lt, pair_of}

-- none is from a lower address, or from a higher one
pub none_from_lower : (entries : List Target) (n a : ℕ) → All (λ e. e.from < a) (take n entries)
    → from_entries a (drop n entries) ≡ from_entries a entries
none_from_lower entries zero a low = refl
none_from_lower [] (suc n) a low = refl
none_from_lower (e ∷ entries) (suc n) a low =
    let lt = All-head (λ (x : Target). x.from < a) e (take n entries) low in
    let rest = none_from_lower entries n a (All-tail (λ (x : Target). x.from < a) e (take n entries) low) in
    rw (ne_eqb e.from a (λ same. omega (arith, same, lt))) rest

none_from_higher : (entries : List Target) (a : ℕ) → All (λ e. a < e.from) entries → from_entries a entries ≡ []
none_from_higher [] a high = refl
none_from_higher (e ∷ entries) a high =
    let lt = All-head (λ (x : Target). a < x.from) e entries high in
    let rest = none_from_higher entries a (All-tail (λ (x : Target). a < x.from) e entries high) in
    rw (ne_eqb e.from a (λ same. omega (arith, same, lt))) rest

from_rises : (a b c d : ℕ) → pair_lt (a, b) (c, d) ≡ true → a ≤ c
from_rises a b c d lt = grind (arith, nat_tests, lt)

-- all that follow one from a higher address are from higher ones
higher_follow : (entries : List Target) (n a : ℕ) → Rises (map pair_of entries) → (n < length entries → (d : Target) → a < (get_or entries n d).from)
    → All (λ e. a < e.from) (drop n entries)
higher_follow [] zero a r high = All-nil (λ (x : Target). a < x.from)
higher_follow [] (suc n) a r high = All-nil (λ (x : Target). a < x.from)
higher_follow (e ∷ entries) zero a r high =
    let first : a < e.from = high (omega arith) e in
    All-cons (λ (x : Target). a < x.from) e entries first
    (λ k d lt.
    let after : pair_lt (pair_of e) (pair_of (get_or entries k d)) ≡ true =
    subst (λ q. pair_lt (pair_of e) q ≡ true) (get_or-map pair_of entries k d (pair_of d) lt)
    (r.0 k (pair_of d) (omega (arith, lt, length-map entries pair_of))) in
    omega (arith, first, from_rises e.from e.to (get_or entries k d).from (get_or entries k d).to after))
higher_follow (e ∷ entries) (suc n) a r high =
    higher_follow entries n a r.1 (λ lt d. high (omega (arith, lt)) d)

-- so no other is left
pub none_left : (entries : List Target) (n a : ℕ) → Rises (map pair_of entries) → (n < length entries → (d : Target) → a < (get_or entries n d).from)
    → to_lines (from_entries a (drop n entries)) ≡ []
none_left entries n a r high = ap to_lines (none_from_higher (drop n entries) a (higher_follow entries n a r high))

lines_append : (xs ys : List Target) → to_lines (xs ++ ys) ≡ to_lines xs ++ to_lines ys
lines_append [] ys = refl
lines_append (x ∷ xs) ys = ap (λ t. to_line x ++ t) (lines_append xs ys) ∙ sym (append_assoc (to_line x) (to_lines xs) (to_lines ys))

-- the lines of what is left, one entry on
pub lines_next : (entries : List Target) (n a : ℕ) (d : Target) → n < length entries
    → to_lines (from_entries a (drop n entries)) ≡ to_lines (from_entries a (get_or entries n d ∷ [])) ++ to_lines (from_entries a (drop (n + 1) entries))
lines_next entries n a d lt =
    let e = get_or entries n d in
    let rest = drop (n + 1) entries in
    ap (λ (l : List Target). to_lines (from_entries a l)) (drop_more entries n d lt)
    ∙ ap to_lines (filter-append (λ (x : Target). x.from == a) (e ∷ []) rest)
    ∙ lines_append (from_entries a (e ∷ [])) (from_entries a rest)

-- one more is from the address or a lower one
pub upto_more : (entries : List Target) (n a : ℕ) (d : Target) → n < length entries → (get_or entries n d).from ≤ a
    → All (λ e. e.from ≤ a) (take n entries) → All (λ e. e.from ≤ a) (take (n + 1) entries)
upto_more entries n a d lt le all = All-more (λ (x : Target). x.from ≤ a) entries n d lt all le

-- the words of an image have ascending addresses
pub rising_addresses : (image : List Part) (j k a b : ℕ) → IsImage image → slice_get (word_addresses image) j ≡ Some a
    → slice_get (word_addresses image) k ≡ Some b → j < k → a < b
rising_addresses image j k a b is at at' lt = elim (leb_tells b a) [
  | inl le ↦
      let first = word_at image j a is at in
      let second = word_at image k b is at' in
      absurd (omega (arith, lt, first.place, second.place, below_rises image b a le.1))
  | inr gt ↦ gt.1
]
