-- How many of all items pass a test is the sum of how many of each source do.
use Rattle.std.proofs.Common.{◌≡◌, ℕ, zero, suc, ◌+◌, ◌<◌, ◌≤◌, ◌==◌, if◌then◌else◌, Bool, true, false, List, [], ◌∷◌, ◌++◌, inl, inr}
use Rattle.std.proofs.Common.{refl, sym, ap, subst, ◌∙◌, arith}
use Rattle.std.specs.Prelude.{⊤, sum_by}
use Rattle.std.specs.List.{range_with_len}
use Rattle.std.proofs.lemmas.Bool.Decides.{eqb_tells}
use Rattle.std.proofs.lemmas.List.Sums.{sum-map, sum_by-cons}
use Rattle.capture_streams.specs.Texts.{AddedFrom, AddsIf, Listing, by_sizes, is_source, sources}
use Rattle.etm_types.specs.Id.{IsId}
use Rattle.etm_types.specs.declared.item.Item.{Item}
use Rattle.path_counts.specs.Counts.{times}
use Rattle.path_counts.specs.Levels.{one_if}
use Rattle.stream_decoder.specs.Follows.{items_under}
use Rattle.capture_streams.proofs.Standing.{source_is}
use Rattle.count_streams.specs.CountLaws.{CountsAreSums}
use Rattle.count_streams.specs.Pairs.{items_of_stream}
use Rattle.count_streams.specs.Counted.{counted, items_alone}

-- ---- sums over IDs

sum_of_zeros : (ids : List ℕ) → sum_by (λ (id : ℕ). 0) ids ≡ 0
sum_of_zeros [] = refl
sum_of_zeros (id ∷ ids) = let parts = sum_by-cons (λ (i : ℕ). 0) id ids in let rest = sum_of_zeros ids in omega (arith, parts, rest)

sum_of_both : (f g h : ℕ → ℕ) → ((id : ℕ) → f id ≡ g id + h id) → (ids : List ℕ) → sum_by f ids ≡ sum_by g ids + sum_by h ids
sum_of_both f g h both [] = refl
sum_of_both f g h both (id ∷ ids) =
    let rest = sum_of_both f g h both ids in
    omega (arith, rest, both id, sum_by-cons f id ids, sum_by-cons g id ids, sum_by-cons h id ids)

-- a number that stands at one ID
abbrev at_one : ℕ → ℕ → ℕ → ℕ
at_one place n id = if place == id then n else 0

here_or_not : (n : ℕ) (test here : Bool) → test ≡ here → (if test then n else 0) ≡ (if here then n else 0)
here_or_not n test here same = ap (λ (t : Bool). if t then n else 0) same

behind_it : (place n from count : ℕ) → place < from → sum_by (at_one place n) (range_with_len from count) ≡ 0
behind_it place n from zero before = refl
behind_it place n from (suc count) before = elim (eqb_tells place from) [
  | inl same ↦ absurd (omega (arith, same.1, before))
  | inr differ ↦
      let first = here_or_not n (place == from) false differ.0 in
      let rest = behind_it place n (from + 1) count (omega (arith, before)) in
      omega (arith, first, rest, sum_by-cons (at_one place n) from (range_with_len (from + 1) count))
]

round_it : (place n from count : ℕ) → from ≤ place → place < from + count → sum_by (at_one place n) (range_with_len from count) ≡ n
round_it place n from zero low high = absurd (omega (arith, low, high))
round_it place n from (suc count) low high = elim (eqb_tells place from) [
  | inl same ↦
      let first = here_or_not n (place == from) true same.0 in
      let rest = behind_it place n (from + 1) count (omega (arith, same.1)) in
      omega (arith, first, rest, sum_by-cons (at_one place n) from (range_with_len (from + 1) count))
  | inr differ ↦
      let first = here_or_not n (place == from) false differ.0 in
      let rest = round_it place n (from + 1) count (omega (arith, low, differ.1)) (omega (arith, high)) in
      omega (arith, first, rest, sum_by-cons (at_one place n) from (range_with_len (from + 1) count))
]

-- ---- items of sources alone

abbrev AreOfSources : List (ℕ × Item) → Type 0
AreOfSources [] = ⊤
AreOfSources (i ∷ items) = IsId i.0 × AreOfSources items

under_source : (id : ℕ) → IsId id → (first : List Item) (rest : List (ℕ × Item)) → AreOfSources rest → AreOfSources (items_under id first ++ rest)
under_source id is [] rest are = are
under_source id is (i ∷ first) rest are = (is, under_source id is first rest are)

module _ (g : Listing) where
  one_of_sources : (before : List (ℕ × ℕ)) (pair : ℕ × ℕ) (first : List Item) (rest : List (ℕ × Item)) (source : Bool) → is_source pair.0 ≡ source
      → AddsIf source g before pair first → AreOfSources rest → AreOfSources (items_under pair.0 first ++ rest)
  one_of_sources before pair first rest true is adds are = under_source pair.0 (source_is pair.0 is) first rest are
  one_of_sources before pair first rest false is none are = subst (λ (l : List Item). AreOfSources (items_under pair.0 l ++ rest)) (sym none) are

  all_of_sources : (before pairs : List (ℕ × ℕ)) (items : List (ℕ × Item)) → AddedFrom g before pairs items → AreOfSources items
  all_of_sources before [] items none = subst AreOfSources (sym none) tt
  all_of_sources before (pair ∷ pairs) items (first, rest, adds, later, is) =
      subst AreOfSources (sym is)
      (one_of_sources before pair first rest (is_source pair.0) refl adds (all_of_sources (before ++ pair ∷ []) pairs rest later))

-- so none is of another ID
none_of_other : (id : ℕ) → (IsId id → ⊥) → (items : List (ℕ × Item)) → AreOfSources items → items_of_stream id items ≡ []
none_of_other id other [] are = refl
none_of_other id other (i ∷ items) are = elim (eqb_tells i.0 id) [
  | inl same ↦ absurd (other (subst IsId same.1 are.0))
  | inr differ ↦
      let more = items_of_stream id items in
      ap (λ (t : Bool). if t then i.1 ∷ more else more) differ.0 ∙ none_of_other id other items are.1
]

pub others_are_not_counted : (g : Listing) (pairs : List (ℕ × ℕ)) (items : List (ℕ × Item)) → AddedFrom g [] pairs items → (id : ℕ) → (IsId id → ⊥)
    → items_of_stream id items ≡ []
others_are_not_counted g pairs items added id other = none_of_other id other items (all_of_sources g [] pairs items added)

-- ---- the counts of each

module _ (test : Item → Bool) where
  abbrev in_stream : List (ℕ × Item) → ℕ → ℕ
  in_stream items id = times test (items_of_stream id items)

  with_first : (own : Bool) (i : Item) (rest : List Item)
      → times test (if own then i ∷ rest else rest) ≡ (if own then one_if (test i) else 0) + times test rest
  with_first true i rest = refl
  with_first false i rest = omega arith

  -- over a range of IDs that has all sources
  module _ (from count : ℕ) (within : (id : ℕ) → IsId id → (from ≤ id) × (id < from + count)) where
    abbrev ids : List ℕ
    ids = range_with_len from count

    sum_in_range : (items : List (ℕ × Item)) → AreOfSources items → times test (items_alone items) ≡ sum_by (in_stream items) ids
    sum_in_range [] are = sym (sum_of_zeros ids)
    sum_in_range (i ∷ items) are =
        let n = one_if (test i.1) in
        let place = within i.0 are.0 in
        let both = sum_of_both (in_stream (i ∷ items)) (at_one i.0 n) (in_stream items)
        (λ id. with_first (i.0 == id) i.1 (items_of_stream id items)) ids in
        ap (λ (m : ℕ). n + m) (sum_in_range items are.1)
        ∙ ap (λ (m : ℕ). m + sum_by (in_stream items) ids) (sym (round_it i.0 n from count place.0 place.1)) ∙ sym both

  sum_of_streams : (items : List (ℕ × Item)) → AreOfSources items → times test (items_alone items) ≡ sum_by (in_stream items) sources
  unfolding sources
  sum_of_streams items are = sum_in_range 1 111 (λ id is. (omega (arith, is.0), omega (arith, is.1))) items are

pub counts_are_sums : CountsAreSums
counts_are_sums image t pairs items added test =
    sum_of_streams test items (all_of_sources (by_sizes (counted image) t) [] pairs items added)
    ∙ sym (sum-map (λ (id : ℕ). times test (items_of_stream id items)) sources)
