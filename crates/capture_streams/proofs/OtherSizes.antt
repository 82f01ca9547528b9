-- The sizes of IDs that have no byte change nothing of what is printed.
use Rattle.std.proofs.Common.{◌≡◌, ℕ, zero, suc, ◌+◌, ◌<◌, ◌≤◌, ◌==◌, if◌then◌else◌, Bool, true, false, List, [], ◌∷◌, ◌++◌, map, None}
use Rattle.std.proofs.Common.{refl, sym, ap, subst, ◌∙◌, arith}
use Rattle.std.specs.List.{range_with_len}
use Rattle.std.proofs.lemmas.Bool.{eq-eqb}
use Rattle.capture_streams.specs.Texts.{AddedFrom, AddsIf, BodyFrom, EndsOf, GainsIf, IsText, Listing, Printed, StreamEnds, by_sizes, is_source, of}
use Rattle.capture_streams.specs.Texts.{sources}
use Rattle.etm_types.specs.Id.{IsId}
use Rattle.etm_types.specs.Settings.{Sizes}
use Rattle.capture_streams.proofs.Standing.{source_is}
use Rattle.etm_types.specs.declared.item.Item.{Item}

-- the first of pairs is one of its own stream
has_first : (pair : ℕ × ℕ) (pairs : List (ℕ × ℕ)) → of pair.0 (pair ∷ pairs) ≡ [] → ⊥
has_first pair pairs none =
    let own : pair.1 ∷ of pair.0 pairs ≡ [] =
    ap (λ (t : Bool). if t then pair.1 ∷ of pair.0 pairs else of pair.0 pairs) (sym (eq-eqb pair.0 pair.0 refl)) ∙ none in cc

none_later : (same : Bool) (byte : ℕ) (rest : List ℕ) → (if same then byte ∷ rest else rest) ≡ [] → rest ≡ []
none_later true byte rest none = absurd cc
none_later false byte rest none = none

module _ (g : Sizes → Listing) (t u : ℕ → Sizes) where
  -- the sizes of each source that has a byte are the same
  abbrev pub AreAlike : List (ℕ × ℕ) → Type 0
  AreAlike pairs = (id : ℕ) → IsId id → (of id pairs ≡ [] → ⊥) → t id ≡ u id

  gains_alike : (source : Bool) (before : List (ℕ × ℕ)) (pair : ℕ × ℕ) (lines : List (List ℕ)) → (source ≡ true → t pair.0 ≡ u pair.0)
      → GainsIf source (by_sizes g t) before pair lines → GainsIf source (by_sizes g u) before pair lines
  gains_alike true before pair lines same gains = subst (λ (s : Sizes). (g s).gains pair.0 (of pair.0 before) pair.1 lines) (same refl) gains
  gains_alike false before pair lines same gains = gains

  body_alike : (before pairs : List (ℕ × ℕ)) (lines : List Printed) → AreAlike pairs → BodyFrom (by_sizes g t) before pairs lines
      → BodyFrom (by_sizes g u) before pairs lines
  body_alike before [] lines same none = none
  body_alike before (pair ∷ pairs) lines same (first, rest, gains, later, is) = (
    first,
    rest,
    gains_alike (is_source pair.0) before pair first (λ source. same pair.0 (source_is pair.0 source) (has_first pair pairs)) gains,
    body_alike (before ++ pair ∷ []) pairs rest
        (λ id source some. same id source (λ none. some (none_later (pair.0 == id) pair.1 (of id pairs) none))) later,
    is,
  )

  end_alike : (id : ℕ) (bytes : List ℕ) (lines : List Printed) (faulty : Bool) → ((bytes ≡ [] → ⊥) → t id ≡ u id)
      → StreamEnds (by_sizes g t) id bytes lines faulty → StreamEnds (by_sizes g u) id bytes lines faulty
  end_alike id [] lines faulty same none = none
  end_alike id (b ∷ bytes) lines faulty same (line, ends, is) =
      (line, subst (λ (s : Sizes). (g s).ends id (b ∷ bytes) line faulty) (same (λ none. absurd cc)) ends, is)

  ends_alike : (pairs : List (ℕ × ℕ)) (from count : ℕ) (lines : List Printed) (faulty : Bool) → 0 < from → from + count ≤ 112 → AreAlike pairs
      → EndsOf (by_sizes g t) pairs (range_with_len from count) lines faulty → EndsOf (by_sizes g u) pairs (range_with_len from count) lines faulty
  ends_alike pairs from zero lines faulty some few same none = none
  ends_alike pairs from (suc count) lines faulty some few same (first, rest, one, others, here, later, is, fault) =
      let source : IsId from = (omega (arith, some), omega (arith, few)) in (
        first,
        rest,
        one,
        others,
        end_alike from (of from pairs) first one (same from source) here,
        ends_alike pairs (from + 1) count rest others (omega arith) (omega (arith, few)) same later,
        is,
        fault,
      )

  adds_alike : (source : Bool) (before : List (ℕ × ℕ)) (pair : ℕ × ℕ) (items : List Item) → (source ≡ true → t pair.0 ≡ u pair.0)
      → AddsIf source (by_sizes g t) before pair items → AddsIf source (by_sizes g u) before pair items
  adds_alike true before pair items same adds = subst (λ (s : Sizes). (g s).adds pair.0 (of pair.0 before) pair.1 items) (same refl) adds
  adds_alike false before pair items same adds = adds

  added_alike : (before pairs : List (ℕ × ℕ)) (items : List (ℕ × Item)) → AreAlike pairs → AddedFrom (by_sizes g t) before pairs items
      → AddedFrom (by_sizes g u) before pairs items
  added_alike before [] items same none = none
  added_alike before (pair ∷ pairs) items same (first, rest, adds, later, is) = (
    first,
    rest,
    adds_alike (is_source pair.0) before pair first (λ source. same pair.0 (source_is pair.0 source) (has_first pair pairs)) adds,
    added_alike (before ++ pair ∷ []) pairs rest
        (λ id source some. same id source (λ none. some (none_later (pair.0 == id) pair.1 (of id pairs) none))) later,
    is,
  )

  -- where the lines of a sum are the same under all sizes
  pub text_alike : (pairs : List (ℕ × ℕ)) (left : ℕ) (lines : List Printed) (faulty : Bool) → ((s : Sizes) → (g s).sums ≡ (g (u 0)).sums) → AreAlike pairs
      → IsText (by_sizes g t) pairs left lines faulty → IsText (by_sizes g u) pairs left lines faulty
  unfolding sources
  text_alike pairs left lines faulty alike same is =
      record {
        body = is.body;
        ending = is.ending;
        gained = body_alike [] pairs is.body same is.gained;
        ended = record {
          sums = is.ended.sums;
          summed = (
            is.ended.summed.0,
            added_alike [] pairs is.ended.summed.0 same is.ended.summed.1,
            is.ended.summed.2 ∙ ap (λ (f : List (ℕ × Item) → List (List ℕ)). map (λ (line : List ℕ). record { id = None; line = line }) (f is.ended.summed.0)) (alike (t 0)),
          );
          ends = is.ended.ends;
          some_fault = is.ended.some_fault;
          ended = ends_alike pairs 1 111 is.ended.ends is.ended.some_fault (omega arith) (omega arith) same is.ended.ended;
          all = is.ended.all;
          fault = is.ended.fault;
        };
        all = is.all;
      }
