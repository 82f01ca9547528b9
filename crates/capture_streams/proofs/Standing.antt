-- Streams that stand at their bytes among pairs of ID and byte.
use Rattle.std.proofs.Common.{◌≡◌, ◌≢◌, ℕ, zero, suc, ◌+◌, ◌≤◌, ◌<◌, List, [], ◌∷◌, ◌++◌, length, map, Some, refl, sym, ap, subst, ◌∙◌, arith}
use Rattle.std.specs.Prelude.{slice_get, slice_set, ◌&&◌, ◌↔◌, nat_lt, nat_le, true, false, Bool, All, IsTrue, IsOk, IsErr, Result, Ok, Err}
use Rattle.std.proofs.lemmas.Bool.{lt-ltb, le-leb, ltb-true, leb-true}
use Rattle.std.proofs.lemmas.Bool.Decides.{nat_tests}
use Rattle.std.proofs.lemmas.List.{length-set}
use Rattle.std.proofs.lemmas.List.Elements.{All-set, All-get_or}
use Rattle.std.proofs.lemmas.Option.{get_or_from_slice_get, slice_get_within}
use Rattle.etm_types.specs.Id.{IsId}
use Rattle.etm_types.specs.Settings.{Sizes}
use Rattle.capture_streams.specs.Streams.{IsReady, StandFrom, TalliedFrom, source_count, total}
use Rattle.capture_streams.specs.Texts.{is_source, of}
use Rattle.element_queue.specs.Counting.{sum_of}
use Rattle.element_queue.specs.declared.ledger.Counts.{Counts}
use Rattle.capture_streams.proofs.Bodies.{of_other_run, of_run}
use Rattle.formatter_frames.specs.Symbols.{run_of}

module _ {X : Type 0} (stands : X → List ℕ → Type 0) (sizes : X → Sizes) (t : ℕ → Sizes) where
  abbrev From : ℕ → List X → List (ℕ × ℕ) → Type 0
  From = StandFrom stands sizes t

  -- the stream at a place
  pub stands_at : (id : ℕ) (streams : List X) (pairs : List (ℕ × ℕ)) (k : ℕ) (stream : X) → From id streams pairs → slice_get streams k ≡ Some stream
      → stands stream (of (id + k) pairs) × (sizes stream ≡ t (id + k))
  stands_at id [] pairs k stream all at = absurd cc
  stands_at id (x ∷ streams) pairs zero stream all at =
      let same : x ≡ stream = cc in
      let here : id ≡ id + 0 = omega arith in
      subst (λ (y : X). stands y (of (id + 0) pairs) × (sizes y ≡ t (id + 0))) same
      (subst (λ (i : ℕ). stands x (of i pairs)) here all.0, subst (λ (i : ℕ). sizes x ≡ t i) here all.1)
  stands_at id (x ∷ streams) pairs (suc k) stream all at =
      let place : suc id + k ≡ id + suc k = omega arith in
      let there = stands_at (suc id) streams pairs k stream all.2 at in
      (subst (λ i. stands stream (of i pairs)) place there.0, subst (λ i. sizes stream ≡ t i) place there.1)

  -- bytes of none of them leave them where they are
  pub others_stand : (id : ℕ) (streams : List X) (pairs : List (ℕ × ℕ)) (other : ℕ) (run : List ℕ) → ((k : ℕ) → k < length streams → other ≢ id + k)
      → From id streams pairs → From id streams (pairs ++ run_of other run)
  others_stand id [] pairs other run differs all = tt
  others_stand id (x ∷ streams) pairs other run differs all = (
    subst (stands x) (sym (of_other_run id other run pairs (λ is. differs 0 (omega arith) (omega (arith, is))))) all.0,
    all.1,
    others_stand (suc id) streams pairs other run (λ k within is. differs (suc k) (omega (arith, within)) (omega (arith, is))) all.2,
  )

  -- the stream at a place takes bytes
  pub one_moves : (id : ℕ) (streams : List X) (pairs : List (ℕ × ℕ)) (k : ℕ) (run : List ℕ) (next : X) → k < length streams → From id streams pairs
      → stands next (of (id + k) pairs ++ run) → sizes next ≡ t (id + k) → From id (slice_set streams k next) (pairs ++ run_of (id + k) run)
  one_moves id [] pairs k run next within all moved same = absurd (omega (arith, within))
  one_moves id (x ∷ streams) pairs zero run next within all moved same =
      let here : id + 0 ≡ id = omega arith in (
        subst (stands next) (ap (λ i. of i pairs ++ run) here ∙ sym (of_run id run pairs) ∙ ap (λ i. of id (pairs ++ run_of i run)) (sym here)) moved,
        subst (λ (i : ℕ). sizes next ≡ t i) here same,
        others_stand (suc id) streams pairs (id + 0) run (λ j _ is. omega (arith, is)) all.2,
      )
  one_moves id (x ∷ streams) pairs (suc k) run next within all moved same =
      let place : suc id + k ≡ id + suc k = omega arith in (
        subst (stands x) (sym (of_other_run id (id + suc k) run pairs (λ is. omega (arith, is)))) all.0,
        all.1,
        subst (λ i. From (suc id) (slice_set streams k next) (pairs ++ run_of i run)) place
            (one_moves (suc id) streams pairs k run next (omega (arith, within)) all.2
            (subst (λ i. stands next (of i pairs ++ run)) (sym place) moved) (subst (λ i. sizes next ≡ t i) (sym place) same)),
      )

  -- one more stream that stands where nothing was taken
  pub one_more : (id : ℕ) (streams : List X) (next : X) → From id streams [] → stands next [] → sizes next ≡ t (id + length streams)
      → From id (streams ++ next ∷ []) []
  one_more id [] next all stood same = let here : id + 0 ≡ id = omega arith in (stood, subst (λ (i : ℕ). sizes next ≡ t i) here same, tt)
  one_more id (x ∷ streams) next all stood same =
      let place : id + suc (length streams) ≡ suc id + length streams = omega arith in
      (all.0, all.1, one_more (suc id) streams next all.2 stood (subst (λ (i : ℕ). sizes next ≡ t i) place same))

  -- ---- by its ID

  pub source_stands : (streams : List X) (pairs : List (ℕ × ℕ)) (id k : ℕ) (stream : X) → k + 1 ≡ id → From 1 streams pairs
      → Some stream ≡ slice_get streams k → stands stream (of id pairs) × (sizes stream ≡ t id)
  source_stands streams pairs id k stream place all at =
      let is : 1 + k ≡ id = omega (arith, place) in
      let there = stands_at 1 streams pairs k stream all (sym at) in
      (subst (λ (i : ℕ). stands stream (of i pairs)) is there.0, subst (λ (i : ℕ). sizes stream ≡ t i) is there.1)

  pub source_moves : (streams : List X) (pairs : List (ℕ × ℕ)) (id k : ℕ) (run : List ℕ) (stream next : X) → k + 1 ≡ id → From 1 streams pairs
      → Some stream ≡ slice_get streams k → stands next (of id pairs ++ run) → sizes next ≡ sizes stream
      → From 1 (slice_set streams k next) (pairs ++ run_of id run)
  source_moves streams pairs id k run stream next place all at moved same =
      let is : 1 + k ≡ id = omega (arith, place) in
      subst (λ (i : ℕ). From 1 (slice_set streams k next) (pairs ++ run_of i run)) is
      (one_moves 1 streams pairs k run next (slice_get_within streams k stream (sym at)) all
      (subst (λ (i : ℕ). stands next (of i pairs ++ run)) (sym is) moved) (same ∙ (stands_at 1 streams pairs k stream all (sym at)).1))

  pub no_source_moves : (streams : List X) (pairs : List (ℕ × ℕ)) (id : ℕ) (run : List ℕ) → (IsId id → ⊥) → length streams ≡ source_count
      → From 1 streams pairs → From 1 streams (pairs ++ run_of id run)
  no_source_moves streams pairs id run none count all =
      others_stand 1 streams pairs id run (λ k within is. none (omega (arith, is), omega (arith, is, within, count))) all

-- ---- what is ready

pub ready_at : {X : Type 0} (P : X → Type 0) (streams : List X) (k : ℕ) (stream : X) → All P streams → Some stream ≡ slice_get streams k → P stream
ready_at P streams k stream all at =
    subst P (get_or_from_slice_get streams k stream stream (sym at)) (All-get_or P streams k stream (slice_get_within streams k stream (sym at)) all)

module _ {X : Type 0} (broken : X → Bool) (offset : X → ℕ) where
  pub later_ready : (m n : ℕ) (streams : List X) → m ≤ n → All (IsReady broken offset m) streams → All (IsReady broken offset n) streams
  later_ready m n streams more all k d within =
      let one = all k d within in record { whole = one.whole; few = omega (arith, one.few, more) }

  pub one_ready : (m n k : ℕ) (streams : List X) (stream next : X) → All (IsReady broken offset m) streams → Some stream ≡ slice_get streams k
      → broken next ≡ false → offset next ≡ offset stream + n → All (IsReady broken offset (m + n)) (slice_set streams k next)
  one_ready m n k streams stream next all at whole more =
      let before = ready_at (IsReady broken offset m) streams k stream all at in
      All-set (IsReady broken offset (m + n)) streams k next (record { whole = whole; few = omega (arith, more, before.few) })
      (later_ready m (m + n) streams (omega arith) all)

-- a stream gives way to one with the same image
pub map_kept : {X Y : Type 0} (f : X → Y) (streams : List X) (k : ℕ) (stream next : X) → Some stream ≡ slice_get streams k → f next ≡ f stream
    → map f (slice_set streams k next) ≡ map f streams
map_kept f [] k stream next at same = absurd cc
map_kept f (x ∷ streams) zero stream next at same = let here : stream ≡ x = cc in ap (λ y. y ∷ map f streams) (same ∙ ap f here)
map_kept f (x ∷ streams) (suc k) stream next at same = ap (λ l. f x ∷ l) (map_kept f streams k stream next at same)

-- ---- sources

both : (a b : Bool) → a ≡ true → b ≡ true → (a && b) ≡ true
both true b x y = y
both false b x y = absurd cc

pub is_one : (id : ℕ) → IsId id → is_source id ≡ true
is_one id is = both (nat_lt 0 id) (nat_le id 111) (lt-ltb 0 id is.0) (le-leb id 111 is.1)

first_holds : (a b : Bool) → (a && b) ≡ true → a ≡ true
first_holds true b e = refl
first_holds false b e = absurd cc

both_hold : (a b : Bool) → (a && b) ≡ true → b ≡ true
both_hold true b e = e
both_hold false b e = absurd cc

pub source_is : (id : ℕ) → is_source id ≡ true → IsId id
source_is id e = (ltb-true 0 id (first_holds (nat_lt 0 id) (nat_le id 111) e), leb-true id 111 (both_hold (nat_lt 0 id) (nat_le id 111) e))

one_false : (a b : Bool) → (a ≡ true → b ≡ true → ⊥) → (a && b) ≡ false
one_false false b not_both = refl
one_false true false not_both = refl
one_false true true not_both = absurd (not_both refl refl)

pub is_none_of : (id : ℕ) → (IsId id → ⊥) → is_source id ≡ false
is_none_of id none = one_false (nat_lt 0 id) (nat_le id 111) (λ some few. none (grind (arith, nat_tests, some), grind (arith, nat_tests, few)))

-- counts of one stream more
module _ {X : Type 0} (counts : X → Counts) where
  pub total_more : (c : Counts) (streams : List X) (next : X)
      → total c (map counts (streams ++ next ∷ [])) ≡ sum_of (total c (map counts streams)) (counts next)
  total_more c [] next = refl
  total_more c (x ∷ streams) next = total_more (sum_of c (counts x)) streams next

  pub tallied_more : (tallies : Sizes → List ℕ → Counts → Type 0) (t : ℕ → Sizes) (id : ℕ) (streams : List X) (next : X) (pairs : List (ℕ × ℕ))
      → TalliedFrom tallies t id (map counts streams) pairs
      → tallies (t (id + length streams)) (of (id + length streams) pairs) (counts next)
      → TalliedFrom tallies t id (map counts (streams ++ next ∷ [])) pairs
  tallied_more tallies t id [] next pairs all one =
      let here : id + 0 ≡ id = omega arith in (subst (λ (i : ℕ). tallies (t i) (of i pairs) (counts next)) here one, tt)
  tallied_more tallies t id (x ∷ streams) next pairs all one =
      let place : id + suc (length streams) ≡ suc id + length streams = omega arith in
      (all.0, tallied_more tallies t (suc id) streams next pairs all.1 (subst (λ (i : ℕ). tallies (t i) (of i pairs) (counts next)) place one))

-- a call that did not fail leaves it whole
pub whole_where_ok : {T E : Type 0} (broken : Bool) (result : Result T E) → IsOk result → (IsTrue broken ↔ IsErr result) → broken ≡ false
whole_where_ok false result ok breaks = refl
whole_where_ok true (Ok x) ok breaks = let e : false ≡ true = breaks.0 refl in cc
whole_where_ok true (Err e) ok breaks = absurd cc

-- ---- by the answer of a call

pub by_err : {T E : Type 0} (P : Result T E → Type 0) (result : Result T E) → IsErr result → ((e : E) → P (Err e)) → P result
by_err P (Ok x) fails each = absurd cc
by_err P (Err e) fails each = each e
