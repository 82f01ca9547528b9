-- Marks go with their P0 elements.
use Rattle.std.proofs.Common.{◌≡◌, ℕ, zero, suc, ◌+◌, ◌-◌, ◌<◌, ◌≤◌, Bool, true, false, List, [], ◌∷◌, ◌++◌, length, take, drop, replicate}
use Rattle.std.proofs.Common.{arith, refl, ap, sym, ◌∙◌, inl, inr}
use Rattle.std.proofs.Common.{Option, Some, None, Ok, Err, Result, length-append, length-drop, length-take, append-nil, subst}
use Rattle.std.specs.Prelude.{IsErr, IsOk, IsSome, ◌↔◌, ◌==◌, nat_le, option_to_list}
use Rattle.std.proofs.lemmas.Bool.{cases_Bool, cases_lt, eqb-true, leb-true, le-leb}
use Rattle.std.proofs.Math.Seq.{take-length}
use Rattle.element_queue.specs.Counting.{AreCounts, counts_after, entries, made_by}
use Rattle.element_queue.specs.Pending.{Pending, Taken, cancelling, committing, flip_newest, flips, losing, nothing_gone, taken}
use Rattle.element_queue.specs.Queued.{IsQueued, Queued, Takes, noted, pending_of}
use Rattle.element_queue.specs.declared.queue.PreElem.TheVariants as pre_elem
use Rattle.etm_types.specs.Pre.{trace_missing}
use Rattle.etm_types.specs.declared.element.Elem.{Elem}
use Rattle.etm_types.specs.declared.element.Elem.TheVariants as elem
use Rattle.etm_types.specs.declared.element.Entry.{Entry}
use Rattle.etm_types.specs.declared.element.P0.{P0}
use Rattle.etm_types.specs.declared.element.Thing.{Thing}
use Rattle.etm_types.specs.declared.element.Thing.TheVariants.{Gap, Seen, Stop, Unseen}
use Rattle.stream_decoder.proofs.Waits.{in_range, in_range_by, same_counts}
use Rattle.time_marks.proofs.Held.{entries-append, entries_parts, first_at_end, first_dropped, first_taken, flip_keeps, newest_seen}
use Rattle.time_marks.proofs.Held.{no_more, none_leaves, none_seen, one_leaves, unseen_first}
use Rattle.time_marks.specs.Marked.{IsMarked, Marked, Moves, UnseenFirst, less, marked_of}
use Rattle.time_marks.specs.Stamps.{Stamp}
use Rattle.time_marks.specs.Times.{but_newest, mark_of, marks_left}

abbrev Marks : Type 0
Marks = List Stamp

false_is_not_true : false ≡ true → ⊥
false_is_not_true e = absurd (grind (arith, e))

-- ---- lists of marks

all_but_none : (marks : Marks) → but_newest 0 marks ≡ marks
all_but_none marks = let all : length marks - 0 ≡ length marks = omega arith in ap (λ (k : ℕ). take k marks) all ∙ take-length marks

-- where nothing goes
kept : (marks : Marks) → marks ≡ marks_left nothing_gone (marks ++ [])
kept marks = sym (all_but_none (marks ++ []) ∙ append-nil marks)

-- what holds behind a call
holds_so : (q : Queued) (marks : Marks) (informed : Bool) → IsQueued q → AreCounts q.counts → UnseenFirst q.held → length marks ≡ entries q.held
    → (informed ≡ false → q.held ≡ []) → IsMarked (marked_of q marks informed)
holds_so q marks informed queued range order each begins =
    record { order = order; each = each; few = queued.few; balanced = queued.balanced; range = range; begins = begins }

pub nothing_holds : (q : Queued) → q.held ≡ [] → IsQueued q → AreCounts q.counts → IsMarked (marked_of q [] false)
nothing_holds q none queued range =
    holds_so q [] false queued range (subst UnseenFirst (sym none) tt) (sym (ap entries none)) (λ e. none)

-- ---- one P0 element more

abbrev committed_in : Taken → List Thing
committed_in (Ok t) = (t.1).committed
committed_in (Err f) = []

abbrev held_in : Taken → List Thing
held_in (Ok t) = (t.0).held
held_in (Err f) = []

module _ (q : Queued) (p0 : P0) (things : List Thing) (q' : Queued) (takes : Takes q (elem.P0 p0) (committing things) q') where
  abbrev entry : Entry
  entry = record { pre = q.pre; p0 = p0 }

  abbrev with_new : List Thing
  with_new = q.held ++ Seen entry ∷ []

  abbrev leaves : ℕ
  leaves = length with_new - q.depth

  -- as many leave as the rule says
  leaving : entries things ≡ entries (take (length q.held + 1 - q.depth) with_new)
  leaving =
      ap entries (sym (ap committed_in (takes.rule true)))
      ∙ ap (λ (k : ℕ). entries (take (k - q.depth) with_new)) (length-append q.held (Seen entry ∷ []))

  -- and the others stay
  staying : entries things + entries q'.held ≡ entries q.held + 1
  staying =
      ap (λ (xs : List Thing). entries xs + entries q'.held) (sym (ap committed_in (takes.rule true)))
      ∙ ap (λ (xs : List Thing). entries (take leaves with_new) + entries xs) (sym (ap held_in (takes.rule true)))
      ∙ entries_parts leaves with_new
      ∙ entries-append q.held (Seen entry ∷ [])

  order_kept : UnseenFirst q.held → UnseenFirst q'.held
  order_kept order = subst UnseenFirst (ap held_in (takes.rule true)) (first_dropped leaves with_new (first_at_end q.held entry order))

  module _ (marks marks' : Marks) (mark : Stamp) (is : IsMarked (marked_of q marks true)) (most : ℕ) (same : most ≡ q.depth) where
    abbrev all : Marks
    all = marks ++ mark ∷ []

    -- the mark of the oldest goes with it
    goes : (r : Option Stamp) → option_to_list r ++ marks' ≡ all → (IsSome r ↔ (length marks ≡ most))
        → (option_to_list r ≡ take (entries things) all) × (marks' ≡ drop (entries things) all) × (length marks' ≡ entries q'.held)
    goes None order full =
        let room : entries q.held < q.depth = elim (cases_lt (entries q.held) q.depth) [
          | inl few ↦ few
          | inr more ↦ absurd (false_is_not_true (full.1 (omega (arith, is.each, same, more, is.few, no_more q.held))))
        ] in
        let none : entries things ≡ 0 = leaving ∙ none_leaves q.held entry q.depth is.order is.few room in (
          rw none refl,
          rw none order,
          omega (arith, staying, none, is.each, ap length order, length-append marks (mark ∷ [])),
        )
    goes (Some x) order full =
        let all_held : entries q.held ≡ q.depth = omega (arith, is.each, same, full.0 refl) in
        let one : entries things ≡ 1 = leaving ∙ one_leaves q.held entry q.depth is.order is.few all_held in (
          rw one (ap (take 1) order),
          rw one (ap (drop 1) order),
          omega (arith, staying, one, is.each, ap length order, length-append marks (mark ∷ [])),
        )

    module _ (r : Option Stamp) (order : option_to_list r ++ marks' ≡ all) (full : IsSome r ↔ (length marks ≡ most)) where
      pub push_moves : Moves (marked_of q marks true) mark (elem.P0 p0) (option_to_list r) (marked_of q' marks' true)
      push_moves =
          let g = goes r order full in
          record {
            gone = committing things;
            rule = takes.rule true;
            out = g.0;
            left = g.1 ∙ sym (all_but_none (drop (entries things) all));
            counts = takes.counts;
            depth = takes.depth;
          }

      pub push_holds : IsQueued q' → IsMarked (marked_of q' marks' true)
      push_holds queued =
          holds_so q' marks' true queued (in_range_by q q' (elem.P0 p0) (committing things) takes) (order_kept is.order) (goes r order full).2
          (λ none. absurd (false_is_not_true (sym none)))

-- ---- the oldest

-- what comes out of a ring, and what stays
pub pop_out : (marks marks' : Marks) (r : Option Stamp) → marks ≡ option_to_list r ++ marks' → (IsSome r ↔ (0 < length marks))
    → option_to_list r ≡ take 1 marks
pop_out marks marks' None order some = none marks (λ few. false_is_not_true (some.1 few))
  where
    none : (xs : Marks) → (0 < length xs → ⊥) → [] ≡ take 1 xs
    none [] few = refl
    none (x ∷ xs) few = absurd (few (omega arith))
pop_out marks marks' (Some x) order some = sym (ap (take 1) order)

module _ (q : Queued) (marks : Marks) (informed : Bool) (is : IsMarked (marked_of q marks informed)) (things : List Thing) (oldest : things ≡ take 1 q.held)
    (q' : Queued)
    (rest : q' ≡ record q { held = drop 1 q.held; counts = counts_after q.counts 0 (committing things) }) (marks' : Marks)
    (left : marks' ≡ drop (entries things) marks) where
  pub less_by_one : marked_of q' marks' informed ≡ less (marked_of q marks informed) 1
  less_by_one =
      ap (λ (x : Queued). marked_of x marks' informed) rest
      ∙ ap (λ (xs : Marks). marked_of (record q { held = drop 1 q.held; counts = counts_after q.counts 0 (committing things) }) xs informed) left
      ∙ ap (λ (xs : List Thing). marked_of (record q { held = drop 1 q.held; counts = counts_after q.counts 0 (committing xs) })
      (drop (entries xs) marks) informed)
      oldest

  pub less_holds : IsQueued q' → IsMarked (marked_of q' marks' informed)
  less_holds queued =
      let held : q'.held ≡ drop 1 q.held = ap (λ (x : Queued). x.held) rest in
      holds_so q' marks' informed queued (subst AreCounts (sym (ap (λ (x : Queued). x.counts) rest)) (in_range q.counts 0 (committing things)))
      (subst UnseenFirst (sym held) (first_dropped 1 q.held is.order))
      (omega (arith, ap length left, ap entries held, ap entries oldest, entries_parts 1 q.held, is.each, length-drop (entries things) marks))
      (λ none. held ∙ ap (drop 1) (is.begins none))

-- ---- elements that commit nothing

module _ (q q' : Queued) (marks : Marks) (e : Elem) (none : (stamp : Stamp) → mark_of stamp e ≡ []) where
  -- nothing goes
  pub quiet_moves : (informed informed' : Bool) → taken q.depth (pending_of q informed) e ≡ Ok (pending_of q' informed', nothing_gone)
      → q'.counts ≡ counts_after q.counts (made_by e) nothing_gone → q'.depth ≡ q.depth
      → (stamp : Stamp) → Moves (marked_of q marks informed) stamp e [] (marked_of q' marks informed')
  quiet_moves informed informed' rule counts depth stamp =
      record {
        gone = nothing_gone;
        rule = rule;
        out = refl;
        left = kept marks ∙ ap (λ (xs : Marks). marks_left nothing_gone (marks ++ xs)) (sym (none stamp));
        counts = counts;
        depth = depth;
      }

  pub noted_moves : (informed : Bool) → Takes q e nothing_gone q' → (stamp : Stamp)
      → Moves (marked_of q marks informed) stamp e [] (marked_of q' marks informed)
  noted_moves informed takes = quiet_moves informed informed (takes.rule informed) takes.counts takes.depth

  pub noted_holds : (informed : Bool) → IsMarked (marked_of q marks informed) → Takes q e nothing_gone q' → IsQueued q' → q'.held ≡ q.held
      → IsMarked (marked_of q' marks informed)
  noted_holds informed is takes queued same =
      holds_so q' marks informed queued (in_range_by q q' e nothing_gone takes) (subst UnseenFirst (sym same) is.order) (is.each ∙ sym (ap entries same))
      (λ first. same ∙ is.begins first)

-- a flip keeps the marks
abbrev after_flip : Pending → Pending → Option (List Thing) → Type 0
after_flip p p' flipped = flips p flipped ≡ Ok (p', nothing_gone)

flipped_so : (p p' : Pending) (flipped : Option (List Thing)) → after_flip p p' flipped → flipped ≡ Some p'.held
flipped_so p p' None is = absurd cc
flipped_so p p' (Some held) is = ap Some (ap (λ (t : Taken). held_in t) is)

pub flip_holds : (q q' : Queued) (marks : Marks) (informed : Bool) → IsMarked (marked_of q marks informed) → Takes q elem.Flip nothing_gone q' → IsQueued q'
    → IsMarked (marked_of q' marks informed)
flip_holds q q' marks informed is takes queued =
    let same = flip_keeps q.held q'.held (flipped_so (pending_of q informed) (pending_of q' informed) (flip_newest q.held) (takes.rule informed)) in
    holds_so q' marks informed queued (in_range_by q q' elem.Flip nothing_gone takes) (same.order is.order) (is.each ∙ sym same.count)
    (λ first. absurd (some_flipped q.held (is.begins first)
    (flipped_so (pending_of q informed) (pending_of q' informed) (flip_newest q.held) (takes.rule informed))))
  where
    some_flipped : (held : List Thing) → held ≡ [] → flip_newest held ≡ Some q'.held → ⊥
    some_flipped [] none is = absurd cc
    some_flipped (x ∷ held) none is = absurd cc

-- ---- a cancel

abbrev is_ok_in : Taken → Bool
is_ok_in (Ok t) = true
is_ok_in (Err f) = false

module _ (q : Queued) (n : ℕ) (q' : Queued) (takes : Takes q (elem.Cancel n) (cancelling (drop (length q.held - n) q.held)) q') where
  abbrev newest : List Thing
  newest = drop (length q.held - n) q.held

  cancel_held : (n ≤ length q.held) × (q'.held ≡ take (length q.held - n) q.held)
  cancel_held = elim (cases_Bool (n == 0)) [
    | inl zero_is ↦
        let none : n ≡ 0 = eqb-true n 0 zero_is in
        let all : length q.held - n ≡ length q.held = omega (arith, none) in
        (omega (arith, none), sym (ap held_in (takes.rule true)) ∙ rw zero_is (sym (ap (λ (k : ℕ). take k q.held) all ∙ take-length q.held)))
    | inr some ↦ elim (cases_Bool (nat_le n (length q.held))) [
      | inl fits ↦ (leb-true n (length q.held) fits, sym (ap held_in (takes.rule true)) ∙ rw (some, fits) refl)
      | inr more ↦ absurd (false_is_not_true (sym (rw (some, more) refl) ∙ ap is_ok_in (takes.rule true)))
    ]
  ]

  module _ (marks marks' : Marks) (informed : Bool) (is : IsMarked (marked_of q marks informed)) (left : marks' ≡ take (length marks - n) marks) where
    size : length marks' ≡ length marks - n
    size = omega (arith, ap length left, length-take (length marks - n) marks)

    both : (take (length marks - n) marks ≡ take (length marks - entries newest) marks) × (length marks' ≡ entries q'.held)
    both =
        let parts = entries_parts (length q.held - n) q.held in let held = ap entries (cancel_held.1) in
        elim (newest_seen n q.held is.order) [
          | inl some ↦ (ap (λ (k : ℕ). take (length marks - k) marks) (sym some.0), omega (arith, size, parts, held, some.0, some.1, is.each))
          | inr all ↦
              let none : length marks - n ≡ length marks - entries newest = omega (arith, all.0, all.1, is.each) in
              (ap (λ (k : ℕ). take k marks) none, omega (arith, size, parts, held, all.0, all.1, is.each))
        ]

    pub cancel_moves : (stamp : Stamp) → Moves (marked_of q marks informed) stamp (elem.Cancel n) [] (marked_of q' marks' informed)
    cancel_moves stamp =
        let one : entries newest + entries [] ≡ entries newest = omega arith in
        record {
          gone = cancelling newest;
          rule = takes.rule informed;
          out = refl;
          left = left ∙ both.0 ∙ ap (λ (xs : Marks). take (length xs - entries newest) xs) (sym (append-nil marks))
              ∙ ap (λ (k : ℕ). but_newest k (marks ++ [])) (sym one);
          counts = takes.counts;
          depth = takes.depth;
        }

    pub cancel_holds : IsQueued q' → IsMarked (marked_of q' marks' informed)
    cancel_holds queued =
        holds_so q' marks' informed queued (in_range_by q q' (elem.Cancel n) (cancelling newest) takes)
        (subst UnseenFirst (sym cancel_held.1) (first_taken (length q.held - n) q.held is.order)) both.1
        (λ first. nothing (is.begins first) cancel_held.1)
      where
        nothing : q.held ≡ [] → q'.held ≡ take (length q.held - n) q.held → q'.held ≡ []
        nothing none e = e ∙ ap (λ (xs : List Thing). take (length xs - n) xs) none ∙ take_nil (0 - n)
          where
            take_nil : (k : ℕ) → ◌≡◌ {A = List Thing} (take k []) []
            take_nil zero = refl
            take_nil (suc k) = refl

-- ---- trace is missing

module _ (q : Queued) (marks : Marks) (informed : Bool) (is : IsMarked (marked_of q marks informed)) (q' : Queued)
    (now : q' ≡ record q { held = []; pre = trace_missing; counts = counts_after q.counts 0 (losing q.held) }) where
  abbrev lost : Queued
  lost = record q { held = []; pre = trace_missing; counts = counts_after q.counts 0 (losing q.held) }

  none_left : [] ≡ but_newest (0 + entries q.held) (marks ++ [])
  none_left =
      let none : length (marks ++ []) - (0 + entries q.held) ≡ 0 = omega (arith, is.each, ap length (append-nil marks)) in
      sym (ap (λ (k : ℕ). take k (marks ++ [])) none)

  overflows : (stamp : Stamp) → Moves (marked_of q marks informed) stamp elem.Overflow [] (marked_of lost [] informed)
  overflows stamp =
      record { gone = record { committed = Gap ∷ []; cancelled = []; lost = q.held }; rule = refl; out = refl; left = none_left; counts = refl; depth = refl }

  discards : (stamp : Stamp) → Moves (marked_of q marks informed) stamp elem.Discard [] (marked_of lost [] informed)
  discards stamp =
      record { gone = record { committed = Stop ∷ []; cancelled = []; lost = q.held }; rule = refl; out = refl; left = none_left; counts = refl; depth = refl }

  module _ (marks' : Marks) (none : marks' ≡ []) where
    here : marked_of lost [] informed ≡ marked_of q' marks' informed
    here = ap (λ (x : Queued). marked_of x [] informed) (sym now) ∙ ap (λ (xs : Marks). marked_of q' xs informed) (sym none)

    pub overflow_moves : (stamp : Stamp) → Moves (marked_of q marks informed) stamp elem.Overflow [] (marked_of q' marks' informed)
    overflow_moves stamp = subst (Moves (marked_of q marks informed) stamp elem.Overflow []) here (overflows stamp)

    pub discard_moves : (stamp : Stamp) → Moves (marked_of q marks informed) stamp elem.Discard [] (marked_of q' marks' informed)
    discard_moves stamp = subst (Moves (marked_of q marks informed) stamp elem.Discard []) here (discards stamp)

    pub lost_holds : IsQueued q' → IsMarked (marked_of q' marks' informed)
    lost_holds queued =
        let held : q'.held ≡ [] = ap (λ (x : Queued). x.held) now in
        holds_so q' marks' informed queued
        (subst AreCounts (sym (ap (λ (x : Queued). x.counts) now)) (in_range q.counts 0 (losing q.held)))
        (subst UnseenFirst (sym held) tt) (ap length none ∙ sym (ap entries held)) (λ first. held)

-- ---- a trace info

abbrev pub informed_queue : Queued → Queued
informed_queue q = record q { pre = noted q.pre pre_elem.Info }

abbrev pub begun_queue : Queued → ℕ → Queued
begun_queue q spec = record q { held = replicate spec Unseen; pre = noted q.pre pre_elem.Info }

module _ (q : Queued) (marks : Marks) (spec : ℕ) where
  -- a later one
  pub later_moves : IsMarked (marked_of q marks true) → (stamp : Stamp)
      → Moves (marked_of q marks true) stamp (elem.Info spec) [] (marked_of (informed_queue q) marks true)
  later_moves is =
      quiet_moves q (informed_queue q) marks (elem.Info spec) (λ stamp. refl) true true refl (same_counts q.counts is.range) refl

  pub later_holds : IsMarked (marked_of q marks true) → IsMarked (marked_of (informed_queue q) marks true)
  later_holds is = record { order = is.order; each = is.each; few = is.few; balanced = is.balanced; range = is.range; begins = is.begins }

  -- the first
  module _ (is : IsMarked (marked_of q marks false)) (within : spec ≤ q.depth) where
    pub first_moves : (stamp : Stamp) → Moves (marked_of q marks false) stamp (elem.Info spec) [] (marked_of (begun_queue q spec) marks true)
    first_moves =
        let none : q.held ≡ [] = is.begins refl in
        quiet_moves q (begun_queue q spec) marks (elem.Info spec) (λ stamp. refl) false true (rw (none, le-leb spec q.depth within) refl)
        (same_counts q.counts is.range) refl

    pub first_holds : IsQueued (begun_queue q spec) → IsMarked (marked_of (begun_queue q spec) marks true)
    first_holds queued =
        holds_so (begun_queue q spec) marks true queued is.range (unseen_first spec) (is.each ∙ ap entries (is.begins refl) ∙ sym (none_seen spec))
        (λ none. absurd (false_is_not_true (sym none)))

-- ---- of what a call began with

pub either : {T E A : Type 0} (r : Result T E) → (IsOk r → A) → (IsErr r → A) → A
either (Ok x) ok err = ok refl
either (Err e) ok err = err refl

pub moves_from : (m now m' : Marked) (stamp : Stamp) (e e' : Elem) → m ≡ now → e' ≡ e → Moves m stamp e [] m' → Moves now stamp e' [] m'
moves_from m now m' stamp e e' same is moves =
    subst (λ (x : Marked). Moves x stamp e' [] m') same (subst (λ (x : Elem). Moves m stamp x [] m') (sym is) moves)
