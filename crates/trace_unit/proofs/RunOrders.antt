-- The orders of a run can be taken by a reader that is told each at once; so a reader of the whole form comes to the same.
use Rattle.std.proofs.Common.{◌≡◌, ℕ, zero, suc, ◌+◌, ◌-◌, ◌≤◌, Bool, true, false, List, [], ◌∷◌, ◌++◌, length, take, drop, Option, Some, None, Ok}
use Rattle.std.proofs.Common.{Err, Result, refl, sym, ap, subst, ◌∙◌, inl, inr, arith}
use Rattle.std.proofs.lemmas.List.{length-map, take-append-drop}
use Rattle.std.specs.Prelude.{⊤}
use Rattle.element_queue.specs.Pending.{Pending, flip_newest, flips}
use Rattle.element_queue.specs.Resolved.{Resolved, resolve_all, then_resolve, unresolved, with_done}
use Rattle.etm_types.specs.SameContext.{same_context}
use Rattle.etm_types.specs.Settings.{Sizes}
use Rattle.etm_types.specs.declared.context.Ctx.{Ctx}
use Rattle.etm_types.specs.declared.element.Elem.TheVariants as elem
use Rattle.etm_types.specs.declared.element.Thing.{Thing}
use Rattle.etm_types.specs.declared.queue_fault.QueueFault.{QueueFault}
use Rattle.path_walker.specs.State.{State, first_state}
use Rattle.path_walker.specs.Things.{Walks}
use Rattle.program_image.specs.Blocks.{HasGap}
use Rattle.program_image.specs.declared.image.Image.{Image}
use Rattle.return_stack.specs.Stack.{most_addresses}
use Rattle.spec_run.proofs.EventsJoined.{passed}
use Rattle.spec_run.proofs.EventsKept.{Allows, IsExecution, allowed, event_kept}
use Rattle.spec_run.proofs.Held.{p0s_joined}
use Rattle.spec_run.proofs.StepLists.{bools}
use Rattle.spec_run.proofs.StepsKept.{IsFlat}
use Rattle.spec_run.specs.Blocks.{begun, fresh}
use Rattle.spec_run.specs.Checks.{check, effect_of}
use Rattle.spec_run.specs.RetiredItems.{retired_of}
use Rattle.spec_run.specs.RunAfter.{AreEvents, after_event, place_in, run_after, run_from}
use Rattle.spec_run.specs.Runs.{Closing, Execution, Running, at_first}
use Rattle.spec_run.specs.Steps.{is_p0, kept, newest, p0s}
use Rattle.spec_run.specs.declared.effect.Effect.{Effect}
use Rattle.spec_run.specs.declared.effect.Effect.TheVariants as effect
use Rattle.spec_run.specs.declared.event.Event.{Event}
use Rattle.spec_run.specs.declared.step.RunStep.{RunStep}
use Rattle.spec_run.specs.declared.step.StepKind.{StepKind}
use Rattle.spec_run.specs.declared.step.StepKind.TheVariants.{Cond, Eret, Exc, Ind, Isb, Jump, Plain}
use Rattle.trace_unit.proofs.AllEvents.{StandTogether, stands_first, told_shows}
use Rattle.trace_unit.proofs.AllOrders.{alike}
use Rattle.trace_unit.proofs.Before.{tells_before, told_addr, told_ctx, with_pre}
use Rattle.trace_unit.proofs.Flipped.{flipped_so}
use Rattle.trace_unit.proofs.Matching.{IsOpen, MatchesBy}
use Rattle.trace_unit.proofs.OneEvent.{few_held, goes_on, one_event}
use Rattle.trace_unit.proofs.Ran.{HasRoom}
use Rattle.trace_unit.proofs.Rooms.{Fits, HasRoomBy, room_for}
use Rattle.trace_unit.proofs.RowLists.{length-rows}
use Rattle.trace_unit.proofs.Rows.{thing_of}
use Rattle.trace_unit.proofs.StepOrders.{in_both}
use Rattle.trace_unit.specs.Effects.{orders, orders_from, orders_on, places_after}
use Rattle.trace_unit.specs.Orders.{Order, Sync, Tell, before, missing, p0_order, step_orders}
use Rattle.trace_unit.specs.Places.{Places, no_places}
use Rattle.trace_unit.specs.Taken.{AllMeet, CanTake, CanTakeAll}
use Rattle.trace_unit.specs.Told.{all_told, told}
use Rattle.trace_unit.specs.Whole.{at_once, whole_settled}

-- ---- results

abbrev ok : Resolved → Result Resolved QueueFault
ok r = Ok r

pub same_ok : (a b : Resolved) → ok a ≡ ok b → a ≡ b
same_ok a b e = cc

-- ---- orders of joined lists

meets_joined : (Meets : Pending → Order → Type 0) (depth : ℕ) (r : Resolved) (orders more : List Order) → AllMeet Meets depth r orders
    → ((next : Resolved) → resolve_all depth r (all_told orders) ≡ Ok next → AllMeet Meets depth next more) → AllMeet Meets depth r (orders ++ more)
meets_joined Meets depth r [] more meet rest = rest r refl
meets_joined Meets depth r (x ∷ orders) more meet rest = (
  meet.0,
  λ next e. meets_joined Meets depth next orders more (meet.1 next e) (λ last f. rest last (goes_on depth r next (told x) (all_told orders) e ∙ f)),
)

pub meets_so : (Meets Also : Pending → Order → Type 0) → ((p : Pending) (order : Order) → Meets p order → Also p order)
    → (depth : ℕ) (r : Resolved) (orders : List Order) → AllMeet Meets depth r orders → AllMeet Also depth r orders
meets_so Meets Also so depth r [] meet = tt
meets_so Meets Also so depth r (x ∷ orders) meet = (so r.pending x meet.0, λ next e. meets_so Meets Also so depth next orders (meet.1 next e))

-- ---- what a trace info announces

abbrev pub Counts : Pending → Order → Type 0
Counts p (Tell (Sync announced)) = length p.held ≡ announced
Counts p order = ⊤

abbrev pub Suits : ℕ → Pending → Order → Type 0
Suits depth p order = CanTake depth p order × Counts p order

-- ---- the orders of an event

pub held_many : (image : Image) (closed : List (List RunStep × Closing)) (s : Running) (p : Places) (r : Resolved) → IsOpen image closed s p r
    → length r.pending.held ≡ p0s s.held
held_many image closed s p r o =
    ap length o.held ∙ length-map o.late thing_of ∙ length-rows (begun (fresh s.start) s.retired) o.late s.held o.unretired

missing_takes : (depth : ℕ) (r : Resolved) (same needs : Bool) (addr : ℕ) (ctx : Ctx) → AllMeet (Suits depth) depth r (missing same needs addr ctx)
missing_takes depth r true true addr ctx = ((tt, tt), λ next e. tt)
missing_takes depth r true false addr ctx = tt
missing_takes depth r false true addr ctx = ((tt, tt), λ next e. tt)
missing_takes depth r false false addr ctx = ((tt, tt), λ next e. tt)

has_room : (depth : ℕ) (held : List Thing) → HasRoom depth held → length held + 1 ≤ depth + at_once depth
has_room zero held none = omega (arith, ap length none)
has_room (suc depth) held some = omega (arith, some)

p0_takes : (depth : ℕ) (p : Pending) (kind : StepKind) (addr : ℕ) → length p.held + 1 ≤ depth + at_once depth → Suits depth p (p0_order kind addr)
p0_takes depth p Plain addr le = (le, tt)
p0_takes depth p Isb addr le = (le, tt)
p0_takes depth p Jump addr le = (le, tt)
p0_takes depth p (Cond taken) addr le = (le, tt)
p0_takes depth p (Ind link) addr le = (le, tt)
p0_takes depth p Eret addr le = (le, tt)
p0_takes depth p (Exc kind) addr le = (le, tt)

ran_takes : (image : Image) (depth : ℕ) (closed : List (List RunStep × Closing)) (s : Running) (p : Places) (r : Resolved) (t : RunStep) (ctx : Ctx)
    → IsFlat depth s → Fits depth s.held t → is_p0 t ≡ true → IsOpen image closed s p r
    → AllMeet (Suits depth) depth r (step_orders p t)
ran_takes image depth closed s p r t ctx flat fits p0 o =
    let same = same_context t.ctx p.reader_context in
    let r' = with_pre r (told_addr p.needs p.start (told_ctx same t.ctx r.pending.pre)) in
    let room = has_room depth r.pending.held (few_held image depth closed s p r (fits p0) flat o) in
    in_both (AllMeet (Suits depth) depth r) p t
    (meets_joined (Suits depth) depth r (before p t.ctx) (p0_order t.kind t.addr ∷ []) (missing_takes depth r same p.needs p.start t.ctx)
    (λ next e.
    let is : r' ≡ next = same_ok r' next (sym (tells_before depth r same p.needs t.ctx p.start) ∙ e) in
    (subst (λ (n : Resolved). Suits depth n.pending (p0_order t.kind t.addr)) is (p0_takes depth r'.pending t.kind t.addr room), λ last f. tt)))
    (λ kind e is. ((room, tt), λ last f. tt))

flip_some : (p : Pending) (done : List Thing) (o : Option (List Thing)) (next : Resolved) → with_done done (flips p o) ≡ Ok next
    → (held : List Thing) × (o ≡ Some held)
flip_some p done None next e = absurd cc
flip_some p done (Some held) next e = (held, refl)

then_ok : (s : Result Resolved QueueFault) → then_resolve s (λ n. Ok n) ≡ s
then_ok (Ok r) = refl
then_ok (Err fault) = refl

flip_takes : (depth : ℕ) (r next : Resolved) → resolve_all depth r (elem.Flip ∷ []) ≡ Ok next → (held : List Thing) × (flip_newest r.pending.held ≡ Some held)
flip_takes depth r next e = flip_some r.pending r.done (flip_newest r.pending.held) next (sym (then_ok _) ∙ e)

event_takes : (image : Image) (depth most : ℕ) (closed : List (List RunStep × Closing)) (current : Option Running) (p : Places) (r : Resolved) (e : Effect)
    → IsExecution image depth closed current → Allows image current e → HasRoomBy depth current e → MatchesBy image closed current p r
    → AllMeet (Suits depth) depth r (orders_on current p e)
event_takes image depth most closed None p r (effect.Began addr ctx) is can fits m =
    ((inr refl, ap length m.held), λ next e. ((tt, tt), λ next e. ((tt, tt), λ next e. tt)))
event_takes image depth most closed None p r (effect.Ran t ctx) is can fits m = tt
event_takes image depth most closed None p r (effect.Contexted ctx) is can fits m = tt
event_takes image depth most closed None p r (effect.Retired n) is can fits m = tt
event_takes image depth most closed None p r (effect.Cancelled n) is can fits m = tt
event_takes image depth most closed None p r effect.Flipped is can fits m = tt
event_takes image depth most closed None p r effect.Synced is can fits m = tt
event_takes image depth most closed None p r effect.Overflowed is can fits m = tt
event_takes image depth most closed None p r effect.Stopped is can fits m = tt
event_takes image depth most closed (Some s) p r (effect.Began addr ctx) is can fits m = tt
event_takes image depth most closed (Some s) p r (effect.Ran t ctx) is can fits m = elim (bools (is_p0 t)) [
  | inl some ↦ simp some (ran_takes image depth closed s p r t ctx is.flat fits some m)
  | inr none ↦ simp none tt
]
event_takes image depth most closed (Some s) p r (effect.Contexted ctx) is can fits m = tt
event_takes image depth most closed (Some s) p r (effect.Retired n) is can fits m =
    let many = held_many image closed s p r m in
    let cut = p0s_joined (take n s.held) (drop n s.held) in
    ((omega (arith, many, cut, ap p0s (take-append-drop n s.held)), tt), λ next e. tt)
event_takes image depth most closed (Some s) p r (effect.Cancelled n) is can fits m =
    let many = held_many image closed s p r m in
    let cut = p0s_joined (kept n s.held) (newest n s.held) in
    ((omega (arith, many, cut, ap p0s (take-append-drop (length s.held - n) s.held)), tt), λ next e. tt)
event_takes image depth most closed (Some s) p r effect.Flipped is can fits m =
    let f = flipped_so image depth most closed s p r m can in
    ((flip_takes depth r f.0 f.1, tt), λ next e. tt)
event_takes image depth most closed (Some s) p r effect.Synced is can fits m = (
  (tt, tt),
  λ next e.
      let is : r ≡ next = same_ok r next e in
      let many : length next.pending.held ≡ p0s s.held = ap (λ (n : Resolved). length n.pending.held) (sym is) ∙ held_many image closed s p r m in
      let informed : next.pending.informed ≡ true = ap (λ (n : Resolved). n.pending.informed) (sym is) ∙ m.informed in
      ((inl informed, many), λ next e. ((tt, tt), λ next e. tt)),
)
event_takes image depth most closed (Some s) p r effect.Overflowed is can fits m = ((tt, tt), λ next e. tt)
event_takes image depth most closed (Some s) p r effect.Stopped is can fits m = ((tt, tt), λ next e. tt)

-- ---- all events

all_take : (image : Image) → HasGap image → (s : Sizes) (most : ℕ) (x : Execution) (p : Places) (r : Resolved) (n : ℕ) (events : List Event) (y : Execution)
    → most ≤ most_addresses → StandTogether image s.depth x p r → AreEvents s events → run_from image s.depth x n events ≡ Ok y
    → AllMeet (Suits s.depth) s.depth r (orders_from image s.depth most x p events)
all_take image gap s most x p r n [] y le at given e = tt
all_take image gap s most x p r n (event ∷ events) y le at given e =
    let does = effect_of image (place_in x) event in
    let next = after_event image s.depth x event in
    let places = places_after image s.depth most x p does in
    let f = passed (check image s.depth (place_in x) event) n (run_from image s.depth next (n + 1) events) y e in
    let can = allowed image s.depth s x.current event at.execution.running given.0 f.0 in
    let room = room_for image s.depth x.current event f.0 in
    let one = one_event image gap s.depth most x.closed x.current p r does le at.execution can room at.matching in
    let here : StandTogether image s.depth next places one.0 =
    record { execution = event_kept image s.depth s x event given.0 f.0 at.execution; matching = one.2 } in
    let rest = all_take image gap s most next places one.0 (n + 1) events y le here given.1 f.1 in
    meets_joined (Suits s.depth) s.depth r (orders_on x.current p does) (orders_from image s.depth most next places events)
    (event_takes image s.depth most x.closed x.current p r does at.execution can room at.matching)
    (λ last g. subst (λ m. AllMeet (Suits s.depth) s.depth m (orders_from image s.depth most next places events)) (same_ok one.0 last (sym one.1 ∙ g)) rest)

pub run_suits : (image : Image) (s : Sizes) (most : ℕ) (events : List Event) (x : Execution) → HasGap image → most ≤ most_addresses
    → AreEvents s events → run_after image s.depth events ≡ Ok x → AllMeet (Suits s.depth) s.depth unresolved (orders image s most events)
run_suits image s most events x gap le given e =
    all_take image gap s most at_first no_places unresolved 0 events x le (stands_first image s.depth) given e

pub run_takes : (image : Image) (s : Sizes) (most : ℕ) (events : List Event) (x : Execution) → HasGap image → most ≤ most_addresses
    → AreEvents s events → run_after image s.depth events ≡ Ok x → CanTakeAll s.depth unresolved (orders image s most events)
run_takes image s most events x gap le given e =
    meets_so (Suits s.depth) (CanTake s.depth) (λ p order suits. suits.0) s.depth unresolved (orders image s most events)
    (run_suits image s most events x gap le given e)

pub whole_shows : (image : Image) (s : Sizes) (most : ℕ) (events : List Event) (x : Execution) → HasGap image → most ≤ most_addresses
    → AreEvents s events → run_after image s.depth events ≡ Ok x
    → (r : Resolved) × (w : State) × (resolve_all s.depth unresolved (whole_settled s.depth (orders image s most events)) ≡ Ok r)
    × Walks image first_state r.done (retired_of x) (Ok w)
whole_shows image s most events x gap le given e =
    let both = alike s.depth (orders image s most events) (run_takes image s most events x gap le given e) in
    let shown = told_shows image s most events x gap le given e in
    let same : both.0 ≡ shown.0 = same_ok both.0 shown.0 (sym both.1 ∙ shown.2) in
    (both.0, shown.1, both.2, subst (λ (r : Resolved). Walks image first_state r.done (retired_of x) (Ok shown.1)) (sym same) shown.3)
