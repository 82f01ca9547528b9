-- All events: what is told of a run is resolved, and what is done shows what is retired.
use Rattle.std.proofs.Common.{◌≡◌, ℕ, ◌+◌, ◌≤◌, true, List, [], ◌∷◌, ◌++◌, Option, Some, None, Ok, refl, sym, ap, subst, ◌∙◌, append-nil}
use Rattle.std.specs.Prelude.{map}
use Rattle.element_queue.specs.Resolved.{Resolved, resolve_all, unresolved}
use Rattle.etm_types.specs.Settings.{Sizes}
use Rattle.path_walker.proofs.Joined.{parts_join}
use Rattle.path_walker.specs.State.{State, first_state}
use Rattle.path_walker.specs.Things.{Walks}
use Rattle.program_image.specs.Blocks.{HasGap}
use Rattle.program_image.specs.declared.image.Image.{Image}
use Rattle.return_stack.specs.Stack.{most_addresses}
use Rattle.spec_run.proofs.EventsJoined.{passed, same_execution}
use Rattle.spec_run.proofs.EventsKept.{IsExecution, allowed, event_kept}
use Rattle.spec_run.proofs.StepLists.{steps_front}
use Rattle.spec_run.specs.Blocks.{fresh}
use Rattle.spec_run.specs.Checks.{check, effect_of}
use Rattle.spec_run.specs.Executed.{IsRunning, IsRunningBy}
use Rattle.spec_run.specs.RetiredItems.{closed_items, retired_of, stretch_items}
use Rattle.spec_run.specs.RunAfter.{AreEvents, after_event, place_in, run_after, run_from}
use Rattle.spec_run.specs.Runs.{Closing, Execution, Running, at_first}
use Rattle.spec_run.specs.declared.event.Event.{Event}
use Rattle.spec_run.specs.declared.step.RunStep.{RunStep}
use Rattle.trace_unit.proofs.Matching.{IsOpen, Matches, MatchesBy}
use Rattle.trace_unit.proofs.OneEvent.{goes_on, one_event, told_joined}
use Rattle.trace_unit.proofs.Rooms.{room_for}
use Rattle.trace_unit.proofs.RowLists.{led_fronts}
use Rattle.trace_unit.proofs.Rows.{after_all, thing_of}
use Rattle.trace_unit.proofs.RunBlocks.{AreRunBlocks, blocks_of_run}
use Rattle.trace_unit.proofs.Shown.{stretch_shows}
use Rattle.trace_unit.proofs.Walked.{led_walks}
use Rattle.trace_unit.specs.Effects.{orders, orders_from, orders_on, places_after, places_from}
use Rattle.trace_unit.specs.Places.{Places, no_places}
use Rattle.trace_unit.specs.Told.{all_told}

-- a run, what its unit keeps and its reader stand together
pub record StandTogether (image : Image) (depth : ℕ) (x : Execution) (p : Places) (r : Resolved) : Type 0 where
  pub execution : IsExecution image depth x.closed x.current
  pub matching : Matches image x p r

pub all_events : (image : Image) → HasGap image → (s : Sizes) (most : ℕ) (x : Execution) (p : Places) (r : Resolved) (n : ℕ) (events : List Event)
    (y : Execution)
    → most ≤ most_addresses → StandTogether image s.depth x p r → AreEvents s events → run_from image s.depth x n events ≡ Ok y
    → (next : Resolved) × (resolve_all s.depth r (all_told (orders_from image s.depth most x p events)) ≡ Ok next)
    × StandTogether image s.depth y (places_from image s.depth most x p events) next
all_events image gap s most x p r n [] y le at given e =
    (r, refl, subst (λ z. StandTogether image s.depth z p r) (same_execution x y e) at)
all_events image gap s most x p r n (event ∷ events) y le at given e =
    let does = effect_of image (place_in x) event in
    let next = after_event image s.depth x event in
    let places = places_after image s.depth most x p does in
    let f = passed (check image s.depth (place_in x) event) n (run_from image s.depth next (n + 1) events) y e in
    let ok = allowed image s.depth s x.current event at.execution.running given.0 f.0 in
    let one = one_event image gap s.depth most x.closed x.current p r does le at.execution ok (room_for image s.depth x.current event f.0) at.matching in
    let here : StandTogether image s.depth next places one.0 =
    record { execution = event_kept image s.depth s x event given.0 f.0 at.execution; matching = one.2 } in
    let rest = all_events image gap s most next places one.0 (n + 1) events y le here given.1 f.1 in (
      rest.0,
      ap (resolve_all s.depth r) (told_joined (orders_on x.current p does) (orders_from image s.depth most next places events))
          ∙ goes_on s.depth r one.0 (all_told (orders_on x.current p does)) (all_told (orders_from image s.depth most next places events)) one.1 ∙ rest.1,
      rest.2,
    )

-- ---- what is done is what is retired

open_shows : (image : Image) → HasGap image → (closed : List (List RunStep × Closing)) (s : Running) (p : Places) (r : Resolved) → IsRunning image s
    → IsOpen image closed s p r → (w : State) × Walks image first_state r.done (closed_items closed ++ stretch_items s.retired) (Ok w)
open_shows image gap closed s p r is o =
    let steps = steps_front image (fresh s.start) is.first s.retired s.held is.are in
    let led = led_fronts true o.before o.early o.late o.led in
    let w = after_all o.before o.early in
    let are = subst (λ bs. AreRunBlocks image bs) (sym o.retired) (blocks_of_run image gap s.start is.first s.retired is.place steps) in
    let early : Walks image o.before (map thing_of o.early) (stretch_items s.retired) (Ok w) =
    subst (λ l. Walks image o.before (map thing_of o.early) l (Ok w))
    (stretch_shows image s.start is.first s.retired o.before o.early is.place steps o.retired led) (led_walks image true o.before o.early are led) in (
      w,
      subst (λ d. Walks image first_state d (closed_items closed ++ stretch_items s.retired) (Ok w)) (sym o.done)
          (parts_join image first_state o.before o.front (map thing_of o.early) (closed_items closed) (stretch_items s.retired) (Ok w) o.walks early),
    )

shows : (image : Image) → HasGap image → (closed : List (List RunStep × Closing)) (current : Option Running) (p : Places) (r : Resolved)
    → IsRunningBy image current → MatchesBy image closed current p r
    → (w : State) × Walks image first_state r.done (retired_of (record { closed = closed; current = current })) (Ok w)
shows image gap closed None p r is m =
    (m.before, subst (λ l. Walks image first_state r.done l (Ok m.before)) (sym (append-nil (closed_items closed))) m.walks)
shows image gap closed (Some s) p r is m = open_shows image gap closed s p r is m

pub stands_first : (image : Image) (depth : ℕ) → StandTogether image depth at_first no_places unresolved
stands_first image depth =
    record {
      execution = record { running = tt; stretches = tt; flat = tt };
      matching = record { before = first_state; walks = (refl, refl); held = refl; saved = refl; pre = refl };
    }

pub told_shows : (image : Image) (s : Sizes) (most : ℕ) (events : List Event) (x : Execution) → HasGap image → most ≤ most_addresses
    → AreEvents s events → run_after image s.depth events ≡ Ok x
    → (r : Resolved) × (w : State) × (resolve_all s.depth unresolved (all_told (orders image s most events)) ≡ Ok r)
    × Walks image first_state r.done (retired_of x) (Ok w)
told_shows image s most events x gap le given e =
    let all = all_events image gap s most at_first no_places unresolved 0 events x le (stands_first image s.depth) given e in
    let path = shows image gap x.closed x.current (places_from image s.depth most at_first no_places events) all.0 all.2.execution.running all.2.matching in
    (all.0, path.0, all.1, path.1)
