-- What is kept of the places of a run is little.
use Rattle.std.proofs.Common.{◌≡◌, ℕ, zero, suc, ◌-◌, ◌≤◌, Bool, true, false, if◌then◌else◌, List, [], ◌∷◌, length, Option, Some, None, Ok}
use Rattle.std.proofs.Common.{ap, ◌∙◌, arith}
use Rattle.std.proofs.lemmas.List.{length-map, length-take}
use Rattle.std.proofs.lemmas.List.Elements.{All-append, All-cons, All-drop, All-nil, All-take}
use Rattle.std.specs.Prelude.{All, ◌==◌, map, take}
use Rattle.etm_types.specs.Settings.{Sizes}
use Rattle.element_queue.specs.Resolved.{Resolved, unresolved}
use Rattle.program_image.specs.Blocks.{HasGap}
use Rattle.program_image.specs.declared.image.Image.{Image}
use Rattle.return_stack.specs.Stack.{most_addresses}
use Rattle.spec_run.specs.Blocks.{begun, fresh}
use Rattle.spec_run.specs.Checks.{effect_of}
use Rattle.spec_run.specs.RunAfter.{AreEvents, after_event, place_in, run_after}
use Rattle.spec_run.specs.Runs.{Closing, Execution, Running, at_first}
use Rattle.spec_run.specs.Steps.{is_p0, newest, p0s}
use Rattle.spec_run.specs.declared.effect.Effect.{Effect}
use Rattle.spec_run.specs.declared.effect.Effect.TheVariants as effect
use Rattle.spec_run.specs.declared.event.Event.{Event}
use Rattle.spec_run.specs.declared.step.RunStep.{RunStep}
use Rattle.spec_run.specs.declared.step.StepKind.{StepKind}
use Rattle.spec_run.specs.declared.step.StepKind.TheVariants.{Cond, Eret, Exc, Ind, Isb, Jump, Plain}
use Rattle.trace_unit.proofs.AllEvents.{all_events, stands_first}
use Rattle.trace_unit.proofs.Matching.{MatchesBy}
use Rattle.trace_unit.proofs.RowLists.{length-rows}
use Rattle.trace_unit.proofs.Rows.{saved_of}
use Rattle.trace_unit.specs.Effects.{places_after, places_from, places_on}
use Rattle.trace_unit.specs.Places.{Left, Places, Saved, back_by, left_by, link_after, no_places, placed_behind}
use Rattle.trace_unit.specs.Places.{popped, pushed_by, saves, without_stack}
use Rattle.trace_unit.specs.Small.{IsWithin, unretired}

-- ---- return stacks

abbrev pub IsShallow : ℕ → Saved → Type 0
IsShallow most v = length v.stack ≤ most

record AreShallow (most : ℕ) (p : Places) : Type 0 where
  pub stack : length p.stack ≤ most
  pub stacks : All (IsShallow most) p.saved

pushed_few : (most : ℕ) (link : Option ℕ) (stack : List ℕ) → length stack ≤ most → length (pushed_by most link stack) ≤ most
pushed_few most None stack le = le
pushed_few most (Some addr) stack le = omega (arith, length-take most (addr ∷ stack))

popped_by : (most : ℕ) (test : Bool) (addr : ℕ) (stack : List ℕ) → length (addr ∷ stack) ≤ most
    → let after : Left = if test then record { needs = false; stack = stack } else record { needs = true; stack = addr ∷ stack } in length after.stack ≤ most
popped_by most true addr stack le = omega (arith, le)
popped_by most false addr stack le = le

popped_few : (most next : ℕ) (stack : List ℕ) → length stack ≤ most → length (popped next stack).stack ≤ most
popped_few most next [] le = omega arith
popped_few most next (addr ∷ stack) le = popped_by most (addr == next) addr stack le

left_few : (most : ℕ) (kind : StepKind) (next : ℕ) (stack : List ℕ) → length stack ≤ most → length (left_by kind next stack).stack ≤ most
left_few most Plain next stack le = le
left_few most Isb next stack le = le
left_few most Jump next stack le = le
left_few most (Cond taken) next stack le = le
left_few most (Ind true) next stack le = le
left_few most (Ind false) next stack le = popped_few most next stack le
left_few most Eret next stack le = le
left_few most (Exc kind) next stack le = le

saves_few : (depth most : ℕ) (p : Places) (s : RunStep) → AreShallow most p → All (IsShallow most) (saves depth p s)
saves_few zero most p s few = few.stacks
saves_few (suc depth) most p s few =
    let v : Saved = record { stack = p.stack; context = s.ctx; start = p.start } in
    All-append (IsShallow most) p.saved (v ∷ []) few.stacks (All-cons (IsShallow most) v [] few.stack (All-nil (IsShallow most)))

behind_few : (depth most : ℕ) (p : Places) (s : RunStep) → AreShallow most p → AreShallow most (placed_behind depth most p s)
behind_few depth most p s few =
    record {
      stack = left_few most s.kind s.next (pushed_by most (link_after s) p.stack) (pushed_few most (link_after s) p.stack few.stack);
      stacks = saves_few depth most p s few;
    }

ran_few : (depth most : ℕ) (test : Bool) (p : Places) (s : RunStep) → AreShallow most p
    → AreShallow most (if test then placed_behind depth most p s else p)
ran_few depth most true p s few = behind_few depth most p s few
ran_few depth most false p s few = few

back_few : (most : ℕ) (p : Places) (gone : List Saved) → AreShallow most p → All (IsShallow most) gone → length (back_by p gone).stack ≤ most
back_few most p [] few all = few.stack
back_few most p (v ∷ gone) few all = all 0 v (omega arith)

emptied_few : (most : ℕ) (saved : List Saved) → All (IsShallow most) (map without_stack saved)
emptied_few most [] = All-nil (IsShallow most)
emptied_few most (v ∷ saved) = All-cons (IsShallow most) (without_stack v) (map without_stack saved) (omega arith) (emptied_few most saved)

event_few : (image : Image) (depth most : ℕ) (current : Option Running) (p : Places) (e : Effect) → AreShallow most p
    → AreShallow most (places_on image depth most current p e)
event_few image depth most None p (effect.Began addr ctx) few = record { stack = omega arith; stacks = All-nil (IsShallow most) }
event_few image depth most None p (effect.Ran s ctx) few = few
event_few image depth most None p (effect.Contexted ctx) few = few
event_few image depth most None p (effect.Retired n) few = few
event_few image depth most None p (effect.Cancelled n) few = few
event_few image depth most None p effect.Flipped few = few
event_few image depth most None p effect.Synced few = few
event_few image depth most None p effect.Overflowed few = few
event_few image depth most None p effect.Stopped few = few
event_few image depth most (Some r) p (effect.Began addr ctx) few = few
event_few image depth most (Some r) p (effect.Ran s ctx) few = ran_few depth most (is_p0 s) p s few
event_few image depth most (Some r) p (effect.Contexted ctx) few = few
event_few image depth most (Some r) p (effect.Retired n) few =
    record { stack = few.stack; stacks = All-drop (IsShallow most) (p0s (take n r.held)) p.saved few.stacks }
event_few image depth most (Some r) p (effect.Cancelled n) few =
    let q = p0s (newest n r.held) in
    record {
      stack = back_few most p (newest q p.saved) few (All-drop (IsShallow most) (length p.saved - q) p.saved few.stacks);
      stacks = All-take (IsShallow most) (length p.saved - q) p.saved few.stacks;
    }
event_few image depth most (Some r) p effect.Flipped few = record { stack = few.stack; stacks = few.stacks }
event_few image depth most (Some r) p effect.Synced few = record { stack = omega arith; stacks = emptied_few most p.saved }
event_few image depth most (Some r) p effect.Overflowed few = record { stack = few.stack; stacks = All-nil (IsShallow most) }
event_few image depth most (Some r) p effect.Stopped few = record { stack = few.stack; stacks = All-nil (IsShallow most) }

events_few : (image : Image) (depth most : ℕ) (x : Execution) (p : Places) (events : List Event) → AreShallow most p
    → AreShallow most (places_from image depth most x p events)
events_few image depth most x p [] few = few
events_few image depth most x p (e ∷ events) few =
    let does = effect_of image (place_in x) e in
    events_few image depth most (after_event image depth x e) (places_after image depth most x p does) events (event_few image depth most x.current p does few)

-- ---- what is saved

saved_are : (image : Image) (closed : List (List RunStep × Closing)) (current : Option Running) (p : Places) (r : Resolved) → MatchesBy image closed current p r
    → length p.saved ≡ unretired current
saved_are image closed None p r m = ap length m.saved
saved_are image closed (Some s) p r m =
    ap length m.saved ∙ length-map m.late saved_of ∙ length-rows (begun (fresh s.start) s.retired) m.late s.held m.unretired

pub keeps_little : (image : Image) (s : Sizes) (most : ℕ) (events : List Event) (x : Execution) → HasGap image → most ≤ most_addresses
    → AreEvents s events → run_after image s.depth events ≡ Ok x
    → IsWithin most (unretired x.current) (places_from image s.depth most at_first no_places events)
keeps_little image s most events x gap le given e =
    let all = all_events image gap s most at_first no_places unresolved 0 events x le (stands_first image s.depth) given e in
    let few = events_few image s.depth most at_first no_places events (record { stack = omega arith; stacks = All-nil (IsShallow most) }) in
    record {
      saved = saved_are image x.closed x.current (places_from image s.depth most at_first no_places events) all.0 all.2.matching;
      stack = few.stack;
      stacks = few.stacks;
    }
