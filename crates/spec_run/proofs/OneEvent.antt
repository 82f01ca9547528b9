-- One event behind others: it is refused, or the run stands behind it.
use Rattle.std.proofs.Common.{◌≡◌, ℕ, zero, suc, ◌+◌, ◌<◌, Bool, true, false, List, [], ◌∷◌, ◌++◌, length, drop, take, Option, Some, None, Result, Ok, Err}
use Rattle.std.proofs.Common.{refl, sym, ap, ◌∙◌, arith, rules}
use Rattle.std.proofs.lemmas.Bool.Decides.{nat_tests}
use Rattle.std.specs.Prelude.{nat_lt}
use Rattle.etm_types.specs.Settings.{Sizes}
use Rattle.etm_types.specs.declared.context.Ctx.{Ctx}
use Rattle.a64_branches.specs.declared.class.Class.{Class}
use Rattle.program_image.specs.Blocks.{class_at}
use Rattle.program_image.specs.declared.image.Image.{Image}
use Rattle.spec_run.specs.Checks.{Situation, aligned_fault, aim_fault, check, depth_fault, effect_of, exception_at, executed, executed_fault, or_else}
use Rattle.spec_run.specs.Checks.{held_at, place_of, ran_by, room_fault, step_fault, unless, window, word_fault}
use Rattle.spec_run.specs.Effects.{applied_on, place_after}
use Rattle.spec_run.specs.RunAfter.{after_event, go_on, place_in, run_after, run_from}
use Rattle.spec_run.specs.Runs.{Closing, Execution, Running, at_first}
use Rattle.spec_run.specs.Stands.{Kept, StandsAt}
use Rattle.spec_run.specs.Steps.{is_p0, p0s}
use Rattle.spec_run.specs.Windows.{RoomInWindow, planned, planned_by}
use Rattle.spec_run.specs.declared.effect.Effect.{Effect}
use Rattle.spec_run.specs.declared.effect.Effect.TheVariants as effect
use Rattle.spec_run.specs.declared.event.Event.{Event}
use Rattle.spec_run.specs.declared.event.Event.TheVariants as event
use Rattle.spec_run.specs.declared.run_fault.RunFault.{RunFault}
use Rattle.spec_run.specs.declared.run_fault.RunFault.TheVariants as fault
use Rattle.spec_run.specs.declared.step.RunStep.{RunStep}
use Rattle.spec_run.proofs.Held.{isb_at, isb_joined}

-- ---- a step that is accepted has room

second : (a b : Option RunFault) → or_else a b ≡ None → b ≡ None
second None b h = h
second (Some fault) b h = absurd cc

below : (n m : ℕ) (fault : RunFault) → unless (nat_lt n m) fault ≡ None → n < m
below n m fault h = by_test n m (nat_lt n m) fault refl h
  where
    by_test : (n m : ℕ) (test : Bool) (fault : RunFault) → nat_lt n m ≡ test → unless test fault ≡ None → n < m
    by_test n m true fault e h = search (rules, nat_tests)
    by_test n m false fault e h = absurd cc

has_room : (depth : ℕ) (held : List RunStep) (s : RunStep) → room_fault depth held s ≡ None → length held < window
has_room depth held s h = below (length held) window fault.WindowFull (second (depth_fault depth (is_p0 s) (p0s held)) _ h)

ran_has_room : (depth : ℕ) (p : Situation) (e : Event) (step : Option (RunStep × Ctx)) → executed_fault depth p e step ≡ None → RoomInWindow (ran_by step) p.held
ran_has_room depth p e None h = tt
ran_has_room depth p e (Some step) h = has_room depth p.held step.0 (second (aim_fault e) _ h)

step_has_room : (depth : ℕ) (class : Option Class) (p : Situation) (e : Event) → step_fault depth class p e ≡ None → RoomInWindow (ran_by (executed class p e)) p.held
step_has_room depth class p e h = ran_has_room depth p e (executed class p e) (second (word_fault class p.pc) _ h)

pub room_for : (image : Image) (depth : ℕ) (place : Option Situation) (e : Event) → check image depth place e ≡ None
    → RoomInWindow (effect_of image place e) (held_at place)
room_for image depth None (event.On addr ctx) h = tt
room_for image depth None event.Step h = tt
room_for image depth None event.Taken h = tt
room_for image depth None event.NotTaken h = tt
room_for image depth None (event.To addr) h = tt
room_for image depth None (event.Eret addr ctx) h = tt
room_for image depth None (event.Exc kind addr ctx) h = tt
room_for image depth None (event.Context ctx) h = tt
room_for image depth None (event.Retire n) h = tt
room_for image depth None (event.Cancel n) h = tt
room_for image depth None event.Flip h = tt
room_for image depth None event.Sync h = tt
room_for image depth None event.Overflow h = tt
room_for image depth None event.Off h = tt
room_for image depth (Some p) (event.On addr ctx) h = tt
room_for image depth (Some p) event.Step h = step_has_room depth (class_at image p.pc) p event.Step h
room_for image depth (Some p) event.Taken h = step_has_room depth (class_at image p.pc) p event.Taken h
room_for image depth (Some p) event.NotTaken h = step_has_room depth (class_at image p.pc) p event.NotTaken h
room_for image depth (Some p) (event.To addr) h = step_has_room depth (class_at image p.pc) p (event.To addr) h
room_for image depth (Some p) (event.Eret addr ctx) h = step_has_room depth (class_at image p.pc) p (event.Eret addr ctx) h
room_for image depth (Some p) (event.Exc kind addr ctx) h = has_room depth p.held (exception_at p kind addr) (second (aligned_fault addr) _ h)
room_for image depth (Some p) (event.Context ctx) h = tt
room_for image depth (Some p) (event.Retire n) h = tt
room_for image depth (Some p) (event.Cancel n) h = tt
room_for image depth (Some p) event.Flip h = tt
room_for image depth (Some p) event.Sync h = tt
room_for image depth (Some p) event.Overflow h = tt
room_for image depth (Some p) event.Off h = tt

-- ---- the place behind what an event does

step_begins_nothing : (step : Option (RunStep × Ctx)) (addr : ℕ) (ctx : Ctx) → ran_by step ≡ effect.Began addr ctx → ⊥
step_begins_nothing None addr ctx h = cc
step_begins_nothing (Some step) addr ctx h = cc

begins_nothing : (image : Image) (p : Situation) (e : Event) (addr : ℕ) (ctx : Ctx) → effect_of image (Some p) e ≡ effect.Began addr ctx → ⊥
begins_nothing image p (event.On a c) addr ctx h = cc
begins_nothing image p event.Step addr ctx h = step_begins_nothing _ addr ctx h
begins_nothing image p event.Taken addr ctx h = step_begins_nothing _ addr ctx h
begins_nothing image p event.NotTaken addr ctx h = step_begins_nothing _ addr ctx h
begins_nothing image p (event.To a) addr ctx h = step_begins_nothing _ addr ctx h
begins_nothing image p (event.Eret a c) addr ctx h = step_begins_nothing _ addr ctx h
begins_nothing image p (event.Exc kind a c) addr ctx h = cc
begins_nothing image p (event.Context c) addr ctx h = cc
begins_nothing image p (event.Retire n) addr ctx h = cc
begins_nothing image p (event.Cancel n) addr ctx h = cc
begins_nothing image p event.Flip addr ctx h = cc
begins_nothing image p event.Sync addr ctx h = cc
begins_nothing image p event.Overflow addr ctx h = cc
begins_nothing image p event.Off addr ctx h = cc

place_on : (image : Image) (depth : ℕ) (x : Execution) (r : Running) (does : Effect) → ((addr : ℕ) (ctx : Ctx) → does ≡ effect.Began addr ctx → ⊥)
    → place_in (applied_on image depth (record x { current = Some r }) (Some r) does) ≡ place_after image depth (Some (place_of r)) does
place_on image depth x r (effect.Began addr ctx) h = absurd (h addr ctx refl)
place_on image zero x r (effect.Ran s ctx) h =
    ap (λ (p : Situation). Some p) (λ k. record { held = r.held; after_isb = isb_at false r.retired s k; pc = s.next; ctx = ctx })
place_on image (suc depth) x r (effect.Ran s ctx) h = refl
place_on image depth x r (effect.Contexted ctx) h = refl
place_on image depth x r (effect.Retired n) h =
    ap (λ (p : Situation). Some p) (λ k. record { held = drop n r.held; after_isb = isb_joined false r.retired (take n r.held) k; pc = r.pc; ctx = r.ctx })
place_on image depth x r (effect.Cancelled n) h = refl
place_on image depth x r effect.Flipped h = refl
place_on image depth x r effect.Synced h = refl
place_on image depth x r effect.Overflowed h = refl
place_on image depth x r effect.Stopped h = refl

place_off : (image : Image) (depth : ℕ) (closed : List (List RunStep × Closing)) (e : Event) → check image depth None e ≡ None
    → place_in (applied_on image depth (record { closed = closed; current = None }) None (effect_of image None e))
    ≡ place_after image depth None (effect_of image None e)
place_off image depth closed (event.On addr ctx) h = refl
place_off image depth closed event.Step h = absurd cc
place_off image depth closed event.Taken h = absurd cc
place_off image depth closed event.NotTaken h = absurd cc
place_off image depth closed (event.To addr) h = absurd cc
place_off image depth closed (event.Eret addr ctx) h = absurd cc
place_off image depth closed (event.Exc kind addr ctx) h = absurd cc
place_off image depth closed (event.Context ctx) h = absurd cc
place_off image depth closed (event.Retire n) h = absurd cc
place_off image depth closed (event.Cancel n) h = absurd cc
place_off image depth closed event.Flip h = absurd cc
place_off image depth closed event.Sync h = absurd cc
place_off image depth closed event.Overflow h = absurd cc
place_off image depth closed event.Off h = absurd cc

place_by_cases : (image : Image) (depth : ℕ) (closed : List (List RunStep × Closing)) (current : Option Running) (e : Event)
    → let x : Execution = record { closed = closed; current = current } in check image depth (place_in x) e ≡ None
    → place_in (after_event image depth x e) ≡ place_after image depth (place_in x) (effect_of image (place_in x) e)
place_by_cases image depth closed None e h = place_off image depth closed e h
place_by_cases image depth closed (Some r) e h =
    place_on image depth (record { closed = closed; current = Some r }) r _ (begins_nothing image (place_of r) e)

pub place_behind : (image : Image) (depth : ℕ) (x : Execution) (e : Event) → check image depth (place_in x) e ≡ None
    → place_in (after_event image depth x e) ≡ place_after image depth (place_in x) (effect_of image (place_in x) e)
place_behind image depth x e h = place_by_cases image depth x.closed x.current e h

-- ---- events behind others

goes_on : (fault : Option RunFault) (n : ℕ) (rest : Result Execution (ℕ × RunFault)) (y : Execution)
    → go_on fault n rest ≡ Ok y → (fault ≡ None) × (rest ≡ Ok y)
goes_on None n rest y h = (refl, h)
goes_on (Some fault) n rest y h = absurd cc

run_on : (image : Image) (depth : ℕ) (x : Execution) (n : ℕ) (events more : List Event) (y : Execution) → run_from image depth x n events ≡ Ok y
    → run_from image depth x n (events ++ more) ≡ run_from image depth y (n + length events) more
run_on image depth x n [] more y h = let same : x ≡ y = cc in let none : n ≡ n + 0 = omega arith in rw (same, ← none) refl
run_on image depth x n (e ∷ events) more y h =
    let on = goes_on (check image depth (place_in x) e) n (run_from image depth (after_event image depth x e) (n + 1) events) y h in
    let count : n + 1 + length events ≡ n + length (e ∷ events) = omega arith in
    ap (λ fault. go_on fault n (run_from image depth (after_event image depth x e) (n + 1) (events ++ more))) on.0
    ∙ run_on image depth (after_event image depth x e) (n + 1) events more y on.1 ∙ ap (λ k. run_from image depth y k more) count

one_more : (image : Image) (depth : ℕ) (events : List Event) (e : Event) (x : Execution) → run_after image depth events ≡ Ok x
    → run_after image depth (events ++ e ∷ []) ≡ go_on (check image depth (place_in x) e) (length events) (Ok (after_event image depth x e))
one_more image depth events e x h =
    let count : 0 + length events ≡ length events = omega arith in
    run_on image depth at_first 0 events (e ∷ []) x h
    ∙ ap (λ k. go_on (check image depth (place_in x) e) k (Ok (after_event image depth x e))) count

-- ---- a run

checked : (image : Image) (s : Sizes) (kept : Kept) (events : List Event) (st : StandsAt image s kept events) (e : Event) (fault : Option RunFault)
    → check image kept.depth kept.place e ≡ fault → check image s.depth (place_in st.execution) e ≡ fault
checked image s kept events st e fault h =
    ap (λ d. check image d (place_in st.execution) e) (sym st.depth) ∙ ap (λ p. check image kept.depth p e) (sym st.place) ∙ h

pub stands_behind : (image : Image) (s : Sizes) (kept now : Kept) (events : List Event) (e : Event) → StandsAt image s kept events
    → check image kept.depth kept.place e ≡ None → now.depth ≡ kept.depth
    → now.place ≡ place_after image kept.depth kept.place (effect_of image kept.place e) → StandsAt image s now (events ++ e ∷ [])
stands_behind image s kept now events e st accepted same place =
    let there = checked image s kept events st e None accepted in
    record {
      depth = same ∙ st.depth;
      execution = after_event image s.depth st.execution e;
      after = one_more image s.depth events e st.execution st.after
          ∙ ap (λ fault. go_on fault (length events) (Ok (after_event image s.depth st.execution e))) there;
      place = place ∙ ap (λ p. place_after image kept.depth p (effect_of image p e)) st.place
          ∙ ap (λ d. place_after image d (place_in st.execution) (effect_of image (place_in st.execution) e)) st.depth
          ∙ sym (place_behind image s.depth st.execution e there);
    }

pub refused_behind : (image : Image) (s : Sizes) (kept : Kept) (events : List Event) (e : Event) (fault : RunFault) → StandsAt image s kept events
    → check image kept.depth kept.place e ≡ Some fault → run_after image s.depth (events ++ e ∷ []) ≡ Err (length events, fault)
refused_behind image s kept events e fault st refused =
    one_more image s.depth events e st.execution st.after
    ∙ ap (λ f. go_on f (length events) (Ok (after_event image s.depth st.execution e))) (checked image s kept events st e (Some fault) refused)

-- ---- what is planned

pub planned_as : (refusal : Option RunFault) (does taken : Effect) → Ok taken ≡ planned_by refusal does → (refusal ≡ None) × (taken ≡ does)
planned_as None does taken h = (refl, cc)
planned_as (Some fault) does taken h = absurd cc

pub planned_not : (refusal : Option RunFault) (does : Effect) (fault : RunFault) → Err fault ≡ planned_by refusal does → refusal ≡ Some fault
planned_not None does fault h = absurd cc
planned_not (Some other) does fault h = cc

pub planned_exception : (image : Image) (depth : ℕ) (p : Situation) (e : Event) (kind addr : ℕ) (ctx : Ctx) (s : RunStep) → e ≡ event.Exc kind addr ctx
    → None ≡ aligned_fault addr → s ≡ exception_at p kind addr
    → planned_by (room_fault depth p.held s) (effect.Ran s ctx) ≡ planned image depth (Some p) e
planned_exception image depth p e kind addr ctx s is aligned same = rw (is, same, ← aligned) refl
