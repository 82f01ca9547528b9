-- Events that pass their checks leave steps that the image allows.
use Rattle.std.proofs.Common.{◌≡◌, ℕ, zero, suc, ◌+◌, ◌-◌, ◌%◌, Bool, true, false, List, [], ◌∷◌, ◌++◌, length, Option, Some, None, Ok, refl, ap, subst, arith}
use Rattle.std.proofs.lemmas.Bool.{eqb-true}
use Rattle.std.specs.Prelude.{◌==◌, take, drop, ⊤}
use Rattle.std.specs.Option.{option_map}
use Rattle.etm_types.specs.Settings.{Sizes}
use Rattle.etm_types.specs.declared.context.Ctx.{Ctx}
use Rattle.a64_branches.specs.declared.class.Class.{Class}
use Rattle.a64_branches.specs.declared.class.Class.TheVariants as class
use Rattle.program_image.specs.Blocks.{class_at}
use Rattle.program_image.specs.declared.image.Image.{Image}
use Rattle.spec_run.proofs.EventsJoined.{passed, same_execution}
use Rattle.spec_run.proofs.StepsKept.{CanRun, IsFlat, begins_so, behind_place, cancels_so, cond_place, context_so, flips_so, jump_place, pc_place, retires_so}
use Rattle.spec_run.proofs.StepsKept.{runs_so, stretch_so}
use Rattle.spec_run.specs.Checks.{aligned_fault, check, effect_of, executed, or_else, place_of, ran_by, step_fault, unless}
use Rattle.spec_run.specs.Effects.{applied}
use Rattle.spec_run.specs.Executed.{AreStretches, IsPlace, IsRunningBy, IsStretch}
use Rattle.spec_run.specs.RunAfter.{AreEvents, IsEvent, after_event, place_in, run_after, run_from}
use Rattle.spec_run.specs.Runs.{ByOff, ByOverflow, Closing, Execution, Running, at_first, flips, runs}
use Rattle.spec_run.specs.Steps.{ends_in_cond, ends_in_isb, isb_behind}
use Rattle.spec_run.specs.declared.effect.Effect.{Effect}
use Rattle.spec_run.specs.declared.effect.Effect.TheVariants as effect
use Rattle.spec_run.specs.declared.event.Event.{Event}
use Rattle.spec_run.specs.declared.event.Event.TheVariants as event
use Rattle.spec_run.specs.declared.run_fault.RunFault.{RunFault}
use Rattle.spec_run.specs.declared.run_fault.RunFault.TheVariants as fault
use Rattle.spec_run.specs.declared.step.RunStep.{RunStep}

-- ---- checks

both : (a b : Option RunFault) → or_else a b ≡ None → (a ≡ None) × (b ≡ None)
both None b e = (refl, e)
both (Some fault) b e = absurd cc

passes : (b : Bool) (fault : RunFault) → unless b fault ≡ None → b ≡ true
passes true fault e = refl
passes false fault e = absurd cc

aligned : (addr : ℕ) → aligned_fault addr ≡ None → addr % 4 ≡ 0
aligned addr e = eqb-true (addr % 4) 0 (passes (addr % 4 == 0) (fault.Unaligned addr) e)

-- ---- what an effect wants of the steps before it

abbrev pub Allows : Image → Option Running → Effect → Type 0
Allows image None (effect.Began addr ctx) = IsPlace addr
Allows image (Some r) (effect.Ran t ctx) = CanRun image r t ctx
Allows image (Some r) (effect.Contexted ctx) = isb_behind (ends_in_isb r.retired) r.held ≡ true
Allows image (Some r) effect.Flipped = ends_in_cond r.held ≡ true
Allows image r e = ⊤

-- a step of the class of its word
step_allowed : (image : Image) (depth : ℕ) (s : Sizes) (r : Running) (c : Option Class) (e : Event) → class_at image r.pc ≡ c → IsPlace r.pc → IsEvent s e
    → step_fault depth c (place_of r) e ≡ None → Allows image (Some r) (ran_by (executed c (place_of r) e))
step_allowed image depth s r (Some class.Plain) event.Step at place given f =
    record { there = refl; context = refl; does = (at, refl, refl); next = behind_place r.pc 1 place.1; same = λ e. refl }
step_allowed image depth s r (Some class.Isb) event.Step at place given f =
    record { there = refl; context = refl; does = (at, refl, refl); next = behind_place r.pc 1 place.1; same = λ e. refl }
step_allowed image depth s r (Some (class.Jump offset link)) event.Taken at place given f =
    record { there = refl; context = refl; does = (offset, at, refl); next = jump_place image r.pc offset link place at; same = λ e. refl }
step_allowed image depth s r (Some (class.Cond offset)) event.Taken at place given f =
    record { there = refl; context = refl; does = (offset, at, refl, refl); next = cond_place image r.pc offset place.1 at; same = λ e. refl }
step_allowed image depth s r (Some (class.Cond offset)) event.NotTaken at place given f =
    record { there = refl; context = refl; does = (offset, at, refl, refl); next = behind_place r.pc 1 place.1; same = λ e. refl }
step_allowed image depth s r (Some (class.Ind link)) (event.To addr) at place given f =
    let g = both (aligned_fault addr) _ f in
    record { there = refl; context = refl; does = (at, refl); next = (given, aligned addr g.0); same = λ e. refl }
step_allowed image depth s r (Some class.Eret) (event.Eret addr ctx) at place given f =
    let g = both (aligned_fault addr) _ f in
    record { there = refl; context = refl; does = (at, refl); next = (given.0, aligned addr g.0); same = λ e. absurd cc }
step_allowed image depth s r c e at place given f = tt

pub allowed : (image : Image) (depth : ℕ) (s : Sizes) (current : Option Running) (e : Event) → IsRunningBy image current → IsEvent s e
    → check image depth (option_map place_of current) e ≡ None → Allows image current (effect_of image (option_map place_of current) e)
allowed image depth s None (event.On addr ctx) is given f = (given.0, aligned addr f)
allowed image depth s None e is given f = absurd cc
allowed image depth s (Some r) (event.On addr ctx) is given f = absurd cc
allowed image depth s (Some r) (event.Exc kind addr ctx) is given f =
    let g = both (aligned_fault addr) _ f in
    record { there = refl; context = refl; does = refl; next = (given.1, aligned addr g.0); same = λ e. absurd cc }
allowed image depth s (Some r) (event.Context ctx) is given f = passes (isb_behind (ends_in_isb r.retired) r.held) fault.ContextPlace f
allowed image depth s (Some r) (event.Retire n) is given f = tt
allowed image depth s (Some r) (event.Cancel n) is given f = tt
allowed image depth s (Some r) event.Flip is given f = passes (ends_in_cond r.held) fault.NoBranchToFlip f
allowed image depth s (Some r) event.Sync is given f = tt
allowed image depth s (Some r) event.Overflow is given f = tt
allowed image depth s (Some r) event.Off is given f = tt
allowed image depth s (Some r) event.Step is given f = step_allowed image depth s r (class_at image r.pc) event.Step refl (pc_place image r is) given f
allowed image depth s (Some r) event.Taken is given f = step_allowed image depth s r (class_at image r.pc) event.Taken refl (pc_place image r is) given f
allowed image depth s (Some r) event.NotTaken is given f = step_allowed image depth s r (class_at image r.pc) event.NotTaken refl (pc_place image r is) given f
allowed image depth s (Some r) (event.To addr) is given f =
    step_allowed image depth s r (class_at image r.pc) (event.To addr) refl (pc_place image r is) given f
allowed image depth s (Some r) (event.Eret addr ctx) is given f =
    step_allowed image depth s r (class_at image r.pc) (event.Eret addr ctx) refl (pc_place image r is) given f

-- ---- what an execution keeps

abbrev pub IsFlatBy : ℕ → Option Running → Type 0
IsFlatBy depth None = ⊤
IsFlatBy depth (Some r) = IsFlat depth r

pub record IsExecution (image : Image) (depth : ℕ) (closed : List (List RunStep × Closing)) (current : Option Running) : Type 0 where
  pub running : IsRunningBy image current
  pub stretches : AreStretches image closed
  pub flat : IsFlatBy depth current

abbrev pub Keeps : Image → ℕ → Execution → Type 0
Keeps image depth x = IsExecution image depth x.closed x.current

one_stretch_more : (image : Image) (closed : List (List RunStep × Closing)) (steps : List RunStep) (closing : Closing) → AreStretches image closed
    → IsStretch image steps
    → AreStretches image (closed ++ (steps, closing) ∷ [])
one_stretch_more image [] steps closing are is = (is, tt)
one_stretch_more image (c ∷ closed) steps closing are is = (are.0, one_stretch_more image closed steps closing are.1 is)

none_dropped : (n : ℕ) (xs : List RunStep) → xs ≡ [] → drop n xs ≡ []
none_dropped zero xs e = e
none_dropped (suc n) xs e = ap (drop (suc n)) e

none_taken : (n : ℕ) (xs : List RunStep) → xs ≡ [] → take n xs ≡ []
none_taken zero xs e = refl
none_taken (suc n) xs e = ap (take (suc n)) e

runs_flat : (depth : ℕ) (r : Running) (t : RunStep) (ctx : Ctx) → IsFlat depth r → IsFlat depth (runs depth r t ctx)
runs_flat zero r t ctx flat = flat
runs_flat (suc depth) r t ctx flat = λ e. absurd (omega (arith, e))

flips_flat : (image : Image) (depth : ℕ) (r : Running) → ends_in_cond r.held ≡ true → IsFlat depth r → IsFlat depth (flips image r)
flips_flat image depth r ends flat = λ e. absurd (let some : ends_in_cond [] ≡ true = subst (λ l. ends_in_cond l ≡ true) (flat e) ends in cc)

effect_kept : (image : Image) (depth : ℕ) (closed : List (List RunStep × Closing)) (current : Option Running) (e : Effect) → Allows image current e
    → IsExecution image depth closed current → Keeps image depth (applied image depth (record { closed = closed; current = current }) e)
effect_kept image depth closed None (effect.Began addr ctx) ok is =
    record { running = begins_so image addr ctx ok; stretches = is.stretches; flat = λ e. refl }
effect_kept image depth closed None (effect.Ran t ctx) ok is = is
effect_kept image depth closed None (effect.Contexted ctx) ok is = is
effect_kept image depth closed None (effect.Retired n) ok is = is
effect_kept image depth closed None (effect.Cancelled n) ok is = is
effect_kept image depth closed None effect.Flipped ok is = is
effect_kept image depth closed None effect.Synced ok is = is
effect_kept image depth closed None effect.Overflowed ok is = is
effect_kept image depth closed None effect.Stopped ok is = is
effect_kept image depth closed (Some r) (effect.Began addr ctx) ok is = is
effect_kept image depth closed (Some r) (effect.Ran t ctx) ok is =
    record { running = runs_so image depth r t ctx is.flat ok is.running; stretches = is.stretches; flat = runs_flat depth r t ctx is.flat }
effect_kept image depth closed (Some r) (effect.Contexted ctx) ok is =
    record { running = context_so image r ctx ok is.running; stretches = is.stretches; flat = is.flat }
effect_kept image depth closed (Some r) (effect.Retired n) ok is =
    record { running = retires_so image r n is.running; stretches = is.stretches; flat = λ e. none_dropped n r.held (is.flat e) }
effect_kept image depth closed (Some r) (effect.Cancelled n) ok is =
    record { running = cancels_so image r n is.running; stretches = is.stretches; flat = λ e. none_taken (length r.held - n) r.held (is.flat e) }
effect_kept image depth closed (Some r) effect.Flipped ok is =
    record { running = flips_so image r ok is.running; stretches = is.stretches; flat = flips_flat image depth r ok is.flat }
effect_kept image depth closed (Some r) effect.Synced ok is = is
effect_kept image depth closed (Some r) effect.Overflowed ok is =
    record { running = tt; stretches = one_stretch_more image closed r.retired ByOverflow is.stretches (stretch_so image r is.running); flat = tt }
effect_kept image depth closed (Some r) effect.Stopped ok is =
    record { running = tt; stretches = one_stretch_more image closed r.retired ByOff is.stretches (stretch_so image r is.running); flat = tt }

-- ---- events

pub event_kept : (image : Image) (depth : ℕ) (s : Sizes) (x : Execution) (e : Event) → IsEvent s e → check image depth (place_in x) e ≡ None
    → Keeps image depth x → Keeps image depth (after_event image depth x e)
event_kept image depth s x e given f is =
    effect_kept image depth x.closed x.current (effect_of image (place_in x) e) (allowed image depth s x.current e is.running given f) is

events_kept : (image : Image) (depth : ℕ) (s : Sizes) (x : Execution) (n : ℕ) (events : List Event) (y : Execution) → AreEvents s events → Keeps image depth x
    → run_from image depth x n events ≡ Ok y → Keeps image depth y
events_kept image depth s x n [] y given is e = subst (Keeps image depth) (same_execution x y e) is
events_kept image depth s x n (event ∷ events) y given is e =
    let next = after_event image depth x event in
    let p = passed (check image depth (place_in x) event) n (run_from image depth next (n + 1) events) y e in
    events_kept image depth s next (n + 1) events y given.1 (event_kept image depth s x event given.0 p.0 is) p.1

pub executed_so : (image : Image) (s : Sizes) (events : List Event) (x : Execution) → AreEvents s events → run_after image s.depth events ≡ Ok x
    → IsRunningBy image x.current × AreStretches image x.closed
executed_so image s events x given e =
    let first : Keeps image s.depth at_first = record { running = tt; stretches = tt; flat = tt } in
    let is = events_kept image s.depth s at_first 0 events x given first e in
    (is.running, is.stretches)
