-- An event that passes its checks suits the run.
use Rattle.std.proofs.Common.{◌≡◌, ℕ, Bool, true, false, Option, Some, None, refl, ap}
use Rattle.a64_branches.specs.declared.class.Class.{Class}
use Rattle.etm_types.specs.declared.context.Ctx.{Ctx}
use Rattle.program_image.specs.Blocks.{class_at}
use Rattle.program_image.specs.declared.image.Image.{Image}
use Rattle.spec_run.specs.Checks.{Situation, check, effect_of, executed, executed_fault, or_else, place_of, ran_by, step_fault, unless, word_fault}
use Rattle.spec_run.specs.Runs.{Running}
use Rattle.spec_run.specs.Steps.{ends_in_cond, ends_in_isb}
use Rattle.spec_run.specs.declared.event.Event.{Event}
use Rattle.spec_run.specs.declared.event.Event.TheVariants as event
use Rattle.spec_run.specs.declared.run_fault.RunFault.{RunFault}
use Rattle.spec_run.specs.declared.run_fault.RunFault.TheVariants as fault
use Rattle.spec_run.specs.declared.step.RunStep.{RunStep}
use Rattle.trace_unit.proofs.EventFollowed.{Suits, place_by}
use Rattle.trace_unit.proofs.Rooms.{HasRoomBy, room_for}
use Rattle.trace_unit.specs.Agreeing.{retired_to, running_at, running_by}

passes : (b : Bool) (fault : RunFault) → unless b fault ≡ None → b ≡ true
passes true fault e = refl
passes false fault e = absurd cc

both : (a b : Option RunFault) → or_else a b ≡ None → (a ≡ None) × (b ≡ None)
both None b e = (refl, e)
both (Some fault) b e = absurd cc

-- a step is executed, for which there is room
ran_suits : (depth : ℕ) (r : Running) (e : Event) (step : Option (RunStep × Ctx)) → executed_fault depth (place_of r) e step ≡ None
    → HasRoomBy depth (Some r) (ran_by step) → Suits depth (Some r) (ran_by step)
ran_suits depth r e None f room = absurd cc
ran_suits depth r e (Some step) f room = room

step_suits : (depth : ℕ) (r : Running) (c : Option Class) (e : Event) → step_fault depth c (place_of r) e ≡ None
    → HasRoomBy depth (Some r) (ran_by (executed c (place_of r) e)) → Suits depth (Some r) (ran_by (executed c (place_of r) e))
step_suits depth r c e f room = ran_suits depth r e (executed c (place_of r) e) (both (word_fault c r.pc) _ f).1 room

pub suits_so : (image : Image) (depth : ℕ) (current : Option Running) (e : Event) → check image depth (place_by current) e ≡ None
    → Suits depth current (effect_of image (place_by current) e)
suits_so image depth None (event.On addr ctx) f = tt
suits_so image depth None e f = absurd cc
suits_so image depth (Some r) (event.On addr ctx) f = absurd cc
suits_so image depth (Some r) (event.Exc kind addr ctx) f = room_for image depth (Some r) (event.Exc kind addr ctx) f
suits_so image depth (Some r) (event.Context ctx) f = tt
suits_so image depth (Some r) (event.Retire n) f = tt
suits_so image depth (Some r) (event.Cancel n) f = tt
suits_so image depth (Some r) event.Flip f = passes (ends_in_cond r.held) fault.NoBranchToFlip f
suits_so image depth (Some r) event.Sync f = tt
suits_so image depth (Some r) event.Overflow f = tt
suits_so image depth (Some r) event.Off f = tt
suits_so image depth (Some r) event.Step f = step_suits depth r (class_at image r.pc) event.Step f (room_for image depth (Some r) event.Step f)
suits_so image depth (Some r) event.Taken f = step_suits depth r (class_at image r.pc) event.Taken f (room_for image depth (Some r) event.Taken f)
suits_so image depth (Some r) event.NotTaken f = step_suits depth r (class_at image r.pc) event.NotTaken f (room_for image depth (Some r) event.NotTaken f)
suits_so image depth (Some r) (event.To addr) f = step_suits depth r (class_at image r.pc) (event.To addr) f (room_for image depth (Some r) (event.To addr) f)
suits_so image depth (Some r) (event.Eret addr ctx) f =
    step_suits depth r (class_at image r.pc) (event.Eret addr ctx) f (room_for image depth (Some r) (event.Eret addr ctx) f)

-- ---- a run at a place

isb_there : (b : Bool) → ends_in_isb (retired_to b) ≡ b
isb_there true = refl
isb_there false = refl

at_place : (q : Situation) → place_of (running_at q) ≡ q
at_place q = ap (λ b. record q { after_isb = b }) (isb_there q.after_isb)

pub is_there : (place : Option Situation) → place_by (running_by place) ≡ place
is_there None = refl
is_there (Some q) = ap (λ (p : Situation). Some p) (at_place q)
