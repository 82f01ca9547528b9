-- A P0 step that passes its checks makes no more P0 steps held than the depth.
use Rattle.std.proofs.Common.{◌≡◌, ℕ, zero, suc, ◌+◌, ◌≤◌, ◌<◌, Bool, true, false, List, Option, Some, None, refl, arith}
use Rattle.std.proofs.lemmas.Bool.Decides.{nat_tests}
use Rattle.std.specs.Prelude.{nat_le, ⊤}
use Rattle.std.specs.Option.{option_map}
use Rattle.a64_branches.specs.declared.class.Class.{Class}
use Rattle.etm_types.specs.declared.context.Ctx.{Ctx}
use Rattle.program_image.specs.Blocks.{class_at}
use Rattle.program_image.specs.declared.image.Image.{Image}
use Rattle.spec_run.specs.Checks.{aim_fault, aligned_fault, check, depth_fault, effect_of, exception_at, executed, executed_fault, or_else, place_of}
use Rattle.spec_run.specs.Checks.{ran_by, room_fault, step_fault, unless, word_fault}
use Rattle.spec_run.specs.Runs.{Running}
use Rattle.spec_run.specs.Steps.{is_p0, p0s}
use Rattle.spec_run.specs.declared.effect.Effect.{Effect}
use Rattle.spec_run.specs.declared.effect.Effect.TheVariants as effect
use Rattle.spec_run.specs.declared.event.Event.{Event}
use Rattle.spec_run.specs.declared.event.Event.TheVariants as event
use Rattle.spec_run.specs.declared.run_fault.RunFault.{RunFault}
use Rattle.spec_run.specs.declared.step.RunStep.{RunStep}

abbrev pub Fits : ℕ → List RunStep → RunStep → Type 0
Fits depth held s = is_p0 s ≡ true → 0 < depth → p0s held + 1 ≤ depth

abbrev pub HasRoomBy : ℕ → Option Running → Effect → Type 0
HasRoomBy depth (Some r) (effect.Ran s ctx) = Fits depth r.held s
HasRoomBy depth current e = ⊤

both : (a b : Option RunFault) → or_else a b ≡ None → (a ≡ None) × (b ≡ None)
both None b e = (refl, e)
both (Some fault) b e = absurd cc

passes : (b : Bool) (fault : RunFault) → unless b fault ≡ None → b ≡ true
passes true fault e = refl
passes false fault e = absurd cc

few : (n m : ℕ) → nat_le n m ≡ true → n ≤ m
few n m e = grind (arith, nat_tests, e)

room_by : (depth : ℕ) (p0 : Bool) (held : ℕ) → depth_fault depth p0 held ≡ None → p0 ≡ true → 0 < depth → held + 1 ≤ depth
room_by zero p0 held f e lt = absurd (omega (arith, lt))
room_by (suc depth) true held f e lt = few (held + 1) (suc depth) (passes _ _ f)
room_by (suc depth) false held f e lt = absurd cc

room : (depth : ℕ) (held : List RunStep) (s : RunStep) → room_fault depth held s ≡ None → Fits depth held s
room depth held s f = room_by depth (is_p0 s) (p0s held) (both (depth_fault depth (is_p0 s) (p0s held)) _ f).0

ran_room : (depth : ℕ) (r : Running) (e : Event) (step : Option (RunStep × Ctx)) → executed_fault depth (place_of r) e step ≡ None
    → HasRoomBy depth (Some r) (ran_by step)
ran_room depth r e None f = tt
ran_room depth r e (Some step) f = room depth r.held step.0 (both (aim_fault e) _ f).1

step_room : (depth : ℕ) (c : Option Class) (r : Running) (e : Event) → step_fault depth c (place_of r) e ≡ None
    → HasRoomBy depth (Some r) (ran_by (executed c (place_of r) e))
step_room depth c r e f = ran_room depth r e (executed c (place_of r) e) (both (word_fault c r.pc) _ f).1

pub room_for : (image : Image) (depth : ℕ) (current : Option Running) (e : Event) → check image depth (option_map place_of current) e ≡ None
    → HasRoomBy depth current (effect_of image (option_map place_of current) e)
room_for image depth None e f = tt
room_for image depth (Some r) (event.On addr ctx) f = tt
room_for image depth (Some r) event.Step f = step_room depth (class_at image r.pc) r event.Step f
room_for image depth (Some r) event.Taken f = step_room depth (class_at image r.pc) r event.Taken f
room_for image depth (Some r) event.NotTaken f = step_room depth (class_at image r.pc) r event.NotTaken f
room_for image depth (Some r) (event.To addr) f = step_room depth (class_at image r.pc) r (event.To addr) f
room_for image depth (Some r) (event.Eret addr ctx) f = step_room depth (class_at image r.pc) r (event.Eret addr ctx) f
room_for image depth (Some r) (event.Exc kind addr ctx) f = room depth r.held (exception_at (place_of r) kind addr) (both (aligned_fault addr) _ f).1
room_for image depth (Some r) (event.Context ctx) f = tt
room_for image depth (Some r) (event.Retire n) f = tt
room_for image depth (Some r) (event.Cancel n) f = tt
room_for image depth (Some r) event.Flip f = tt
room_for image depth (Some r) event.Sync f = tt
room_for image depth (Some r) event.Overflow f = tt
room_for image depth (Some r) event.Off f = tt
