-- The fields of a run, and what of them shows.
use Rattle.std.specs.Prelude.{◌≡◌, ℕ, zero, suc, ◌<◌, ◌≤◌, false, List, [], length, Option, Some, None, Result, Ok, Err, ⊤}
use Rattle.circular_buffer.specs.Buffer.{Buffer}
use Rattle.etm_types.specs.declared.context.Ctx.{Ctx}
use Rattle.program_image.specs.Blocks.{behind}
use Rattle.program_image.specs.declared.image.Image.{Image}
use Rattle.spec_run.specs.Checks.{Situation, check, effect_of, step_at, window}
use Rattle.spec_run.specs.Effects.{place_ran}
use Rattle.spec_run.specs.Steps.{p0s}
use Rattle.spec_run.specs.declared.effect.Effect.{Effect}
use Rattle.spec_run.specs.declared.effect.Effect.TheVariants as effect
use Rattle.spec_run.specs.declared.event.Event.{Event}
use Rattle.spec_run.specs.declared.event.Event.TheVariants as event
use Rattle.spec_run.specs.declared.run_fault.RunFault.{RunFault}
use Rattle.spec_run.specs.declared.standing.Standing.{Standing}
use Rattle.spec_run.specs.declared.step.RunStep.{RunStep}
use Rattle.spec_run.specs.declared.step.StepKind.TheVariants.{Plain}

abbrev pub place_of_standing : Standing → List RunStep → Situation
place_of_standing s held = record { held = held; after_isb = s.after_isb; pc = s.pc; ctx = s.ctx }

abbrev pub place_by : Option Standing → List RunStep → Option Situation
place_by None held = None
place_by (Some s) held = Some (place_of_standing s held)

-- an ERET gives the context behind it
abbrev pub ctx_behind : Ctx → Event → Ctx
ctx_behind ctx (event.Eret addr there) = there
ctx_behind ctx e = ctx

-- the ring has room for the whole window, and holds no more; its P0 steps are counted; nothing is held while tracing is off, or at depth 0
pub record IsWindow (depth : ℕ) (held : Buffer RunStep) (p0 : ℕ) (standing : Option Standing) : Type 0 where
  pub room : held.capacity ≡ window
  pub within : length held.items ≤ window
  pub counted : p0 ≡ p0s held.items
  pub off : standing ≡ None → held.items ≡ []
  pub flat : depth ≡ 0 → held.items ≡ []

-- what an event does, or the first of its checks that fails
abbrev pub planned_by : Option RunFault → Effect → Result Effect RunFault
planned_by None effect = Ok effect
planned_by (Some fault) effect = Err fault

abbrev pub planned : Image → ℕ → Option Situation → Event → Result Effect RunFault
planned image depth place e = planned_by (check image depth place e) (effect_of image place e)

-- ---- plain steps

-- one, and so many one after the other
abbrev pub place_stepped : ℕ → Situation → Situation
place_stepped depth p = place_ran depth p (step_at p Plain (behind p.pc 1) false) p.ctx

abbrev pub place_stepped_all : ℕ → Situation → ℕ → Situation
place_stepped_all depth p zero = p
place_stepped_all depth p (suc n) = place_stepped depth (place_stepped_all depth p n)

-- ---- room

-- there is room for a step that an effect holds
abbrev pub RoomInWindow : Effect → List RunStep → Type 0
RoomInWindow (effect.Ran s ctx) held = length held < window
RoomInWindow e held = ⊤
