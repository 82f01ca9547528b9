-- Plain steps that are executed one after the other, and taken together.
use Rattle.std.specs.Prelude.{◌≡◌, ◌⊎◌, ℕ, zero, suc, ◌-◌, min, false, List, [], ◌∷◌, length, Option, Some, None, ⊤}
use Rattle.etm_types.specs.declared.context.Ctx.{Ctx}
use Rattle.program_image.specs.Blocks.{IsBlock, behind}
use Rattle.program_image.specs.declared.block.Block.{Block}
use Rattle.program_image.specs.declared.image.Image.{Image}
use Rattle.spec_run.specs.Checks.{Situation, check, effect_of, window}
use Rattle.spec_run.specs.Effects.{place_after}
use Rattle.spec_run.specs.Executed.{IsPlace}
use Rattle.spec_run.specs.Stands.{OpenBlock, begun_behind}
use Rattle.spec_run.specs.declared.event.Event.{Event}
use Rattle.spec_run.specs.declared.step.RunStep.{RunStep}
use Rattle.spec_run.specs.declared.step.StepKind.TheVariants.{Plain}

-- ---- events one after the other

-- the place behind them
abbrev pub place_after_all : Image → ℕ → Option Situation → List Event → Option Situation
place_after_all image depth place [] = place
place_after_all image depth place (e ∷ events) = place_after_all image depth (place_after image depth place (effect_of image place e)) events

-- none of them is refused
abbrev pub AllPass : Image → ℕ → Option Situation → List Event → Type 0
AllPass image depth place [] = ⊤
AllPass image depth place (e ∷ events) =
    (check image depth place e ≡ None) × AllPass image depth (place_after image depth place (effect_of image place e)) events

-- ---- how many steps are taken together

-- so many, as far as there is room for them among the held steps; at depth 0 none is held
abbrev pub room_for_steps : ℕ → List RunStep → ℕ → ℕ
room_for_steps zero held n = n
room_for_steps (suc depth) held n = min n (window - length held)

-- the least of what is asked for, of the plain words from the pc on, and of the room
pub record IsLeast (image : Image) (depth : ℕ) (p : Situation) (asked count : ℕ) : Type 0 where
  pub place : IsPlace p.pc
  pub block : Block
  pub is : IsBlock image p.pc block
  pub least : count ≡ min block.plain (room_for_steps depth p.held asked)

-- none while tracing is off, or where no instruction may stand at the pc
abbrev pub IsStepCount : Image → ℕ → Option Situation → ℕ → ℕ → Type 0
IsStepCount image depth None asked count = count ≡ 0
IsStepCount image depth (Some p) asked count = IsLeast image depth p asked count ⊎ ((IsPlace p.pc → ⊥) × (count ≡ 0))

-- ---- the steps

-- the plain step at an address, and so many from it on, in a context
abbrev pub plain_step : ℕ → Ctx → RunStep
plain_step addr ctx = record { addr = addr; ctx = ctx; kind = Plain; next = behind addr 1; link = false }

abbrev pub plain_steps : ℕ → Ctx → ℕ → List RunStep
plain_steps addr ctx zero = []
plain_steps addr ctx (suc n) = plain_step addr ctx ∷ plain_steps (behind addr 1) ctx n

-- what is begun of a retired path behind steps
abbrev pub begun_behind_all : OpenBlock → List RunStep → OpenBlock
begun_behind_all b [] = b
begun_behind_all b (s ∷ steps) = begun_behind_all (begun_behind b s) steps
