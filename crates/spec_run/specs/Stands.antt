-- What a run and a retired path keep, and at which events and steps they stand.
use Rattle.std.specs.Prelude.{◌≡◌, ℕ, ◌+◌, ◌<◌, ◌==◌, Bool, false, not, if◌then◌else◌, List, [], ◌∷◌, map, Option, Some, None, Result, Ok, Err}
use Rattle.etm_types.specs.Settings.{Sizes}
use Rattle.etm_types.specs.Walked.{instructions, items_of}
use Rattle.etm_types.specs.declared.context.Ctx.{Ctx}
use Rattle.etm_types.specs.declared.item.Item.{Item}
use Rattle.etm_types.specs.declared.walked.Walked.{Walked}
use Rattle.program_image.specs.Blocks.{behind}
use Rattle.program_image.specs.declared.image.Image.{Image}
use Rattle.spec_run.specs.Checks.{Situation}
use Rattle.spec_run.specs.Kinds.{took_of}
use Rattle.spec_run.specs.RetiredItems.{has_p0, item_of}
use Rattle.spec_run.specs.RunAfter.{place_in, run_after}
use Rattle.spec_run.specs.Runs.{Execution}
use Rattle.spec_run.specs.Steps.{is_p0}
use Rattle.spec_run.specs.declared.event.Event.{Event}
use Rattle.spec_run.specs.declared.run_fault.RunFault.{RunFault}
use Rattle.spec_run.specs.declared.step.RunStep.{RunStep}
use Rattle.spec_run.specs.declared.step.StepKind.{StepKind}
use Rattle.spec_run.specs.declared.step.StepKind.TheVariants.{Exc}

-- ---- a run

-- the maximum speculation depth, and where the run is, where tracing is on
pub record Kept : Type 0 where
  pub depth : ℕ
  pub place : Option Situation

-- the run stands behind these events, which are all accepted
pub record StandsAt (image : Image) (s : Sizes) (kept : Kept) (events : List Event) : Type 0 where
  pub depth : kept.depth ≡ s.depth
  pub execution : Execution
  pub after : run_after image s.depth events ≡ Ok execution
  pub place : kept.place ≡ place_in execution

-- the refusal of an answer, where it is one
abbrev pub refused_by : {X : Type 0} → Result X RunFault → Option RunFault
refused_by (Ok x) = None
refused_by (Err fault) = Some fault

-- ---- a retired path

-- what is begun: whether no block was given since tracing was turned on, and the plain steps since the last block
pub record OpenBlock : Type 0 where
  pub first : Bool
  pub start : ℕ
  pub plain : ℕ
  pub ctx : Ctx

-- a step goes on the begun block, where that has a step
abbrev pub Follows : OpenBlock → RunStep → Type 0
Follows b s = 0 < b.plain → (s.addr ≡ behind b.start b.plain) × (s.ctx ≡ b.ctx)

-- the steps behind the last P0 step
abbrev pub behind_last_p0 : List RunStep → List RunStep
behind_last_p0 [] = []
behind_last_p0 (s ∷ steps) = if has_p0 (s ∷ steps) then behind_last_p0 steps else s ∷ steps

-- it stands behind these steps since tracing was turned on
pub record PathStandsAt (b : OpenBlock) (steps : List RunStep) : Type 0 where
  pub first : b.first ≡ not (has_p0 steps)
  pub begun : map item_of (behind_last_p0 steps) ≡ instructions b.ctx b.start b.plain false

-- the start of the block with a step at its end
abbrev pub start_with : OpenBlock → RunStep → ℕ
start_with b s = if b.plain == 0 then s.addr else b.start

-- the block that a P0 step ends: an exception is no instruction
abbrev pub walked_by : OpenBlock → StepKind → RunStep → Walked
walked_by b (Exc kind) s =
    record {
      on = b.first;
      unknown = false;
      ctx = s.ctx;
      start = start_with b s;
      count = b.plain;
      took = false;
      exc = Some (record { kind = kind; ret = s.addr });
    }
walked_by b kind s = record
    { on = b.first; unknown = false; ctx = s.ctx; start = start_with b s; count = b.plain + 1; took = took_of kind; exc = None }

abbrev pub shown_by : OpenBlock → RunStep → Option Walked
shown_by b s = if is_p0 s then Some (walked_by b s.kind s) else None

abbrev pub items_shown : Option Walked → List Item
items_shown None = []
items_shown (Some w) = items_of w

-- what is begun behind a step
abbrev pub begun_behind : OpenBlock → RunStep → OpenBlock
begun_behind b s =
    if is_p0 s then record b { first = false; plain = 0 } else record { first = b.first; start = start_with b s; plain = b.plain + 1; ctx = s.ctx }
