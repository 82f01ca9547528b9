-- The values of what is told: those that the fields of packets have room for (Arm IHI 0064, "Descriptions of Trace Packets").
use Rattle.std.specs.Prelude.{◌^◌, ◌<◌, ◌≤◌, All, length, Option, Some, None, ⊤}
use Rattle.address_history.specs.Forms.{IsHistory}
use Rattle.etm_types.specs.Settings.{FitsSettings, Sizes}
use Rattle.spec_run.specs.Checks.{window}
use Rattle.spec_run.specs.Executed.{IsPlace}
use Rattle.spec_run.specs.Runs.{Running}
use Rattle.spec_run.specs.declared.step.RunStep.{RunStep}
use Rattle.trace_unit.specs.Orders.{Address, Context, Exception, ExceptionAtTarget, Notice, On, Order, Place, Start, Sync, Tell, target_notice}
use Rattle.trace_unit.specs.Packets.{Shared}
use Rattle.trace_unit.specs.Places.{Places, Saved}
use Rattle.trace_unit.specs.Whole.{PutOff}

-- a trace info announces a number of 32 bits, addresses are those of instructions, and contexts fit the sizes
abbrev pub FitsNotice : Sizes → Notice → Type 0
FitsNotice s (Sync n) = n < 2 ^ 32
FitsNotice s On = ⊤
FitsNotice s (Start addr ctx) = IsPlace addr × FitsSettings s ctx
FitsNotice s (Place addr ctx) = IsPlace addr × FitsSettings s ctx
FitsNotice s (Address addr) = IsPlace addr
FitsNotice s (Context ctx) = FitsSettings s ctx

-- and there are 32 kinds of exceptions
abbrev pub FitsOrder : Sizes → Order → Type 0
FitsOrder s (Tell notice) = FitsNotice s notice
FitsOrder s (Exception kind ret) = (kind < 32) × IsPlace ret
FitsOrder s (ExceptionAtTarget context kind addr) = (kind < 32) × FitsNotice s (target_notice context addr)
FitsOrder s order = ⊤

-- what both ends have: three addresses of 64 bits, and a context that fits the sizes
pub record IsShared (s : Sizes) (shared : Shared) : Type 0 where
  pub history : IsHistory shared.history
  pub context : FitsSettings s shared.context

-- what is to be cancelled and committed are numbers of 32 bits
pub record IsCounted (u : PutOff) : Type 0 where
  pub cancels : u.cancels < 2 ^ 32
  pub commits : u.commits < 2 ^ 32

-- ---- a run, from which the values of orders come

-- a step stands at the address of an instruction, and its context fits
pub record FitsStep (s : Sizes) (t : RunStep) : Type 0 where
  pub addr : IsPlace t.addr
  pub ctx : FitsSettings s t.ctx

pub record FitsRunning (s : Sizes) (r : Running) : Type 0 where
  pub pc : IsPlace r.pc
  pub ctx : FitsSettings s r.ctx
  pub held : All (FitsStep s) r.held
  pub few : length r.held ≤ window

abbrev pub FitsRun : Sizes → Option Running → Type 0
FitsRun s None = ⊤
FitsRun s (Some r) = FitsRunning s r

-- blocks start at instructions
pub record FitsPlaces (p : Places) : Type 0 where
  pub start : IsPlace p.start
  pub saved : All (λ (v : Saved). IsPlace v.start) p.saved
