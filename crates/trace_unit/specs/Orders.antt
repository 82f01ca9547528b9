-- The orders of a run: what a trace unit has to tell, whether it writes it at once or puts some of it off, and whichever packets tell
-- it.
use Rattle.std.specs.Prelude.{ℕ, ◌==◌, ◌&&◌, Bool, true, false, List, [], ◌∷◌, ◌++◌, Option, Some, None}
use Rattle.etm_types.specs.SameContext.{same_context}
use Rattle.etm_types.specs.declared.context.Ctx.{Ctx}
use Rattle.spec_run.specs.Runs.{Closing}
use Rattle.spec_run.specs.declared.step.RunStep.{RunStep}
use Rattle.spec_run.specs.declared.step.StepKind.{StepKind}
use Rattle.spec_run.specs.declared.step.StepKind.TheVariants.{Cond, Exc}
use Rattle.trace_unit.specs.Places.{Places}

-- What leaves the P0 elements as they are. Sync: synchronisation, with a trace info that announces so many P0 elements. On: tracing
-- begins. Start: the address and the context of the begun block, in full. Place: the same before a P0 step, in the form that is wanted
-- there. Address, Context: one of them.
pub data Notice : Type 0 where
  Sync : ℕ → Notice
  On : Notice
  Start : ℕ → Ctx → Notice
  Place : ℕ → Ctx → Notice
  Address : ℕ → Notice
  Context : Ctx → Notice

-- Branch: an atom, true for E. Exception: of this kind, with its return address. ExceptionAtTarget: an exception at the start of the begun
-- block, whose address the reader lacks, so that its return address is the target of the P0 element before it too; the context of the block
-- where the reader lacks that, then the kind and the address. Retire, Cancel: so many P0 elements, the oldest or the newest. Flip: the newest
-- atom is the other one. Settle: all that was put off is written. Close: tracing ends.
pub data Order : Type 0 where
  Tell : Notice → Order
  Branch : Bool → Order
  Exception : ℕ → ℕ → Order
  ExceptionAtTarget : Option Ctx → ℕ → ℕ → Order
  Retire : ℕ → Order
  Cancel : ℕ → Order
  Flip : Order
  Settle : Order
  Close : Closing → Order

-- ---- before a P0 step

-- what the reader lacks of the address and the context of the block, where it has the context or not, and needs the address or not
abbrev pub missing : Bool → Bool → ℕ → Ctx → List Order
missing true true addr ctx = Tell (Address addr) ∷ []
missing true false addr ctx = []
missing false true addr ctx = Tell (Place addr ctx) ∷ []
missing false false addr ctx = Tell (Context ctx) ∷ []

abbrev pub before : Places → Ctx → List Order
before p ctx = missing (same_context ctx p.reader_context) p.needs p.start ctx

abbrev pub p0_order : StepKind → ℕ → Order
p0_order (Exc kind) addr = Exception kind addr
p0_order (Cond taken) addr = Branch taken
p0_order kind addr = Branch true

-- ---- a P0 step

-- what an exception at its target tells of the begun block, before the exception
abbrev pub target_notice : Option Ctx → ℕ → Notice
target_notice None addr = Address addr
target_notice (Some ctx) addr = Place addr ctx

-- the block needs an address, and this is it
abbrev pub is_target : Places → ℕ → Bool
is_target p addr = p.needs && (p.start == addr)

-- a context that the reader lacks
abbrev pub lacked : Bool → Ctx → Option Ctx
lacked true ctx = None
lacked false ctx = Some ctx

-- what the reader lacks, and the P0 element; of an exception at its target both in one
abbrev pub step_orders_by : Bool → Places → RunStep → StepKind → List Order
step_orders_by true p s (Exc kind) = ExceptionAtTarget (lacked (same_context s.ctx p.reader_context) s.ctx) kind s.addr ∷ []
step_orders_by at_target p s kind = before p s.ctx ++ p0_order kind s.addr ∷ []

abbrev pub step_orders : Places → RunStep → List Order
step_orders p s = step_orders_by (is_target p s.addr) p s s.kind

-- ---- tracing begins, and synchronisation

-- tracing begins at an address, in a context
abbrev pub begin_orders : ℕ → Ctx → List Order
begin_orders addr ctx = Tell (Sync 0) ∷ Tell On ∷ Tell (Start addr ctx) ∷ []

-- synchronisation, where so many P0 steps are not retired, and the begun block starts at an address
abbrev pub sync_orders : ℕ → ℕ → Ctx → List Order
sync_orders n addr ctx = Settle ∷ Tell (Sync n) ∷ Tell (Start addr ctx) ∷ []
