-- Where an entry begins, by what elements gave before it and by the walk so far (Arm IHI 0064, "Descriptions of Trace Elements": the trace
-- info, trace on, context and address elements). When the return stack is emptied is this project's own choice.
use Rattle.std.specs.Prelude.{◌≡◌, ℕ, Bool, true, false, ◌||◌, ◌==◌, if◌then◌else◌, List, [], ◌∷◌, drop, Option, Some, None}
use Rattle.std.specs.Option.{unwrap_or}
use Rattle.etm_types.specs.declared.context.Ctx.{Ctx}
use Rattle.etm_types.specs.declared.element.Pre.{Pre}
use Rattle.etm_types.specs.declared.walk_fault.WalkFault.{WalkFault}
use Rattle.etm_types.specs.declared.walk_fault.WalkFault.TheVariants.{AddressMismatch}
use Rattle.path_walker.specs.declared.pc.Pc.{Pc}
use Rattle.path_walker.specs.declared.pc.Pc.TheVariants.{Known, Awaited, Lost}
use Rattle.path_walker.specs.declared.start.Start.{Start as Answer}
use Rattle.path_walker.specs.declared.start.StackUse.{StackUse}
use Rattle.path_walker.specs.declared.start.StackUse.TheVariants.{Keep, Pop, Clear}
use Rattle.path_walker.specs.State.{State}

-- Trace on, and missing trace, make the address unknown. Trace info empties the return stack. A context that was given holds
-- from here on.
abbrev pub pc_before : State → Pre → Pc
pc_before s pre = if pre.on || pre.lost then Lost else s.pc

abbrev pub emptied : Bool → List ℕ → List ℕ
emptied flush stack = if flush then [] else stack

abbrev pub stack_before : State → Pre → List ℕ
stack_before s pre = emptied pre.flush s.stack

abbrev pub context_of : State → Pre → Ctx
context_of s pre = unwrap_or pre.ctx s.ctx

-- the fault of an address that was given, where another one is known
abbrev pub mismatch_of : Pc → Option ℕ → Option WalkFault
mismatch_of (Known known) (Some given) = if known == given then None else Some (AddressMismatch known given)
mismatch_of pc addr = None

-- the address of the first instruction, where it is known, and the return addresses there
pub record Start : Type 0 where
  pub at : Option ℕ
  pub stack : List ℕ

-- Where no address was given, it is the one that is known, or, where it may be, the newest return address, which is taken off.
-- Else it is not known, and the return stack is emptied.
abbrev pub untold : Pc → List ℕ → Start
untold (Known address) stack = record { at = Some address; stack = stack }
untold (Awaited true) (address ∷ stack) = record { at = Some address; stack = stack }
untold (Awaited true) [] = record { at = None; stack = [] }
untold (Awaited false) stack = record { at = None; stack = [] }
untold Lost stack = record { at = None; stack = [] }

-- where an address was given, it is that one, and the return stack stays
abbrev pub start_by : Option ℕ → Pc → List ℕ → Start
start_by (Some given) pc stack = record { at = Some given; stack = stack }
start_by None pc stack = untold pc stack

-- what is known of the address then
abbrev pub told_pc : Option ℕ → Pc → Pc
told_pc (Some given) pc = Known given
told_pc None pc = pc

abbrev pub start_of : State → Pre → Start
start_of s pre = start_by pre.addr (pc_before s pre) (stack_before s pre)

-- the return addresses that stay, as the code says it
abbrev pub used : StackUse → List ℕ → List ℕ
used Keep stack = stack
used Pop stack = drop 1 stack
used Clear stack = []

-- what the code says leaves these of any return addresses
abbrev pub Leaves : StackUse → (List ℕ → List ℕ) → Type 0
Leaves u left = (stack : List ℕ) → used u stack ≡ left stack

-- the code answers this start, of these return addresses
abbrev pub StartsAs : Answer → List ℕ → Start → Type 0
StartsAs answer stack start = (answer.at ≡ start.at) × (used answer.stack stack ≡ start.stack)
