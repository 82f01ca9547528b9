-- The state of a walk over an image, between two entries.
use Rattle.std.specs.Prelude.{◌≡◌, ℕ, ◌%◌, ◌≤◌, List, [], length, All, ⊤}
use Rattle.etm_types.specs.Context.{initial_context}
use Rattle.etm_types.specs.declared.context.Ctx.{Ctx}
use Rattle.return_stack.specs.Stack.{most_addresses}
use Rattle.path_walker.specs.declared.pc.Pc.{Pc}
use Rattle.path_walker.specs.declared.pc.Pc.TheVariants.{Known, Awaited, Lost}

-- what is known of the next instruction's address, the return addresses, newest first, and the context
pub record State : Type 0 where
  pub pc : Pc
  pub stack : List ℕ
  pub ctx : Ctx

-- a walk begins at no known address, with no return address, in the initial context
abbrev pub first_state : State
first_state = record { pc = Lost; stack = []; ctx = initial_context }

-- instructions stand at multiples of 4
abbrev pub IsAligned : ℕ → Type 0
IsAligned address = address % 4 ≡ 0

abbrev pub IsPc : Pc → Type 0
IsPc (Known address) = IsAligned address
IsPc (Awaited pops) = ⊤
IsPc Lost = ⊤

pub record IsState (s : State) : Type 0 where
  pub pc : IsPc s.pc
  pub stack : All IsAligned s.stack
  pub few : length s.stack ≤ most_addresses

-- the same, but for what is known of the address
abbrev pub standing : Pc → State → State
standing pc s = record s { pc = pc }
