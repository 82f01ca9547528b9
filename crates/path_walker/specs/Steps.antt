-- How a P0 instruction goes on (Arm DDI 0487, "Branches, Exception Generating and System instructions").
use Rattle.std.specs.Prelude.{ℕ, Bool, true, false, not, List, Option, Some, None}
use Rattle.a64_branches.specs.Offsets.{target}
use Rattle.a64_branches.specs.declared.class.Class.{Class}
use Rattle.a64_branches.specs.declared.class.Class.TheVariants.{Jump, Cond, Isb, Ind, Eret}
use Rattle.program_image.specs.Blocks.{behind}
use Rattle.return_stack.specs.Stack.{most_addresses, pushed}
use Rattle.path_walker.specs.declared.pc.Pc.{Pc}
use Rattle.path_walker.specs.declared.pc.Pc.TheVariants.{Known, Awaited}

-- Where the instruction at an address goes on by an atom, true for E. A conditional branch alone may have an N atom. After BR
-- and RET the next address may be taken off the return stack, after BLR and ERET it may not.
abbrev pub next_of : Class → ℕ → Bool → Option Pc
next_of (Jump offset link) address true = Some (Known (target address offset))
next_of (Cond offset) address true = Some (Known (target address offset))
next_of (Cond offset) address false = Some (Known (behind address 1))
next_of Isb address true = Some (Known (behind address 1))
next_of (Ind link) address true = Some (Awaited (not link))
next_of Eret address true = Some (Awaited false)
next_of class address taken = None

-- BL and BLR put the address of the instruction after them on the return stack
abbrev pub stack_after : Class → ℕ → List ℕ → List ℕ
stack_after (Jump offset true) address stack = pushed most_addresses (behind address 1) stack
stack_after (Ind true) address stack = pushed most_addresses (behind address 1) stack
stack_after class address stack = stack

-- the return addresses with one more, where there is one
abbrev pub linked : Option ℕ → List ℕ → List ℕ
linked None stack = stack
linked (Some address) stack = pushed most_addresses address stack
