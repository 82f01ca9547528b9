-- The items that a `Walked` stands for.
use Rattle.std.specs.Prelude.{ℕ, zero, suc, ◌+◌, ◌%◌, ◌^◌, Bool, false, if◌then◌else◌, List, [], ◌∷◌, ◌++◌, Option, Some, None}
use Rattle.etm_types.specs.declared.context.Ctx.{Ctx}
use Rattle.etm_types.specs.declared.item.Item.{Item}
use Rattle.etm_types.specs.declared.item.Item.TheVariants.{On, Unknown, Instr, Exc}
use Rattle.etm_types.specs.declared.walked.Walked.{Walked}
use Rattle.etm_types.specs.declared.walked.ExcMark.{ExcMark}

-- of instructions that follow each other only the last, behind which none comes, may be a conditional branch that was taken
abbrev pub took_last : ℕ → Bool → Bool
took_last zero took = took
took_last (suc n) took = false

-- the n instructions from an address on, in one context, and whether the last one is such a branch; addresses are 64 bits
abbrev pub instructions : Ctx → ℕ → ℕ → Bool → List Item
instructions ctx address zero took = []
instructions ctx address (suc n) took = Instr address ctx (took_last n took) ∷ instructions ctx ((address + 4) % 2 ^ 64) n took

abbrev pub exception : Option ExcMark → List Item
exception None = []
exception (Some mark) = Exc mark.kind mark.ret ∷ []

-- trace on where it is shown, then one unknown stretch or the instructions, then the exception
abbrev pub items_of : Walked → List Item
items_of w =
    (if w.on then On ∷ [] else []) ++ (if w.unknown then Unknown ∷ [] else instructions w.ctx w.start w.count w.took) ++ exception w.exc
