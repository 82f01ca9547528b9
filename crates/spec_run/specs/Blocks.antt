-- Blocks: the plain steps from where a P0 step led up to the next P0 step, that one included.
use Rattle.std.specs.Prelude.{ℕ, false, ◌+◌, if◌then◌else◌, List, [], ◌∷◌, ◌++◌}
use Rattle.etm_types.specs.Walked.{instructions}
use Rattle.etm_types.specs.declared.context.Ctx.{Ctx}
use Rattle.etm_types.specs.declared.item.Item.{Item}
use Rattle.etm_types.specs.declared.item.Item.TheVariants as item
use Rattle.spec_run.specs.Kinds.{took_of}
use Rattle.spec_run.specs.Steps.{is_p0}
use Rattle.spec_run.specs.declared.step.RunStep.{RunStep}
use Rattle.spec_run.specs.declared.step.StepKind.{StepKind}
use Rattle.spec_run.specs.declared.step.StepKind.TheVariants.{Exc}

-- so many plain steps from an address on, in one context, and the P0 step behind them
pub record Block : Type 0 where
  pub start : ℕ
  pub plain : ℕ
  pub ctx : Ctx
  pub last : RunStep

-- the block that is begun: where it starts, and how many plain steps it has
pub record BegunBlock : Type 0 where
  pub start : ℕ
  pub plain : ℕ

-- none of its steps was executed
abbrev pub fresh : ℕ → BegunBlock
fresh start = record { start = start; plain = 0 }

-- the begun block behind a step, and the blocks that the step ends
abbrev pub grown : BegunBlock → RunStep → BegunBlock
grown o s = if is_p0 s then fresh s.next else record o { plain = o.plain + 1 }

abbrev pub ended : BegunBlock → RunStep → List Block
ended o s = if is_p0 s then record { start = o.start; plain = o.plain; ctx = s.ctx; last = s } ∷ [] else []

-- the begun block behind steps, and the blocks that they make
abbrev pub begun : BegunBlock → List RunStep → BegunBlock
begun o [] = o
begun o (s ∷ steps) = begun (grown o s) steps

abbrev pub blocks : BegunBlock → List RunStep → List Block
blocks o [] = []
blocks o (s ∷ steps) = ended o s ++ blocks (grown o s) steps

-- what a block shows: its plain instructions, and behind them an exception, or one more, which may be a branch that was taken
abbrev pub last_item : StepKind → RunStep → Item
last_item (Exc kind) s = item.Exc kind s.addr
last_item kind s = item.Instr s.addr s.ctx (took_of kind)

abbrev pub block_items : Block → List Item
block_items b = instructions b.ctx b.start b.plain false ++ last_item b.last.kind b.last ∷ []

abbrev pub items_of_blocks : List Block → List Item
items_of_blocks [] = []
items_of_blocks (b ∷ bs) = block_items b ++ items_of_blocks bs
