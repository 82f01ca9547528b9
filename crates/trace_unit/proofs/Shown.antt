-- What rows show is what their steps show.
use Rattle.std.proofs.Common.{◌≡◌, ℕ, ◌+◌, ◌<◌, ◌^◌, Bool, true, false, if◌then◌else◌, List, [], ◌∷◌, ◌++◌, refl, sym, ap, ◌∙◌, inl, inr, append_assoc}
use Rattle.std.proofs.Common.{append-nil}
use Rattle.std.specs.Prelude.{map}
use Rattle.std.specs.List.{flat_map}
use Rattle.program_image.specs.Blocks.{behind}
use Rattle.program_image.specs.declared.image.Image.{Image}
use Rattle.etm_types.specs.Walked.{instructions, exception}
use Rattle.etm_types.specs.declared.context.Ctx.{Ctx}
use Rattle.etm_types.specs.declared.item.Item.{Item}
use Rattle.etm_types.specs.declared.item.Item.TheVariants as item
use Rattle.path_walker.specs.State.{State}
use Rattle.path_walker.specs.Walk.{mark_of}
use Rattle.spec_run.proofs.Shown.{blocks_show, instructions_grow}
use Rattle.spec_run.proofs.StepLists.{bools}
use Rattle.spec_run.specs.Blocks.{BegunBlock, Block, block_items, blocks, fresh, items_of_blocks, last_item}
use Rattle.spec_run.specs.Executed.{AreSteps, IsPlace}
use Rattle.spec_run.specs.Kinds.{is_p0_kind, took_of}
use Rattle.spec_run.specs.RetiredItems.{has_p0, stretch_items}
use Rattle.spec_run.specs.Steps.{is_p0}
use Rattle.spec_run.specs.declared.step.RunStep.{RunStep}
use Rattle.spec_run.specs.declared.step.StepKind.{StepKind}
use Rattle.spec_run.specs.declared.step.StepKind.TheVariants.{Cond, Eret, Exc, Ind, Isb, Jump, Plain}
use Rattle.trace_unit.proofs.Rows.{IsLed, Led, Row, after, all_items, block_of, count_of, p0_of, row_items}

-- what a reader shows of a block
abbrev pub walked_items : Block → List Item
walked_items b =
    instructions b.ctx b.start (count_of b.last.kind b.plain) (took_of b.last.kind)
    ++ exception (mark_of (p0_of b.last.kind b.last.addr))

-- ---- rows show their blocks, and the first of a stretch that trace is on

one_item : (on : Bool) (flag : Bool) (items : List Item) → on ≡ flag
    → (if on then item.On ∷ [] else []) ++ items ≡ (if flag then item.On ∷ [] else []) ++ items
one_item on flag items e = ap (λ b. (if b then item.On ∷ [] else []) ++ items) e

row_shows : (first : Bool) (w : State) (r : Row) → IsLed first w r → row_items r ≡ (if first then item.On ∷ [] else []) ++ walked_items r.block
row_shows first w r led =
    append_assoc (if r.pre.on then item.On ∷ [] else [])
    (instructions r.block.ctx r.block.start (count_of r.block.last.kind r.block.plain) (took_of r.block.last.kind))
    (exception (mark_of (p0_of r.block.last.kind r.block.last.addr)))
    ∙ one_item r.pre.on first (walked_items r.block) led.on

later_show : (w : State) (rows : List Row) → Led false w rows → all_items rows ≡ flat_map walked_items (map block_of rows)
later_show w [] led = refl
later_show w (r ∷ rows) led =
    ap (λ l. l ++ all_items rows) (row_shows false w r led.0) ∙ ap (λ l. walked_items r.block ++ l) (later_show (after w r) rows led.1)

first_shows : (w : State) (r : Row) (rows : List Row) → Led true w (r ∷ rows)
    → all_items (r ∷ rows) ≡ item.On ∷ flat_map walked_items (map block_of (r ∷ rows))
first_shows w r rows led =
    ap (λ l. l ++ all_items rows) (row_shows true w r led.0) ∙ ap (λ l. item.On ∷ (walked_items r.block ++ l)) (later_show (after w r) rows led.1)

-- ---- blocks show their steps

last : (s : RunStep) (start n : ℕ) (took : Bool) → start < 2 ^ 64 → s.addr ≡ behind start n
    → instructions s.ctx start (n + 1) took ++ [] ≡ instructions s.ctx start n false ++ item.Instr s.addr s.ctx took ∷ []
last s start n took lt at =
    append-nil (instructions s.ctx start (n + 1) took) ∙ instructions_grow s.ctx start n took (λ e. lt)
    ∙ ap (λ a. instructions s.ctx start n false ++ item.Instr a s.ctx took ∷ []) (sym at)

-- the last instruction of a block, or the exception behind it
ends : (kind : StepKind) (s : RunStep) (start n : ℕ) → start < 2 ^ 64 → s.addr ≡ behind start n → is_p0_kind kind ≡ true
    → instructions s.ctx start (count_of kind n) (took_of kind) ++ exception (mark_of (p0_of kind s.addr))
    ≡ instructions s.ctx start n false ++ last_item kind s ∷ []
ends Plain s start n lt at p = absurd cc
ends (Exc kind) s start n lt at p = refl
ends Isb s start n lt at p = last s start n false lt at
ends Jump s start n lt at p = last s start n false lt at
ends (Cond taken) s start n lt at p = last s start n taken lt at
ends (Ind link) s start n lt at p = last s start n false lt at
ends Eret s start n lt at p = last s start n false lt at

blocks_walked : (image : Image) (o : BegunBlock) (context : Ctx) (steps : List RunStep) → o.start < 2 ^ 64 → AreSteps image o context steps
    → flat_map walked_items (blocks o steps) ≡ items_of_blocks (blocks o steps)
blocks_walked image o context [] lt are = refl
blocks_walked image o context (s ∷ steps) lt are = elim (bools (is_p0 s)) [
  | inl p ↦
      let rest : AreSteps image (fresh s.next) s.ctx steps = simp p at are.1 in
      let b : Block = record { start = o.start; plain = o.plain; ctx = s.ctx; last = s } in
      simp p (ap (λ l. l ++ flat_map walked_items (blocks (fresh s.next) steps)) (ends s.kind s o.start o.plain lt are.0.there p)
      ∙ ap (λ l. block_items b ++ l) (blocks_walked image (fresh s.next) s.ctx steps are.0.next.0 rest))
  | inr p ↦
      let o' : BegunBlock = record o { plain = o.plain + 1 } in
      let rest : AreSteps image o' s.ctx steps = simp p at are.1 in
      simp p (blocks_walked image o' s.ctx steps lt rest)
]

no_block : (o : BegunBlock) (steps : List RunStep) → has_p0 steps ≡ false → blocks o steps ≡ []
no_block o [] e = refl
no_block o (s ∷ steps) e = elim (bools (is_p0 s)) [
  | inl p ↦ absurd (let f = simp p at e in cc)
  | inr p ↦ simp p (no_block (record o { plain = o.plain + 1 }) steps (simp p at e))
]

some_block : (o : BegunBlock) (steps : List RunStep) → has_p0 steps ≡ true → (b : Block) × (bs : List Block) × (blocks o steps ≡ b ∷ bs)
some_block o [] e = absurd cc
some_block o (s ∷ steps) e = elim (bools (is_p0 s)) [
  | inl p ↦ (record { start = o.start; plain = o.plain; ctx = s.ctx; last = s }, blocks (fresh s.next) steps, simp p)
  | inr p ↦ let b = some_block (record o { plain = o.plain + 1 }) steps (simp p at e) in (b.0, b.1, simp p (b.2))
]

-- what is retired of a stretch is what its rows show
pub stretch_shows : (image : Image) (start : ℕ) (context : Ctx) (steps : List RunStep) (w : State) (rows : List Row) → IsPlace start
    → AreSteps image (fresh start) context steps → map block_of rows ≡ blocks (fresh start) steps → Led true w rows → all_items rows ≡ stretch_items steps
stretch_shows image start context steps w [] place are is led = elim (bools (has_p0 steps)) [
  | inl some ↦ absurd (let b = some_block (fresh start) steps some in let e = is ∙ b.2 in cc)
  | inr none ↦ simp none
]
stretch_shows image start context steps w (r ∷ rows) place are is led = elim (bools (has_p0 steps)) [
  | inl some ↦
      simp some (first_shows w r rows led ∙ ap (λ bs. item.On ∷ flat_map walked_items bs) is
      ∙ ap (λ l. item.On ∷ l) (blocks_walked image (fresh start) context steps place.0 are ∙ sym (blocks_show image start context steps place are)))
  | inr none ↦ absurd (let e = is ∙ no_block (fresh start) steps none in cc)
]
