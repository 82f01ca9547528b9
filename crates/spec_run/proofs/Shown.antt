-- The retired path goes block by block.
use Rattle.std.proofs.Common.{◌≡◌, ℕ, zero, suc, ◌+◌, ◌<◌, ◌^◌, ◌%◌, Bool, true, false, List, [], ◌∷◌, ◌++◌}
use Rattle.std.proofs.Common.{refl, sym, ap, ◌∙◌, inl, inr, arith, append_assoc}
use Rattle.etm_types.specs.Walked.{instructions, took_last}
use Rattle.etm_types.specs.declared.context.Ctx.{Ctx}
use Rattle.etm_types.specs.declared.item.Item.TheVariants as item
use Rattle.program_image.specs.Blocks.{behind}
use Rattle.program_image.specs.declared.image.Image.{Image}
use Rattle.spec_run.proofs.StepLists.{bools, plain_kind}
use Rattle.spec_run.specs.Blocks.{BegunBlock, blocks, fresh, items_of_blocks, last_item}
use Rattle.spec_run.specs.Executed.{AreSteps, IsPlace}
use Rattle.spec_run.specs.RetiredItems.{has_p0, item_of, path_of_steps}
use Rattle.spec_run.specs.Steps.{is_p0}
use Rattle.spec_run.specs.declared.step.RunStep.{RunStep}

-- ---- instructions

more : (n : ℕ) → n + 1 ≡ suc n
more n = omega arith

none_took : (n : ℕ) → took_last n false ≡ false
none_took zero = refl
none_took (suc n) = refl

one_more : (ctx : Ctx) (start n : ℕ) (took : Bool) → (n ≡ 0 → start < 2 ^ 64)
    → instructions ctx start (suc n) took ≡ instructions ctx start n false ++ item.Instr (behind start n) ctx took ∷ []
one_more ctx start zero took within = let lt = within refl in ap (λ a. item.Instr a ctx took ∷ []) (omega (arith, lt))
one_more ctx start (suc n) took within =
    let next = (start + 4) % 2 ^ 64 in
    let here : behind next n ≡ behind start (suc n) = omega arith in
    ap (λ l. item.Instr start ctx false ∷ l)
    (one_more ctx next n took (λ e. omega arith) ∙ ap (λ a. instructions ctx next n false ++ item.Instr a ctx took ∷ []) here)
    ∙ ap (λ b. item.Instr start ctx b ∷ (instructions ctx next n false ++ item.Instr (behind start (suc n)) ctx took ∷ [])) (sym (none_took n))

pub instructions_grow : (ctx : Ctx) (start n : ℕ) (took : Bool) → (n ≡ 0 → start < 2 ^ 64)
    → instructions ctx start (n + 1) took ≡ instructions ctx start n false ++ item.Instr (behind start n) ctx took ∷ []
instructions_grow ctx start n took within = ap (λ m. instructions ctx start m took) (more n) ∙ one_more ctx start n took within

pub same_instructions : (n : ℕ) (c d : Ctx) (start : ℕ) → (0 < n → c ≡ d) → instructions c start n false ≡ instructions d start n false
same_instructions zero c d start same = refl
same_instructions (suc n) c d start same = ap (λ x. instructions x start (suc n) false) (same (omega arith))

pub plain_item : (s : RunStep) → is_p0 s ≡ false → item_of s ≡ item.Instr s.addr s.ctx false
plain_item s p = ap (λ k. last_item k s) (plain_kind s.kind p)

-- ---- blocks show their steps

none_shown : (o : BegunBlock) (steps : List RunStep) → has_p0 steps ≡ false → (blocks o steps ≡ []) × (path_of_steps steps ≡ [])
none_shown o [] e = (refl, refl)
none_shown o (s ∷ steps) e = elim (bools (is_p0 s)) [
  | inl p ↦ absurd (let f = simp p at e in cc)
  | inr p ↦
      let rest : has_p0 steps ≡ false = simp p at e in
      let none = none_shown (record o { plain = o.plain + 1 }) steps rest in
      (simp p none.0, simp (p, rest))
]

steps_show : (image : Image) (o : BegunBlock) (context : Ctx) (steps : List RunStep) → o.start < 2 ^ 64 → AreSteps image o context steps → has_p0 steps ≡ true
    → items_of_blocks (blocks o steps) ≡ instructions context o.start o.plain false ++ path_of_steps steps
steps_show image o context [] lt are e = absurd cc
steps_show image o context (s ∷ steps) lt are e = elim (bools (is_p0 s)) [
  | inl p ↦
      let rest : AreSteps image (fresh s.next) s.ctx steps = simp p at are.1 in
      let here : instructions s.ctx o.start o.plain false ++ item_of s ∷ [] ≡ instructions context o.start o.plain false ++ item_of s ∷ [] =
      ap (λ l. l ++ item_of s ∷ []) (same_instructions o.plain s.ctx context o.start are.0.same) in
      let after : items_of_blocks (blocks (fresh s.next) steps) ≡ path_of_steps steps = elim (bools (has_p0 steps)) [
        | inl some ↦ steps_show image (fresh s.next) s.ctx steps are.0.next.0 rest some
        | inr none ↦ let n = none_shown (fresh s.next) steps none in ap items_of_blocks n.0 ∙ sym n.1
      ] in
      simp p (ap (λ l. l ++ items_of_blocks (blocks (fresh s.next) steps)) here
      ∙ append_assoc (instructions context o.start o.plain false) (item_of s ∷ []) (items_of_blocks (blocks (fresh s.next) steps))
      ∙ ap (λ l. instructions context o.start o.plain false ++ item_of s ∷ l) after)
  | inr p ↦
      let some : has_p0 steps ≡ true = simp p at e in
      let o' : BegunBlock = record o { plain = o.plain + 1 } in
      let rest : AreSteps image o' s.ctx steps = simp p at are.1 in
      let before : instructions s.ctx o.start (o.plain + 1) false ≡ instructions context o.start o.plain false ++ item_of s ∷ [] =
      instructions_grow s.ctx o.start o.plain false (λ e. lt)
      ∙ ap (λ a. instructions s.ctx o.start o.plain false ++ item.Instr a s.ctx false ∷ []) (sym are.0.there)
      ∙ ap (λ i. instructions s.ctx o.start o.plain false ++ i ∷ []) (sym (plain_item s p))
      ∙ ap (λ l. l ++ item_of s ∷ []) (same_instructions o.plain s.ctx context o.start are.0.same) in
      simp (p, some) (steps_show image o' s.ctx steps lt rest some ∙ ap (λ l. l ++ path_of_steps steps) before
      ∙ append_assoc (instructions context o.start o.plain false) (item_of s ∷ []) (path_of_steps steps))
]

pub blocks_show : (image : Image) (start : ℕ) (first : Ctx) (steps : List RunStep) → IsPlace start → AreSteps image (fresh start) first steps
    → path_of_steps steps ≡ items_of_blocks (blocks (fresh start) steps)
blocks_show image start first steps place are = elim (bools (has_p0 steps)) [
  | inl some ↦ sym (steps_show image (fresh start) first steps place.0 are some)
  | inr none ↦ let n = none_shown (fresh start) steps none in n.1 ∙ ap items_of_blocks (sym n.0)
]
