-- What a retired path takes and gives.
use Rattle.std.proofs.Common.{◌≡◌, ℕ, zero, suc, ◌+◌, ◌<◌, Bool, true, false, if◌then◌else◌, List, [], ◌∷◌, ◌++◌, Some, refl, sym, ap, ◌∙◌, inl, inr, arith}
use Rattle.std.proofs.Common.{append_assoc, append-nil}
use Rattle.std.proofs.lemmas.List.{map-append}
use Rattle.std.proofs.lemmas.Bool.Decides.{nat_tests}
use Rattle.std.specs.Prelude.{◌==◌, map, not}
use Rattle.etm_types.specs.Walked.{instructions, items_of}
use Rattle.etm_types.specs.declared.context.Ctx.{Ctx}
use Rattle.etm_types.specs.declared.item.Item.{Item}
use Rattle.etm_types.specs.declared.item.Item.TheVariants as item
use Rattle.etm_types.specs.declared.walked.Walked.{Walked}
use Rattle.program_image.specs.Blocks.{behind}
use Rattle.spec_run.proofs.Shown.{instructions_grow, plain_item, same_instructions}
use Rattle.spec_run.proofs.StepLists.{bools}
use Rattle.spec_run.specs.Blocks.{last_item}
use Rattle.spec_run.specs.Kinds.{is_p0_kind}
use Rattle.spec_run.specs.RetiredItems.{has_p0, item_of, path_of_steps, stretch_items}
use Rattle.spec_run.specs.Stands.{Follows, OpenBlock, PathStandsAt, begun_behind, behind_last_p0, items_shown, shown_by, start_with, walked_by}
use Rattle.spec_run.specs.Steps.{is_p0}
use Rattle.spec_run.specs.declared.step.RunStep.{RunStep}
use Rattle.spec_run.specs.declared.step.StepKind.{StepKind}
use Rattle.spec_run.specs.declared.step.StepKind.TheVariants.{Plain, Isb, Jump, Cond, Ind, Eret, Exc}

-- ---- a step behind others

has_p0-append : (xs : List RunStep) (s : RunStep) → has_p0 (xs ++ s ∷ []) ≡ (if has_p0 xs then true else is_p0 s)
has_p0-append [] s = elim (bools (is_p0 s)) [
  | inl p ↦ simp p
  | inr p ↦ simp p
]
has_p0-append (x ∷ xs) s = elim (bools (is_p0 x)) [
  | inl p ↦ simp p
  | inr p ↦ simp p (has_p0-append xs s)
]

plain_behind : (xs : List RunStep) (s : RunStep) → is_p0 s ≡ false → (has_p0 (xs ++ s ∷ []) ≡ has_p0 xs)
plain_behind xs s p = elim (bools (has_p0 xs)) [
  | inl e ↦ has_p0-append xs s ∙ simp e
  | inr e ↦ has_p0-append xs s ∙ simp (e, p)
]

p0_behind : (xs : List RunStep) (s : RunStep) → is_p0 s ≡ true → has_p0 (xs ++ s ∷ []) ≡ true
p0_behind xs s p = elim (bools (has_p0 xs)) [
  | inl e ↦ has_p0-append xs s ∙ simp e
  | inr e ↦ has_p0-append xs s ∙ simp (e, p)
]

none_since_p0 : (xs : List RunStep) (s : RunStep) → is_p0 s ≡ true → behind_last_p0 (xs ++ s ∷ []) ≡ []
none_since_p0 [] s p = simp p
none_since_p0 (x ∷ xs) s p = simp (p0_behind (x ∷ xs) s p) (none_since_p0 xs s p)

one_since_p0 : (xs : List RunStep) (s : RunStep) → is_p0 s ≡ false → behind_last_p0 (xs ++ s ∷ []) ≡ behind_last_p0 xs ++ s ∷ []
one_since_p0 [] s p = simp p
one_since_p0 (x ∷ xs) s p = elim (bools (has_p0 (x ∷ xs))) [
  | inl e ↦ simp (plain_behind (x ∷ xs) s p, e) (one_since_p0 xs s p)
  | inr e ↦ simp (plain_behind (x ∷ xs) s p, e)
]

all_shown : (xs : List RunStep) (s : RunStep) → is_p0 s ≡ true → path_of_steps (xs ++ s ∷ []) ≡ map item_of (xs ++ s ∷ [])
all_shown [] s p = simp p
all_shown (x ∷ xs) s p = simp (p0_behind (x ∷ xs) s p) (ap (λ l. item_of x ∷ l) (all_shown xs s p))

same_shown : (xs : List RunStep) (s : RunStep) → is_p0 s ≡ false → path_of_steps (xs ++ s ∷ []) ≡ path_of_steps xs
same_shown [] s p = simp p
same_shown (x ∷ xs) s p = elim (bools (has_p0 (x ∷ xs))) [
  | inl e ↦ simp (plain_behind (x ∷ xs) s p, e) (ap (λ l. item_of x ∷ l) (same_shown xs s p))
  | inr e ↦ simp (plain_behind (x ∷ xs) s p, e)
]

-- the steps are those that are shown and those behind the last P0 step
shown_parts : (xs : List RunStep) → map item_of xs ≡ path_of_steps xs ++ map item_of (behind_last_p0 xs)
shown_parts [] = refl
shown_parts (x ∷ xs) = elim (bools (has_p0 (x ∷ xs))) [
  | inl e ↦ simp e (ap (λ l. item_of x ∷ l) (shown_parts xs))
  | inr e ↦ simp e
]

none_before : (xs : List RunStep) → has_p0 xs ≡ false → path_of_steps xs ≡ []
none_before [] e = refl
none_before (x ∷ xs) e = simp e

-- ---- the step that goes on the begun block, or ends it

later : (n : ℕ) → (suc n == 0) ≡ false
later n = grind (arith, nat_tests)

goes_on : (n : ℕ) (ctx : Ctx) (start : ℕ) (s : RunStep) (took : Bool) → (0 < n → (s.addr ≡ behind start n) × (s.ctx ≡ ctx))
    → instructions ctx start n false ++ item.Instr s.addr s.ctx took ∷ [] ≡ instructions s.ctx (if n == 0 then s.addr else start) (n + 1) took
goes_on zero ctx start s took follows = refl
goes_on (suc n) ctx start s took follows =
    let f = follows (omega arith) in
    let same : instructions ctx start (suc n) false ≡ instructions s.ctx start (suc n) false = same_instructions (suc n) ctx s.ctx start (λ e. sym f.1) in
    simp (later n) (ap (λ l. l ++ item.Instr s.addr s.ctx took ∷ []) same
    ∙ ap (λ a. instructions s.ctx start (suc n) false ++ item.Instr a s.ctx took ∷ []) f.0
    ∙ sym (instructions_grow s.ctx start (suc n) took (λ e. absurd (omega (arith, e)))))

stays : (n : ℕ) (ctx : Ctx) (start : ℕ) (s : RunStep) → (0 < n → (s.addr ≡ behind start n) × (s.ctx ≡ ctx))
    → instructions s.ctx (if n == 0 then s.addr else start) n false ≡ instructions ctx start n false
stays zero ctx start s follows = refl
stays (suc n) ctx start s follows = simp (later n) (same_instructions (suc n) s.ctx ctx start (λ e. (follows e).1))

abbrev on_items : Bool → List Item
on_items on = if on then item.On ∷ [] else []

instruction_last : (b : OpenBlock) (s : RunStep) (took : Bool) → Follows b s
    → (on_items b.first ++ instructions s.ctx (start_with b s) (b.plain + 1) took) ++ []
    ≡ on_items b.first ++ (instructions b.ctx b.start b.plain false ++ item.Instr s.addr s.ctx took ∷ [])
instruction_last b s took follows =
    append_assoc (on_items b.first) (instructions s.ctx (start_with b s) (b.plain + 1) took) []
    ∙ ap (λ l. on_items b.first ++ l)
    (append-nil (instructions s.ctx (start_with b s) (b.plain + 1) took) ∙ sym (goes_on b.plain b.ctx b.start s took follows))

-- a block shows what is begun and the P0 step
block_shown : (b : OpenBlock) (kind : StepKind) (s : RunStep) → Follows b s → is_p0_kind kind ≡ true
    → items_of (walked_by b kind s) ≡ on_items b.first ++ (instructions b.ctx b.start b.plain false ++ last_item kind s ∷ [])
block_shown b Plain s follows p = absurd cc
block_shown b (Exc kind) s follows p =
    append_assoc (on_items b.first) (instructions s.ctx (start_with b s) b.plain false) (item.Exc kind s.addr ∷ [])
    ∙ ap (λ l. on_items b.first ++ (l ++ item.Exc kind s.addr ∷ [])) (stays b.plain b.ctx b.start s follows)
block_shown b Isb s follows p = instruction_last b s false follows
block_shown b Jump s follows p = instruction_last b s false follows
block_shown b (Cond taken) s follows p = instruction_last b s taken follows
block_shown b (Ind link) s follows p = instruction_last b s false follows
block_shown b Eret s follows p = instruction_last b s false follows

-- ---- where the retired path stands behind a step

pub stands_behind : (b : OpenBlock) (s : RunStep) (steps : List RunStep) → Follows b s → PathStandsAt b steps
    → PathStandsAt (begun_behind b s) (steps ++ s ∷ [])
stands_behind b s steps follows at = elim (bools (is_p0 s)) [
  | inl p ↦ simp p (record { first = sym (ap not (p0_behind steps s p)); begun = ap (map item_of) (none_since_p0 steps s p) })
  | inr p ↦
      let begun : map item_of (behind_last_p0 (steps ++ s ∷ [])) ≡ instructions s.ctx (start_with b s) (b.plain + 1) false =
      ap (map item_of) (one_since_p0 steps s p) ∙ map-append item_of (behind_last_p0 steps) (s ∷ [])
      ∙ ap (λ l. l ++ item_of s ∷ []) at.begun ∙ ap (λ i. instructions b.ctx b.start b.plain false ++ i ∷ []) (plain_item s p)
      ∙ goes_on b.plain b.ctx b.start s false follows in
      simp p (record { first = at.first ∙ ap not (sym (plain_behind steps s p)); begun = begun })
]

-- ---- what it shows more

-- a P0 step shows what is begun and itself
p0_grows : (steps : List RunStep) (s : RunStep) → is_p0 s ≡ true
    → stretch_items (steps ++ s ∷ []) ≡ stretch_items steps ++ (on_items (not (has_p0 steps)) ++ (map item_of (behind_last_p0 steps) ++ item_of s ∷ []))
p0_grows steps s p =
    let begun = map item_of (behind_last_p0 steps) in
    let path : path_of_steps (steps ++ s ∷ []) ≡ path_of_steps steps ++ (begun ++ item_of s ∷ []) =
    all_shown steps s p ∙ map-append item_of steps (s ∷ []) ∙ ap (λ l. l ++ item_of s ∷ []) (shown_parts steps)
    ∙ append_assoc (path_of_steps steps) begun (item_of s ∷ []) in
    let all : stretch_items (steps ++ s ∷ []) ≡ item.On ∷ (path_of_steps steps ++ (begun ++ item_of s ∷ [])) =
    simp (p0_behind steps s p) (ap (λ l. item.On ∷ l) path) in
    elim (bools (has_p0 steps)) [
      | inl some ↦ all ∙ simp some
      | inr none ↦ all ∙ ap (λ l. item.On ∷ (l ++ (begun ++ item_of s ∷ []))) (none_before steps none) ∙ simp none
    ]

pub plain_grows : (steps : List RunStep) (s : RunStep) → is_p0 s ≡ false → stretch_items (steps ++ s ∷ []) ≡ stretch_items steps
plain_grows steps s p = simp (plain_behind steps s p, same_shown steps s p)

pub one_grows : (steps : List RunStep) (s : RunStep) → (items : List Item) × (stretch_items (steps ++ s ∷ []) ≡ stretch_items steps ++ items)
one_grows steps s = elim (bools (is_p0 s)) [
  | inl p ↦ (on_items (not (has_p0 steps)) ++ (map item_of (behind_last_p0 steps) ++ item_of s ∷ []), p0_grows steps s p)
  | inr p ↦ ([], plain_grows steps s p ∙ sym (append-nil (stretch_items steps)))
]

p0_shows : (b : OpenBlock) (s : RunStep) (steps : List RunStep) → Follows b s → PathStandsAt b steps → is_p0 s ≡ true
    → stretch_items (steps ++ s ∷ []) ≡ stretch_items steps ++ items_of (walked_by b s.kind s)
p0_shows b s steps follows at p =
    let same : on_items (not (has_p0 steps)) ++ (map item_of (behind_last_p0 steps) ++ item_of s ∷ []) ≡ items_of (walked_by b s.kind s) =
    ap (λ on. on_items on ++ (map item_of (behind_last_p0 steps) ++ item_of s ∷ [])) (sym at.first)
    ∙ ap (λ l. on_items b.first ++ (l ++ item_of s ∷ [])) at.begun ∙ sym (block_shown b s.kind s follows p) in
    p0_grows steps s p ∙ ap (λ l. stretch_items steps ++ l) same

pub shows_behind : (b : OpenBlock) (s : RunStep) (steps : List RunStep) → Follows b s → PathStandsAt b steps
    → stretch_items (steps ++ s ∷ []) ≡ stretch_items steps ++ items_shown (shown_by b s)
shows_behind b s steps follows at = elim (bools (is_p0 s)) [
  | inl p ↦ simp p (p0_shows b s steps follows at p)
  | inr p ↦ simp p (plain_grows steps s p ∙ sym (append-nil (stretch_items steps)))
]

pub shows_block : (b : OpenBlock) (s : RunStep) (steps : List RunStep) (w : Walked) → Follows b s → PathStandsAt b steps → shown_by b s ≡ Some w
    → stretch_items (steps ++ s ∷ []) ≡ stretch_items steps ++ items_of w
shows_block b s steps w follows at e = shows_behind b s steps follows at ∙ ap (λ shown. stretch_items steps ++ items_shown shown) e
