-- Lines of several items.
use Rattle.std.proofs.Common.{◌≡◌, ℕ, zero, suc, ◌+◌, ◌-◌, ◌*◌, ◌%◌, ◌^◌, ◌<◌, ◌≤◌, Bool, true, false}
use Rattle.std.proofs.Math.Nat.{mod-add-mod}
use Rattle.std.proofs.Common.{List, [], ◌∷◌, ◌++◌, Option, Some, None, refl, sym, ap, ◌∙◌, arith, append_assoc}
use Rattle.std.specs.Prelude.{if◌then◌else◌}
use Rattle.etm_types.proofs.SameContexts.{same_context-refl}
use Rattle.etm_types.specs.Walked.{instructions, exception, items_of}
use Rattle.etm_types.specs.declared.context.Ctx.{Ctx}
use Rattle.etm_types.specs.declared.item.Item.{Item}
use Rattle.etm_types.specs.declared.item.Item.TheVariants.{On}
use Rattle.etm_types.specs.declared.walked.ExcMark.{ExcMark}
use Rattle.etm_types.specs.declared.walked.Walked.{Walked}
use Rattle.path_text.specs.Lines.{line_of, hex}
use Rattle.path_text.specs.PathLines.{instruction_lines, lines_of, item_lines, context_line}
use Rattle.path_text.specs.PathLines.{shown_after, shown_after_all, on_line, block_items}

-- some lines, and the others behind them
pub instruction_lines-add : (id address k left : ℕ)
    → instruction_lines id address (suc k) ++ instruction_lines id ((address + suc k * 4) % 2 ^ 64) left ≡ instruction_lines id address (suc k + left)
instruction_lines-add id address zero left =
    let one : suc zero + left ≡ suc left = omega arith in
    append_assoc (line_of id (hex address)) [] (instruction_lines id ((address + 4) % 2 ^ 64) left) ∙ ap (instruction_lines id address) (sym one)
instruction_lines-add id address (suc k) left =
    let next = (address + 4) % 2 ^ 64 in
    let further : address + suc (suc k) * 4 ≡ address + 4 + suc k * 4 = omega arith in
    let more : suc (suc k) + left ≡ suc (suc k + left) = omega arith in
    let behind : (address + suc (suc k) * 4) % 2 ^ 64 ≡ (next + suc k * 4) % 2 ^ 64 =
    ap (λ n. n % 2 ^ 64) further ∙ sym (mod-add-mod (address + 4) (2 ^ 64) (suc k * 4)) in
    append_assoc (line_of id (hex address)) (instruction_lines id next (suc k)) (instruction_lines id ((address + suc (suc k) * 4) % 2 ^ 64) left)
    ∙ ap (λ n. line_of id (hex address) ++ (instruction_lines id next (suc k) ++ instruction_lines id n left)) behind
    ∙ ap (λ t. line_of id (hex address) ++ t) (instruction_lines-add id next k left) ∙ ap (instruction_lines id address) (sym more)

pub instruction_lines-parts : (id address near left : ℕ) → 0 < near → near ≤ left
    → instruction_lines id address near ++ instruction_lines id ((address + near * 4) % 2 ^ 64) (left - near) ≡ instruction_lines id address left
instruction_lines-parts id address zero left some few = absurd (omega (arith, some))
instruction_lines-parts id address (suc k) left some few =
    let all : suc k + (left - suc k) ≡ left = omega (arith, few) in
    instruction_lines-add id address k (left - suc k) ∙ ap (instruction_lines id address) all

-- ---- contexts that are printed once

context_line-again : (id : ℕ) (ctx : Ctx) → context_line id (Some ctx) ctx ≡ []
context_line-again id ctx = simp (same_context-refl ctx)

-- the lines of instructions whose context was printed
pub lines_of-instructions : (id address : ℕ) (ctx : Ctx) (n : ℕ) (took : Bool)
    → lines_of id (Some ctx) (instructions ctx address n took) ≡ instruction_lines id address n
lines_of-instructions id address ctx zero took = refl
lines_of-instructions id address ctx (suc n) took =
    ap (λ t. (t ++ line_of id (hex address)) ++ lines_of id (Some ctx) (instructions ctx ((address + 4) % 2 ^ 64) n took)) (context_line-again id ctx)
    ∙ ap (λ t. line_of id (hex address) ++ t) (lines_of-instructions id ((address + 4) % 2 ^ 64) ctx n took)

-- a context, where it was not printed last, and then instructions
pub lines_of-run : (id : ℕ) (shown : Option Ctx) (ctx : Ctx) (address n : ℕ) (took : Bool) → 0 < n
    → lines_of id shown (instructions ctx address n took) ≡ context_line id shown ctx ++ instruction_lines id address n
lines_of-run id shown ctx address zero took some = absurd (omega arith)
lines_of-run id shown ctx address (suc n) took some =
    ap (λ t. (context_line id shown ctx ++ line_of id (hex address)) ++ t) (lines_of-instructions id ((address + 4) % 2 ^ 64) ctx n took)
    ∙ append_assoc (context_line id shown ctx) (line_of id (hex address)) (instruction_lines id ((address + 4) % 2 ^ 64) n)

-- ---- lines of items, one list after another

pub lines_of-append : (id : ℕ) (shown : Option Ctx) (xs ys : List Item)
    → lines_of id shown (xs ++ ys) ≡ lines_of id shown xs ++ lines_of id (shown_after_all shown xs) ys
lines_of-append id shown [] ys = refl
lines_of-append id shown (x ∷ xs) ys =
    ap (λ t. item_lines id shown x ++ t) (lines_of-append id (shown_after shown x) xs ys)
    ∙ sym (append_assoc (item_lines id shown x) (lines_of id (shown_after shown x) xs) _)

pub shown_after_all-append : (shown : Option Ctx) (xs ys : List Item) → shown_after_all shown (xs ++ ys) ≡ shown_after_all (shown_after_all shown xs) ys
shown_after_all-append shown [] ys = refl
shown_after_all-append shown (x ∷ xs) ys = shown_after_all-append (shown_after shown x) xs ys

pub shown_after_all-instructions : (ctx : Ctx) (address n : ℕ) (took : Bool) → shown_after_all (Some ctx) (instructions ctx address n took) ≡ Some ctx
shown_after_all-instructions ctx address zero took = refl
shown_after_all-instructions ctx address (suc n) took = shown_after_all-instructions ctx ((address + 4) % 2 ^ 64) n took

pub shown_after_all-run : (shown : Option Ctx) (ctx : Ctx) (address n : ℕ) (took : Bool) → 0 < n
    → shown_after_all shown (instructions ctx address n took) ≡ Some ctx
shown_after_all-run shown ctx address zero took some = absurd (omega arith)
shown_after_all-run shown ctx address (suc zero) took some = refl
shown_after_all-run shown ctx address (suc (suc n)) took some =
    shown_after_all-run (Some ctx) ctx ((address + 4) % 2 ^ 64) (suc n) took (omega arith)

-- ---- exceptions, whose line no context changes

lines_of-exception : (id : ℕ) (shown : Option Ctx) (exc : Option ExcMark) → lines_of id None (exception exc) ≡ lines_of id shown (exception exc)
lines_of-exception id shown None = refl
lines_of-exception id shown (Some mark) = refl

shown_after_all-exception : (shown : Option Ctx) (exc : Option ExcMark) → shown_after_all shown (exception exc) ≡ shown
shown_after_all-exception shown None = refl
shown_after_all-exception shown (Some mark) = refl

-- ---- what a walk shows

rest_lines : (id : ℕ) (shown : Option Ctx) (w : Walked)
    → lines_of id shown (block_items w) ++ lines_of id None (exception w.exc) ≡ lines_of id shown (block_items w ++ exception w.exc)
rest_lines id shown w =
    ap (λ t. lines_of id shown (block_items w) ++ t) (lines_of-exception id (shown_after_all shown (block_items w)) w.exc)
    ∙ sym (lines_of-append id shown (block_items w) (exception w.exc))

on_items : Bool → List Item
on_items on = if on then On ∷ [] else []

lines_of-on : (id : ℕ) (shown : Option Ctx) (on : Bool) (items : List Item)
    → on_line id on ++ lines_of id shown items ≡ lines_of id shown (on_items on ++ items)
unfolding on_items
lines_of-on id shown true items = refl
lines_of-on id shown false items = refl

shown_after_all-on : (shown : Option Ctx) (on : Bool) (items : List Item) → shown_after_all shown (on_items on ++ items) ≡ shown_after_all shown items
unfolding on_items
shown_after_all-on shown true items = refl
shown_after_all-on shown false items = refl

after_on : (w : Walked) → on_items w.on ++ (block_items w ++ exception w.exc) ≡ items_of w
unfolding on_items
after_on w = sym (append_assoc (on_items w.on) (block_items w) (exception w.exc))

pub lines_of-items : (id : ℕ) (shown : Option Ctx) (w : Walked)
    → on_line id w.on ++ (lines_of id shown (block_items w) ++ lines_of id None (exception w.exc)) ≡ lines_of id shown (items_of w)
lines_of-items id shown w =
    ap (λ t. on_line id w.on ++ t) (rest_lines id shown w) ∙ lines_of-on id shown w.on (block_items w ++ exception w.exc) ∙ ap (lines_of id shown) (after_on w)

pub shown_after_all-items : (shown : Option Ctx) (w : Walked) → shown_after_all shown (block_items w) ≡ shown_after_all shown (items_of w)
shown_after_all-items shown w =
    sym (shown_after_all-exception (shown_after_all shown (block_items w)) w.exc) ∙ sym (shown_after_all-append shown (block_items w) (exception w.exc))
    ∙ sym (shown_after_all-on shown w.on (block_items w ++ exception w.exc)) ∙ ap (shown_after_all shown) (after_on w)
