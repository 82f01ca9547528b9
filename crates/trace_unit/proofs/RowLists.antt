-- Rows and blocks of joined lists.
use Rattle.std.proofs.Common.{◌≡◌, ◌+◌, Bool, true, false, if◌then◌else◌, List, [], ◌∷◌, ◌++◌, length, refl, sym, ap, ◌∙◌, inl, inr, length-append}
use Rattle.std.proofs.lemmas.List.{length-map}
use Rattle.std.specs.Prelude.{map}
use Rattle.path_walker.specs.State.{State}
use Rattle.spec_run.proofs.StepLists.{bools}
use Rattle.spec_run.specs.Blocks.{BegunBlock, Block, begun, blocks, ended, grown}
use Rattle.spec_run.specs.Steps.{is_p0, p0s}
use Rattle.spec_run.specs.declared.step.RunStep.{RunStep}
use Rattle.trace_unit.proofs.Lists.{heads}
use Rattle.trace_unit.proofs.Rows.{Led, Row, after, after_all, block_of, first_behind}

-- ---- blocks

ended_one : (b : Bool) (x : Block) → length (if b then x ∷ [] else []) ≡ (if b then 1 else 0)
ended_one true x = refl
ended_one false x = refl

pub length-blocks : (o : BegunBlock) (xs : List RunStep) → length (blocks o xs) ≡ p0s xs
length-blocks o [] = refl
length-blocks o (x ∷ xs) =
    length-append (ended o x) (blocks (grown o x) xs) ∙ ap (λ n. n + length (blocks (grown o x) xs)) (ended_one (is_p0 x) _)
    ∙ ap (λ n. (if is_p0 x then 1 else 0) + n) (length-blocks (grown o x) xs)

pub length-rows : (o : BegunBlock) (rows : List Row) (xs : List RunStep) → map block_of rows ≡ blocks o xs → length rows ≡ p0s xs
length-rows o rows xs e = sym (length-map rows block_of) ∙ ap length e ∙ length-blocks o xs

-- a block that was begun goes on where no P0 step comes, and is the first of the blocks behind it
pub none_ended : (o : BegunBlock) (xs : List RunStep) → blocks o xs ≡ [] → (begun o xs).start ≡ o.start
none_ended o [] e = refl
none_ended o (x ∷ xs) e = elim (bools (is_p0 x)) [
  | inl p ↦ absurd (let f = simp p at e in cc)
  | inr p ↦ simp p (none_ended (record o { plain = o.plain + 1 }) xs (simp p at e))
]

pub first_start : (o : BegunBlock) (xs : List RunStep) (b : Block) (bs : List Block) → blocks o xs ≡ b ∷ bs → b.start ≡ o.start
first_start o [] b bs e = absurd cc
first_start o (x ∷ xs) b bs e = elim (bools (is_p0 x)) [
  | inl p ↦ let h = heads _ b _ bs (simp p at e) in ap (λ (c : Block). c.start) (sym h.0)
  | inr p ↦ first_start (record o { plain = o.plain + 1 }) xs b bs (simp p at e)
]

-- ---- rows

pub after_all-append : (w : State) (xs ys : List Row) → after_all w (xs ++ ys) ≡ after_all (after_all w xs) ys
after_all-append w [] ys = refl
after_all-append w (x ∷ xs) ys = after_all-append (after w x) xs ys

pub first_behind-append : (first : Bool) (xs ys : List Row) → first_behind first (xs ++ ys) ≡ first_behind (first_behind first xs) ys
first_behind-append first [] ys = refl
first_behind-append first (x ∷ xs) [] = refl
first_behind-append first (x ∷ xs) (y ∷ ys) = refl

pub led_fronts : (first : Bool) (w : State) (xs ys : List Row) → Led first w (xs ++ ys) → Led first w xs
led_fronts first w [] ys l = tt
led_fronts first w (x ∷ xs) ys l = (l.0, led_fronts false (after w x) xs ys l.1)

pub led_rests : (first : Bool) (w : State) (xs ys : List Row) → Led first w (xs ++ ys) → Led (first_behind first xs) (after_all w xs) ys
led_rests first w [] ys l = l
led_rests first w (x ∷ []) ys l = l.1
led_rests first w (x ∷ y ∷ xs) ys l = led_rests false (after w x) (y ∷ xs) ys l.1

pub led_joined : (first : Bool) (w : State) (xs ys : List Row) → Led first w xs → Led (first_behind first xs) (after_all w xs) ys → Led first w (xs ++ ys)
led_joined first w [] ys l m = m
led_joined first w (x ∷ []) ys l m = (l.0, m)
led_joined first w (x ∷ y ∷ xs) ys l m = (l.0, led_joined false (after w x) (y ∷ xs) ys l.1 m)
