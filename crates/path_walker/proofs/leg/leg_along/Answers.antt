use Rattle.std.proofs.Common.{◌≡◌, ◌∙◌, ◌+◌, ◌-◌, ◌*◌, ◌%◌, ◌^◌, ℕ, Bool, List, Option, Some, None, IfOk, IfSome, Ok, Err, ap, arith, sym, subst}
use Rattle.std.specs.Prelude.{◌&&◌, Result, slice_get}
use Rattle.std.specs.Option.{option_map}
use Rattle.a64_branches.specs.Classes.{class_of, HasWholeOffset}
use Rattle.a64_branches.specs.declared.class.Class.{Class}
use Rattle.a64_branches.proofs.Whole.{whole_offset}
use Rattle.program_image.specs.Blocks.{behind, class_at, IsPlainRun}
use Rattle.program_image.specs.Places.{word_addresses}
use Rattle.program_image.specs.Runs.{class_behind}
use Rattle.program_image.specs.declared.run.PlacedRun.{PlacedRun}
use Rattle.program_image.specs.declared.image.Image.{Image}
use Rattle.etm_types.specs.declared.element.P0.TheVariants.{Atom}
use Rattle.etm_types.specs.declared.walk_fault.WalkFault.{WalkFault}
use Rattle.path_walker.specs.declared.leg.Leg.{Leg}
use Rattle.path_walker.specs.Leg.{IsLeg, IsLegBehind, IsLegOfAtom, IsRunAt, next_by, stack_by}
use Rattle.path_walker.specs.Steps.{linked, next_of, stack_after}
use Rattle.path_walker.specs.Walk.{Refuses, is_cond, is_to_register}
use Rattle.path_walker.proofs.leg.leg_along.Goals as goal

-- a word has an offset of whole instructions
whole_word : (word : Option ℕ) → IfSome (option_map class_of word) HasWholeOffset
whole_word None = cc
whole_word (Some word) = whole_offset word

-- where the words are there, a leg that fits the one behind them is one of the image
is_leg : (image : Image) (pc plain at : ℕ) (word : Option Class) (taken : Bool) (leg : Leg) → IsPlainRun image pc plain
    → class_at image (behind pc plain) ≡ word → behind pc plain ≡ at → next_by word at taken ≡ Some leg.next
    → ((stack : List ℕ) → linked leg.link stack ≡ stack_by word at stack) → leg.count ≡ plain + 1 → IsLeg image (Some pc) (Atom taken) leg
is_leg image pc plain at None taken leg run there place next link count = absurd cc
is_leg image pc plain at (Some class) taken leg run there place next link count = λ stack.
    record {
      plain = plain;
      class = class;
      run = run;
      there = there;
      next = subst (λ a. next_of class a taken ≡ Some leg.next) (sym place) next;
      counted = count;
      kept = link stack ∙ ap (λ a. stack_after class a stack) (sym place);
    }

of_atom : (image : Image) (pc at : ℕ) (placed : PlacedRun) (taken : Bool) (leg : Leg) → IsRunAt image pc placed → behind pc placed.run.plain ≡ at
    → IsLegBehind placed at taken leg → IsLegOfAtom image pc taken leg
of_atom image pc at placed taken leg run place is =
    let word = class_behind placed.run.behind in let plain : placed.run.plain ≡ leg.count - 1 = omega (arith, is.count) in
    let last : word ≡ class_at image (behind pc (leg.count - 1)) = sym run.run.1 ∙ ap (λ n. class_at image (behind pc n)) plain in
    record {
      leads = is_leg image pc placed.run.plain at word taken leg run.run.0.0 run.run.1 place is.next is.link is.count;
      took = is.took ∙ ap (λ w. taken && is_cond w) last;
      placed = subst (λ n. slice_get (word_addresses image) n ≡ Some pc) (sym is.place) run.place;
      register = is.register ∙ ap is_to_register last;
      aligned = is.aligned;
    }

if_so : (result : Result Leg WalkFault) (P Q : Leg → Type 0) → IfOk result P → ((leg : Leg) → P leg → Q leg) → IfOk result Q
if_so (Ok leg) P Q p so = so leg p
if_so (Err f) P Q p so = cc

pub leg_behind-requires-clause-whole : goal.leg_behind-requires-clause-whole
leg_behind-requires-clause-whole c =
    let image = c.args.image.now in
    let run = c.requires.run in
    subst (λ word. IfSome word HasWholeOffset) run.1 (whole_word _)

pub returns-clause-leads : goal.returns-clause-leads
returns-clause-leads c =
    let placed = c.args.placed in
    let place : behind c.args.pc placed.run.plain ≡ (c.args.pc + c.from-words.result * 4) % 2 ^ 64 = omega (arith, c.from-words.ensures) in
    if_so c.leg_behind.result _ _ c.leg_behind.ensures.leads (λ leg. of_atom c.args.image.now c.args.pc _ placed c.args.taken leg c.requires place)

pub returns-clause-halts : goal.returns-clause-halts
returns-clause-halts c = λ f is.
    let run = c.requires.run in
    let plain = c.args.placed.run.plain in
    let place : behind c.args.pc plain ≡ (c.args.pc + c.from-words.result * 4) % 2 ^ 64 = omega (arith, c.from-words.ensures) in
    let refuses = subst (λ word. Refuses word ((c.args.pc + c.from-words.result * 4) % 2 ^ 64) c.args.taken f) (sym run.1)
    (c.leg_behind.ensures.halts f is) in
    (plain, run.0.0, subst (λ a. Refuses (class_at c.args.image.now (behind c.args.pc plain)) a c.args.taken f) (sym place) refuses)
