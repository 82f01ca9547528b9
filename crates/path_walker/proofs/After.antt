-- The state after an entry is a state: its addresses are those of instructions.
use Rattle.std.proofs.Common.{◌≡◌, ℕ, Bool, true, false, List, Option, Some, None, sym, subst, arith}
use Rattle.a64_branches.specs.Classes.{HasWholeOffset}
use Rattle.a64_branches.specs.declared.class.Class.{Class}
use Rattle.a64_branches.specs.declared.class.Class.TheVariants.{Plain, Jump, Cond, Isb, Ind, Eret, Odd}
use Rattle.a64_branches.proofs.Whole.{aligned_target}
use Rattle.program_image.specs.Blocks.{behind}
use Rattle.program_image.specs.Part.{word_of}
use Rattle.program_image.specs.declared.image.Image.{Image}
use Rattle.etm_types.specs.declared.element.P0.{P0}
use Rattle.etm_types.specs.declared.element.P0.TheVariants.{Atom, Exc}
use Rattle.etm_types.specs.declared.element.Entry.{Entry}
use Rattle.etm_types.specs.declared.walked.Walked.{Walked}
use Rattle.path_walker.specs.declared.pc.Pc.{Pc}
use Rattle.path_walker.specs.State.{State, IsState, IsAligned, IsPc}
use Rattle.path_walker.specs.Start.{start_of}
use Rattle.path_walker.specs.Steps.{next_of, stack_after}
use Rattle.path_walker.specs.Walk.{Leads, Shows, ToldIsAligned, HasAlignedAddresses}
use Rattle.path_walker.proofs.Ends.{whole_class}
use Rattle.path_walker.proofs.Stacks.{AreReturns, linked_returns}
use Rattle.path_walker.proofs.SomeWalk.{start_is}

behind_aligned : (address n : ℕ) → IsAligned address → IsAligned (behind address n)
behind_aligned address n aligned = omega (arith, aligned)

inner : {X : Type 0} {a b : X} → Some a ≡ Some b → a ≡ b
inner e = cc

next_is : (class : Class) (at : ℕ) (taken : Bool) (pc : Pc) → IsAligned at → HasWholeOffset class → next_of class at taken ≡ Some pc → IsPc pc
next_is Plain at taken pc aligned whole e = absurd cc
next_is Odd at taken pc aligned whole e = absurd cc
next_is (Jump offset link) at true pc aligned whole e = subst IsPc (inner e) (aligned_target at offset aligned whole)
next_is (Jump offset link) at false pc aligned whole e = absurd cc
next_is (Cond offset) at true pc aligned whole e = subst IsPc (inner e) (aligned_target at offset aligned whole)
next_is (Cond offset) at false pc aligned whole e = subst IsPc (inner e) (behind_aligned at 1 aligned)
next_is Isb at true pc aligned whole e = subst IsPc (inner e) (behind_aligned at 1 aligned)
next_is Isb at false pc aligned whole e = absurd cc
next_is (Ind link) at true pc aligned whole e = subst IsPc (inner e) tt
next_is (Ind link) at false pc aligned whole e = absurd cc
next_is Eret at true pc aligned whole e = subst IsPc (inner e) tt
next_is Eret at false pc aligned whole e = absurd cc

stack_is : (class : Class) (at : ℕ) (stack : List ℕ) → IsAligned at → AreReturns stack → AreReturns (stack_after class at stack)
stack_is Plain at stack aligned r = r
stack_is Odd at stack aligned r = r
stack_is (Jump offset true) at stack aligned r = linked_returns (Some (behind at 1)) stack (behind_aligned at 1 aligned) r
stack_is (Jump offset false) at stack aligned r = r
stack_is (Cond offset) at stack aligned r = r
stack_is Isb at stack aligned r = r
stack_is (Ind true) at stack aligned r = linked_returns (Some (behind at 1)) stack (behind_aligned at 1 aligned) r
stack_is (Ind false) at stack aligned r = r
stack_is Eret at stack aligned r = r

leads_after : (image : Image) (at : Option ℕ) (stack : List ℕ) (p0 : P0) (count : ℕ) (pc : Pc) (after : List ℕ) → ToldIsAligned at → AreReturns stack
    → Leads image at stack p0 count pc after
    → IsPc pc × AreReturns after
leads_after image None stack (Atom taken) count pc after aligned r l = (subst IsPc (sym l.1) tt, subst AreReturns (sym l.2) r)
leads_after image None stack (Exc kind ret) count pc after aligned r l = (subst IsPc (sym l.1) tt, subst AreReturns (sym l.2) r)
leads_after image (Some address) stack (Atom taken) count pc after aligned r l =
    let at = behind address l.plain in
    let here = behind_aligned address l.plain aligned in (
      next_is l.class at taken pc here (whole_class (word_of image at) l.class l.there) l.next,
      subst AreReturns (sym l.kept)
          (stack_is l.class at stack here r),
    )
leads_after image (Some address) stack (Exc kind ret) count pc after aligned r l = (subst IsPc (sym l.2) tt, subst AreReturns (sym l.3) r)

pub shows_state : (image : Image) (s : State) (entry : Entry) (walked : Walked) (after : State) → IsState s → HasAlignedAddresses entry
    → Shows image s entry walked after → IsState after
shows_state image s entry walked after state aligned shows =
    let start = start_is s entry.pre state aligned.0 in
    let next =
    leads_after image (start_of s entry.pre).at (start_of s entry.pre).stack entry.p0 walked.count after.pc after.stack start.at start.stack shows.leads in
    record { pc = next.0; stack = next.1.aligned; few = next.1.few }
