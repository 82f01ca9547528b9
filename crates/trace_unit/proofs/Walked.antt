-- Rows over the blocks that an image allows are walked.
use Rattle.std.proofs.Common.{◌≡◌, ℕ, ◌+◌, ◌-◌, Bool, true, false, ◌&&◌, if◌then◌else◌, List, [], ◌∷◌, Option, Some, None, Ok}
use Rattle.std.proofs.Common.{refl, sym, ap, subst, ◌∙◌, inl, arith}
use Rattle.std.specs.Prelude.{map, not, is_none}
use Rattle.std.specs.Option.{unwrap_or}
use Rattle.a64_branches.specs.declared.class.Class.{Class}
use Rattle.a64_branches.specs.declared.class.Class.TheVariants as class
use Rattle.etm_types.specs.declared.element.P0.TheVariants.{Atom}
use Rattle.program_image.specs.Blocks.{class_at, behind}
use Rattle.program_image.specs.declared.image.Image.{Image}
use Rattle.path_walker.specs.declared.pc.Pc.{Pc}
use Rattle.path_walker.specs.declared.pc.Pc.TheVariants.{Known, Awaited}
use Rattle.path_walker.specs.State.{State}
use Rattle.path_walker.specs.Start.{start_of}
use Rattle.path_walker.specs.Steps.{next_of, stack_after, linked}
use Rattle.path_walker.specs.Things.{Gives, Walks}
use Rattle.path_walker.specs.Walk.{GoesOn, Leads, Shows, is_cond, takes}
use Rattle.spec_run.specs.Blocks.{Block}
use Rattle.spec_run.specs.Executed.{Executes}
use Rattle.spec_run.specs.Kinds.{is_p0_kind, took_of}
use Rattle.spec_run.specs.declared.step.RunStep.{RunStep}
use Rattle.spec_run.specs.declared.step.StepKind.{StepKind}
use Rattle.spec_run.specs.declared.step.StepKind.TheVariants.{Cond, Eret, Exc, Ind, Isb, Jump, Plain}
use Rattle.trace_unit.proofs.Rows.{IsLed, Led, Row, after, after_all, all_items, block_of, count_of, p0_of, pc_after, row_items, thing_of, walked_of}
use Rattle.trace_unit.proofs.RunBlocks.{AreRunBlocks, IsRunBlock}
use Rattle.trace_unit.specs.Places.{link_after}

-- ---- a block

-- an atom at the end of a block, by the class of its word
atom : (image : Image) (b : Block) (c : Class) (taken : Bool) (pc : Pc) (stack after : List ℕ) → IsRunBlock image b → class_at image b.last.addr ≡ Some c
    → next_of c b.last.addr taken ≡ Some pc
    → after ≡ stack_after c b.last.addr stack → GoesOn image b.start stack taken (b.plain + 1) pc after
atom image b c taken pc stack after is there next kept =
    record {
      plain = b.plain;
      class = c;
      run = is.run;
      there = subst (λ a. class_at image a ≡ Some c) is.there there;
      next = subst (λ a. next_of c a taken ≡ Some pc) is.there next;
      counted = refl;
      kept = subst (λ a. after ≡ stack_after c a stack) is.there kept;
    }

no_link : (s : RunStep) (stack : List ℕ) → s.link ≡ false → linked (link_after s) stack ≡ stack
no_link s stack e = simp e

jumps : (link : Bool) (offset : _) (addr : ℕ) (stack : List ℕ)
    → linked (if link then Some (behind addr 1) else None) stack ≡ stack_after (class.Jump offset link) addr stack
jumps true offset addr stack = refl
jumps false offset addr stack = refl

calls : (link : Bool) (addr : ℕ) (stack : List ℕ) → linked (if link then Some (behind addr 1) else None) stack ≡ stack_after (class.Ind link) addr stack
calls true addr stack = refl
calls false addr stack = refl

leads : (image : Image) (b : Block) (kind : StepKind) (stack : List ℕ) → IsRunBlock image b → Executes image kind b.last → is_p0_kind kind ≡ true
    → Leads image (Some b.start) stack (p0_of kind b.last.addr) (count_of kind b.plain) (pc_after kind b.last) (linked (link_after b.last) stack)
leads image b Plain stack is does p = absurd cc
leads image b Isb stack is does p = atom image b class.Isb true (Known b.last.next) stack _ is does.0 (ap (λ a. Some (Known a)) (sym does.1))
    (no_link b.last stack does.2)
leads image b Jump stack is does p = atom image b (class.Jump does.0 b.last.link) true (Known b.last.next) stack _ is does.1
    (ap (λ a. Some (Known a)) (sym does.2)) (jumps b.last.link does.0 b.last.addr stack)
leads image b (Cond true) stack is does p = atom image b (class.Cond does.0) true (Known b.last.next) stack _ is does.1
    (ap (λ a. Some (Known a)) (sym does.2)) (no_link b.last stack does.3)
leads image b (Cond false) stack is does p = atom image b (class.Cond does.0) false (Known b.last.next) stack _ is does.1
    (ap (λ a. Some (Known a)) (sym does.2)) (no_link b.last stack does.3)
leads image b (Ind link) stack is does p =
    atom image b (class.Ind link) true (Awaited (not link)) stack _ is does.0 refl
    (ap (λ l. linked (if l then Some (behind b.last.addr 1) else None) stack) does.1 ∙ calls link b.last.addr stack)
leads image b Eret stack is does p = atom image b class.Eret true (Awaited false) stack _ is does.0 refl (no_link b.last stack does.1)
leads image b (Exc kind) stack is does p =
    ((λ k lt. ((λ e. is.early k lt (e ∙ is.there)), is.run k lt)), sym is.there, refl, no_link b.last stack does)

-- a conditional branch at the end of a block is taken by an E atom
taken_at : (image : Image) (b : Block) (c : Class) (taken : Bool) → IsRunBlock image b → class_at image b.last.addr ≡ Some c
    → takes image (Some b.start) (Atom taken) (b.plain + 1) ≡ taken && is_cond (Some c)
taken_at image b c taken is there =
    let back : b.plain + 1 - 1 ≡ b.plain = omega arith in
    ap (λ n. taken && is_cond (class_at image (behind b.start n))) back ∙ ap (λ a. taken && is_cond (class_at image a)) (sym is.there)
    ∙ ap (λ k. taken && is_cond k) there

took : (image : Image) (b : Block) (kind : StepKind) → IsRunBlock image b → Executes image kind b.last → is_p0_kind kind ≡ true
    → took_of kind ≡ takes image (Some b.start) (p0_of kind b.last.addr) (count_of kind b.plain)
took image b Plain is does p = absurd cc
took image b Isb is does p = sym (taken_at image b class.Isb true is does.0)
took image b Jump is does p = sym (taken_at image b (class.Jump does.0 b.last.link) true is does.1)
took image b (Cond true) is does p = sym (taken_at image b (class.Cond does.0) true is does.1)
took image b (Cond false) is does p = refl
took image b (Ind link) is does p = sym (taken_at image b (class.Ind link) true is does.0)
took image b Eret is does p = sym (taken_at image b class.Eret true is does.0)
took image b (Exc kind) is does p = refl

row_shows : (image : Image) (first : Bool) (w : State) (r : Row) → IsRunBlock image r.block → IsLed first w r
    → Shows image w (record { pre = r.pre; p0 = p0_of r.block.last.kind r.block.last.addr }) (walked_of r) (after w r)
row_shows image first w r is led =
    record {
      agrees = led.agrees;
      leads = subst (λ a. Leads image a (start_of w r.pre).stack (p0_of r.block.last.kind r.block.last.addr) (count_of r.block.last.kind r.block.plain)
          (after w r).pc (after w r).stack) (sym led.at)
          (leads image r.block r.block.last.kind (start_of w r.pre).stack is is.does is.ends);
      on = refl;
      unknown = sym (ap (λ (a : Option ℕ). is_none a) led.at);
      start = sym (ap (λ a. unwrap_or a 0) led.at);
      ctx = sym led.ctx;
      kept = sym led.ctx;
      exc = refl;
      took = took image r.block r.block.last.kind is is.does is.ends
          ∙ ap (λ a. takes image a (p0_of r.block.last.kind r.block.last.addr) (count_of r.block.last.kind r.block.plain)) (sym led.at);
    }

pub row_gives : (image : Image) (first : Bool) (w : State) (r : Row) → IsRunBlock image r.block → IsLed first w r
    → Gives image w (thing_of r) (row_items r) (after w r)
row_gives image first w r is led = (walked_of r, row_shows image first w r is led, refl)

pub led_walks : (image : Image) (first : Bool) (w : State) (rows : List Row) → AreRunBlocks image (map block_of rows) → Led first w rows
    → Walks image w (map thing_of rows) (all_items rows) (Ok (after_all w rows))
led_walks image first w [] are led = (refl, refl)
led_walks image first w (r ∷ rows) are led =
    inl (row_items r, all_items rows, after w r, row_gives image first w r are.0 led.0, led_walks image false (after w r) rows are.1 led.1, refl)
