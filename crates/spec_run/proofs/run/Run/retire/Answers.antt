use mir.Val.{bool_byte}
use Rattle.std.proofs.Common.{◌∙◌, ap, arith, drop, length, refl, sym, take}
use Rattle.std.specs.Prelude.{slice_get}
use Rattle.spec_run.specs.Steps.{isb_behind, p0s}
use Rattle.spec_run.proofs.Held.{byte_within, front_none, front_some, isb_at, p0s_pushed, p0s_within, parted, parted_length, rest_more}
use Rattle.spec_run.proofs.Windows.{window_left}
use Rattle.spec_run.proofs.run.Run.retire.Goals as goal
use Rattle.spec_run.proofs.run.Run.retire.Goals.{in-Some-pop_front, in_default-pop_front}

pub overflow_add-p0 : goal.overflow_add-p0
overflow_add-p0 c =
    let was = c.self.inside.held.items in
    let i = c.self.invariant in
    let parts = parted c.loop.counter was in
    let few = p0s_within was in
    omega (arith, c.loop.invariant.p0, parts, few, i.within, c.from-p0.ensures, byte_within c.is_p0.result)

pub loop-preserved : goal.loop-preserved
loop-preserved c =
    let i = c.loop.invariant in
    let n = c.loop.counter in
    let was = c.self.inside.held.items in
    let before = c.in-Some.standing.after_isb in
    let first = ap (λ l. slice_get l 0) (sym i.rest) ∙ sym c.pop_front.ensures.value in
    let capacity = ap (λ b. b.capacity) c.pop_front.ensures.items ∙ i.capacity in
    let rest = ap (λ b. b.items) c.pop_front.ensures.items ∙ ap (drop 1) i.rest ∙ rest_more n _ was refl in
    elim c.match-pop_front.branch [
      | in-Some-pop_front w ↦
          let s = w.in-Some-pop_front.step in
          let more = front_some n _ was s refl (first ∙ w.in-Some-pop_front.is) in
          record {
            depth = i.depth;
            capacity = capacity;
            counted = i.counted;
            standing = i.standing;
            rest = rest;
            p0 = omega (arith, w.p0-is, i.p0, w.from-p0.ensures, ap bool_byte w.is_p0.ensures, p0s_pushed (take n was) s, ap p0s more);
            after_isb = ap (λ p. p.after_isb) w.standing-is ∙ w.is_isb.ensures ∙ sym (isb_at before (take n was) s) ∙ ap (isb_behind before) (sym more);
            pc = ap (λ p. p.pc) w.standing-is ∙ i.pc;
            ctx = ap (λ p. p.ctx) w.standing-is ∙ i.ctx;
          }
      | in_default-pop_front w ↦
          let same = front_none n _ was refl (first ∙ w.in_default-pop_front.is) in
          record {
            depth = i.depth;
            capacity = capacity;
            counted = i.counted;
            standing = i.standing;
            rest = rest;
            p0 = w.p0-is ∙ i.p0 ∙ ap p0s (sym same);
            after_isb = ap (λ p. p.after_isb) w.standing-is ∙ i.after_isb ∙ ap (isb_behind before) (sym same);
            pc = ap (λ p. p.pc) w.standing-is ∙ i.pc;
            ctx = ap (λ p. p.ctx) w.standing-is ∙ i.ctx;
          }
    ]

pub overflow_sub-self : goal.overflow_sub-self
overflow_sub-self c =
    let i = c.loop.invariant in
    let parts = parted c.loop.counter c.self.inside.held.items in
    omega (arith, i.p0, i.counted, c.self.invariant.counted, parts)

pub invariant_of-self : goal.invariant_of-self
invariant_of-self c =
    let i = c.loop.invariant in
    let r = c.self.inside in
    let now = c.loop.self-inside in
    let n = c.loop.counter in
    rw (i.depth, i.counted)
    (window_left r.depth r.p0 c.loop.p0 r.held now.held (take n r.held.items) r.standing c.loop.standing c.self.invariant i.capacity i.p0
    (omega (arith, ap length i.rest, parted_length n r.held.items)) (omega (arith, ap p0s i.rest, parted n r.held.items)))
