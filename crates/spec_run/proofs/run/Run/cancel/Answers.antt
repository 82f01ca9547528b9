use mir.Val.{bool_byte}
use Rattle.std.proofs.Common.{◌∙◌, ◌-◌, ap, arith, drop, length, refl, sym, take}
use Rattle.circular_buffer.specs.Buffer.{last_item}
use Rattle.spec_run.specs.Steps.{ctx_at, is_p0, p0s, pc_at}
use Rattle.spec_run.proofs.Held.{byte_is, byte_within, kept_more, newest_none, newest_some, p0s_within, parted, parted_length}
use Rattle.spec_run.proofs.Windows.{window_left}
use Rattle.spec_run.proofs.run.Run.cancel.Goals as goal
use Rattle.spec_run.proofs.run.Run.cancel.Goals.{in-Some-pop_back, in_default-pop_back}

pub overflow_add-p0 : goal.overflow_add-p0
overflow_add-p0 c =
    let was = c.self.inside.held.items in
    let i = c.self.invariant in
    let parts = parted (length was - c.loop.counter) was in
    let few = p0s_within was in
    omega (arith, c.loop.invariant.p0, parts, few, i.within, c.from-p0.ensures, byte_within c.is_p0.result)

pub loop-preserved : goal.loop-preserved
loop-preserved c =
    let i = c.loop.invariant in
    let n = c.loop.counter in
    let was = c.self.inside.held.items in
    let at = c.in-Some.standing in
    let last = ap last_item (sym i.rest) ∙ sym c.pop_back.ensures.value in
    let capacity = ap (λ b. b.capacity) c.pop_back.ensures.items ∙ i.capacity in
    let rest = ap (λ b. b.items) c.pop_back.ensures.items ∙ ap (λ l. take (length l - 1) l) i.rest ∙ kept_more n _ was refl in
    elim c.match-pop_back.branch [
      | in-Some-pop_back w ↦
          let s = w.in-Some-pop_back.step in
          let more = newest_some n _ was s refl (last ∙ w.in-Some-pop_back.is) in
          record {
            depth = i.depth;
            capacity = capacity;
            counted = i.counted;
            standing = i.standing;
            rest = rest;
            p0 = omega (arith, w.p0-is, i.p0, w.from-p0.ensures, ap bool_byte w.is_p0.ensures, byte_is (is_p0 s), ap p0s more);
            pc = ap (λ p. p.pc) w.standing-is ∙ ap (pc_at at.pc) (sym more);
            ctx = ap (λ p. p.ctx) w.standing-is ∙ ap (ctx_at at.ctx) (sym more);
            after_isb = ap (λ p. p.after_isb) w.standing-is ∙ i.after_isb;
          }
      | in_default-pop_back w ↦
          let same = newest_none n _ was refl (last ∙ w.in_default-pop_back.is) in
          record {
            depth = i.depth;
            capacity = capacity;
            counted = i.counted;
            standing = i.standing;
            rest = rest;
            p0 = w.p0-is ∙ i.p0 ∙ ap p0s (sym same);
            pc = ap (λ p. p.pc) w.standing-is ∙ i.pc ∙ ap (pc_at at.pc) (sym same);
            ctx = ap (λ p. p.ctx) w.standing-is ∙ i.ctx ∙ ap (ctx_at at.ctx) (sym same);
            after_isb = ap (λ p. p.after_isb) w.standing-is ∙ i.after_isb;
          }
    ]

pub overflow_sub-self : goal.overflow_sub-self
overflow_sub-self c =
    let was = c.self.inside.held.items in
    let i = c.loop.invariant in
    let parts = parted (length was - c.loop.counter) was in
    omega (arith, i.p0, i.counted, c.self.invariant.counted, parts)

pub invariant_of-self : goal.invariant_of-self
invariant_of-self c =
    let i = c.loop.invariant in
    let r = c.self.inside in
    let now = c.loop.self-inside in
    let n = length r.held.items - c.loop.counter in
    rw (i.depth, i.counted)
    (window_left r.depth r.p0 c.loop.p0 r.held now.held (drop n r.held.items) r.standing c.loop.standing c.self.invariant i.capacity i.p0
    (omega (arith, ap length i.rest, parted_length n r.held.items)) (omega (arith, ap p0s i.rest, parted n r.held.items)))
