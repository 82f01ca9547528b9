use Rattle.std.proofs.Common.{◌≡◌, ◌+◌, ◌-◌, length, take, drop, ap, sym, ◌∙◌, arith}
use Rattle.element_queue.proofs.Balanced.{same_counts}
use Rattle.trace_unit.specs.Effects.{counts_cancelled}
use Rattle.trace_unit.specs.WindowKept.{StepsKept, oldest_saved, without_stacks}
use Rattle.trace_unit.proofs.WindowHeld.{emptied_length, emptied_take, oldest_at}
use Rattle.trace_unit.proofs.window.Window.cancel.Goals as goal

pub returns-clause-oldest : goal.returns-clause-oldest
returns-clause-oldest c =
    let was = c.self.inside in
    let steps = c.args.self.now.steps in
    let many = c.len.ensures.len ∙ sym (emptied_length was.emptied was.ring.items) ∙ ap (λ (k : StepsKept). length k.steps) c.self.view_is in
    c.saved_at-oldest.ensures ∙ oldest_at (c.len.result - c.args.n) steps ∙ ap (λ m. oldest_saved (drop (m - c.args.n) steps)) many

pub returns-clause-steps : goal.returns-clause-steps
returns-clause-steps c =
    let was = c.self.inside in
    let items = was.ring.items in
    let n = c.args.n in
    let i = length items - n in
    let emptied = c.min-self-inside.result in
    let kept = c.loop.invariant in
    let all : length items - c.loop.counter ≡ i = omega arith in
    let rest : emptied + (was.emptied - i) ≡ was.emptied = omega (arith, c.min-self-inside.ensures, kept.emptied, c.len.ensures.len) in
    let left : i ≡ length (without_stacks was.emptied items) - n = ap (λ m. m - n) (sym (emptied_length was.emptied items)) in
    let same : c.loop.self-inside.ledger ≡ counts_cancelled n was.ledger =
    same_counts _ _ (omega arith) (omega arith) (omega arith) (omega arith) in
    rw (← c.self.view_is) (λ k. record {
      steps = (ap (without_stacks emptied) (kept.items ∙ ap (λ m. take m items) all) ∙ emptied_take was.emptied i emptied items rest
          ∙ ap (λ m. take m (without_stacks was.emptied items)) left) k;
      room = kept.capacity k;
      counts = same k;
    })
