use Rattle.std.proofs.Common.{◌≡◌, [], length, ap, arith, map, sym, ◌∙◌}
use Rattle.etm_types.specs.declared.element.Thing.TheVariants.{Seen}
use Rattle.element_queue.specs.Counting.{counts_after}
use Rattle.element_queue.specs.Pending.{losing}
use Rattle.element_queue.proofs.Balanced.{same_counts}
use Rattle.element_queue.proofs.Held.{entries-things, none_left, things}
use Rattle.element_queue.proofs.queue.Queue.discard.Goals as goal

pub returns-clause-value : goal.returns-clause-value
returns-clause-value c =
    let was = c.self.inside in
    let now = c.loop-oldest.self-inside in
    let kept = c.loop-oldest.invariant in
    let none : c.pop_front.new.self.items ≡ [] = sym c.in_default.ensures.order ∙ none_left now.entries.items c.in_default.ensures.empty.1 in
    let lost = entries-things was.unseen was.entries.items in
    let counts : now.ledger ≡ counts_after was.ledger 0 (losing (things was.unseen was.entries.items)) =
    same_counts _ _ (omega arith) (omega arith) (omega arith) (omega (arith, ap length none, ap length c.in_default.ensures.order, lost)) in
    rw (← c.self.view_is) (λ k. record {
      held = map Seen (none k);
      pre = c.trace_missing-self-inside.ensures k;
      depth = kept.depth k;
      counts = counts k;
    })
