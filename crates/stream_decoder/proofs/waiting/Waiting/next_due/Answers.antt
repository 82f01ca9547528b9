use Rattle.std.proofs.Common.{ap, subst}
use Rattle.element_queue.specs.Counting.{AreCounts}
use Rattle.element_queue.specs.declared.ledger.Counts.{Counts}
use Rattle.stream_decoder.specs.Waiting.{Waiting}
use Rattle.stream_decoder.proofs.Waits.{gives_oldest, same_counts}
use Rattle.stream_decoder.proofs.waiting.Waiting.next_due.Goals as goal

pub returns-then-self-eq0-clause-others : goal.returns-then-self-eq0-clause-others
returns-then-self-eq0-clause-others c =
    let w = c.args.self.now in
    let are = subst (λ (v : Waiting). AreCounts v.counts) c.self.view_is c.self.invariant.2 in
    ap (λ (counts : Counts). record w { counts = counts }) (same_counts w.counts are)

pub returns-clause-others : goal.returns-clause-others
returns-clause-others c =
    let s = c.self.inside in
    gives_oldest s.queue c.commit_one.new.self s.informed s.due c.args.self.now _ _ c.self.view_is c.if-self-eq0.false c.commit_one.ensures.rest
    c.thing_of.ensures
