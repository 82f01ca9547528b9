use Rattle.std.proofs.Common.{arith, refl, sym}
use Rattle.std.proofs.lemmas.List.{nil_from_length}
use Rattle.element_queue.proofs.EntryRuns.{popped}
use Rattle.element_queue.proofs.entries.oldest.pop_plain.Goals as goal

pub returns-then-plain_count-eq0-clause-none : goal.returns-then-plain_count-eq0-clause-none
returns-then-plain_count-eq0-clause-none c none =
    (refl, λ run is. nil_from_length run.plain (omega (arith, c.plain_count.ensures run is, c.if-plain_count-eq0.true)))

pub returns-clause-order : goal.returns-clause-order
returns-clause-order c =
    popped c.pop_front.result c.args.runs.now.items c.in-Some.run'.now c.pop_front.new.self (sym c.in-Some.ensures.value) c.pop_front.ensures.order
