use Rattle.element_queue.specs.Counting.{entries}
use Rattle.time_marks.proofs.Held.{no_more}
use Rattle.time_marks.proofs.streams.TimedDecoderStream.ledger.Goals as goal

pub returns-clause-balanced : goal.returns-clause-balanced
returns-clause-balanced c =
    let things = c.args.self.now.timing.line.queue.pending.held in (entries things, no_more things, c.ledger.ensures.balanced)
