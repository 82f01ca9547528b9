use Rattle.std.specs.Prelude.{◌++◌}
use Rattle.capture_streams.proofs.PathStreams.{seen_within}
use Rattle.capture_streams.proofs.paths.StreamDecoderStream.ledger.Goals as goal
use Rattle.element_queue.specs.Counting.{entries}

pub returns-clause-tallied : goal.returns-clause-tallied
returns-clause-tallied c image bytes stands items last took path =
    (c.ledger.ensures.made image bytes items last took stands path, λ free. c.ledger.ensures.counts image bytes items last took stands path free)

pub returns-clause-balanced : goal.returns-clause-balanced
returns-clause-balanced c =
    let things = c.args.self.now.decoding.due ++ c.args.self.now.decoding.pending.held in (entries things, seen_within things, c.ledger.ensures.balanced)
