use Rattle.std.proofs.Common.{◌++◌, length, subst}
use Rattle.capture_streams.proofs.PathStreams.{seen_within}
use Rattle.capture_streams.specs.Paths.{PathTallies}
use Rattle.capture_streams.specs.Streams.{SettlesBut}
use Rattle.element_queue.specs.Counting.{entries}
use Rattle.stream_decoder.specs.Decoding.{Decoding}
use Rattle.stream_decoder.specs.Follows.{CameTo}
use Rattle.count_streams.proofs.count_stream.CountStreamStream.ledger.Goals as goal

pub returns-clause-tallied : goal.returns-clause-tallied
returns-clause-tallied c image bytes came =
    subst (λ (d : Decoding). CameTo image d bytes → PathTallies image d.reader.settings bytes c.ledger.result) c.self.view_is
    (λ there items last took path.
    (c.ledger.ensures.made image bytes items last took there path, λ free. c.ledger.ensures.counts image bytes items last took there path free)) came

pub returns-clause-balanced : goal.returns-clause-balanced
returns-clause-balanced c =
    subst (λ (d : Decoding). SettlesBut (length (d.due ++ d.pending.held)) c.ledger.result) c.self.view_is
    (let things = c.self.inside.stream.due ++ c.self.inside.stream.pending.held in (entries things, seen_within things, c.ledger.ensures.balanced))
