use Rattle.std.proofs.Common.{subst}
use Rattle.stream_decoder.proofs.FlushedLines.{lines_written}
use Rattle.stream_decoder.specs.LineFollowing.{Outcome, following}
use Rattle.stream_decoder.specs.LinesPut.{TakesLines}
use Rattle.stream_decoder.proofs.decoder.follow_to_end.Goals as goal

pub returns-clause-runs : goal.returns-clause-runs
returns-clause-runs g c =
    let follows = c.follow_bytes.ensures.follows in let old = c.args.follower.now in let mid = c.follow_bytes.new.follower in
    let new = c.write_put.new.self in let state = g.K.Sink.state in
    let first = subst (λ (o : Outcome). TakesLines (following (state old.sink.now) old.lines.now o) follows.more
    (following (state mid.sink.now) mid.lines.now mid.result)) c.requires.whole follows.takes.2 in
    let written = lines_written (state old.sink.now) (state mid.sink.now) (state new.sink.now) old.lines.now mid.lines.now new.lines.now follows.more
    c.requires.none mid.result new.result tt first c.write_put.ensures.writes in
    record {
      more = follows.more;
      came = follows.came;
      writes = written.0;
      context = written.1;
      settings = follows.settings;
      offset = follows.offset;
    }
