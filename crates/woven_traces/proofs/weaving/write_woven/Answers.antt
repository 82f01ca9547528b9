use Rattle.std.proofs.Common.{[]}
use Rattle.std.proofs.lemmas.Result.{err_from_is_err_and}
use Rattle.woven_traces.proofs.WovenFrames.{fails_before, finished, nothing_yet}
use Rattle.woven_traces.specs.Weaving.{all_left}
use Rattle.woven_traces.specs.Woven.{woven}
use Rattle.woven_traces.proofs.weaving.write_woven.Goals as goal

pub returns-in_err-push_woven : goal.returns-in_err-push_woven
returns-in_err-push_woven g c =
    let state = g.K.Sink.state in
    let start = state c.args.out.now in
    let failed = c.in_err-push_woven.ensures.weaves start [] (nothing_yet c.new-frames.result start c.new-frames.ensures) in
    let whole = woven c.args.bench.now.weaves (all_left c.args.traces.now) in
    let p = err_from_is_err_and c.from_residual.result c.from_residual.ensures.1 in
    rw p.1 (fails_before whole start (state c.push_woven.new.out) p.0 failed.cut)

pub returns : goal.returns
returns g c =
    let state = g.K.Sink.state in
    let start = state c.args.out.now in
    let whole = woven c.args.bench.now.weaves (all_left c.args.traces.now) in
    let done = (c.in_ok-push_woven.ensures.weaves start [] (nothing_yet c.new-frames.result start c.new-frames.ensures)).done in
    let e = c.finish.ensures in
    finished c.push_woven.new.frames whole start (state c.push_woven.new.out) (state c.finish.new.sink) c.finish.result done (e.written whole done.stands)
    e.serves.shows e.serves.cause
