use Rattle.std.proofs.Common.{◌<◌, ◌≤◌, ◌+◌, ◌++◌, arith, drop, get_or, length, take}
use Rattle.std.proofs.lemmas.Result.{err_from_is_err_and}
use Rattle.woven_traces.proofs.WovenFrames.{cut_part, weaves_cut}
use Rattle.woven_traces.proofs.WovenPlaces.{next_left}
use Rattle.woven_traces.specs.Weaving.{all_left, left_of}
use Rattle.woven_traces.specs.Woven.{in_a_row, under}
use Rattle.woven_traces.proofs.weaving.push_rest.Goals as goal

pub returns-in_err-push_next-clause-weaves : goal.returns-in_err-push_next-clause-weaves
returns-in_err-push_next-clause-weaves g c start pairs was =
    let now = g.K.Sink.state c.push_next.new.out in
    let traces = c.loop-trace.traces in
    let k = c.loop-trace.trace-index in
    let count = c.len-left.result in
    let t = get_or traces k c.trace-item.result in
    let lt : k < length traces = omega (arith, c.loop-trace-test.true, c.loop-trace.auto.traces) in
    let few : length t.bytes.items ≤ count = omega (arith, c.len-left.ensures) in
    let next = next_left traces k count c.trace-item.result lt few in
    let so_far = c.loop-trace.invariant.so_far start pairs was in
    let failed = c.in_err-push_next.ensures.weaves start (pairs ++ so_far.0) so_far.1 in
    let whole = in_a_row (all_left c.args.traces.now) in
    let one = under t.id (take count (left_of t).1) in
    let cut = cut_part pairs whole so_far.0 (in_a_row (all_left (drop k traces))) one (in_a_row (all_left (drop (k + 1) traces)))
    so_far.2 next start now failed.cut in
    let p = err_from_is_err_and c.from_residual.result c.from_residual.ensures.1 in
    rw p.1 (weaves_cut c.push_next.new.frames (pairs ++ whole) start now p.0 cut)
