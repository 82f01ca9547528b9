use Rattle.std.proofs.Common.{◌≡◌, ◌<◌, [], ◌∷◌, ◌++◌, Err, ap, arith, length, rules, sym, ◌∙◌}
use Rattle.std.proofs.lemmas.Result.{err_from_is_err_and}
use Rattle.retired_paths.proofs.Refused.{there_is}
use Rattle.retired_paths.proofs.RetiredStreams.{id_found}
use Rattle.traced_runs.proofs.Tracing.{none_among, one_among, trace_more}
use Rattle.woven_traces.specs.Weaving.{all_left}
use Rattle.traced_runs.specs.declared.traced.Untraced.TheVariants.{Refused}
use Rattle.woven_traces.specs.declared.weaving.Trace.{Trace}
use Rattle.traced_runs.proofs.traced.traced_streams.Goals as goal

pub returns-in_err-bytes-clause-refused : goal.returns-in_err-bytes-clause-refused
returns-in_err-bytes-clause-refused c line fault is =
    let streams = c.args.bench.now.streams in
    let s = c.loop-s.s in
    let lt : s < length streams = omega (arith, c.streams-s-end.ensures) in
    let found = there_is streams s lt in
    let p = err_from_is_err_and c.from_residual.result c.from_residual.ensures.1 in
    let same : c.in_err-bytes.field-0.0 ≡ Refused line fault = let e = sym p.1 ∙ is in let f = p.2 in cc in
    one_among c.args.image.now streams s found.0 line fault found.1 c.loop-s.invariant.accepted
    (c.in_err-bytes.ensures.refused found.0 found.1 line fault (ap Err same))

pub loop-s-preserved : goal.loop-s-preserved
loop-s-preserved c =
    let image = c.args.image.now in
    let bench = c.args.bench.now in
    let s = c.loop-s.s in
    let lt : s < length bench.streams = omega (arith, c.streams-s-end.ensures) in
    let found = there_is bench.streams s lt in
    let bytes = c.in_ok-bytes.ensures.bytes found.0 found.1 in
    let trace : Trace = record { id = c.in-Some.id; bytes = c.in_ok-bytes.bytes; woven = 0 } in
    let id = id_found bench.streams s c.in-Some.id found.0 found.1 c.in-Some.ensures in
    let pushed : c.push.new.self.items ≡ c.loop-s.made.items ++ trace ∷ [] = search rules in
    record {
      made = ap all_left pushed ∙ trace_more image bench c.loop-s.made.items trace s found.0 found.1 c.loop-s.invariant.made id bytes.0;
      accepted = none_among image bench.streams s found.0 found.1 c.loop-s.invariant.accepted bytes.1;
    }
