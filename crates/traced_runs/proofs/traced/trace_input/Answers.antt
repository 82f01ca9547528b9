use Rattle.std.proofs.Common.{ap, ◌∙◌}
use Rattle.retired_paths.proofs.RetiredStreams.{bad_bench, refuses_so}
use Rattle.traced_runs.proofs.LastFrames.{traces_so}
use Rattle.woven_traces.specs.Weaving.{all_left}
use Rattle.traced_runs.proofs.traced.trace_input.Goals as goal

pub returns-in-Ok-traced_streams-clause-answer : goal.returns-in-Ok-traced_streams-clause-answer
returns-in-Ok-traced_streams-clause-answer g c =
    let image = c.args.image.now in
    let bench = c.in-Ok.bench in
    let input = g.J.Source.state in
    let out = g.K.Sink.state in
    let made = c.in-Ok-traced_streams.ensures.traces in
    traces_so image c.args.last c.args.every (input c.args.input.now) (input c.read_bench.new.input) (out c.args.out.now) (out c.write_traces.new.out) bench _ _
    c.in-Ok.ensures.ok c.word_at-word.ensures.parts c.in-Ok.ensures.parts made.1 (ap all_left c.deref_mut.ensures.value ∙ made.0)
    c.write_traces.ensures.written (λ none. ap out (c.write_traces.ensures.memory none))

pub returns-in-Err-Refused-clause-answer : goal.returns-in-Err-Refused-clause-answer
returns-in-Err-Refused-clause-answer g c =
    let image = c.args.image.now in
    let bench = c.in-Ok.bench in
    let input = g.J.Source.state in
    refuses_so _ image _ _ _ _ _ _ c.refuse-in-Err-Refused.result
    (bad_bench image (input c.args.input.now) (input c.read_bench.new.input) bench _ _ c.in-Ok.ensures.ok
    (c.in-Err-Refused.ensures.refused _ _ cc))
    c.refuse-in-Err-Refused.ensures.written c.refuse-in-Err-Refused.ensures.status
