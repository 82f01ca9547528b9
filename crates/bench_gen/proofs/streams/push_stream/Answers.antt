use Rattle.std.proofs.Common.{append_assoc}
use Rattle.std.proofs.lemmas.Result.{IfOk-equal}
use Rattle.bench_gen.specs.Bench.{stream_lines}
use Rattle.bench_gen.proofs.streams.push_stream.Goals as goal

pub returns : goal.returns
unfolding stream_lines
returns c =
    IfOk-equal c.push_rounds.result _ _ _ c.push_rounds.ensures
    (rw (c.in_ok-push_line-2.ensures, c.in_ok-push_line.ensures, c.in_ok-extend_from_slice.ensures.items, c.id.ensures) (simp append_assoc))
