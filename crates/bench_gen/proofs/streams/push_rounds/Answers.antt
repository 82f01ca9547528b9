use Rattle.std.proofs.Common.{◌≡◌, ◌*◌, ◌+◌, ◌∙◌, sym, ap, arith}
use Rattle.bench_gen.specs.Bench.{round_of, state}
use Rattle.bench_gen.specs.Round.{next}
use Rattle.bench_gen.proofs.Added.{added_lines, iterate_more}
use Rattle.bench_gen.proofs.streams.push_rounds.Goals as goal

pub loop-j-preserved : goal.loop-j-preserved
loop-j-preserved c =
    let j = c.loop-j.j in
    let it : c.next-x.result ≡ state c.args.n c.args.i j =
    c.next-x.ensures ∙ ap next c.loop-j.invariant.state ∙ sym (iterate_more next j (c.args.n * 111 + c.args.i)) in
    record {
      lines =
          added_lines (round_of c.args.n c.args.i) _ _ _ 0 j j _ (omega arith) (omega arith) c.loop-j.invariant.lines (rw it at c.in_ok-push_round.ensures);
      state = it;
    }
