use Rattle.std.proofs.Common.{◌-◌, arith}
use Rattle.bench_gen.specs.Bench.{weave_word}
use Rattle.bench_gen.proofs.Added.{added}
use Rattle.bench_gen.proofs.weaves.push_words.Goals as goal

pub loop-i-preserved : goal.loop-i-preserved
loop-i-preserved c =
    added weave_word _ _ _ 1 (c.loop-i.i - 1) c.loop-i.i _ (omega arith) (omega arith) c.loop-i.invariant c.in_ok-push_word.ensures

pub returns-in_ok-push_word : goal.returns-in_ok-push_word
returns-in_ok-push_word c =
    added weave_word _ _ _ 1 (c.loop-i.i - 1) c.loop-i.i _ (omega arith) (omega arith) c.loop-i.invariant c.in_ok-push_word.ensures
