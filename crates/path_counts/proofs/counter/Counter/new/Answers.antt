use Rattle.std.proofs.Common.{List, ℕ, ap, arith, length, ◌∙◌}
use Rattle.path_counts.specs.Levels.{levels_of}
use Rattle.path_counts.proofs.Counted.{none_counted}
use Rattle.path_counts.proofs.LevelSums.{length_none, length_sums, levels_none}
use Rattle.path_counts.proofs.counter.Counter.new.Goals as goal

pub returns-clause-none : goal.returns-clause-none
returns-clause-none c =
    none_counted c.args.image.now _ c.word_count-words.result c.word_count-words.ensures.parts c.word_count-words.ensures.value
    (ap levels_of c.in_ok-visits.ensures ∙ levels_none c.word_count-words.result) c.in_ok-taken.ensures c.in_ok-marks.ensures

pub returns-clause-length : goal.returns-clause-length
returns-clause-length c =
    let long = ap (λ (l : List ℕ). length l) c.in_ok-visits.ensures in
    omega (arith, length_sums 0 c.in_ok-visits.visits, long, length_none c.word_count-words.result, c.word_count-words.ensures.value)
