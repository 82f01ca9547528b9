use Rattle.std.proofs.Common.{ap, arith, length}
use Rattle.program_image.proofs.WordPlaces.{word_at}
use Rattle.path_counts.specs.Counts.{Counting}
use Rattle.path_counts.proofs.Counted.{Run, run_counted}
use Rattle.path_counts.proofs.LevelSums.{length_sums}
use Rattle.path_counts.proofs.counter.Counter.add_words.Goals as goal

pub overflow_sub-len : goal.overflow_sub-len
overflow_sub-len c =
    omega (
      arith,
      c.requires.place,
      c.len.ensures,
      c.self.invariant.0,
      length_sums 0 c.self.inside.visits,
      ap (λ (v : Counting). length v.visits) c.self.view_is,
    )

pub add_within-requires-clause-within : goal.add_within-requires-clause-within
add_within-requires-clause-within c =
    omega (
      arith,
      c.if-count-len.true,
      c.requires.place,
      c.len.ensures,
      c.self.invariant.0,
      length_sums 0 c.self.inside.visits,
      ap (λ (v : Counting). length v.visits) c.self.view_is,
    )

pub returns-then-count-len-clause-counted : goal.returns-then-count-len-clause-counted
returns-then-count-len-clause-counted c image start is fits at are ctx =
    let first = word_at image c.args.place start is at in
    let run : Run image start c.args.count c.args.place = record { is = is; lt = first.small; at = at; some = c.requires.some; are = are } in
    run_counted image c.args.self.now c.add_within.new.self start c.args.count c.args.place ctx c.args.took run fits
    c.add_within.ensures.visits c.add_within.ensures.taken c.add_within.ensures.marks c.add_within.ensures.length.0 c.add_within.ensures.length.1
