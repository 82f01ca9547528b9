use Rattle.std.proofs.Common.{ap, arith, length}
use Rattle.program_image.proofs.WordPlaces.{word_at}
use Rattle.path_counts.specs.Counts.{Counting}
use Rattle.path_counts.proofs.Counted.{Run, run_counted}
use Rattle.path_counts.proofs.Kth.{few_words as run_is_few}
use Rattle.path_counts.proofs.LevelSums.{length_sums}
use Rattle.path_counts.proofs.counter.Counter.add_round.Goals as goal

pub add_places-requires-clause-few : goal.add_places-requires-clause-few
add_places-requires-clause-few c =
    omega (
      arith,
      c.if-count-len.true,
      c.len.ensures,
      c.self.invariant.0,
      length_sums 0 c.self.inside.visits,
      ap (λ (v : Counting). length v.visits) c.self.view_is,
    )

pub returns-then-count-len-clause-counted : goal.returns-then-count-len-clause-counted
returns-then-count-len-clause-counted c image start is fits at are ctx =
    let first = word_at image c.args.place start is at in
    let run : Run image start c.args.count c.args.place = record { is = is; lt = first.small; at = at; some = c.requires.some; are = are } in
    run_counted image c.args.self.now c.add_places.new.self start c.args.count c.args.place ctx c.args.took run fits
    c.add_places.ensures.visits c.add_places.ensures.taken c.add_places.ensures.marks c.add_places.ensures.length.0 c.add_places.ensures.length.1

pub returns-else-count-len-clause-counted : goal.returns-else-count-len-clause-counted
returns-else-count-len-clause-counted c image start is fits at are ctx =
    let first = word_at image c.args.place start is at in
    let few = run_is_few image start c.args.count is first.aligned first.small are in
    absurd (omega (
      arith,
      few,
      fits,
      c.if-count-len.false,
      c.len.ensures,
      c.self.invariant.0,
      length_sums 0 c.self.inside.visits,
      ap (λ (v : Counting). length v.visits) c.self.view_is,
    ))
