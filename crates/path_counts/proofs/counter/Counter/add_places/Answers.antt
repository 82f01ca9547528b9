use Rattle.std.proofs.Common.{◌≡◌, ◌-◌, ◌∙◌, ap, arith, length, subst, sym}
use Rattle.path_counts.specs.Counts.{Counting}
use Rattle.path_counts.specs.Levels.{RaisesLast, RaisesRun, levels_of, place_behind}
use Rattle.path_counts.proofs.LevelSums.{length_sums, run_raised}
use Rattle.path_counts.proofs.counter.Counter.add_places.Goals as goal

pub raise-requires-clause-place : goal.raise-requires-clause-place
raise-requires-clause-place c =
    omega (arith, length_sums 0 c.self.inside.visits, ap (λ (v : Counting). length v.visits) c.self.view_is, c.requires.place)

pub raise-requires-clause-count : goal.raise-requires-clause-count
raise-requires-clause-count c =
    omega (arith, length_sums 0 c.self.inside.visits, ap (λ (v : Counting). length v.visits) c.self.view_is, c.requires.few)

pub raise-requires-clause-small : goal.raise-requires-clause-small
raise-requires-clause-small c =
    omega (arith, length_sums 0 c.self.inside.visits, ap (λ (v : Counting). length v.visits) c.self.view_is, c.requires.small)

pub last_place-last-requires-clause-small : goal.last_place-last-requires-clause-small
last_place-last-requires-clause-small c =
    omega (arith, length_sums 0 c.self.inside.visits, ap (λ (v : Counting). length v.visits) c.self.view_is, c.requires.small, c.self.invariant.0, c.len.ensures)

pub last_place-last-requires-clause-place : goal.last_place-last-requires-clause-place
last_place-last-requires-clause-place c =
    omega (arith, length_sums 0 c.self.inside.visits, ap (λ (v : Counting). length v.visits) c.self.view_is, c.requires.place, c.self.invariant.0, c.len.ensures)

pub last_place-last-requires-clause-few : goal.last_place-last-requires-clause-few
last_place-last-requires-clause-few c =
    omega (
      arith,
      length_sums 0 c.self.inside.visits,
      ap (λ (v : Counting). length v.visits) c.self.view_is,
      c.requires.few,
      c.requires.some,
      c.self.invariant.0,
      c.len.ensures,
    )

pub raise_if-requires : goal.raise_if-requires
raise_if-requires c = omega (arith, c.last_place-last.ensures.within, c.len.ensures)

pub returns-clause-visits : goal.returns-clause-visits
returns-clause-visits c =
    subst (λ (v : Counting). RaisesRun v.visits (levels_of c.raise.new.self) c.args.place c.args.count) c.self.view_is
    (run_raised c.self.inside.visits c.raise.new.self c.args.place c.args.count c.raise.ensures.raised)

pub returns-clause-taken : goal.returns-clause-taken
returns-clause-taken c =
    let long : length c.self.inside.visits ≡ length c.args.self.now.visits =
    sym (length_sums 0 c.self.inside.visits) ∙ ap (λ (v : Counting). length v.visits) c.self.view_is in
    let last : c.last_place-last.result ≡ place_behind (length c.args.self.now.visits) c.args.place (c.args.count - 1) =
    c.last_place-last.ensures.place ∙ ap (λ n. place_behind n c.args.place (c.args.count - 1)) (c.len.ensures ∙ c.self.invariant.0 ∙ long) in
    let raised = subst (λ n. RaisesLast c.self.inside.taken c.raise_if.new.self c.args.took n) last c.raise_if.ensures.raised in
    subst (λ (v : Counting). RaisesLast v.taken c.raise_if.new.self c.args.took
    (place_behind (length c.args.self.now.visits) c.args.place (c.args.count - 1))) c.self.view_is raised

pub returns-clause-length : goal.returns-clause-length
returns-clause-length c = (
  length_sums 0 c.raise.new.self ∙ c.raise.ensures.length ∙ sym (length_sums 0 c.self.inside.visits) ∙ ap (λ (v : Counting). length v.visits) c.self.view_is,
  c.raise_if.ensures.length ∙ ap (λ (v : Counting). length v.taken) c.self.view_is,
)
