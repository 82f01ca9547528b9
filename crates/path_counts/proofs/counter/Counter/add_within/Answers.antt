use Rattle.std.proofs.Common.{◌≡◌, ◌<◌, ◌+◌, ◌-◌, ◌∙◌, ℕ, ap, arith, length, subst, sym}
use Rattle.std.proofs.lemmas.Bool.{lt-ltb}
use Rattle.path_counts.specs.Counts.{Counting}
use Rattle.path_counts.specs.Levels.{RaisesLast, RaisesRun, levels_of, place_behind}
use Rattle.path_counts.proofs.LevelSums.{length_sums, run_raised}
use Rattle.path_counts.proofs.counter.Counter.add_within.Goals as goal

-- the last place of a run that ends before the ring does
last_within : (n place count : ℕ) → 0 < count → place + count < n → place + count - 1 ≡ place_behind n place (count - 1)
last_within n place count some within =
    let below : place + (count - 1) < n = omega (arith, some, within) in
    let same : place + count - 1 ≡ place + (count - 1) = omega (arith, some) in rw (lt-ltb (place + (count - 1)) n below) same

pub raise_within-requires-clause-within : goal.raise_within-requires-clause-within
raise_within-requires-clause-within c =
    omega (arith, length_sums 0 c.self.inside.visits, ap (λ (v : Counting). length v.visits) c.self.view_is, c.requires.within)

pub raise_within-requires-clause-small : goal.raise_within-requires-clause-small
raise_within-requires-clause-small c =
    omega (arith, length_sums 0 c.self.inside.visits, ap (λ (v : Counting). length v.visits) c.self.view_is, c.requires.small)

pub raise_if-requires : goal.raise_if-requires
raise_if-requires c =
    omega (
      arith,
      length_sums 0 c.self.inside.visits,
      ap (λ (v : Counting). length v.visits) c.self.view_is,
      c.requires.within,
      c.requires.some,
      c.self.invariant.0,
    )

pub returns-clause-visits : goal.returns-clause-visits
returns-clause-visits c =
    subst (λ (v : Counting). RaisesRun v.visits (levels_of c.raise_within.new.self) c.args.place c.args.count) c.self.view_is
    (run_raised c.self.inside.visits c.raise_within.new.self c.args.place c.args.count c.raise_within.ensures.raised)

pub returns-clause-taken : goal.returns-clause-taken
returns-clause-taken c =
    let n = length c.args.self.now.visits in
    let last = last_within n c.args.place c.args.count c.requires.some c.requires.within in
    let raised = subst (λ (p : ℕ). RaisesLast c.self.inside.taken c.raise_if.new.self c.args.took p) last c.raise_if.ensures.raised in
    subst (λ (v : Counting). RaisesLast v.taken c.raise_if.new.self c.args.took (place_behind n c.args.place (c.args.count - 1))) c.self.view_is raised

pub returns-clause-length : goal.returns-clause-length
returns-clause-length c = (
  length_sums 0 c.raise_within.new.self ∙ c.raise_within.ensures.length ∙ sym (length_sums 0 c.self.inside.visits)
      ∙ ap (λ (v : Counting). length v.visits) c.self.view_is,
  c.raise_if.ensures.length ∙ ap (λ (v : Counting). length v.taken) c.self.view_is,
)
