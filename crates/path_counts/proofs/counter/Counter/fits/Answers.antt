use Rattle.std.proofs.Common.{◌≡◌, ap, arith, length, sym, ◌∙◌}
use Rattle.std.proofs.lemmas.Bool.{eq-eqb, eqb-true}
use Rattle.path_counts.specs.Counts.{Counting}
use Rattle.path_counts.proofs.LevelSums.{length_sums}
use Rattle.path_counts.proofs.counter.Counter.fits.Goals as goal

pub returns-clause-value : goal.returns-clause-value
returns-clause-value c =
    let long : c.len.result ≡ length c.args.self.now.visits =
    omega (arith, c.len.ensures, c.self.invariant.0, length_sums 0 c.self.inside.visits, ap (λ (v : Counting). length v.visits) c.self.view_is) in (
      λ same. sym long ∙ eqb-true c.len.result c.word_count.result same ∙ c.word_count.ensures.value,
      λ same. eq-eqb c.len.result c.word_count.result (long ∙ same ∙ sym c.word_count.ensures.value),
    )
