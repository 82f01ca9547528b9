use Rattle.std.proofs.Common.{◌∙◌, ap, rules, refl}
use Rattle.path_counts.specs.Levels.{levels_of}
use Rattle.path_counts.proofs.Fronts.{totalled_more}
use Rattle.path_counts.proofs.LevelSums.{all_levels}
use Rattle.path_counts.proofs.levels.Levels.totals.Goals as goal

pub loop-place-preserved : goal.loop-place-preserved
loop-place-preserved c =
    totalled_more _ _ c.loop-place.place c.loop-place.total c.index.result.now _ (search rules) c.index.ensures refl c.loop-place.invariant

pub returns : goal.returns
returns c =
    c.of.ensures ∙ all_levels c.self.inside.steps.items _ c.loop-place.place c.loop-place.total (search rules) c.loop-place.invariant
    ∙ ap levels_of c.self.view_is
