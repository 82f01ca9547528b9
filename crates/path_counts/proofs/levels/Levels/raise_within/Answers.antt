use Rattle.std.proofs.Common.{◌≡◌, ◌∙◌, length, arith}
use Rattle.path_counts.proofs.Rounds.{same_levels, ends_within}
use Rattle.path_counts.proofs.levels.Levels.raise_within.Goals as goal

pub returns-clause-raised : goal.returns-clause-raised
returns-clause-raised c f are =
    let n = length c.args.self.now in
    let long : length c.down_at.new.self ≡ n = c.down_at.ensures.length ∙ c.up_from.ensures.length in
    same_levels _ _ _ (c.down_at.ensures.lowered _ (c.up_from.ensures.raised f are))
    (λ j lt. ends_within n c.args.from c.args.count (f j) j (omega (arith, c.requires.within)) (omega (arith, lt, long)))
