use Rattle.std.proofs.Common.{[], ◌∷◌, ◌∙◌, None, subst}
use Rattle.std.proofs.Math.ListN.{set}
use Rattle.etm_types.specs.Id.{IsId}
use Rattle.stream_decoder.specs.Follows.{TakesMore, items_under}
use Rattle.count_streams.proofs.Pairs.{takes_mark}
use Rattle.count_streams.specs.Pairs.{BranchesAre, Branching}
use Rattle.count_streams.proofs.branches.Branches.take_mark.Goals as goal

pub returns : goal.returns
returns c image i nowhere nothing =
    let inside = c.self.inside in let old : Branching = record { targets = inside.targets; left = inside.left } in
    let new : Branching = record { targets = inside.targets; left = set inside.left c.from.result None } in
    subst (λ (b : Branching). TakesMore (BranchesAre image) b new (items_under c.args.id (i ∷ []))) c.self.view_is
    (takes_mark image c.args.id c.from.result (subst IsId c.get.ensures.value c.get.ensures.within) (c.from.ensures ∙ c.get.ensures.value) old i
    c.self.invariant nowhere nothing)
