use Rattle.std.proofs.Common.{◌∙◌, subst}
use Rattle.std.proofs.Math.ListN.{set}
use Rattle.etm_types.specs.Id.{IsId}
use Rattle.etm_types.specs.Walked.{items_of}
use Rattle.stream_decoder.specs.Follows.{TakesMore, items_under}
use Rattle.count_streams.proofs.Pairs.{takes_at}
use Rattle.count_streams.proofs.Walking.{calm_walk}
use Rattle.count_streams.specs.Pairs.{BranchesAre, Branching}
use Rattle.count_streams.proofs.branches.Branches.take_walked.Goals as goal

pub returns : goal.returns
returns c =
    let inside = c.self.inside in let old : Branching = record { targets = inside.targets; left = inside.left } in
    let new : Branching = record { targets = c.add_pair.new.targets; left = set inside.left c.from-place.result c.branch_behind.result } in
    let image = c.args.image.now in let walked = c.args.walked.now in
    subst (λ (b : Branching). TakesMore (BranchesAre image) b new (items_under c.args.id (items_of walked))) c.self.view_is
    (takes_at image c.args.id c.from-place.result (subst IsId c.get.ensures.value c.get.ensures.within) (c.from-place.ensures ∙ c.get.ensures.value)
    old c.add_pair.new.targets c.branch_behind.result (items_of walked) c.self.invariant (calm_walk image walked c.requires.image.parts c.requires.words)
    c.add_pair.ensures c.branch_behind.ensures)
