use Rattle.std.proofs.Common.{◌∙◌, ◌++◌, ap, get_or, ℕ, None, Option, subst, sym}
use Rattle.std.proofs.Math.ListN.{set}
use Rattle.etm_types.specs.Id.{IsId}
use Rattle.path_counts.specs.Targets.{targets_of}
use Rattle.path_walker.specs.Walk.{walked_in}
use Rattle.stream_decoder.specs.Follows.{TakesMore, items_under}
use Rattle.count_streams.proofs.Pairs.{takes_at}
use Rattle.count_streams.proofs.RunItems.{entered_first, shown, stretch_items}
use Rattle.count_streams.proofs.Walking.{calm_walk}
use Rattle.count_streams.specs.Pairs.{BranchesAre, Branching, left_after, pair_by}
use Rattle.count_streams.proofs.branches.Branches.take_stretch.Goals as goal

pub returns : goal.returns
returns c ctx =
    let inside = c.self.inside in let old : Branching = record { targets = inside.targets; left = inside.left } in
    let new : Branching = record { targets = c.add_target.new.targets; left = set inside.left c.from-place.result c.last_of.result } in
    let image = c.args.image.now in let stretch = c.args.stretch.now in let words = c.requires.words in let items = shown ctx stretch in
    let left = get_or inside.left c.from-place.result None in
    subst (λ (b : Branching). TakesMore (BranchesAre image) b new (items_under c.args.id items)) c.self.view_is
    (takes_at image c.args.id c.from-place.result (subst IsId c.get.ensures.value c.get.ensures.within) (c.from-place.ensures ∙ c.get.ensures.value)
    old c.add_target.new.targets c.last_of.result items c.self.invariant
    (calm_walk image (walked_in ctx stretch) c.requires.image.parts (λ known. words.0))
    (λ pairs was.
    c.add_target.ensures pairs was
    ∙ ap (λ (to : Option ℕ). targets_of (pairs ++ pair_by left to)) (sym (entered_first ctx stretch words.1.some)))
    (c.last_of.ensures ctx left ∙ ap (left_after image left) (sym (stretch_items ctx stretch))))
