use Rattle.std.proofs.Common.{[], ◌∷◌, refl, subst}
use Rattle.etm_types.specs.declared.item.Item.TheVariants.{Gap}
use Rattle.stream_decoder.specs.Follows.{TakesMore, items_under}
use Rattle.count_streams.proofs.Adding.{takes_more}
use Rattle.count_streams.specs.Counted.{CountsAre, PathCounting}
use Rattle.count_streams.proofs.counts.PathCountsFollower.take_gap.Goals as goal

pub returns : goal.returns
returns c =
    let id = c.args.id in let inside = c.self.inside in
    let old : PathCounting = record { counts = inside.counter; branches = inside.branches } in
    let new : PathCounting = record { counts = c.add_gap.new.self; branches = c.take_mark.new.self } in
    record {
      takes = λ image.
          subst (λ (x : PathCounting). TakesMore (CountsAre image) x new (items_under id (Gap ∷ []))) c.self.view_is
          (takes_more image id old new (Gap ∷ []) (c.add_gap.ensures.counted image) (c.take_mark.ensures image Gap refl refl));
    }
