-- The counts of the items of streams, with more of a stream behind them.
use Rattle.std.proofs.Common.{◌≡◌, ℕ, List, [], ◌∷◌, ◌++◌, refl, sym, ap, ◌∙◌}
use Rattle.std.proofs.lemmas.List.{map-append}
use Rattle.etm_types.specs.declared.item.Item.{Item}
use Rattle.path_counts.specs.Counts.{Counting, Counts, counts_of}
use Rattle.program_image.specs.declared.image.Image.{Image}
use Rattle.stream_decoder.specs.Follows.{TakesMore, items_under}
use Rattle.count_streams.specs.Counted.{CountsAre, PathCounting, items_alone}
use Rattle.count_streams.specs.Pairs.{BranchesAre}

under_alone : (id : ℕ) (items : List Item) → items_alone (items_under id items) ≡ items
under_alone id [] = refl
under_alone id (i ∷ items) = ap (λ (l : List Item). i ∷ l) (under_alone id items)

more_alone : (id : ℕ) (items : List (ℕ × Item)) (more : List Item) → items_alone (items ++ items_under id more) ≡ items_alone items ++ more
more_alone id items more =
    map-append (λ (i : ℕ × Item). i.1) items (items_under id more) ∙ ap (λ (l : List Item). items_alone items ++ l) (under_alone id more)

counts_more : (image : Image) (id : ℕ) (old new : Counting) (more : List Item) → Counts image old new more
    → TakesMore (λ c items. c ≡ counts_of image (items_alone items)) old new (items_under id more)
counts_more image id old new more adds items is =
    adds (items_alone items) is ∙ ap (λ (l : List Item). counts_of image l) (sym (more_alone id items more))

-- with the branches as well
pub takes_more : (image : Image) (id : ℕ) (old new : PathCounting) (more : List Item) → Counts image old.counts new.counts more
    → TakesMore (BranchesAre image) old.branches new.branches (items_under id more) → TakesMore (CountsAre image) old new (items_under id more)
takes_more image id old new more adds takes items is = record {
  counts = counts_more image id old.counts new.counts more adds items is.counts;
  branches = takes items is.branches;
}
