-- What bytes add is not taken back by those that follow.
use Rattle.std.proofs.Common.{◌≡◌, ℕ, List, [], ◌∷◌, ◌++◌, refl, sym, ap, ◌∙◌, arith, append_assoc}
use Rattle.std.proofs.lemmas.List.{map-append}
use Rattle.capture_streams.specs.Texts.{AddedFrom, Listing, by_sizes}
use Rattle.etm_types.specs.declared.item.Item.{Item}
use Rattle.path_counts.proofs.Counted.{times-append}
use Rattle.path_counts.specs.Counts.{times}
use Rattle.stream_decoder.specs.Follows.{items_under}
use Rattle.capture_streams.proofs.OneText.{one_sum}
use Rattle.count_streams.proofs.OneText.{add_once_by}
use Rattle.count_streams.specs.CountLaws.{AddedItemsStay, CountsNeverFall}
use Rattle.count_streams.specs.Counted.{counted, items_alone}

-- what joined pairs add is what the first of them add, and then what the others add behind them
added_parts : (g : Listing) (before xs ys : List (ℕ × ℕ)) (items : List (ℕ × Item)) → AddedFrom g before (xs ++ ys) items
    → (first : List (ℕ × Item)) × (more : List (ℕ × Item)) × AddedFrom g before xs first × (items ≡ first ++ more)
added_parts g before [] ys items added = ([], items, refl, refl)
added_parts g before (pair ∷ xs) ys items (first, rest, adds, later, is) =
    let parts = added_parts g (before ++ pair ∷ []) xs ys rest later in (
      items_under pair.0 first ++ parts.0,
      parts.1,
      (first, parts.0, adds, parts.2, refl),
      is ∙ ap (λ (l : List (ℕ × Item)). items_under pair.0 first ++ l) parts.3 ∙ sym (append_assoc (items_under pair.0 first) parts.0 parts.1),
    )

pub added_items_stay : AddedItemsStay
added_items_stay image t are pairs more items all added longer =
    let g = by_sizes (counted image) t in
    let parts = added_parts g [] pairs more all longer in
    let same = one_sum g (add_once_by image t are) [] pairs parts.0 items parts.2 added in
    (parts.1, parts.3 ∙ ap (λ (l : List (ℕ × Item)). l ++ parts.1) same)

pub counts_never_fall : CountsNeverFall
counts_never_fall image t are pairs more items all added longer test =
    let stays = added_items_stay image t are pairs more items all added longer in
    let alone = ap items_alone stays.1 ∙ map-append (λ (i : ℕ × Item). i.1) items stays.0 in
    let same = ap (times test) alone ∙ times-append test (items_alone items) (items_alone stays.0) in
    omega (arith, same)
