-- What took items of a stream, and more items of it behind them, or those of more stretches.
use Rattle.std.proofs.Common.{◌≡◌, ℕ, List, [], ◌∷◌, ◌++◌, refl, sym, ap, subst, ◌∙◌, append-nil, append_assoc}
use Rattle.etm_types.specs.Walked.{items_of}
use Rattle.etm_types.specs.declared.context.Ctx.{Ctx}
use Rattle.etm_types.specs.declared.item.Item.{Item}
use Rattle.path_walker.specs.Walk.{items_in, walked_in}
use Rattle.path_walker.specs.declared.stretch.Stretch.{Stretch}
use Rattle.stream_decoder.specs.Follows.{TakesMore, items_under}

pub takes_nothing : {F : Type 0} (took : F → List (ℕ × Item) → Type 0) (f : F) → TakesMore took f f []
takes_nothing took f items was = subst (took f) (sym (append-nil items)) was

under : (id : ℕ) (xs ys : List Item) → items_under id xs ++ items_under id ys ≡ items_under id (xs ++ ys)
under id [] ys = refl
under id (x ∷ xs) ys = ap (λ (items : List (ℕ × Item)). (id, x) ∷ items) (under id xs ys)

pub takes_together : {F : Type 0} (took : F → List (ℕ × Item) → Type 0) (id : ℕ) (a b c : F) (xs ys : List Item)
    → TakesMore took a b (items_under id xs) → TakesMore took b c (items_under id ys) → TakesMore took a c (items_under id (xs ++ ys))
takes_together took id a b c xs ys first rest items was =
    subst (took c) (append_assoc items (items_under id xs) (items_under id ys) ∙ ap (λ (l : List (ℕ × Item)). items ++ l) (under id xs ys))
    (rest (items ++ items_under id xs) (first items was))

joined : (ctx : Ctx) (xs ys : List Stretch) → items_in ctx xs ++ items_in ctx ys ≡ items_in ctx (xs ++ ys)
joined ctx [] ys = refl
joined ctx (x ∷ xs) ys =
    append_assoc (items_of (walked_in ctx x)) (items_in ctx xs) (items_in ctx ys)
    ∙ ap (λ (items : List Item). items_of (walked_in ctx x) ++ items) (joined ctx xs ys)

pub takes_stretches : {F : Type 0} (took : F → List (ℕ × Item) → Type 0) (id : ℕ) (ctx : Ctx) (a b c : F) (xs ys : List Stretch)
    → TakesMore took a b (items_under id (items_in ctx xs)) → TakesMore took b c (items_under id (items_in ctx ys))
    → TakesMore took a c (items_under id (items_in ctx (xs ++ ys)))
takes_stretches took id ctx a b c xs ys first rest =
    subst (λ (l : List Item). TakesMore took a c (items_under id l)) (joined ctx xs ys)
    (takes_together took id a b c (items_in ctx xs) (items_in ctx ys) first rest)
