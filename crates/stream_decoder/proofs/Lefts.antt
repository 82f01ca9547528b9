-- What is left of a list.
use Rattle.std.proofs.Common.{◌≡◌, ℕ, zero, suc, ◌+◌, List, [], ◌∷◌, drop, Some, None, refl, ap, ◌∙◌, arith}
use Rattle.std.specs.Prelude.{slice_get}
use Rattle.std.proofs.lemmas.List.{drop_more}
use Rattle.std.proofs.lemmas.Option.{get_or_from_slice_get, slice_get_within}

module _ {X : Type 0} (xs : List X) where
  pub first_left : (n : ℕ) (x : X) → slice_get xs n ≡ Some x → (others : List X) × (drop n xs ≡ x ∷ others)
  first_left n x e = (drop (n + 1) xs, drop_more xs n x (slice_get_within xs n x e) ∙ ap (λ y. y ∷ drop (n + 1) xs) (get_or_from_slice_get xs n x x e))

pub none_left : {X : Type 0} (xs : List X) (n : ℕ) → slice_get xs n ≡ None → drop n xs ≡ []
none_left [] zero e = refl
none_left [] (suc n) e = refl
none_left (x ∷ xs) zero e = absurd cc
none_left (x ∷ xs) (suc n) e = none_left xs n e

pub here_first : {X : Type 0} (xs : List X) (n : ℕ) (x : X) (others : List X) → drop n xs ≡ x ∷ others → slice_get xs n ≡ Some x
here_first [] zero x others e = absurd cc
here_first [] (suc n) x others e = absurd cc
here_first (y ∷ xs) zero x others e = let same : y ≡ x = cc in ap Some same
here_first (y ∷ xs) (suc n) x others e = here_first xs n x others e

abbrev tail_of : {X : Type 0} → List X → List X
tail_of [] = []
tail_of (x ∷ xs) = xs

pub next_left : {X : Type 0} (xs : List X) (n : ℕ) (x : X) (others : List X) → drop n xs ≡ x ∷ others → drop (n + 1) xs ≡ others
next_left [] zero x others e = absurd cc
next_left [] (suc n) x others e = absurd cc
next_left (y ∷ xs) zero x others e = ap tail_of e
next_left (y ∷ xs) (suc n) x others e =
    let more : suc n + 1 ≡ suc (n + 1) = omega arith in ap (λ k. drop k (y ∷ xs)) more ∙ next_left xs n x others e

-- what stands at a place of what is left
pub at_left : {X : Type 0} (xs : List X) (n k m : ℕ) → m ≡ n + k → slice_get (drop n xs) k ≡ slice_get xs m
at_left xs zero k m e = let same : k ≡ m = omega (arith, e) in ap (slice_get xs) same
at_left [] (suc n) k m e = refl
at_left (x ∷ xs) (suc n) k zero e = absurd (omega (arith, e))
at_left (x ∷ xs) (suc n) k (suc m) e = at_left xs n k m (omega (arith, e))
