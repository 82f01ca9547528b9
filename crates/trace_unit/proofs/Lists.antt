-- Lists that are images of one list, and the two parts of a list, counted from its end.
use Rattle.std.proofs.Common.{◌≡◌, ℕ, ◌-◌, ◌≤◌, List, [], ◌∷◌, ◌++◌, length, take, drop, refl, ap, ◌∙◌, arith, length-append}
use Rattle.std.proofs.lemmas.List.{take_at, drop_at, length-map, map-append}
use Rattle.std.specs.Prelude.{map}
use Rattle.spec_run.specs.Steps.{kept, newest}

-- where the image of a list is two lists joined, the list is two lists joined
pub record Split {X Y : Type 0} (f : X → Y) (xs : List X) (ys zs : List Y) : Type 0 where
  pub left : List X
  pub right : List X
  pub whole : xs ≡ left ++ right
  pub lefts : map f left ≡ ys
  pub rights : map f right ≡ zs

pub heads : {X : Type 0} (x y : X) (xs ys : List X) → x ∷ xs ≡ y ∷ ys → (x ≡ y) × (xs ≡ ys)
heads x y xs ys e = (cc, cc)

pub split : {X Y : Type 0} (f : X → Y) (xs : List X) (ys zs : List Y) → map f xs ≡ ys ++ zs → Split f xs ys zs
split f xs [] zs e = record { left = []; right = xs; whole = refl; lefts = refl; rights = e }
split f [] (y ∷ ys) zs e = absurd cc
split f (x ∷ xs) (y ∷ ys) zs e =
    let h = heads (f x) y (map f xs) (ys ++ zs) e in
    let s = split f xs ys zs h.1 in
    record {
      left = x ∷ s.left;
      right = s.right;
      whole = ap (λ l. x ∷ l) s.whole;
      lefts = ap (λ l. f x ∷ l) s.lefts ∙ ap (λ y. y ∷ ys) h.0;
      rights = s.rights;
    }

-- ---- counted from the end

counted : {X : Type 0} (n : ℕ) (xs ys : List X) → length ys ≡ n → length xs ≡ length (xs ++ ys) - n
counted n xs ys e = omega (arith, e, length-append xs ys)

pub kept_at : {X : Type 0} (n : ℕ) (xs ys : List X) → length ys ≡ n → kept n (xs ++ ys) ≡ xs
kept_at n xs ys e = take_at xs ys (length (xs ++ ys) - n) (counted n xs ys e)

pub newest_at : {X : Type 0} (n : ℕ) (xs ys : List X) → length ys ≡ n → newest n (xs ++ ys) ≡ ys
newest_at n xs ys e = drop_at xs ys (length (xs ++ ys) - n) (counted n xs ys e)

pub kept_map : {X Y : Type 0} (f : X → Y) (n : ℕ) (l : List Y) (xs ys : List X) → l ≡ map f (xs ++ ys) → length ys ≡ n → kept n l ≡ map f xs
kept_map f n l xs ys e c = ap (kept n) (e ∙ map-append f xs ys) ∙ kept_at n (map f xs) (map f ys) (length-map ys f ∙ c)

pub newest_map : {X Y : Type 0} (f : X → Y) (n : ℕ) (l : List Y) (xs ys : List X) → l ≡ map f (xs ++ ys) → length ys ≡ n → newest n l ≡ map f ys
newest_map f n l xs ys e c = ap (newest n) (e ∙ map-append f xs ys) ∙ newest_at n (map f xs) (map f ys) (length-map ys f ∙ c)

pub take_map : {X Y : Type 0} (f : X → Y) (n : ℕ) (l : List Y) (xs ys : List X) → l ≡ map f (xs ++ ys) → length xs ≡ n → take n l ≡ map f xs
take_map f n l xs ys e c = ap (take n) (e ∙ map-append f xs ys) ∙ take_at (map f xs) (map f ys) n (length-map xs f ∙ c)

pub drop_map : {X Y : Type 0} (f : X → Y) (n : ℕ) (l : List Y) (xs ys : List X) → l ≡ map f (xs ++ ys) → length xs ≡ n → drop n l ≡ map f ys
drop_map f n l xs ys e c = ap (drop n) (e ∙ map-append f xs ys) ∙ drop_at (map f xs) (map f ys) n (length-map xs f ∙ c)

-- neither part is longer than the whole
pub first_within : {X Y : Type 0} (f : X → Y) (n : ℕ) (l : List Y) (xs ys : List X) → l ≡ map f (xs ++ ys) → length xs ≡ n → n ≤ length l
first_within f n l xs ys e c = omega (arith, c, ap length e, length-map (xs ++ ys) f, length-append xs ys)

pub last_within : {X Y : Type 0} (f : X → Y) (n : ℕ) (l : List Y) (xs ys : List X) → l ≡ map f (xs ++ ys) → length ys ≡ n → n ≤ length l
last_within f n l xs ys e c = omega (arith, c, ap length e, length-map (xs ++ ys) f, length-append xs ys)
