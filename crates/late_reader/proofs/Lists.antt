-- Rows of joined lists, and the two parts of a list, counted from its end.
use Rattle.std.proofs.Common.{◌≡◌, ◌⊎◌, ℕ, ◌-◌, Bool, true, false, List, [], ◌∷◌, ◌++◌, length, take, drop, Result, Ok, Err}
use Rattle.std.proofs.Common.{refl, sym, ap, ◌∙◌, inl, inr, arith, append_assoc, length-append}
use Rattle.std.proofs.lemmas.List.{take_at, drop_at, map-append}
use Rattle.std.specs.Prelude.{map}
use Rattle.etm_types.specs.declared.queue_fault.QueueFault.{QueueFault}
use Rattle.element_queue.specs.Resolved.{Resolved}
use Rattle.late_reader.specs.Marks.{Mark}
use Rattle.late_reader.proofs.Alike.{places_behind}
use Rattle.late_reader.specs.Rows.{AreAlike, Whereabouts, Row, mark_of, place_behind}

pub heads : {X : Type 0} (x y : X) (xs ys : List X) → x ∷ xs ≡ y ∷ ys → (x ≡ y) × (xs ≡ ys)
heads x y xs ys e = (cc, cc)

pub bools : (b : Bool) → (b ≡ true) ⊎ (b ≡ false)
bools true = inl refl
bools false = inr refl

abbrev pub fine : Resolved → Result Resolved QueueFault
fine r = Ok r

pub same_fine : (a b : Resolved) → fine a ≡ Ok b → a ≡ b
same_fine a b e = cc

abbrev pub refused : QueueFault → Result Resolved QueueFault
refused f = Err f

pub never_fine : (f : QueueFault) (r : Resolved) → refused f ≡ Ok r → ⊥
never_fine f r e = absurd cc

-- ---- counted from the end

counted : {X : Type 0} (n : ℕ) (xs ys : List X) → length ys ≡ n → length xs ≡ length (xs ++ ys) - n
counted n xs ys e = omega (arith, e, length-append xs ys)

pub kept_at : {X : Type 0} (n : ℕ) (xs ys : List X) → length ys ≡ n → take (length (xs ++ ys) - n) (xs ++ ys) ≡ xs
kept_at n xs ys e = take_at xs ys (length (xs ++ ys) - n) (counted n xs ys e)

pub newest_at : {X : Type 0} (n : ℕ) (xs ys : List X) → length ys ≡ n → drop (length (xs ++ ys) - n) (xs ++ ys) ≡ ys
newest_at n xs ys e = drop_at xs ys (length (xs ++ ys) - n) (counted n xs ys e)

-- the newest of a list
pub record Newest {X : Type 0} (xs : List X) : Type 0 where
  pub others : List X
  pub last : X
  pub whole : xs ≡ others ++ last ∷ []

pub newest_of : {X : Type 0} (x : X) (xs : List X) → Newest (x ∷ xs)
newest_of x [] = record { others = []; last = x; whole = refl }
newest_of x (y ∷ xs) = let rest = newest_of y xs in record { others = x ∷ rest.others; last = rest.last; whole = ap (λ l. x ∷ l) rest.whole }

-- ---- rows

pub places-append : (p : Whereabouts) (xs ys : List Row) → places_behind p (xs ++ ys) ≡ places_behind (places_behind p xs) ys
places-append p [] ys = refl
places-append p (x ∷ xs) ys = places-append (place_behind p x.late) xs ys

pub alike_fronts : (p : Whereabouts) (xs ys : List Row) → AreAlike p (xs ++ ys) → AreAlike p xs
alike_fronts p [] ys a = tt
alike_fronts p (x ∷ xs) ys a = (a.0, alike_fronts (place_behind p x.late) xs ys a.1)

pub alike_rests : (p : Whereabouts) (xs ys : List Row) → AreAlike p (xs ++ ys) → AreAlike (places_behind p xs) ys
alike_rests p [] ys a = a
alike_rests p (x ∷ xs) ys a = alike_rests (place_behind p x.late) xs ys a.1

pub alike_joined : (p : Whereabouts) (xs ys : List Row) → AreAlike p xs → AreAlike (places_behind p xs) ys → AreAlike p (xs ++ ys)
alike_joined p [] ys a b = b
alike_joined p (x ∷ xs) ys a b = (a.0, alike_joined (place_behind p x.late) xs ys a.1 b)

pub marks_apart : (os : List Mark) (xs ys : List Row) → os ++ map mark_of (xs ++ ys) ≡ (os ++ map mark_of xs) ++ map mark_of ys
marks_apart os xs ys = ap (λ l. os ++ l) (map-append mark_of xs ys) ∙ sym (append_assoc os (map mark_of xs) (map mark_of ys))
