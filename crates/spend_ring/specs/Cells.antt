-- How the values of a ring lie in its cells. A cell holds `Some` value, or `None`.
use Rattle.std.specs.Prelude.{◌≡◌, ℕ, ◌+◌, ◌-◌, ◌<◌, ◌^◌, get_or, ◌⊎◌, List, [], ◌∷◌, ◌++◌, map, length, take, drop, replicate, Option, Some, None}

-- p is the place that lies i after the place start, round the end of the n places
abbrev pub IsPlace : ℕ → ℕ → ℕ → ℕ → Type 0
IsPlace start i n p = (p < n) × ((p ≡ start + i) ⊎ (p + n ≡ start + i))

module _ {X : Type 0} where
  -- the place has a cell, and it is empty
  abbrev pub IsEmpty : List (Option X) → ℕ → Type 0
  IsEmpty held p = (p < length held) × (get_or held p None ≡ None)

  -- the cell at the place holds a value
  abbrev pub IsFull : List (Option X) → ℕ → Type 0
  IsFull held p = (x : X) × (get_or held p None ≡ Some x)

  -- the values of the cells, without the empty ones
  abbrev pub values : List (Option X) → List X
  values [] = []
  values (None ∷ held) = values held
  values (Some x ∷ held) = x ∷ values held

  -- n cells, of which the first hold the items and the others are empty
  unfoldable pub filled : List X → ℕ → List (Option X)
  filled items n = map Some items ++ replicate (n - length items) None

-- the list from the place start on, round its end
unfoldable pub turned : {X : Type 0} → ℕ → List X → List X
turned start xs = drop start xs ++ take start xs

module _ {X : Type 0} where
  -- the values of the cells, from the place start on
  unfoldable pub items_from : ℕ → List (Option X) → List X
  items_from start held = values (turned start held)

  -- of `capacity` cells, the `count` from the place start on hold the items
  pub record IsLaid (start count capacity : ℕ) (held : List (Option X)) : Type 0 where
    pub cells : length held ≡ capacity
    pub small : capacity < 2 ^ 63
    pub start_within : 0 < capacity → start < capacity
    pub counted : length (items_from start held) ≡ count
    pub laid : turned start held ≡ filled (items_from start held) capacity
