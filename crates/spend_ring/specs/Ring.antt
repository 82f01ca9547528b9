-- What a contract sees of a `SpendRing`.
use Rattle.std.specs.Prelude.{ℕ, ◌-◌, List, length, drop, refl}
use Rattle.std.specs.Coded.{Coded, code_by, coded×, coded_list, coded_ℕ}

-- the values, the oldest first, and how many there may be
pub record Ring (X : Type 0) : Type 0 where
  pub items : List X
  pub capacity : ℕ

module _ {X : Type 0} where
  abbrev pub ring : List X → ℕ → Ring X
  ring items n = record { items = items; capacity = n }

  abbrev pub ring_code : Coded X → Coded (Ring X)
  ring_code c = code_by (List X × ℕ) (coded× (coded_list c) coded_ℕ) (λ r. (r.items, r.capacity)) (λ p. ring p.0 p.1) (λ _. refl)

  -- the last n values of the list, or all where it has fewer
  abbrev pub newest : ℕ → List X → List X
  newest n xs = drop (length xs - n) xs
