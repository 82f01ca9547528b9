-- What the cells end as, once a `&mut` to the value of one has ended.
use Rattle.std.specs.Prelude.{ℕ, List, slice_set, Option, Some}
use Rattle.std.specs.Borrow.{Fml, RattleType, MutBor, Lends}
use Rattle.spend_ring.specs.declared.cells.Cells.{Cells}
use Rattle.spend_ring.specs.contracts.cells.Cells.{the_row}

abbrev pub with_held : {X : Type 0} → Cells X → List (Option X) → Cells X
with_held c held = record { mark = c.mark; at = c.at; held = held }

-- the cell at the place p holds the last value written through r
abbrev pub lends_cell : (R : RattleType) → MutBor (Cells R.Denot) → ℕ → MutBor R.Denot → Fml
lends_cell R c p r = Lends (the_row R) R c r (λ w. with_held c.now (slice_set c.now.held p (Some w)))
