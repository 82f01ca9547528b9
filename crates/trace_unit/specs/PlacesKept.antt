-- The places of a unit, with room for so many return addresses, and the P0 elements that are not retired: one for each step that is saved.
use Rattle.std.specs.Prelude.{ℕ}
use Rattle.trace_unit.specs.Places.{Places}
use Rattle.trace_unit.specs.WindowKept.{WindowKept}

pub record PlacesKept : Type 0 where
  pub places : Places
  pub stack_depth : ℕ
  pub window : WindowKept
