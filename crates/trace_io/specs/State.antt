-- What contracts see of a source or a sink, whatever stands behind it.
use Rattle.std.specs.Prelude.{ℕ, List}
use Rattle.std.specs.declared.option.Option.{Option}

-- The bytes that a source has left or that a sink took, where the object shows them, and how many of its calls have failed. The
-- count is kept in 64 bits, and stays at its last value.
pub record IoState : Type 0 where
  pub bytes : Option (List ℕ)
  pub faults : ℕ
