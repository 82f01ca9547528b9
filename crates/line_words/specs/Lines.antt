-- The lines of a text that are still to be read, with their numbers.
use Rattle.std.specs.Prelude.{ℕ, List}

-- lines, and the number of the first of them; lines of a text count from 1
pub record Numbered : Type 0 where
  pub number : ℕ
  pub lines : List (List ℕ)
