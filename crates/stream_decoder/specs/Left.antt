-- What contracts see of the elements of a packet that are still to be taken.
use Rattle.std.specs.Prelude.{ℕ, List, []}
use Rattle.etm_types.specs.declared.element.Elem.{Elem}

-- the offset of the packet, and the elements
pub record Left : Type 0 where
  pub at : ℕ
  pub elements : List Elem

abbrev pub nothing_left : ℕ → Left
nothing_left at = record { at = at; elements = [] }
