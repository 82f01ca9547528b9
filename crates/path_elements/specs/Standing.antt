-- Where elements so far lead: what they committed is walked, and what they left is pending.
use Rattle.std.specs.Prelude.{◌≡◌, ℕ, All, List, Ok}
use Rattle.element_queue.specs.Pending.{Pending}
use Rattle.element_queue.specs.Resolved.{Resolved, unresolved, resolve_all}
use Rattle.etm_types.specs.declared.element.Elem.{Elem}
use Rattle.etm_types.specs.declared.element.Thing.{Thing}
use Rattle.etm_types.specs.declared.item.Item.{Item}
use Rattle.path_elements.specs.Held.{IsElem}
use Rattle.path_elements.specs.Path.{unplaced}
use Rattle.path_walker.specs.State.{State, IsState, first_state}
use Rattle.path_walker.specs.Things.{Walks, IsAlignedThing}
use Rattle.path_walker.specs.Walk.{ToldIsAligned}
use Rattle.program_image.specs.declared.image.Image.{Image}

-- these things are committed, and this is pending
abbrev pub at : Pending → List Thing → Resolved
at p done = record { done = done; pending = p }

-- The elements have no fault, nor has the walk of what they committed, which shows these items and ends in this state.
pub record Stands (image : Image) (depth : ℕ) (elements : List (ℕ × Elem)) (items : List Item) (n : Pending × State) : Type 0 where
  pub done : List Thing
  pub resolved : resolve_all depth unresolved (unplaced elements) ≡ Ok (at n.0 done)
  pub walks : Walks image first_state done items (Ok n.1)

-- each element has its values in their ranges, with the offset of its packet
abbrev pub ArePlacedElems : List (ℕ × Elem) → Type 0
ArePlacedElems elements = All (λ (e : ℕ × Elem). IsElem e.1) elements

-- the addresses in what is pending are those of instructions
pub record IsAlignedPending (p : Pending) : Type 0 where
  pub told : ToldIsAligned p.pre.addr
  pub held : All IsAlignedThing p.held

-- where a run may stand
pub record IsPlace (n : Pending × State) : Type 0 where
  pub pending : IsAlignedPending n.0
  pub state : IsState n.1
