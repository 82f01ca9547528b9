-- What a late reader shows of a trace: one that enters it at a trace info.
use Rattle.std.specs.Prelude.{◌≡◌, ℕ, false, List, [], ◌∷◌, ◌++◌, length, take, replicate, map, None, Ok, ⊤}
use Rattle.element_queue.specs.Resolved.{Resolved, resolve_all, unresolved}
use Rattle.etm_types.specs.declared.element.Elem.{Elem}
use Rattle.etm_types.specs.declared.element.Elem.TheVariants as elem
use Rattle.etm_types.specs.declared.item.Item.{Item}
use Rattle.etm_types.specs.declared.item.Item.TheVariants as item
use Rattle.path_walker.specs.State.{State, first_state}
use Rattle.path_walker.specs.Things.{Walks}
use Rattle.program_image.specs.declared.image.Image.{Image}
use Rattle.late_reader.specs.Marks.{marks_at, marks_behind, old}
use Rattle.late_reader.specs.Rows.{AreAlike, NoneSeen, Row, late_of, mark_of, whole_of}
use Rattle.late_reader.specs.Walked.{BothWalks, WalkAlike}

-- no stretch of a path is unknown, as in a retired path
abbrev pub IsCertain : Item → Type 0
IsCertain item.Unknown = ⊥
IsCertain item = ⊤

abbrev pub AreCertain : List Item → Type 0
AreCertain [] = ⊤
AreCertain (i ∷ items) = IsCertain i × AreCertain items

-- the late reader begins as each reader does, beside a walk of the whole that stands somewhere
abbrev pub entering : State → BothWalks
entering whole = record { place = NoneSeen; told = false; last = None; whole = whole; late = first_state }

-- In the whole all elements are resolved to `whole`, whose things show `items`; at the trace info, which announces so many P0 elements, it
-- was at `at`. The late reader, of the info and the elements behind it alone, has no fault. Its things that are done stand, one for one and
-- in order, for those of the whole behind the ones that were done at the info, and so do the items that they show.
pub record ShowsPart (image : Image) (depth announced : ℕ) (at : Resolved) (elements : List Elem) (whole : Resolved) (items : List Item) : Type 0 where
  pub late : Resolved
  pub resolves : resolve_all depth unresolved (elem.Info announced ∷ elements) ≡ Ok late
  pub rows : List Row
  pub done : whole.done ≡ at.done ++ map whole_of rows
  pub shown : late.done ≡ map late_of rows
  pub marks : take (length whole.done) (marks_behind depth at (marks_at at) elements).all ≡ replicate (length at.done) old ++ map mark_of rows
  pub alike : AreAlike NoneSeen rows
  pub before : List Item
  pub behind : List Item
  pub parts : items ≡ before ++ behind
  pub state : State
  pub walks_before : Walks image first_state at.done before (Ok state)
  pub late_items : List Item
  pub after : State
  pub walks : Walks image first_state late.done late_items (Ok after)
  pub walk_alike : WalkAlike image (entering state) rows behind late_items
