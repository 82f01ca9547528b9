-- How a reader of the whole trace and a late reader stand against each other, behind the same elements.
use Rattle.std.specs.Prelude.{◌≡◌, true, List, [], ◌∷◌, ◌++◌, length, map, replicate}
use Rattle.element_queue.specs.Resolved.{Resolved}
use Rattle.etm_types.specs.declared.element.Thing.{Thing}
use Rattle.late_reader.specs.Marks.{Marks, old}
use Rattle.late_reader.specs.Rows.{AreAlike, NoneSeen, Whereabouts, PreAt, Row, late_of, mark_of, place_behind, whole_of}

-- where the late reader is behind all of them
abbrev pub places_behind : Whereabouts → List Row → Whereabouts
places_behind place [] = place
places_behind place (r ∷ rows) = places_behind (place_behind place r.late) rows

-- the things of the whole from `base` on stand one for one against those of the late reader
pub record Alike (base : List Thing) (whole : Resolved) (marks : Marks) (late : Resolved) : Type 0 where
  pub done_rows : List Row
  pub held_rows : List Row
  pub done : whole.done ≡ base ++ map whole_of done_rows
  pub shown : late.done ≡ map late_of done_rows
  pub held : whole.pending.held ≡ map whole_of held_rows
  pub kept : late.pending.held ≡ map late_of held_rows
  pub all : marks.all ≡ replicate (length base) old ++ map mark_of (done_rows ++ held_rows)
  pub alike : AreAlike NoneSeen (done_rows ++ held_rows)
  pub pres : PreAt (places_behind NoneSeen (done_rows ++ held_rows)) marks.on whole.pending.pre late.pending.pre
  pub informed : whole.pending.informed ≡ true
  pub begun : late.pending.informed ≡ true
