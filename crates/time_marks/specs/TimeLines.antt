-- The lines of events and of P0 elements with their timestamps.
use Rattle.std.specs.Prelude.{ℕ, ◌%◌, ◌^◌, ◌==◌, Bool, true, false, not, if◌then◌else◌, List, [], ◌∷◌, ◌++◌, length, map, codes, Option}
use Rattle.std.specs.Prelude.{Some, None, option_to_list}
use Rattle.path_text.specs.Lines.{decimal, line_of, number_or_dash}
use Rattle.time_marks.specs.Stamps.{Stamp}
use Rattle.time_marks.specs.declared.shown.Shown.{Shown}
use Rattle.time_marks.specs.declared.time_line.TimeLine.{TimeLine}
use Rattle.time_marks.specs.declared.time_line.TimeLine.TheVariants.{Event, P0}

-- a timestamp, or a dash where none is known
abbrev pub stamp_text : Stamp → List ℕ
stamp_text stamp = number_or_dash decimal stamp

abbrev pub time_text : TimeLine → List ℕ
time_text (Event events stamp) = codes "event " ++ decimal events ++ codes " " ++ stamp_text stamp
time_text (P0 number stamp) = codes "p0 " ++ decimal number ++ codes " " ++ stamp_text stamp

abbrev pub time_line : ℕ → TimeLine → List ℕ
time_line id line = line_of id (time_text line)

-- lines one by one
abbrev pub time_lines : ℕ → List TimeLine → List (List ℕ)
time_lines id lines = map (time_line id) lines

-- ---- which P0 elements have a line

abbrev pub same_stamp : Stamp → Stamp → Bool
same_stamp None None = true
same_stamp (Some a) (Some b) = a == b
same_stamp a b = false

-- the last of some marks
abbrev pub newest : List Stamp → Option Stamp
newest [] = None
newest (mark ∷ []) = Some mark
newest (mark ∷ next ∷ marks) = newest (next ∷ marks)

-- a mark is another one than that before it
abbrev pub is_new : Option Stamp → Stamp → Bool
is_new None mark = true
is_new (Some last) mark = not (same_stamp last mark)

-- How many P0 elements are committed, modulo 2^64, and the mark of the last of them.
abbrev pub shown_of : List Stamp → Shown
shown_of done = record { count = length done % 2 ^ 64; last = newest done }

-- the line of one P0 element more, where it has one: the first has one, and each whose mark is not that of the one before it
abbrev pub mark_line : Shown → Stamp → Option TimeLine
mark_line shown mark = if is_new shown.last mark then Some (P0 shown.count mark) else None

-- the lines of P0 elements with these marks, which are committed behind others
abbrev pub mark_lines : List Stamp → List Stamp → List TimeLine
mark_lines done [] = []
mark_lines done (mark ∷ marks) = option_to_list (mark_line (shown_of done) mark) ++ mark_lines (done ++ mark ∷ []) marks
