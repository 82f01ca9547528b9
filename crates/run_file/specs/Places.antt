-- The lines of a text by the places where they begin, and the event lines among them.
use Rattle.std.specs.Prelude.{◌≡◌, ◌≤◌, ◌<◌, ◌+◌, ◌^◌, ℕ, List, [], ◌∷◌, true, drop, length, Result, Ok, Err}
use Rattle.std.specs.Result.{is_ok}
use Rattle.std.specs.Str.Lines.{lines}
use Rattle.etm_types.specs.Settings.{Sizes}
use Rattle.line_words.specs.Line.{words_in}
use Rattle.spec_run.specs.declared.event.Event.TheVariants as event
use Rattle.run_file.specs.EventLines.{event_of}
use Rattle.run_file.specs.declared.fault.BenchWhy.{BenchWhy}
use Rattle.run_file.specs.declared.fault.BenchWhy.TheVariants.{Syntax}
use Rattle.run_file.specs.declared.line.BenchLine.{BenchLine}
use Rattle.run_file.specs.declared.line.Repeated.{Repeated}
use Rattle.run_file.specs.declared.place.LineStart.{LineStart}
use Rattle.run_file.specs.declared.place.PlacedLines.TheInside.{Inside as LinesFields}

-- a text, and the place of the first line that is left of it
pub record PlacesLeft : Type 0 where
  pub text : List ℕ
  pub next : LineStart

abbrev pub places_in : LinesFields → PlacesLeft
places_in l = record { text = l.text.now; next = l.next }

-- places are numbers of 32 bits: before each line there are at least as many bytes as lines
pub record ArePlaces (l : PlacesLeft) : Type 0 where
  pub few : length l.text + 1 < 2 ^ 32
  pub within : l.next.start ≤ length l.text
  pub number : l.next.number ≤ l.next.start + 1

abbrev pub first_words : List (List ℕ) → List (List ℕ)
first_words [] = []
first_words (line ∷ lines) = words_in line

-- the words of the line that begins at a place
abbrev pub words_at : List ℕ → LineStart → List (List ℕ)
words_at text p = first_words (lines (drop p.start text))

abbrev pub event_in : Sizes → List (List ℕ) → Result Repeated BenchWhy
event_in s [] = Err Syntax
event_in s (word ∷ words) = event_of s word words

-- it is an event line
abbrev pub IsRead : List ℕ → Sizes → LineStart → Type 0
IsRead text s p = is_ok (event_in s (words_at text p)) ≡ true

abbrev pub bench_line : ℕ → Repeated → BenchLine
bench_line number e = record { line = number; event = e.event; times = e.times }

-- no place is kept of a line that has no event
abbrev pub line_by : ℕ → Result Repeated BenchWhy → BenchLine
line_by number (Ok e) = bench_line number e
line_by number (Err why) = record { line = number; event = event.Step; times = 0 }

abbrev pub line_of : List ℕ → Sizes → LineStart → BenchLine
line_of text s p = line_by p.number (event_in s (words_at text p))
