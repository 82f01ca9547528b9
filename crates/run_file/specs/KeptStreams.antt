-- What the fields of the streams of a run file hold.
use Rattle.std.specs.Prelude.{ℕ, List, All, map}
use Rattle.etm_types.specs.Id.{IsId}
use Rattle.run_file.specs.Parts.{BenchStream}
use Rattle.run_file.specs.Places.{IsRead, line_of}
use Rattle.run_file.specs.declared.streams.Stream.{Stream}
use Rattle.run_file.specs.declared.streams.Streams.TheInside.{Inside as StreamsFields}

-- streams of a text
pub record TextStreams : Type 0 where
  pub text : List ℕ
  pub streams : List BenchStream

-- the stream of an entry of a map
abbrev pub in_entry : List ℕ → ℕ × Stream → BenchStream
in_entry text e = record { id = e.0; settings = e.1.settings; stack = e.1.stack; lines = map (line_of text e.1.settings) e.1.places.items }

-- those of all entries, in their order
abbrev pub streams_in : List ℕ → List (ℕ × Stream) → List BenchStream
streams_in text entries = map (in_entry text) entries

abbrev pub streams_of : StreamsFields → TextStreams
streams_of s = record { text = s.text.now; streams = streams_in s.text.now s.by_id.entries }

-- a stream has the ID of a source, and each line whose place is kept is an event line
pub record IsKept (text : List ℕ) (e : ℕ × Stream) : Type 0 where
  pub id : IsId e.0
  pub lines : All (IsRead text e.1.settings) e.1.places.items

abbrev pub AreKept : List ℕ → List (ℕ × Stream) → Type 0
AreKept text entries = All (IsKept text) entries
