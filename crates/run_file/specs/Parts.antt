-- What a run file says: the settings and events of each stream, and how the streams are woven.
use Rattle.std.specs.Prelude.{◌≡◌, ℕ, ◌<◌, ◌≤◌, ◌==◌, Bool, true, false, List, [], ◌∷◌, ◌++◌, All, replicate, ⊤}
use Rattle.std.specs.List.{list_any}
use Rattle.etm_types.specs.Id.{IsId}
use Rattle.etm_types.specs.Settings.{AreSettings, Sizes}
use Rattle.spec_run.specs.RunAfter.{IsEvent}
use Rattle.spec_run.specs.declared.event.Event.{Event}
use Rattle.run_file.specs.declared.line.BenchLine.{BenchLine}
use Rattle.run_file.specs.declared.line.Weave.{Weave}

-- a stream: its ID, the sizes and the return stack's depth of its trace unit, and its event lines in their order
pub record BenchStream : Type 0 where
  pub id : ℕ
  pub settings : Sizes
  pub stack : ℕ
  pub lines : List BenchLine

-- streams in the order of their declaration, and weaves in the order of their lines
pub record BenchParts : Type 0 where
  pub streams : List BenchStream
  pub weaves : List Weave

-- the events of lines, with those of repeated lines written out
abbrev pub events_of : List BenchLine → List Event
events_of [] = []
events_of (l ∷ lines) = replicate l.times l.event ++ events_of lines

abbrev pub has_stream : ℕ → List BenchStream → Bool
has_stream id streams = list_any (λ s. s.id == id) streams

-- no two streams have one ID
abbrev pub AreApart : List BenchStream → Type 0
AreApart [] = ⊤
AreApart (s ∷ streams) = (has_stream s.id streams ≡ false) × AreApart streams

-- a line is repeated at least once, and its event is one of a trace unit of these sizes
pub record IsBenchLine (s : Sizes) (l : BenchLine) : Type 0 where
  pub some : 0 < l.times
  pub few : l.times ≤ 65535
  pub event : IsEvent s l.event

pub record IsBenchStream (stream : BenchStream) : Type 0 where
  pub id : IsId stream.id
  pub settings : AreSettings stream.settings
  pub stack : stream.stack ≤ 15
  pub lines : All (IsBenchLine stream.settings) stream.lines

pub record IsWeave (streams : List BenchStream) (w : Weave) : Type 0 where
  pub declared : has_stream w.id streams ≡ true
  pub some : 0 < w.count
  pub few : w.count ≤ 1048576

-- the parts of a run file
pub record IsBench (b : BenchParts) : Type 0 where
  pub streams : All IsBenchStream b.streams
  pub apart : AreApart b.streams
  pub weaves : All (IsWeave b.streams) b.weaves
