-- What the fields of a run file's reader, and of its parts, hold.
use Rattle.std.specs.Prelude.{ℕ, List, Option}
use Rattle.std.specs.Option.{option_map}
use Rattle.run_file.specs.BenchText.{Draft}
use Rattle.run_file.specs.Parts.{BenchParts}
use Rattle.run_file.specs.declared.bench.Bench.TheInside.{Inside as BenchFields}
use Rattle.run_file.specs.declared.draft.Draft.TheInside.{Inside as DraftFields}

abbrev pub parts_in : BenchFields → BenchParts
parts_in b = record { streams = b.streams.streams; weaves = b.weaves.items }

-- what the lines of a text said so far
pub record TextDraft : Type 0 where
  pub text : List ℕ
  pub draft : Draft

abbrev pub draft_of : DraftFields → TextDraft
draft_of d = record {
  text = d.streams.text;
  draft = record { version = d.version; given = d.given; streams = d.streams.streams; weaves = d.weaves.items };
}

abbrev pub draft_in : TextDraft → Draft
draft_in d = d.draft

abbrev pub drafts_in : Option TextDraft → Option Draft
drafts_in d = option_map draft_in d
