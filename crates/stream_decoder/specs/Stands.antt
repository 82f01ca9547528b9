-- At which bytes a decoder stands, and by which items a byte more makes the path grow.
use Rattle.std.specs.Prelude.{◌≡◌, ℕ, ◌+◌, ◌<◌, Bool, false, All, List, [], ◌∷◌, ◌++◌, length, Option, Some, None, Result, Ok, IsOk}
use Rattle.element_queue.specs.Counting.{no_counts, tally}
use Rattle.element_queue.specs.Resolved.{at_first}
use Rattle.etm_types.specs.Settings.{Sizes}
use Rattle.etm_types.specs.declared.context.Ctx.{Ctx}
use Rattle.etm_types.specs.declared.element.Elem.{Elem}
use Rattle.etm_types.specs.declared.item.Item.{Item}
use Rattle.packet_grammar.specs.Ends.{end_of}
use Rattle.packet_grammar.specs.Parsed.{Ending, IsStream}
use Rattle.packet_grammar.specs.declared.end.End.{End}
use Rattle.packet_grammar.specs.declared.end.End.TheVariants as end
use Rattle.packet_grammar.specs.declared.packet.Packet.{Packet}
use Rattle.packet_grammar.specs.declared.stream_fault.Fault.{Fault}
use Rattle.packet_reader.specs.Answered.{fault_of}
use Rattle.packet_reader.specs.Stands as reader
use Rattle.path_elements.specs.Elements.{all_elements, untold}
use Rattle.path_elements.specs.Path.{IsPath, IsPathTaking, unplaced}
use Rattle.path_elements.specs.Running.{Runs}
use Rattle.path_text.specs.PathLines.{lines_of, shown_after_all}
use Rattle.path_text.specs.Writing.{Writes}
use Rattle.path_walker.specs.State.{first_state}
use Rattle.program_image.specs.declared.image.Image.{Image}
use Rattle.stream_decoder.specs.Decoding.{AtRest, Decoder, Decoding, depth_of}
use Rattle.stream_decoder.specs.Yields.{is_walk_fault}
use Rattle.trace_io.specs.State.{IoState}
use Rattle.trace_io.specs.declared.traits.Failed.{Failed}

-- The path of the bytes has these items so far, and took these elements: they lead to this place, or the path ends with the fault
-- that was met.
abbrev pub ComesTo : Option (ℕ × Fault) → Image → Decoding → List ℕ → List Item → List (ℕ × Elem) → Type 0
ComesTo None image d bytes items took =
    (packets : List (ℕ × Packet)) × (ending : Ending) × IsStream ((d.reader).settings) bytes packets ending × (fault_of ending ≡ None)
    × (all_elements untold packets ≡ record { elements = took; awaited = None; told = d.told })
    × Runs image (depth_of d) at_first first_state took items (Ok (d.pending, d.walk)) took
ComesTo (Some stop) image d bytes items took = IsPathTaking image ((d.reader).settings) bytes items (end.Fault stop.0 stop.1) took

-- how a path ends: with the fault that was met, and where none was, as the stream does
abbrev pub end_at : Option (ℕ × Fault) → Ending → End
end_at None ending = end_of ending
end_at (Some stop) ending = end.Fault stop.0 stop.1

abbrev pub shows_walk_fault : End → Bool
shows_walk_fault (end.Fault at f) = is_walk_fault (Some (at, f))
shows_walk_fault last = false

-- the decoding took these bytes, whose path has these items so far
pub record Came (image : Image) (d : Decoding) (bytes : List ℕ) (items : List Item) : Type 0 where
  pub small : All (λ b. b < 256) bytes
  pub reads : reader.StandsAt d.reader bytes
  pub done : AtRest d
  pub took : List (ℕ × Elem)
  pub comes : ComesTo d.fault image d bytes items took
  pub made : (d.counts).made ≡ (tally (depth_of d) at_first no_counts (unplaced took)).made
  pub counts : is_walk_fault d.fault ≡ false → d.counts ≡ tally (depth_of d) at_first no_counts (unplaced took)

-- A decoder stands at the bytes that it took: no write failed, and the context that was printed last is that of their path.
pub record StandsAt (image : Image) (d : Decoder) (bytes : List ℕ) : Type 0 where
  pub whole : d.broken ≡ false
  pub items : List Item
  pub came : Came image d.decoding bytes items
  pub shown : d.shown ≡ shown_after_all None items

-- with a byte more, the path has these items more, behind those that were shown
pub record Grows (image : Image) (s : Sizes) (bytes : List ℕ) (byte : ℕ) (shown : Option Ctx) (more : List Item) : Type 0 where
  pub items : List Item
  pub last : End
  pub next : End
  pub was : IsPath image s bytes items last
  pub is : IsPath image s (bytes ++ byte ∷ []) (items ++ more) next
  pub context : shown ≡ shown_after_all None items

-- with these bytes more, one after the other, the path has these items more, behind those that were shown
abbrev pub GrowsBy : Image → Sizes → List ℕ → List ℕ → Option Ctx → List Item → Type 0
GrowsBy image s bytes [] shown more = more ≡ []
GrowsBy image s bytes (byte ∷ run) shown more =
    (first : List Item) × (rest : List Item) × Grows image s bytes byte shown first
    × GrowsBy image s (bytes ++ byte ∷ []) run (shown_after_all shown first) rest × (more ≡ first ++ rest)

-- Bytes were taken behind others, and the lines of the items by which the path grows with them were written, or a front of them where a write failed.
pub record GrowsAlong (image : Image) (s : Sizes) (id : ℕ) (bytes run : List ℕ) (shown : Option Ctx) (old new : IoState)
    (result : Result (Unit {0}) Failed) : Type 0 where
  pub more : List Item
  pub grows : GrowsBy image s bytes run shown more
  pub writes : Writes old new result (lines_of id shown more)

-- The same of what is kept between bytes, at whatever bytes it stands: also where it stands behind those that were taken, and which
-- context was printed last.
pub record RunsAlong (image : Image) (id : ℕ) (d : Decoding) (shown : Option Ctx) (run : List ℕ) (d' : Decoding) (shown' : Option Ctx)
    (old new : IoState) (result : Result (Unit {0}) Failed) : Type 0 where
  pub more : List Item
  pub came : (bytes : List ℕ) (items : List Item) → Came image d bytes items → Came image d' (bytes ++ run) (items ++ more)
  pub writes : Writes old new result (lines_of id shown more)
  pub context : IsOk result → shown' ≡ shown_after_all shown more
  pub settings : (d'.reader).settings ≡ (d.reader).settings
  pub offset : (d'.reader).offset ≡ (d.reader).offset + length run
