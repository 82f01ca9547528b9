-- How a stream ends whose path is counted: as its path does.
use Rattle.std.proofs.Common.{◌≡◌, ℕ, Bool, List, [], ◌∷◌, length, None, false, Result}
use Rattle.std.specs.Prelude.{◌==◌, IfOk, if◌then◌else◌, not, true}
use Rattle.etm_types.specs.declared.item.Item.{Item}
use Rattle.packet_grammar.specs.Ends.{is_fault}
use Rattle.packet_grammar.specs.declared.end.End.{End}
use Rattle.path_elements.specs.Path.{IsPath}
use Rattle.path_text.specs.EndLines.{end_line}
use Rattle.path_text.specs.Writing.{Writes}
use Rattle.program_image.specs.declared.image.Image.{Image}
use Rattle.capture_streams.proofs.PathStreams.{path_ends, path_finished}
use Rattle.capture_streams.specs.Paths.{paths}
use Rattle.capture_streams.specs.Texts.{Printed, StreamEnds, text_of}
use Rattle.etm_types.specs.Settings.{Sizes}
use Rattle.stream_decoder.proofs.Standing.{ends_so}
use Rattle.stream_decoder.specs.Decoding.{Decoder, Decoding}
use Rattle.stream_decoder.specs.Follows.{CameTo}
use Rattle.stream_decoder.specs.Stands.{end_at}
use Rattle.trace_io.specs.State.{IoState}
use Rattle.trace_io.specs.declared.traits.Failed.{Failed}
use Rattle.count_streams.specs.Counted.{counted}

ends_as : (image : Image) (s : Sizes) (id : ℕ) (bytes : List ℕ) (lines : List Printed) (faulty : Bool) → StreamEnds (paths image s) id bytes lines faulty
    → StreamEnds (counted image s) id bytes lines faulty
ends_as image s id [] lines faulty none = none
ends_as image s id (b ∷ bytes) lines faulty ends = ends

module _ (image : Image) (d : Decoding) where
  abbrev printing : Decoder
  printing = record { decoding = d; shown = None; broken = false }

  -- bytes that were taken have a path
  pub came_path : (bytes : List ℕ) → CameTo image d bytes → (items : List Item) × (last : End) × IsPath image ((d.reader).settings) bytes items last
  came_path bytes came =
      let ends = ends_so image d bytes came.0 came.1 in (came.0, end_at d.fault ends.ending, (came.1.took, ends.path))

  -- and end in this way
  pub counted_ends : (id : ℕ) (bytes : List ℕ) → CameTo image d bytes
      → (lines : List Printed) × (faulty : Bool) × StreamEnds (counted image ((d.reader).settings)) id bytes lines faulty
  counted_ends id bytes came =
      let path = came_path bytes came in let ends = path_ends image printing id bytes path.0 path.1 path.2 in
      (ends.0, ends.1, ends_as image ((d.reader).settings) id bytes ends.0 ends.1 ends.2)

  -- what was written of the end
  pub counted_finished : (id : ℕ) (bytes : List ℕ) (result : Result Bool Failed) (a b : IoState) (items : List Item) (last : End)
      → IsPath image ((d.reader).settings) bytes items last
      → Writes a b result (if length bytes == 0 then [] else end_line id last) → IfOk result (λ (w : Bool). w ≡ not (is_fault last))
      → (length bytes ≡ 0 → IfOk result (λ (w : Bool). w ≡ true))
      → (lines : List Printed) × (faulty : Bool) × StreamEnds (counted image ((d.reader).settings)) id bytes lines faulty
      × Writes a b result (text_of lines) × IfOk result (λ (w : Bool). w ≡ not faulty)
  counted_finished id bytes result a b items last path writes same nothing =
      let all = path_finished image printing id bytes result a b items last path writes same nothing in
      (all.0, all.1, ends_as image ((d.reader).settings) id bytes all.0 all.1 all.2, all.3, all.4)
