-- The reader takes a whole packet.
use Rattle.std.proofs.Common.{◌≡◌, ◌<◌, ℕ, List, ◌++◌, get_or, Option, sym, ap, subst, ◌∙◌}
use Rattle.std.proofs.lemmas.List.Elements.{All-append, All-from_get_or}
use Rattle.etm_types.specs.Settings.{AreSettings, Sizes}
use Rattle.packet_grammar.specs.declared.packet.Packet.{Packet}
use Rattle.packet_grammar.specs.declared.stream_fault.Fault.{Fault}
use Rattle.packet_reader.specs.Stands.{PacketReading, TakesPacket}
use Rattle.path_elements.specs.Elements.{Told}
use Rattle.path_walker.specs.State.{State}
use Rattle.stream_decoder.proofs.Growing.{Small}
use Rattle.stream_decoder.proofs.Holds.{holds_read}
use Rattle.stream_decoder.specs.Decoding.{Decoding, IsDecoding, IsReading, decoding_of}
use Rattle.stream_decoder.specs.Left.{Left}
use Rattle.stream_decoder.specs.Waiting.{Waiting}

-- bytes of a slice
pub small_bytes : (bytes : List ℕ) → ((i : ℕ) → get_or bytes i 0 < 256) → Small bytes
small_bytes bytes each = All-from_get_or (λ (b : ℕ). b < 256) bytes 0 (λ i lt. each i)

module _ (r r' : PacketReading) (text : List ℕ) (small : Small text) (at : ℕ) (packet : Packet) (takes : TakesPacket r r' text at packet) where
  -- the reader goes on
  packet_read : IsReading r → IsReading r'
  packet_read is =
      record {
        bytes = is.bytes ++ text;
        small = All-append (λ (b : ℕ). b < 256) is.bytes text is.small small;
        stands = takes.stands is.bytes is.stands;
        settings = subst AreSettings (sym takes.settings) is.settings;
      }

  module _ (t : Told) (l : Left) (w : Waiting) (s : State) (f : Option (ℕ × Fault)) where
    abbrev here : Decoding
    here = decoding_of r t l w s f

    pub packet_holds : (w.depth ≡ (r.settings).depth) × IsDecoding here → (w.depth ≡ (r'.settings).depth) × IsDecoding (decoding_of r' t l w s f)
    packet_holds is =
        (is.0 ∙ ap (λ (z : Sizes). z.depth) (sym takes.settings), holds_read r r' t l w s f is.1 (packet_read (is.1).reads) takes.settings)
