-- What a byte begins.
use Rattle.std.proofs.Common.{◌≡◌, ◌<◌, ◌+◌, ℕ, true, false, List, [], ◌∷◌, ◌++◌, Option, Some, None, refl, sym, ap, subst, ◌∙◌}
use Rattle.std.specs.Prelude.{is_some}
use Rattle.std.proofs.lemmas.List.Elements.{All-append, All-cons, All-nil}
use Rattle.etm_types.specs.Settings.{AreSettings, Sizes}
use Rattle.packet_grammar.specs.declared.stream_fault.Fault.{Fault}
use Rattle.packet_reader.specs.Stands.{PacketReading}
use Rattle.packet_reader.specs.Stands as reader
use Rattle.packet_reader.specs.declared.step.Step.{Step}
use Rattle.path_elements.specs.Elements.{Told}
use Rattle.path_walker.specs.State.{State}
use Rattle.stream_decoder.specs.Decoding.{AtRest, Decoding, IsDecoding, IsReading, decoding_of}
use Rattle.stream_decoder.specs.Left.{Left}
use Rattle.stream_decoder.specs.Waiting.{Waiting}
use Rattle.stream_decoder.specs.Yields.{BegunByte, Opens, OpensBehind, Reads, TakesByte}
use Rattle.stream_decoder.proofs.Holds.{holds_faulted, holds_read}

abbrev IsByte : ℕ → Type 0
IsByte b = b < 256

-- a byte is begun, and the reader went on by it
pub takes_byte : (d : Decoding) (r r' : PacketReading) (d' : Decoding) (byte : ℕ) → r ≡ d.reader → r'.offset ≡ r.offset + 1 → r'.settings ≡ r.settings
    → d'.reader ≡ r' → BegunByte d byte d' → TakesByte d byte d'
takes_byte d r r' d' byte was offset settings is begins =
    record {
      begins = begins;
      offset = ap (λ (x : PacketReading). x.offset) is ∙ offset ∙ ap (λ (x : PacketReading). x.offset + 1) was;
      settings = ap (λ (x : PacketReading). x.settings) is ∙ settings ∙ ap (λ (x : PacketReading). x.settings) was;
    }

pub unmet : (f : Option (ℕ × Fault)) → is_some f ≡ false → f ≡ None
unmet None e = refl
unmet (Some stop) e = absurd cc

module _ (r r' : PacketReading) (byte : ℕ) (small : byte < 256) (step : Step) (sizes : r'.settings ≡ r.settings)
    (stands : (bytes : List ℕ) → reader.StandsAt r bytes → reader.StandsAt r' (bytes ++ byte ∷ []))
    (gains : (bytes : List ℕ) → reader.StandsAt r bytes → reader.Gains r.settings bytes byte step) where
  -- the reader goes on
  pub reading_on : IsReading r → IsReading r'
  reading_on is =
      record {
        bytes = is.bytes ++ byte ∷ [];
        small = All-append IsByte is.bytes (byte ∷ []) is.small (All-cons IsByte byte [] small (All-nil IsByte));
        stands = stands is.bytes is.stands;
        settings = subst AreSettings (sym sizes) is.settings;
      }

  reads : Reads r r' byte step
  reads bytes at = (stands bytes at, gains bytes at)

  module _ (t : Told) (l : Left) (w : Waiting) (s : State) (f : Option (ℕ × Fault)) where
    abbrev here : Decoding
    here = decoding_of r t l w s f

    abbrev Holds : Option (ℕ × Fault) → Type 0
    Holds met = (w.depth ≡ (r'.settings).depth) × IsDecoding (decoding_of r' t l w s met)

    module _ (is : (w.depth ≡ (r.settings).depth) × IsDecoding here) where
      pub kept_reading : Holds f
      kept_reading =
          (is.0 ∙ ap (λ (z : Sizes). z.depth) (sym sizes), holds_read r r' t l w s f is.1 (reading_on (is.1).reads) sizes)

      pub kept_faulted : (stop : ℕ × Fault) → AtRest here → Holds (Some stop)
      kept_faulted stop rest =
          (is.0 ∙ ap (λ (z : Sizes). z.depth) (sym sizes), holds_faulted r r' t l w s f is.1 (reading_on (is.1).reads) sizes stop rest)

    module _ (now : Decoding) (same : here ≡ now) (d' : Decoding) (reader_same : d'.reader ≡ r') where
      begun_by : OpensBehind f here step d' → BegunByte now byte d'
      begun_by opens =
          subst (λ (n : Decoding). BegunByte n byte d') same
          (step, subst (λ (x : PacketReading). Reads r x byte step) (sym reader_same) reads, opens)

      behind_fault : (met : Option (ℕ × Fault)) → true ≡ is_some met → d' ≡ record here { reader = d'.reader } → OpensBehind met here step d'
      behind_fault (Some stop) e opens = opens
      behind_fault None e opens = absurd cc

      no_fault : (met : Option (ℕ × Fault)) → met ≡ None → Opens here step d' → OpensBehind met here step d'
      no_fault None e opens = opens
      no_fault (Some stop) e opens = absurd cc

      pub begun_behind_fault : true ≡ is_some f → d' ≡ record here { reader = d'.reader } → BegunByte now byte d'
      begun_behind_fault e opens = begun_by (behind_fault f e opens)

      pub begun_opening : f ≡ None → Opens here step d' → BegunByte now byte d'
      begun_opening e opens = begun_by (no_fault f e opens)
