-- At which bytes the packet list of a stream stands, what a byte adds to it, and how it ends.
use Rattle.std.proofs.Common.{◌≡◌, ℕ, ◌<◌, Bool, true, false, List, [], ◌∷◌, ◌++◌, length, Option, None, refl, sym, ap, subst, ◌∙◌, arith, append-nil}
use Rattle.std.specs.Prelude.{All, is_some, not}
use Rattle.std.proofs.lemmas.List.{append_cancel_left}
use Rattle.std.proofs.lemmas.List.Elements.{All-append, All-cons, All-nil}
use Rattle.etm_types.specs.Settings.{Sizes, AreSettings}
use Rattle.packet_grammar.specs.declared.packet.Packet.{Packet}
use Rattle.packet_grammar.specs.declared.packet.Packet.TheVariants.{Mispredict, Cancel2, Atoms}
use Rattle.packet_grammar.specs.declared.fault.PacketFault.{PacketFault}
use Rattle.packet_grammar.specs.declared.end.End.{End}
use Rattle.packet_grammar.specs.Ends.{end_of, is_fault}
use Rattle.packet_grammar.specs.Parsed.{Ending, no_sync, clean, cut, fault, IsStream}
use Rattle.packet_grammar.specs.Ranges.{IsPacket}
use Rattle.packet_grammar.proofs.Longer.{begins_alike}
use Rattle.packet_grammar.proofs.Streams.{each_is_a_stream, one_stream}
use Rattle.packet_reader.specs.declared.step.Step.{Step}
use Rattle.packet_reader.specs.Stands.{Gains, PacketReading, StandsAt}
use Rattle.packet_reader.specs.Answered.{told, fault_after, fault_of}
use Rattle.capture_streams.specs.Texts.{Printed, StreamEnds, lines_under, text_of}
use Rattle.packet_reader.proofs.Adds.{Told, gains_more, nothing_is_a_stream}
use Rattle.path_text.specs.EndLines.{end_line}
use Rattle.path_text.specs.PacketLines.{HasText}
use Rattle.packet_list.specs.PacketList.{HasRead, IsReading, PacketEnds, PacketGains, packet_lines, packet_lists}

pub has_text : (s : Sizes) (packet : Packet) → IsPacket s packet → HasText packet
has_text s (Mispredict few) is = is
has_text s (Cancel2 few) is = is
has_text s (Atoms run) is = is.most
has_text s packet is = tt

-- ---- what was read

pub nothing_read : (r : PacketReading) → StandsAt r [] → HasRead r None []
nothing_read r stands = record {
  small = All-nil (λ (b : ℕ). b < 256);
  stands = stands;
  packets = [];
  ending = no_sync;
  stream = nothing_is_a_stream r.settings;
  fault = refl;
}

pub reads_first : (r : PacketReading) → AreSettings r.settings → StandsAt r [] → IsReading r None
reads_first r are stands = record { settings = are; bytes = []; read = nothing_read r stands }

one_more : (bytes : List ℕ) (byte : ℕ) → All (λ b. b < 256) bytes → byte < 256 → All (λ b. b < 256) (bytes ++ byte ∷ [])
one_more bytes byte small fits = All-append (λ (b : ℕ). b < 256) bytes (byte ∷ []) small
    (All-cons (λ (b : ℕ). b < 256) byte [] fits (All-nil (λ (b : ℕ). b < 256)))

module _ (old new : PacketReading) (found : Option (ℕ × PacketFault)) (byte : ℕ) (step : Step) (are : AreSettings old.settings) (fits : byte < 256)
    (same : new.settings ≡ old.settings) (stands : (bytes : List ℕ) → StandsAt old bytes → StandsAt new (bytes ++ byte ∷ []))
    (gains : (bytes : List ℕ) → StandsAt old bytes → Gains old.settings bytes byte step) where
  grown : (bytes : List ℕ) (is : HasRead old found bytes) → Told old.settings (bytes ++ byte ∷ []) (is.packets ++ told step) (fault_after found step)
  grown bytes is = gains_more old.settings are bytes byte is.packets found step
      (record { ending = is.ending; stream = is.stream; fault = is.fault }) (gains bytes is.stands)

  pub read_more : (bytes : List ℕ) → HasRead old found bytes → HasRead new (fault_after found step) (bytes ++ byte ∷ [])
  read_more bytes is =
      let next = grown bytes is in
      record {
        small = one_more bytes byte is.small fits;
        stands = stands bytes is.stands;
        packets = is.packets ++ told step;
        ending = next.ending;
        stream = subst (λ (s : Sizes). IsStream s (bytes ++ byte ∷ []) (is.packets ++ told step) next.ending) (sym same) next.stream;
        fault = next.fault;
      }

  pub packets_more : (bytes : List ℕ) (is : HasRead old found bytes) → (read_more bytes is).packets ≡ is.packets ++ told step
  unfolding read_more
  packets_more bytes is = refl

  pub reads_more : IsReading old found → IsReading new (fault_after found step)
  reads_more is = record { settings = subst AreSettings (sym same) are; bytes = is.bytes ++ byte ∷ []; read = read_more is.bytes is.read }

  pub packets_gained : (id : ℕ) (bytes : List ℕ) → HasRead old found bytes → PacketGains old.settings id bytes byte (packet_lines id (told step))
  packets_gained id bytes is =
      let next = grown bytes is in (is.packets, told step, is.ending, next.ending, is.stream, next.stream, refl)

-- ---- how it ends

module _ (s : Sizes) (id : ℕ) where
  pub nothing_ends : (bytes : List ℕ) → length bytes ≡ 0 → StreamEnds (packet_lists s) id bytes [] false
  nothing_ends [] none = (refl, refl)
  nothing_ends (b ∷ bytes) none = absurd (omega (arith, none))

  pub stream_ends : (bytes : List ℕ) (packets : List (ℕ × Packet)) (ending : Ending) → (length bytes ≡ 0 → ⊥) → IsStream s bytes packets ending
      → StreamEnds (packet_lists s) id bytes (lines_under id (end_line id (end_of ending) ∷ [])) (is_fault (end_of ending))
  stream_ends [] packets ending some is = absurd (some refl)
  stream_ends (b ∷ bytes) packets ending some is = (end_line id (end_of ending), (packets, ending, is, refl, refl), refl)

  pub whole_line : (known : End) (ending : Ending) → known ≡ end_of ending
      → end_line id known ≡ text_of (lines_under id (end_line id (end_of ending) ∷ []))
  whole_line known ending same = ap (end_line id) same ∙ sym (append-nil (end_line id (end_of ending)))

  pub some_end : (bytes : List ℕ) (packets : List (ℕ × Packet)) (ending : Ending) → IsStream s bytes packets ending
      → (lines : List Printed) × (faulty : Bool) × StreamEnds (packet_lists s) id bytes lines faulty
  some_end [] packets ending is = ([], false, (refl, refl))
  some_end (b ∷ bytes) packets ending is =
      (lines_under id (end_line id (end_of ending) ∷ []), is_fault (end_of ending), stream_ends (b ∷ bytes) packets ending (λ none. omega (arith, none)) is)

faulty_where : (ending : Ending) → is_fault (end_of ending) ≡ is_some (fault_of ending)
faulty_where no_sync = refl
faulty_where clean = refl
faulty_where (cut n) = refl
faulty_where (fault at f) = refl

-- it ends without a fault where none was found
pub whole_where : (ending : Ending) (found : Option (ℕ × PacketFault)) (whole : Bool) → fault_of ending ≡ found → is_some found ≡ not whole
    → whole ≡ not (is_fault (end_of ending))
whole_where ending found true e none = ap not (sym (faulty_where ending ∙ ap is_some e ∙ none))
whole_where ending found false e none = ap not (sym (faulty_where ending ∙ ap is_some e ∙ none))

-- ---- one list

module _ (s : Sizes) (are : AreSettings s) (id : ℕ) (bytes : List ℕ) where
  pub one_gain : (byte : ℕ) (lines others : List (List ℕ)) → PacketGains s id bytes byte lines → PacketGains s id bytes byte others → lines ≡ others
  one_gain byte lines others (packets, more, ending, next, was, is, e) (packets', more', ending', next', was', is', e') =
      let front = (one_stream s are bytes packets packets' ending ending' was was').0 in
      let all = (one_stream s are (bytes ++ byte ∷ []) (packets ++ more) (packets' ++ more') next next' is is').0 in
      let same = append_cancel_left packets more more' (all ∙ ap (λ (p : List (ℕ × Packet)). p ++ more') (sym front)) in
      e ∙ ap (packet_lines id) same ∙ sym e'

  pub one_end : (line other : List ℕ) (faulty also : Bool) → PacketEnds s id bytes line faulty → PacketEnds s id bytes other also
      → (line ≡ other) × (faulty ≡ also)
  one_end line other faulty also (packets, ending, is, e, f) (packets', ending', is', e', f') =
      let same = (one_stream s are bytes packets packets' ending ending' is is').1 in
      (e ∙ ap (λ (n : Ending). end_line id (end_of n)) same ∙ sym e', f ∙ ap (λ (n : Ending). is_fault (end_of n)) same ∙ sym f')

  pub some_gain : (byte : ℕ) → All (λ b. b < 256) bytes → byte < 256 → (lines : List (List ℕ)) × PacketGains s id bytes byte lines
  some_gain byte small fits =
      let was = each_is_a_stream s are bytes small in
      let is = each_is_a_stream s are (bytes ++ byte ∷ []) (one_more bytes byte small fits) in
      let more = begins_alike s are bytes (byte ∷ []) was.packets is.packets was.ending is.ending was.is is.is in (
        packet_lines id more.0,
        (
          was.packets,
          more.0,
          was.ending,
          is.ending,
          was.is,
          subst (λ (p : List (ℕ × Packet)). IsStream s (bytes ++ byte ∷ []) p is.ending) more.1 is.is,
          refl,
        ),
      )

  pub some_line : All (λ b. b < 256) bytes → (line : List ℕ) × (faulty : Bool) × PacketEnds s id bytes line faulty
  some_line small =
      let all = each_is_a_stream s are bytes small in
      (end_line id (end_of all.ending), is_fault (end_of all.ending), (all.packets, all.ending, all.is, refl, refl))
