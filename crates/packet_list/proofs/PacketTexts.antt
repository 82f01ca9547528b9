-- The packets of streams have one text.
use Rattle.std.proofs.Common.{◌≡◌, ℕ, suc, ◌<◌, List, [], ◌∷◌, ◌++◌, Some, refl, sym, ap, subst, ◌∙◌, arith, append-nil, append_assoc}
use Rattle.std.specs.Prelude.{All}
use Rattle.std.proofs.lemmas.List.{get_or_append_left, length-append, map-append}
use Rattle.std.proofs.lemmas.List.Elements.{All-map, All-nil}
use Rattle.etm_types.specs.Settings.{AreSettings, Sizes}
use Rattle.packet_grammar.specs.Ends.{end_of}
use Rattle.packet_grammar.specs.Parsed.{Ending, IsStream}
use Rattle.packet_grammar.specs.declared.packet.Packet.{Packet}
use Rattle.packet_grammar.proofs.Streams.{one_stream}
use Rattle.packet_reader.proofs.Adds.{nothing_is_a_stream}
use Rattle.path_elements.specs.PathLaws.{BeginsWith}
use Rattle.path_text.specs.EndLines.{end_line}
use Rattle.path_text.specs.Lines.{IsLine}
use Rattle.path_text.specs.PacketLines.{packet_line}
use Rattle.capture_streams.specs.Laws.{AddsAlways, AddsOnce, EndsAlways, EndsOnce, GainsAlways, GainsOnce, StreamLines, lines_with}
use Rattle.capture_streams.specs.Texts.{Printed, StreamBody, StreamEnds, by_sizes, lines_under, of}
use Rattle.path_text.proofs.Feeds.{end_is, packet_is}
use Rattle.capture_streams.proofs.Alone.{source_is_alone}
use Rattle.capture_streams.proofs.AlonePaths.{PrintsLines, each_is, print_by}
use Rattle.capture_streams.proofs.BySizes.{adds_always_by, adds_once_by, ends_always_by, ends_once_by, gains_always_by, gains_once_by, own_lines}
use Rattle.capture_streams.proofs.OneText.{one_body, one_text, some_text}
use Rattle.capture_streams.proofs.Parted.{CarriesOn, fronts_begin}
use Rattle.packet_list.specs.PacketLaws.{EachPacketIsALine, FrontsOfPacketsBegin, OneTextOfPackets, PacketsAreAlone, PacketsPrinted, SomeTextOfPackets}
use Rattle.packet_list.specs.PacketList.{packet_lines, packet_lists}
use Rattle.packet_list.proofs.PacketLists.{one_end, one_gain, some_gain, some_line}

abbrev IsByte : ℕ → Type 0
IsByte b = b < 256

front_small : (xs ys : List ℕ) → All IsByte (xs ++ ys) → All IsByte xs
front_small xs ys all k d within = subst IsByte (get_or_append_left xs ys d k within) (all k d (omega (arith, within, length-append xs ys)))

last_small : (xs : List ℕ) (b : ℕ) → All IsByte (xs ++ b ∷ []) → b < 256
last_small [] b all = all 0 0 (omega arith)
last_small (x ∷ xs) b all = last_small xs b (λ k d within. all (suc k) d (omega (arith, within)))

module _ (s : Sizes) (are : AreSettings s) where
  gain_once : GainsOnce (packet_lists s)
  gain_once id bytes byte lines others gains also = one_gain s are id bytes byte lines others gains also

  add_once : AddsOnce (packet_lists s)
  add_once id bytes byte items others none also = none ∙ sym also

  add_always : AddsAlways (packet_lists s)
  add_always id bytes byte small = ([], refl)

  end_once : EndsOnce (packet_lists s)
  end_once id bytes line other faulty also ends too = one_end s are id bytes line other faulty also ends too

  gain_always : GainsAlways (packet_lists s)
  gain_always id bytes byte small = some_gain s are id bytes byte (front_small bytes (byte ∷ []) small) (last_small bytes byte small)

  end_always : EndsAlways (packet_lists s)
  end_always id bytes small = some_line s are id bytes small

-- ---- many streams, each of its own sizes

once_by : (t : ℕ → Sizes) → ((id : ℕ) → AreSettings (t id)) → GainsOnce (by_sizes packet_lists t)
once_by t are = gains_once_by packet_lists t (λ id. gain_once (t id) (are id))

pub one_text_of_packets : OneTextOfPackets
one_text_of_packets t are =
    one_text (by_sizes packet_lists t) (once_by t are) (adds_once_by packet_lists t (λ id. add_once (t id) (are id)))
    (ends_once_by packet_lists t (λ id. end_once (t id) (are id)))

pub some_text_of_packets : SomeTextOfPackets
some_text_of_packets t are =
    some_text (by_sizes packet_lists t) (gains_always_by packet_lists t (λ id. gain_always (t id) (are id)))
    (adds_always_by packet_lists t (λ id. add_always (t id) (are id)))
    (ends_always_by packet_lists t (λ id. end_always (t id) (are id)))

pub fronts_of_packets_begin : (carried : List ℕ → List (ℕ × ℕ)) → CarriesOn carried → FrontsOfPacketsBegin carried
fronts_of_packets_begin carried on t are bytes more first lines front body =
    let g = by_sizes packet_lists t in
    let some = fronts_begin carried g on bytes more lines body in
    let same = one_body g (once_by t are) [] (carried bytes) some.0 first some.1 front in
    subst (λ (l : List Printed). BeginsWith l lines) same some.2

-- ---- the packets of a stream

module _ (s : Sizes) (are : AreSettings s) (id : ℕ) where
  -- what bytes add behind others is the lines of the packets that they end
  grown : (before bytes : List ℕ) (lines : List (List ℕ)) (front packets : List (ℕ × Packet)) (ending next : Ending) → IsStream s before front ending
      → IsStream s (before ++ bytes) packets next → StreamBody (packet_lists s) id before bytes lines
      → packet_lines id packets ≡ packet_lines id front ++ lines
  grown before [] lines front packets ending next was is none =
      let same = one_stream s are before packets front next ending (subst (λ (b : List ℕ). IsStream s b packets next) (append-nil before) is) was in
      ap (packet_lines id) same.0 ∙ sym (append-nil (packet_lines id front)) ∙ ap (λ (l : List (List ℕ)). packet_lines id front ++ l) (sym none)
  grown before (b ∷ bytes) lines front packets ending next was is (first, rest, (front', more, ending', later, was', now, adds), behind, all) =
      let same = (one_stream s are before front' front ending' ending was' was).0 in
      let here = subst (λ (p : List (ℕ × Packet)). IsStream s (before ++ b ∷ []) (p ++ more) later) same now in
      let whole = subst (λ (l : List ℕ). IsStream s l packets next) (sym (append_assoc before (b ∷ []) bytes)) is in
      grown (before ++ b ∷ []) bytes rest (front ++ more) packets later next here whole behind
      ∙ ap (λ (l : List (List ℕ)). l ++ rest) (map-append (λ (p : ℕ × Packet). packet_line id p.0 p.1) front more)
      ∙ append_assoc (packet_lines id front) (packet_lines id more) rest
      ∙ ap (λ (l : List (List ℕ)). packet_lines id front ++ l) (ap (λ (l : List (List ℕ)). l ++ rest) (sym adds) ∙ sym all)

  packets_printed : (bytes : List ℕ) (lines : List Printed) → StreamLines (packet_lists s) id bytes lines → PacketsPrinted s id bytes lines
  packets_printed [] lines is = is.all ∙ ap (λ (l : List (List ℕ)). lines_under id l ++ is.ending) is.body ∙ (is.ends).0
  packets_printed (b ∷ bytes) lines is = printed is.ends
    where
      printed : StreamEnds (packet_lists s) id (b ∷ bytes) is.ending is.faulty → PacketsPrinted s id (b ∷ bytes) lines
      printed (line, (packets, ending, stream, line_is, fault_is), ending_is) =
          let first = nothing_is_a_stream s in
          let body = grown [] (b ∷ bytes) is.gained [] packets _ ending first stream is.body in (
            packets,
            ending,
            stream,
            is.all ∙ ap (λ (l : List (List ℕ)). lines_under id l ++ is.ending) (sym body)
                ∙ ap (λ (l : List Printed). lines_under id (packet_lines id packets) ++ l)
                (ending_is ∙ ap (λ (l : List ℕ). lines_under id (l ∷ [])) line_is)
                ∙ sym (map-append (λ (l : List ℕ). record { id = Some id; line = l }) (packet_lines id packets) (end_line id (end_of ending) ∷ [])),
          )

pub packets_are_alone : PacketsAreAlone
packets_are_alone t id source are pairs left lines faulty is =
    packets_printed (t id) are id (of id pairs) (lines_with id lines)
    (own_lines packet_lists t id (of id pairs) (lines_with id lines)
    (source_is_alone (by_sizes packet_lists t) pairs left lines faulty id source is))

-- ---- each line has one LF

packets_print_lines : (s : Sizes) → PrintsLines (packet_lists s)
packets_print_lines s =
    record {
      gained = λ id bytes byte lines (packets, more, ending, next, was, now, is).
          subst (λ (l : List (List ℕ)). All IsLine l) (sym is) (each_of id more);
      ended = λ id bytes line faulty (packets, ending, stream, line_is, fault_is). subst IsLine (sym line_is) (end_is id (end_of ending));
      summed = λ items. All-nil IsLine;
    }
  where
    each_of : (id : ℕ) (packets : List (ℕ × Packet)) → All IsLine (packet_lines id packets)
    each_of id packets = All-map IsLine (λ (p : ℕ × Packet). packet_line id p.0 p.1) packets (λ k d within. packet_is id _ _)

pub each_packet_is_a_line : EachPacketIsALine
each_packet_is_a_line t = each_is (by_sizes packet_lists t) (print_by packet_lists t (λ id. packets_print_lines (t id)))
