-- What a follower was given of packets that were taken together.
use Rattle.std.proofs.Common.{◌≡◌, ℕ, ◌+◌, List, [], ◌∷◌, ◌++◌, length, None, sym, ap, subst, ◌∙◌, inl, inr, arith}
use Rattle.std.proofs.Common.{append_assoc, append-nil, length-append}
use Rattle.etm_types.specs.Settings.{AreSettings}
use Rattle.etm_types.specs.declared.item.Item.{Item}
use Rattle.packet_grammar.proofs.Fitting.{small_back, small_front}
use Rattle.packet_grammar.specs.declared.stream_fault.Fault.TheVariants.{AddressAwaited}
use Rattle.packet_reader.specs.Stands.{PacketReading}
use Rattle.path_walker.specs.Walk.{items_in}
use Rattle.path_walker.specs.declared.stretch.Stretch.{Stretch}
use Rattle.program_image.specs.declared.image.Image.{Image}
use Rattle.stream_decoder.proofs.Coming.{none_due}
use Rattle.stream_decoder.proofs.Following.{FollowsAll}
use Rattle.stream_decoder.proofs.Growing.{Small, not_none, stands_on}
use Rattle.stream_decoder.proofs.Yielding.{ends_at_rest, goes_to_end}
use Rattle.stream_decoder.specs.AtomPackets.{RunsFront, RunsPacket, RunsPackets, bytes_in}
use Rattle.stream_decoder.specs.Decoding.{Decoding}
use Rattle.stream_decoder.specs.Follows.{FollowsFront}
use Rattle.stream_decoder.specs.Stands.{Came}
use Rattle.stream_decoder.specs.Yields.{BegunPacket, Ends}

-- a packet that is begun without a fault was not begun behind one
begun_whole : (d m : Decoding) (text : List ℕ) → BegunPacket d text m → m.fault ≡ None → d.fault ≡ None
begun_whole d m text (at, packet, takes, inl opens) whole =
    absurd (not_none m.fault (at, AddressAwaited) (ap (λ (x : Decoding). x.fault) opens.1) whole)
begun_whole d m text (at, packet, takes, inr opens) whole = sym (ap (λ (x : Decoding). x.fault) opens.1) ∙ whole

module _ (image : Image) where
  packet_whole : (d d' : Decoding) (text : List ℕ) (shown : List Item) → RunsPacket image d text shown d' → d'.fault ≡ None
  packet_whole d d' text shown packet = ap (λ (x : Decoding). x.fault) (packet.goes).rest ∙ packet.whole

  packets_whole : (d d' : Decoding) (first : List (List ℕ)) (last : List ℕ) (shown : List Item) → RunsPackets image d first last shown d' → d'.fault ≡ None
  packets_whole d d' [] last shown packet = packet_whole d d' last shown packet
  packets_whole d d' (text ∷ first) last shown (next, now, rest, packet, done, holds, packets, is) = packets_whole next d' first last rest packets

  -- ---- the bytes of the packets are taken, and all that the last of them left to do is done

  packet_comes : (d d' d2 : Decoding) (text : List ℕ) (shown others : List Item) → Small text → AreSettings ((d.reader).settings)
      → RunsPacket image d text shown d' → Ends image d' others d2 → (bytes : List ℕ) (items : List Item) → Came image d bytes items
      → Came image d2 (bytes ++ text) (items ++ (shown ++ others))
  packet_comes d d' d2 text shown others fits are packet ends bytes items came =
      stands_on image bytes text fits items d packet.begun are ((packet.begins).2).settings
      (inr (begun_whole d packet.begun text packet.begins packet.whole, packet.begins)) came packet.whole (shown ++ others) d2
      (goes_to_end image packet.begun d' d2 shown others packet.goes ends)

  packets_come : (d d' d2 : Decoding) (first : List (List ℕ)) (last : List ℕ) (shown others : List Item) → Small (bytes_in first ++ last)
      → AreSettings ((d.reader).settings) → RunsPackets image d first last shown d' → Ends image d' others d2 → (bytes : List ℕ) (items : List Item)
      → Came image d bytes items → Came image d2 (bytes ++ (bytes_in first ++ last)) (items ++ (shown ++ others))
  packets_come d d' d2 [] last shown others fits are packet ends bytes items came =
      packet_comes d d' d2 last shown others fits are packet ends bytes items came
  packets_come d d' d2 (text ∷ first) last shown others fits are (next, now, rest, packet, done, holds, packets, is) ends bytes items came =
      let behind = bytes_in first ++ last in
      let parts : (text ++ bytes_in first) ++ last ≡ text ++ behind = append_assoc text (bytes_in first) last in
      let settled = sym (none_due next done.due (holds.range).committed) in
      let here : Came image next (bytes ++ text) (items ++ (now ++ [])) =
      packet_comes d next next text now [] (small_front ((text ++ bytes_in first) ++ last) text behind parts fits) are packet
      (ends_at_rest image next (packet_whole d next text now packet) settled done) bytes items came in
      let all : Came image d2 ((bytes ++ text) ++ behind) ((items ++ (now ++ [])) ++ (rest ++ others)) =
      packets_come next d' d2 first last rest others (small_back ((text ++ bytes_in first) ++ last) text behind parts fits) ((holds.reads).settings)
      packets ends (bytes ++ text) (items ++ (now ++ [])) here in
      let joined : (items ++ (now ++ [])) ++ (rest ++ others) ≡ items ++ (shown ++ others) =
      ap (λ (l : List Item). (items ++ l) ++ (rest ++ others)) (append-nil now) ∙ append_assoc items now (rest ++ others)
      ∙ ap (λ (l : List Item). items ++ l) (sym (append_assoc now rest others) ∙ ap (λ (l : List Item). l ++ others) (sym is)) in
      subst (λ (l : List ℕ). Came image d2 l (items ++ (shown ++ others))) (append_assoc bytes text behind ∙ ap (λ (l : List ℕ). bytes ++ l) (sym parts))
      (subst (Came image d2 ((bytes ++ text) ++ behind)) joined all)

-- ---- packets at the front of some bytes are taken, and what is left to do is done

module _ {F : Type 0} (Takes : F → List Item → F → Type 0) (none : (f : F) → Takes f [] f)
    (joins : (a b c : F) (xs ys : List Item) → Takes a xs b → Takes b ys c → Takes a (xs ++ ys) c) (Adds : F → List Stretch → F → Type 0)
    (image : Image) (d n d2 : Decoding) (bytes behind : List ℕ) (old mid new : F) (runs : RunsFront Adds image d old bytes behind n mid) where
  abbrev text : List ℕ
  text = bytes_in runs.first ++ runs.last

  abbrev shown : List Item
  shown = items_in (d.walk).ctx runs.added

  parts : bytes ≡ text ++ behind
  parts = runs.parts ∙ sym (append_assoc (bytes_in runs.first) runs.last behind)

  long : length text ≡ length (bytes_in runs.first) + length runs.last
  long = length-append (bytes_in runs.first) runs.last

  pub runs_front : Small bytes → AreSettings ((d.reader).settings)
      → ((added : List Stretch) → Adds old added mid → Takes old (items_in (d.walk).ctx added) mid)
      → d2.reader ≡ n.reader → (n.fault ≡ None → FollowsAll Takes none joins image n d2 mid new) → FollowsFront Takes image d bytes behind d2 old new
  runs_front fits are shows unread follows =
      let f = follows (packets_whole image d n runs.first runs.last shown runs.packets) in
      record {
        text = text;
        parts = parts;
        some = omega (arith, long, runs.some);
        follows = record {
          more = shown ++ f.0;
          came = packets_come image d n d2 runs.first runs.last shown f.0 (small_front bytes text behind parts fits) are runs.packets f.1;
          takes = joins old mid new shown f.0 (shows runs.added runs.takes) f.2;
          settings = ap (λ (r : PacketReading). r.settings) unread ∙ runs.settings;
          offset = ap (λ (r : PacketReading). r.offset) unread ∙ omega (arith, runs.offset, long);
        };
      }
