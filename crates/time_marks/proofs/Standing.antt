-- At which bytes a decoder stands, and what a byte more makes of that.
use Rattle.std.proofs.Common.{◌≡◌, ◌⊎◌, ℕ, ◌<◌, Bool, false, List, [], ◌∷◌, ◌++◌, Option, Some, None, Result, refl, sym, ap, subst, ◌∙◌, inl, inr}
use Rattle.std.proofs.Common.{append-nil}
use Rattle.std.specs.List.{concat}
use Rattle.std.proofs.lemmas.List.Elements.{All-nil}
use Rattle.element_queue.specs.Counting.{no_counts, tally}
use Rattle.element_queue.specs.Resolved.{at_first}
use Rattle.etm_types.specs.Settings.{AreSettings, Sizes}
use Rattle.packet_grammar.proofs.GoesOn.{fault_stays}
use Rattle.packet_grammar.specs.Ends.{end_of}
use Rattle.packet_grammar.specs.Parsed.{Ending, IsStream, clean, cut, fault, no_sync}
use Rattle.packet_grammar.specs.declared.end.End.{End}
use Rattle.packet_grammar.specs.declared.end.End.TheVariants as end
use Rattle.packet_grammar.specs.declared.fault.PacketFault.{PacketFault}
use Rattle.packet_grammar.specs.declared.packet.Packet.{Packet}
use Rattle.packet_grammar.specs.declared.stream_fault.Fault.{Fault}
use Rattle.packet_grammar.specs.declared.stream_fault.Fault.TheVariants as stream
use Rattle.packet_reader.proofs.Adds.{Told, gains_more, nothing_is_a_stream}
use Rattle.packet_reader.specs.Answered.{fault_after, fault_of, told}
use Rattle.packet_reader.specs.Stands.{Gains, PacketReading}
use Rattle.packet_reader.specs.Stands as reader
use Rattle.packet_reader.specs.declared.step.Step.{Step}
use Rattle.packet_grammar.proofs.Streams.{one_stream}
use Rattle.path_elements.specs.Elements.{all_elements, untold}
use Rattle.path_elements.specs.Path.{unplaced}
use Rattle.path_text.specs.Writing.{Writes}
use Rattle.time_marks.proofs.Growing.{packets-append, packets_stop}
use Rattle.time_marks.proofs.Lists.{gain_so, one_more, one_times, times_so}
use Rattle.time_marks.specs.Marked.{IsMarked}
use Rattle.time_marks.specs.TimeLines.{time_lines}
use Rattle.time_marks.proofs.Tallies.{packets_counted}
use Rattle.time_marks.specs.TimeList.{IsTimes, TimesGains, TimesTallies}
use Rattle.time_marks.specs.Timed.{HasTimes, IsInformed, IsReading, IsTimed, Prints, StandsAt, Timed, depth_of, fault_behind}
use Rattle.time_marks.specs.Times.{Times, after_packets, end_behind, no_times, times_of}
use Rattle.time_marks.specs.declared.timing.Timing.{Timing}
use Rattle.trace_io.specs.State.{IoState}

-- ---- before the first byte

pub stands_first : (d : Timed) → d.broken ≡ false → reader.StandsAt d.reader [] → HasTimes d.timing no_times → ((d.timing).line).fault ≡ None → StandsAt d []
stands_first d whole reads times none =
    record {
      whole = whole;
      small = All-nil (λ (b : ℕ). b < 256);
      reads = reads;
      packets = [];
      ending = no_sync;
      stream = nothing_is_a_stream ((d.reader).settings);
      times = times;
      fault = none;
    }

-- ---- faults

pub some_or_none : {X : Type 0} (x : X) → None ≡ Some x → ⊥
some_or_none x e = absurd cc

no_packet_fault : (met : Option (ℕ × Fault)) (found : Option (ℕ × PacketFault)) → fault_behind met found ≡ None → (met ≡ None) × (found ≡ None)
no_packet_fault (Some stop) found e = absurd (some_or_none stop (sym e))
no_packet_fault None (Some f) e = absurd (some_or_none (f.0, stream.Packet f.1) (sym e))
no_packet_fault None None e = (refl, refl)

-- a fault is that of the packets, or one of the bytes behind them
abbrev Whose : Option (ℕ × Fault) → Ending → Type 0
Whose met ending = ((stop : ℕ × Fault) × (met ≡ Some stop)) ⊎ ((met ≡ None) × ((at : ℕ) × (f : PacketFault) × (ending ≡ fault at f)))

whose : (met : Option (ℕ × Fault)) (ending : Ending) (stop : ℕ × Fault) → fault_behind met (fault_of ending) ≡ Some stop → Whose met ending
whose (Some other) ending stop e = inl (other, refl)
whose None (fault at f) stop e = inr (refl, (at, f, refl))
whose None no_sync stop e = absurd (some_or_none stop e)
whose None clean stop e = absurd (some_or_none stop e)
whose None (cut n) stop e = absurd (some_or_none stop e)

same_some : {X : Type 0} (x y : X) → Some x ≡ Some y → x ≡ y
same_some x y e = cc

-- how it ends, where a fault was met
pub end_met : (met : Option (ℕ × Fault)) (ending : Ending) (stop : ℕ × Fault) → fault_behind met (fault_of ending) ≡ Some stop
    → end.Fault stop.0 stop.1 ≡ end_behind met (end_of ending)
end_met (Some other) ending stop e = ap (λ (x : ℕ × Fault). end.Fault x.0 x.1) (sym (same_some other stop e))
end_met None (fault at f) stop e = ap (λ (x : ℕ × Fault). end.Fault x.0 x.1) (sym (same_some (at, stream.Packet f) stop e))
end_met None no_sync stop e = absurd (some_or_none stop e)
end_met None clean stop e = absurd (some_or_none stop e)
end_met None (cut n) stop e = absurd (some_or_none stop e)

module _ (d : Timed) (bytes : List ℕ) (is : StandsAt d bytes) (are : AreSettings ((d.reader).settings)) where
  abbrev s : Sizes
  s = (d.reader).settings

  abbrev t : Times
  t = times_of (depth_of d) is.packets

  -- ---- the end

  module _ (u : Times) (last : End) (times : IsTimes s bytes u last) where
    last_is : last ≡ end_behind t.fault (end_of is.ending)
    last_is = (one_times s are bytes u t last (end_behind t.fault (end_of is.ending)) times (times_so s are bytes is.packets is.ending is.stream)).1

    pub ends_at : (stop : ℕ × Fault) → ((d.timing).line).fault ≡ Some stop → end.Fault stop.0 stop.1 ≡ last
    ends_at stop met = end_met t.fault is.ending stop (sym is.fault ∙ met) ∙ sym last_is

    pub ends_with : (known : End) → ((d.timing).line).fault ≡ None
        → ((packets : List (_)) (ending : Ending) → IsStream s bytes packets ending → fault_of ending ≡ None → known ≡ end_of ending) → known ≡ last
    ends_with known none gives =
        let free = no_packet_fault t.fault (fault_of is.ending) (sym is.fault ∙ none) in
        gives is.packets is.ending is.stream free.1 ∙ ap (λ (f : Option (ℕ × Fault)). end_behind f (end_of is.ending)) (sym free.0) ∙ sym last_is

  -- ---- a byte more

  module _ (r : PacketReading) (byte : ℕ) (fits : byte < 256) (step : Step) (same : r.settings ≡ s) (reads : reader.StandsAt r (bytes ++ byte ∷ []))
      (gains : Gains s bytes byte step) where
    abbrev more : List ℕ
    more = bytes ++ byte ∷ []

    abbrev all : List (ℕ × Packet)
    all = is.packets ++ told step

    -- the stream with that byte
    now : Told s more all (fault_after (fault_of is.ending) step)
    now = gains_more s are bytes byte is.packets (fault_of is.ending) step (record { ending = is.ending; stream = is.stream; fault = refl }) gains

    stands_so : (d' : Timed) → d'.broken ≡ false → d'.reader ≡ r → (packets : List (ℕ × Packet)) (ending : Ending) → IsStream s more packets ending
        → HasTimes d'.timing (times_of (depth_of d) packets) → ((d'.timing).line).fault ≡ fault_behind (times_of (depth_of d) packets).fault (fault_of ending)
        → StandsAt d' more
    stands_so d' whole read packets ending stream times met =
        let settings : s ≡ (d'.reader).settings = sym same ∙ ap (λ (x : PacketReading). x.settings) (sym read) in
        record {
          whole = whole;
          small = one_more bytes byte is.small fits;
          reads = subst (λ (x : PacketReading). reader.StandsAt x more) (sym read) reads;
          packets = packets;
          ending = ending;
          stream = subst (λ (x : Sizes). IsStream x more packets ending) settings stream;
          times = subst (λ (x : Sizes). HasTimes d'.timing (times_of x.depth packets)) settings times;
          fault = subst (λ (x : Sizes). ((d'.timing).line).fault ≡ fault_behind (times_of x.depth packets).fault (fault_of ending)) settings met;
        }

    -- ---- no fault was met before

    module _ (none : ((d.timing).line).fault ≡ None) where
      pub free : (t.fault ≡ None) × (fault_of is.ending ≡ None)
      free = no_packet_fault t.fault (fault_of is.ending) (sym is.fault ∙ none)

      abbrev after : Times
      after = after_packets (depth_of d) t (told step)

      joined : times_of (depth_of d) all ≡ after
      joined = packets-append (depth_of d) no_times is.packets (told step)

      pub stands_on : (d' : Timed) → d'.broken ≡ false → d'.reader ≡ r → HasTimes d'.timing after
          → ((d'.timing).line).fault ≡ fault_behind after.fault (fault_after None step) → StandsAt d' more
      stands_on d' whole read times met =
          let found : fault_after None step ≡ fault_of now.ending = ap (λ (f : Option (ℕ × PacketFault)). fault_after f step) (sym free.1) ∙ sym now.fault in
          stands_so d' whole read all now.ending now.stream (subst (HasTimes d'.timing) (sym joined) times)
          (met ∙ ap (λ (x : Times). fault_behind x.fault (fault_after None step)) (sym joined) ∙ ap (fault_behind (times_of (depth_of d) all).fault) found)

      pub gains_on : {T E : Type 0} (id : ℕ) (a b : IoState) (result : Result T E) → Prints id t after a b result
          → (lines : List (List ℕ)) × TimesGains s id bytes byte lines × Writes a b result (concat lines)
      gains_on id a b result prints = (
        time_lines id prints.more,
        gain_so s are id bytes byte is.packets (told step) is.ending now.ending is.stream now.stream prints.more prints.grows,
        prints.writes,
      )

    -- ---- one was met

    module _ (stop : ℕ × Fault) (met : ((d.timing).line).fault ≡ Some stop) where
      abbrev by : Whose t.fault is.ending
      by = whose t.fault is.ending stop (sym is.fault ∙ met)

      still : (other : ℕ × Fault) → t.fault ≡ Some other → times_of (depth_of d) all ≡ t
      still other some = packets-append (depth_of d) no_times is.packets (told step) ∙ packets_stop (depth_of d) t other (told step) some

      -- the bytes of a stream with a fault have it with one more
      ends_so : (at : ℕ) (f : PacketFault) → is.ending ≡ fault at f → IsStream s more is.packets is.ending
      ends_so at f e =
          subst (λ (x : Ending). IsStream s more is.packets x) (sym e)
          (fault_stays s bytes (byte ∷ []) is.packets at f (subst (λ (x : Ending). IsStream s bytes is.packets x) e is.stream))

      pub stands_stopped : (d' : Timed) → d'.broken ≡ false → d'.reader ≡ r → d'.timing ≡ d.timing → StandsAt d' more
      stands_stopped d' whole read kept =
          let times = subst (λ (x : Timing). HasTimes x t) (sym kept) is.times in
          let line : ((d'.timing).line).fault ≡ ((d.timing).line).fault = ap (λ (x : Timing). (x.line).fault) kept in
          elim by [
            | inl some ↦
                let same_times = still some.0 some.1 in
                stands_so d' whole read all now.ending now.stream (subst (HasTimes d'.timing) (sym same_times) times)
                (line ∙ is.fault ∙ ap (λ (f : Option (ℕ × Fault)). fault_behind f (fault_of is.ending)) some.1
                ∙ sym (ap (λ (x : Times). fault_behind x.fault (fault_of now.ending)) same_times
                ∙ ap (λ (f : Option (ℕ × Fault)). fault_behind f (fault_of now.ending)) some.1))
            | inr none ↦ stands_so d' whole read is.packets is.ending (ends_so none.1.0 none.1.1 none.1.2) times (line ∙ is.fault)
          ]

      pub gains_stopped : (id : ℕ) → TimesGains s id bytes byte []
      gains_stopped id = elim by [
        | inl some ↦ gain_so s are id bytes byte is.packets (told step) is.ending now.ending is.stream now.stream []
            (ap (λ (x : Times). x.lines) (packets_stop (depth_of d) t some.0 (told step) some.1) ∙ sym (append-nil t.lines))
        | inr none ↦ gain_so s are id bytes byte is.packets [] is.ending is.ending is.stream
            (subst (λ (p : List (ℕ × Packet)). IsStream s more p is.ending) (sym (append-nil is.packets)) (ends_so none.1.0 none.1.1 none.1.2)) []
            (sym (append-nil t.lines))
      ]

  -- ---- the counts

  pub tallied_at : TimesTallies s bytes (((d.timing).line).queue).counts
  tallied_at packets ending stream =
      let same = (one_stream s are bytes is.packets packets is.ending ending is.stream stream).0 in
      (is.times).marks.counts ∙ packets_counted s.depth no_times is.packets refl
      ∙ ap (λ (p : List (ℕ × Packet)). tally s.depth at_first no_counts (unplaced (all_elements untold p).elements)) same

-- ---- the reader

reads_more : (old new : PacketReading) (byte : ℕ) → byte < 256 → new.settings ≡ old.settings
    → ((bytes : List ℕ) → reader.StandsAt old bytes → reader.StandsAt new (bytes ++ byte ∷ [])) → IsReading old → IsReading new
reads_more old new byte fits same stands is =
    record {
      settings = subst AreSettings (sym same) is.settings;
      bytes = is.bytes ++ byte ∷ [];
      small = one_more is.bytes byte is.small fits;
      stands = stands is.bytes is.stands;
    }

-- ---- what holds at any time

pub timed_on : (d : Timed) → IsTimed d → (r : PacketReading) (byte : ℕ) → byte < 256 → r.settings ≡ (d.reader).settings
    → ((bytes : List ℕ) → reader.StandsAt d.reader bytes → reader.StandsAt r (bytes ++ byte ∷ [])) → (p : Timing) (broken : Bool)
    → (IsMarked ((d.timing).line).queue → IsMarked (p.line).queue) → ((p.line).queue).depth ≡ (((d.timing).line).queue).depth
    → (broken ≡ false → IsInformed p) → IsTimed (record { reader = r; timing = p; broken = broken })
timed_on d is r byte fits same stands p broken holds depth informed =
    record {
      reads = reads_more d.reader r byte fits same stands is.reads;
      marked = holds is.marked;
      depth = depth ∙ is.depth ∙ ap (λ s. s.depth) (sym same);
      informed = informed;
    }
