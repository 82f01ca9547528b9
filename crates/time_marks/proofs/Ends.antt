-- How a stream of times ends among others.
use Rattle.std.proofs.Common.{◌≡◌, ℕ, Bool, false, if◌then◌else◌, List, [], ◌∷◌, length, Result, refl, sym, ap, subst, ◌∙◌, inl, inr, arith, append-nil}
use Rattle.std.specs.Prelude.{IfOk, not, ◌==◌}
use Rattle.etm_types.specs.Settings.{AreSettings, Sizes}
use Rattle.packet_grammar.specs.Ends.{end_of, is_fault}
use Rattle.packet_grammar.proofs.Streams.{none_in}
use Rattle.packet_grammar.specs.Parsed.{Ending, IsStream, no_sync}
use Rattle.packet_grammar.specs.declared.packet.Packet.{Packet}
use Rattle.packet_grammar.specs.declared.end.End.{End}
use Rattle.capture_streams.specs.Texts.{Printed, StreamEnds, lines_under, text_of}
use Rattle.packet_grammar.specs.declared.end.End.TheVariants as end
use Rattle.packet_reader.proofs.Adds.{nothing_is_a_stream}
use Rattle.path_text.specs.EndLines.{end_line}
use Rattle.path_text.specs.Writing.{Writes}
use Rattle.stream_decoder.proofs.Standing.{printed_end}
use Rattle.time_marks.proofs.Lists.{one_times}
use Rattle.time_marks.specs.Timed.{StandsAt, Timed, depth_of}
use Rattle.time_marks.specs.TimeList.{IsTimes, times}
use Rattle.time_marks.specs.Times.{Times, end_behind, no_times, times_of}
use Rattle.trace_io.specs.State.{IoState}
use Rattle.trace_io.specs.declared.traits.Failed.{Failed}

-- no byte is no fault
pub nothing_ends_whole : (s : Sizes) → AreSettings s → (bytes : List ℕ) (t : Times) (last : End) → length bytes ≡ 0 → IsTimes s bytes t last
    → is_fault last ≡ false
nothing_ends_whole s are [] t last none is =
    ap is_fault (one_times s are [] t no_times last end.NoSync is ([], no_sync, nothing_is_a_stream s, refl, refl)).1
nothing_ends_whole s are (b ∷ bytes) t last none is = absurd (omega (arith, none))

module _ (d : Timed) where
  abbrev s : Sizes
  s = (d.reader).settings

  nothing_there : (packets : List (ℕ × Packet)) (ending : Ending) → IsStream s [] packets ending → (packets ≡ []) × (ending ≡ no_sync)
  nothing_there packets ending (inl (at, first, parses)) = absurd (none_in at first.here)
  nothing_there packets ending (inr (none, nothing, unsynced)) = (nothing, unsynced)

  -- bytes at which a decoder stands come to something
  pub times_there : (bytes : List ℕ) → StandsAt d bytes → (t : Times) × (last : End) × IsTimes s bytes t last
  times_there bytes is =
      let t = times_of (depth_of d) is.packets in
      (t, end_behind t.fault (end_of is.ending), (is.packets, is.ending, is.stream, refl, refl))

  -- and end so
  pub times_end : (id : ℕ) (bytes : List ℕ) → StandsAt d bytes → (lines : List Printed) × (faulty : Bool) × StreamEnds (times s) id bytes lines faulty
  times_end id [] is = ([], false, (refl, refl))
  times_end id (b ∷ bytes) is =
      let there = times_there (b ∷ bytes) is in
      (lines_under id (end_line id there.1 ∷ []), is_fault there.1, (end_line id there.1, (there.0, there.1, there.2, refl, refl), refl))

  pub times_finished : (id : ℕ) (bytes : List ℕ) (is : StandsAt d bytes) (result : Result Bool Failed) (a b : IoState)
      → Writes a b result (if length bytes == 0 then [] else end_line id (times_there bytes is).1)
      → IfOk result (λ (w : Bool). w ≡ not (is_fault (times_there bytes is).1))
      → (lines : List Printed) × (faulty : Bool) × StreamEnds (times s) id bytes lines faulty
      × Writes a b result (text_of lines) × IfOk result (λ (w : Bool). w ≡ not faulty)
  unfolding times_there
  times_finished id [] is result a b writes whole =
      let none = nothing_there is.packets is.ending is.stream in
      let last = ap (λ (p : List (ℕ × Packet)). is_fault (end_behind (times_of (depth_of d) p).fault (end_of is.ending))) none.0
      ∙ ap (λ (n : Ending). is_fault (end_of n)) none.1 in
      ([], false, (refl, refl), writes, subst (λ (f : Bool). IfOk result (λ (w : Bool). w ≡ not f)) last whole)
  times_finished id (x ∷ bytes) is result a b writes whole =
      let there = times_there (x ∷ bytes) is in
      let line = end_line id there.1 in (
        lines_under id (line ∷ []),
        is_fault there.1,
        (line, (there.0, there.1, there.2, refl, refl), refl),
        subst (Writes a b result) (sym (printed_end id (x ∷ bytes) there.1 (λ none. absurd (omega (arith, none)))) ∙ sym (append-nil line)) writes,
        whole,
      )
