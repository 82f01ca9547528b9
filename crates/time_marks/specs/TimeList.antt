-- What is printed of the events and P0 elements of a stream.
use Rattle.std.specs.Prelude.{◌≡◌, ℕ, Bool, List, [], ◌∷◌, ◌++◌}
use Rattle.capture_streams.specs.Texts.{Listing, adds_nothing, no_sums}
use Rattle.element_queue.specs.Counting.{no_counts, tally}
use Rattle.element_queue.specs.Resolved.{at_first}
use Rattle.element_queue.specs.declared.ledger.Counts.{Counts}
use Rattle.etm_types.specs.Settings.{Sizes}
use Rattle.packet_grammar.specs.Ends.{end_of, is_fault}
use Rattle.packet_grammar.specs.Parsed.{Ending, IsStream}
use Rattle.packet_grammar.specs.declared.end.End.{End}
use Rattle.packet_grammar.specs.declared.packet.Packet.{Packet}
use Rattle.path_elements.specs.Elements.{all_elements, untold}
use Rattle.path_elements.specs.Path.{unplaced}
use Rattle.path_text.specs.EndLines.{end_line}
use Rattle.time_marks.specs.TimeLines.{time_lines}
use Rattle.time_marks.specs.Times.{Times, end_behind, times_of}
use Rattle.time_marks.specs.declared.time_line.TimeLine.{TimeLine}

-- what the bytes of a stream come to, and how it ends
abbrev pub IsTimes : Sizes → List ℕ → Times → End → Type 0
IsTimes s bytes t last =
    (packets : List (ℕ × Packet)) × (ending : Ending) × IsStream s bytes packets ending × (t ≡ times_of s.depth packets)
    × (last ≡ end_behind t.fault (end_of ending))

-- the lines by which they grow with a byte
abbrev pub TimesGains : Sizes → ℕ → List ℕ → ℕ → List (List ℕ) → Type 0
TimesGains s id bytes byte lines =
    (t : Times) × (after : Times) × (last : End) × (next : End) × (more : List TimeLine) × IsTimes s bytes t last
    × IsTimes s (bytes ++ byte ∷ []) after next × (after.lines ≡ t.lines ++ more) × (lines ≡ time_lines id more)

-- the line of how it ends
abbrev pub TimesEnds : Sizes → ℕ → List ℕ → List ℕ → Bool → Type 0
TimesEnds s id bytes line faulty = (t : Times) × (last : End) × IsTimes s bytes t last × (line ≡ end_line id last) × (faulty ≡ is_fault last)

-- the times of streams, under the sizes of their trace units
abbrev pub times : Sizes → Listing
times s = record { gains = TimesGains s; ends = TimesEnds s; adds = adds_nothing; sums = no_sums }

-- what became of the P0 elements of bytes: as their elements say, up to the first that has a fault
abbrev pub TimesTallies : Sizes → List ℕ → Counts → Type 0
TimesTallies s bytes c =
    (packets : List (ℕ × Packet)) (ending : Ending) → IsStream s bytes packets ending
    → c ≡ tally s.depth at_first no_counts (unplaced (all_elements untold packets).elements)
