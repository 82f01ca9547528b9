-- What holds of the times that are printed of streams, as a whole.
use Rattle.std.specs.Prelude.{◌≡◌, ◌≤◌, ℕ, All, Bool, false, List, [], ◌∷◌, ◌++◌, length, None}
use Rattle.capture_streams.specs.Laws.{HasByte, lines_with}
use Rattle.capture_streams.specs.Texts.{BodyFrom, IsText, Printed, by_sizes, lines_under, of}
use Rattle.element_queue.specs.Counting.{entries}
use Rattle.etm_types.specs.Id.{IsId}
use Rattle.etm_types.specs.Settings.{AreSettings, Sizes}
use Rattle.etm_types.specs.declared.element.Elem.{Elem}
use Rattle.etm_types.specs.declared.item.Item.{Item}
use Rattle.packet_grammar.specs.Parsed.{Ending, IsStream}
use Rattle.packet_grammar.specs.declared.end.End.{End}
use Rattle.packet_grammar.specs.declared.packet.Packet.{Packet}
use Rattle.path_elements.specs.Elements.{untold}
use Rattle.path_elements.specs.Path.{IsPathTaking, WalksAll, unplaced}
use Rattle.path_elements.specs.PathLaws.{BeginsWith}
use Rattle.path_text.specs.EndLines.{end_line}
use Rattle.path_text.specs.Lines.{IsLine}
use Rattle.program_image.specs.declared.image.Image.{Image}
use Rattle.stream_decoder.specs.Stands.{shows_walk_fault}
use Rattle.time_marks.specs.MarkLaws.{HaveOwnStamps, stamps_of}
use Rattle.time_marks.specs.TimeLines.{time_lines}
use Rattle.time_marks.specs.TimeList.{IsTimes, times}
use Rattle.time_marks.specs.Times.{Times}

-- pairs of an ID and a byte have one text of their times at most, whatever the sizes of each stream
abbrev pub OneTextOfTimes : Type 0
OneTextOfTimes =
    (t : ℕ → Sizes) → ((id : ℕ) → AreSettings (t id)) → (pairs : List (ℕ × ℕ)) (left : ℕ) (lines others : List Printed) (faulty also : Bool)
    → IsText (by_sizes times t) pairs left lines faulty → IsText (by_sizes times t) pairs left others also
    → (lines ≡ others) × (faulty ≡ also)

-- and one at least
abbrev pub SomeTextOfTimes : Type 0
SomeTextOfTimes =
    (t : ℕ → Sizes) → ((id : ℕ) → AreSettings (t id)) → (pairs : List (ℕ × ℕ)) (left : ℕ) → All HasByte pairs
    → (lines : List Printed) × (faulty : Bool) × IsText (by_sizes times t) pairs left lines faulty

-- what is printed of times before the ends, in this layout, begins with what is printed of each front of the input
abbrev pub FrontsOfTimesBegin : (List ℕ → List (ℕ × ℕ)) → Type 0
FrontsOfTimesBegin carried =
    (t : ℕ → Sizes) → ((id : ℕ) → AreSettings (t id)) → (bytes more : List ℕ) (first lines : List Printed)
    → BodyFrom (by_sizes times t) [] (carried bytes) first → BodyFrom (by_sizes times t) [] (carried (bytes ++ more)) lines
    → BeginsWith first lines

-- what is printed of the times of a stream: their lines, and that of how it ends; and nothing of no byte
abbrev pub TimesPrinted : Sizes → ℕ → List ℕ → List Printed → Type 0
TimesPrinted s id [] lines = lines ≡ []
TimesPrinted s id (b ∷ bytes) lines =
    (t : Times) × (last : End) × IsTimes s (b ∷ bytes) t last × (lines ≡ lines_under id (time_lines id t.lines ++ end_line id last ∷ []))

-- whatever else is printed, the lines of a source are those of the times of its own bytes, by its own sizes
abbrev pub TimesAreAlone : Type 0
TimesAreAlone =
    (t : ℕ → Sizes) (id : ℕ) → IsId id → AreSettings (t id)
    → (pairs : List (ℕ × ℕ)) (left : ℕ) (lines : List Printed) (faulty : Bool) → IsText (by_sizes times t) pairs left lines faulty
    → TimesPrinted (t id) id (of id pairs) (lines_with id lines)

-- each line among times has one LF, which ends it
abbrev pub EachTimeIsALine : Type 0
EachTimeIsALine =
    (t : ℕ → Sizes) (pairs : List (ℕ × ℕ)) (left : ℕ) (lines : List Printed) (faulty : Bool)
    → IsText (by_sizes times t) pairs left lines faulty → All (λ (l : Printed). IsLine l.line) lines

-- ---- the P0 elements that are numbered

-- Of the elements that a path took, these have no fault, and one behind them may have one. What they committed is walked to these items, and each
-- P0 element in it that was seen has, one for one, the timestamp of its own packet.
pub record Numbers (image : Image) (s : Sizes) (bytes : List ℕ) (items : List Item) (took : List (ℕ × Elem)) (t : Times) : Type 0 where
  pub front : List (ℕ × Elem)
  pub rest : List (ℕ × Elem)
  pub parts : took ≡ front ++ rest
  pub few : length rest ≤ 1
  pub walks : WalksAll image s.depth front items
  pub each : length t.done ≡ entries ((walks.resolved).done)
  pub packets : List (ℕ × Packet)
  pub ending : Ending
  pub stream : IsStream s bytes packets ending
  pub own : HaveOwnStamps s.depth (unplaced front) (stamps_of untold None packets) ((walks.resolved).done) t.done

-- so as long as the walk of a path meets no fault, the P0 elements that are numbered are those whose items the path shows, in their order, each with
-- the timestamp of its own packet, and both end alike
abbrev pub TimesNumberPaths : Type 0
TimesNumberPaths =
    (image : Image) (s : Sizes) → AreSettings s → (bytes : List ℕ) (items : List Item) (last other : End) (took : List (ℕ × Elem)) (t : Times)
    → IsPathTaking image s bytes items last took → shows_walk_fault last ≡ false → IsTimes s bytes t other
    → (last ≡ other) × Numbers image s bytes items took t
