-- The text of a run file: a header, settings, streams with their events, and weaves.
use Rattle.std.specs.Prelude.{ℕ, ◌+◌, ◌==◌, ◌&&◌, nat_le, Bool, true, false, not, codes, List, [], ◌∷◌, ◌++◌, Option, Some, None, is_none}
use Rattle.std.specs.Prelude.{Result, Ok, Err, slice_index, if◌then◌else◌}
use Rattle.std.specs.List.{list_all}
use Rattle.std.specs.Option.{option_and_then, option_map}
use Rattle.std.specs.Str.{bytes_eq, is_utf8}
use Rattle.std.specs.Str.Lines.{lines}
use Rattle.etm_types.specs.Settings.{Sizes}
use Rattle.line_words.specs.Line.{decimal_of, two_digits_of, words_in}
use Rattle.run_file.specs.EventLines.{event_of, in_range, need, only_number, only_word, then_ok}
use Rattle.run_file.specs.GivenSettings.{are_allowed, given_or, is_allowed, nothing_given, number_given, pairs_in, setting_named}
use Rattle.run_file.specs.GivenSettings.{sizes_of, stack_of, with_number}
use Rattle.run_file.specs.Parts.{BenchParts, BenchStream, has_stream}
use Rattle.run_file.specs.declared.fault.BenchWhy.{BenchWhy}
use Rattle.run_file.specs.declared.fault.BenchWhy.TheVariants.{Header, Syntax, IdRange, DuplicateId, Range}
use Rattle.run_file.specs.declared.given.Given.{Given}
use Rattle.run_file.specs.declared.line.BenchLine.{BenchLine}
use Rattle.run_file.specs.declared.line.Declaration.{Declaration}
use Rattle.run_file.specs.declared.line.LineKind.{LineKind}
use Rattle.run_file.specs.declared.line.LineKind.TheVariants as kind
use Rattle.run_file.specs.declared.line.Weave.{Weave}
use Rattle.run_file.specs.declared.setting.Setting.{Setting}
use Rattle.run_file.specs.declared.version.Version.{Version}
use Rattle.run_file.specs.declared.version.Version.TheVariants as version

-- ---- what the header and the lines behind it said so far

-- the settings are those of the file
pub record Draft : Type 0 where
  pub version : Version
  pub given : Given
  pub streams : List BenchStream
  pub weaves : List Weave

abbrev pub no_lines : Version → Draft
no_lines v = record { version = v; given = nothing_given; streams = []; weaves = [] }

abbrev pub is_empty : {X : Type 0} → List X → Bool
is_empty [] = true
is_empty (x ∷ xs) = false

-- settings come first, then streams with their events, then weaves
abbrev pub before_streams : Draft → Bool
before_streams d = is_empty d.streams && is_empty d.weaves

abbrev pub where_allowed : {A : Type 0} → Bool → Result A BenchWhy → Result A BenchWhy
where_allowed true result = result
where_allowed false result = Err Syntax

-- ---- settings, each at most once

abbrev pub add_setting : Setting → Draft → List (List ℕ) → Result Draft BenchWhy
add_setting s d words =
    where_allowed (before_streams d && is_none (number_given s d.given))
    (need (only_number words) (λ n. in_range (is_allowed d.version s n) (record d { given = with_number s n d.given })))

-- ---- streams and their events

-- an ID of a source
abbrev pub is_source : ℕ → Bool
is_source id = nat_le 1 id && nat_le id 111

-- the settings behind the ID of a stream: in version 1 there are none
abbrev pub own_of : Version → List (List ℕ) → Option Given
own_of version.One [] = Some nothing_given
own_of version.One (word ∷ words) = None
own_of version.Two words = pairs_in nothing_given words

abbrev pub declaration_of : Version → List (List ℕ) → Option Declaration
declaration_of v [] = None
declaration_of v (word ∷ words) = option_and_then (λ id. option_map (λ own. record { id = id; own = own }) (own_of v words)) (two_digits_of word)

-- a stream without events, of these settings
abbrev pub stream_of : ℕ → Given → BenchStream
stream_of id given = record { id = id; settings = sizes_of given; stack = stack_of given; lines = [] }

-- what the line does not give is the file's
abbrev pub declare : Draft → Declaration → Result Draft BenchWhy
declare d new =
    if not (is_source new.id) then Err IdRange
    else if has_stream new.id d.streams then Err DuplicateId
    else if not (are_allowed d.version new.own) then Err Range
    else Ok (record d { streams = d.streams ++ stream_of new.id (given_or new.own d.given) ∷ [] })

abbrev pub add_stream : Draft → List (List ℕ) → Result Draft BenchWhy
add_stream d words = where_allowed (is_empty d.weaves) (need (declaration_of d.version words) (declare d))

abbrev pub newest : List BenchStream → Option BenchStream
newest [] = None
newest (s ∷ []) = Some s
newest (s ∷ t ∷ streams) = newest (t ∷ streams)

-- a line at the end of the newest stream
abbrev pub with_line : BenchLine → List BenchStream → List BenchStream
with_line l [] = []
with_line l (s ∷ []) = record s { lines = s.lines ++ l ∷ [] } ∷ []
with_line l (s ∷ t ∷ streams) = s ∷ with_line l (t ∷ streams)

-- the sizes that an event line goes by, those of the newest stream: behind a weave there are none
abbrev pub event_sizes : Draft → Option Sizes
event_sizes d = if is_empty d.weaves then option_map (λ s. s.settings) (newest d.streams) else None

abbrev pub add_event : ℕ → Draft → List ℕ → List (List ℕ) → Result Draft BenchWhy
add_event number d word words =
    need (event_sizes d) (λ s. then_ok (event_of s word words) (λ e.
    Ok (record d { streams = with_line (record { line = number; event = e.event; times = e.times }) d.streams })))

-- ---- weaves

-- `ID:COUNT` (`:` is 58)
abbrev pub weave_of : List ℕ → Option Weave
weave_of (a ∷ b ∷ c ∷ digits) =
    if c == 58 then option_and_then (λ id. option_map (λ count. record { id = id; count = count }) (decimal_of digits)) (two_digits_of (a ∷ b ∷ []))
    else None
weave_of word = None

abbrev pub weaves_of : List (List ℕ) → Option (List Weave)
weaves_of [] = Some []
weaves_of (word ∷ words) = option_and_then (λ w. option_map (λ ws. w ∷ ws) (weaves_of words)) (weave_of word)

-- of all words of the line first the IDs, then the counts
abbrev pub weave : List BenchStream → List Weave → List Weave → Result (List Weave) BenchWhy
weave streams before ws =
    if not (list_all (λ w. has_stream w.id streams) ws) then Err IdRange
    else if not (list_all (λ w. nat_le 1 w.count && nat_le w.count 1048576) ws) then Err Range
    else Ok (before ++ ws)

abbrev pub add_weaves : Draft → List (List ℕ) → Result Draft BenchWhy
add_weaves d [] = Err Syntax
add_weaves d words = then_ok (need (weaves_of words) (weave d.streams d.weaves)) (λ ws. Ok (record d { weaves = ws }))

-- ---- lines

abbrev pub kind_by : List ℕ → Option Setting → LineKind
kind_by word (Some s) = kind.Setting s
kind_by word None =
    if bytes_eq word (codes "stream") then kind.Stream else if bytes_eq word (codes "weave") then kind.Weaves else kind.Event

-- what a line behind the header says: an event, where its first word is none of the others
abbrev pub kind_of : List ℕ → LineKind
kind_of word = kind_by word (setting_named word)

abbrev pub add_kind : LineKind → ℕ → Draft → List ℕ → List (List ℕ) → Result Draft BenchWhy
add_kind (kind.Setting s) number d word words = add_setting s d words
add_kind kind.Stream number d word words = add_stream d words
add_kind kind.Weaves number d word words = add_weaves d words
add_kind kind.Event number d word words = add_event number d word words

-- a line behind the header, by its number and words
abbrev pub add_words : ℕ → Draft → List ℕ → List (List ℕ) → Result Draft BenchWhy
add_words number d word words = add_kind (kind_of word) number d word words

-- the header is `etm 1` or `etm 2`
abbrev pub version_named : List ℕ → Option Version
version_named word =
    if bytes_eq word (codes "1") then Some version.One else if bytes_eq word (codes "2") then Some version.Two else None

abbrev pub version_in : List ℕ → List (List ℕ) → Option Version
version_in word words = if bytes_eq word (codes "etm") then option_and_then version_named (only_word words) else None

abbrev pub begun : Option Version → Result Draft BenchWhy
begun (Some v) = Ok (no_lines v)
begun None = Err Header

abbrev pub header : List ℕ → List (List ℕ) → Result Draft BenchWhy
header word words = begun (version_in word words)

-- the first line with words is the header
abbrev pub add_behind : ℕ → Option Draft → List ℕ → List (List ℕ) → Result Draft BenchWhy
add_behind number None word words = header word words
add_behind number (Some d) word words = add_words number d word words

-- A line without words, or whose first word begins with `#` (35), changes nothing.
abbrev pub add_any : ℕ → Option Draft → List (List ℕ) → Result (Option Draft) BenchWhy
add_any number draft [] = Ok draft
add_any number draft (word ∷ words) =
    if slice_index word 0 == 35 then Ok draft else then_ok (add_behind number draft word words) (λ d. Ok (Some d))

abbrev pub add_line : ℕ → Option Draft → List ℕ → Result (Option Draft) BenchWhy
add_line number draft line = if is_utf8 line then add_any number draft (words_in line) else Err Syntax

-- what numbered lines say; or the first line that has a fault, and its fault
abbrev pub then_lines : {A : Type 0} → ℕ → Result A BenchWhy → (A → Result A (ℕ × BenchWhy)) → Result A (ℕ × BenchWhy)
then_lines number (Ok draft) more = more draft
then_lines number (Err why) more = Err (number, why)

abbrev pub add_lines : ℕ → Option Draft → List (List ℕ) → Result (Option Draft) (ℕ × BenchWhy)
add_lines number draft [] = Ok draft
add_lines number draft (line ∷ lines) = then_lines number (add_line number draft line) (λ next. add_lines (number + 1) next lines)

abbrev pub parts_of : Draft → BenchParts
parts_of d = record { streams = d.streams; weaves = d.weaves }

abbrev pub finished : Result (Option Draft) (ℕ × BenchWhy) → Result BenchParts (ℕ × BenchWhy)
finished (Ok (Some d)) = Ok (parts_of d)
finished (Ok None) = Err (0, Header)
finished (Err fault) = Err fault

-- The parts of a run file by its text, or its first line that has a fault. Lines are those of the text of an image; they count from 1,
-- and line 0 stands for the whole text, where there is no header.
unfoldable pub parsed : List ℕ → Result BenchParts (ℕ × BenchWhy)
parsed text = finished (add_lines 1 None (lines text))
