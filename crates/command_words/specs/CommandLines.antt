-- How the words of a command line stand in a row.
use Rattle.std.specs.Prelude.{◌≡◌, ◌≢◌, ℕ, ◌≤◌, Bool, true, false, List, [], ◌∷◌, ◌++◌, codes, Option, Some, None, All, length, if◌then◌else◌}
use Rattle.std.specs.List.{AllPairs, AllZip, join_with_byte, list_any}
use Rattle.std.specs.Str.{bytes_eq}
use Rattle.etm_types.specs.Id.{IsId}
use Rattle.etm_types.specs.Settings.{AreSettings, Sizes, default_sizes}
use Rattle.etm_types.specs.SettingsTable.{sizes_at}
use Rattle.line_words.specs.Line.{decimal_of, two_digits_of}
use Rattle.command_words.specs.Words.{Intake, Program, is_dashed, key_of, most_cut, most_every, most_last, most_number, most_wrap, name_of}
use Rattle.command_words.specs.Words.{packets_options, path_options, retired_options, selftest_options, takes_value, times_options, trace_options}
use Rattle.command_words.specs.declared.words.CommandOption.{CommandOption}
use Rattle.command_words.specs.declared.words.CommandOption.TheVariants as option
use Rattle.command_words.specs.declared.words.Layout.{Layout}
use Rattle.command_words.specs.declared.words.Layout.TheVariants.{Raw, Frames, Wrapped, Synced}
use Rattle.command_words.specs.declared.words.ProgramForm.{ProgramForm}
use Rattle.command_words.specs.declared.words.ProgramForm.TheVariants as form

-- ---- the pieces of a line

-- what stands behind a command: an option with its value in the next word, or in its own behind `=`, a flag, or the positional
pub data Piece : Type 0 where
  Apart : CommandOption → List ℕ → Piece
  Joined : CommandOption → List ℕ → Piece
  Flag : CommandOption → Piece
  Positional : List ℕ → Piece

abbrev pub word_of : CommandOption → List ℕ
word_of o = codes "--" ++ name_of o

-- its words
abbrev pub words_of : Piece → List (List ℕ)
words_of (Apart o value) = word_of o ∷ value ∷ []
words_of (Joined o value) = (word_of o ++ 61 ∷ value) ∷ []
words_of (Flag o) = word_of o ∷ []
words_of (Positional word) = word ∷ []

-- the words of pieces in a row, and those behind them
abbrev pub in_row : List Piece → List (List ℕ) → List (List ℕ)
in_row [] behind = behind
in_row (piece ∷ pieces) behind = words_of piece ++ in_row pieces behind

-- a flag has no value and another option has one, and neither a positional nor a value in the next word is dashed
abbrev pub IsPiece : Piece → Type 0
IsPiece (Apart o value) = (takes_value o ≡ true) × (is_dashed value ≡ false)
IsPiece (Joined o value) = takes_value o ≡ true
IsPiece (Flag o) = takes_value o ≡ false
IsPiece (Positional word) = is_dashed word ≡ false

-- nothing more, or `--` with positionals behind it
abbrev pub IsEnd : List (List ℕ) → List (List ℕ) → Type 0
IsEnd [] positionals = positionals ≡ []
IsEnd (word ∷ words) positionals = (word ≡ codes "--") × (words ≡ positionals)

-- ---- what the pieces say

abbrev pub is_same : CommandOption → CommandOption → Bool
is_same o p = bytes_eq (key_of o) (key_of p)

-- whether an option is one of these
abbrev pub has_option : List CommandOption → CommandOption → Bool
has_option options o = list_any (is_same o) options

-- the value is added where the options are the same
abbrev pub value_for : CommandOption → CommandOption → List ℕ → List (List ℕ) → List (List ℕ)
value_for o p value values = if is_same o p then value ∷ values else values

-- the values of an option, in their order, and of a flag an empty one for each time that it stands
abbrev pub values_of : CommandOption → List Piece → List (List ℕ)
values_of o [] = []
values_of o (Apart p value ∷ pieces) = value_for o p value (values_of o pieces)
values_of o (Joined p value ∷ pieces) = value_for o p value (values_of o pieces)
values_of o (Flag p ∷ pieces) = value_for o p [] (values_of o pieces)
values_of o (Positional word ∷ pieces) = values_of o pieces

-- the positionals, in their order
abbrev pub positionals_of : List Piece → List (List ℕ)
positionals_of [] = []
positionals_of (Apart p value ∷ pieces) = positionals_of pieces
positionals_of (Joined p value ∷ pieces) = positionals_of pieces
positionals_of (Flag p ∷ pieces) = positionals_of pieces
positionals_of (Positional word ∷ pieces) = word ∷ positionals_of pieces

-- By the values of `--raw`, `--wrap` and `--sync`: `--raw` once stands for one stream that is not framed, one number of `--wrap` for the frame
-- of a buffer that is its oldest, `--sync` once for frames among synchronisation packets, and the absence of all for frames in their order.
abbrev pub IsLayout : List (List ℕ) → List (List ℕ) → List (List ℕ) → Layout → Type 0
IsLayout [] [] [] layout = layout ≡ Frames
IsLayout (flag ∷ []) [] [] layout = layout ≡ Raw
IsLayout [] (value ∷ []) [] layout = (k : ℕ) × (decimal_of value ≡ Some k) × (k ≤ most_wrap) × (layout ≡ Wrapped k)
IsLayout [] [] (flag ∷ []) layout = layout ≡ Synced
IsLayout raws values syncs layout = ⊥

-- `--elf` once stands for an ELF file, and its absence for the text of an image
abbrev pub IsForm : List (List ℕ) → ProgramForm → Type 0
IsForm [] file = file ≡ form.Text
IsForm (flag ∷ []) file = file ≡ form.Elf
IsForm (flag ∷ other ∷ flags) file = ⊥

-- `--count` once stands for counts, and its absence for lines
abbrev pub IsCounted : List (List ℕ) → Bool → Type 0
IsCounted [] counted = counted ≡ false
IsCounted (flag ∷ []) counted = counted ≡ true
IsCounted (flag ∷ other ∷ flags) counted = ⊥

-- one value is a number, and the absence of one stands for the default
abbrev pub IsNumber : ℕ → List (List ℕ) → ℕ → Type 0
IsNumber default [] n = n ≡ default
IsNumber default (value ∷ []) n = decimal_of value ≡ Some n
IsNumber default (value ∷ other ∷ values) n = ⊥

-- one value is how many bytes are read, and its absence stands for all
abbrev pub IsCut : List (List ℕ) → Option ℕ → Type 0
IsCut [] cut = cut ≡ None
IsCut (value ∷ []) cut = (k : ℕ) × (decimal_of value ≡ Some k) × (k ≤ most_cut) × (cut ≡ Some k)
IsCut (value ∷ other ∷ values) cut = ⊥

-- one value is how many, at least one and no more than the most, and its absence stands for none
abbrev pub IsCount : ℕ → List (List ℕ) → Option ℕ → Type 0
IsCount most [] count = count ≡ None
IsCount most (value ∷ []) count = (n : ℕ) × (decimal_of value ≡ Some n) × (1 ≤ n) × (n ≤ most) × (count ≡ Some n)
IsCount most (value ∷ other ∷ values) count = ⊥

-- ---- the settings of single IDs

-- a word of a list: an ID of two hex digits, a depth, and the sizes of a VMID and of a context ID, joined by colons
pub record IsNamed (word : List ℕ) (id : ℕ) (sizes : Sizes) : Type 0 where
  pub digits : List ℕ
  pub depth : List ℕ
  pub vmid : List ℕ
  pub cid : List ℕ
  pub row : word ≡ join_with_byte 58 (digits ∷ depth ∷ vmid ∷ cid ∷ [])
  pub digits_are : two_digits_of digits ≡ Some id
  pub is_id : IsId id
  pub depth_is : decimal_of depth ≡ Some sizes.depth
  pub vmid_is : decimal_of vmid ≡ Some sizes.vmid_bytes
  pub cid_is : decimal_of cid ≡ Some sizes.cid_bytes
  pub within : AreSettings sizes

-- each word names an ID, with its sizes
abbrev pub AreNamed : List (List ℕ) → List (ℕ × Sizes) → Type 0
AreNamed words ones = AllZip (λ word one. IsNamed word one.0 one.1) words ones

-- no ID twice
abbrev pub AreApart : List (ℕ × Sizes) → Type 0
AreApart ones = AllPairs (λ one other. one.0 ≢ other.0) ones

-- one or more words, joined by commas, that name these IDs, each once
pub record IsList (text : List ℕ) (ones : List (ℕ × Sizes)) : Type 0 where
  pub words : List (List ℕ)
  pub row : text ≡ join_with_byte 44 words
  pub some : words ≢ []
  pub words_are : AreNamed words ones
  pub apart : AreApart ones

-- the sizes of all IDs: each that is named has its own, and the others have the same
pub record AreUnits (all : Sizes) (ones : List (ℕ × Sizes)) (units : List Sizes) : Type 0 where
  pub ids : length units ≡ 111
  pub named : All (λ one. sizes_at units one.0 ≡ one.1) ones
  pub others : (id : ℕ) → IsId id → All (λ one. one.0 ≢ id) ones → sizes_at units id ≡ all

-- one list names IDs, and the absence of a list names none
abbrev pub IsUnits : List (List ℕ) → Sizes → List Sizes → Type 0
IsUnits [] all units = AreUnits all [] units
IsUnits (list ∷ []) all units = (ones : List (ℕ × Sizes)) × IsList list ones × AreUnits all ones units
IsUnits (list ∷ other ∷ lists) all units = ⊥

-- ---- lines

-- the words of a command: its own, pieces in any order, whose options are among these, and an end, with these positionals among them
pub record IsLine (word : List ℕ) (options : List CommandOption) (words positionals : List (List ℕ)) : Type 0 where
  pub pieces : List Piece
  pub ended : List (List ℕ)
  pub behind : List (List ℕ)
  pub row : words ≡ word ∷ in_row pieces ended
  pub are_pieces : All IsPiece pieces
  pub end_is : IsEnd ended behind
  pub positionals_are : positionals_of pieces ++ behind ≡ positionals
  pub only : (o : CommandOption) → has_option options o ≡ false → values_of o pieces ≡ []

-- how an input is taken by what the pieces say: its layout, and the sizes of all IDs, with numbers in range
pub record IsTakenBy (pieces : List Piece) (intake : Intake) : Type 0 where
  pub layout_is : IsLayout (values_of option.Raw pieces) (values_of option.Wrap pieces) (values_of option.Sync pieces) intake.layout
  pub all : Sizes
  pub depth_is : IsNumber default_sizes.depth (values_of option.Depth pieces) all.depth
  pub vmid_is : IsNumber default_sizes.vmid_bytes (values_of option.Vmid pieces) all.vmid_bytes
  pub cid_is : IsNumber default_sizes.cid_bytes (values_of option.Cid pieces) all.cid_bytes
  pub within : AreSettings all
  pub units_are : IsUnits (values_of option.Settings pieces) all intake.units

-- `path`, with one positional, and whether its paths are counted
pub record IsWalkLine (words : List (List ℕ)) (program : Program) (intake : Intake) (counted : Bool) : Type 0 where
  pub line : IsLine (codes "path") path_options words (program.name ∷ [])
  pub form_is : IsForm (values_of option.Elf line.pieces) program.form
  pub counted_is : IsCounted (values_of option.Count line.pieces) counted
  pub taken : IsTakenBy line.pieces intake

-- `path` without `--count`
abbrev pub IsPathLine : List (List ℕ) → Program → Intake → Type 0
IsPathLine words program intake = IsWalkLine words program intake false

-- `path` with `--count`
abbrev pub IsCountsLine : List (List ℕ) → Program → Intake → Type 0
IsCountsLine words program intake = IsWalkLine words program intake true

-- `packets`, with no positional; no packet depends on the depth, which is the default, or for an ID of LIST its own
pub record IsPacketsLine (words : List (List ℕ)) (intake : Intake) : Type 0 where
  pub line : IsLine (codes "packets") packets_options words []
  pub taken : IsTakenBy line.pieces intake

-- `times`, with no positional
pub record IsTimesLine (words : List (List ℕ)) (intake : Intake) : Type 0 where
  pub line : IsLine (codes "times") times_options words []
  pub taken : IsTakenBy line.pieces intake

-- `retired`, with one positional
pub record IsRetiredLine (words : List (List ℕ)) (program : Program) : Type 0 where
  pub line : IsLine (codes "retired") retired_options words (program.name ∷ [])
  pub form_is : IsForm (values_of option.Elf line.pieces) program.form

-- `trace`, with how many frames are written, and from one synchronisation packet to the next, and one positional
pub record IsTraceLine (words : List (List ℕ)) (program : Program) (last every : Option ℕ) : Type 0 where
  pub line : IsLine (codes "trace") trace_options words (program.name ∷ [])
  pub form_is : IsForm (values_of option.Elf line.pieces) program.form
  pub last_is : IsCount most_last (values_of option.Last line.pieces) last
  pub every_is : IsCount most_every (values_of option.SyncEvery line.pieces) every

-- `selftest`, with a number in range as its positional, and how many bytes are read
pub record IsSelftestLine (words : List (List ℕ)) (n : ℕ) (cut : Option ℕ) : Type 0 where
  pub number : List ℕ
  pub line : IsLine (codes "selftest") selftest_options words (number ∷ [])
  pub number_is : decimal_of number ≡ Some n
  pub number_within : n ≤ most_number
  pub cut_is : IsCut (values_of option.Cut line.pieces) cut
