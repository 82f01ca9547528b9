-- What the words of the command line mean.
use Rattle.std.specs.Prelude.{ℕ, ◌^◌, ◌==◌, ◌&&◌, ◌||◌, nat_le, Bool, true, false, not, List, [], ◌∷◌, codes, Option, Some, None, is_some}
use Rattle.std.specs.Prelude.{if◌then◌else◌, String, map, string_bytes, find}
use Rattle.std.specs.List.{before_first, after_first, list_any}
use Rattle.std.specs.Option.{option_map, option_and_then, option_map_or}
use Rattle.std.specs.Str.{bytes_eq}
use Rattle.etm_types.specs.Settings.{Sizes, default_sizes}
use Rattle.line_words.specs.Line.{decimal_of}
use Rattle.command_words.specs.Lists.{sizes_of, units_by}
use Rattle.command_words.specs.declared.words.CommandName.{CommandName}
use Rattle.command_words.specs.declared.words.CommandName.TheVariants as name
use Rattle.command_words.specs.declared.words.CommandOption.{CommandOption}
use Rattle.command_words.specs.declared.words.CommandOption.TheVariants as option
use Rattle.command_words.specs.declared.words.Layout.{Layout}
use Rattle.command_words.specs.declared.words.Layout.TheVariants.{Raw, Frames, Wrapped, Synced}
use Rattle.command_words.specs.declared.words.ProgramForm.{ProgramForm}
use Rattle.command_words.specs.declared.words.ProgramForm.TheVariants as form

-- the bytes of each word
abbrev pub texts : {Z : Type 0} → List (String Z) → List (List ℕ)
texts words = map (λ word. string_bytes word) words

-- the program that ran: the name of its file, and whether that is the text of an image or an ELF file
pub record Program : Type 0 where
  pub name : List ℕ
  pub form : ProgramForm

-- how an input is taken: the sizes of the trace unit of each ID, and how it is laid out
pub record Intake : Type 0 where
  pub units : List Sizes
  pub layout : Layout

-- a command, with what its words say
pub data Command : Type 0 where
  -- the path of each stream
  Path : Program → Intake → Command
  -- how often each instruction and each other item stands in the paths of all streams
  Counts : Program → Intake → Command
  -- the packets of each stream
  Packets : Intake → Command
  -- the times of the P0 elements of each stream
  Times : Intake → Command
  -- the retired path of each stream of a run file
  Retired : Program → Command
  -- the trace of each stream of a run file, in frames: how many of the last, where not all are; and how many stand from one synchronisation
  -- packet to the next, where there are such
  Trace : Program → Option ℕ → Option ℕ → Command
  -- both ends tried on the run file of a number: the number, and how many bytes of its frames are read, where not all are
  Selftest : ℕ → Option ℕ → Command

-- the program whose image a command reads, where it reads one
abbrev pub program_of : Command → Option Program
program_of (Path program intake) = Some program
program_of (Counts program intake) = Some program
program_of (Packets intake) = None
program_of (Times intake) = None
program_of (Retired program) = Some program
program_of (Trace program last every) = Some program
program_of (Selftest n cut) = None

-- what a command reads
pub data Kind : Type 0 where
  NoCommand : Kind
  -- an input over an image
  PathKind : Kind
  -- an input without an image
  BareKind : Kind
  -- a run file over an image
  RunFileKind : Kind
  -- nothing but a number
  NumberKind : Kind

abbrev pub kind_of : Option Command → Kind
kind_of None = NoCommand
kind_of (Some (Path program intake)) = PathKind
kind_of (Some (Counts program intake)) = PathKind
kind_of (Some (Packets intake)) = BareKind
kind_of (Some (Times intake)) = BareKind
kind_of (Some (Retired program)) = RunFileKind
kind_of (Some (Trace program last every)) = RunFileKind
kind_of (Some (Selftest n cut)) = NumberKind

-- ---- the commands and their options

-- the name of an option, which stands behind `--` in its word
abbrev pub name_of : CommandOption → List ℕ
name_of option.Raw = codes "raw"
name_of option.Wrap = codes "wrap"
name_of option.Sync = codes "sync"
name_of option.Depth = codes "depth"
name_of option.Vmid = codes "vmid"
name_of option.Cid = codes "cid"
name_of option.Settings = codes "settings"
name_of option.Elf = codes "elf"
name_of option.Count = codes "count"
name_of option.Last = codes "last"
name_of option.SyncEvery = codes "sync"
name_of option.Cut = codes "cut"

-- What an option is known by: its name. But `--sync` is a flag of one command and takes a value in another, and these are two options.
abbrev pub key_of : CommandOption → List ℕ
key_of option.SyncEvery = codes "sync-every"
key_of o = name_of o

-- an option takes a value, and a flag none
abbrev pub takes_value : CommandOption → Bool
takes_value option.Raw = false
takes_value option.Wrap = true
takes_value option.Sync = false
takes_value option.Depth = true
takes_value option.Vmid = true
takes_value option.Cid = true
takes_value option.Settings = true
takes_value option.Elf = false
takes_value option.Count = false
takes_value option.Last = true
takes_value option.SyncEvery = true
takes_value option.Cut = true

-- a command: its word, its options, and whether it has a positional: an IMAGE, or a number
pub record CommandRow : Type 0 where
  pub word : List ℕ
  pub name : CommandName
  pub options : List CommandOption
  pub has_positional : Bool

abbrev pub row : List ℕ → CommandName → List CommandOption → Bool → CommandRow
row word name options has_positional = record { word = word; name = name; options = options; has_positional = has_positional }

-- the options of each command; no packet depends on the depth, nor on an image
abbrev pub path_options : List CommandOption
path_options =
    option.Raw ∷ option.Wrap ∷ option.Sync ∷ option.Depth ∷ option.Vmid ∷ option.Cid ∷ option.Settings ∷ option.Elf ∷ option.Count ∷ []

abbrev pub packets_options : List CommandOption
packets_options = option.Raw ∷ option.Wrap ∷ option.Sync ∷ option.Vmid ∷ option.Cid ∷ option.Settings ∷ []

abbrev pub times_options : List CommandOption
times_options = option.Raw ∷ option.Depth ∷ option.Vmid ∷ option.Cid ∷ option.Settings ∷ []

abbrev pub retired_options : List CommandOption
retired_options = option.Elf ∷ []

abbrev pub trace_options : List CommandOption
trace_options = option.Last ∷ option.SyncEvery ∷ option.Elf ∷ []

abbrev pub selftest_options : List CommandOption
selftest_options = option.Cut ∷ []

-- the table of commands
abbrev pub commands : List CommandRow
commands =
    row (codes "path") name.Path path_options true
    ∷ row (codes "packets") name.Packets packets_options false
    ∷ row (codes "times") name.Times times_options false
    ∷ row (codes "retired") name.Retired retired_options true
    ∷ row (codes "trace") name.Trace trace_options true
    ∷ row (codes "selftest") name.Selftest selftest_options true
    ∷ []

-- ---- a word

-- a word that begins with `-` and is longer; it is no positional, and no option's value
abbrev pub is_dashed : List ℕ → Bool
is_dashed [] = false
is_dashed (a ∷ []) = false
is_dashed (a ∷ b ∷ rest) = a == 45

-- what stands behind a first `-`
abbrev pub behind_dash : List ℕ → Option (List ℕ)
behind_dash [] = None
behind_dash (byte ∷ rest) = if byte == 45 then Some rest else None

abbrev pub is_equals : ℕ → Bool
is_equals byte = byte == 61

-- NAME or NAME=VALUE: the name, and the value where `=` stands
abbrev pub name_and_value : List ℕ → List ℕ × Option (List ℕ)
name_and_value text = (before_first is_equals text, if list_any is_equals text then Some (after_first is_equals text) else None)

-- ---- the walk over the words behind a command

-- what was seen so far: the flags, the values of the options and the positional
pub record Seen : Type 0 where
  pub raw : Bool
  pub wrap : Option (List ℕ)
  pub sync : Bool
  pub depth : Option (List ℕ)
  pub vmid : Option (List ℕ)
  pub cid : Option (List ℕ)
  pub settings : Option (List ℕ)
  pub elf : Bool
  pub count : Bool
  pub last : Option (List ℕ)
  pub every : Option (List ℕ)
  pub cut : Option (List ℕ)
  pub positional : Option (List ℕ)
  -- the option that takes the next word
  pub waits : Option CommandOption
  -- whether `--` stood
  pub ended : Bool

abbrev pub nothing_seen : Seen
nothing_seen = record {
  raw = false;
  wrap = None;
  sync = false;
  depth = None;
  vmid = None;
  cid = None;
  settings = None;
  elf = false;
  count = false;
  last = None;
  every = None;
  cut = None;
  positional = None;
  waits = None;
  ended = false;
}

abbrev pub is_seen : CommandOption → Seen → Bool
is_seen option.Raw seen = seen.raw
is_seen option.Wrap seen = is_some seen.wrap
is_seen option.Sync seen = seen.sync
is_seen option.Depth seen = is_some seen.depth
is_seen option.Vmid seen = is_some seen.vmid
is_seen option.Cid seen = is_some seen.cid
is_seen option.Settings seen = is_some seen.settings
is_seen option.Elf seen = seen.elf
is_seen option.Count seen = seen.count
is_seen option.Last seen = is_some seen.last
is_seen option.SyncEvery seen = is_some seen.every
is_seen option.Cut seen = is_some seen.cut

-- an option is seen, with its value, of which a flag has none
abbrev pub with_value : CommandOption → List ℕ → Seen → Seen
with_value option.Raw value seen = record seen { raw = true; waits = None }
with_value option.Wrap value seen = record seen { wrap = Some value; waits = None }
with_value option.Sync value seen = record seen { sync = true; waits = None }
with_value option.Depth value seen = record seen { depth = Some value; waits = None }
with_value option.Vmid value seen = record seen { vmid = Some value; waits = None }
with_value option.Cid value seen = record seen { cid = Some value; waits = None }
with_value option.Settings value seen = record seen { settings = Some value; waits = None }
with_value option.Elf value seen = record seen { elf = true; waits = None }
with_value option.Count value seen = record seen { count = true; waits = None }
with_value option.Last value seen = record seen { last = Some value; waits = None }
with_value option.SyncEvery value seen = record seen { every = Some value; waits = None }
with_value option.Cut value seen = record seen { cut = Some value; waits = None }

-- the word is the positional, which stands once
abbrev pub with_positional : CommandRow → List ℕ → Seen → Option Seen
with_positional row word seen = if row.has_positional && not (is_some seen.positional) then Some (record seen { positional = Some word }) else None

-- an option stands once: with the value of its own word, or it takes the next word; a flag has no value
abbrev pub with_option : CommandOption → Option (List ℕ) → Seen → Option Seen
with_option o (Some value) seen = if is_seen o seen || not (takes_value o) then None else Some (with_value o value seen)
with_option o None seen =
    if is_seen o seen then None else if takes_value o then Some (record seen { waits = Some o }) else Some (with_value o [] seen)

-- `--NAME` or `--NAME=VALUE`, with the text behind `--`, is an option of the command
abbrev pub with_named : CommandRow → List ℕ → Seen → Option Seen
with_named row text seen =
    option_and_then (λ o. with_option o (name_and_value text).1 seen) (find (λ o. bytes_eq (name_and_value text).0 (name_of o)) row.options)

-- `--` ends the options, and another dashed word is an option
abbrev pub with_dashed : CommandRow → List ℕ → Seen → Option Seen
with_dashed row word seen =
    if bytes_eq word (codes "--") then Some (record seen { ended = true })
    else option_and_then (λ text. with_named row text seen) (option_and_then behind_dash (behind_dash word))

-- one more word
abbrev pub with_word : CommandRow → List ℕ → Seen → Option Seen
with_word row word seen =
    if not seen.ended && is_dashed word then (if is_some seen.waits then None else with_dashed row word seen)
    else option_map_or (λ o. Some (with_value o word seen)) seen.waits (with_positional row word seen)

-- nothing is missing: no option lacks its value, and the positional is there where the command has one
abbrev pub is_whole : CommandRow → Seen → Bool
is_whole row seen = not (is_some seen.waits) && (is_some seen.positional || not row.has_positional)

-- what is seen of all the words
abbrev pub seen_of : CommandRow → Seen → List (List ℕ) → Option Seen
seen_of row seen [] = if is_whole row seen then Some seen else None
seen_of row seen (word ∷ words) = option_and_then (λ next. seen_of row next words) (with_word row word seen)

-- ---- the meaning

-- the number of a value's text, or the default where there is no value
abbrev pub number_of : ℕ → Option (List ℕ) → Option ℕ
number_of default None = Some default
number_of default (Some value) = decimal_of value

abbrev pub sizes_in : Seen → Option Sizes
sizes_in seen =
    option_and_then (λ depth. option_and_then (λ vmid. option_and_then (λ cid. sizes_of depth vmid cid)
    (number_of default_sizes.cid_bytes seen.cid)) (number_of default_sizes.vmid_bytes seen.vmid)) (number_of default_sizes.depth seen.depth)

-- the sizes of all IDs, where a list is one and the sizes are in range
abbrev pub units_in : Seen → Option (List Sizes)
units_in seen = option_and_then (λ all. units_by seen.settings all) (sizes_in seen)

-- the number of a text, where it is no more than the most
abbrev pub number_to : ℕ → List ℕ → Option ℕ
number_to most text = option_and_then (λ n. if nat_le n most then Some n else None) (decimal_of text)

-- the most frames of a buffer that stand before its oldest
abbrev pub most_wrap : ℕ
most_wrap = 65536

-- one stream where `--raw` stood, frames from the oldest on where `--wrap` did, frames among synchronisation packets where `--sync` did, and
-- frames in their order where none did; there is no layout where two did
abbrev pub layout_by : Bool → Option (List ℕ) → Bool → Option Layout
layout_by false None false = Some Frames
layout_by true None false = Some Raw
layout_by false (Some text) false = option_map Wrapped (number_to most_wrap text)
layout_by false None true = Some Synced
layout_by true (Some text) sync = None
layout_by true None true = None
layout_by false (Some text) true = None

abbrev pub layout_in : Seen → Option Layout
layout_in seen = layout_by seen.raw seen.wrap seen.sync

-- the file is an ELF file where `--elf` stood
abbrev pub form_by : Bool → ProgramForm
form_by elf = if elf then form.Elf else form.Text

-- the positional names the file of the program
abbrev pub program_in : Seen → Option Program
program_in seen = option_map (λ file. record { name = file; form = form_by seen.elf }) seen.positional

-- how the input is taken, where the sizes are in range and there is a layout
abbrev pub intake_in : Seen → Option Intake
intake_in seen = option_and_then (λ units. option_map (λ layout. record { units = units; layout = layout }) (layout_in seen)) (units_in seen)

-- the most frames that `--last` leaves
abbrev pub most_last : ℕ
most_last = 65536

-- the most frames between two synchronisation packets that `--sync` writes
abbrev pub most_every : ℕ
most_every = 65535

-- how many an option says, where it stands: there is no answer where that is no number up to the most, or 0
abbrev pub count_of : ℕ → Option (List ℕ) → Option (Option ℕ)
count_of most None = Some None
count_of most (Some text) = option_and_then (λ n. if n == 0 then None else Some (Some n)) (number_to most text)

abbrev pub trace_in : Seen → Option Command
trace_in seen =
    option_and_then (λ program. option_and_then (λ last. option_map (Trace program last) (count_of most_every seen.every))
    (count_of most_last seen.last)) (program_in seen)

-- the highest number that is tried
abbrev pub most_number : ℕ
most_number = 99999

-- the most bytes that are read of frames
abbrev pub most_cut : ℕ
most_cut = 2 ^ 30

-- how many bytes are read, where `--cut` stands: none where that is no such number
abbrev pub cut_of : Option (List ℕ) → Option (Option ℕ)
cut_of None = Some None
cut_of (Some text) = option_map Some (number_to most_cut text)

abbrev pub selftest_in : Seen → Option Command
selftest_in seen = option_and_then (λ word. option_and_then (λ n. option_map (Selftest n) (cut_of seen.cut)) (number_to most_number word)) seen.positional

-- the counts of the paths where `--count` stood, and the paths where it did not
abbrev pub path_by : Bool → Program → Intake → Command
path_by count program intake = if count then Counts program intake else Path program intake

abbrev pub command_in : CommandName → Seen → Option Command
command_in name.Path seen = option_and_then (λ program. option_map (path_by seen.count program) (intake_in seen)) (program_in seen)
command_in name.Packets seen = option_map Packets (intake_in seen)
command_in name.Times seen = option_map Times (intake_in seen)
command_in name.Retired seen = option_map Retired (program_in seen)
command_in name.Trace seen = trace_in seen
command_in name.Selftest seen = selftest_in seen

-- The first word is a command, and the others are its options and its positional, in any order.
abbrev pub meaning : List (List ℕ) → Option Command
meaning [] = None
meaning (word ∷ words) =
    option_and_then (λ row. option_and_then (command_in row.name) (seen_of row nothing_seen words)) (find (λ row. bytes_eq word row.word) commands)

-- the name of the image, where the command reads one
abbrev pub image_of : Option Command → Option (List ℕ)
image_of command = option_map (λ program. program.name) (option_and_then program_of command)
