-- What contracts see of the words' types in the code.
use Rattle.std.specs.Prelude.{⊤, ◌≤◌, ℕ, Option, Some, None}
use Rattle.std.specs.Option.{option_map}
use Rattle.etm_types.specs.SettingsTable.{IsTable}
use Rattle.command_words.specs.Words.{Command, CommandRow, Counts, Intake, Path, Packets, Program, Retired, Seen, Selftest, Times, Trace}
use Rattle.command_words.specs.Words.{most_every, most_last, most_number, most_wrap, row}
use Rattle.command_words.specs.declared.words.Command.{Command as Told}
use Rattle.command_words.specs.declared.words.Command.TheVariants as told
use Rattle.command_words.specs.declared.words.CommandLine.{CommandLine}
use Rattle.command_words.specs.declared.words.Intake.{Intake as ToldIntake}
use Rattle.command_words.specs.declared.words.Layout.{Layout}
use Rattle.command_words.specs.declared.words.Layout.TheVariants.{Raw, Frames, Wrapped, Synced}
use Rattle.command_words.specs.declared.words.Program.{Program as ToldProgram}
use Rattle.command_words.specs.declared.words.Seen.{Seen as ToldSeen}

abbrev pub said_program : ToldProgram → Program
said_program program = record { name = program.name.now; form = program.form }

abbrev pub said_intake : ToldIntake → Intake
said_intake intake = record { units = intake.settings; layout = intake.layout }

abbrev pub said : Told → Command
said (told.Path program intake) = Path (said_program program) (said_intake intake)
said (told.Counts program intake) = Counts (said_program program) (said_intake intake)
said (told.Packets intake) = Packets (said_intake intake)
said (told.Times intake) = Times (said_intake intake)
said (told.Retired program) = Retired (said_program program)
said (told.Trace program last every) = Trace (said_program program) last every
said (told.Selftest n cut) = Selftest n cut

-- no more frames than the most stand before the oldest
abbrev pub IsLaidOut : Layout → Type 0
IsLaidOut Raw = ⊤
IsLaidOut Frames = ⊤
IsLaidOut (Wrapped k) = k ≤ most_wrap
IsLaidOut Synced = ⊤

-- the sizes are those of settings
pub record IsIntake (intake : ToldIntake) : Type 0 where
  pub settings : IsTable intake.settings
  pub layout : IsLaidOut intake.layout

-- at least one, and no more than the most
abbrev pub IsCountTo : ℕ → Option ℕ → Type 0
IsCountTo most None = ⊤
IsCountTo most (Some n) = (1 ≤ n) × (n ≤ most)

-- how its input is taken, where it has one, which frames it writes, and its number, are in range
abbrev pub IsInRange : Told → Type 0
IsInRange (told.Path program intake) = IsIntake intake
IsInRange (told.Counts program intake) = IsIntake intake
IsInRange (told.Packets intake) = IsIntake intake
IsInRange (told.Times intake) = IsIntake intake
IsInRange (told.Retired program) = ⊤
IsInRange (told.Trace program last every) = IsCountTo most_last last × IsCountTo most_every every
IsInRange (told.Selftest n cut) = n ≤ most_number

abbrev pub line_of : CommandLine → CommandRow
line_of line = row line.word.now line.name line.options.now line.has_positional

abbrev pub seen_by : ToldSeen → Seen
seen_by seen = record {
  raw = seen.raw;
  wrap = option_map (λ text. text.now) seen.wrap;
  sync = seen.sync;
  depth = option_map (λ text. text.now) seen.depth;
  vmid = option_map (λ text. text.now) seen.vmid;
  cid = option_map (λ text. text.now) seen.cid;
  settings = option_map (λ text. text.now) seen.settings;
  elf = seen.elf;
  count = seen.count;
  last = option_map (λ text. text.now) seen.last;
  every = option_map (λ text. text.now) seen.every;
  cut = option_map (λ text. text.now) seen.cut;
  positional = option_map (λ text. text.now) seen.positional;
  waits = seen.waits;
  ended = seen.ended;
}
