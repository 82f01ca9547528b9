-- The commands and their options as clap is told of them, and what its matches say.
use Rattle.std.specs.Prelude.{Bool, true, false, List, [], ◌∷◌, map, codes, Option, Some, None, if◌then◌else◌}
use Rattle.std.specs.Option.{option_and_then, option_map_or}
use Rattle.std.specs.Prelude.{find}
use Rattle.std.specs.Str.{bytes_eq}
use Rattle.clap.specs.Words.{App, Row, Rule, Shape, Text, first_of, new_app, new_rule, with_rule}
use Rattle.clap.specs.declared.builder.ArgAction.TheVariants.{Set, SetTrue}
use Rattle.command_words.specs.Words.{Command, CommandRow, Seen, command_in, commands, key_of, name_of, takes_value}
use Rattle.command_words.specs.declared.words.CommandOption.{CommandOption}

-- an option, by its long name
abbrev pub rule_for : CommandOption → Rule
rule_for o = record (new_rule (key_of o)) { long = Some (name_of o); action = Some (if takes_value o then Set else SetTrue) }

-- the positional, which is required
abbrev pub positional_rule : Rule
positional_rule = record (new_rule (codes "POSITIONAL")) { action = Some Set; required = true }

-- a command with options
abbrev pub options_app : Text → List CommandOption → App
options_app word options = let app = new_app word in record app { top = record app.top { rules = map rule_for options } }

-- a command of the table, which is a subcommand
abbrev pub command_app : CommandRow → App
command_app row = let app = options_app row.word row.options in if row.has_positional then with_rule app positional_rule else app

-- there are no words for help and version, and a subcommand is required
abbrev pub bare : Shape → Shape
bare s =
    record s { no_binary_name = true; disable_help_flag = true; disable_help_subcommand = true; disable_version_flag = true; subcommand_required = true }

abbrev pub top_app : App
top_app = let app = new_app (codes "etm") in record app { top = bare app.top }

-- the commands below the top
abbrev pub commands_app : List CommandRow → App
commands_app [] = top_app
commands_app (row ∷ rows) = record { top = record top_app.top { is_leaf = false }; subs = map (λ row. (command_app row).top) (row ∷ rows) }

abbrev pub etm : App
etm = commands_app commands

-- ---- what the matches of a subcommand say

abbrev pub is_true_text : Option Text → Bool
is_true_text text = option_map_or (λ t. bytes_eq t (codes "true")) text false

abbrev pub seen_in : List Row → Seen
seen_in rows = record {
  raw = is_true_text (first_of (codes "raw") rows);
  wrap = first_of (codes "wrap") rows;
  sync = is_true_text (first_of (codes "sync") rows);
  depth = first_of (codes "depth") rows;
  vmid = first_of (codes "vmid") rows;
  cid = first_of (codes "cid") rows;
  settings = first_of (codes "settings") rows;
  elf = is_true_text (first_of (codes "elf") rows);
  count = is_true_text (first_of (codes "count") rows);
  last = first_of (codes "last") rows;
  every = first_of (codes "sync-every") rows;
  cut = first_of (codes "cut") rows;
  positional = first_of (codes "POSITIONAL") rows;
  waits = None;
  ended = false;
}

abbrev pub command_by : Text × List Row → Option Command
command_by sub = option_and_then (λ row. command_in row.name (seen_in sub.1)) (find (λ row. bytes_eq sub.0 row.word) commands)
