use Rattle.std.proofs.Common.{◌≡◌, ◌+◌, [], length}
use Rattle.std.specs.List.{slice_split}
use Rattle.std.specs.Option.{option_map_or}
use Rattle.etm_types.specs.SettingsTable.{IsTable}
use Rattle.command_words.specs.Lists.{is_comma, listed_in, nothing_listed}
use Rattle.command_words.proofs.lists.listed_in.Given as goal

-- what the words that are left make of the settings so far, all words make of the first
abbrev pub invariant-words : goal.invariant-words
invariant-words l = record {
  same : listed_in (option_map_or (λ text. slice_split is_comma text.now) l.left []) l.listed
      ≡ listed_in (slice_split is_comma l.fn.list) (nothing_listed l.fn.others);
  table : IsTable l.listed.table;
}

abbrev pub decreases-words : goal.decreases-words
decreases-words l = option_map_or (λ text. length text.now + 1) l.left 0
