-- What each option and word leaves of what was seen: of words in which everything stood, and of none. The tables of options and commands, written out.
use Rattle.std.proofs.Common.{◌≡◌, ℕ, Bool, true, false, List, [], ◌∷◌, codes, map, Some, None, refl}
use Rattle.command_words.specs.Words.{CommandRow, Seen, commands, is_dashed, is_seen, key_of, name_of, nothing_seen, packets_options, path_options}
use Rattle.command_words.specs.Words.{retired_options, selftest_options, takes_value, times_options, trace_options, with_dashed, with_option}
use Rattle.command_words.specs.Words.{with_positional, with_value, with_word}
use Rattle.command_words.specs.declared.words.CommandName.TheVariants as name
use Rattle.command_words.specs.declared.words.CommandOption.{CommandOption}
use Rattle.command_words.specs.declared.words.CommandOption.TheVariants as option

-- ---- the tables

abbrev options : List CommandOption
options =
    option.Raw ∷ option.Wrap ∷ option.Sync ∷ option.Depth ∷ option.Vmid ∷ option.Cid ∷ option.Settings ∷ option.Elf ∷ option.Count ∷ option.Last
    ∷ option.SyncEvery ∷ option.Cut ∷ []

pub names :
    map name_of options
    ≡ codes "raw" ∷ codes "wrap" ∷ codes "sync" ∷ codes "depth" ∷ codes "vmid" ∷ codes "cid" ∷ codes "settings" ∷ codes "elf" ∷ codes "count"
    ∷ codes "last" ∷ codes "sync" ∷ codes "cut" ∷ []
names = refl

pub keys :
    map key_of options
    ≡ codes "raw" ∷ codes "wrap" ∷ codes "sync" ∷ codes "depth" ∷ codes "vmid" ∷ codes "cid" ∷ codes "settings" ∷ codes "elf" ∷ codes "count"
    ∷ codes "last" ∷ codes "sync-every" ∷ codes "cut" ∷ []
keys = refl

-- the flags are `--raw`, `--sync` of an input, `--elf` and `--count`
pub flags : map takes_value options ≡ false ∷ true ∷ false ∷ true ∷ true ∷ true ∷ true ∷ false ∷ false ∷ true ∷ true ∷ true ∷ []
flags = refl

pub options_of_each :
    path_options ∷ packets_options ∷ times_options ∷ retired_options ∷ trace_options ∷ selftest_options ∷ []
    ≡ (
    option.Raw ∷ option.Wrap ∷ option.Sync ∷ option.Depth ∷ option.Vmid ∷ option.Cid ∷ option.Settings ∷ option.Elf ∷ option.Count ∷ []
    )
    ∷ (option.Raw ∷ option.Wrap ∷ option.Sync ∷ option.Vmid ∷ option.Cid ∷ option.Settings ∷ [])
    ∷ (option.Raw ∷ option.Depth ∷ option.Vmid ∷ option.Cid ∷ option.Settings ∷ [])
    ∷ (option.Elf ∷ []) ∷ (option.Last ∷ option.SyncEvery ∷ option.Elf ∷ []) ∷ (option.Cut ∷ []) ∷ []
options_of_each = refl

abbrev words_of_commands : List (List ℕ)
words_of_commands = map (λ (c : CommandRow). c.word) commands

pub words_in_order :
    words_of_commands ≡ codes "path" ∷ codes "packets" ∷ codes "times" ∷ codes "retired" ∷ codes "trace" ∷ codes "selftest" ∷ []
words_in_order = refl

pub names_in_order : map (λ (c : CommandRow). c.name) commands ≡ name.Path ∷ name.Packets ∷ name.Times ∷ name.Retired ∷ name.Trace ∷ name.Selftest ∷ []
names_in_order = refl

pub with_a_positional : map (λ (c : CommandRow). c.has_positional) commands ≡ true ∷ false ∷ false ∷ true ∷ true ∷ true ∷ []
with_a_positional = refl

-- ---- all that can be seen, and nothing

abbrev loud : Seen
loud = record {
  raw = true;
  wrap = Some (codes "1");
  sync = true;
  depth = Some (codes "2");
  vmid = Some (codes "3");
  cid = Some (codes "4");
  settings = Some (codes "5");
  elf = true;
  count = true;
  last = Some (codes "6");
  every = Some (codes "7");
  cut = Some (codes "8");
  positional = Some (codes "img");
  waits = Some option.Depth;
  ended = true;
}

abbrev quiet : Seen
quiet = record {
  raw = false;
  wrap = None;
  sync = false;
  depth = None;
  vmid = None;
  cid = None;
  settings = None;
  elf = false;
  count = false;
  last = None;
  every = None;
  cut = None;
  positional = None;
  waits = None;
  ended = false;
}

pub nothing : nothing_seen ≡ quiet
nothing = refl

-- every other option, from the first one on
abbrev half : Seen
half = record quiet { raw = true; sync = true; vmid = Some (codes "3"); settings = Some (codes "5"); count = true; every = Some (codes "7") }

pub seen_of_half : map (λ o. is_seen o half) options ≡ true ∷ false ∷ true ∷ false ∷ true ∷ false ∷ true ∷ false ∷ true ∷ false ∷ true ∷ false ∷ []
seen_of_half = refl

-- ---- an option with its value: it alone changes, and no option waits any more

pub each_of_all :
    map (λ o. with_value o (codes "9") loud) options
    ≡ record loud { raw = true; waits = None } ∷ record loud { wrap = Some (codes "9"); waits = None } ∷ record loud { sync = true; waits = None }
    ∷ record loud { depth = Some (codes "9"); waits = None } ∷ record loud { vmid = Some (codes "9"); waits = None }
    ∷ record loud { cid = Some (codes "9"); waits = None } ∷ record loud { settings = Some (codes "9"); waits = None }
    ∷ record loud { elf = true; waits = None } ∷ record loud { count = true; waits = None } ∷ record loud { last = Some (codes "9"); waits = None }
    ∷ record loud { every = Some (codes "9"); waits = None } ∷ record loud { cut = Some (codes "9"); waits = None } ∷ []
each_of_all = refl

pub each_of_nothing :
    map (λ o. with_value o (codes "9") quiet) options
    ≡ record quiet { raw = true } ∷ record quiet { wrap = Some (codes "9") } ∷ record quiet { sync = true } ∷ record quiet { depth = Some (codes "9") }
    ∷ record quiet { vmid = Some (codes "9") } ∷ record quiet { cid = Some (codes "9") } ∷ record quiet { settings = Some (codes "9") }
    ∷ record quiet { elf = true } ∷ record quiet { count = true } ∷ record quiet { last = Some (codes "9") } ∷ record quiet { every = Some (codes "9") }
    ∷ record quiet { cut = Some (codes "9") } ∷ []
each_of_nothing = refl

-- an option that was seen stands no second time; a flag has no value, and an option waits for its own
pub named_alone :
    with_option option.Depth None quiet ∷ with_option option.Depth None (record loud { depth = None }) ∷ with_option option.Depth None loud
    ∷ with_option option.Elf None quiet ∷ with_option option.Elf None (record loud { elf = false }) ∷ with_option option.Elf None loud ∷ []
    ≡ Some (record quiet { waits = Some option.Depth }) ∷ Some (record loud { depth = None; waits = Some option.Depth }) ∷ None
    ∷ Some (record quiet { elf = true }) ∷ Some (record loud { waits = None }) ∷ None ∷ []
named_alone = refl

pub named_with_a_value :
    with_option option.Depth (Some (codes "9")) quiet ∷ with_option option.Depth (Some (codes "9")) (record loud { depth = None })
    ∷ with_option option.Depth (Some (codes "9")) loud ∷ with_option option.Elf (Some (codes "9")) quiet
    ∷ with_option option.Elf (Some (codes "9")) (record loud { elf = false }) ∷ []
    ≡ Some (record quiet { depth = Some (codes "9") }) ∷ Some (record loud { depth = Some (codes "9"); waits = None }) ∷ None ∷ None ∷ None ∷ []
named_with_a_value = refl

-- ---- positionals, and `--`

abbrev row : Bool → CommandRow
row has_positional = record { word = codes "path"; name = name.Path; options = option.Depth ∷ option.Elf ∷ []; has_positional = has_positional }

pub positionals :
    with_positional (row true) (codes "file") quiet ∷ with_positional (row true) (codes "file") (record loud { positional = None })
    ∷ with_positional (row true) (codes "file") loud ∷ with_positional (row false) (codes "file") quiet ∷ []
    ≡ Some (record quiet { positional = Some (codes "file") }) ∷ Some (record loud { positional = Some (codes "file") }) ∷ None ∷ None ∷ []
positionals = refl

pub ends_of_options :
    with_dashed (row true) (codes "--") quiet ∷ with_dashed (row true) (codes "--") (record loud { ended = false }) ∷ []
    ≡ Some (record quiet { ended = true }) ∷ Some loud ∷ []
ends_of_options = refl

pub dashed_words :
    map is_dashed ([] ∷ codes "-" ∷ codes "--" ∷ codes "-d" ∷ codes "--depth" ∷ codes "d-" ∷ codes ".-" ∷ codes ",-" ∷ codes "depth" ∷ [])
    ≡ false ∷ false ∷ true ∷ true ∷ true ∷ false ∷ false ∷ false ∷ false ∷ []
dashed_words = refl

-- a word behind an option that waits is its value, and behind `--` the positional, though it is dashed; else it is an option
pub each_word :
    with_word (row true) (codes "7") (record quiet { waits = Some option.Depth })
    ∷ with_word (row true) (codes "--elf") (record quiet { waits = Some option.Depth })
    ∷ with_word (row true) (codes "--elf") (record quiet { ended = true }) ∷ with_word (row true) (codes "--elf") quiet
    ∷ with_word (row true) (codes "-elf") quiet ∷ with_word (row true) (codes "--raw") quiet ∷ with_word (row true) (codes "elf") quiet ∷ []
    ≡ Some (record quiet { depth = Some (codes "7") }) ∷ None ∷ Some (record quiet { ended = true; positional = Some (codes "--elf") })
    ∷ Some (record quiet { elf = true }) ∷ None ∷ None ∷ Some (record quiet { positional = Some (codes "elf") }) ∷ []
each_word = refl
