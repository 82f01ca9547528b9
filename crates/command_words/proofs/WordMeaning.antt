-- What clap makes of words is their meaning.
use Rattle.std.proofs.Common.{◌≡◌, ◌⊎◌, ℕ, Bool, true, false, ◌==◌, if◌then◌else◌, List, [], ◌∷◌, ◌++◌, map, codes, Option, Some, None, is_some, fold}
use Rattle.std.proofs.Common.{String, string_bytes, length, suc, refl, sym, ap, subst, ◌∙◌, inl, inr, arith, option_map, append_assoc}
use Rattle.std.proofs.lemmas.Slice.Eq.{bytes_eq-Decides}
use Rattle.std.proofs.lemmas.Str.{IsUtf8-string_bytes, encodes-chars, encode_ascii}
use Rattle.std.specs.Option.{option_and_then}
use Rattle.std.specs.Str.{bytes_eq, chars}
use Rattle.std.specs.Prelude.{slice_get, encode_utf8_all}
use Rattle.clap.specs.Words.{App, Row, Shape, Text, built, fault_of, first_of, found_of, is_simple, is_simple_and_free, rows_of, subcommand_of, subcommand_rows}
use Rattle.std.specs.Prelude.{Box, ◌↔◌, IsSome, IfSome}
use Rattle.std.proofs.Common.{◌<◌, ◌+◌, take, get_or}
use Rattle.std.proofs.lemmas.List.{take_more, map-append}
use Rattle.clap.specs.declared.parser.matches.ArgMatches.{ArgMatches}
use Rattle.clap.specs.declared.builder.Command.{Command as Command'}
use Rattle.clap.specs.declared.builder.Command.TheViews.{out-Command as fields_of}
use Rattle.clap.specs.declared.builder.Arg.{Arg}
use Rattle.clap.specs.Words.{AddsArg, AddsSubcommand, app_of, rule_of, with_subcommand}
use Rattle.command_words.specs.declared.words.CommandLine.{CommandLine}
use Rattle.command_words.specs.Said.{line_of}
use Rattle.command_words.specs.WordRules.{command_app, commands_app, top_app}
use Rattle.clap.specs.Words.{Rule, new_app, subcommand_rows_of, with_rule}
use Rattle.command_words.specs.declared.words.CommandOption.{CommandOption}
use Rattle.command_words.specs.WordRules.{options_app, rule_for}
use Rattle.std.specs.Box.{box_value}
use Rattle.clap.specs.declared.parser.matches.ArgMatches.TheViews.{out-SubCommand}
use Rattle.clap.specs.declared.parser.matches.SubCommand.{SubCommand}
use Rattle.clap.specs.Faults.{check_fault, defaults_fault, entered_fault, level_fault, settle_fault, step_fault, stray_fault, turn_fault, walk_fault}
use Rattle.clap.specs.Faults.{word_fault}
use Rattle.clap.specs.Kinds.{Kinds, or_else}
use Rattle.clap.specs.Simple.{entered, names_of, rows_at}
use Rattle.clap.specs.Walk.{Held, Names, Outcome, Step, Walk, idle, plain, refused, value, bundle, bundle_met, finished, nothing_held, settled, settled_rows}
use Rattle.clap.specs.Walk.{subcommand_met}
use Rattle.clap.specs.Walk.{after_flag, short_word, subcommand_or_other, walk_from, walked, word_met, rows_after}
use Rattle.command_words.specs.declared.words.CommandName.{CommandName}
use Rattle.command_words.specs.declared.words.CommandName.TheVariants as name
use Rattle.command_words.specs.declared.words.CommandOption.TheVariants as option
use Rattle.command_words.specs.Words.{CommandRow, Seen, command_in, is_dashed, meaning, nothing_seen, packets_options, path_options, retired_options}
use Rattle.command_words.specs.Words.{row, seen_of, selftest_options, texts, times_options, trace_options}
use Rattle.command_words.specs.WordRules.{command_by, etm, is_true_text, seen_in}
use Rattle.command_words.proofs.WordParses.{IsFault, Key, Named, Positional, Shows, fault_first, fault_then, id_of, leaf, lookup, row_for, rules, same_other}
use Rattle.command_words.proofs.WordEnds.{Same, end_fault, finished_same}
use Rattle.command_words.proofs.WordAgreement.{Agrees, AreTexts, Ends, Kind, Long, Plain, Short, Idles, agrees, kind_of}

-- ---- texts

dash_by : (b : ℕ) (rest cs : List ℕ) → chars (b ∷ rest) ≡ cs → encode_utf8_all (chars (45 ∷ b ∷ rest)) ≡ 45 ∷ b ∷ rest
    → (x : ℕ) × (xs : List ℕ) × (chars (b ∷ rest) ≡ x ∷ xs)
unfolding chars
dash_by b rest (x ∷ xs) is e = (x, xs, is)
dash_by b rest [] is e =
    let none : chars (45 ∷ b ∷ rest) ≡ 45 ∷ [] = ap (λ (c : List ℕ). 45 ∷ c) is in
    let one : encode_utf8_all (45 ∷ []) ≡ 45 ∷ [] = rw (encode_ascii 45 (omega arith)) refl in
    let both : 45 ∷ [] ≡ 45 ∷ b ∷ rest = sym one ∙ ap encode_utf8_all (sym none) ∙ e in absurd cc

pub are_texts : {Z : Type 0} (words : List (String Z)) → AreTexts (texts words)
are_texts [] = tt
are_texts (word ∷ words) = (
  λ b rest is. dash_by b rest (chars (b ∷ rest)) refl (subst (λ (t : List ℕ). encode_utf8_all (chars t) ≡ t) is
      (encodes-chars (string_bytes word) (IsUtf8-string_bytes word))),
  are_texts words,
)

-- ---- a command that is named

abbrev top : Shape
top = (built etm).top

abbrev names : Names
names = names_of (built etm)

-- behind the word of a command, the words are its own
abbrev stop_at : Text → List Text → Walk
stop_at n words = record { held = nothing_held; waiting = idle; position = 1; is_trailing = false; stopped = Some (n, words) }

stopped_walk : (n : Text) (before words : List Text) → fold (walked [] names) (stop_at n before) words ≡ stop_at n (before ++ words)
unfolding walked
stopped_walk n before [] = ap (stop_at n) (ending before)
  where
    ending : (xs : List Text) → xs ≡ xs ++ []
    ending [] = refl
    ending (x ∷ xs) = ap (λ (l : List Text). x ∷ l) (ending xs)
stopped_walk n before (word ∷ words) = stopped_walk n (before ++ word ∷ []) words ∙ ap (stop_at n) (append_assoc before (word ∷ []) words)

stopped_clean : (n : Text) (before words : List Text) → walk_fault top names (stop_at n before) words ≡ []
unfolding walk_fault walked
stopped_clean n before [] = refl
stopped_clean n before (word ∷ words) = stopped_clean n (before ++ word ∷ []) words

-- the faults of all words, by where the walk over them ends
abbrev faults_at : Kinds → Walk → Kinds
faults_at walking end =
    or_else walking (or_else (entered_fault (built etm) end.stopped) (or_else (settle_fault [] false end.held)
    (or_else (defaults_fault (settled [] end.held).rows []) (check_fault top (finished [] end.held) (is_some (entered (built etm) end.stopped))))))

faults_is : (words : List Text)
    → fault_of etm words ≡ faults_at (walk_fault top names (walk_from nothing_held) words) (fold (walked [] names) (walk_from nothing_held) words)
faults_is words = refl

-- the first word names a command
record Begins (line : CommandRow) : Type 0 where
  clean : turn_fault top names (walk_from nothing_held) line.word ≡ []
  walks : walked [] names (walk_from nothing_held) line.word ≡ stop_at line.word []
  enters : (words : List Text) → entered_fault (built etm) (Some (line.word, words)) ≡ level_fault (leaf line) [] nothing_held words false []
  finds : (words : List Text) → entered (built etm) (Some (line.word, words)) ≡ Some (rows_at (leaf line) words)
  named : (rows : List Row) → command_by (line.word, rows) ≡ command_in line.name (seen_in rows)

abbrev path_row : CommandRow
path_row = row (codes "path") name.Path path_options true

abbrev packets_row : CommandRow
packets_row = row (codes "packets") name.Packets packets_options false

abbrev times_row : CommandRow
times_row = row (codes "times") name.Times times_options false

abbrev retired_row : CommandRow
retired_row = row (codes "retired") name.Retired retired_options true

abbrev trace_row : CommandRow
trace_row = row (codes "trace") name.Trace trace_options true

abbrev selftest_row : CommandRow
selftest_row = row (codes "selftest") name.Selftest selftest_options true

path_begins : Begins path_row
unfolding walked
path_begins = record { clean = refl; walks = refl; enters = λ words. refl; finds = λ words. refl; named = λ rows. refl }

packets_begins : Begins packets_row
unfolding walked
packets_begins = record { clean = refl; walks = refl; enters = λ words. refl; finds = λ words. refl; named = λ rows. refl }

times_begins : Begins times_row
unfolding walked
times_begins = record { clean = refl; walks = refl; enters = λ words. refl; finds = λ words. refl; named = λ rows. refl }

retired_begins : Begins retired_row
unfolding walked
retired_begins = record { clean = refl; walks = refl; enters = λ words. refl; finds = λ words. refl; named = λ rows. refl }

trace_begins : Begins trace_row
unfolding walked
trace_begins = record { clean = refl; walks = refl; enters = λ words. refl; finds = λ words. refl; named = λ rows. refl }

selftest_begins : Begins selftest_row
unfolding walked
selftest_begins = record { clean = refl; walks = refl; enters = λ words. refl; finds = λ words. refl; named = λ rows. refl }

or_nothing : (a : Kinds) → or_else a [] ≡ a
or_nothing [] = refl
or_nothing (k ∷ kinds) = refl

-- behind a command, the faults are those of its own walk
faults_of : (line : CommandRow) → Begins line → (words : List Text) → fault_of etm (line.word ∷ words) ≡ end_fault line (walk_from nothing_held) words
unfolding walk_fault defaults_fault
faults_of line begins words =
    let start = walk_from nothing_held in
    let ends : fold (walked [] names) (walked [] names start line.word) words ≡ stop_at line.word words =
    ap (λ (w : Walk). fold (walked [] names) w words) begins.walks ∙ stopped_walk line.word [] words in
    let walking : or_else (turn_fault top names start line.word) (walk_fault top names (walked [] names start line.word) words) ≡ [] =
    ap (λ (k : Kinds). or_else k (walk_fault top names (walked [] names start line.word) words)) begins.clean
    ∙ ap (λ (w : Walk). walk_fault top names w words) begins.walks ∙ stopped_clean line.word [] words in
    let there : is_some (entered (built etm) (Some (line.word, words))) ≡ true = ap is_some (begins.finds words) in
    ap (λ (k : Kinds). faults_at k (fold (walked [] names) (walked [] names start line.word) words)) walking
    ∙ ap (faults_at []) ends
    ∙ ap (λ (k : Kinds). or_else k (check_fault top [] (is_some (entered (built etm) (Some (line.word, words)))))) (begins.enters words)
    ∙ ap (λ (b : Bool). or_else (level_fault (leaf line) [] nothing_held words false []) (check_fault top [] b)) there
    ∙ or_nothing (level_fault (leaf line) [] nothing_held words false [])

found_behind : (line : CommandRow) → Begins line → (words : List Text)
    → subcommand_of etm (line.word ∷ words) ≡ Some (line.word, rows_after (rules line) [] words)
found_behind line begins words =
    let ends : fold (walked [] names) (walked [] names (walk_from nothing_held) line.word) words ≡ stop_at line.word words =
    ap (λ (w : Walk). fold (walked [] names) w words) begins.walks ∙ stopped_walk line.word [] words in
    ap (λ (w : Walk). entered (built etm) w.stopped) ends ∙ begins.finds words

-- ---- what the rows say

first_is : (k : Key) (rows : List Row) (text : Option Text) → lookup (id_of k) rows ≡ option_map (row_for k) text → first_of (id_of k) rows ≡ text
first_is k rows None is = simp is
first_is k rows (Some v) is = simp is

-- whether a flag stood
flag_is : (k : Key) (rows : List Row) (stood : Bool) → lookup (id_of k) rows ≡ option_map (row_for k) (if stood then Some (codes "true") else None)
    → is_true_text (first_of (id_of k) rows) ≡ stood
flag_is k rows true is = simp is
flag_is k rows false is = simp is

abbrev all_seen : Bool → Option Text → Bool → Option Text → Option Text → Option Text → Option Text → Bool → Bool → Option Text → Option Text
    → Option Text → Option Text → Seen
all_seen raw wrap sync depth vmid cid settings elf count last every cut positional = record {
  raw = raw;
  wrap = wrap;
  sync = sync;
  depth = depth;
  vmid = vmid;
  cid = cid;
  settings = settings;
  elf = elf;
  count = count;
  last = last;
  every = every;
  cut = cut;
  positional = positional;
  waits = None;
  ended = false;
}

-- what was seen, with no option that waits
abbrev all_of : Seen → Seen
all_of seen =
    all_seen seen.raw seen.wrap seen.sync seen.depth seen.vmid seen.cid seen.settings seen.elf seen.count seen.last seen.every seen.cut
    seen.positional

in_all : (n : CommandName) (seen : Seen) → command_in n (all_of seen) ≡ command_in n seen
in_all name.Path seen = refl
in_all name.Packets seen = refl
in_all name.Times seen = refl
in_all name.Retired seen = refl
in_all name.Trace seen = refl
in_all name.Selftest seen = refl

pub same_seen : {raw raw' sync sync' elf elf' count count' : Bool} {wrap wrap' depth depth' vmid vmid' cid cid' settings settings' : Option Text}
    {last last' every every' cut cut' positional positional' : Option Text} → raw ≡ raw' → wrap ≡ wrap' → sync ≡ sync' → depth ≡ depth' → vmid ≡ vmid'
    → cid ≡ cid' → settings ≡ settings' → elf ≡ elf' → count ≡ count' → last ≡ last' → every ≡ every' → cut ≡ cut' → positional ≡ positional'
    → all_seen raw wrap sync depth vmid cid settings elf count last every cut positional
    ≡ all_seen raw' wrap' sync' depth' vmid' cid' settings' elf' count' last' every' cut' positional'
same_seen r w s d v c l e o n y k p = (λ i. all_seen (r i) (w i) (s i) (d i) (v i) (c i) (l i) (e i) (o i) (n i) (y i) (k i) (p i))

command_same : (n : CommandName) (rows more : List Row) (seen : Seen) → Shows rows seen → Same rows more → command_in n (seen_in more) ≡ command_in n seen
command_same n rows more seen shows same =
    let raw = same.flags (codes "raw") ∙ flag_is (Named option.Raw) rows seen.raw (shows (Named option.Raw)) in
    let wrap = first_is (Named option.Wrap) more seen.wrap (same.texts (codes "wrap") refl ∙ shows (Named option.Wrap)) in
    let sync = same.flags (codes "sync") ∙ flag_is (Named option.Sync) rows seen.sync (shows (Named option.Sync)) in
    let depth = first_is (Named option.Depth) more seen.depth (same.texts (codes "depth") refl ∙ shows (Named option.Depth)) in
    let vmid = first_is (Named option.Vmid) more seen.vmid (same.texts (codes "vmid") refl ∙ shows (Named option.Vmid)) in
    let cid = first_is (Named option.Cid) more seen.cid (same.texts (codes "cid") refl ∙ shows (Named option.Cid)) in
    let settings = first_is (Named option.Settings) more seen.settings (same.texts (codes "settings") refl ∙ shows (Named option.Settings)) in
    let elf = same.flags (codes "elf") ∙ flag_is (Named option.Elf) rows seen.elf (shows (Named option.Elf)) in
    let count = same.flags (codes "count") ∙ flag_is (Named option.Count) rows seen.count (shows (Named option.Count)) in
    let last = first_is (Named option.Last) more seen.last (same.texts (codes "last") refl ∙ shows (Named option.Last)) in
    let every = first_is (Named option.SyncEvery) more seen.every (same.texts (codes "sync-every") refl ∙ shows (Named option.SyncEvery)) in
    let cut = first_is (Named option.Cut) more seen.cut (same.texts (codes "cut") refl ∙ shows (Named option.Cut)) in
    let positional = first_is Positional more seen.positional (same.texts (codes "POSITIONAL") refl ∙ shows Positional) in
    ap (command_in n) (same_seen raw wrap sync depth vmid cid settings elf count last every cut positional) ∙ in_all n seen

-- ---- the meaning

-- what clap makes of words, by their faults: their meaning where there are none, and there is none where there is one
pub record Means (words : List Text) : Type 0 where
  pub clean : fault_of etm words ≡ [] → option_and_then command_by (subcommand_of etm words) ≡ meaning words
  pub faulty : IsFault (fault_of etm words) → meaning words ≡ None

not_both : (a : Kinds) → a ≡ [] → IsFault a → ⊥
not_both [] e bad = bad
not_both (k ∷ kinds) e bad = absurd cc

nothing_shown : Shows [] nothing_seen
nothing_shown (Named option.Raw) = refl
nothing_shown (Named option.Wrap) = refl
nothing_shown (Named option.Sync) = refl
nothing_shown (Named option.Depth) = refl
nothing_shown (Named option.Vmid) = refl
nothing_shown (Named option.Cid) = refl
nothing_shown (Named option.Settings) = refl
nothing_shown (Named option.Elf) = refl
nothing_shown (Named option.Count) = refl
nothing_shown (Named option.Last) = refl
nothing_shown (Named option.SyncEvery) = refl
nothing_shown (Named option.Cut) = refl
nothing_shown Positional = refl

begin : (line : CommandRow) (words : List Text) → AreTexts words → Agrees line nothing_seen words (walk_from nothing_held)
begin line words are = agrees line words are nothing_seen (Idles [] None refl refl nothing_shown)

line_means : (line : CommandRow) → Begins line → (words : List Text) → AreTexts words
    → meaning (line.word ∷ words) ≡ option_and_then (command_in line.name) (seen_of line nothing_seen words)
    → (seen : Option Seen) → seen_of line nothing_seen words ≡ seen → Means (line.word ∷ words)
line_means line begins words are means None is =
    let bad = (begin line words are).refused is in
    record {
      clean = λ none. absurd (not_both (end_fault line (walk_from nothing_held) words) (sym (faults_of line begins words) ∙ none) bad);
      faulty = λ some. means ∙ ap (option_and_then (command_in line.name)) is;
    }
line_means line begins words are means (Some end) is =
    let m = (begin line words are).meant end is in let held = (fold (walked (rules line) []) (walk_from nothing_held) words).held in
    record {
      clean = λ none. ap (option_and_then command_by) (found_behind line begins words) ∙ begins.named (rows_after (rules line) [] words)
          ∙ command_same line.name (settled_rows (rules line) held.pending held.rows) (finished (rules line) held) end m.1
          (finished_same line held.rows held.pending)
          ∙ sym (means ∙ ap (option_and_then (command_in line.name)) is);
      faulty = λ some. absurd (not_both (end_fault line (walk_from nothing_held) words) m.0 (subst IsFault (faults_of line begins words) some));
    }

-- ---- a first word that names no command

no_name : (word : Text) → bytes_eq word (codes "path") ≡ false → bytes_eq word (codes "packets") ≡ false → bytes_eq word (codes "times") ≡ false
    → bytes_eq word (codes "retired") ≡ false → bytes_eq word (codes "trace") ≡ false → bytes_eq word (codes "selftest") ≡ false
    → subcommand_met names idle word ≡ None
no_name word x y u z w v =
    let a : bytes_eq (codes "path") word ≡ false = same_other (codes "path") word ∙ x in
    let b : bytes_eq (codes "packets") word ≡ false = same_other (codes "packets") word ∙ y in
    let c : bytes_eq (codes "times") word ≡ false = same_other (codes "times") word ∙ u in
    let d : bytes_eq (codes "retired") word ≡ false = same_other (codes "retired") word ∙ z in
    let e : bytes_eq (codes "trace") word ≡ false = same_other (codes "trace") word ∙ w in
    let f : bytes_eq (codes "selftest") word ≡ false = same_other (codes "selftest") word ∙ v in simp (a, b, c, d, e, f)

-- no flag and no option stands at the top
refuses : (k : ℕ) (flags : Text) (h : Held) (first : Option ℕ) → slice_get (chars flags) 0 ≡ first
    → ((bundle_met [] (suc k) flags 0 plain h).1 ≡ plain) ⊎ ((bundle_met [] (suc k) flags 0 plain h).1 ≡ refused)
unfolding bundle_met
refuses k flags h None is = inl (simp is)
refuses k flags h (Some x) is = inr (simp is)

abbrev top_met : Text → Held × Step
top_met word = subcommand_or_other [] None idle 1 word nothing_held

short_value : (word flags : Text) (m : Held × Outcome) → (m.1 ≡ plain) ⊎ (m.1 ≡ refused) → (after_flag [] idle word m.0 m.1).1 ≡ value
short_value word flags m (inl is) = simp is
short_value word flags m (inr is) = simp is

byte_value : (a : ℕ) (b : Bool) → (a == 45) ≡ b → (top_met (a ∷ [])).1 ≡ value
byte_value a true e = simp e
byte_value a false e = simp e

plain_value : (word : Text) → is_dashed word ≡ false → (top_met word).1 ≡ value
plain_value [] is = refl
plain_value (a ∷ []) is = byte_value a (a == 45) refl
plain_value (a ∷ b ∷ rest) is = simp is

-- another word than `--` is taken for a positional, and there is none
top_value : (word : Text) → Kind word → (word ≡ codes "--") ⊎ ((top_met word).1 ≡ value)
top_value word (Ends is) = inl is
top_value word (Long x text is) = inr (ap (λ (w : Text). (top_met w).1) is)
top_value word (Plain undashed) = inr (plain_value word undashed)
top_value word (Short b rest is other) =
    let out = refuses (length rest) (b ∷ rest) nothing_held (slice_get (chars (b ∷ rest)) 0) refl in
    let short : top_met (45 ∷ b ∷ rest) ≡ short_word [] idle (45 ∷ b ∷ rest) (b ∷ rest) nothing_held = simp other in
    inr (ap (λ (w : Text). (top_met w).1) is ∙ ap (λ (m : Held × Step). m.1) short
    ∙ short_value (45 ∷ b ∷ rest) (b ∷ rest) (bundle [] (b ∷ rest) nothing_held) out)

-- the walk at the top
top_turn : (word : Text) → subcommand_met names idle word ≡ None → (top_met word).1 ≡ value → IsFault (turn_fault top names (walk_from nothing_held) word)
top_turn word none is =
    let met : word_met [] names false idle 1 word nothing_held ≡ top_met word =
    ap (λ (n : Option Text). subcommand_or_other [] n idle 1 word nothing_held) none in
    let step : step_fault top 1 (word_met [] names false idle 1 word nothing_held).0 (word_met [] names false idle 1 word nothing_held).1 ≡ stray_fault top =
    ap (λ (m : Held × Step). step_fault top 1 m.0 m.1) met ∙ ap (step_fault top 1 (top_met word).0) is in
    fault_then (word_fault top names false idle word nothing_held) _ (subst IsFault (sym step) tt)

ends_bad : (words : List Text) → IsFault (fault_of etm (codes "--" ∷ words))
unfolding walk_fault walked defaults_fault
ends_bad [] = tt
ends_bad (word ∷ words) = tt

other_bad : (word : Text) (words : List Text) → subcommand_met names idle word ≡ None → IsFault (fault_of etm (word ∷ words))
unfolding walk_fault
other_bad word words none = elim (top_value word (kind_of word)) [
  | inl is ↦ subst (λ (w : Text). IsFault (fault_of etm (w ∷ words))) (sym is) (ends_bad words)
  | inr is ↦
      fault_first _ _ (fault_first (turn_fault top names (walk_from nothing_held) word)
      (walk_fault top names (walked [] names (walk_from nothing_held) word) words) (top_turn word none is))
]

no_words : IsFault (fault_of etm [])
unfolding walk_fault defaults_fault
no_words = tt

word_means : (word : Text) (words : List Text) → AreTexts words → (a b c d e f : Bool) → bytes_eq word (codes "path") ≡ a
    → bytes_eq word (codes "packets") ≡ b → bytes_eq word (codes "times") ≡ c → bytes_eq word (codes "retired") ≡ d → bytes_eq word (codes "trace") ≡ e
    → bytes_eq word (codes "selftest") ≡ f → Means (word ∷ words)
word_means word words are true b c d e f x y u z t v =
    subst (λ (w : Text). Means (w ∷ words)) (sym ((bytes_eq-Decides word (codes "path")).0 x))
    (line_means path_row path_begins words are refl (seen_of path_row nothing_seen words) refl)
word_means word words are false true c d e f x y u z t v =
    subst (λ (w : Text). Means (w ∷ words)) (sym ((bytes_eq-Decides word (codes "packets")).0 y))
    (line_means packets_row packets_begins words are refl (seen_of packets_row nothing_seen words) refl)
word_means word words are false false true d e f x y u z t v =
    subst (λ (w : Text). Means (w ∷ words)) (sym ((bytes_eq-Decides word (codes "times")).0 u))
    (line_means times_row times_begins words are refl (seen_of times_row nothing_seen words) refl)
word_means word words are false false false true e f x y u z t v =
    subst (λ (w : Text). Means (w ∷ words)) (sym ((bytes_eq-Decides word (codes "retired")).0 z))
    (line_means retired_row retired_begins words are refl (seen_of retired_row nothing_seen words) refl)
word_means word words are false false false false true f x y u z t v =
    subst (λ (w : Text). Means (w ∷ words)) (sym ((bytes_eq-Decides word (codes "trace")).0 t))
    (line_means trace_row trace_begins words are refl (seen_of trace_row nothing_seen words) refl)
word_means word words are false false false false false true x y u z t v =
    subst (λ (w : Text). Means (w ∷ words)) (sym ((bytes_eq-Decides word (codes "selftest")).0 v))
    (line_means selftest_row selftest_begins words are refl (seen_of selftest_row nothing_seen words) refl)
word_means word words are false false false false false false x y u z t v =
    let none : meaning (word ∷ words) ≡ None = simp (x, y, u, z, t, v) in let bad = other_bad word words (no_name word x y u z t v) in
    record { clean = λ f. absurd (not_both (fault_of etm (word ∷ words)) f bad); faulty = λ some. none }

pub means : (words : List Text) → AreTexts words → Means words
means [] are = record { clean = λ e. absurd (not_both (fault_of etm []) e no_words); faulty = λ some. refl }
means (word ∷ words) are =
    word_means word words are.1 (bytes_eq word (codes "path")) (bytes_eq word (codes "packets")) (bytes_eq word (codes "times"))
    (bytes_eq word (codes "retired")) (bytes_eq word (codes "trace")) (bytes_eq word (codes "selftest")) refl refl refl refl refl refl

-- ---- what the code finds

-- no rule of the commands is of a kind that their parse does not determine
pub etm_is_simple : is_simple etm ≡ true
etm_is_simple = refl

pub etm_is_free : is_simple_and_free etm ≡ true
etm_is_free = refl

pub sub_is : {Z : Type 0} (sub : Option (Box SubCommand Z)) (word : Text) (rows : List Row)
    → Some word ≡ option_map (λ b. (out-SubCommand (box_value b)).name.now) sub → Some rows ≡ option_map (λ p. p.1) (subcommand_rows sub)
    → subcommand_rows sub ≡ Some (word, rows)
sub_is None word rows named is = absurd cc
sub_is (Some b) word rows named is =
    let x : (out-SubCommand (box_value b)).name.now ≡ word = sym cc in
    let y : rows_of (found_of (out-SubCommand (box_value b)).matches) ≡ rows = sym cc in (λ i. Some (x i, y i))

-- one option more
pub options_more : (word : Text) (os : List CommandOption) (i : ℕ) (o : CommandOption) → i < length os
    → with_rule (options_app word (take i os)) (rule_for (get_or os i o)) ≡ options_app word (take (i + 1) os)
options_more word os i o within =
    let more : map rule_for (take i os) ++ rule_for (get_or os i o) ∷ [] ≡ map rule_for (take (i + 1) os) =
    sym (ap (map rule_for) (take_more os i o within) ∙ map-append rule_for (take i os) (get_or os i o ∷ [])) in
    ap (λ (r : List Rule). let app = new_app word in record app { top = record app.top { rules = r } }) more

pub option_added : (old : Command') (a : Arg) (new : Command') (word : Text) (os : List CommandOption) (i : ℕ) (o : CommandOption) → AddsArg old a new
    → a.global ≡ false → rule_of a ≡ rule_for (get_or os i o) → i < length os → app_of old ≡ options_app word (take i os)
    → app_of new ≡ options_app word (take (i + 1) os)
option_added old a new word os i o adds local is within so_far =
    adds.shape local ∙ ap (with_rule (app_of old)) is ∙ ap (λ (x : App). with_rule x (rule_for (get_or os i o))) so_far ∙ options_more word os i o within

pub stays_local : (old : Command') (a : Arg) (new : Command') → AddsArg old a new → a.global ≡ false → (fields_of old).has_globals ≡ false
    → (fields_of new).has_globals ≡ false
stays_local old a new adds local none = adds.globals ∙ (rw (none, local) refl)

-- one command more
commands_more : (rows : List CommandRow) (line : CommandRow) → with_subcommand (commands_app rows) (command_app line).top ≡ commands_app (rows ++ line ∷ [])
commands_more [] line = refl
commands_more (r ∷ rows) line =
    ap (λ (s : List Shape). record { top = record top_app.top { is_leaf = false }; subs = s })
    (sym (map-append (λ (x : CommandRow). (command_app x).top) (r ∷ rows) (line ∷ [])))

pub command_added : (old sub new : Command') (lines : List CommandLine) (i : ℕ) (l : CommandLine) → AddsSubcommand old sub new
    → (fields_of sub).has_globals ≡ false → app_of sub ≡ command_app (line_of (get_or lines i l)) → i < length lines
    → app_of old ≡ commands_app (map line_of (take i lines)) → app_of new ≡ commands_app (map line_of (take (i + 1) lines))
command_added old sub new lines i l adds local is within so_far =
    let before = map line_of (take i lines) in
    let more : map line_of (take (i + 1) lines) ≡ before ++ line_of (get_or lines i l) ∷ [] =
    ap (map line_of) (take_more lines i l within) ∙ map-append line_of (take i lines) (get_or lines i l ∷ []) in
    adds.shape local ∙ ap (λ (a : App). with_subcommand (app_of old) a.top) is
    ∙ ap (λ (a : App). with_subcommand a (command_app (line_of (get_or lines i l))).top) so_far
    ∙ commands_more before (line_of (get_or lines i l)) ∙ ap commands_app (sym more)

fault_or : (a : Kinds) → (a ≡ [] → ⊥) → IsFault a
fault_or [] some = some refl
fault_or (k ∷ kinds) some = tt

-- words that clap does not take mean nothing, and else what its matches say
pub none_means : {Z X : Type 0} (words : List (String Z)) (r : Option X) → r ≡ None → IsSome r ↔ (fault_of etm (texts words) ≡ [])
    → meaning (texts words) ≡ None
none_means words None is taken = (means (texts words) (are_texts words)).faulty (fault_or (fault_of etm (texts words)) (λ e. let f = taken.1 e in absurd cc))
none_means words (Some x) is taken = absurd cc

pub some_means : {Z : Type 0} (words : List (String Z)) (r : Option ArgMatches) (m : ArgMatches) → r ≡ Some m → IsSome r ↔ (fault_of etm (texts words) ≡ [])
    → IfSome r (λ n. subcommand_rows_of n ≡ subcommand_of etm (texts words)) → option_and_then command_by (subcommand_rows_of m) ≡ meaning (texts words)
some_means words None m is taken found = absurd cc
some_means words (Some n) m is taken found =
    let same : n ≡ m = cc in
    ap (λ (x : ArgMatches). option_and_then command_by (subcommand_rows_of x)) (sym same)
    ∙ ap (option_and_then command_by) found ∙ (means (texts words) (are_texts words)).clean (taken.0 refl)
