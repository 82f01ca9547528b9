-- The sizes that words tell are a table of settings.
use Rattle.std.proofs.Common.{◌≡◌, ◌==◌, ℕ, ◌<◌, Bool, true, false, if◌then◌else◌, List, [], ◌∷◌, Option, Some, None, IfSome, refl, subst, arith}
use Rattle.std.proofs.lemmas.Bool.Decides.{nat_tests}
use Rattle.std.specs.Prelude.{⊤}
use Rattle.std.specs.Option.{option_and_then, option_map}
use Rattle.command_words.proofs.WordLists.{told_units}
use Rattle.command_words.specs.Words.{Command, Counts, Intake, Packets, Path, Program, Retired, Seen, Selftest, Times, Trace, command_in, count_of, cut_of, intake_in}
use Rattle.command_words.specs.Words.{layout_in, meaning, most_every, most_last, most_number, nothing_seen, number_to, path_by, program_in, seen_of, units_in}
use Rattle.command_words.specs.declared.words.CommandName.{CommandName}
use Rattle.command_words.specs.declared.words.CommandName.TheVariants as name
use Rattle.command_words.specs.declared.words.Layout.{Layout}
use Rattle.etm_types.specs.Settings.{Sizes}
use Rattle.etm_types.specs.SettingsTable.{IsTable}
use Rattle.trace_cmd.specs.Answers.{IsCountsUnder, IsPacketsUnder, IsPathUnder, IsTimesUnder}

-- what comes behind a value that is there
behind : {A B : Type 0} (found : Option A) (f : A → Option B) (y : B) → option_and_then f found ≡ Some y
    → (x : A) × (found ≡ Some x) × (f x ≡ Some y)
behind None f y is = absurd cc
behind (Some x) f y is = (x, refl, is)

mapped : {A B : Type 0} (found : Option A) (f : A → B) (y : B) → option_map f found ≡ Some y → (x : A) × (found ≡ Some x) × (f x ≡ y)
mapped None f y is = absurd cc
mapped (Some x) f y is = (x, refl, cc)

told_intake : (seen : Seen) (r : Intake) → intake_in seen ≡ Some r → IsTable r.units
told_intake seen r is =
    let units = behind (units_in seen) (λ (s : List Sizes). option_map (λ (l : Layout). record { units = s; layout = l }) (layout_in seen)) r is in
    let layout = mapped (layout_in seen) (λ (l : Layout). record { units = units.0; layout = l }) r units.2 in
    subst (λ (i : Intake). IsTable i.units) layout.2 (told_units seen units.0 units.1)

-- a count is one at least
counted_by : (m : ℕ) (count : Option ℕ) (b : Bool) → (m == 0) ≡ b → (if m == 0 then None else Some (Some m)) ≡ Some count → IfSome count (λ n. 0 < n)
counted_by m count true is e = absurd (let f = simp is at e in cc)
counted_by m count false is e =
    let same : Some m ≡ count = (let f = simp is at e in cc) in subst (λ (c : Option ℕ). IfSome c (λ n. 0 < n)) same (grind (arith, nat_tests, is))

counted : (most : ℕ) (value : Option (List ℕ)) (count : Option ℕ) → count_of most value ≡ Some count → IfSome count (λ n. 0 < n)
counted most None count e = let same : None ≡ count = cc in subst (λ (c : Option ℕ). IfSome c (λ n. 0 < n)) same tt
counted most (Some text) count e = let n = behind (number_to most text) _ count e in counted_by n.0 count (n.0 == 0) refl n.2

-- the sizes of a command that has any are a table, and its synchronisation packets stand apart
abbrev HasTable : Command → Type 0
HasTable (Path p r) = IsTable r.units
HasTable (Counts p r) = IsTable r.units
HasTable (Packets r) = IsTable r.units
HasTable (Times r) = IsTable r.units
HasTable (Retired p) = ⊤
HasTable (Trace p last every) = IfSome every (λ n. 0 < n)
HasTable (Selftest n cut) = ⊤

path_has : (count : Bool) (p : Program) (r : Intake) → IsTable r.units → HasTable (path_by count p r)
path_has true p r is = is
path_has false p r is = is

command_table : (command : CommandName) (seen : Seen) (said : Command) → command_in command seen ≡ Some said → HasTable said
command_table name.Path seen said is =
    let program = behind (program_in seen) _ said is in let intake = mapped (intake_in seen) (path_by seen.count program.0) said program.2 in
    subst HasTable intake.2 (path_has seen.count program.0 intake.0 (told_intake seen intake.0 intake.1))
command_table name.Packets seen said is =
    let intake = mapped (intake_in seen) Packets said is in subst HasTable intake.2 (told_intake seen intake.0 intake.1)
command_table name.Times seen said is =
    let intake = mapped (intake_in seen) Times said is in subst HasTable intake.2 (told_intake seen intake.0 intake.1)
command_table name.Retired seen said is = let program = mapped (program_in seen) Retired said is in subst HasTable program.2 tt
command_table name.Trace seen said is =
    let program = behind (program_in seen) _ said is in let last = behind (count_of most_last seen.last) _ said program.2 in
    let every = mapped (count_of most_every seen.every) (Trace program.0 last.0) said last.2 in
    subst HasTable every.2 (counted most_every seen.every every.0 every.1)
command_table name.Selftest seen said is =
    let word = behind seen.positional _ said is in let n = behind (number_to most_number word.0) _ said word.2 in
    let cut = mapped (cut_of seen.cut) (Selftest n.0) said n.2 in subst HasTable cut.2 tt

words_table : (words : List (List ℕ)) (said : Command) → meaning words ≡ Some said → HasTable said
words_table [] said is = absurd cc
words_table (word ∷ words) said is =
    let row = behind _ (λ r. option_and_then (command_in r.name) (seen_of r nothing_seen words)) said is in
    let seen = behind (seen_of row.0 nothing_seen words) (command_in row.0.name) said row.2 in
    command_table row.0.name seen.0 said seen.2

pub path_table : (r : Intake) (words : List (List ℕ)) → IsPathUnder r words → IsTable r.units
path_table r words (p, is) = words_table words (Path p r) is

pub counts_table : (r : Intake) (words : List (List ℕ)) → IsCountsUnder r words → IsTable r.units
counts_table r words (p, is) = words_table words (Counts p r) is

pub times_table : (r : Intake) (words : List (List ℕ)) → IsTimesUnder r words → IsTable r.units
times_table r words is = words_table words (Times r) is

pub trace_counts : (p : Program) (last every : Option ℕ) (words : List (List ℕ)) → meaning words ≡ Some (Trace p last every)
    → IfSome every (λ n. 0 < n)
trace_counts p last every words is = words_table words (Trace p last every) is

pub packets_table : (r : Intake) (words : List (List ℕ)) → IsPacketsUnder r words → IsTable r.units
packets_table r words is = words_table words (Packets r) is
