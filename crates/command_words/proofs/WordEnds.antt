-- What clap finds at the end of the words behind a command.
use Rattle.std.proofs.Common.{◌≡◌, ℕ, Bool, true, false, not, ◌&&◌, ◌||◌, if◌then◌else◌, List, [], ◌∷◌, ◌++◌, map, codes, Option, Some, None, fold}
use Rattle.std.proofs.Common.{refl, sym, ap, subst, ◌∙◌, option_map}
use Rattle.std.proofs.lemmas.Slice.Eq.{bytes_eq-Decides}
use Rattle.std.specs.List.{list_any}
use Rattle.std.specs.Str.{bytes_eq}
use Rattle.clap.specs.Words.{Row, Rule, Text, first_of}
use Rattle.clap.specs.Faults.{check_fault, default_fault, defaults_fault, settle_fault, turn_fault, walk_fault, level_fault}
use Rattle.clap.specs.Kinds.{Kinds, or_else}
use Rattle.clap.specs.Takes.{is_given}
use Rattle.clap.specs.Walk.{Walk, Waiting, finished, has_row, more_values, nothing_held, settled, settled_rows, walk_from, walked, with_default}
use Rattle.clap.specs.declared.builder.value_parser.Reading.TheVariants.{AsWritten}
use Rattle.clap.specs.declared.parser.matches.ValueSource.TheVariants.{DefaultValue}
use Rattle.clap.specs.declared.error.ErrorKind.TheVariants as kind
use Rattle.command_words.specs.declared.words.CommandOption.{CommandOption}
use Rattle.command_words.specs.declared.words.CommandOption.TheVariants as option
use Rattle.command_words.specs.Words.{CommandRow, Seen}
use Rattle.command_words.specs.WordRules.{is_true_text}
use Rattle.command_words.proofs.WordParses.{IsFault, Key, Named, Positional, Shows, done_option, fault_first, find_before, find_none, id_of, leaf}
use Rattle.command_words.proofs.WordParses.{lookup, positional_part, row_added, row_for, rule_of, rules}
use Rattle.command_words.proofs.WordWalk.{Pending, at, hold}

-- ---- defaults

none_row_by : (id : Text) (r : Row) (rows : List Row) (b : Bool) → bytes_eq r.id id ≡ b → (has_row id rows ≡ false → lookup id rows ≡ None)
    → has_row id (r ∷ rows) ≡ false → lookup id (r ∷ rows) ≡ None
none_row_by id r rows true is rest e = absurd (let f = simp is at e in cc)
none_row_by id r rows false is rest e = simp is (rest (simp is at e))

none_row : (id : Text) (rows : List Row) → has_row id rows ≡ false → lookup id rows ≡ None
none_row id [] e = refl
none_row id (r ∷ rows) e = none_row_by id r rows (bytes_eq r.id id) refl (none_row id rows) e

-- the keys of flags
abbrev pub is_flag : Text → Bool
is_flag id = bytes_eq (codes "raw") id || bytes_eq (codes "sync") id || bytes_eq (codes "elf") id || bytes_eq (codes "count") id

-- the rows say the same, but for flags that are off
pub record Same (rows more : List Row) : Type 0 where
  pub texts : (id : Text) → is_flag id ≡ false → lookup id more ≡ lookup id rows
  pub flags : (id : Text) → is_true_text (first_of id more) ≡ is_true_text (first_of id rows)

same_rows : (rows more : List Row) → more ≡ rows → Same rows more
same_rows rows more e = record { texts = λ id plain. ap (lookup id) e; flags = λ id. ap (λ (r : List Row). is_true_text (first_of id r)) e }

-- the row of a flag that is off
off_row : Text → Row
off_row flag = record { id = flag; values = codes "false" ∷ []; count = None; source = Some DefaultValue; reading = AsWritten }

other_key : (flag id : Text) (b : Bool) → bytes_eq flag id ≡ b → is_flag flag ≡ true → is_flag id ≡ false → bytes_eq flag id ≡ false
other_key flag id false is known plain = is
other_key flag id true is known plain =
    let same : flag ≡ id = (bytes_eq-Decides flag id).0 is in absurd (let f = sym known ∙ ap is_flag same ∙ plain in cc)

is_off : (flag id : Text) (rows : List Row) (b : Bool) → bytes_eq flag id ≡ b → lookup flag rows ≡ None
    → is_true_text (first_of id (rows ++ off_row flag ∷ [])) ≡ is_true_text (first_of id rows)
unfolding off_row
is_off flag id rows true is none =
    let same : flag ≡ id = (bytes_eq-Decides flag id).0 is in let own = (bytes_eq-Decides flag flag).1 refl in
    let found : lookup flag (rows ++ off_row flag ∷ []) ≡ Some (off_row flag) = find_none _ rows (off_row flag ∷ []) none ∙ (simp own) in
    let here : is_true_text (first_of flag (rows ++ off_row flag ∷ [])) ≡ is_true_text (first_of flag rows) = simp (found, none) in
    subst (λ (i : Text). is_true_text (first_of i (rows ++ off_row flag ∷ [])) ≡ is_true_text (first_of i rows)) same here
is_off flag id rows false is none =
    let found : lookup id (rows ++ off_row flag ∷ []) ≡ lookup id rows = find_before _ rows (off_row flag ∷ []) (simp is) in simp found

same_off : (flag : Text) (rows : List Row) → is_flag flag ≡ true → lookup flag rows ≡ None → Same rows (rows ++ off_row flag ∷ [])
unfolding off_row
same_off flag rows known none = record {
  texts = λ id plain. let other = other_key flag id (bytes_eq flag id) refl known plain in find_before _ rows (off_row flag ∷ []) (simp other);
  flags = λ id. is_off flag id rows (bytes_eq flag id) refl none;
}

default_by : (k : Key) (rows : List Row) (b : Bool) → has_row (id_of k) rows ≡ b → Same rows (with_default rows (rule_of k))
unfolding off_row
default_by (Named option.Raw) rows true is = same_rows rows (with_default rows (rule_of (Named option.Raw))) (simp is)
default_by (Named option.Wrap) rows true is = same_rows rows (with_default rows (rule_of (Named option.Wrap))) (simp is)
default_by (Named option.Sync) rows true is = same_rows rows (with_default rows (rule_of (Named option.Sync))) (simp is)
default_by (Named option.Depth) rows true is = same_rows rows (with_default rows (rule_of (Named option.Depth))) (simp is)
default_by (Named option.Vmid) rows true is = same_rows rows (with_default rows (rule_of (Named option.Vmid))) (simp is)
default_by (Named option.Cid) rows true is = same_rows rows (with_default rows (rule_of (Named option.Cid))) (simp is)
default_by (Named option.Settings) rows true is = same_rows rows (with_default rows (rule_of (Named option.Settings))) (simp is)
default_by (Named option.Elf) rows true is = same_rows rows (with_default rows (rule_of (Named option.Elf))) (simp is)
default_by (Named option.Count) rows true is = same_rows rows (with_default rows (rule_of (Named option.Count))) (simp is)
default_by (Named option.Last) rows true is = same_rows rows (with_default rows (rule_of (Named option.Last))) (simp is)
default_by (Named option.SyncEvery) rows true is = same_rows rows (with_default rows (rule_of (Named option.SyncEvery))) (simp is)
default_by (Named option.Cut) rows true is = same_rows rows (with_default rows (rule_of (Named option.Cut))) (simp is)
default_by Positional rows true is = same_rows rows (with_default rows (rule_of Positional)) (simp is)
default_by (Named option.Raw) rows false is =
    let none = none_row (codes "raw") rows is in
    let added : with_default rows (rule_of (Named option.Raw)) ≡ rows ++ off_row (codes "raw") ∷ [] =
    simp is (row_added (codes "raw") (more_values DefaultValue (codes "false" ∷ [])) (off_row (codes "raw") ∷ []) rows none) in
    subst (Same rows) (sym added) (same_off (codes "raw") rows refl none)
default_by (Named option.Sync) rows false is =
    let none = none_row (codes "sync") rows is in
    let added : with_default rows (rule_of (Named option.Sync)) ≡ rows ++ off_row (codes "sync") ∷ [] =
    simp is (row_added (codes "sync") (more_values DefaultValue (codes "false" ∷ [])) (off_row (codes "sync") ∷ []) rows none) in
    subst (Same rows) (sym added) (same_off (codes "sync") rows refl none)
default_by (Named option.Elf) rows false is =
    let none = none_row (codes "elf") rows is in
    let added : with_default rows (rule_of (Named option.Elf)) ≡ rows ++ off_row (codes "elf") ∷ [] =
    simp is (row_added (codes "elf") (more_values DefaultValue (codes "false" ∷ [])) (off_row (codes "elf") ∷ []) rows none) in
    subst (Same rows) (sym added) (same_off (codes "elf") rows refl none)
default_by (Named option.Count) rows false is =
    let none = none_row (codes "count") rows is in
    let added : with_default rows (rule_of (Named option.Count)) ≡ rows ++ off_row (codes "count") ∷ [] =
    simp is (row_added (codes "count") (more_values DefaultValue (codes "false" ∷ [])) (off_row (codes "count") ∷ []) rows none) in
    subst (Same rows) (sym added) (same_off (codes "count") rows refl none)
default_by (Named option.Wrap) rows false is = same_rows rows (with_default rows (rule_of (Named option.Wrap))) (simp is)
default_by (Named option.Depth) rows false is = same_rows rows (with_default rows (rule_of (Named option.Depth))) (simp is)
default_by (Named option.Vmid) rows false is = same_rows rows (with_default rows (rule_of (Named option.Vmid))) (simp is)
default_by (Named option.Cid) rows false is = same_rows rows (with_default rows (rule_of (Named option.Cid))) (simp is)
default_by (Named option.Settings) rows false is = same_rows rows (with_default rows (rule_of (Named option.Settings))) (simp is)
default_by (Named option.Last) rows false is = same_rows rows (with_default rows (rule_of (Named option.Last))) (simp is)
default_by (Named option.SyncEvery) rows false is = same_rows rows (with_default rows (rule_of (Named option.SyncEvery))) (simp is)
default_by (Named option.Cut) rows false is = same_rows rows (with_default rows (rule_of (Named option.Cut))) (simp is)
default_by Positional rows false is = same_rows rows (with_default rows (rule_of Positional)) (simp is)

same_then : (rows more most : List Row) → Same rows more → Same more most → Same rows most
same_then rows more most a b = record { texts = λ id plain. b.texts id plain ∙ a.texts id plain; flags = λ id. b.flags id ∙ a.flags id }

same_positional : (b : Bool) (rows : List Row) → Same rows (fold with_default rows (positional_part b))
same_positional true rows = default_by Positional rows (has_row (codes "POSITIONAL") rows) refl
same_positional false rows = same_rows rows rows refl

same_all : (os : List CommandOption) (b : Bool) (rows : List Row) → Same rows (fold with_default rows (map done_option os ++ positional_part b))
same_all [] b rows = same_positional b rows
same_all (o ∷ os) b rows =
    same_then rows (with_default rows (done_option o)) (fold with_default (with_default rows (done_option o)) (map done_option os ++ positional_part b))
    (default_by (Named o) rows (has_row (id_of (Named o)) rows) refl) (same_all os b (with_default rows (done_option o)))

pub finished_same : (row : CommandRow) (rows : List Row) (p : Pending) → Same (settled_rows (rules row) p rows) (finished (rules row) (hold rows p))
finished_same row rows p = same_all row.options row.has_positional (settled_rows (rules row) p rows)

default_clean_by : (k : Key) (rows : List Row) (b : Bool) → has_row (id_of k) rows ≡ b → default_fault rows (rule_of k) ≡ []
default_clean_by (Named option.Raw) rows true is = simp is
default_clean_by (Named option.Raw) rows false is = simp is
default_clean_by (Named option.Wrap) rows true is = simp is
default_clean_by (Named option.Sync) rows true is = simp is
default_clean_by (Named option.Depth) rows true is = simp is
default_clean_by (Named option.Wrap) rows false is = simp is
default_clean_by (Named option.Sync) rows false is = simp is
default_clean_by (Named option.Depth) rows false is = simp is
default_clean_by (Named option.Vmid) rows true is = simp is
default_clean_by (Named option.Vmid) rows false is = simp is
default_clean_by (Named option.Cid) rows true is = simp is
default_clean_by (Named option.Settings) rows true is = simp is
default_clean_by (Named option.Elf) rows true is = simp is
default_clean_by (Named option.Count) rows true is = simp is
default_clean_by (Named option.Last) rows true is = simp is
default_clean_by (Named option.SyncEvery) rows true is = simp is
default_clean_by (Named option.Cut) rows true is = simp is
default_clean_by (Named option.Cid) rows false is = simp is
default_clean_by (Named option.Settings) rows false is = simp is
default_clean_by (Named option.Elf) rows false is = simp is
default_clean_by (Named option.Count) rows false is = simp is
default_clean_by (Named option.Last) rows false is = simp is
default_clean_by (Named option.SyncEvery) rows false is = simp is
default_clean_by (Named option.Cut) rows false is = simp is
default_clean_by Positional rows true is = simp is
default_clean_by Positional rows false is = simp is

default_clean : (k : Key) (rows : List Row) → default_fault rows (rule_of k) ≡ []
default_clean k rows = default_clean_by k rows (has_row (id_of k) rows) refl

defaults_positional : (b : Bool) (rows : List Row) → defaults_fault rows (positional_part b) ≡ []
unfolding defaults_fault
defaults_positional true rows = ap (λ (x : Kinds). or_else x []) (default_clean Positional rows)
defaults_positional false rows = refl

defaults_clean : (os : List CommandOption) (b : Bool) (rows : List Row) → defaults_fault rows (map done_option os ++ positional_part b) ≡ []
unfolding defaults_fault
defaults_clean [] b rows = defaults_positional b rows
defaults_clean (o ∷ os) b rows =
    ap (λ (x : Kinds). or_else x (defaults_fault (with_default rows (done_option o)) (map done_option os ++ positional_part b))) (default_clean (Named o) rows)
    ∙ defaults_clean os b (with_default rows (done_option o))

-- ---- what is required

required_only : (rows : List Row) (os : List CommandOption) (ys : List Rule)
    → list_any (λ a. a.required && not (is_given a.id rows)) (map done_option os ++ ys) ≡ list_any (λ a. a.required && not (is_given a.id rows)) ys
required_only rows [] ys = refl
required_only rows (o ∷ os) ys = required_only rows os ys

-- the one fault at the end is that the positional is missing
abbrev pub missing : Bool → Option Text → Kinds
missing true None = kind.MissingRequiredArgument ∷ []
missing true (Some v) = []
missing false positional = []

check_by : (b : Bool) (rows : List Row) (positional : Option Text) → lookup (codes "POSITIONAL") rows ≡ option_map (row_for Positional) positional
    → (if list_any (λ a. a.required && not (is_given a.id rows)) (positional_part b) then kind.MissingRequiredArgument ∷ [] else []) ≡ missing b positional
check_by true rows None is = simp is
check_by true rows (Some v) is = simp is
check_by false rows positional is = refl

pub check_is : (row : CommandRow) (rows : List Row) (positional : Option Text) → lookup (codes "POSITIONAL") rows ≡ option_map (row_for Positional) positional
    → check_fault (leaf row) rows false ≡ missing row.has_positional positional
check_is row rows positional is =
    ap (λ (b : Bool). if b then kind.MissingRequiredArgument ∷ [] else []) (required_only rows row.options (positional_part row.has_positional))
    ∙ check_by row.has_positional rows positional is

-- ---- the end

-- the faults from a state on
abbrev pub end_fault : CommandRow → Walk → List Text → Kinds
end_fault row w words =
    let end = (fold (walked (rules row) []) w words).held in
    or_else (walk_fault (leaf row) [] w words)
    (or_else [] (or_else (settle_fault (rules row) false end)
    (or_else (defaults_fault (settled (rules row) end).rows (rules row)) (check_fault (leaf row) (finished (rules row) end) false))))

pub level_is : (row : CommandRow) (words : List Text) → level_fault (leaf row) [] nothing_held words false [] ≡ end_fault row (walk_from nothing_held) words
level_is row words = refl

pub end_more : (row : CommandRow) (w v : Walk) (word : Text) (words : List Text) → turn_fault (leaf row) [] w word ≡ [] → walked (rules row) [] w word ≡ v
    → end_fault row w (word ∷ words) ≡ end_fault row v words
unfolding walk_fault
end_more row w v word words clean step =
    ap (λ (x : Kinds). let end = (fold (walked (rules row) []) (walked (rules row) [] w word) words).held in
    or_else (or_else x (walk_fault (leaf row) [] (walked (rules row) [] w word) words))
    (or_else [] (or_else (settle_fault (rules row) false end)
    (or_else (defaults_fault (settled (rules row) end).rows (rules row)) (check_fault (leaf row) (finished (rules row) end) false))))) clean
    ∙ ap (λ (u : Walk). end_fault row u words) step

pub end_bad : (row : CommandRow) (w : Walk) (word : Text) (words : List Text) → IsFault (turn_fault (leaf row) [] w word)
    → IsFault (end_fault row w (word ∷ words))
unfolding walk_fault
end_bad row w word words bad =
    fault_first _ _ (fault_first (turn_fault (leaf row) [] w word) (walk_fault (leaf row) [] (walked (rules row) [] w word) words) bad)

pub end_pending : (row : CommandRow) (rows : List Row) (p : Pending) (w : Waiting) (n : ℕ) (t : Bool) → IsFault (settle_fault (rules row) false (hold rows p))
    → IsFault (end_fault row (at rows p w n t) [])
unfolding walk_fault
end_pending row rows p w n t bad = fault_first (settle_fault (rules row) false (hold rows p)) _ bad

pub end_is : (row : CommandRow) (rows : List Row) (p : Pending) (w : Waiting) (n : ℕ) (t : Bool) (seen : Seen)
    → settle_fault (rules row) false (hold rows p) ≡ [] → Shows (settled_rows (rules row) p rows) seen
    → end_fault row (at rows p w n t) [] ≡ missing row.has_positional seen.positional
unfolding walk_fault
end_is row rows p w n t seen clean shows =
    let same = finished_same row rows p in let rest = check_fault (leaf row) (finished (rules row) (hold rows p)) false in
    ap (λ (x : Kinds). or_else x (or_else (defaults_fault (settled_rows (rules row) p rows) (rules row)) rest)) clean
    ∙ ap (λ (x : Kinds). or_else x rest) (defaults_clean row.options row.has_positional (settled_rows (rules row) p rows))
    ∙ check_is row (finished (rules row) (hold rows p)) seen.positional (same.texts (codes "POSITIONAL") refl ∙ shows Positional)
