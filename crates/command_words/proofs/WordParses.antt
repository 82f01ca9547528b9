-- What clap finds among the rules of a command, and what a use of one leaves.
use Rattle.std.proofs.Common.{◌≡◌, ℕ, Bool, true, false, ◌||◌, if◌then◌else◌, List, [], ◌∷◌, ◌++◌, map, length, codes, Option, Some, None, find}
use Rattle.std.proofs.Common.{refl, sym, ap, subst, ◌∙◌, option_map}
use Rattle.std.proofs.lemmas.Slice.Eq.{bytes_eq-Decides}
use Rattle.std.specs.Prelude.{⊤}
use Rattle.std.specs.Str.{bytes_eq}
use Rattle.clap.specs.Words.{Row, Rule, Shape, Text, built, new_app}
use Rattle.clap.specs.Simple.{filled, with_index}
use Rattle.clap.specs.Walk.{arg_by_id, arg_by_index, arg_by_long, arg_by_short, at_row, has_row}
use Rattle.clap.specs.Walk.{more_values, most_values, used, values_or_missing, without}
use Rattle.clap.specs.Faults.{repeat_fault, set_fault, use_fault, values_fault}
use Rattle.clap.specs.Facts.{unwrap_or_range}
use Rattle.clap.specs.Kinds.{Kinds, or_else, range_kinds}
use Rattle.clap.specs.declared.builder.value_parser.Reading.TheVariants.{AsWritten}
use Rattle.clap.specs.declared.parser.matches.ValueSource.TheVariants.{CommandLine}
use Rattle.command_words.specs.declared.words.CommandOption.{CommandOption}
use Rattle.command_words.specs.declared.words.CommandOption.TheVariants as option
use Rattle.command_words.specs.Words.{CommandRow, Seen, commands, key_of, name_of, takes_value, with_value}
use Rattle.command_words.specs.WordRules.{etm, positional_rule, rule_for}
use Rattle.command_words.proofs.WordTurns.{Has}

-- ---- the rules of a command, as clap fills them in

abbrev pub done_option : CommandOption → Rule
done_option o = with_index 1 (filled (rule_for o))

abbrev pub done_positional : Rule
done_positional = with_index 1 (filled positional_rule)

abbrev pub positional_part : Bool → List Rule
positional_part true = done_positional ∷ []
positional_part false = []

abbrev pub rules : CommandRow → List Rule
rules row = map done_option row.options ++ positional_part row.has_positional

abbrev pub leaf : CommandRow → Shape
leaf row =
    record (new_app row.word).top {
      rules = rules row;
      no_binary_name = true;
      disable_help_flag = true;
      disable_help_subcommand = true;
      disable_version_flag = true;
      is_built = true;
    }

pub leaves : (built etm).subs ≡ map leaf commands
leaves = refl

-- ---- lookups

none_by : {X : Type 0} (p : X → Bool) (x : X) (xs ys : List X) (b : Bool) → p x ≡ b → (find p xs ≡ None → find p (xs ++ ys) ≡ find p ys)
    → find p (x ∷ xs) ≡ None → find p ((x ∷ xs) ++ ys) ≡ find p ys
none_by p x xs ys true is rest e = absurd (let f = simp is at e in cc)
none_by p x xs ys false is rest e = simp is (rest (simp is at e))

pub find_none : {X : Type 0} (p : X → Bool) (xs ys : List X) → find p xs ≡ None → find p (xs ++ ys) ≡ find p ys
find_none p [] ys e = refl
find_none p (x ∷ xs) ys e = none_by p x xs ys (p x) refl (find_none p xs ys) e

some_by : {X : Type 0} (p : X → Bool) (x : X) (xs ys : List X) (y : X) (b : Bool) → p x ≡ b → (find p xs ≡ Some y → find p (xs ++ ys) ≡ Some y)
    → find p (x ∷ xs) ≡ Some y → find p ((x ∷ xs) ++ ys) ≡ Some y
some_by p x xs ys y true is rest e = simp is (simp is at e)
some_by p x xs ys y false is rest e = simp is (rest (simp is at e))

pub find_some : {X : Type 0} (p : X → Bool) (xs ys : List X) (y : X) → find p xs ≡ Some y → find p (xs ++ ys) ≡ Some y
find_some p [] ys y e = absurd cc
find_some p (x ∷ xs) ys y e = some_by p x xs ys y (p x) refl (find_some p xs ys y) e

before_by : {X : Type 0} (p : X → Bool) (x : X) (xs ys : List X) (b : Bool) → p x ≡ b → find p (xs ++ ys) ≡ find p xs
    → find p ((x ∷ xs) ++ ys) ≡ find p (x ∷ xs)
before_by p x xs ys true is rest = simp is
before_by p x xs ys false is rest = simp is rest

pub find_before : {X : Type 0} (p : X → Bool) (xs ys : List X) → find p ys ≡ None → find p (xs ++ ys) ≡ find p xs
find_before p [] ys e = e
find_before p (x ∷ xs) ys e = before_by p x xs ys (p x) refl (find_before p xs ys e)

options_by : (p : Rule → Bool) (q : CommandOption → Bool) (o : CommandOption) (os : List CommandOption) (b : Bool) → p (done_option o) ≡ b → q o ≡ b
    → find p (map done_option os) ≡ option_map done_option (find q os) → find p (map done_option (o ∷ os)) ≡ option_map done_option (find q (o ∷ os))
options_by p q o os true is same rest = simp (is, same)
options_by p q o os false is same rest = simp (is, same) rest

find_options : (p : Rule → Bool) (q : CommandOption → Bool) (os : List CommandOption) → ((o : CommandOption) → p (done_option o) ≡ q o)
    → find p (map done_option os) ≡ option_map done_option (find q os)
find_options p q [] same = refl
find_options p q (o ∷ os) same = options_by p q o os (q o) (same o) refl (find_options p q os same)

no_options : (p : Rule → Bool) (os : List CommandOption) → ((o : CommandOption) → p (done_option o) ≡ false) → find p (map done_option os) ≡ None
no_options p [] none = refl
no_options p (o ∷ os) none = simp (none o) (no_options p os none)

same_by : (a b : List ℕ) (t : Bool) → bytes_eq a b ≡ t → bytes_eq b a ≡ t
same_by a b true e = (bytes_eq-Decides b a).1 (sym ((bytes_eq-Decides a b).0 e))
same_by a b false e = by (bytes_eq b a) refl
  where
    by : (u : Bool) → bytes_eq b a ≡ u → bytes_eq b a ≡ false
    by false f = f
    by true f = absurd (let g = (bytes_eq-Decides a b).1 (sym ((bytes_eq-Decides b a).0 f)) in let h = sym g ∙ e in cc)

pub same_other : (a b : List ℕ) → bytes_eq a b ≡ bytes_eq b a
same_other a b = sym (same_by a b (bytes_eq a b) refl)

or_false : (b : Bool) → (b || false) ≡ b
or_false true = refl
or_false false = refl

no_long : (b : Bool) (name : List ℕ) → arg_by_long (positional_part b) name ≡ None
no_long true name = refl
no_long false name = refl

pub by_long : (row : CommandRow) (name : List ℕ)
    → arg_by_long (rules row) name ≡ option_map done_option (find (λ o. bytes_eq name (name_of o)) row.options)
by_long row name =
    find_before _ (map done_option row.options) (positional_part row.has_positional) (no_long row.has_positional name)
    ∙ find_options _ (λ o. bytes_eq name (name_of o)) row.options (λ o. or_false (bytes_eq (name_of o) name) ∙ same_other (name_of o) name)

no_short : (b : Bool) (x : ℕ) → arg_by_short (positional_part b) x ≡ None
no_short true x = refl
no_short false x = refl

pub by_short : (row : CommandRow) (x : ℕ) → arg_by_short (rules row) x ≡ None
by_short row x =
    find_before _ (map done_option row.options) (positional_part row.has_positional) (no_short row.has_positional x) ∙ no_options _ row.options (λ o. refl)

-- two options of one name are known by different keys
pub same_key : (o p : CommandOption) → bytes_eq (key_of o) (key_of p) ≡ true → o ≡ p
same_key option.Raw option.Raw e = refl
same_key option.Wrap option.Wrap e = refl
same_key option.Sync option.Sync e = refl
same_key option.Depth option.Depth e = refl
same_key option.Vmid option.Vmid e = refl
same_key option.Cid option.Cid e = refl
same_key option.Settings option.Settings e = refl
same_key option.Elf option.Elf e = refl
same_key option.Count option.Count e = refl
same_key option.Last option.Last e = refl
same_key option.SyncEvery option.SyncEvery e = refl
same_key option.Cut option.Cut e = refl
same_key o p e = absurd cc

pub own_key : (o : CommandOption) → bytes_eq (key_of o) (key_of o) ≡ true
own_key o = (bytes_eq-Decides (key_of o) (key_of o)).1 refl

-- an option that is found by its name is found by its key
key_by : (o p : CommandOption) (os : List CommandOption) (named known : Bool) → bytes_eq (name_of o) (name_of p) ≡ named
    → bytes_eq (key_of o) (key_of p) ≡ known
    → (find (λ q. bytes_eq (name_of o) (name_of q)) os ≡ Some o → find (λ q. bytes_eq (key_of o) (key_of q)) os ≡ Some o)
    → find (λ q. bytes_eq (name_of o) (name_of q)) (p ∷ os) ≡ Some o → find (λ q. bytes_eq (key_of o) (key_of q)) (p ∷ os) ≡ Some o
key_by o p os named true is same rest e = let this : p ≡ o = sym (same_key o p same) in simp same (ap Some this)
key_by o p os false false is other rest e = simp other (rest (simp is at e))
key_by o p os true false is other rest e =
    let this : p ≡ o = (let f = simp is at e in cc) in
    let known = subst (λ (q : CommandOption). bytes_eq (key_of o) (key_of q) ≡ false) this other in absurd (let g = sym (own_key o) ∙ known in cc)

pub key_found : (o : CommandOption) (os : List CommandOption) → find (λ q. bytes_eq (name_of o) (name_of q)) os ≡ Some o
    → find (λ q. bytes_eq (key_of o) (key_of q)) os ≡ Some o
key_found o [] e = absurd cc
key_found o (p ∷ os) e = key_by o p os (bytes_eq (name_of o) (name_of p)) (bytes_eq (key_of o) (key_of p)) refl refl (key_found o os) e

pub by_id : (row : CommandRow) (o : CommandOption) → Has row o → arg_by_id (rules row) (key_of o) ≡ Some (done_option o)
by_id row o has =
    find_some _ (map done_option row.options) (positional_part row.has_positional) (done_option o)
    (find_options _ (λ p. bytes_eq (key_of o) (key_of p)) row.options (λ p. same_other (key_of p) (key_of o))
    ∙ ap (option_map done_option) (key_found o row.options has))

no_key : (o : CommandOption) → bytes_eq (key_of o) (codes "POSITIONAL") ≡ false
no_key option.Raw = refl
no_key option.Wrap = refl
no_key option.Sync = refl
no_key option.Depth = refl
no_key option.Vmid = refl
no_key option.Cid = refl
no_key option.Settings = refl
no_key option.Elf = refl
no_key option.Count = refl
no_key option.Last = refl
no_key option.SyncEvery = refl
no_key option.Cut = refl

pub positional_by_id : (row : CommandRow) → row.has_positional ≡ true → arg_by_id (rules row) (codes "POSITIONAL") ≡ Some done_positional
positional_by_id row has =
    find_none _ (map done_option row.options) (positional_part row.has_positional) (no_options _ row.options no_key)
    ∙ ap (λ b. arg_by_id (positional_part b) (codes "POSITIONAL")) has

pub at_index : (row : CommandRow) (n : ℕ) → arg_by_index (rules row) n ≡ arg_by_index (positional_part row.has_positional) n
at_index row n = find_none _ (map done_option row.options) (positional_part row.has_positional) (no_options _ row.options (λ o. refl))

-- ---- the rows of what is seen

-- an option, or the positional
pub data Key : Type 0 where
  Named : CommandOption → Key
  Positional : Key

abbrev pub id_of : Key → Text
id_of (Named o) = key_of o
id_of Positional = codes "POSITIONAL"

abbrev pub rule_of : Key → Rule
rule_of (Named o) = done_option o
rule_of Positional = done_positional

-- the text in the row of what was seen
abbrev pub text_in : Key → Seen → Option Text
text_in (Named option.Raw) seen = if seen.raw then Some (codes "true") else None
text_in (Named option.Wrap) seen = seen.wrap
text_in (Named option.Sync) seen = if seen.sync then Some (codes "true") else None
text_in (Named option.Depth) seen = seen.depth
text_in (Named option.Vmid) seen = seen.vmid
text_in (Named option.Cid) seen = seen.cid
text_in (Named option.Settings) seen = seen.settings
text_in (Named option.Elf) seen = if seen.elf then Some (codes "true") else None
text_in (Named option.Count) seen = if seen.count then Some (codes "true") else None
text_in (Named option.Last) seen = seen.last
text_in (Named option.SyncEvery) seen = seen.every
text_in (Named option.Cut) seen = seen.cut
text_in Positional seen = seen.positional

abbrev pub row_for : Key → Text → Row
row_for k text = record { id = id_of k; values = text ∷ []; count = None; source = Some CommandLine; reading = AsWritten }

abbrev pub lookup : Text → List Row → Option Row
lookup id rows = find (λ r. bytes_eq r.id id) rows

abbrev pub Shows : List Row → Seen → Type 0
Shows rows seen = (k : Key) → lookup (id_of k) rows ≡ option_map (row_for k) (text_in k seen)

-- the values that a use has, and what is then seen
abbrev pub values_for : Key → Text → List Text
values_for (Named option.Raw) text = []
values_for (Named option.Wrap) text = text ∷ []
values_for (Named option.Sync) text = []
values_for (Named option.Depth) text = text ∷ []
values_for (Named option.Vmid) text = text ∷ []
values_for (Named option.Cid) text = text ∷ []
values_for (Named option.Settings) text = text ∷ []
values_for (Named option.Elf) text = []
values_for (Named option.Count) text = []
values_for (Named option.Last) text = text ∷ []
values_for (Named option.SyncEvery) text = text ∷ []
values_for (Named option.Cut) text = text ∷ []
values_for Positional text = text ∷ []

abbrev pub text_for : Key → Text → Text
text_for (Named option.Raw) text = codes "true"
text_for (Named option.Wrap) text = text
text_for (Named option.Sync) text = codes "true"
text_for (Named option.Depth) text = text
text_for (Named option.Vmid) text = text
text_for (Named option.Cid) text = text
text_for (Named option.Settings) text = text
text_for (Named option.Elf) text = codes "true"
text_for (Named option.Count) text = codes "true"
text_for (Named option.Last) text = text
text_for (Named option.SyncEvery) text = text
text_for (Named option.Cut) text = text
text_for Positional text = text

abbrev pub seen_with : Key → Text → Seen → Seen
seen_with (Named o) text seen = with_value o text seen
seen_with Positional text seen = record seen { positional = Some text }

pub no_row : (id : Text) (rows : List Row) → lookup id rows ≡ None → has_row id rows ≡ false
no_row id [] e = refl
no_row id (r ∷ rows) e = by (bytes_eq r.id id) refl (no_row id rows) e
  where
    by : (b : Bool) → bytes_eq r.id id ≡ b → (lookup id rows ≡ None → has_row id rows ≡ false) → lookup id (r ∷ rows) ≡ None → has_row id (r ∷ rows) ≡ false
    by true is rest e = absurd (let f = simp is at e in cc)
    by false is rest e = simp is (rest (simp is at e))

pub some_row : (id : Text) (rows : List Row) (r : Row) → lookup id rows ≡ Some r → has_row id rows ≡ true
some_row id [] s e = absurd cc
some_row id (r ∷ rows) s e = by (bytes_eq r.id id) refl (some_row id rows s) e
  where
    by : (b : Bool) → bytes_eq r.id id ≡ b → (lookup id rows ≡ Some s → has_row id rows ≡ true) → lookup id (r ∷ rows) ≡ Some s → has_row id (r ∷ rows) ≡ true
    by true is rest e = simp is
    by false is rest e = simp is (rest (simp is at e))

-- a row that is not there is added at the end
pub row_added : (id : Text) (change : Row → List Row) (missing rows : List Row) → lookup id rows ≡ None → at_row id change missing rows ≡ rows ++ missing
row_added id change missing [] e = refl
row_added id change missing (r ∷ rows) e = by (bytes_eq r.id id) refl (row_added id change missing rows) e
  where
    by : (b : Bool) → bytes_eq r.id id ≡ b → (lookup id rows ≡ None → at_row id change missing rows ≡ rows ++ missing) → lookup id (r ∷ rows) ≡ None
        → at_row id change missing (r ∷ rows) ≡ (r ∷ rows) ++ missing
    by true is rest e = absurd (let f = simp is at e in cc)
    by false is rest e = simp is (ap (λ (l : List Row). r ∷ l) (rest (simp is at e)))

nothing_behind : {X : Type 0} (xs : List X) → xs ++ [] ≡ xs
nothing_behind [] = refl
nothing_behind (x ∷ xs) = ap (λ l. x ∷ l) (nothing_behind xs)

-- the row is put in place of one that is not there
put_added : (id : Text) (change : Row → List Row) (missing rows : List Row) → lookup id rows ≡ None
    → at_row id change missing (without id rows) ≡ rows ++ missing
put_added id change missing rows e =
    ap (at_row id change missing) (row_added id (λ r. []) [] rows e ∙ nothing_behind rows) ∙ row_added id change missing rows e

-- a use of what was not seen adds its row
pub used_adds : (k : Key) (text : Text) (rows : List Row) → lookup (id_of k) rows ≡ None
    → used (rule_of k) (values_for k text) rows ≡ rows ++ row_for k (text_for k text) ∷ []
used_adds (Named option.Raw) text rows e =
    put_added (codes "raw") (more_values CommandLine (codes "true" ∷ [])) (row_for (Named option.Raw) (codes "true") ∷ []) rows e
used_adds (Named option.Wrap) text rows e = put_added (codes "wrap") (more_values CommandLine (text ∷ [])) (row_for (Named option.Wrap) text ∷ []) rows e
used_adds (Named option.Sync) text rows e =
    put_added (codes "sync") (more_values CommandLine (codes "true" ∷ [])) (row_for (Named option.Sync) (codes "true") ∷ []) rows e
used_adds (Named option.Depth) text rows e = put_added (codes "depth") (more_values CommandLine (text ∷ [])) (row_for (Named option.Depth) text ∷ []) rows e
used_adds (Named option.Vmid) text rows e = put_added (codes "vmid") (more_values CommandLine (text ∷ [])) (row_for (Named option.Vmid) text ∷ []) rows e
used_adds (Named option.Cid) text rows e = put_added (codes "cid") (more_values CommandLine (text ∷ [])) (row_for (Named option.Cid) text ∷ []) rows e
used_adds (Named option.Settings) text rows e =
    put_added (codes "settings") (more_values CommandLine (text ∷ [])) (row_for (Named option.Settings) text ∷ []) rows e
used_adds (Named option.Elf) text rows e =
    put_added (codes "elf") (more_values CommandLine (codes "true" ∷ [])) (row_for (Named option.Elf) (codes "true") ∷ []) rows e
used_adds (Named option.Count) text rows e =
    put_added (codes "count") (more_values CommandLine (codes "true" ∷ [])) (row_for (Named option.Count) (codes "true") ∷ []) rows e
used_adds (Named option.Last) text rows e = put_added (codes "last") (more_values CommandLine (text ∷ [])) (row_for (Named option.Last) text ∷ []) rows e
used_adds (Named option.SyncEvery) text rows e =
    put_added (codes "sync-every") (more_values CommandLine (text ∷ [])) (row_for (Named option.SyncEvery) text ∷ []) rows e
used_adds (Named option.Cut) text rows e = put_added (codes "cut") (more_values CommandLine (text ∷ [])) (row_for (Named option.Cut) text ∷ []) rows e
used_adds Positional text rows e = put_added (codes "POSITIONAL") (more_values CommandLine (text ∷ [])) (row_for Positional text ∷ []) rows e

shows_this : (k : Key) (text : Text) (rows : List Row) → lookup (id_of k) rows ≡ None → lookup (id_of k) (row_for k text ∷ []) ≡ Some (row_for k text)
    → lookup (id_of k) (rows ++ row_for k text ∷ []) ≡ Some (row_for k text)
shows_this k text rows none is = find_none _ rows (row_for k text ∷ []) none ∙ is

shows_by : (k j : Key) (text : Text) (rows : List Row) (seen : Seen) → lookup (id_of j) rows ≡ option_map (row_for j) (text_in j seen)
    → lookup (id_of k) rows ≡ None
    → lookup (id_of j) (rows ++ row_for k (text_for k text) ∷ []) ≡ option_map (row_for j) (text_in j (seen_with k text seen))
shows_by (Named option.Raw) (Named option.Raw) text rows seen is none = shows_this (Named option.Raw) (codes "true") rows none refl
shows_by (Named option.Wrap) (Named option.Wrap) text rows seen is none = shows_this (Named option.Wrap) text rows none refl
shows_by (Named option.Sync) (Named option.Sync) text rows seen is none = shows_this (Named option.Sync) (codes "true") rows none refl
shows_by (Named option.Depth) (Named option.Depth) text rows seen is none = shows_this (Named option.Depth) text rows none refl
shows_by (Named option.Vmid) (Named option.Vmid) text rows seen is none = shows_this (Named option.Vmid) text rows none refl
shows_by (Named option.Cid) (Named option.Cid) text rows seen is none = shows_this (Named option.Cid) text rows none refl
shows_by (Named option.Settings) (Named option.Settings) text rows seen is none = shows_this (Named option.Settings) text rows none refl
shows_by (Named option.Elf) (Named option.Elf) text rows seen is none = shows_this (Named option.Elf) (codes "true") rows none refl
shows_by (Named option.Count) (Named option.Count) text rows seen is none = shows_this (Named option.Count) (codes "true") rows none refl
shows_by (Named option.Last) (Named option.Last) text rows seen is none = shows_this (Named option.Last) text rows none refl
shows_by (Named option.SyncEvery) (Named option.SyncEvery) text rows seen is none = shows_this (Named option.SyncEvery) text rows none refl
shows_by (Named option.Cut) (Named option.Cut) text rows seen is none = shows_this (Named option.Cut) text rows none refl
shows_by Positional Positional text rows seen is none = shows_this Positional text rows none refl
shows_by Positional (Named option.Raw) text rows seen is none = find_before _ rows (row_for Positional text ∷ []) refl ∙ is
shows_by Positional (Named option.Wrap) text rows seen is none = find_before _ rows (row_for Positional text ∷ []) refl ∙ is
shows_by Positional (Named option.Sync) text rows seen is none = find_before _ rows (row_for Positional text ∷ []) refl ∙ is
shows_by Positional (Named option.Depth) text rows seen is none = find_before _ rows (row_for Positional text ∷ []) refl ∙ is
shows_by Positional (Named option.Vmid) text rows seen is none = find_before _ rows (row_for Positional text ∷ []) refl ∙ is
shows_by Positional (Named option.Cid) text rows seen is none = find_before _ rows (row_for Positional text ∷ []) refl ∙ is
shows_by Positional (Named option.Settings) text rows seen is none = find_before _ rows (row_for Positional text ∷ []) refl ∙ is
shows_by Positional (Named option.Elf) text rows seen is none = find_before _ rows (row_for Positional text ∷ []) refl ∙ is
shows_by Positional (Named option.Count) text rows seen is none = find_before _ rows (row_for Positional text ∷ []) refl ∙ is
shows_by Positional (Named option.Last) text rows seen is none = find_before _ rows (row_for Positional text ∷ []) refl ∙ is
shows_by Positional (Named option.SyncEvery) text rows seen is none = find_before _ rows (row_for Positional text ∷ []) refl ∙ is
shows_by Positional (Named option.Cut) text rows seen is none = find_before _ rows (row_for Positional text ∷ []) refl ∙ is
shows_by k j text rows seen is none = find_before _ rows (row_for k (text_for k text) ∷ []) refl ∙ is

pub shows_more : (k : Key) (text : Text) (rows : List Row) (seen : Seen) → Shows rows seen → text_in k seen ≡ None
    → Shows (used (rule_of k) (values_for k text) rows) (seen_with k text seen)
shows_more k text rows seen shows none j =
    let free = shows k ∙ ap (option_map (row_for k)) none in
    ap (lookup (id_of j)) (used_adds k text rows free) ∙ shows_by k j text rows seen (shows j) free

-- ---- the faults of a use

abbrev pub IsFault : Kinds → Type 0
IsFault [] = ⊥
IsFault (k ∷ kinds) = ⊤

pub fault_first : (a b : Kinds) → IsFault a → IsFault (or_else a b)
fault_first [] b bad = absurd bad
fault_first (k ∷ kinds) b bad = tt

pub fault_then : (a b : Kinds) → IsFault b → IsFault (or_else a b)
fault_then [] b bad = bad
fault_then (k ∷ kinds) b bad = tt

-- a use of what was not seen has no fault
pub use_passes : (k : Key) (text : Text) (rows : List Row) → has_row (id_of k) rows ≡ false → use_fault false (rule_of k) (values_for k text) rows ≡ []
use_passes (Named option.Raw) text rows none = simp none
use_passes (Named option.Wrap) text rows none = simp none
use_passes (Named option.Sync) text rows none = simp none
use_passes (Named option.Depth) text rows none = simp none
use_passes (Named option.Vmid) text rows none = simp none
use_passes (Named option.Cid) text rows none = simp none
use_passes (Named option.Settings) text rows none = simp none
use_passes (Named option.Elf) text rows none = simp none
use_passes (Named option.Count) text rows none = simp none
use_passes (Named option.Last) text rows none = simp none
use_passes (Named option.SyncEvery) text rows none = simp none
use_passes (Named option.Cut) text rows none = simp none
use_passes Positional text rows none = simp none

-- and of what was seen has one
set_again : (a : Rule) (values : List Text) (rows : List Row) → has_row a.id rows ≡ true → IsFault (set_fault false a values rows)
set_again a values rows there = fault_first (repeat_fault false a.id rows) (values_fault a values) (simp there tt)

action_again : (a : Rule) (values : List Text) (rows : List Row) → has_row a.id rows ≡ true
    → use_fault false a values rows ≡ or_else (range_kinds (unwrap_or_range a.range).start_inclusive (most_values a) (length values))
    (set_fault false a (values_or_missing a values) rows) → IsFault (use_fault false a values rows)
action_again a values rows there is =
    subst IsFault (sym is) (fault_then (range_kinds (unwrap_or_range a.range).start_inclusive (most_values a) (length values))
    (set_fault false a (values_or_missing a values) rows) (set_again a (values_or_missing a values) rows there))

pub use_again : (o : CommandOption) (values : List Text) (rows : List Row) → has_row (key_of o) rows ≡ true
    → IsFault (use_fault false (done_option o) values rows)
use_again option.Raw values rows there = action_again (done_option option.Raw) values rows there refl
use_again option.Wrap values rows there = action_again (done_option option.Wrap) values rows there refl
use_again option.Sync values rows there = action_again (done_option option.Sync) values rows there refl
use_again option.Depth values rows there = action_again (done_option option.Depth) values rows there refl
use_again option.Vmid values rows there = action_again (done_option option.Vmid) values rows there refl
use_again option.Cid values rows there = action_again (done_option option.Cid) values rows there refl
use_again option.Settings values rows there = action_again (done_option option.Settings) values rows there refl
use_again option.Elf values rows there = action_again (done_option option.Elf) values rows there refl
use_again option.Count values rows there = action_again (done_option option.Count) values rows there refl
use_again option.Last values rows there = action_again (done_option option.Last) values rows there refl
use_again option.SyncEvery values rows there = action_again (done_option option.SyncEvery) values rows there refl
use_again option.Cut values rows there = action_again (done_option option.Cut) values rows there refl

-- an option has a value
pub use_bare : (o : CommandOption) (rows : List Row) → takes_value o ≡ true → IsFault (use_fault false (done_option o) [] rows)
use_bare option.Raw rows takes = absurd cc
use_bare option.Wrap rows takes = tt
use_bare option.Sync rows takes = absurd cc
use_bare option.Depth rows takes = tt
use_bare option.Vmid rows takes = tt
use_bare option.Cid rows takes = tt
use_bare option.Settings rows takes = tt
use_bare option.Elf rows takes = absurd cc
use_bare option.Count rows takes = absurd cc
use_bare option.Last rows takes = tt
use_bare option.SyncEvery rows takes = tt
use_bare option.Cut rows takes = tt
