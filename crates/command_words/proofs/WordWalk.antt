-- The walk of clap over the words behind a command, one word at a time.
use Rattle.std.proofs.Common.{◌≡◌, ◌⊎◌, ℕ, Bool, true, false, ◌&&◌, ◌==◌, List, [], ◌∷◌, codes, Option, Some, None}
use Rattle.std.proofs.Common.{find, refl, sym, ap, subst, ◌∙◌, inl, inr, option_map}
use Rattle.std.specs.Option.{option_map_or}
use Rattle.std.specs.Str.{bytes_eq, chars}
use Rattle.clap.specs.Words.{Row, Rule, Text}
use Rattle.clap.specs.Walk.{Held, Step, Walk, Waiting, idle, option as waits_for, value, next, after_step, arg_by_index, arg_by_long, flag_met, long_met}
use Rattle.clap.specs.Walk.{long_word}
use Rattle.clap.specs.Walk.{Outcome, after_flag}
use Rattle.clap.specs.Walk.{most_values, option_met, plain_word, settled_rows, to_positional, used, walked, word_met}
use Rattle.clap.specs.Faults.{flags_fault, long_fault, positional_fault, settle_fault, step_fault, turn_fault, use_fault, word_fault}
use Rattle.clap.specs.Kinds.{Kinds, or_else}
use Rattle.clap.specs.declared.error.ErrorKind.TheVariants as kind
use Rattle.command_words.specs.declared.words.CommandOption.{CommandOption}
use Rattle.command_words.specs.declared.words.CommandOption.TheVariants as option
use Rattle.command_words.specs.Words.{CommandRow, is_dashed, key_of, name_and_value, name_of, takes_value}
use Rattle.command_words.proofs.WordTurns.{Has}
use Rattle.command_words.proofs.WordParses.{IsFault, at_index, by_id, by_long, by_short, done_option, done_positional, fault_first, leaf, own_key}
use Rattle.command_words.proofs.WordParses.{positional_part}
use Rattle.command_words.proofs.WordParses.{rules}

abbrev pub Pending : Type 0
Pending = Option (Text × List Text)

abbrev pub hold : List Row → Pending → Held
hold rows pending = record { rows = rows; pending = pending; skip = 0 }

-- between two words, before any subcommand
abbrev pub at : List Row → Pending → Waiting → ℕ → Bool → Walk
at rows pending waiting place trailing =
    record { held = hold rows pending; waiting = waiting; position = place; is_trailing = trailing; stopped = None }

turn_by : (row : CommandRow) (rows : List Row) (p : Pending) (w : Waiting) (n : ℕ) (t : Bool) (word : Text) (m : Held × Step) (f : Kinds)
    → word_met (rules row) [] t w n word (hold rows p) ≡ m → word_fault (leaf row) [] t w word (hold rows p) ≡ f
    → turn_fault (leaf row) [] (at rows p w n t) word ≡ or_else f (step_fault (leaf row) n m.0 m.1)
turn_by row rows p w n t word m f met fault =
    ap (λ (x : Held × Step). or_else (word_fault (leaf row) [] t w word (hold rows p)) (step_fault (leaf row) n x.0 x.1)) met
    ∙ ap (λ (x : Kinds). or_else x (step_fault (leaf row) n m.0 m.1)) fault

walk_by : (row : CommandRow) (rows : List Row) (p : Pending) (w : Waiting) (n : ℕ) (t : Bool) (word : Text) (m : Held × Step)
    → word_met (rules row) [] t w n word (hold rows p) ≡ m
    → walked (rules row) [] (at rows p w n t) word ≡ after_step (rules row) word (at rows p w n t) m.0 m.1
unfolding walked
walk_by row rows p w n t word m met = ap (λ (x : Held × Step). after_step (rules row) word (at rows p w n t) x.0 x.1) met

pub turn_bad : (row : CommandRow) (rows : List Row) (p : Pending) (w : Waiting) (n : ℕ) (t : Bool) (word : Text)
    → IsFault (word_fault (leaf row) [] t w word (hold rows p)) → IsFault (turn_fault (leaf row) [] (at rows p w n t) word)
turn_bad row rows p w n t word bad =
    fault_first (word_fault (leaf row) [] t w word (hold rows p)) _ bad

-- ---- a word that is no flag

plain_byte : (row : CommandRow) (n a : ℕ) (h : Held) (w : Waiting) (b : Bool) → (w ≡ idle) ⊎ ((id : Text) × (w ≡ waits_for id)) → (a == 45) ≡ b
    → (word_met (rules row) [] false w n (a ∷ []) h ≡ plain_word (rules row) w (a ∷ []) h) × (word_fault (leaf row) [] false w (a ∷ []) h ≡ [])
plain_byte row n a h w true (inl is) e = rw is (simp e, simp e)
plain_byte row n a h w false (inl is) e = rw is (simp e, simp e)
plain_byte row n a h w true (inr p) e = rw p.1 (simp e, simp e)
plain_byte row n a h w false (inr p) e = rw p.1 (simp e, simp e)

pub met_plain : (row : CommandRow) (n : ℕ) (word : Text) (h : Held) (w : Waiting) → (w ≡ idle) ⊎ ((id : Text) × (w ≡ waits_for id)) → is_dashed word ≡ false
    → (word_met (rules row) [] false w n word h ≡ plain_word (rules row) w word h) × (word_fault (leaf row) [] false w word h ≡ [])
met_plain row n [] h w (inl is) plain = rw is (refl, refl)
met_plain row n [] h w (inr p) plain = rw p.1 (refl, refl)
met_plain row n (a ∷ []) h w kind plain = plain_byte row n a h w (a == 45) kind refl
met_plain row n (a ∷ b ∷ rest) h w (inl is) plain = rw is (simp plain, simp plain)
met_plain row n (a ∷ b ∷ rest) h w (inr p) plain = rw p.1 (simp plain, simp plain)

-- ---- a word for the positional

pub positional_next : (row : CommandRow) → row.has_positional ≡ true → arg_by_index (rules row) 1 ≡ Some done_positional
positional_next line has = at_index line 1 ∙ ap (λ b. arg_by_index (positional_part b) 1) has

pub positional_none : (row : CommandRow) → row.has_positional ≡ false → arg_by_index (rules row) 1 ≡ None
positional_none line none = at_index line 1 ∙ ap (λ b. arg_by_index (positional_part b) 1) none

no_second_of : (b : Bool) → arg_by_index (positional_part b) 2 ≡ None
no_second_of true = refl
no_second_of false = refl

pub no_second : (row : CommandRow) → arg_by_index (rules row) 2 ≡ None
no_second line = at_index line 2 ∙ no_second_of line.has_positional

and_false : (b : Bool) → (b && false) ≡ false
and_false true = refl
and_false false = refl

-- a word that is for a positional, by how it was met
pub record IsValue (row : CommandRow) (rows : List Row) (p : Pending) (w : Waiting) (n : ℕ) (t : Bool) (word : Text) : Type 0 where
  pub met : word_met (rules row) [] t w n word (hold rows p) ≡ (hold rows p, value)
  pub fault : word_fault (leaf row) [] t w word (hold rows p) ≡ []

pub value_behind : (row : CommandRow) (rows : List Row) (p : Pending) (w : Waiting) (n : ℕ) (word : Text) → IsValue row rows p w n true word
value_behind row rows p w n word = record { met = refl; fault = refl }

pub value_plain : (row : CommandRow) (rows : List Row) (p : Pending) (n : ℕ) (word : Text) → is_dashed word ≡ false → IsValue row rows p idle n false word
value_plain row rows p n word plain =
    let m = met_plain row n word (hold rows p) idle (inl refl) plain in record { met = m.0; fault = m.1 }

pub stray : (row : CommandRow) (rows : List Row) (p : Pending) (w : Waiting) (n : ℕ) (t : Bool) (word : Text) → IsValue row rows p w n t word
    → arg_by_index (rules row) n ≡ None → IsFault (turn_fault (leaf row) [] (at rows p w n t) word)
stray row rows p w n t word is none =
    let turn = turn_by row rows p w n t word (hold rows p, value) [] is.met is.fault in
    let step : step_fault (leaf row) n (hold rows p) value ≡ kind.UnknownArgument ∷ [] = simp none in
    subst IsFault (sym (turn ∙ step)) tt

-- the fault of what is pending comes with a positional
positional_settles : (row : CommandRow) (rows : List Row) (p : Pending)
    → positional_fault (rules row) false done_positional (hold rows p) ≡ settle_fault (rules row) false (hold rows p)
positional_settles row rows None = refl
positional_settles row rows (Some q) = simp (and_false (bytes_eq q.0 (codes "POSITIONAL")))

pub positional_turn : (row : CommandRow) (rows : List Row) (p : Pending) (w : Waiting) (t : Bool) (word : Text) → IsValue row rows p w 1 t word
    → row.has_positional ≡ true → turn_fault (leaf row) [] (at rows p w 1 t) word ≡ settle_fault (rules row) false (hold rows p)
positional_turn row rows p w t word is has =
    turn_by row rows p w 1 t word (hold rows p, value) [] is.met is.fault
    ∙ ap (λ (a : Option Rule). option_map_or (λ r. positional_fault (rules row) false r (hold rows p)) a (kind.UnknownArgument ∷ [])) (positional_next row has)
    ∙ positional_settles row rows p

positional_held : (row : CommandRow) (rows : List Row) (p : Pending) (t : Bool) (word : Text)
    → to_positional (rules row) (Some done_positional) word (at rows p idle 1 t) (hold rows p)
    ≡ at (settled_rows (rules row) p rows) (Some (codes "POSITIONAL", word ∷ [])) idle 2 t
positional_held row rows None true word = refl
positional_held row rows None false word = refl
positional_held row rows (Some q) true word = simp (and_false (bytes_eq q.0 (codes "POSITIONAL")))
positional_held row rows (Some q) false word = simp (and_false (bytes_eq q.0 (codes "POSITIONAL")))

pub positional_walk : (row : CommandRow) (rows : List Row) (p : Pending) (t : Bool) (word : Text) → IsValue row rows p idle 1 t word → row.has_positional ≡ true
    → walked (rules row) [] (at rows p idle 1 t) word ≡ at (settled_rows (rules row) p rows) (Some (codes "POSITIONAL", word ∷ [])) idle 2 t
positional_walk row rows p t word is has =
    walk_by row rows p idle 1 t word (hold rows p, value) is.met
    ∙ ap (λ (a : Option Rule). to_positional (rules row) a word (at rows p idle 1 t) (hold rows p)) (positional_next row has)
    ∙ positional_held row rows p t word

-- ---- the value of an option that waits

most_is : (o : CommandOption) → takes_value o ≡ true → most_values (done_option o) ≡ 1
most_is option.Raw takes = absurd cc
most_is option.Wrap takes = refl
most_is option.Sync takes = absurd cc
most_is option.Depth takes = refl
most_is option.Vmid takes = refl
most_is option.Cid takes = refl
most_is option.Settings takes = refl
most_is option.Elf takes = absurd cc
most_is option.Count takes = absurd cc
most_is option.Last takes = refl
most_is option.SyncEvery takes = refl
most_is option.Cut takes = refl

-- the step over a value
value_step : (row : CommandRow) (rows : List Row) (o : CommandOption) (word : Text) → Has row o → takes_value o ≡ true
    → plain_word (rules row) (waits_for (key_of o)) word (hold rows (Some (key_of o, []))) ≡ (hold rows (Some (key_of o, word ∷ [])), next idle)
value_step row rows o word has takes = simp (by_id row o has, own_key o, most_is o takes)

pub value_turn : (row : CommandRow) (rows : List Row) (n : ℕ) (o : CommandOption) (word : Text) → Has row o → takes_value o ≡ true → is_dashed word ≡ false
    → (turn_fault (leaf row) [] (at rows (Some (key_of o, [])) (waits_for (key_of o)) n false) word ≡ [])
    × (walked (rules row) [] (at rows (Some (key_of o, [])) (waits_for (key_of o)) n false) word ≡ at rows (Some (key_of o, word ∷ [])) idle n false)
value_turn row rows n o word has takes plain =
    let p = Some (key_of o, []) in let w = waits_for (key_of o) in
    let m = met_plain row n word (hold rows p) w (inr (key_of o, refl)) plain in
    let met = m.0 ∙ value_step row rows o word has takes in (
      turn_by row rows p w n false word (hold rows (Some (key_of o, word ∷ [])), next idle) [] met m.1,
      walk_by row rows p w n false word (hold rows (Some (key_of o, word ∷ [])), next idle) met,
    )

-- ---- `--`

pub end_turn : (row : CommandRow) (rows : List Row) (p : Pending) (n : ℕ) → (turn_fault (leaf row) [] (at rows p idle n false) (codes "--") ≡ [])
    × (walked (rules row) [] (at rows p idle n false) (codes "--") ≡ at rows p idle n true)
unfolding walked
end_turn row rows p n = (refl, refl)

pub end_waits : (row : CommandRow) (rows : List Row) (p : Pending) (id : Text) (n : ℕ)
    → (turn_fault (leaf row) [] (at rows p (waits_for id) n false) (codes "--") ≡ [])
    × (walked (rules row) [] (at rows p (waits_for id) n false) (codes "--") ≡ at rows p (waits_for id) n true)
unfolding walked
end_waits row rows p id n = (refl, refl)

-- ---- an option

-- the word `--NAME..` has the fault of the option that it names
long_fault_is : (row : CommandRow) (rows : List Row) (p : Pending) (x : ℕ) (text : Text) (w : Waiting) → (w ≡ idle) ⊎ ((id : Text) × (w ≡ waits_for id))
    → word_fault (leaf row) [] false w (45 ∷ 45 ∷ x ∷ text) (hold rows p)
    ≡ long_fault (rules row) false (arg_by_long (rules row) (name_and_value (x ∷ text)).0) (name_and_value (x ∷ text)).1 (hold rows p)
long_fault_is row rows p x text w (inl is) = rw is refl
long_fault_is row rows p x text w (inr q) = rw q.1 refl

pub long_named : (row : CommandRow) (rows : List Row) (p : Pending) (x : ℕ) (text : Text) (w : Waiting) (name : Text) (v : Option Text)
    (found : Option CommandOption) → (w ≡ idle) ⊎ ((id : Text) × (w ≡ waits_for id)) → name_and_value (x ∷ text) ≡ (name, v)
    → find (λ o. bytes_eq name (name_of o)) row.options ≡ found
    → word_fault (leaf row) [] false w (45 ∷ 45 ∷ x ∷ text) (hold rows p) ≡ long_fault (rules row) false (option_map done_option found) v (hold rows p)
long_named row rows p x text w name v found kind cut is =
    long_fault_is row rows p x text w kind
    ∙ ap (λ (q : Text × Option Text). long_fault (rules row) false (arg_by_long (rules row) q.0) q.1 (hold rows p)) cut
    ∙ ap (λ (a : Option Rule). long_fault (rules row) false a v (hold rows p)) (by_long row name ∙ ap (option_map done_option) is)

long_met_is : (row : CommandRow) (rows : List Row) (p : Pending) (n x : ℕ) (text name : Text) (v : Option Text)
    (found : Option CommandOption) → name_and_value (x ∷ text) ≡ (name, v) → find (λ o. bytes_eq name (name_of o)) row.options ≡ found
    → word_met (rules row) [] false idle n (45 ∷ 45 ∷ x ∷ text) (hold rows p)
    ≡ after_flag (rules row) idle (45 ∷ 45 ∷ x ∷ text) (long_met (rules row) (option_map done_option found) v (hold rows p)).0
    (long_met (rules row) (option_map done_option found) v (hold rows p)).1
long_met_is row rows p n x text name v found cut is =
    let word = 45 ∷ 45 ∷ x ∷ text in
    ap (λ (q : Text × Option Text). long_word (rules row) idle word q.0 q.1 (hold rows p)) cut
    ∙ ap (λ (a : Option Rule). after_flag (rules row) idle word (long_met (rules row) a v (hold rows p)).0 (long_met (rules row) a v (hold rows p)).1)
    (by_long row name ∙ ap (option_map done_option) is)

-- an option with its value
pub join_turn : (row : CommandRow) (rows : List Row) (p : Pending) (n x : ℕ) (text name v : Text) (o : CommandOption)
    → name_and_value (x ∷ text) ≡ (name, Some v)
    → find (λ q. bytes_eq name (name_of q)) row.options ≡ Some o → takes_value o ≡ true
    → (turn_fault (leaf row) [] (at rows p idle n false) (45 ∷ 45 ∷ x ∷ text)
    ≡ or_else (or_else (settle_fault (rules row) false (hold rows p)) (use_fault false (done_option o) (v ∷ []) (settled_rows (rules row) p rows))) [])
    × (walked (rules row) [] (at rows p idle n false) (45 ∷ 45 ∷ x ∷ text)
    ≡ at (used (done_option o) (v ∷ []) (settled_rows (rules row) p rows)) None idle n false)
join_turn row rows p n x text name v o cut is takes =
    let word = 45 ∷ 45 ∷ x ∷ text in let m : Held × Step = (hold (used (done_option o) (v ∷ []) (settled_rows (rules row) p rows)) None, next idle) in
    let long : long_met (rules row) (Some (done_option o)) (Some v) (hold rows p) ≡ option_met (rules row) (done_option o) (Some v)
    (hold rows p) = simp takes in
    let met = long_met_is row rows p n x text name (Some v) (Some o) cut is
    ∙ ap (λ (l : Held × Outcome). after_flag (rules row) idle word l.0 l.1) long in
    let bad : long_fault (rules row) false (Some (done_option o)) (Some v) (hold rows p)
    ≡ or_else (settle_fault (rules row) false (hold rows p)) (use_fault false (done_option o) (v ∷ []) (settled_rows (rules row) p rows)) = simp takes in
    let fault = long_named row rows p x text idle name (Some v) (Some o) (inl refl) cut is ∙ bad in
    (turn_by row rows p idle n false word m _ met fault, walk_by row rows p idle n false word m met)

-- an option that takes the next word
pub wait_turn : (row : CommandRow) (rows : List Row) (p : Pending) (n x : ℕ) (text name : Text) (o : CommandOption) → name_and_value (x ∷ text) ≡ (name, None)
    → find (λ q. bytes_eq name (name_of q)) row.options ≡ Some o → takes_value o ≡ true
    → (turn_fault (leaf row) [] (at rows p idle n false) (45 ∷ 45 ∷ x ∷ text) ≡ or_else (settle_fault (rules row) false (hold rows p)) [])
    × (walked (rules row) [] (at rows p idle n false) (45 ∷ 45 ∷ x ∷ text)
    ≡ at (settled_rows (rules row) p rows) (Some (key_of o, [])) (waits_for (key_of o)) n false)
wait_turn row rows p n x text name o cut is takes =
    let word = 45 ∷ 45 ∷ x ∷ text in let m : Held × Step = (hold (settled_rows (rules row) p rows) (Some (key_of o, [])), next (waits_for (key_of o))) in
    let long : long_met (rules row) (Some (done_option o)) None (hold rows p) ≡ option_met (rules row) (done_option o) None (hold rows p) = simp takes in
    let met = long_met_is row rows p n x text name None (Some o) cut is
    ∙ ap (λ (l : Held × Outcome). after_flag (rules row) idle word l.0 l.1) long in
    let bad : long_fault (rules row) false (Some (done_option o)) None (hold rows p) ≡ settle_fault (rules row) false (hold rows p) = simp takes in
    let fault = long_named row rows p x text idle name None (Some o) (inl refl) cut is ∙ bad in
    (turn_by row rows p idle n false word m _ met fault, walk_by row rows p idle n false word m met)

-- a flag
pub flag_turn : (row : CommandRow) (rows : List Row) (p : Pending) (n x : ℕ) (text name : Text) (o : CommandOption) → name_and_value (x ∷ text) ≡ (name, None)
    → find (λ q. bytes_eq name (name_of q)) row.options ≡ Some o → takes_value o ≡ false
    → (turn_fault (leaf row) [] (at rows p idle n false) (45 ∷ 45 ∷ x ∷ text)
    ≡ or_else (or_else (settle_fault (rules row) false (hold rows p)) (use_fault false (done_option o) [] (settled_rows (rules row) p rows))) [])
    × (walked (rules row) [] (at rows p idle n false) (45 ∷ 45 ∷ x ∷ text)
    ≡ at (used (done_option o) [] (settled_rows (rules row) p rows)) None idle n false)
flag_turn row rows p n x text name o cut is takes =
    let word = 45 ∷ 45 ∷ x ∷ text in let m : Held × Step = (hold (used (done_option o) [] (settled_rows (rules row) p rows)) None, next idle) in
    let long : long_met (rules row) (Some (done_option o)) None (hold rows p) ≡ flag_met (rules row) (done_option o) None (hold rows p) = simp takes in
    let met = long_met_is row rows p n x text name None (Some o) cut is
    ∙ ap (λ (l : Held × Outcome). after_flag (rules row) idle word l.0 l.1) long in
    let bad : long_fault (rules row) false (Some (done_option o)) None (hold rows p)
    ≡ or_else (settle_fault (rules row) false (hold rows p)) (use_fault false (done_option o) [] (settled_rows (rules row) p rows)) = simp takes in
    let fault = long_named row rows p x text idle name None (Some o) (inl refl) cut is ∙ bad in
    (turn_by row rows p idle n false word m _ met fault, walk_by row rows p idle n false word m met)

-- ---- words with a fault

-- a flag with a value
pub flag_bad : (row : CommandRow) (h : Held) (o : CommandOption) (v : Text) → takes_value o ≡ false
    → IsFault (long_fault (rules row) false (Some (done_option o)) (Some v) h)
flag_bad row h o v takes = simp takes tt

-- another option, while what is pending has a fault
pending_bad_by : (row : CommandRow) (h : Held) (found : Option CommandOption) (v : Option Text) (t : Bool) → IsFault (settle_fault (rules row) false h)
    → ((o : CommandOption) → found ≡ Some o → takes_value o ≡ t) → IsFault (long_fault (rules row) false (option_map done_option found) v h)
pending_bad_by row h None v t bad is = tt
pending_bad_by row h (Some o) None true bad is = let takes = is o refl in simp takes bad
pending_bad_by row h (Some o) (Some v) true bad is = let takes = is o refl in simp takes (fault_first (settle_fault (rules row) false h) _ bad)
pending_bad_by row h (Some o) None false bad is = let takes = is o refl in simp takes (fault_first (settle_fault (rules row) false h) _ bad)
pending_bad_by row h (Some o) (Some v) false bad is = let takes = is o refl in flag_bad row h o v takes

takes_of : Option CommandOption → Bool
takes_of None = false
takes_of (Some o) = takes_value o

takes_found : (found : Option CommandOption) (o : CommandOption) → found ≡ Some o → takes_value o ≡ takes_of found
unfolding takes_of
takes_found found o is = rw is refl

pub pending_bad : (row : CommandRow) (h : Held) (found : Option CommandOption) (v : Option Text) → IsFault (settle_fault (rules row) false h)
    → IsFault (long_fault (rules row) false (option_map done_option found) v h)
pending_bad row h found v bad = pending_bad_by row h found v (takes_of found) bad (takes_found found)

-- `-x`
pub short_bad : (row : CommandRow) (rows : List Row) (p : Pending) (b : ℕ) (rest : Text) (w : Waiting) → (w ≡ idle) ⊎ ((id : Text) × (w ≡ waits_for id))
    → (b == 45) ≡ false → (x : ℕ) (xs : List ℕ) → chars (b ∷ rest) ≡ x ∷ xs → IsFault (word_fault (leaf row) [] false w (45 ∷ b ∷ rest) (hold rows p))
unfolding flags_fault
short_bad row rows p b rest w (inl is) e x xs some = rw is (simp (e, some, by_short row x) tt)
short_bad row rows p b rest w (inr q) e x xs some = rw q.1 (simp (e, some, by_short row x) tt)
