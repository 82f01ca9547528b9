-- The walk of clap over the words behind a command, and what is seen of them, are the same.
use Rattle.std.proofs.Common.{◌≡◌, ◌⊎◌, ℕ, Bool, true, false, ◌==◌, if◌then◌else◌, List, [], ◌∷◌, codes, Option, Some, None, is_some}
use Rattle.std.proofs.Common.{find, fold, refl, sym, ap, subst, ◌∙◌, inl, inr, arith, option_map}
use Rattle.std.proofs.lemmas.Bool.Decides.{nat_tests}
use Rattle.std.specs.Option.{option_and_then}
use Rattle.std.specs.Str.{bytes_eq, chars}
use Rattle.clap.specs.Words.{Row, Text}
use Rattle.clap.specs.Walk.{Walk, Waiting, idle, option as waits_for, has_row, settled_rows, used, walked}
use Rattle.clap.specs.Faults.{settle_fault, turn_fault, use_fault}
use Rattle.clap.specs.Kinds.{Kinds, or_else}
use Rattle.command_words.specs.declared.words.CommandOption.{CommandOption}
use Rattle.command_words.specs.declared.words.CommandOption.TheVariants as option
use Rattle.command_words.specs.Words.{CommandRow, Seen, is_dashed, is_seen, is_whole, key_of, name_and_value, name_of, seen_of, takes_value}
use Rattle.command_words.specs.Words.{with_named, with_option, with_positional, with_value, with_word}
use Rattle.command_words.proofs.WordTurns.{Has, has_found}
use Rattle.command_words.proofs.WordParses.{IsFault, Named, Positional, Shows, by_id, done_option, done_positional, fault_first, fault_then, leaf, no_row}
use Rattle.command_words.proofs.WordParses.{positional_by_id, row_for, rules, shows_more, some_row, text_in, use_again, use_bare, use_passes, values_for}
use Rattle.command_words.proofs.WordWalk.{IsValue, Pending, at, end_turn, end_waits, flag_bad, flag_turn, hold, join_turn, long_named, no_second}
use Rattle.command_words.proofs.WordWalk.{pending_bad, positional_none, positional_turn, positional_walk, short_bad, stray, turn_bad, value_behind}
use Rattle.command_words.proofs.WordWalk.{value_plain, value_turn, wait_turn}
use Rattle.command_words.proofs.WordEnds.{end_bad, end_fault, end_is, end_more, end_pending, missing}

-- ---- kinds of words

pub data Kind (word : Text) : Type 0 where
  Ends : word ≡ codes "--" → Kind word
  Short : (b : ℕ) → (rest : Text) → word ≡ 45 ∷ b ∷ rest → (b == 45) ≡ false → Kind word
  Long : (x : ℕ) → (text : Text) → word ≡ 45 ∷ 45 ∷ x ∷ text → Kind word
  Plain : is_dashed word ≡ false → Kind word

kind_by : (a b : ℕ) (rest : Text) (s t : Bool) → (a == 45) ≡ s → (b == 45) ≡ t → Kind (a ∷ b ∷ rest)
kind_by a b rest false t x y = Plain x
kind_by a b rest true false x y = let same : a ≡ 45 = grind (arith, nat_tests) in Short b rest (ap (λ (c : ℕ). c ∷ b ∷ rest) same) y
kind_by a b [] true true x y =
    let same : a ≡ 45 = grind (arith, nat_tests) in let other : b ≡ 45 = grind (arith, nat_tests) in Ends (λ i. same i ∷ other i ∷ [])
kind_by a b (c ∷ rest) true true x y =
    let same : a ≡ 45 = grind (arith, nat_tests) in let other : b ≡ 45 = grind (arith, nat_tests) in Long c rest (λ i. same i ∷ other i ∷ c ∷ rest)

pub kind_of : (word : Text) → Kind word
kind_of [] = Plain refl
kind_of (a ∷ []) = Plain refl
kind_of (a ∷ b ∷ rest) = kind_by a b rest (a == 45) (b == 45) refl refl

-- what follows a dash has characters, as in a text
abbrev pub AreTexts : List Text → Type 0
AreTexts [] = Unit {0}
AreTexts (word ∷ words) = ((b : ℕ) (rest : Text) → word ≡ 45 ∷ b ∷ rest → (x : ℕ) × (xs : List ℕ) × (chars (b ∷ rest) ≡ x ∷ xs)) × AreTexts words

-- ---- what is seen

value_positional : (o : CommandOption) (v : Text) (seen : Seen) → (with_value o v seen).positional ≡ seen.positional
value_positional option.Raw v seen = refl
value_positional option.Wrap v seen = refl
value_positional option.Sync v seen = refl
value_positional option.Depth v seen = refl
value_positional option.Vmid v seen = refl
value_positional option.Cid v seen = refl
value_positional option.Settings v seen = refl
value_positional option.Elf v seen = refl
value_positional option.Count v seen = refl
value_positional option.Last v seen = refl
value_positional option.SyncEvery v seen = refl
value_positional option.Cut v seen = refl

value_ended : (o : CommandOption) (v : Text) (seen : Seen) → (with_value o v seen).ended ≡ seen.ended
value_ended option.Raw v seen = refl
value_ended option.Wrap v seen = refl
value_ended option.Sync v seen = refl
value_ended option.Depth v seen = refl
value_ended option.Vmid v seen = refl
value_ended option.Cid v seen = refl
value_ended option.Settings v seen = refl
value_ended option.Elf v seen = refl
value_ended option.Count v seen = refl
value_ended option.Last v seen = refl
value_ended option.SyncEvery v seen = refl
value_ended option.Cut v seen = refl

value_free : (o : CommandOption) (v : Text) (seen : Seen) → (with_value o v seen).waits ≡ None
value_free option.Raw v seen = refl
value_free option.Wrap v seen = refl
value_free option.Sync v seen = refl
value_free option.Depth v seen = refl
value_free option.Vmid v seen = refl
value_free option.Cid v seen = refl
value_free option.Settings v seen = refl
value_free option.Elf v seen = refl
value_free option.Count v seen = refl
value_free option.Last v seen = refl
value_free option.SyncEvery v seen = refl
value_free option.Cut v seen = refl

values_is : (o : CommandOption) (v : Text) → takes_value o ≡ true → values_for (Named o) v ≡ v ∷ []
values_is option.Raw v takes = absurd cc
values_is option.Wrap v takes = refl
values_is option.Sync v takes = absurd cc
values_is option.Depth v takes = refl
values_is option.Vmid v takes = refl
values_is option.Cid v takes = refl
values_is option.Settings v takes = refl
values_is option.Elf v takes = absurd cc
values_is option.Count v takes = absurd cc
values_is option.Last v takes = refl
values_is option.SyncEvery v takes = refl
values_is option.Cut v takes = refl

values_none : (o : CommandOption) (v : Text) → takes_value o ≡ false → values_for (Named o) v ≡ []
values_none option.Raw v takes = refl
values_none option.Wrap v takes = absurd cc
values_none option.Sync v takes = refl
values_none option.Depth v takes = absurd cc
values_none option.Vmid v takes = absurd cc
values_none option.Cid v takes = absurd cc
values_none option.Settings v takes = absurd cc
values_none option.Elf v takes = refl
values_none option.Count v takes = refl
values_none option.Last v takes = absurd cc
values_none option.SyncEvery v takes = absurd cc
values_none option.Cut v takes = absurd cc

none_of : (x : Option Text) → is_some x ≡ false → x ≡ None
none_of None e = refl
none_of (Some v) e = absurd cc

some_of : (x : Option Text) → is_some x ≡ true → (v : Text) × (x ≡ Some v)
some_of None e = absurd cc
some_of (Some v) e = (v, refl)

raw_none : (raw : Bool) → raw ≡ false → (if raw then Some (codes "true") else None) ≡ None
raw_none raw e = simp e

not_shown : (o : CommandOption) (seen : Seen) → is_seen o seen ≡ false → text_in (Named o) seen ≡ None
not_shown option.Raw seen e = raw_none seen.raw e
not_shown option.Wrap seen e = none_of seen.wrap e
not_shown option.Sync seen e = raw_none seen.sync e
not_shown option.Depth seen e = none_of seen.depth e
not_shown option.Vmid seen e = none_of seen.vmid e
not_shown option.Cid seen e = none_of seen.cid e
not_shown option.Settings seen e = none_of seen.settings e
not_shown option.Elf seen e = raw_none seen.elf e
not_shown option.Count seen e = raw_none seen.count e
not_shown option.Last seen e = none_of seen.last e
not_shown option.SyncEvery seen e = none_of seen.every e
not_shown option.Cut seen e = none_of seen.cut e

is_shown : (o : CommandOption) (seen : Seen) → is_seen o seen ≡ true → (v : Text) × (text_in (Named o) seen ≡ Some v)
is_shown option.Raw seen e = (codes "true", simp e)
is_shown option.Wrap seen e = some_of seen.wrap e
is_shown option.Sync seen e = (codes "true", simp e)
is_shown option.Depth seen e = some_of seen.depth e
is_shown option.Vmid seen e = some_of seen.vmid e
is_shown option.Cid seen e = some_of seen.cid e
is_shown option.Settings seen e = some_of seen.settings e
is_shown option.Elf seen e = (codes "true", simp e)
is_shown option.Count seen e = (codes "true", simp e)
is_shown option.Last seen e = some_of seen.last e
is_shown option.SyncEvery seen e = some_of seen.every e
is_shown option.Cut seen e = some_of seen.cut e

row_there : (o : CommandOption) (rows : List Row) (seen : Seen) → Shows rows seen → is_seen o seen ≡ true → has_row (key_of o) rows ≡ true
row_there o rows seen shows there =
    let shown = is_shown o seen there in
    some_row (key_of o) rows (row_for (Named o) shown.0) (shows (Named o) ∙ ap (option_map (row_for (Named o))) shown.1)

row_not : (o : CommandOption) (rows : List Row) (seen : Seen) → Shows rows seen → is_seen o seen ≡ false → has_row (key_of o) rows ≡ false
row_not o rows seen shows none = no_row (key_of o) rows (shows (Named o) ∙ ap (option_map (row_for (Named o))) (not_shown o seen none))

-- a use of an option that was not seen
use_clean : (o : CommandOption) (v : Text) (vs : List Text) (rows : List Row) (seen : Seen) → Shows rows seen → is_seen o seen ≡ false
    → values_for (Named o) v ≡ vs → use_fault false (done_option o) vs rows ≡ []
use_clean o v vs rows seen shows none is =
    subst (λ (x : List Text). use_fault false (done_option o) x rows ≡ []) is (use_passes (Named o) v rows (row_not o rows seen shows none))

use_shows : (o : CommandOption) (v : Text) (vs : List Text) (rows : List Row) (seen : Seen) → Shows rows seen → is_seen o seen ≡ false
    → values_for (Named o) v ≡ vs → Shows (used (done_option o) vs rows) (with_value o v seen)
use_shows o v vs rows seen shows none is =
    subst (λ (x : List Text). Shows (used (done_option o) x rows) (with_value o v seen)) is (shows_more (Named o) v rows seen shows (not_shown o seen none))

-- ---- states that end in a fault, whatever comes

abbrev pub place_of : Option Text → ℕ
place_of None = 1
place_of (Some v) = 2

-- a positional meets what is pending
value_bad : (row : CommandRow) (rows : List Row) (p : Pending) (w : Waiting) (positional : Option Text) (t : Bool) (word : Text) (b : Bool)
    → row.has_positional ≡ b
    → IsValue row rows p w (place_of positional) t word → IsFault (settle_fault (rules row) false (hold rows p))
    → IsFault (turn_fault (leaf row) [] (at rows p w (place_of positional) t) word)
value_bad row rows p w None t word true has is bad = subst IsFault (sym (positional_turn row rows p w t word is has)) bad
value_bad row rows p w None t word false has is bad = stray row rows p w 1 t word is (positional_none row has)
value_bad row rows p w (Some v) t word b has is bad = stray row rows p w 2 t word is (no_second row)

settle_is : (row : CommandRow) (rows : List Row) (o : CommandOption) (vs : List Text) → Has row o
    → settle_fault (rules row) false (hold rows (Some (key_of o, vs))) ≡ use_fault false (done_option o) vs rows
settle_is row rows o vs has = simp (by_id row o has)

-- an option behind which `--` stands in place of its value
pub bare_bad : (row : CommandRow) (rows : List Row) (o : CommandOption) (positional : Option Text) (words : List Text) → Has row o → takes_value o ≡ true
    → IsFault (end_fault row (at rows (Some (key_of o, [])) (waits_for (key_of o)) (place_of positional) true) words)
bare_bad row rows o positional [] has takes =
    end_pending row rows (Some (key_of o, [])) (waits_for (key_of o)) (place_of positional) true
    (subst IsFault (sym (settle_is row rows o [] has)) (use_bare o rows takes))
bare_bad row rows o positional (word ∷ words) has takes =
    let p = Some (key_of o, []) in let w = waits_for (key_of o) in
    end_bad row (at rows p w (place_of positional) true) word words (value_bad row rows p w positional true word row.has_positional refl
    (value_behind row rows p w (place_of positional) word) (subst IsFault (sym (settle_is row rows o [] has)) (use_bare o rows takes)))

-- an option that stands twice is pending, without its value or with it
abbrev pending_of : CommandOption → Option Text → Text × List Text
pending_of o None = (key_of o, [])
pending_of o (Some v) = (key_of o, v ∷ [])

abbrev waits_of : CommandOption → Option Text → Waiting
waits_of o None = waits_for (key_of o)
waits_of o (Some v) = idle

abbrev again : List Row → CommandOption → Option Text → Option Text → Bool → Walk
again rows o v positional t = at rows (Some (pending_of o v)) (waits_of o v) (place_of positional) t

pending_again : (row : CommandRow) (rows : List Row) (o : CommandOption) (v : Option Text) → Has row o → has_row (key_of o) rows ≡ true
    → IsFault (settle_fault (rules row) false (hold rows (Some (pending_of o v))))
pending_again row rows o None has there = subst IsFault (sym (settle_is row rows o [] has)) (use_again o [] rows there)
pending_again row rows o (Some v) has there = subst IsFault (sym (settle_is row rows o (v ∷ []) has)) (use_again o (v ∷ []) rows there)

waits_kind : (o : CommandOption) (v : Option Text) → (waits_of o v ≡ idle) ⊎ ((id : Text) × (waits_of o v ≡ waits_for id))
waits_kind o None = inr (key_of o, refl)
waits_kind o (Some v) = inl refl

-- a dashed word that is no `--` meets what is pending
dashed_bad : (row : CommandRow) (rows : List Row) (p : Pending) (w : Waiting) (n x : ℕ) (text : Text) (word : Text) → word ≡ 45 ∷ 45 ∷ x ∷ text
    → (w ≡ idle) ⊎ ((id : Text) × (w ≡ waits_for id)) → IsFault (settle_fault (rules row) false (hold rows p))
    → IsFault (turn_fault (leaf row) [] (at rows p w n false) word)
dashed_bad row rows p w n x text word is kind bad =
    let cut = name_and_value (x ∷ text) in let found = find (λ o. bytes_eq cut.0 (name_of o)) row.options in
    let fault = long_named row rows p x text w cut.0 cut.1 found kind refl refl in
    subst (λ (u : Text). IsFault (turn_fault (leaf row) [] (at rows p w n false) u)) (sym is)
    (turn_bad row rows p w n false (45 ∷ 45 ∷ x ∷ text) (subst IsFault (sym fault) (pending_bad row (hold rows p) found cut.1 bad)))

dash_bad : (row : CommandRow) (rows : List Row) (p : Pending) (w : Waiting) (n b : ℕ) (rest : Text) (word : Text) → word ≡ 45 ∷ b ∷ rest → (b == 45) ≡ false
    → (w ≡ idle) ⊎ ((id : Text) × (w ≡ waits_for id)) → AreTexts (word ∷ []) → IsFault (turn_fault (leaf row) [] (at rows p w n false) word)
dash_bad row rows p w n b rest word is other kind texts =
    let c = texts.0 b rest is in
    subst (λ (u : Text). IsFault (turn_fault (leaf row) [] (at rows p w n false) u)) (sym is)
    (turn_bad row rows p w n false (45 ∷ b ∷ rest) (short_bad row rows p b rest w kind other c.0 c.1 c.2))

again_ends : (row : CommandRow) (rows : List Row) (o : CommandOption) (v positional : Option Text) (word : Text) → word ≡ codes "--"
    → (turn_fault (leaf row) [] (again rows o v positional false) word ≡ [])
    × (walked (rules row) [] (again rows o v positional false) word ≡ again rows o v positional true)
again_ends row rows o None positional word is = rw is (end_waits row rows (Some (key_of o, [])) (key_of o) (place_of positional))
again_ends row rows o (Some v) positional word is = rw is (end_turn row rows (Some (key_of o, v ∷ [])) (place_of positional))

again_plain : (row : CommandRow) (rows : List Row) (o : CommandOption) (v positional : Option Text) (word : Text) (words : List Text) → Has row o
    → takes_value o ≡ true
    → has_row (key_of o) rows ≡ true → is_dashed word ≡ false → IsFault (end_fault row (again rows o (Some word) positional false) words)
    → IsFault (end_fault row (again rows o v positional false) (word ∷ words))
again_plain row rows o None positional word words has takes there plain rest =
    let turn = value_turn row rows (place_of positional) o word has takes plain in
    subst IsFault (sym (end_more row (again rows o None positional false) (again rows o (Some word) positional false) word words turn.0 turn.1)) rest
again_plain row rows o (Some v) positional word words has takes there plain rest =
    end_bad row (again rows o (Some v) positional false) word words
    (value_bad row rows (Some (key_of o, v ∷ [])) idle positional false word row.has_positional refl
    (value_plain row rows (Some (key_of o, v ∷ [])) (place_of positional) word plain) (pending_again row rows o (Some v) has there))

again_bad : (row : CommandRow) (words : List Text) → AreTexts words → (rows : List Row) (o : CommandOption) (v positional : Option Text) (t : Bool)
    → Has row o → takes_value o ≡ true → has_row (key_of o) rows ≡ true → IsFault (end_fault row (again rows o v positional t) words)
again_bad row [] texts rows o v positional t has takes there =
    end_pending row rows (Some (pending_of o v)) (waits_of o v) (place_of positional) t (pending_again row rows o v has there)
again_bad row (word ∷ words) texts rows o v positional true has takes there =
    end_bad row (again rows o v positional true) word words
    (value_bad row rows (Some (pending_of o v)) (waits_of o v) positional true word row.has_positional refl
    (value_behind row rows (Some (pending_of o v)) (waits_of o v) (place_of positional) word) (pending_again row rows o v has there))
again_bad row (word ∷ words) texts rows o v positional false has takes there = elim (kind_of word) [
  | Ends is ↦
      let turn = again_ends row rows o v positional word is in
      subst IsFault (sym (end_more row (again rows o v positional false) (again rows o v positional true) word words turn.0 turn.1))
      (again_bad row words texts.1 rows o v positional true has takes there)
  | Short b rest is other ↦
      end_bad row (again rows o v positional false) word words
      (dash_bad row rows (Some (pending_of o v)) (waits_of o v) (place_of positional) b rest word is other (waits_kind o v) (texts.0, tt))
  | Long x text is ↦
      end_bad row (again rows o v positional false) word words
      (dashed_bad row rows (Some (pending_of o v)) (waits_of o v) (place_of positional) x text word is (waits_kind o v) (pending_again row rows o v has there))
  | Plain plain ↦
      again_plain row rows o v positional word words has takes there plain (again_bad row words texts.1 rows o (Some word) positional false has takes there)
]

-- ---- the agreement

-- where all is seen, the walk ends without a fault, with its rows; and else with a fault
pub record Agrees (row : CommandRow) (seen : Seen) (words : List Text) (w : Walk) : Type 0 where
  pub meant : (end : Seen) → seen_of row seen words ≡ Some end
      → (end_fault row w words ≡ []) × (let held = (fold (walked (rules row) []) w words).held in Shows (settled_rows (rules row) held.pending held.rows) end)
  pub refused : seen_of row seen words ≡ None → IsFault (end_fault row w words)

step_on : (row : CommandRow) (seen next : Seen) (word : Text) (words : List Text) (w v : Walk) → with_word row word seen ≡ Some next
    → turn_fault (leaf row) [] w word ≡ [] → walked (rules row) [] w word ≡ v → Agrees row next words v → Agrees row seen (word ∷ words) w
step_on row seen next word words w v step clean walks rest =
    let same : seen_of row seen (word ∷ words) ≡ seen_of row next words = ap (option_and_then (λ n. seen_of row n words)) step in
    let faults = end_more row w v word words clean walks in
    record {
      meant = λ end e. let m = rest.meant end (sym same ∙ e) in (
        faults ∙ m.0,
        subst (λ (u : Walk). let held = (fold (walked (rules row) []) u words).held in Shows (settled_rows (rules row) held.pending held.rows) end)
            (sym walks) m.1,
      );
      refused = λ e. subst IsFault (sym faults) (rest.refused (sym same ∙ e));
    }

step_bad : (row : CommandRow) (seen : Seen) (word : Text) (words : List Text) (w : Walk) → with_word row word seen ≡ None
    → IsFault (end_fault row w (word ∷ words)) → Agrees row seen (word ∷ words) w
step_bad row seen word words w step bad =
    let same : seen_of row seen (word ∷ words) ≡ None = ap (option_and_then (λ n. seen_of row n words)) step in
    record { meant = λ end e. absurd (let f = sym same ∙ e in cc); refused = λ e. bad }

turn_refused : (row : CommandRow) (seen : Seen) (word : Text) (words : List Text) (w : Walk) → with_word row word seen ≡ None
    → IsFault (turn_fault (leaf row) [] w word) → Agrees row seen (word ∷ words) w
turn_refused row seen word words w step bad = step_bad row seen word words w step (end_bad row w word words bad)

-- what is seen, and a walk that stands there: no option waits, and what is pending has no fault; or an option of the command waits
pub data Stands (row : CommandRow) (seen : Seen) : Type 0 where
  Idles : (rows : List Row) → (p : Pending) → seen.waits ≡ None → settle_fault (rules row) false (hold rows p) ≡ []
      → Shows (settled_rows (rules row) p rows) seen → Stands row seen
  Pends : (rows : List Row) → (o : CommandOption) → seen.waits ≡ Some o → seen.ended ≡ false → Has row o → takes_value o ≡ true
      → is_seen o seen ≡ false → Shows rows seen → Stands row seen

abbrev pub walk_of : (row : CommandRow) (seen : Seen) → Stands row seen → Walk
walk_of row seen (Idles rows p free clean shows) = at rows p idle (place_of seen.positional) seen.ended
walk_of row seen (Pends rows o waits off has takes none shows) = at rows (Some (key_of o, [])) (waits_for (key_of o)) (place_of seen.positional) false

abbrev Rest : CommandRow → List Text → Seen → Type 0
Rest row words next = (st : Stands row next) → Agrees row next words (walk_of row next st)

-- ---- at the end

whole_is : (row : CommandRow) (seen : Seen) (positional : Option Text) (b : Bool) → seen.waits ≡ None → seen.positional ≡ positional → row.has_positional ≡ b
    → (missing b positional ≡ []) × (seen_of row seen [] ≡ Some seen) ⊎ IsFault (missing b positional) × (seen_of row seen [] ≡ None)
whole_is row seen (Some v) true free is has = let w : is_whole row seen ≡ true = simp (free, is) in inl (refl, simp w)
whole_is row seen (Some v) false free is has = let w : is_whole row seen ≡ true = simp (free, is) in inl (refl, simp w)
whole_is row seen None false free is has = let w : is_whole row seen ≡ true = simp (free, is, has) in inl (refl, simp w)
whole_is row seen None true free is has = let w : is_whole row seen ≡ false = simp (free, is, has) in inr (tt, simp w)

ends_idle : (row : CommandRow) (seen : Seen) (rows : List Row) (p : Pending) → seen.waits ≡ None → settle_fault (rules row) false (hold rows p) ≡ []
    → Shows (settled_rows (rules row) p rows) seen → Agrees row seen [] (at rows p idle (place_of seen.positional) seen.ended)
ends_idle row seen rows p free clean shows =
    let fault = end_is row rows p idle (place_of seen.positional) seen.ended seen clean shows in
    elim (whole_is row seen seen.positional row.has_positional free refl refl) [
      | inl w ↦ record {
        meant = λ end e. (fault ∙ w.0, let same : seen ≡ end = (let f = sym w.1 ∙ e in cc) in subst (Shows (settled_rows (rules row) p rows)) same shows);
        refused = λ e. absurd (let f = sym w.1 ∙ e in cc);
      }
      | inr w ↦ record { meant = λ end e. absurd (let f = sym w.1 ∙ e in cc); refused = λ e. subst IsFault (sym fault) w.0 }
    ]

ends_pending : (row : CommandRow) (seen : Seen) (rows : List Row) (o : CommandOption) → seen.waits ≡ Some o → Has row o → takes_value o ≡ true
    → Agrees row seen [] (at rows (Some (key_of o, [])) (waits_for (key_of o)) (place_of seen.positional) false)
ends_pending row seen rows o waits has takes =
    let w : is_whole row seen ≡ false = simp waits in let none : seen_of row seen [] ≡ None = simp w in
    record {
      meant = λ end e. absurd (let f = sym none ∙ e in cc);
      refused = λ e. end_pending row rows (Some (key_of o, [])) (waits_for (key_of o)) (place_of seen.positional) false
          (subst IsFault (sym (settle_is row rows o [] has)) (use_bare o rows takes));
    }

-- ---- a word for the positional

abbrev positional_stands : (row : CommandRow) (seen : Seen) (rows : List Row) (word : Text) → seen.waits ≡ None → Shows rows seen → seen.positional ≡ None
    → row.has_positional ≡ true
    → Stands row (record seen { positional = Some word })
positional_stands row seen rows word free shows none has =
    let found = positional_by_id row has in
    let clean : settle_fault (rules row) false (hold rows (Some (codes "POSITIONAL", word ∷ []))) ≡ [] =
    simp found (use_passes Positional word rows (no_row (codes "POSITIONAL") rows (shows Positional ∙ ap (option_map (row_for Positional)) none))) in
    let settles : settled_rows (rules row) (Some (codes "POSITIONAL", word ∷ [])) rows ≡ used done_positional (word ∷ []) rows = simp found in
    Idles rows (Some (codes "POSITIONAL", word ∷ [])) free clean
    (subst (λ (r : List Row). Shows r (record seen { positional = Some word })) (sym settles) (shows_more Positional word rows seen shows none))

positional_case : (row : CommandRow) (seen : Seen) (word : Text) (words : List Text) (rows : List Row) (p : Pending) (positional : Option Text) (b : Bool)
    → seen.positional ≡ positional → row.has_positional ≡ b → seen.waits ≡ None → settle_fault (rules row) false (hold rows p) ≡ []
    → Shows (settled_rows (rules row) p rows) seen → IsValue row rows p idle (place_of positional) seen.ended word
    → with_word row word seen ≡ with_positional row word seen
    → Rest row words (record seen { positional = Some word }) → Agrees row seen (word ∷ words) (at rows p idle (place_of positional) seen.ended)
positional_case row seen word words rows p None false is has free clean shows taken step rest =
    let none : with_positional row word seen ≡ None = simp has in
    turn_refused row seen word words (at rows p idle 1 seen.ended) (step ∙ none) (stray row rows p idle 1 seen.ended word taken (positional_none row has))
positional_case row seen word words rows p (Some v) b is has free clean shows taken step rest =
    turn_refused row seen word words (at rows p idle 2 seen.ended) (step ∙ no_more b has) (stray row rows p idle 2 seen.ended word taken (no_second row))
  where
    no_more : (c : Bool) → row.has_positional ≡ c → with_positional row word seen ≡ None
    no_more true has = simp (has, is)
    no_more false has = simp has
positional_case row seen word words rows p None true is has free clean shows taken step rest =
    let some : with_positional row word seen ≡ Some (record seen { positional = Some word }) = simp (has, is) in
    step_on row seen (record seen { positional = Some word }) word words (at rows p idle 1 seen.ended)
    (at (settled_rows (rules row) p rows) (Some (codes "POSITIONAL", word ∷ [])) idle 2 seen.ended) (step ∙ some)
    (positional_turn row rows p idle seen.ended word taken has ∙ clean) (positional_walk row rows p seen.ended word taken has)
    (rest (positional_stands row seen (settled_rows (rules row) p rows) word free shows is has))

-- ---- an option

-- the state behind an option with its value
abbrev value_stands : (row : CommandRow) (seen : Seen) (rows : List Row) (o : CommandOption) (v : Text) → Shows rows (with_value o v seen)
    → Stands row (with_value o v seen)
value_stands row seen rows o v shows = Idles rows None (value_free o v seen) refl shows

value_walk : (rows : List Row) (seen : Seen) (o : CommandOption) (v : Text)
    → at rows None idle (place_of seen.positional) seen.ended ≡ at rows None idle (place_of (with_value o v seen).positional) (with_value o v seen).ended
value_walk rows seen o v =
    ap (λ (i : Option Text). at rows None idle (place_of i) seen.ended) (sym (value_positional o v seen))
    ∙ ap (λ (t : Bool). at rows None idle (place_of (with_value o v seen).positional) t) (sym (value_ended o v seen))

both_clean : (a b : Kinds) → a ≡ [] → b ≡ [] → or_else (or_else a b) [] ≡ []
both_clean a b x y = ap (λ (k : Kinds). or_else (or_else k b) []) x ∙ ap (λ (k : Kinds). or_else k []) y

second_bad : (a b : Kinds) → IsFault b → IsFault (or_else (or_else a b) [])
second_bad a b bad = fault_first (or_else a b) [] (fault_then a b bad)

-- an option, by its name and its value
record IsNamed (row : CommandRow) (seen : Seen) (rows : List Row) (p : Pending) (x : ℕ) (text name : Text) (v : Option Text) : Type 0 where
  cut : name_and_value (x ∷ text) ≡ (name, v)
  free : seen.waits ≡ None
  off : seen.ended ≡ false
  clean : settle_fault (rules row) false (hold rows p) ≡ []
  shows : Shows (settled_rows (rules row) p rows) seen

named_is : (row : CommandRow) (seen : Seen) (rows : List Row) (p : Pending) (x : ℕ) (text name : Text) (v : Option Text) (found : Option CommandOption)
    → IsNamed row seen rows p x text name v → find (λ q. bytes_eq name (name_of q)) row.options ≡ found
    → with_word row (45 ∷ 45 ∷ x ∷ text) seen ≡ option_and_then (λ o. with_option o v seen) found
named_is row seen rows p x text name v found is there =
    let free = is.free in let off = is.off in
    let step : with_word row (45 ∷ 45 ∷ x ∷ text) seen ≡ with_named row (x ∷ text) seen = simp (free, off) in
    step ∙ ap (λ (w : List ℕ × Option (List ℕ)). option_and_then (λ o. with_option o w.1 seen) (find (λ o. bytes_eq w.0 (name_of o)) row.options)) is.cut
    ∙ ap (option_and_then (λ o. with_option o v seen)) there

abbrev idle_at : Seen → List Row → Pending → Walk
idle_at seen rows p = at rows p idle (place_of seen.positional) seen.ended

off_walk : (seen : Seen) (rows : List Row) (p : Pending) → seen.ended ≡ false → idle_at seen rows p ≡ at rows p idle (place_of seen.positional) false
off_walk seen rows p off = ap (at rows p idle (place_of seen.positional)) off

join_case : (row : CommandRow) (seen : Seen) (words : List Text) (rows : List Row) (p : Pending) (x : ℕ) (text name v : Text) (o : CommandOption) (b : Bool)
    → IsNamed row seen rows p x text name (Some v) → find (λ q. bytes_eq name (name_of q)) row.options ≡ Some o → takes_value o ≡ true → is_seen o seen ≡ b
    → Rest row words (with_value o v seen) → Agrees row seen ((45 ∷ 45 ∷ x ∷ text) ∷ words) (at rows p idle (place_of seen.positional) false)
join_case row seen words rows p x text name v o true is there takes seen_is rest =
    let none : with_option o (Some v) seen ≡ None = simp seen_is in
    let turn = join_turn row rows p (place_of seen.positional) x text name v o is.cut there takes in
    turn_refused row seen (45 ∷ 45 ∷ x ∷ text) words (at rows p idle (place_of seen.positional) false)
    (named_is row seen rows p x text name (Some v) (Some o) is there ∙ none)
    (subst IsFault (sym turn.0) (second_bad (settle_fault (rules row) false (hold rows p))
    (use_fault false (done_option o) (v ∷ []) (settled_rows (rules row) p rows))
    (use_again o (v ∷ []) (settled_rows (rules row) p rows) (row_there o (settled_rows (rules row) p rows) seen is.shows seen_is))))
join_case row seen words rows p x text name v o false is there takes seen_is rest =
    let some : with_option o (Some v) seen ≡ Some (with_value o v seen) = simp (seen_is, takes) in
    let settled = settled_rows (rules row) p rows in let shows = use_shows o v (v ∷ []) settled seen is.shows seen_is (values_is o v takes) in
    let turn = join_turn row rows p (place_of seen.positional) x text name v o is.cut there takes in let more = used (done_option o) (v ∷ []) settled in
    step_on row seen (with_value o v seen) (45 ∷ 45 ∷ x ∷ text) words (at rows p idle (place_of seen.positional) false)
    (idle_at (with_value o v seen) more None) (named_is row seen rows p x text name (Some v) (Some o) is there ∙ some)
    (turn.0 ∙ both_clean (settle_fault (rules row) false (hold rows p)) (use_fault false (done_option o) (v ∷ []) settled) is.clean
    (use_clean o v (v ∷ []) settled seen is.shows seen_is (values_is o v takes)))
    (turn.1 ∙ (sym (off_walk seen more None is.off) ∙ value_walk more seen o v)) (rest (value_stands row seen more o v shows))

flag_case : (row : CommandRow) (seen : Seen) (words : List Text) (rows : List Row) (p : Pending) (x : ℕ) (text name : Text) (o : CommandOption) (b : Bool)
    → IsNamed row seen rows p x text name None → find (λ q. bytes_eq name (name_of q)) row.options ≡ Some o → takes_value o ≡ false → is_seen o seen ≡ b
    → Rest row words (with_value o [] seen) → Agrees row seen ((45 ∷ 45 ∷ x ∷ text) ∷ words) (at rows p idle (place_of seen.positional) false)
flag_case row seen words rows p x text name o true is there takes seen_is rest =
    let none : with_option o None seen ≡ None = simp seen_is in
    let turn = flag_turn row rows p (place_of seen.positional) x text name o is.cut there takes in
    turn_refused row seen (45 ∷ 45 ∷ x ∷ text) words (at rows p idle (place_of seen.positional) false)
    (named_is row seen rows p x text name None (Some o) is there ∙ none)
    (subst IsFault (sym turn.0) (second_bad (settle_fault (rules row) false (hold rows p))
    (use_fault false (done_option o) [] (settled_rows (rules row) p rows))
    (use_again o [] (settled_rows (rules row) p rows) (row_there o (settled_rows (rules row) p rows) seen is.shows seen_is))))
flag_case row seen words rows p x text name o false is there takes seen_is rest =
    let some : with_option o None seen ≡ Some (with_value o [] seen) = simp (seen_is, takes) in
    let settled = settled_rows (rules row) p rows in let shows = use_shows o [] [] settled seen is.shows seen_is (values_none o [] takes) in
    let turn = flag_turn row rows p (place_of seen.positional) x text name o is.cut there takes in let more = used (done_option o) [] settled in
    step_on row seen (with_value o [] seen) (45 ∷ 45 ∷ x ∷ text) words (at rows p idle (place_of seen.positional) false)
    (idle_at (with_value o [] seen) more None) (named_is row seen rows p x text name None (Some o) is there ∙ some)
    (turn.0 ∙ both_clean (settle_fault (rules row) false (hold rows p)) (use_fault false (done_option o) [] settled) is.clean
    (use_clean o [] [] settled seen is.shows seen_is (values_none o [] takes)))
    (turn.1 ∙ (sym (off_walk seen more None is.off) ∙ value_walk more seen o [])) (rest (value_stands row seen more o [] shows))

seen_waits : (p : CommandOption) (waits : Option CommandOption) (seen : Seen) → is_seen p (record seen { waits = waits }) ≡ is_seen p seen
seen_waits option.Raw waits seen = refl
seen_waits option.Wrap waits seen = refl
seen_waits option.Sync waits seen = refl
seen_waits option.Depth waits seen = refl
seen_waits option.Vmid waits seen = refl
seen_waits option.Cid waits seen = refl
seen_waits option.Settings waits seen = refl
seen_waits option.Elf waits seen = refl
seen_waits option.Count waits seen = refl
seen_waits option.Last waits seen = refl
seen_waits option.SyncEvery waits seen = refl
seen_waits option.Cut waits seen = refl

shows_waits : (rows : List Row) (waits : Option CommandOption) (seen : Seen) → Shows rows seen → Shows rows (record seen { waits = waits })
shows_waits rows waits seen shows (Named option.Raw) = shows (Named option.Raw)
shows_waits rows waits seen shows (Named option.Wrap) = shows (Named option.Wrap)
shows_waits rows waits seen shows (Named option.Sync) = shows (Named option.Sync)
shows_waits rows waits seen shows (Named option.Depth) = shows (Named option.Depth)
shows_waits rows waits seen shows (Named option.Vmid) = shows (Named option.Vmid)
shows_waits rows waits seen shows (Named option.Cid) = shows (Named option.Cid)
shows_waits rows waits seen shows (Named option.Settings) = shows (Named option.Settings)
shows_waits rows waits seen shows (Named option.Elf) = shows (Named option.Elf)
shows_waits rows waits seen shows (Named option.Count) = shows (Named option.Count)
shows_waits rows waits seen shows (Named option.Last) = shows (Named option.Last)
shows_waits rows waits seen shows (Named option.SyncEvery) = shows (Named option.SyncEvery)
shows_waits rows waits seen shows (Named option.Cut) = shows (Named option.Cut)
shows_waits rows waits seen shows Positional = shows Positional

shows_ended : (rows : List Row) (ended : Bool) (seen : Seen) → Shows rows seen → Shows rows (record seen { ended = ended })
shows_ended rows ended seen shows (Named option.Raw) = shows (Named option.Raw)
shows_ended rows ended seen shows (Named option.Wrap) = shows (Named option.Wrap)
shows_ended rows ended seen shows (Named option.Sync) = shows (Named option.Sync)
shows_ended rows ended seen shows (Named option.Depth) = shows (Named option.Depth)
shows_ended rows ended seen shows (Named option.Vmid) = shows (Named option.Vmid)
shows_ended rows ended seen shows (Named option.Cid) = shows (Named option.Cid)
shows_ended rows ended seen shows (Named option.Settings) = shows (Named option.Settings)
shows_ended rows ended seen shows (Named option.Elf) = shows (Named option.Elf)
shows_ended rows ended seen shows (Named option.Count) = shows (Named option.Count)
shows_ended rows ended seen shows (Named option.Last) = shows (Named option.Last)
shows_ended rows ended seen shows (Named option.SyncEvery) = shows (Named option.SyncEvery)
shows_ended rows ended seen shows (Named option.Cut) = shows (Named option.Cut)
shows_ended rows ended seen shows Positional = shows Positional

wait_case : (row : CommandRow) (seen : Seen) (words : List Text) → AreTexts words
    → (rows : List Row) (p : Pending) (x : ℕ) (text name : Text) (o : CommandOption) (b : Bool)
    → IsNamed row seen rows p x text name None → find (λ q. bytes_eq name (name_of q)) row.options ≡ Some o → takes_value o ≡ true → is_seen o seen ≡ b
    → Rest row words (record seen { waits = Some o }) → Agrees row seen ((45 ∷ 45 ∷ x ∷ text) ∷ words) (at rows p idle (place_of seen.positional) false)
wait_case row seen words texts rows p x text name o true is there takes seen_is rest =
    let none : with_option o None seen ≡ None = simp seen_is in let settled = settled_rows (rules row) p rows in
    let turn = wait_turn row rows p (place_of seen.positional) x text name o is.cut there takes in
    let clean = turn.0 ∙ ap (λ (k : Kinds). or_else k []) is.clean in
    step_bad row seen (45 ∷ 45 ∷ x ∷ text) words (at rows p idle (place_of seen.positional) false)
    (named_is row seen rows p x text name None (Some o) is there ∙ none)
    (subst IsFault (sym (end_more row (at rows p idle (place_of seen.positional) false) (again settled o None seen.positional false)
    (45 ∷ 45 ∷ x ∷ text) words clean turn.1))
    (again_bad row words texts settled o None seen.positional false (has_found row name o there) takes (row_there o settled seen is.shows seen_is)))
wait_case row seen words texts rows p x text name o false is there takes seen_is rest =
    let some : with_option o None seen ≡ Some (record seen { waits = Some o }) = simp (seen_is, takes) in let settled = settled_rows (rules row) p rows in
    let turn = wait_turn row rows p (place_of seen.positional) x text name o is.cut there takes in
    let clean = turn.0 ∙ ap (λ (k : Kinds). or_else k []) is.clean in
    step_on row seen (record seen { waits = Some o }) (45 ∷ 45 ∷ x ∷ text) words (at rows p idle (place_of seen.positional) false)
    (at settled (Some (key_of o, [])) (waits_for (key_of o)) (place_of seen.positional) false)
    (named_is row seen rows p x text name None (Some o) is there ∙ some)
    clean turn.1
    (rest (Pends settled o refl is.off (has_found row name o there) takes (seen_waits o (Some o) seen ∙ seen_is) (shows_waits settled (Some o) seen is.shows)))

-- a flag with a value
flag_value : (row : CommandRow) (seen : Seen) (words : List Text) (rows : List Row) (p : Pending) (x : ℕ) (text name v : Text) (o : CommandOption) (b : Bool)
    → IsNamed row seen rows p x text name (Some v) → find (λ q. bytes_eq name (name_of q)) row.options ≡ Some o → takes_value o ≡ false → is_seen o seen ≡ b
    → Agrees row seen ((45 ∷ 45 ∷ x ∷ text) ∷ words) (at rows p idle (place_of seen.positional) false)
flag_value row seen words rows p x text name v o b is there takes seen_is =
    let none : with_option o (Some v) seen ≡ None = refused b seen_is in
    let fault = long_named row rows p x text idle name (Some v) (Some o) (inl refl) is.cut there in
    turn_refused row seen (45 ∷ 45 ∷ x ∷ text) words (at rows p idle (place_of seen.positional) false)
    (named_is row seen rows p x text name (Some v) (Some o) is there ∙ none)
    (turn_bad row rows p idle (place_of seen.positional) false (45 ∷ 45 ∷ x ∷ text) (subst IsFault (sym fault) (flag_bad row (hold rows p) o v takes)))
  where
    refused : (c : Bool) → is_seen o seen ≡ c → with_option o (Some v) seen ≡ None
    refused true e = simp e
    refused false e = simp (e, takes)

-- another name
other_name : (row : CommandRow) (seen : Seen) (words : List Text) (rows : List Row) (p : Pending) (x : ℕ) (text name : Text) (v : Option Text)
    → IsNamed row seen rows p x text name v → find (λ q. bytes_eq name (name_of q)) row.options ≡ None
    → Agrees row seen ((45 ∷ 45 ∷ x ∷ text) ∷ words) (at rows p idle (place_of seen.positional) false)
other_name row seen words rows p x text name v is there =
    let fault = long_named row rows p x text idle name v None (inl refl) is.cut there in
    turn_refused row seen (45 ∷ 45 ∷ x ∷ text) words (at rows p idle (place_of seen.positional) false) (named_is row seen rows p x text name v None is there)
    (turn_bad row rows p idle (place_of seen.positional) false (45 ∷ 45 ∷ x ∷ text) (subst IsFault (sym fault) tt))

long_case : (row : CommandRow) (seen : Seen) (words : List Text) → AreTexts words → (rows : List Row) (p : Pending) (x : ℕ) (text name : Text) (v : Option Text)
    (found : Option CommandOption) (t : Bool) → IsNamed row seen rows p x text name v → find (λ q. bytes_eq name (name_of q)) row.options ≡ found
    → ((o : CommandOption) → found ≡ Some o → takes_value o ≡ t) → ((next : Seen) → Rest row words next)
    → Agrees row seen ((45 ∷ 45 ∷ x ∷ text) ∷ words) (at rows p idle (place_of seen.positional) false)
long_case row seen words texts rows p x text name v None t is there takes rest = other_name row seen words rows p x text name v is there
long_case row seen words texts rows p x text name (Some v) (Some o) true is there takes rest =
    join_case row seen words rows p x text name v o (is_seen o seen) is there (takes o refl) refl (rest (with_value o v seen))
long_case row seen words texts rows p x text name None (Some o) true is there takes rest =
    wait_case row seen words texts rows p x text name o (is_seen o seen) is there (takes o refl) refl (rest (record seen { waits = Some o }))
long_case row seen words texts rows p x text name (Some v) (Some o) false is there takes rest =
    flag_value row seen words rows p x text name v o (is_seen o seen) is there (takes o refl) refl
long_case row seen words texts rows p x text name None (Some o) false is there takes rest =
    flag_case row seen words rows p x text name o (is_seen o seen) is there (takes o refl) refl (rest (with_value o [] seen))

-- ---- each word

takes_of : Option CommandOption → Bool
takes_of None = false
takes_of (Some o) = takes_value o

takes_found : (found : Option CommandOption) (o : CommandOption) → found ≡ Some o → takes_value o ≡ takes_of found
unfolding takes_of
takes_found found o is = rw is refl

is_short : (row : CommandRow) (seen : Seen) (b : ℕ) (rest : Text) (waits : Option CommandOption) → seen.ended ≡ false → seen.waits ≡ waits → (b == 45) ≡ false
    → with_word row (45 ∷ b ∷ rest) seen ≡ None
is_short row seen b rest None off waits other = simp (off, waits, other)
is_short row seen b rest (Some o) off waits other = simp (off, waits)

idle_off : (row : CommandRow) (seen : Seen) (word : Text) (words : List Text) → AreTexts (word ∷ words) → (rows : List Row) (p : Pending)
    → seen.waits ≡ None → settle_fault (rules row) false (hold rows p) ≡ [] → Shows (settled_rows (rules row) p rows) seen → seen.ended ≡ false → Kind word
    → ((next : Seen) → Rest row words next) → Agrees row seen (word ∷ words) (at rows p idle (place_of seen.positional) false)
idle_off row seen word words texts rows p free clean shows off (Ends is) rest =
    let turn = end_turn row rows p (place_of seen.positional) in
    let some : with_word row (codes "--") seen ≡ Some (record seen { ended = true }) = simp (free, off) in
    subst (λ (u : Text). Agrees row seen (u ∷ words) (at rows p idle (place_of seen.positional) false)) (sym is)
    (step_on row seen (record seen { ended = true }) (codes "--") words (at rows p idle (place_of seen.positional) false)
    (at rows p idle (place_of seen.positional) true)
    some turn.0 turn.1 (rest (record seen { ended = true }) (Idles rows p free clean (shows_ended (settled_rows (rules row) p rows) true seen shows))))
idle_off row seen word words texts rows p free clean shows off (Short b more is other) rest =
    let none : with_word row word seen ≡ None = subst (λ (u : Text). with_word row u seen ≡ None) (sym is) (is_short row seen b more None off free other) in
    turn_refused row seen word words (at rows p idle (place_of seen.positional) false) none
    (dash_bad row rows p idle (place_of seen.positional) b more word is other (inl refl) (texts.0, tt))
idle_off row seen word words texts rows p free clean shows off (Long x text is) rest =
    let cut = name_and_value (x ∷ text) in let found = find (λ q. bytes_eq cut.0 (name_of q)) row.options in
    subst (λ (u : Text). Agrees row seen (u ∷ words) (at rows p idle (place_of seen.positional) false)) (sym is)
    (long_case row seen words texts.1 rows p x text cut.0 cut.1 found (takes_of found)
    (record { cut = refl; free = free; off = off; clean = clean; shows = shows })
    refl (takes_found found) rest)
idle_off row seen word words texts rows p free clean shows off (Plain plain) rest =
    let step : with_word row word seen ≡ with_positional row word seen = simp (free, off, plain) in
    let taken = subst (λ (t : Bool). IsValue row rows p idle (place_of seen.positional) t word) (sym off)
    (value_plain row rows p (place_of seen.positional) word plain) in
    subst (λ (t : Bool). Agrees row seen (word ∷ words) (at rows p idle (place_of seen.positional) t)) off
    (positional_case row seen word words rows p seen.positional row.has_positional refl refl free clean shows taken step
    (rest (record seen { positional = Some word })))

idle_by : (row : CommandRow) (seen : Seen) (word : Text) (words : List Text) → AreTexts (word ∷ words) → (rows : List Row) (p : Pending) (t : Bool)
    → seen.waits ≡ None → settle_fault (rules row) false (hold rows p) ≡ [] → Shows (settled_rows (rules row) p rows) seen → seen.ended ≡ t
    → ((next : Seen) → Rest row words next) → Agrees row seen (word ∷ words) (at rows p idle (place_of seen.positional) seen.ended)
idle_by row seen word words texts rows p false free clean shows ended rest =
    subst (Agrees row seen (word ∷ words)) (sym (off_walk seen rows p ended)) (idle_off row seen word words texts rows p free clean shows ended
    (kind_of word) rest)
idle_by row seen word words texts rows p true free clean shows ended rest =
    let step : with_word row word seen ≡ with_positional row word seen = simp (free, ended) in
    let taken = subst (λ (t : Bool). IsValue row rows p idle (place_of seen.positional) t word) (sym ended)
    (value_behind row rows p idle (place_of seen.positional) word) in
    positional_case row seen word words rows p seen.positional row.has_positional refl refl free clean shows taken step
    (rest (record seen { positional = Some word }))

-- an option waits
dashed_waits : (row : CommandRow) (seen : Seen) (word : Text) (o : CommandOption) → seen.waits ≡ Some o → seen.ended ≡ false → is_dashed word ≡ true
    → with_word row word seen ≡ None
dashed_waits row seen word o waits off dashed = simp (waits, off, dashed)

pends_by : (row : CommandRow) (seen : Seen) (word : Text) (words : List Text) → AreTexts (word ∷ words) → (rows : List Row) (o : CommandOption)
    → seen.waits ≡ Some o → seen.ended ≡ false → Has row o → takes_value o ≡ true → is_seen o seen ≡ false → Shows rows seen → Kind word
    → ((next : Seen) → Rest row words next)
    → Agrees row seen (word ∷ words) (at rows (Some (key_of o, [])) (waits_for (key_of o)) (place_of seen.positional) false)
pends_by row seen word words texts rows o waits off has takes none shows (Ends is) rest =
    let p = Some (key_of o, []) in let w = waits_for (key_of o) in let turn = end_waits row rows p (key_of o) (place_of seen.positional) in
    subst (λ (u : Text). Agrees row seen (u ∷ words) (at rows p w (place_of seen.positional) false)) (sym is)
    (step_bad row seen (codes "--") words (at rows p w (place_of seen.positional) false) (dashed_waits row seen (codes "--") o waits off refl)
    (subst IsFault (sym (end_more row (at rows p w (place_of seen.positional) false) (at rows p w (place_of seen.positional) true) (codes "--") words
    turn.0 turn.1))
    (bare_bad row rows o seen.positional words has takes)))
pends_by row seen word words texts rows o waits off has takes none shows (Short b more is other) rest =
    let p = Some (key_of o, []) in let w = waits_for (key_of o) in
    let refuse : with_word row word seen ≡ None = subst (λ (u : Text). with_word row u seen ≡ None) (sym is)
    (is_short row seen b more (Some o) off waits other) in
    turn_refused row seen word words (at rows p w (place_of seen.positional) false) refuse
    (dash_bad row rows p w (place_of seen.positional) b more word is other (inr (key_of o, refl)) (texts.0, tt))
pends_by row seen word words texts rows o waits off has takes none shows (Long x text is) rest =
    let p = Some (key_of o, []) in let w = waits_for (key_of o) in
    let refuse : with_word row word seen ≡ None =
    subst (λ (u : Text). with_word row u seen ≡ None) (sym is) (dashed_waits row seen (45 ∷ 45 ∷ x ∷ text) o waits off refl) in
    turn_refused row seen word words (at rows p w (place_of seen.positional) false) refuse
    (dashed_bad row rows p w (place_of seen.positional) x text word is (inr (key_of o, refl))
    (subst IsFault (sym (settle_is row rows o [] has)) (use_bare o rows takes)))
pends_by row seen word words texts rows o waits off has takes none shows (Plain plain) rest =
    let p = Some (key_of o, []) in let w = waits_for (key_of o) in
    let some : with_word row word seen ≡ Some (with_value o word seen) = simp (waits, off, plain) in
    let turn = value_turn row rows (place_of seen.positional) o word has takes plain in let q = Some (key_of o, word ∷ []) in
    let clean = settle_is row rows o (word ∷ []) has ∙ use_clean o word (word ∷ []) rows seen shows none (values_is o word takes) in
    let settles : settled_rows (rules row) q rows ≡ used (done_option o) (word ∷ []) rows = let found = by_id row o has in simp found in
    let more = subst (λ (r : List Row). Shows r (with_value o word seen)) (sym settles)
    (use_shows o word (word ∷ []) rows seen shows none (values_is o word takes)) in
    let here = ap (λ (i : Option Text). at rows q idle (place_of i) false) (sym (value_positional o word seen))
    ∙ ap (λ (t : Bool). at rows q idle (place_of (with_value o word seen).positional) t) (sym (value_ended o word seen ∙ off)) in
    step_on row seen (with_value o word seen) word words (at rows p w (place_of seen.positional) false) (idle_at (with_value o word seen) rows q)
    some turn.0 (turn.1 ∙ here) (rest (with_value o word seen) (Idles rows q (value_free o word seen) clean more))

pub agrees : (row : CommandRow) (words : List Text) → AreTexts words → (seen : Seen) (st : Stands row seen) → Agrees row seen words (walk_of row seen st)
agrees row [] texts seen (Idles rows p free clean shows) = ends_idle row seen rows p free clean shows
agrees row [] texts seen (Pends rows o waits off has takes none shows) = ends_pending row seen rows o waits has takes
agrees row (word ∷ words) texts seen (Idles rows p free clean shows) =
    idle_by row seen word words texts rows p seen.ended free clean shows refl (λ next st. agrees row words texts.1 next st)
agrees row (word ∷ words) texts seen (Pends rows o waits off has takes none shows) =
    pends_by row seen word words texts rows o waits off has takes none shows (kind_of word) (λ next st. agrees row words texts.1 next st)
