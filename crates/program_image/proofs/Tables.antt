-- Tables of runs: how they are counted, and what they hold.
use Rattle.std.proofs.Common.{◌≡◌, ◌≢◌, ℕ, zero, suc, ◌+◌, ◌-◌, ◌*◌, ◌/◌, ◌%◌, ◌^◌, ◌<◌, ◌≤◌, List, [], ◌∷◌, ◌++◌, length, take, drop}
use Rattle.std.proofs.Common.{reverse, get_or, Bool, true, false, Some, None, refl, sym, ap}
use Rattle.std.proofs.Common.{◌∙◌, subst, inl, inr, arith, cond, append_assoc, append-nil, length-append, nat_lt}
use Rattle.std.specs.Prelude.{◌==◌, All, Contains, IsSome, MatchOption, slice_get}
use Rattle.std.specs.Option.{option_map}
use Rattle.std.proofs.lemmas.Bool.{cases_Bool, eqb-true, eqb-false, eq-eqb, le-leb, lt-ltb, ltb-true, ltb-false}
use Rattle.std.proofs.lemmas.List.{take-append-drop}
use Rattle.std.proofs.lemmas.List.Elements.{All-cons, All-head, All-tail, All-weaker}
use Rattle.std.proofs.lemmas.Option.{slice_get-get_or, slice_get_past}
use Rattle.std.proofs.Math.Seq.{get_or-append_seam}
use Rattle.byteorder.specs.Endian.{little_number}
use Rattle.a64_branches.specs.Classes.{class_of}
use Rattle.program_image.specs.Part.{InOrder, IsImage, IsPart, Part, end_of, most_bytes, total, word_in, word_of}
use Rattle.program_image.specs.Blocks.{class_at}
use Rattle.program_image.specs.Runs.{AreRuns, IsFollowedBy, IsRun, IsTable, first_run, no_word, run_from, runs_of}
use Rattle.program_image.specs.declared.run.PlainRun.{PlainRun}
use Rattle.program_image.proofs.Gaps.{Behind, none_before}
use Rattle.program_image.proofs.Lists.{reversed_push}
use Rattle.program_image.proofs.Runs.{ended, moved, run_steps}
use Rattle.program_image.proofs.WordSearch.{outside}
use Rattle.program_image.proofs.WordLaws.{word_of_part}
use Rattle.program_image.proofs.WordsBelow.{inside}

-- ---- the runs of bytes, counted from the last word on

-- the bytes behind `rest` have been counted
pub record Counted (bytes rest : List ℕ) (counts : List PlainRun) (next run : PlainRun) : Type 0 where
  pub done : List ℕ
  pub whole : bytes ≡ rest ++ done
  pub aligned : length rest % 4 ≡ 0
  pub runs : reverse counts ≡ runs_of done next
  pub first : run ≡ first_run (runs_of done next) next
  pub small : run.plain + length rest ≤ next.plain + length bytes

pub none_counted : (bytes : List ℕ) (next : PlainRun) → length bytes % 4 ≡ 0 → Counted bytes bytes [] next next
none_counted bytes next aligned = record {
  done = [];
  whole = sym (append-nil bytes);
  aligned = aligned;
  runs = refl;
  first = refl;
  small = omega arith;
}

word_first : (word done : List ℕ) (next : PlainRun) → length word ≡ 4
    → runs_of (word ++ done) next ≡ run_from (class_of (little_number 4 word)) (first_run (runs_of done next) next) ∷ runs_of done next
word_first [] done next len = absurd (omega (arith, len))
word_first (a ∷ []) done next len = absurd (omega (arith, len))
word_first (a ∷ b ∷ []) done next len = absurd (omega (arith, len))
word_first (a ∷ b ∷ c ∷ []) done next len = absurd (omega (arith, len))
word_first (a ∷ b ∷ c ∷ d ∷ []) done next len = refl
word_first (a ∷ b ∷ c ∷ d ∷ e ∷ more) done next len = absurd (omega (arith, len))

pub word_counted : (bytes rest before word : List ℕ) (counts counts' : List PlainRun) (next run run' : PlainRun)
    → (before ≡ take (length rest - 4) rest) × (word ≡ drop (length rest - 4) rest) × (length before + 4 ≡ length rest)
    → run' ≡ run_from (class_of (little_number 4 word)) run → run'.plain ≤ run.plain + 1 → counts' ≡ counts ++ run' ∷ []
    → Counted bytes rest counts next run → Counted bytes before counts' next run'
word_counted bytes rest before word counts counts' next run run' cut is more pushed counted =
    let whole : rest ≡ before ++ word =
    sym (take-append-drop (length rest - 4) rest) ∙ ap (λ (xs : List ℕ). xs ++ drop (length rest - 4) rest) (sym cut.0)
    ∙ ap (λ (xs : List ℕ). before ++ xs) (sym cut.1) in
    let len : length word ≡ 4 = omega (arith, ap length whole, length-append before word, cut.2) in
    let first : run' ≡ run_from (class_of (little_number 4 word)) (first_run (runs_of counted.done next) next) =
    is ∙ ap (run_from (class_of (little_number 4 word))) counted.first in
    let runs : runs_of (word ++ counted.done) next ≡ run' ∷ runs_of counted.done next =
    word_first word counted.done next len ∙ ap (λ (n : PlainRun). n ∷ runs_of counted.done next) (sym first) in
    record {
      done = word ++ counted.done;
      whole = counted.whole ∙ ap (λ (xs : List ℕ). xs ++ counted.done) whole ∙ append_assoc before word counted.done;
      aligned = omega (arith, cut.2, counted.aligned);
      runs = ap reverse pushed ∙ reversed_push counts run' ∙ ap (λ (xs : List PlainRun). run' ∷ xs) counted.runs ∙ sym runs;
      first = ap (λ (xs : List PlainRun). first_run xs next) (sym runs);
      small = omega (arith, cut.2, more, counted.small);
    }

no_bytes : (xs : List ℕ) → length xs ≡ 0 → xs ≡ []
no_bytes [] none = refl
no_bytes (x ∷ xs) none = absurd (omega (arith, none))

pub all_counted : (bytes rest : List ℕ) (counts : List PlainRun) (next run : PlainRun) → length rest < 4 → Counted bytes rest counts next run → reverse counts ≡ runs_of bytes next
all_counted bytes rest counts next run short counted =
    let none = no_bytes rest (omega (arith, short, counted.aligned)) in
    let same : bytes ≡ counted.done = counted.whole ∙ ap (λ (xs : List ℕ). xs ++ counted.done) none in
    counted.runs ∙ ap (λ (xs : List ℕ). runs_of xs next) (sym same)

pub first_counted : (bytes rest : List ℕ) (counts : List PlainRun) (next run : PlainRun) → length rest < 4 → Counted bytes rest counts next run
    → (first_run (reverse counts) next).plain ≤ next.plain + length bytes
first_counted bytes rest counts next run short counted =
    let same = ap (λ (runs : List PlainRun). (first_run runs next).plain) counted.runs in
    omega (arith, same, ap (λ (r : PlainRun). r.plain) counted.first, counted.small)

-- ---- what the runs of a part are

dropped : {X : Type 0} (n : ℕ) (xs : List X) (x : X) (more : List X) → drop n xs ≡ x ∷ more → drop (suc n) xs ≡ more
dropped zero [] x more e = cc
dropped zero (y ∷ xs) x more e = cc
dropped (suc n) [] x more e = cc
dropped (suc n) (y ∷ xs) x more e = dropped n xs x more e

four_dropped : (n : ℕ) (xs : List ℕ) (a b c d : ℕ) (more : List ℕ) → drop n xs ≡ a ∷ b ∷ c ∷ d ∷ more → drop (n + 4) xs ≡ more
four_dropped n xs a b c d more e =
    let four : n + 4 ≡ suc (suc (suc (suc n))) = omega arith in
    ap (λ (m : ℕ). drop m xs) four
    ∙ dropped (suc (suc (suc n))) xs d more (dropped (suc (suc n)) xs c (d ∷ more) (dropped (suc n) xs b (c ∷ d ∷ more) (dropped n xs a (b ∷ c ∷ d ∷ more) e)))

-- the word that begins with the n-th byte of a part
word_here : (part : Part) (address n a b c d : ℕ) (more : List ℕ) → IsPart part → n % 4 ≡ 0 → address ≡ part.start + n
    → n + length (a ∷ b ∷ c ∷ d ∷ more) ≡ length part.bytes
    → drop n part.bytes ≡ a ∷ b ∷ c ∷ d ∷ more → word_in part address ≡ Some (little_number 4 (a ∷ b ∷ c ∷ d ∷ []))
word_here part address n a b c d more is aligned at fits cut =
    let test = eq-eqb (address % 4) 0 (omega (arith, at, aligned, is.aligned)) in
    let low = le-leb part.start address (omega (arith, at)) in
    let high = lt-ltb address (end_of part) (omega (arith, at, fits)) in
    let offset : address - part.start ≡ n = omega (arith, at) in
    let size : address - part.start + 4 - (address - part.start) ≡ 4 = omega arith in
    let bytes : take (address - part.start + 4 - (address - part.start)) (drop (address - part.start) part.bytes) ≡ a ∷ b ∷ c ∷ d ∷ [] =
    ap (λ (m : ℕ). take m (drop (address - part.start) part.bytes)) size ∙ ap (λ (m : ℕ). take 4 (drop m part.bytes)) offset
    ∙ ap (λ (xs : List ℕ). take 4 xs) cut in
    rw (test, low, high) (ap (λ (xs : List ℕ). Some (little_number 4 xs)) bytes)

record Holds (image : List Part) (address : ℕ) (next : PlainRun) (runs : List PlainRun) : Type 0 where
  first : IsRun image address (first_run runs next)
  all : AreRuns image address runs

runs_hold : (image : List Part) (part : Part) (address n : ℕ) (next : PlainRun) (rest : List ℕ) → IsImage image → Contains image part → IsPart part → n % 4 ≡ 0
    → address ≡ part.start + n → n + length rest ≡ length part.bytes → drop n part.bytes ≡ rest → IsRun image (end_of part % 2 ^ 64) next
    → Holds image address next (runs_of rest next)
runs_hold image part address n next [] is in_image is_part aligned at fits cut after = record {
  first = moved image (end_of part % 2 ^ 64) address next (omega (arith, at, fits)) after;
  all = tt;
}
runs_hold image part address n next (a ∷ []) is in_image is_part aligned at fits cut after = absurd (omega (arith, aligned, fits, is_part.whole))
runs_hold image part address n next (a ∷ b ∷ []) is in_image is_part aligned at fits cut after = absurd (omega (arith, aligned, fits, is_part.whole))
runs_hold image part address n next (a ∷ b ∷ c ∷ []) is in_image is_part aligned at fits cut after = absurd (omega (arith, aligned, fits, is_part.whole))
runs_hold image part address n next (a ∷ b ∷ c ∷ d ∷ more) is in_image is_part aligned at fits cut after =
    let word : ℕ = little_number 4 (a ∷ b ∷ c ∷ d ∷ []) in
    let here = word_of_part image address word is (part, in_image, word_here part address n a b c d more is_part aligned at fits cut) in
    let later =
    runs_hold image part (address + 4) (n + 4) next more is in_image is_part (omega (arith, aligned)) (omega (arith, at)) (omega (arith, fits))
    (four_dropped n part.bytes a b c d more cut) after in
    let run =
    run_steps image address (first_run (runs_of more next) next) (class_of word) (omega (arith, at, fits, is_part.within)) (ap (option_map class_of) here)
    later.first in
    record { first = run; all = (run, later.all) }

-- the runs of a part, by that from its end on
part_runs : (image : List Part) (part : Part) (next : PlainRun) → IsImage image → Contains image part → IsPart part → IsRun image (end_of part % 2 ^ 64) next
    → Holds image part.start next (runs_of part.bytes next)
part_runs image part next is in_image is_part after = runs_hold image part part.start 0 next part.bytes is in_image is_part refl (omega arith) (omega arith)
    refl after

length_runs : (bytes : List ℕ) (next : PlainRun) → length bytes % 4 ≡ 0 → 4 * length (runs_of bytes next) ≡ length bytes
length_runs [] next whole = refl
length_runs (a ∷ []) next whole = absurd (omega (arith, whole))
length_runs (a ∷ b ∷ []) next whole = absurd (omega (arith, whole))
length_runs (a ∷ b ∷ c ∷ []) next whole = absurd (omega (arith, whole))
length_runs (a ∷ b ∷ c ∷ d ∷ more) next whole = let rest = length_runs more next (omega (arith, whole)) in omega (arith, rest)

-- ---- the run that follows a part

-- where the first of the parts begins, and address 0 after the last of all
abbrev pub first_start : List Part → ℕ
first_start [] = 0
first_start (part ∷ parts) = part.start

-- where a part ends before the last address, and no other begins there, no word begins either
after_part : (part : Part) (parts : List Part) → InOrder (part ∷ parts) → All IsPart (part ∷ parts) → end_of part % 2 ^ 64 ≢ first_start parts
    → (end_of part < 2 ^ 64) × All (Behind (end_of part)) parts
after_part part [] order each apart =
    let is = All-head IsPart part [] each in (
      elim (cases_Bool (nat_lt (end_of part) (2 ^ 64))) [
        | inl t ↦ ltb-true _ _ t
        | inr f ↦ absurd (apart (omega (arith, ltb-false _ _ f, is.within)))
      ],
      (λ k d below. absurd (omega (arith, below))),
    )
after_part part (next ∷ parts) order each apart =
    let is = All-head IsPart next parts (All-tail IsPart part (next ∷ parts) each) in
    let from : end_of part ≤ next.start = All-head (λ (other : Part). end_of part ≤ other.start) next parts order.0 in
    let before : end_of part < 2 ^ 64 = omega (arith, from, is.within, is.some) in
    let gap : end_of part < next.start =
    elim (cases_Bool (nat_lt (end_of part) next.start)) [
      | inl t ↦ ltb-true _ _ t
      | inr f ↦ absurd (apart (omega (arith, ltb-false _ _ f, from, before)))
    ] in
    let later = All-weaker (λ (other : Part). end_of next ≤ other.start) (Behind (end_of part)) (λ other e. omega (arith, e, gap)) parts order.1.0 in
    (before, All-cons (Behind (end_of part)) next parts gap later)

none_at_end : (before : List Part) (part : Part) (parts : List Part) → InOrder (before ++ part ∷ parts) → All IsPart (before ++ part ∷ parts)
    → end_of part % 2 ^ 64 ≢ first_start parts → (end_of part < 2 ^ 64) × (word_of (before ++ part ∷ parts) (end_of part) ≡ None)
none_at_end [] part parts order each apart =
    let after = after_part part parts order each apart in
    (after.0, rw (outside part (end_of part) (λ low high. omega (arith, high))) (none_before parts (end_of part) after.1))
none_at_end (first ∷ before) part parts order each apart =
    let rest = none_at_end before part parts order.1 (All-tail IsPart first (before ++ part ∷ parts) each) apart in
    let len = length-append before (part ∷ parts) in
    let ends : end_of first ≤ part.start =
    subst (λ (other : Part). end_of first ≤ other.start) (get_or-append_seam before part parts part) (order.0 (length before) part (omega (arith, len))) in
    (rest.0, rw (outside first (end_of part) (λ low high. omega (arith, high, ends))) rest.1)

-- ---- the table of an image, counted from the last part on

-- the parts behind `rest` have been counted; the next of them begins at `start`, and `run` plain words follow from there on
pub record Tabled (parts rest : List Part) (table : List (List PlainRun)) (start : ℕ) (run : PlainRun) : Type 0 where
  pub done : List Part
  pub whole : parts ≡ rest ++ done
  pub runs : IsTable parts done (reverse table)
  pub begins : start ≡ first_start done
  pub followed : IsFollowedBy parts rest start run
  pub small : run.plain + total rest ≤ 2 * most_bytes

pub none_tabled : (parts : List Part) (run : PlainRun) → IsImage parts → IsFollowedBy parts parts 0 run → run.plain ≤ total parts → Tabled parts parts [] 0 run
none_tabled parts run is followed short = record {
  done = [];
  whole = sym (append-nil parts);
  runs = tt;
  begins = refl;
  followed = followed;
  small = omega (arith, short, is.small);
}

total-append : (xs ys : List Part) → total (xs ++ ys) ≡ total xs + total ys
total-append [] ys = omega arith
total-append (x ∷ xs) ys = let more = total-append xs ys in omega (arith, more)

whole_with : (parts rest before done : List Part) (part : Part) → parts ≡ rest ++ done → rest ≡ before ++ part ∷ [] → parts ≡ before ++ part ∷ done
whole_with parts rest before done part whole cut = whole ∙ ap (λ (ps : List Part). ps ++ done) cut ∙ append_assoc before (part ∷ []) done

-- the run that follows the last part of the rest
pub next_run : (parts rest before : List Part) (part : Part) (table : List (List PlainRun)) (start : ℕ) (run : PlainRun) (joins : Bool) → IsImage parts
    → Tabled parts rest table start run
    → rest ≡ before ++ part ∷ [] → (end_of part % 2 ^ 64 == start) ≡ joins → IsRun parts (end_of part % 2 ^ 64) (cond joins run no_word)
next_run parts rest before part table start run true is tabled cut joins =
    let same = eqb-true (end_of part % 2 ^ 64) start joins in
    subst (λ (a : ℕ). IsRun parts a run) (sym same) (tabled.followed before part cut same)
next_run parts rest before part table start run false is tabled cut joins =
    let whole = whole_with parts rest before tabled.done part tabled.whole cut in
    let apart : end_of part % 2 ^ 64 ≢ first_start tabled.done = λ e. eqb-false (end_of part % 2 ^ 64) start joins (e ∙ sym tabled.begins) in
    let none = none_at_end before part tabled.done (subst InOrder whole is.order) (subst (λ (ps : List Part). All IsPart ps) whole is.parts) apart in
    let here : word_of parts (end_of part % 2 ^ 64) ≡ None =
    ap (word_of parts) (let small : end_of part % 2 ^ 64 ≡ end_of part = omega (arith, none.0) in small)
    ∙ ap (λ (ps : List Part). word_of ps (end_of part)) whole ∙ none.1 in
    ended parts (end_of part % 2 ^ 64) None (omega arith) (ap (option_map class_of) here) (λ e. cc)

choice_below : (joins : Bool) (run : PlainRun) → (cond joins run no_word).plain ≤ run.plain
choice_below true run = omega arith
choice_below false run = omega arith

-- a run after a part and the part's bytes fit in 32 bits
pub next_fits : (parts rest before : List Part) (part : Part) (table : List (List PlainRun)) (start : ℕ) (run next : PlainRun) (joins : Bool)
    → Tabled parts rest table start run → rest ≡ before ++ part ∷ []
    → next ≡ cond joins run no_word → next.plain + length part.bytes < 2 ^ 32
next_fits parts rest before part table start run next joins tabled cut is_next =
    let sum = total-append before (part ∷ []) in omega (arith, tabled.small, ap total cut, sum, ap (λ (r : PlainRun). r.plain) is_next, choice_below joins run)

pub part_tabled : (parts rest before : List Part) (part : Part) (table table' : List (List PlainRun)) (runs : List PlainRun) (start : ℕ) (run next : PlainRun) (start' : ℕ) (run' : PlainRun)
    → IsImage parts → Tabled parts rest table start run
    → rest ≡ before ++ part ∷ [] → next ≡ cond (end_of part % 2 ^ 64 == start) run no_word → runs ≡ runs_of part.bytes next → run' ≡ first_run runs next
    → (first_run runs next).plain ≤ next.plain + length part.bytes
    → table' ≡ table ++ runs ∷ [] → start' ≡ part.start → Tabled parts before table' start' run'
part_tabled parts rest before part table table' runs start run next start' run' is tabled cut is_next are is_run more pushed is_start =
    let after =
    subst (IsRun parts (end_of part % 2 ^ 64)) (sym is_next)
    (next_run parts rest before part table start run (end_of part % 2 ^ 64 == start) is tabled cut refl) in
    let fewer : next.plain ≤ run.plain = omega (arith, ap (λ (r : PlainRun). r.plain) is_next, choice_below (end_of part % 2 ^ 64 == start) run) in
    let whole = whole_with parts rest before tabled.done part tabled.whole cut in
    let len = length-append before (part ∷ tabled.done) in
    let seam : get_or parts (length before) part ≡ part =
    ap (λ (ps : List Part). get_or ps (length before) part) whole ∙ get_or-append_seam before part tabled.done part in
    let within : length before < length parts = omega (arith, ap length whole, len) in
    let is_part = subst IsPart seam (is.parts (length before) part within) in
    let holds = subst (Holds parts part.start next) (sym are) (part_runs parts part next is (length before, within, seam) is_part after) in
    let sum = total-append before (part ∷ []) in
    record {
      done = part ∷ tabled.done;
      whole = whole;
      runs =
          subst (λ (t : List (List PlainRun)). IsTable parts (part ∷ tabled.done) t) (sym (ap reverse pushed ∙ reversed_push table runs))
          (holds.all, ap (λ (rs : List PlainRun). 4 * length rs) are ∙ length_runs part.bytes next is_part.whole, tabled.runs);
      begins = is_start;
      followed = λ _ _ _ _. subst (IsRun parts start') (sym is_run)
          (subst (λ (a : ℕ). IsRun parts a (first_run runs next)) (sym is_start) holds.first);
      small = omega (arith, tabled.small, ap total cut, sum, fewer, more, ap (λ (r : PlainRun). r.plain) is_run);
    }

pub all_tabled : (parts rest : List Part) (table : List (List PlainRun)) (start : ℕ) (run : PlainRun) → rest ≡ [] → Tabled parts rest table start run
    → IsTable parts parts (reverse table)
all_tabled parts rest table start run none tabled =
    let same : parts ≡ tabled.done = tabled.whole ∙ ap (λ (ps : List Part). ps ++ tabled.done) none in
    subst (λ (ps : List Part). IsTable parts ps (reverse table)) (sym same) tabled.runs

-- ---- what a table tells

pub record RunsOf (image : List Part) (part : Part) (runs : List PlainRun) : Type 0 where
  pub all : AreRuns image part.start runs
  pub size : 4 * length runs ≡ length part.bytes

pub runs_of_part : (image parts : List Part) (table : List (List PlainRun)) (k : ℕ) (d : Part) (e : List PlainRun) → IsTable image parts table → k < length parts
    → RunsOf image (get_or parts k d) (get_or table k e)
runs_of_part image [] table k d e is within = absurd (omega (arith, within))
runs_of_part image (part ∷ parts) [] k d e is within = absurd is
runs_of_part image (part ∷ parts) (runs ∷ table) zero d e is within = record { all = is.0; size = is.1 }
runs_of_part image (part ∷ parts) (runs ∷ table) (suc k) d e is within = runs_of_part image parts table k d e is.2 (omega (arith, within))

pub same_length : (image parts : List Part) (table : List (List PlainRun)) → IsTable image parts table → length table ≡ length parts
same_length image [] [] is = refl
same_length image [] (runs ∷ table) is = absurd is
same_length image (part ∷ parts) [] is = absurd is
same_length image (part ∷ parts) (runs ∷ table) is = ap suc (same_length image parts table is.2)

pub run_of_word : (image : List Part) (address k : ℕ) (runs : List PlainRun) → AreRuns image address runs → k < length runs
    → IsRun image (address + 4 * k) (get_or runs k no_word)
run_of_word image address k [] are within = absurd (omega (arith, within))
run_of_word image address zero (run ∷ runs) are within =
    let at : address ≡ address + 4 * 0 = omega arith in subst (λ (a : ℕ). IsRun image a run) at are.0
run_of_word image address (suc k) (run ∷ runs) are within =
    let at : address + 4 + 4 * k ≡ address + 4 * suc k = omega arith in
    subst (λ (a : ℕ). IsRun image a (get_or runs k no_word)) at (run_of_word image (address + 4) k runs are.1 (omega (arith, within)))

-- a word stands at an address, and this is the run from it on
abbrev pub HasRun : List Part → ℕ → PlainRun → Type 0
HasRun image address run = IsSome (word_of image address) × IsRun image address run

-- the run at an address, by the part that begins last before it
pub run_found : (image : List Part) (table : List (List PlainRun)) (address place : ℕ) (part : Part) (runs : List PlainRun) → IsImage image → IsTable image image table
    → address % 4 ≡ 0
    → place < length image → part ≡ get_or image place part → runs ≡ get_or table place runs
    → word_of image address ≡ word_in (get_or image place part) address
    → (get_or image place part).start ≤ address
    → MatchOption (slice_get runs ((address - part.start) / 4)) (class_at image address ≡ None) (HasRun image address)
run_found image table address place part runs is is_table aligned within there these word begun =
    let k : ℕ = (address - part.start) / 4 in
    let of =
    subst (λ (rs : List PlainRun). RunsOf image part rs) (sym these)
    (subst (λ (p : Part). RunsOf image p (get_or table place runs)) (sym there) (runs_of_part image image table place part runs is_table within)) in
    let is_part = subst IsPart (sym there) (is.parts place part within) in
    let from : part.start ≤ address = omega (arith, begun, ap (λ (p : Part). p.start) there) in
    elim (cases_Bool (nat_lt k (length runs))) [
      | inl t ↦
          let short : k < length runs = ltb-true _ _ t in
          let at : part.start + 4 * k ≡ address = omega (arith, from, aligned, is_part.aligned) in
          let there_is : IsSome (word_in part address) = inside part address aligned (from, omega (arith, short, at, of.size)) in
          let same = word ∙ ap (λ (p : Part). word_in p address) (sym there) in
          rw (slice_get-get_or runs k no_word short) (
            subst (λ o. IsSome o) (sym same) there_is,
            subst (λ (a : ℕ). IsRun image a (get_or runs k no_word)) at (run_of_word image part.start k runs of.all short),
          )
      | inr f ↦
          let past : length runs ≤ k = ltb-false _ _ f in
          let nothing : word_in part address ≡ None = outside part address (λ low high. omega (arith, high, past, of.size)) in
          rw (slice_get_past runs k past) (ap (option_map class_of) (word ∙ ap (λ (p : Part). word_in p address) (sym there) ∙ nothing))
    ]
