-- The first event of lines that is refused.
use Rattle.std.proofs.Common.{◌≡◌, ℕ, zero, suc, ◌+◌, ◌-◌, ◌<◌, ◌≤◌, true, false, List, [], ◌∷◌, ◌++◌, length, take, drop, replicate, Option, Some, None}
use Rattle.std.proofs.Common.{Err, inl, inr, refl, sym, ap, ◌∙◌, append_assoc, append-nil, arith, length-append}
use Rattle.std.proofs.lemmas.Bool.Decides.{nat_tests}
use Rattle.std.proofs.lemmas.List.{length-replicate, take-append-drop, take_all}
use Rattle.std.proofs.lemmas.Option.{slice_get_cases}
use Rattle.std.specs.Option.{option_and_then, option_map}
use Rattle.std.specs.Prelude.{is_some, nat_lt, slice_get}
use Rattle.run_file.specs.Parts.{BenchStream, events_of}
use Rattle.run_file.specs.Refusals.{first_of, line_of, refusal_among, refused_line, stream_refusal}
use Rattle.run_file.specs.declared.fault.BenchWhy.{BenchWhy}
use Rattle.etm_types.specs.Settings.{Sizes}
use Rattle.program_image.specs.declared.image.Image.{Image}
use Rattle.run_file.specs.declared.fault.BenchWhy.TheVariants.{Run}
use Rattle.run_file.specs.declared.line.BenchLine.{BenchLine}
use Rattle.spec_run.proofs.EventsJoined.{events_refused}
use Rattle.spec_run.specs.RunAfter.{run_after}
use Rattle.spec_run.specs.declared.event.Event.{Event}
use Rattle.spec_run.specs.declared.run_fault.RunFault.{RunFault}
use Rattle.retired_paths.proofs.RetiredEvents.{parted}
use Rattle.retired_paths.proofs.RetiredSteps.{take_one}
use Rattle.retired_paths.specs.Retiring.{RefusesLine, events_with, bad_line}

-- ---- one line

pub refuses_line : (image : Image) (s : Sizes) (events : List Event) (line : BenchLine) (k : ℕ) (fault : RunFault) → k < line.times
    → run_after image s.depth (events_with events k line.event ++ line.event ∷ []) ≡ Err (length (events_with events k line.event), fault)
    → RefusesLine image s events line fault
refuses_line image s events line k fault lt h =
    let e = line.event in
    let count : length (events_with events k e) ≡ length events + k =
    length-append events (replicate k e) ∙ ap (λ n. length events + n) (length-replicate k e) in
    record {
      before = k;
      within = lt;
      refused = ap (run_after image s.depth) (parted events e line.times k lt)
          ∙ events_refused image s.depth (events_with events k e ++ e ∷ []) (replicate (line.times - (k + 1)) e) (length (events_with events k e)) fault h
          ∙ ap (λ n. Err (n, fault)) count;
    }

-- ---- the events of lines

pub events_joined : (lines more : List BenchLine) → events_of (lines ++ more) ≡ events_of lines ++ events_of more
events_joined [] more = refl
events_joined (l ∷ lines) more =
    ap (λ es. replicate l.times l.event ++ es) (events_joined lines more) ∙ sym (append_assoc (replicate l.times l.event) (events_of lines) (events_of more))

-- with the events of the next line
pub events_next : (lines : List BenchLine) (k : ℕ) (l : BenchLine) → slice_get lines k ≡ Some l
    → events_of (take (k + 1) lines) ≡ events_with (events_of (take k lines)) l.times l.event
events_next lines k l e =
    ap events_of (take_one lines k l e) ∙ events_joined (take k lines) (l ∷ [])
    ∙ ap (λ es. events_of (take k lines) ++ es) (append-nil (replicate l.times l.event))

-- and with those of the lines behind it
pub events_whole : (lines : List BenchLine) (k : ℕ) (l : BenchLine) → slice_get lines k ≡ Some l
    → events_of lines ≡ events_with (events_of (take k lines)) l.times l.event ++ events_of (drop (k + 1) lines)
events_whole lines k l e =
    ap events_of (sym (take-append-drop (k + 1) lines)) ∙ events_joined (take (k + 1) lines) (drop (k + 1) lines)
    ∙ ap (λ es. es ++ events_of (drop (k + 1) lines)) (events_next lines k l e)

pub all_lines : {X : Type 0} (xs : List X) (k : ℕ) → slice_get xs k ≡ None → take k xs ≡ xs
all_lines xs k e = elim (slice_get_cases xs k).1 [
  | inl w ↦ absurd (let there = w.2 in cc)
  | inr w ↦ take_all k xs w.0
]

-- ---- the line of an event

pub is_below : (n m : ℕ) → n < m → nat_lt n m ≡ true
is_below n m lt = grind (arith, nat_tests, lt)

pub not_below : (n m : ℕ) → m ≤ n → nat_lt n m ≡ false
not_below n m le = grind (arith, nat_tests, le)

pub line_found : (lines : List BenchLine) (k : ℕ) (l : BenchLine) (j n : ℕ) → slice_get lines k ≡ Some l → j < l.times
    → n ≡ length (events_of (take k lines)) + j → line_of n lines ≡ l.line
line_found [] k l j n e lt is = absurd cc
line_found (x ∷ lines) zero l j n e lt is =
    let same : x ≡ l = cc in
    let below : n < x.times = rw same (omega (arith, lt, is)) in
    simp (is_below n x.times below) (ap (λ (y : BenchLine). y.line) same)
line_found (x ∷ lines) (suc k) l j n e lt is =
    let long = length-append (replicate x.times x.event) (events_of (take k lines)) in
    let times = length-replicate x.times x.event in
    simp (not_below n x.times (omega (arith, is, long, times)))
    (line_found lines k l j (n - x.times) e lt (omega (arith, is, long, times)))

-- ---- a stream

pub refused_there : (image : Image) (s : Sizes) (lines : List BenchLine) (k : ℕ) (l : BenchLine) (fault : RunFault) → slice_get lines k ≡ Some l
    → RefusesLine image s (events_of (take k lines)) l fault → refused_line lines (run_after image s.depth (events_of lines)) ≡ Some (l.line, Run fault)
refused_there image s lines k l fault e r =
    let front = events_of (take k lines) in
    let at = length front + r.before in
    let refused = ap (run_after image s.depth) (events_whole lines k l e)
    ∙ events_refused image s.depth (events_with front l.times l.event) (events_of (drop (k + 1) lines)) at fault r.refused in
    ap (refused_line lines) refused ∙ ap (λ n. Some (n, Run fault)) (line_found lines k l r.before at e r.within refl)

-- what a stream's place says of its lines
pub looked_up : (streams : List BenchStream) (s k : ℕ) (stream : BenchStream) → slice_get streams s ≡ Some stream
    → option_and_then (λ st. slice_get st.lines k) (slice_get streams s) ≡ slice_get stream.lines k
looked_up streams s k stream e = ap (option_and_then (λ (st : BenchStream). slice_get st.lines k)) e

pub settings_found : (streams : List BenchStream) (s : ℕ) (sizes : Sizes) (stream : BenchStream) → slice_get streams s ≡ Some stream
    → Some sizes ≡ option_map (λ st. st.settings) (slice_get streams s) → sizes ≡ stream.settings
settings_found streams s sizes stream e is = let same = is ∙ ap (option_map (λ (st : BenchStream). st.settings)) e in cc

abbrev pub lines_in : Option BenchStream → List BenchLine
lines_in None = []
lines_in (Some stream) = stream.lines

pub some_line : (place : Option BenchStream) (k : ℕ) (l : BenchLine) → Some l ≡ option_and_then (λ st. slice_get st.lines k) place
    → slice_get (lines_in place) k ≡ Some l
some_line None k l e = absurd cc
some_line (Some stream) k l e = sym e

-- ---- streams

next_of : {X : Type 0} (xs : List X) (k : ℕ) (x : X) → slice_get xs k ≡ Some x → drop k xs ≡ x ∷ drop (suc k) xs
next_of [] k x e = absurd cc
next_of (y ∷ xs) zero x e = let same : y ≡ x = cc in ap (λ z. z ∷ xs) same
next_of (y ∷ xs) (suc k) x e = next_of xs k x e

pub dropped_next : {X : Type 0} (xs : List X) (k : ℕ) (x : X) → slice_get xs k ≡ Some x → drop k xs ≡ x ∷ drop (k + 1) xs
dropped_next xs k x e = let one : suc k ≡ k + 1 = omega arith in next_of xs k x e ∙ ap (λ n. x ∷ drop n xs) one

pub there_is : {X : Type 0} (xs : List X) (k : ℕ) → k < length xs → (x : X) × (slice_get xs k ≡ Some x)
there_is xs k lt = elim (slice_get_cases xs k).1 [
  | inl w ↦ (w.0, w.2)
  | inr w ↦ absurd (omega (arith, lt, w.0))
]

pub among_next : (image : Image) (streams : List BenchStream) (s : ℕ) (stream : BenchStream) → slice_get streams s ≡ Some stream
    → refusal_among image (drop s streams) ≡ first_of (stream_refusal image stream) (refusal_among image (drop (s + 1) streams))
among_next image streams s stream e = ap (refusal_among image) (dropped_next streams s stream e)

pub bad_line_some : (refusal : Option (ℕ × RunFault)) (given others : Option (ℕ × BenchWhy)) → bad_line refusal ≡ given → is_some refusal ≡ true
    → bad_line refusal ≡ first_of given others
bad_line_some None given others e some = absurd cc
bad_line_some (Some refusal) given others e some = let is : Some (refusal.0, Run refusal.1) ≡ given = e in ap (λ g. first_of g others) is

pub bad_line_none : (refusal : Option (ℕ × RunFault)) (given others : Option (ℕ × BenchWhy)) → bad_line refusal ≡ given → is_some refusal ≡ false
    → first_of given others ≡ others
bad_line_none None given others e none = let is : None ≡ given = e in ap (λ g. first_of g others) (sym is)
bad_line_none (Some refusal) given others e none = absurd cc
