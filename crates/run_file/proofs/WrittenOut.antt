-- The events of lines, one by one.
use Rattle.std.proofs.Common.{◌≡◌, ◌∷◌, ◌++◌, ◌∙◌, ◌+◌, ◌-◌, ◌<◌, ℕ, zero, suc, List, [], length, Option, Some, None, Ok, Err, arith, refl, ap, sym, replicate}
use Rattle.std.proofs.lemmas.Bool.{cond_above, cond_below}
use Rattle.std.proofs.lemmas.List.{append_assoc, append-nil, length-append, length-replicate}
use Rattle.program_image.specs.declared.image.Image.{Image}
use Rattle.spec_run.specs.Checks.{check}
use Rattle.spec_run.specs.RunAfter.{after_event, go_on, place_in, run_after, run_from}
use Rattle.spec_run.specs.Runs.{Execution, at_first}
use Rattle.spec_run.specs.declared.event.Event.{Event}
use Rattle.spec_run.specs.declared.run_fault.RunFault.{RunFault}
use Rattle.run_file.specs.Parts.{BenchStream, events_of}
use Rattle.run_file.specs.Refusals.{first_of, line_of, refusal_among, refused_line, stream_refusal}
use Rattle.run_file.specs.declared.fault.BenchWhy.{BenchWhy}
use Rattle.run_file.specs.declared.fault.BenchWhy.TheVariants.{Run}
use Rattle.run_file.specs.declared.line.BenchLine.{BenchLine}

pub events_joined : (lines more : List BenchLine) → events_of (lines ++ more) ≡ events_of lines ++ events_of more
events_joined [] more = refl
events_joined (l ∷ lines) more =
    ap (λ (es : List Event). replicate l.times l.event ++ es) (events_joined lines more)
    ∙ sym (append_assoc (replicate l.times l.event) (events_of lines) (events_of more))

pub one_line : (lines : List BenchLine) (l : BenchLine) → events_of (lines ++ l ∷ []) ≡ events_of lines ++ replicate l.times l.event
one_line lines l = events_joined lines (l ∷ []) ∙ ap (λ (es : List Event). events_of lines ++ es) (append-nil (replicate l.times l.event))

repeated : (k n : ℕ) (e : Event) → k < n → (rest : List Event) × (replicate n e ≡ replicate k e ++ e ∷ rest)
repeated k zero e h = absurd (omega arith)
repeated zero (suc n) e h = (replicate n e, refl)
repeated (suc k) (suc n) e h = let p = repeated k n e (omega arith) in (p.0, ap (λ (es : List Event). e ∷ es) p.1)

module _ (image : Image) (depth : ℕ) where
  run_joined : (es fs : List Event) (x y : Execution) (n m : ℕ) → run_from image depth x n es ≡ Ok y → n + length es ≡ m
      → run_from image depth x n (es ++ fs) ≡ run_from image depth y m fs
  run_joined [] fs x y n m h e =
      let same : x ≡ y = cc in
      let here : n ≡ m = omega arith in
      ap (λ (z : Execution). run_from image depth z n fs) same ∙ ap (λ (k : ℕ). run_from image depth y k fs) here
  run_joined (e ∷ es) fs x y n m h f =
      by (check image depth (place_in x) e) h (λ g. run_joined es fs (after_event image depth x e) y (n + 1) m g (omega arith))
    where
      by : (o : Option RunFault) → go_on o n (run_from image depth (after_event image depth x e) (n + 1) es) ≡ Ok y
          → (run_from image depth (after_event image depth x e) (n + 1) es ≡ Ok y
          → run_from image depth (after_event image depth x e) (n + 1) (es ++ fs) ≡ run_from image depth y m fs)
          → go_on o n (run_from image depth (after_event image depth x e) (n + 1) (es ++ fs)) ≡ run_from image depth y m fs
      by None g more = more g
      by (Some fault) g more = absurd cc

line_found : (k : ℕ) (lines more : List BenchLine) (l : BenchLine) → k < l.times → line_of (length (events_of lines) + k) (lines ++ l ∷ more) ≡ l.line
line_found k [] more l h = sym (cond_below (0 + k) l.times l.line (line_of (0 + k - l.times) more) (omega arith))
line_found k (m ∷ lines) more l h =
    let here = length (replicate m.times m.event ++ events_of lines) + k in
    let long : here ≡ m.times + length (events_of lines) + k =
    omega (arith, length-append (replicate m.times m.event) (events_of lines), length-replicate m.times m.event) in
    let behind : here - m.times ≡ length (events_of lines) + k = omega arith in
    sym (cond_above here m.times m.line (line_of (here - m.times) (lines ++ l ∷ more)) l.line (omega arith)
    (sym (ap (λ (n : ℕ). line_of n (lines ++ l ∷ more)) behind ∙ line_found k lines more l h)))

module _ (image : Image) (s : BenchStream) where
  abbrev depth : ℕ
  depth = s.settings.depth

  pub refused : (k : ℕ) (lines more : List BenchLine) (l : BenchLine) (x : Execution) (fault : RunFault)
      → run_after image depth (events_of lines ++ replicate k l.event) ≡ Ok x → k < l.times → check image depth (place_in x) l.event ≡ Some fault
      → stream_refusal image (record s { lines = lines ++ l ∷ more }) ≡ Some (l.line, Run fault)
  refused k lines more l x fault ran few told =
      let p = repeated k l.times l.event few in
      let front = events_of lines ++ replicate k l.event in
      let rest = p.0 ++ events_of more in
      let n = length (events_of lines) + k in
      let all : events_of (lines ++ l ∷ more) ≡ front ++ l.event ∷ rest =
      events_joined lines (l ∷ more)
      ∙ ap (λ (es : List Event). events_of lines ++ (es ++ events_of more)) p.1
      ∙ ap (λ (es : List Event). events_of lines ++ es) (append_assoc (replicate k l.event) (l.event ∷ p.0) (events_of more))
      ∙ sym (append_assoc (events_of lines) (replicate k l.event) (l.event ∷ rest)) in
      let many : 0 + length front ≡ n = omega (arith, length-append (events_of lines) (replicate k l.event), length-replicate k l.event) in
      let run : run_after image depth (events_of (lines ++ l ∷ more)) ≡ Err (n, fault) =
      ap (run_after image depth) all
      ∙ run_joined image depth front (l.event ∷ rest) at_first x 0 n ran many
      ∙ ap (λ (o : Option RunFault). go_on o n (run_from image depth (after_event image depth x l.event) (n + 1) rest)) told in
      ap (refused_line (lines ++ l ∷ more)) run
      ∙ ap (λ (line : ℕ). Some (line, Run fault)) (line_found k lines more l few)

  told_by_run : (o : Option RunFault) (n m : ℕ) (y : Execution) (fault : RunFault) → go_on o n (Ok y) ≡ Err (m, fault) → o ≡ Some fault
  told_by_run None n m y fault h = absurd cc
  told_by_run (Some other) n m y fault h =
      let pair : (n, other) ≡ (m, fault) = cc in
      ap (λ (p : ℕ × RunFault). Some p.1) pair

  pub refused_behind : (k n : ℕ) (lines more : List BenchLine) (l : BenchLine) (x : Execution) (fault : RunFault)
      → run_after image depth (events_of lines ++ replicate k l.event) ≡ Ok x → k < l.times
      → run_after image depth ((events_of lines ++ replicate k l.event) ++ l.event ∷ []) ≡ Err (n, fault)
      → stream_refusal image (record s { lines = lines ++ l ∷ more }) ≡ Some (l.line, Run fault)
  refused_behind k n lines more l x fault ran few stops =
      let front = events_of lines ++ replicate k l.event in
      let here = 0 + length front in
      let on = run_joined image depth front (l.event ∷ []) at_first x 0 here ran refl in
      refused k lines more l x fault ran few
      (told_by_run (check image depth (place_in x) l.event) here n (after_event image depth x l.event) fault (sym on ∙ stops))

  pub accepted : (x : Execution) → run_after image depth (events_of s.lines) ≡ Ok x → stream_refusal image s ≡ None
  accepted x h = ap (refused_line s.lines) h

module _ (image : Image) where
  pub among_next : (streams more : List BenchStream) (s : BenchStream) → refusal_among image streams ≡ None
      → refusal_among image (streams ++ s ∷ more) ≡ first_of (stream_refusal image s) (refusal_among image more)
  among_next [] more s h = refl
  among_next (t ∷ streams) more s h = by (stream_refusal image t) h (among_next streams more s)
    where
      by : (o : Option (ℕ × BenchWhy)) → first_of o (refusal_among image streams) ≡ None
          → (refusal_among image streams ≡ None
          → refusal_among image (streams ++ s ∷ more) ≡ first_of (stream_refusal image s) (refusal_among image more))
          → first_of o (refusal_among image (streams ++ s ∷ more)) ≡ first_of (stream_refusal image s) (refusal_among image more)
      by None g next = next g
      by (Some fault) g next = absurd cc

  pub among_first : (line : ℕ) (why : BenchWhy) (streams more : List BenchStream) → refusal_among image streams ≡ Some (line, why)
      → refusal_among image (streams ++ more) ≡ Some (line, why)
  among_first line why [] more h = absurd cc
  among_first line why (t ∷ streams) more h = by (stream_refusal image t) h (among_first line why streams more)
    where
      by : (o : Option (ℕ × BenchWhy)) → first_of o (refusal_among image streams) ≡ Some (line, why)
          → (refusal_among image streams ≡ Some (line, why) → refusal_among image (streams ++ more) ≡ Some (line, why))
          → first_of o (refusal_among image (streams ++ more)) ≡ Some (line, why)
      by None g next = next g
      by (Some fault) g next = g
