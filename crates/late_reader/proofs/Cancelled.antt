-- A cancel: back to what was told before the oldest of the things that go.
use Rattle.std.proofs.Common.{◌≡◌, ℕ, ◌-◌, ◌≤◌, Bool, true, false, if◌then◌else◌, List, [], ◌∷◌, ◌++◌, length, take, drop, Ok, Err, refl, sym, ap}
use Rattle.std.proofs.Common.{subst, ◌∙◌, append_assoc, append-nil, arith, inl, inr}
use Rattle.std.proofs.lemmas.List.{take-append-drop, length-map, length-drop, map-append}
use Rattle.std.proofs.lemmas.Bool.Decides.{nat_tests}
use Rattle.std.specs.Prelude.{map, nat_le, ◌==◌, replicate}
use Rattle.etm_types.specs.Pre.{trace_missing}
use Rattle.etm_types.specs.declared.element.Elem.TheVariants as elem
use Rattle.etm_types.specs.declared.element.Pre.{Pre}
use Rattle.etm_types.specs.declared.element.Thing.{Thing}
use Rattle.etm_types.specs.declared.element.Thing.TheVariants.{Seen, Unseen, Gap, Stop}
use Rattle.etm_types.specs.declared.queue_fault.QueueFault.TheVariants.{CancelOverrun}
use Rattle.element_queue.specs.Pending.{Taken, tells, cancels, pre_of}
use Rattle.element_queue.specs.Resolved.{Resolved, resolve, with_done}
use Rattle.late_reader.specs.Marks.{Mark, old, Marks, marked, on_of}
use Rattle.late_reader.specs.Rows.{AreAlike, BehindEntry, BehindGap, NoneSeen, Whereabouts, PreAt, Row, ThingAt, late_of, mark_of, whole_of}
use Rattle.late_reader.proofs.Alike.{Alike, places_behind}
use Rattle.late_reader.proofs.Lists.{bools, same_fine, never_fine, kept_at, newest_at, alike_fronts, alike_rests, marks_apart}
use Rattle.late_reader.proofs.Told.{Follows, Goes, told, told_alike}

-- so many of the newest go
abbrev pub back : Resolved → List Thing → ℕ → Resolved
back r held n =
    record { done = r.done ++ []; pending = record (r.pending) { held = take (length held - n) held; pre = pre_of (drop (length held - n) held) } }

pub missing_at : (place : Whereabouts) (on : Bool) → false ≡ on → PreAt place on trace_missing trace_missing
missing_at NoneSeen on e = record { lost = refl; addr = tt; ctx = tt; on = e }
missing_at BehindGap on e = (refl, e, refl)
missing_at BehindEntry on e = (refl, e)

-- what is pending is what was told before a thing that goes
pub told_before : (place : Whereabouts) (m : Mark) (t u : Thing) (ts us : List Thing) → ThingAt place m t u
    → PreAt place m.on (pre_of (t ∷ ts)) (pre_of (u ∷ us))
told_before place m t (Seen entry) ts us a = subst (λ z. PreAt place m.on (pre_of (z ∷ ts)) entry.pre) (sym a.same) a.pres
told_before place m t Unseen ts us a =
    subst (λ z. PreAt z m.on (pre_of (t ∷ ts)) trace_missing) (sym a.0)
    (record { lost = refl; addr = tt; ctx = tt; on = sym (ap (λ (z : Mark). z.on) a.1) })
told_before place m t Gap ts us a =
    subst (λ z. PreAt place m.on (pre_of (z ∷ ts)) trace_missing) (sym a.0) (missing_at place m.on (sym (ap (λ (z : Mark). z.on) a.1)))
told_before place m t Stop ts us a =
    subst (λ z. PreAt place m.on (pre_of (z ∷ ts)) trace_missing) (sym a.0) (missing_at place m.on (sym (ap (λ (z : Mark). z.on) a.1)))

back_to : (place : Whereabouts) (n : ℕ) (gone : List Row) → (n == 0) ≡ false → length gone ≡ n → AreAlike place gone
    → PreAt place (on_of (map mark_of gone)) (pre_of (map whole_of gone)) (pre_of (map late_of gone))
back_to place n [] some e a = absurd (let x = sym some ∙ ap (λ k. k == 0) (sym e) in cc)
back_to place n (x ∷ gone) some e a = told_before place x.mark x.whole x.late (map whole_of gone) (map late_of gone) a.0

same_pres : (place : Whereabouts) (a b : Bool) (p p' q q' : Pre) → a ≡ b → p ≡ p' → q ≡ q' → PreAt place b p' q' → PreAt place a p q
same_pres place a b p p' q q' e f g x =
    subst (λ z. PreAt place z p q) (sym e) (subst (λ z. PreAt place b z q) (sym f) (subst (λ z. PreAt place b p' z) (sym g) x))

-- the rows that are held are those that stay and those that go
back_alike : (base : List Thing) (whole : Resolved) (marks : Marks) (late : Resolved) (n : ℕ) (done_rows stays gone : List Row) → (n == 0) ≡ false
    → length gone ≡ n
    → whole.done ≡ base ++ map whole_of done_rows → late.done ≡ map late_of done_rows
    → marks.all ≡ replicate (length base) old ++ map mark_of (done_rows ++ (stays ++ gone))
    → AreAlike NoneSeen (done_rows ++ (stays ++ gone)) → whole.pending.informed ≡ true → late.pending.informed ≡ true
    → Alike base (back whole (map whole_of (stays ++ gone)) n)
    (record { all = take (length marks.all - n) marks.all; on = on_of (drop (length marks.all - n) marks.all) })
    (back late (map late_of (stays ++ gone)) n)
back_alike base whole marks late n done_rows stays gone some count done shown all alike informed begun =
    let w : map whole_of (stays ++ gone) ≡ map whole_of stays ++ map whole_of gone = map-append whole_of stays gone in
    let s : map late_of (stays ++ gone) ≡ map late_of stays ++ map late_of gone = map-append late_of stays gone in
    let joined : (done_rows ++ stays) ++ gone ≡ done_rows ++ (stays ++ gone) = append_assoc done_rows stays gone in
    let front = replicate (length base) old ++ map mark_of (done_rows ++ stays) in
    let m : marks.all ≡ front ++ map mark_of gone =
    all ∙ ap (λ l. replicate (length base) old ++ map mark_of l) (sym joined) ∙ marks_apart (replicate (length base) old) (done_rows ++ stays) gone in
    let rows : AreAlike NoneSeen ((done_rows ++ stays) ++ gone) = subst (AreAlike NoneSeen) (sym joined) alike in
    let on : on_of (drop (length marks.all - n) marks.all) ≡ on_of (map mark_of gone) =
    ap (λ l. on_of (drop (length l - n) l)) m ∙ ap on_of (newest_at n front (map mark_of gone) (length-map gone mark_of ∙ count)) in
    let p : pre_of (drop (length (map whole_of (stays ++ gone)) - n) (map whole_of (stays ++ gone))) ≡ pre_of (map whole_of gone) =
    ap (λ l. pre_of (drop (length l - n) l)) w
    ∙ ap pre_of (newest_at n (map whole_of stays) (map whole_of gone) (length-map gone whole_of ∙ count)) in
    let q : pre_of (drop (length (map late_of (stays ++ gone)) - n) (map late_of (stays ++ gone))) ≡ pre_of (map late_of gone) =
    ap (λ l. pre_of (drop (length l - n) l)) s ∙ ap pre_of (newest_at n (map late_of stays) (map late_of gone) (length-map gone late_of ∙ count)) in
    let there = back_to (places_behind NoneSeen (done_rows ++ stays)) n gone some count (alike_rests NoneSeen (done_rows ++ stays) gone rows) in
    record {
      done_rows = done_rows;
      held_rows = stays;
      done = append-nil whole.done ∙ done;
      shown = append-nil late.done ∙ shown;
      held = ap (λ l. take (length l - n) l) w ∙ kept_at n (map whole_of stays) (map whole_of gone) (length-map gone whole_of ∙ count);
      kept = ap (λ l. take (length l - n) l) s ∙ kept_at n (map late_of stays) (map late_of gone) (length-map gone late_of ∙ count);
      all = ap (λ l. take (length l - n) l) m ∙ kept_at n front (map mark_of gone) (length-map gone mark_of ∙ count);
      alike = alike_fronts NoneSeen (done_rows ++ stays) gone rows;
      pres = same_pres (places_behind NoneSeen (done_rows ++ stays)) _ _ _ _ _ _ on p q there;
      informed = informed;
      begun = begun;
    }

-- ---- by the tests

abbrev pub cancels_by : (none b : Bool) (r : Resolved) (n k : ℕ) → Taken
cancels_by none b r n k = if none then tells r.pending r.pending.pre else if b then cancels r.pending n else Err (CancelOverrun n k)

pub enough : (b : Bool) (r next : Resolved) (n k : ℕ) → with_done r.done (cancels_by false b r n k) ≡ Ok next
    → (b ≡ true) × (back r r.pending.held n ≡ next)
enough true r next n k e = (refl, same_fine _ next e)
enough false r next n k e = absurd (never_fine (CancelOverrun n k) next e)

by_test : (b : Bool) (r next : Resolved) (n : ℕ) → (n == 0) ≡ b → resolve 0 r (elem.Cancel n) ≡ Ok next
    → with_done r.done (cancels_by b (nat_le n (length r.pending.held)) r n (length r.pending.held)) ≡ Ok next
by_test b r next n e f = ap (λ t. with_done r.done (cancels_by t (nat_le n (length r.pending.held)) r n (length r.pending.held))) (sym e) ∙ f

cancels_none : (depth : ℕ) (r : Resolved) (n : ℕ) → (n == 0) ≡ true → resolve depth r (elem.Cancel n) ≡ Ok (told r r.pending.pre)
cancels_none depth r n e = simp e

cancels_some : (depth : ℕ) (r : Resolved) (n : ℕ) → (n == 0) ≡ false → nat_le n (length r.pending.held) ≡ true
    → resolve depth r (elem.Cancel n) ≡ Ok (back r r.pending.held n)
cancels_some depth r n e f = simp (e, f)

none_marked : (r : Resolved) (m : Marks) (n : ℕ) → (n == 0) ≡ true → marked r m (elem.Cancel n) ≡ m
none_marked r m n e = simp e

some_marked : (r : Resolved) (m : Marks) (n : ℕ) → (n == 0) ≡ false
    → marked r m (elem.Cancel n) ≡ record { all = take (length m.all - n) m.all; on = on_of (drop (length m.all - n) m.all) }
some_marked r m n e = simp e

at_most : (n m : ℕ) → nat_le n m ≡ true → n ≤ m
at_most n m e = grind (arith, nat_tests, e)

some_goes : (depth : ℕ) (base : List Thing) (whole : Resolved) (marks : Marks) (late next : Resolved) (n : ℕ) → (n == 0) ≡ false
    → Alike base whole marks late
    → resolve depth whole (elem.Cancel n) ≡ Ok next → Goes depth base whole marks late (elem.Cancel n) next
some_goes depth base whole marks late next n some a e =
    let h = enough (nat_le n (length whole.pending.held)) whole next n (length whole.pending.held) (by_test false whole next n some e) in
    let cut = length a.held_rows - n in
    let stays = take cut a.held_rows in
    let gone = drop cut a.held_rows in
    let parts : stays ++ gone ≡ a.held_rows = take-append-drop cut a.held_rows in
    let holds : length whole.pending.held ≡ length a.held_rows = ap length a.held ∙ length-map a.held_rows whole_of in
    let counts : length a.held_rows ≡ length late.pending.held = sym (length-map a.held_rows late_of) ∙ sym (ap length a.kept) in
    let le = at_most n (length whole.pending.held) h.0 in
    let count : length gone ≡ n = omega (arith, le, holds, length-drop cut a.held_rows) in
    let now = back_alike base whole marks late n a.done_rows stays gone some count a.done a.shown
    (a.all ∙ ap (λ l. replicate (length base) old ++ map mark_of (a.done_rows ++ l)) (sym parts))
    (subst (λ l. AreAlike NoneSeen (a.done_rows ++ l)) (sym parts) a.alike) a.informed a.begun in
    let w : map whole_of (stays ++ gone) ≡ whole.pending.held = ap (map whole_of) parts ∙ sym a.held in
    let s : map late_of (stays ++ gone) ≡ late.pending.held = ap (map late_of) parts ∙ sym a.kept in
    let m : Marks = record { all = take (length marks.all - n) marks.all; on = on_of (drop (length marks.all - n) marks.all) } in
    subst (Goes depth base whole marks late (elem.Cancel n)) h.1 (record {
      after = back late late.pending.held n;
      resolves = cancels_some depth late n some (ap (nat_le n) (sym counts ∙ sym holds) ∙ h.0);
      alike = subst (λ m. Alike base (back whole whole.pending.held n) m (back late late.pending.held n)) (sym (some_marked whole marks n some))
          (subst (λ l. Alike base (back whole l n) m (back late late.pending.held n)) w
          (subst (λ l. Alike base (back whole (map whole_of (stays ++ gone)) n) m (back late l n)) s now));
    })

none_goes : (depth : ℕ) (base : List Thing) (whole : Resolved) (marks : Marks) (late next : Resolved) (n : ℕ) → (n == 0) ≡ true
    → Alike base whole marks late
    → resolve depth whole (elem.Cancel n) ≡ Ok next → Goes depth base whole marks late (elem.Cancel n) next
none_goes depth base whole marks late next n none a e =
    subst (Goes depth base whole marks late (elem.Cancel n)) (same_fine _ next (sym (cancels_none depth whole n none) ∙ e)) (record {
      after = told late late.pending.pre;
      resolves = cancels_none depth late n none;
      alike = subst (λ m. Alike base (told whole whole.pending.pre) m (told late late.pending.pre)) (sym (none_marked whole marks n none))
          (told_alike base whole marks late marks.on whole.pending.pre late.pending.pre a a.pres);
    })

pub cancel_goes : (n : ℕ) → Follows (elem.Cancel n)
cancel_goes n depth base whole marks late next a e = elim (bools (n == 0)) [
  | inl none ↦ none_goes depth base whole marks late next n none a e
  | inr some ↦ some_goes depth base whole marks late next n some a e
]
