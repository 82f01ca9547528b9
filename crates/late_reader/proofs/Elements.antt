-- One element, all elements, and the trace info at which a late reader enters.
use Rattle.std.proofs.Common.{◌≡◌, ℕ, Bool, true, false, List, [], ◌∷◌, ◌++◌, length, Ok, Err, Result, refl, sym, ap, subst, ◌∙◌, inl, inr}
use Rattle.std.proofs.Common.{append-nil, arith}
use Rattle.std.proofs.lemmas.Bool.Decides.{nat_tests}
use Rattle.std.proofs.lemmas.List.{length-append, length-replicate, replicate-append-replicate}
use Rattle.std.specs.Prelude.{◌+◌, ◌≤◌, map, nat_le, replicate}
use Rattle.etm_types.specs.Pre.{trace_missing}
use Rattle.etm_types.specs.declared.element.Elem.{Elem}
use Rattle.etm_types.specs.declared.element.Elem.TheVariants as elem
use Rattle.etm_types.specs.declared.element.Thing.{Thing}
use Rattle.etm_types.specs.declared.element.Thing.TheVariants.{Unseen}
use Rattle.etm_types.specs.declared.queue_fault.QueueFault.{QueueFault}
use Rattle.element_queue.specs.Resolved.{Resolved, unresolved, resolve, resolve_all, then_resolve}
use Rattle.late_reader.specs.Marks.{old, Marks, marks_at, marked, marks_behind, then_mark}
use Rattle.trace_unit.specs.Taken.{Announces}
use Rattle.late_reader.specs.Rows.{AreAlike, NoneSeen, PreAt, Row, late_of, mark_of, whole_of}
use Rattle.late_reader.proofs.Alike.{Alike, places_behind}
use Rattle.late_reader.proofs.Lists.{same_fine, never_fine}
use Rattle.late_reader.proofs.Told.{Follows, addr_goes, ctx_goes, info_goes, informs_again, on_goes, told}
use Rattle.late_reader.proofs.Committed.{p0_goes, commit_goes}
use Rattle.late_reader.proofs.Cancelled.{cancel_goes}
use Rattle.late_reader.proofs.Flipped.{flip_goes}
use Rattle.late_reader.proofs.Lost.{overflow_goes, discard_goes}

pub one_element : (e : Elem) → Follows e
one_element (elem.Info announced) = info_goes announced
one_element elem.On = on_goes
one_element (elem.Ctx ctx) = ctx_goes ctx
one_element (elem.Addr addr) = addr_goes addr
one_element (elem.P0 p0) = p0_goes p0
one_element (elem.Commit n) = commit_goes n
one_element (elem.Cancel n) = cancel_goes n
one_element elem.Flip = flip_goes
one_element elem.Overflow = overflow_goes
one_element elem.Discard = discard_goes

-- the late reader takes all of them, and the two are alike behind them
pub record GoesOn (depth : ℕ) (base : List Thing) (whole : Resolved) (marks : Marks) (late : Resolved) (elements : List Elem) (last : Resolved)
    : Type 0 where
  pub after : Resolved
  pub resolves : resolve_all depth late elements ≡ Ok after
  pub alike : Alike base last (marks_behind depth whole marks elements) after

-- by what the first of them gives
by_first : (depth : ℕ) (base : List Thing) (whole : Resolved) (marks : Marks) (late last : Resolved) (e : Elem) (elements : List Elem)
    (first : Result Resolved QueueFault)
    → resolve depth whole e ≡ first → then_resolve first (λ next. resolve_all depth next elements) ≡ Ok last → Alike base whole marks late
    → ((next after : Resolved) → first ≡ Ok next → resolve depth late e ≡ Ok after → Alike base next (marked whole marks e) after
    → GoesOn depth base next (marked whole marks e) after elements last)
    → GoesOn depth base whole marks late (e ∷ elements) last
by_first depth base whole marks late last e elements (Err f) g h a rest = absurd (never_fine f last h)
by_first depth base whole marks late last e elements (Ok next) g h a rest =
    let one = one_element e depth base whole marks late next a g in
    let all = rest next one.after refl one.resolves one.alike in
    record {
      after = all.after;
      resolves = ap (λ r. then_resolve r (λ next. resolve_all depth next elements)) one.resolves ∙ all.resolves;
      alike = subst (λ m. Alike base last m all.after)
          (sym (ap (λ r. then_mark r marks (λ next. marks_behind depth next (marked whole marks e) elements)) g)) all.alike;
    }

pub all_elements : (depth : ℕ) (base : List Thing) (whole : Resolved) (marks : Marks) (late last : Resolved) (elements : List Elem)
    → Alike base whole marks late
    → resolve_all depth whole elements ≡ Ok last → GoesOn depth base whole marks late elements last
all_elements depth base whole marks late last [] a f =
    record { after = late; resolves = refl; alike = subst (λ r. Alike base r marks late) (same_fine whole last f) a }
all_elements depth base whole marks late last (e ∷ elements) a f =
    by_first depth base whole marks late last e elements (resolve depth whole e) refl f a
    (λ next after g h alike. all_elements depth base next (marked whole marks e) after last elements alike
    (sym (ap (λ r. then_resolve r (λ next. resolve_all depth next elements)) g) ∙ f))

-- ---- the trace info

-- each thing that is held there is unseen by the late reader
abbrev pub unseen_row : Thing → Row
unseen_row t = record { whole = t; mark = old; late = Unseen }

abbrev pub unseen_rows : List Thing → List Row
unseen_rows things = map unseen_row things

unseen_whole : (things : List Thing) → map whole_of (unseen_rows things) ≡ things
unseen_whole [] = refl
unseen_whole (t ∷ things) = ap (λ l. t ∷ l) (unseen_whole things)

unseen_late : (things : List Thing) → map late_of (unseen_rows things) ≡ replicate (length things) Unseen
unseen_late [] = refl
unseen_late (t ∷ things) = ap (λ l. Unseen ∷ l) (unseen_late things)

unseen_marks : (things : List Thing) → map mark_of (unseen_rows things) ≡ replicate (length things) old
unseen_marks [] = refl
unseen_marks (t ∷ things) = ap (λ l. old ∷ l) (unseen_marks things)

unseen_alike : (things : List Thing) → AreAlike NoneSeen (unseen_rows things)
unseen_alike [] = tt
unseen_alike (t ∷ things) = ((refl, refl), unseen_alike things)

unseen_place : (things : List Thing) → places_behind NoneSeen (unseen_rows things) ≡ NoneSeen
unseen_place [] = refl
unseen_place (t ∷ things) = unseen_place things

many_old : (m n : ℕ) → replicate (m + n) old ≡ replicate m old ++ replicate n old
many_old m n = sym (replicate-append-replicate m n old)

-- a late reader behind a trace info that announces so many
abbrev pub informed_first_of : ℕ → Resolved
informed_first_of announced =
    record { done = []; pending = record { held = replicate announced Unseen; pre = record trace_missing { flush = true }; informed = true } }

pub first_info : (depth announced : ℕ) → nat_le announced depth ≡ true
    → resolve depth unresolved (elem.Info announced) ≡ Ok (informed_first_of announced)
first_info depth announced e = simp e

-- a reader of the whole, behind the trace info, where as many are held
pub alike_at : (at : Resolved) → at.pending.informed ≡ true → Alike at.done at (marks_at at) (informed_first_of (length at.pending.held))
alike_at at e =
    let rows = unseen_rows at.pending.held in
    record {
      done_rows = [];
      held_rows = rows;
      done = sym (append-nil at.done);
      shown = refl;
      held = sym (unseen_whole at.pending.held);
      kept = sym (unseen_late at.pending.held);
      all = many_old (length at.done) (length at.pending.held) ∙ ap (λ l. replicate (length at.done) old ++ l) (sym (unseen_marks at.pending.held));
      alike = unseen_alike at.pending.held;
      pres = subst (λ p. PreAt p false at.pending.pre (record trace_missing { flush = true })) (sym (unseen_place at.pending.held))
          (record { lost = refl; addr = tt; ctx = tt; on = refl });
      informed = e;
      begun = refl;
    }

-- what the trace info leaves in the whole
pub record AtInfo (announced : ℕ) (at : Resolved) : Type 0 where
  pub informed : at.pending.informed ≡ true
  pub held : length at.pending.held ≡ announced

abbrev pub informed_first : Resolved → ℕ → Resolved
informed_first r announced =
    record {
      done = r.done ++ [];
      pending = record { held = r.pending.held ++ replicate announced Unseen; pre = record (r.pending.pre) { flush = true }; informed = true };
    }

informs_first : (depth : ℕ) (r : Resolved) (announced : ℕ) → r.pending.informed ≡ false → nat_le announced depth ≡ true
    → resolve depth r (elem.Info announced) ≡ Ok (informed_first r announced)
informs_first depth r announced e f = simp (e, f)

fits : (depth announced : ℕ) → announced ≤ depth → nat_le announced depth ≡ true
fits depth announced le = grind (arith, nat_tests, le)

info_by : (depth announced : ℕ) (r : Resolved) (b : Bool) → Announces depth announced r → r.pending.informed ≡ b
    → (at : Resolved) × (resolve depth r (elem.Info announced) ≡ Ok at) × AtInfo announced at
info_by depth announced r true c e =
    (told r (record (r.pending.pre) { flush = true }), informs_again depth r announced e, record { informed = e; held = c.held })
info_by depth announced r false c e = elim c.first [
  | inl some ↦ absurd (let x = sym some ∙ e in cc)
  | inr none ↦ (
    informed_first r announced,
    informs_first depth r announced e (fits depth announced c.few),
    record {
      informed = refl;
      held = omega (arith, c.held, none, length-append r.pending.held (replicate announced Unseen), length-replicate announced Unseen);
    },
  )
]

-- what the trace info gives where it announces what is held
pub info_given : (depth announced : ℕ) (r : Resolved) → Announces depth announced r
    → (at : Resolved) × (resolve depth r (elem.Info announced) ≡ Ok at) × AtInfo announced at
info_given depth announced r c = info_by depth announced r r.pending.informed c refl

pub at_info : (depth announced : ℕ) (r at : Resolved) → Announces depth announced r → resolve depth r (elem.Info announced) ≡ Ok at
    → AtInfo announced at
at_info depth announced r at c e = let i = info_given depth announced r c in subst (AtInfo announced) (same_fine i.0 at (sym i.1 ∙ e)) i.2

-- ---- the whole, from there on

pub record LateResolved (depth announced : ℕ) (at : Resolved) (elements : List Elem) (last : Resolved) : Type 0 where
  pub after : Resolved
  pub resolves : resolve_all depth unresolved (elem.Info announced ∷ elements) ≡ Ok after
  pub alike : Alike at.done last (marks_behind depth at (marks_at at) elements) after

pub late_resolved : (depth announced : ℕ) (r at last : Resolved) (elements : List Elem) → Announces depth announced r
    → resolve depth r (elem.Info announced) ≡ Ok at
    → resolve_all depth at elements ≡ Ok last → LateResolved depth announced at elements last
late_resolved depth announced r at last elements c e f =
    let i = at_info depth announced r at c e in
    let begins = subst (λ n. Alike at.done at (marks_at at) (informed_first_of n)) i.held (alike_at at i.informed) in
    let all = all_elements depth at.done at (marks_at at) (informed_first_of announced) last elements begins f in
    record {
      after = all.after;
      resolves = ap (λ r. then_resolve r (λ next. resolve_all depth next elements)) (first_info depth announced (fits depth announced c.few))
          ∙ all.resolves;
      alike = all.alike;
    }
