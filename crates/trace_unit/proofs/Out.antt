-- What waits is written.
use Rattle.std.proofs.Common.{◌≡◌, ℕ, zero, suc, ◌+◌, ◌-◌, ◌≤◌, Bool, List, [], ◌∷◌, ◌++◌, length, take, drop, Ok, refl, sym, ap, subst, ◌∙◌, inl, inr}
use Rattle.std.proofs.Common.{arith, append-nil, length-append}
use Rattle.std.proofs.lemmas.Bool.{cases_Bool}
use Rattle.std.proofs.lemmas.Bool.Decides.{nat_tests}
use Rattle.std.proofs.lemmas.List.{take-append-drop, drop_all}
use Rattle.std.specs.Prelude.{map, nat_le}
use Rattle.etm_types.specs.declared.element.P0.{P0}
use Rattle.etm_types.specs.declared.element.P0.TheVariants.{Atom}
use Rattle.etm_types.specs.declared.element.Thing.{Thing}
use Rattle.element_queue.specs.Pending.{pre_of}
use Rattle.element_queue.specs.Resolved.{Resolved, resolve_all}
use Rattle.spec_run.specs.Steps.{kept, newest}
use Rattle.trace_unit.proofs.Behind.{Behind, back, entries, pend, put, put_out}
use Rattle.trace_unit.proofs.Cancelled.{cancelled, cancels_them, pre_behind}
use Rattle.trace_unit.proofs.Lists.{kept_at, newest_at}
use Rattle.trace_unit.proofs.OneEvent.{goes_on}
use Rattle.trace_unit.specs.Told.{atom_element, cancels_of}
use Rattle.trace_unit.specs.Whole.{PutOff, cancelled_out, out, out_elements, some_elements, some_out, wrote, wrote_all}

-- the atoms as P0 elements
abbrev pub p0s_of : List Bool → List P0
p0s_of atoms = map (λ a. Atom a) atoms

-- the readers stand so by what a unit keeps
abbrev pub Waits : ℕ → PutOff → Resolved → Resolved → Type 0
Waits depth u rw rp = Behind depth (p0s_of u.atoms) u.cancels u.commits u.held rw rp

-- ---- what is to be cancelled

back_is : (q : ℕ) (gone : List Thing) (r : Resolved) → length gone ≡ q → newest q r.pending.held ≡ gone → pre_behind q r ≡ back gone r.pending.pre
back_is zero [] r e n = refl
back_is zero (t ∷ gone) r e n = absurd (omega (arith, e))
back_is (suc q) [] r e n = absurd (omega (arith, e))
back_is (suc q) (t ∷ gone) r e n = ap pre_of n

pub cancel_out : (depth : ℕ) (xs : List P0) (q c h : ℕ) (rw rp : Resolved) → Behind depth xs q c h rw rp → Behind depth xs 0 c (h - q) (cancelled rw q) rp
    × (q ≤ length rw.pending.held)
cancel_out depth xs q c h rw rp b =
    let size : length rw.pending.held ≡ length b.keep + q = ap length b.held ∙ length-append b.keep b.gone ∙ ap (λ n. length b.keep + n) b.going in
    let stays : kept q rw.pending.held ≡ b.keep = ap (kept q) b.held ∙ kept_at q b.keep b.gone b.going in
    let goes : newest q rw.pending.held ≡ b.gone = ap (newest q) b.held ∙ newest_at q b.keep b.gone b.going in
    let pre : pre_behind q rw ≡ back b.gone rw.pending.pre = back_is q b.gone rw b.going goes in (
      record {
        keep = b.keep;
        gone = [];
        ahead = b.ahead;
        held = stays ∙ sym (append-nil b.keep);
        going = refl;
        done = b.done;
        due = b.due;
        all = ap (λ p. b.keep ++ entries p xs) pre ∙ b.all;
        pre = b.pre ∙ ap (λ p. pend p xs) (sym pre);
        informed = b.informed;
        many = omega (arith, b.many, size, ap length stays);
        room = omega (arith, b.room);
        fits = b.fits;
      },
      omega (arith, size),
    )

-- ---- the atoms

wrote_is : (depth : ℕ) (u : PutOff) → u.held ≤ depth → wrote depth u
    ≡ record u { held = u.held + 1 - (u.held + 1 - depth); commits = u.commits - (u.held + 1 - depth) }
wrote_is depth u room = elim (cases_Bool (nat_le (u.held + 1) depth)) [
  | inl t ↦
      let le : u.held + 1 ≤ depth = grind (arith, nat_tests, t) in
      let h : u.held + 1 ≡ u.held + 1 - (u.held + 1 - depth) = omega (arith, le) in
      let c : u.commits ≡ u.commits - (u.held + 1 - depth) = omega (arith, le) in
      simp t (ap (λ n. record u { held = n }) h ∙ ap (λ n. record u { held = u.held + 1 - (u.held + 1 - depth); commits = n }) c)
  | inr f ↦
      let gt : depth ≤ u.held = grind (arith, nat_tests, f) in
      let h : u.held ≡ u.held + 1 - (u.held + 1 - depth) = omega (arith, gt, room) in
      let c : u.commits - 1 ≡ u.commits - (u.held + 1 - depth) = omega (arith, gt, room) in
      simp f (ap (λ n. record u { commits = n }) c ∙ ap (λ n. record u { held = n; commits = u.commits - (u.held + 1 - depth) }) h)
]

pub wrote_one : (depth : ℕ) (x : P0) (xs : List P0) (u : PutOff) (rw rp : Resolved) → Behind depth (x ∷ xs) 0 u.commits u.held rw rp
    → Behind depth xs 0 (wrote depth u).commits (wrote depth u).held (put depth rw x) rp
wrote_one depth x xs u rw rp b =
    subst (λ (v : PutOff). Behind depth xs 0 v.commits v.held (put depth rw x) rp) (sym (wrote_is depth u b.room))
    (put_out depth x xs u.commits u.held rw rp b)

pub wrote_some : (depth : ℕ) (us vs : List Bool) (u : PutOff) (rw rp : Resolved) → Behind depth (p0s_of (us ++ vs)) 0 u.commits u.held rw rp
    → (next : Resolved) × (resolve_all depth rw (map atom_element us) ≡ Ok next)
    × Behind depth (p0s_of vs) 0 (wrote_all depth us u).commits (wrote_all depth us u).held next rp
wrote_some depth [] vs u rw rp b = (rw, refl, b)
wrote_some depth (a ∷ us) vs u rw rp b = wrote_some depth us vs (wrote depth u) (put depth rw (Atom a)) rp
    (wrote_one depth (Atom a) (p0s_of (us ++ vs)) u rw rp b)

pub none_wrote : (depth : ℕ) (u : PutOff) → (wrote depth u).cancels ≡ u.cancels
none_wrote depth u = elim (cases_Bool (nat_le (u.held + 1) depth)) [ inl t ↦ simp t | inr f ↦ simp f ]

none_cancels : (depth : ℕ) (us : List Bool) (u : PutOff) → (wrote_all depth us u).cancels ≡ u.cancels
none_cancels depth [] u = refl
none_cancels depth (a ∷ us) u = none_cancels depth us (wrote depth u) ∙ none_wrote depth u

pub writes_some : (depth n : ℕ) (u : PutOff) (rw rp : Resolved) → Waits depth u rw rp
    → (next : Resolved) × (resolve_all depth rw (some_elements n u) ≡ Ok next)
    × Behind depth (p0s_of (drop n u.atoms)) 0 (some_out depth n u).commits (some_out depth n u).held next rp
writes_some depth n u rw rp b =
    let parts : take n u.atoms ++ drop n u.atoms ≡ u.atoms = take-append-drop n u.atoms in
    let one = cancel_out depth (p0s_of u.atoms) u.cancels u.commits u.held rw rp b in
    let all = wrote_some depth (take n u.atoms) (drop n u.atoms) (cancelled_out u) (cancelled rw u.cancels) rp
    (subst (λ l. Behind depth (p0s_of l) 0 u.commits (u.held - u.cancels) (cancelled rw u.cancels) rp) (sym parts) one.0) in (
      all.0,
      goes_on depth rw (cancelled rw u.cancels) (cancels_of u.cancels) (map atom_element (take n u.atoms)) (cancels_them depth u.cancels rw one.1)
          ∙ all.1,
      all.2,
    )

-- all of them
pub writes_all : (depth : ℕ) (u : PutOff) (rw rp : Resolved) → Waits depth u rw rp
    → (next : Resolved) × (resolve_all depth rw (out_elements u) ≡ Ok next) × Behind depth [] 0 (out depth u).commits (out depth u).held next rp
writes_all depth u rw rp b =
    let w = writes_some depth (length u.atoms) u rw rp b in
    (w.0, w.1, subst (λ l. Behind depth (p0s_of l) 0 (out depth u).commits (out depth u).held w.0 rp) (drop_all (length u.atoms) u.atoms (omega arith)) w.2)

pub none_out : (depth n : ℕ) (u : PutOff) → (some_out depth n u).cancels ≡ 0
none_out depth n u = none_cancels depth (take n u.atoms) (cancelled_out u)

pub none_left : (u : PutOff) → drop (length u.atoms) u.atoms ≡ []
none_left u = drop_all (length u.atoms) u.atoms (omega arith)
