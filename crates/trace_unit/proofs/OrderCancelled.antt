-- A Cancel keeps the two readers so.
use Rattle.std.proofs.Common.{◌≡◌, ℕ, zero, suc, ◌+◌, ◌-◌, ◌≤◌, ◌<◌, List, [], ◌∷◌, ◌++◌, length}
use Rattle.std.proofs.Common.{refl, sym, ap, subst, ◌∙◌, inl, inr, arith, append_assoc, append-nil, length-append}
use Rattle.std.proofs.lemmas.Bool.{cases_lt}
use Rattle.std.proofs.lemmas.List.{take-append-drop, map-append, nil_from_length, length-take, length-drop, length-map}
use Rattle.etm_types.specs.declared.element.P0.{P0}
use Rattle.etm_types.specs.declared.element.P0.TheVariants.{Atom}
use Rattle.etm_types.specs.declared.element.Pre.{Pre}
use Rattle.etm_types.specs.declared.element.Thing.{Thing}
use Rattle.etm_types.specs.declared.element.Thing.TheVariants.{Seen, Unseen, Gap, Stop}
use Rattle.element_queue.specs.Pending.{pre_of}
use Rattle.element_queue.specs.Resolved.{Resolved}
use Rattle.spec_run.specs.Steps.{kept, newest}
use Rattle.trace_unit.proofs.Behind.{Behind, back, entries, entries-append, length-entries, pend, pend-append, same_parts}
use Rattle.trace_unit.proofs.Cancelled.{cancelled, cancels_them, pre_behind}
use Rattle.trace_unit.proofs.Out.{Waits, p0s_of}
use Rattle.trace_unit.specs.Orders.{Cancel}
use Rattle.trace_unit.specs.Whole.{PutOff}
use Rattle.trace_unit.proofs.OrderTold.{KeepsBoth}

two_parts : {X : Type 0} (n : ℕ) (xs : List X) → kept n xs ++ newest n xs ≡ xs
two_parts n xs = take-append-drop (length xs - n) xs

newest_many : {X : Type 0} (n : ℕ) (xs : List X) → n ≤ length xs → length (newest n xs) ≡ n
newest_many n xs le = omega (arith, le, length-drop (length xs - n) xs)

-- the reader that is told at once, behind a Cancel, where these things go
pre_so : (n : ℕ) (r : Resolved) (gone : List Thing) (pre : Pre) → length gone ≡ n → newest n r.pending.held ≡ gone → r.pending.pre ≡ pre
    → pre_behind n r ≡ back gone pre
pre_so zero r [] pre e n p = p
pre_so zero r (t ∷ gone) pre e n p = absurd (omega (arith, e))
pre_so (suc q) r [] pre e n p = absurd (omega (arith, e))
pre_so (suc q) r (t ∷ gone) pre e n p = ap pre_of n

back_of_entries : (pre pre' : Pre) (xs : List P0) → pre' ≡ pend pre xs → back (entries pre xs) pre' ≡ pre
back_of_entries pre pre' [] e = e
back_of_entries pre pre' (x ∷ xs) e = refl

first_back : (g es gone : List Thing) (pre pre' : Pre) → 0 < length g → back (g ++ es) pre ≡ back (g ++ gone) pre'
first_back [] es gone pre pre' lt = absurd (omega (arith, lt))
first_back (Seen entry ∷ g) es gone pre pre' lt = refl
first_back (Unseen ∷ g) es gone pre pre' lt = refl
first_back (Gap ∷ g) es gone pre pre' lt = refl
first_back (Stop ∷ g) es gone pre pre' lt = refl

pub cancel_order : (depth : ℕ) (u : PutOff) (rw rp : Resolved) (n : ℕ) → Waits depth u rw rp → n ≤ length rp.pending.held → KeepsBoth depth u rw rp (Cancel n)
cancel_order depth u rw rp n b asks = elim (cases_lt (length u.atoms) n) [ inl lt ↦ further lt | inr le ↦ within le ] where
  pre : Pre
  pre = back b.gone rw.pending.pre

  stays : List Thing
  stays = kept n rp.pending.held

  goes : List Thing
  goes = newest n rp.pending.held

  parts : (b.ahead ++ stays) ++ goes ≡ b.keep ++ entries pre (p0s_of u.atoms)
  parts = append_assoc b.ahead stays goes ∙ ap (λ l. b.ahead ++ l) (two_parts n rp.pending.held) ∙ sym b.all

  few : length stays ≤ depth
  few = omega (arith, b.fits, ap length (two_parts n rp.pending.held), length-append stays goes)

  going : length goes ≡ n
  going = newest_many n rp.pending.held asks

  within : n ≤ length u.atoms → KeepsBoth depth u rw rp (Cancel n)
  within le =
      let us = kept n u.atoms in
      let vs = newest n u.atoms in
      let size : length vs ≡ n = newest_many n u.atoms le in
      let atoms : p0s_of us ++ p0s_of vs ≡ p0s_of u.atoms = sym (map-append (λ a. Atom a) us vs) ∙ ap p0s_of (two_parts n u.atoms) in
      let made : entries pre (p0s_of us) ++ entries (pend pre (p0s_of us)) (p0s_of vs) ≡ entries pre (p0s_of u.atoms) =
      sym (entries-append pre (p0s_of us) (p0s_of vs)) ∙ ap (entries pre) atoms in
      let whole' : (b.ahead ++ stays) ++ goes ≡ (b.keep ++ entries pre (p0s_of us)) ++ entries (pend pre (p0s_of us)) (p0s_of vs) =
      parts ∙ ap (λ l. b.keep ++ l) (sym made) ∙ sym (append_assoc b.keep (entries pre (p0s_of us)) (entries (pend pre (p0s_of us)) (p0s_of vs))) in
      let many : length goes ≡ length (entries (pend pre (p0s_of us)) (p0s_of vs)) = going
      ∙ sym (length-entries (pend pre (p0s_of us)) (p0s_of vs) ∙ length-map vs (λ a. Atom a) ∙ size) in
      let both = same_parts (b.ahead ++ stays) goes (b.keep ++ entries pre (p0s_of us)) (entries (pend pre (p0s_of us)) (p0s_of vs)) whole' many in
      let none : u.cancels ≡ u.cancels + (n - length u.atoms) = omega (arith, le) in
      let told : rp.pending.pre ≡ pend (pend pre (p0s_of us)) (p0s_of vs) = b.pre ∙ ap (pend pre) (sym atoms) ∙ pend-append pre (p0s_of us) (p0s_of vs) in (
        cancelled rp n,
        rw,
        cancels_them depth n rp asks,
        refl,
        record {
          keep = b.keep;
          gone = b.gone;
          ahead = b.ahead;
          held = b.held;
          going = b.going ∙ none;
          done = b.done;
          due = b.due;
          all = sym both.0;
          pre = pre_so n rp goes rp.pending.pre going refl refl ∙ ap (λ l. back l rp.pending.pre) both.1
              ∙ back_of_entries (pend pre (p0s_of us)) rp.pending.pre (p0s_of vs) told;
          informed = b.informed;
          many = b.many;
          room = b.room;
          fits = few;
        },
      )

  further : length u.atoms < n → KeepsBoth depth u rw rp (Cancel n)
  further lt =
      let m = n - length u.atoms in
      let k = kept m b.keep in
      let g = newest m b.keep in
      let es = entries pre (p0s_of u.atoms) in
      let size : length es ≡ length u.atoms = length-entries pre (p0s_of u.atoms) ∙ length-map u.atoms (λ a. Atom a) in
      let enough : m ≤ length b.keep = omega (arith, size, going, ap length parts, length-append (b.ahead ++ stays) goes, length-append b.keep es) in
      let gs : length g ≡ m = newest_many m b.keep enough in
      let whole' : (b.ahead ++ stays) ++ goes ≡ k ++ (g ++ es) = parts ∙ ap (λ l. l ++ es) (sym (two_parts m b.keep)) ∙ append_assoc k g es in
      let many : length goes ≡ length (g ++ es) = omega (arith, going, size, gs, length-append g es, lt) in
      let both = same_parts (b.ahead ++ stays) goes k (g ++ es) whole' many in
      let none : kept n u.atoms ≡ [] = nil_from_length (kept n u.atoms) (omega (arith, lt, length-take (length u.atoms - n) u.atoms)) in
      let front : g ++ es ≡ goes = sym both.1 in
      let again : back (g ++ es) rp.pending.pre ≡ back (g ++ b.gone) rw.pending.pre =
      first_back g es b.gone rp.pending.pre rw.pending.pre (omega (arith, gs, lt)) in
      let result : Behind depth [] (u.cancels + m) u.commits u.held rw (cancelled rp n) = record {
        keep = k;
        gone = g ++ b.gone;
        ahead = b.ahead;
        held = b.held ∙ ap (λ l. l ++ b.gone) (sym (two_parts m b.keep)) ∙ append_assoc k g b.gone;
        going = omega (arith, length-append g b.gone, gs, b.going);
        done = b.done;
        due = b.due;
        all = append-nil k ∙ sym both.0;
        pre = pre_so n rp goes rp.pending.pre going refl refl ∙ ap (λ l. back l rp.pending.pre) both.1 ∙ again;
        informed = b.informed;
        many = b.many;
        room = b.room;
        fits = few;
      } in (
        cancelled rp n,
        rw,
        cancels_them depth n rp asks,
        refl,
        subst (λ l. Behind depth (p0s_of l) (u.cancels + m) u.commits u.held rw (cancelled rp n))
            (sym none) result,
      )
