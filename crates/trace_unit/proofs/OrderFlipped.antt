-- A Flip keeps the two readers so.
use Rattle.std.proofs.Common.{◌≡◌, ℕ, ◌-◌, Bool, true, if◌then◌else◌, List, [], ◌∷◌, ◌++◌, length, Option}
use Rattle.std.proofs.Common.{Some, None, Ok, refl, sym, ap, subst, ◌∙◌, arith, append_assoc, append-nil, length-append}
use Rattle.std.proofs.lemmas.List.{map-append}
use Rattle.std.specs.Prelude.{not}
use Rattle.std.specs.Option.{option_map}
use Rattle.etm_types.specs.Pre.{nothing_told}
use Rattle.etm_types.specs.declared.element.Elem.TheVariants as elem
use Rattle.etm_types.specs.declared.element.P0.TheVariants.{Atom}
use Rattle.etm_types.specs.declared.element.Pre.{Pre}
use Rattle.etm_types.specs.declared.element.Thing.{Thing}
use Rattle.etm_types.specs.declared.element.Thing.TheVariants.{Seen}
use Rattle.element_queue.specs.Pending as queue
use Rattle.element_queue.specs.Pending.{flip_newest, flip_thing, is_unseen, pre_of}
use Rattle.element_queue.specs.Resolved.{Resolved, resolve_all}
use Rattle.trace_unit.proofs.Behind.{Behind, back, entries, entries-append, pend, pend-append, same_parts}
use Rattle.trace_unit.proofs.Cancelled.{cancelled, cancels_them}
use Rattle.trace_unit.proofs.Flipped.{flip_newest_at, pre_behind_at}
use Rattle.trace_unit.proofs.Lists.{heads}
use Rattle.trace_unit.proofs.OneEvent.{goes_on}
use Rattle.trace_unit.proofs.Out.{cancel_out, p0s_of}
use Rattle.trace_unit.specs.Orders.{Flip}
use Rattle.trace_unit.specs.Told.{cancels_of}
use Rattle.trace_unit.specs.Whole.{PutOff}
use Rattle.trace_unit.specs.Whole.{turn_last}
use Rattle.trace_unit.proofs.OrderTold.{Beside, KeepsBoth, behind_by, beside}

-- a list that is not empty, by its last
pub record Ends {X : Type 0} (xs : List X) : Type 0 where
  pub others : List X
  pub newest : X
  pub whole : xs ≡ others ++ newest ∷ []

pub ends : {X : Type 0} (x : X) (xs : List X) → Ends (x ∷ xs)
ends x [] = record { others = []; newest = x; whole = refl }
ends x (y ∷ xs) = let e = ends y xs in record { others = x ∷ e.others; newest = e.newest; whole = ap (λ l. x ∷ l) e.whole }

turn_last_at : (xs : List Bool) (a : Bool) → turn_last (xs ++ a ∷ []) ≡ xs ++ not a ∷ []
turn_last_at [] a = refl
turn_last_at (x ∷ []) a = refl
turn_last_at (x ∷ y ∷ xs) a = ap (λ l. x ∷ l) (turn_last_at (y ∷ xs) a)

-- the newest thing, and what it becomes
pub record Flips (xs held : List Thing) : Type 0 where
  pub others : List Thing
  pub last : Thing
  pub other : Thing
  pub before : xs ≡ others ++ last ∷ []
  pub flips : flip_thing last ≡ Some other
  pub now : held ≡ others ++ other ∷ []

flips_one : (others : List Thing) (held : List Thing) (o : Option Thing) → option_map (λ f. others ++ f ∷ []) o ≡ Some held → (t : Thing) × (o ≡ Some t)
    × (held ≡ others ++ t ∷ [])
flips_one others held None e = absurd cc
flips_one others held (Some t) e = (t, refl, cc)

flips_so : (xs held : List Thing) → flip_newest xs ≡ Some held → Flips xs held
flips_so [] held e = absurd cc
flips_so (x ∷ xs) held e =
    let at = ends x xs in
    let one = flips_one at.others held (flip_thing at.newest) (sym (ap flip_newest at.whole ∙ flip_newest_at at.others at.newest) ∙ e) in
    record { others = at.others; last = at.newest; other = one.0; before = at.whole; flips = one.1; now = one.2 }

abbrev pub turned_pre : Thing → Pre → Pre
turned_pre t pre = record pre { addr = None; lost = if is_unseen t then true else pre.lost }

abbrev pub turned_to : Resolved → List Thing → Pre → Resolved
turned_to r held pre = record { done = r.done; pending = record { held = held; pre = pre; informed = r.pending.informed } }

-- a reader whose newest thing is this one
turns : (depth : ℕ) (r : Resolved) (others : List Thing) (last other : Thing) → r.pending.held ≡ others ++ last ∷ [] → flip_thing last ≡ Some other
    → resolve_all depth r (elem.Flip ∷ []) ≡ Ok (turned_to r (others ++ other ∷ []) (turned_pre last r.pending.pre))
turns depth r others last other e f =
    let flips : flip_newest r.pending.held ≡ Some (others ++ other ∷ []) = ap flip_newest e ∙ flip_newest_at others last
    ∙ ap (option_map (λ x. others ++ x ∷ [])) f in
    let pre : queue.pre_behind r.pending.held r.pending.pre ≡ turned_pre last r.pending.pre = ap (λ l. queue.pre_behind l r.pending.pre) e
    ∙ pre_behind_at others last r.pending.pre in
    simp (flips, pre) (ap (λ d. Ok (record {
      done = d;
      pending = record { held = others ++ other ∷ []; pre = turned_pre last r.pending.pre; informed = r.pending.informed };
    })) (append-nil r.done))

-- no atom is held: the reader of the whole form has the same newest thing
flip_out : (depth : ℕ) (c h : ℕ) (rw rp : Resolved) (held : List Thing) → Beside depth c h rw rp → flip_newest rp.pending.held ≡ Some held
    → (np : Resolved) × (nw : Resolved) × (resolve_all depth rp (elem.Flip ∷ []) ≡ Ok np) × (resolve_all depth rw (elem.Flip ∷ []) ≡ Ok nw)
    × Behind depth [] 0 c h nw np
flip_out depth c h rw rp held b e =
    let f = flips_so rp.pending.held held e in
    let same : rw.pending.held ≡ (b.ahead ++ f.others) ++ f.last ∷ [] = b.held ∙ ap (λ l. b.ahead ++ l) f.before
    ∙ sym (append_assoc b.ahead f.others (f.last ∷ [])) in
    let np = turned_to rp (f.others ++ f.other ∷ []) (turned_pre f.last rp.pending.pre) in
    let nw = turned_to rw ((b.ahead ++ f.others) ++ f.other ∷ []) (turned_pre f.last rw.pending.pre) in
    let size : length rw.pending.held ≡ length ((b.ahead ++ f.others) ++ f.other ∷ []) = ap length same ∙ length-append (b.ahead ++ f.others) (f.last ∷ [])
    ∙ sym (length-append (b.ahead ++ f.others) (f.other ∷ [])) in
    let size' : length rp.pending.held ≡ length (f.others ++ f.other ∷ []) = ap length f.before ∙ length-append f.others (f.last ∷ [])
    ∙ sym (length-append f.others (f.other ∷ [])) in (
      np,
      nw,
      turns depth rp f.others f.last f.other f.before f.flips,
      turns depth rw (b.ahead ++ f.others) f.last f.other same f.flips,
      behind_by depth c h nw np (record {
        ahead = b.ahead;
        done = b.done;
        due = b.due;
        held = append_assoc b.ahead f.others (f.other ∷ []);
        pre = ap (turned_pre f.last) b.pre;
        informed = b.informed;
        many = b.many ∙ size;
        room = b.room;
        fits = omega (arith, b.fits, size');
      }),
    )

-- an atom is held: it is the newest thing of the reader that is told at once
flip_held : (depth : ℕ) (u : PutOff) (rw rp : Resolved) (a : Bool) (atoms : List Bool) (held : List Thing)
    → Behind depth (p0s_of (a ∷ atoms)) u.cancels u.commits u.held rw rp → flip_newest rp.pending.held ≡ Some held
    → (np : Resolved) × (resolve_all depth rp (elem.Flip ∷ []) ≡ Ok np) × Behind depth (p0s_of (turn_last (a ∷ atoms))) u.cancels u.commits u.held rw np
flip_held depth u rw rp a atoms held b e =
    let f = flips_so rp.pending.held held e in
    let at = ends a atoms in
    let z = at.newest in
    let us = p0s_of at.others in
    let pre = back b.gone rw.pending.pre in
    let made : p0s_of (a ∷ atoms) ≡ us ++ Atom z ∷ [] = ap p0s_of at.whole ∙ map-append (λ x. Atom x) at.others (z ∷ []) in
    let x = Seen (record { pre = pend pre us; p0 = Atom z }) in
    let y = Seen (record { pre = pend pre us; p0 = Atom (not z) }) in
    let all : (b.keep ++ entries pre us) ++ x ∷ [] ≡ (b.ahead ++ f.others) ++ f.last ∷ [] =
    append_assoc b.keep (entries pre us) (x ∷ []) ∙ ap (λ l. b.keep ++ l) (sym (ap (entries pre) made ∙ entries-append pre us (Atom z ∷ []))) ∙ b.all
    ∙ ap (λ l. b.ahead ++ l) f.before
    ∙ sym (append_assoc b.ahead f.others (f.last ∷ [])) in
    let both = same_parts (b.keep ++ entries pre us) (x ∷ []) (b.ahead ++ f.others) (f.last ∷ []) all refl in
    let is : x ≡ f.last = (heads x f.last [] [] both.1).0 in
    let now : rp.pending.held ≡ f.others ++ x ∷ [] = f.before ∙ ap (λ t. f.others ++ t ∷ []) (sym is) in
    let np = turned_to rp (f.others ++ y ∷ []) (turned_pre x rp.pending.pre) in
    let size : length rp.pending.held ≡ length (f.others ++ y ∷ []) = ap length now ∙ length-append f.others (x ∷ []) ∙ sym (length-append f.others (y ∷ [])) in
    let turned : p0s_of (turn_last (a ∷ atoms)) ≡ us ++ Atom (not z) ∷ [] = ap (λ l. p0s_of (turn_last l)) at.whole ∙ ap p0s_of (turn_last_at at.others z)
    ∙ map-append (λ x. Atom x) at.others (not z ∷ []) in
    let told : rp.pending.pre ≡ nothing_told = b.pre ∙ ap (pend pre) made ∙ pend-append pre us (Atom z ∷ []) in
    let result : Behind depth (us ++ Atom (not z) ∷ []) u.cancels u.commits u.held rw np = record {
      keep = b.keep;
      gone = b.gone;
      ahead = b.ahead;
      held = b.held;
      going = b.going;
      done = b.done;
      due = b.due;
      all = ap (λ l. b.keep ++ l) (entries-append pre us (Atom (not z) ∷ [])) ∙ sym (append_assoc b.keep (entries pre us) (y ∷ []))
          ∙ ap (λ l. l ++ y ∷ []) both.0 ∙ append_assoc b.ahead f.others (y ∷ []);
      pre = ap (turned_pre x) told ∙ sym (pend-append pre us (Atom (not z) ∷ []));
      informed = b.informed;
      many = b.many;
      room = b.room;
      fits = omega (arith, b.fits, size);
    } in
    (np, turns depth rp f.others x y now refl, subst (λ l. Behind depth l u.cancels u.commits u.held rw np) (sym turned) result)

pub flip_by : (depth : ℕ) (atoms : List Bool) (q c h : ℕ) (rw rp : Resolved) (held : List Thing) → Behind depth (p0s_of atoms) q c h rw rp
    → flip_newest rp.pending.held ≡ Some held
    → KeepsBoth depth (record { atoms = atoms; cancels = q; commits = c; held = h }) rw rp Flip
flip_by depth [] q c h rw rp held b e =
    let one = cancel_out depth [] q c h rw rp b in
    let both = flip_out depth c (h - q) (cancelled rw q) rp held (beside depth c (h - q) (cancelled rw q) rp one.0) e in
    (both.0, both.1, both.2, goes_on depth rw (cancelled rw q) (cancels_of q) (elem.Flip ∷ []) (cancels_them depth q rw one.1) ∙ both.3, both.4)
flip_by depth (a ∷ atoms) q c h rw rp held b e =
    let one = flip_held depth (record { atoms = a ∷ atoms; cancels = q; commits = c; held = h }) rw rp a atoms held b e in
    (one.0, rw, one.1, refl, one.2)
