-- What waits is little, and so is what is kept of places.
use Rattle.std.proofs.Common.{◌≡◌, ℕ, zero, suc, ◌+◌, ◌-◌, ◌<◌, ◌≤◌, Bool, true, false, if◌then◌else◌, List, [], ◌∷◌, length, drop, take, Option}
use Rattle.std.proofs.Common.{Some, None, Ok}
use Rattle.std.proofs.Common.{refl, sym, ap, subst, ◌∙◌, inl, inr, arith, length-append}
use Rattle.std.specs.Prelude.{nat_le, ◌&&◌, is_some}
use Rattle.std.proofs.lemmas.Bool.{cases_Bool, eqb-false}
use Rattle.std.proofs.lemmas.Bool.Decides.{nat_tests}
use Rattle.std.proofs.lemmas.List.{length-drop, length-map, length-take}
use Rattle.atom_formats.specs.Bytes.{byte_of}
use Rattle.element_queue.specs.Resolved.{Resolved, unresolved}
use Rattle.etm_types.specs.Settings.{Sizes}
use Rattle.etm_types.specs.declared.element.P0.{P0}
use Rattle.etm_types.specs.declared.element.P0.TheVariants.{Atom}
use Rattle.program_image.specs.Blocks.{HasGap}
use Rattle.program_image.specs.declared.image.Image.{Image}
use Rattle.return_stack.specs.Stack.{most_addresses}
use Rattle.spec_run.specs.RunAfter.{AreEvents, run_after}
use Rattle.spec_run.specs.Runs.{Closing, Execution, Running, at_first}
use Rattle.spec_run.specs.declared.event.Event.{Event}
use Rattle.spec_run.specs.declared.step.RunStep.{RunStep}
use Rattle.trace_unit.proofs.AllEvents.{all_events, stands_first}
use Rattle.trace_unit.proofs.AllOrders.{all_orders, wait_first}
use Rattle.trace_unit.proofs.Behind.{Behind, back, entries, length-entries}
use Rattle.trace_unit.proofs.Matching.{MatchesBy}
use Rattle.trace_unit.proofs.OrderTold.{wrote_atoms}
use Rattle.trace_unit.proofs.Out.{Waits, none_left, p0s_of}
use Rattle.trace_unit.proofs.RunOrders.{held_many, run_takes, same_ok}
use Rattle.trace_unit.specs.Effects.{orders}
use Rattle.trace_unit.specs.Orders.{Branch, Cancel, Close, Exception, ExceptionAtTarget, Flip, Order, Retire, Settle, Tell}
use Rattle.trace_unit.specs.Packing.{longest, longest_within}
use Rattle.trace_unit.specs.Places.{Places, no_places}
use Rattle.trace_unit.specs.Small.{Small, unretired}
use Rattle.trace_unit.specs.Whole.{PutOff, at_once, flipped, is_full, nothing_waits, out, spilled, turn_last, waits, waits_all, with_atom}
use Rattle.trace_unit.specs.Whole.{with_exception}

-- ---- the atoms

pub some_front : (n : ℕ) (atoms : List Bool) → 1 ≤ longest_within n atoms
some_front zero atoms = omega arith
some_front (suc n) atoms = by (nat_le (n + 2) (length atoms) && is_some (byte_of (take (n + 2) atoms))) n (longest_within n atoms) (some_front n atoms)
  where
    by : (test : Bool) (n rest : ℕ) → 1 ≤ rest → 1 ≤ (if test then n + 2 else rest)
    by true n rest le = omega arith
    by false n rest le = le

pub turn_many : (atoms : List Bool) → length (turn_last atoms) ≡ length atoms
turn_many [] = refl
turn_many (a ∷ []) = refl
turn_many (a ∷ b ∷ atoms) = ap (λ n. suc n) (turn_many (b ∷ atoms))

none_stay : (u : PutOff) → length (drop (length u.atoms) u.atoms) ≤ 23
none_stay u = let e = ap length (none_left u) in omega (arith, e)

spill_few : (depth : ℕ) (full : Bool) (u : PutOff) → length u.atoms ≤ 24 → (full ≡ false → length u.atoms ≡ 24 → ⊥) → length (spilled full depth u).atoms ≤ 23
spill_few depth true u le differs =
    let some = some_front 23 u.atoms in
    omega (arith, le, some, length-drop (longest u.atoms) u.atoms)
spill_few depth false u le differs = elim (cases_Bool (nat_le (length u.atoms) 23)) [
  | inl t ↦ grind (arith, nat_tests, t)
  | inr f ↦ absurd (differs refl (let gt : 23 < length u.atoms = grind (arith, nat_tests, f) in omega (arith, gt, le)))
]

flip_few : (u : PutOff) (atoms : List Bool) → length atoms ≤ 23 → u.atoms ≡ atoms → length (flipped u atoms).atoms ≤ 23
flip_few u [] le e = omega (arith, le, ap length e)
flip_few u (a ∷ atoms) le e = omega (arith, le, turn_many (a ∷ atoms))

exception_few : (depth : ℕ) (u : PutOff) → length (with_exception depth u).atoms ≤ 23
exception_few depth u =
    omega (arith, ap length (wrote_atoms depth (record (out depth u) { commits = (out depth u).commits + at_once depth })), none_stay u)

pub few_atoms : (depth : ℕ) (u : PutOff) (order : Order) → length u.atoms ≤ 23 → length (waits depth u order).atoms ≤ 23
few_atoms depth u (Tell notice) le = none_stay u
few_atoms depth u (Branch taken) le =
    let v : PutOff = with_atom depth u taken in
    spill_few depth (is_full v) v (omega (arith, le, length-append u.atoms (taken ∷ []))) (λ f. eqb-false (length v.atoms) 24 f)
few_atoms depth u (Exception kind ret) le = exception_few depth u
few_atoms depth u (ExceptionAtTarget context kind addr) le = exception_few depth u
few_atoms depth u (Retire n) le = le
few_atoms depth u (Cancel n) le = omega (arith, le, length-take (length u.atoms - n) u.atoms)
few_atoms depth u Flip le = flip_few u u.atoms le refl
few_atoms depth u Settle le = none_stay u
few_atoms depth u (Close closing) le = none_stay u

always_few : (depth : ℕ) (u : PutOff) (orders : List Order) → length u.atoms ≤ 23 → length (waits_all depth u orders).atoms ≤ 23
always_few depth u [] le = le
always_few depth u (order ∷ orders) le = always_few depth (waits depth u order) orders (few_atoms depth u order le)

-- ---- the numbers

pub small : (depth : ℕ) (u : PutOff) (rw rp : Resolved) → Waits depth u rw rp → length u.atoms ≤ 23 → Small depth (length rp.pending.held) u
small depth u rw rp b few =
    let es = entries (back b.gone rw.pending.pre) (p0s_of u.atoms) in
    let many : length es ≡ length u.atoms = length-entries (back b.gone rw.pending.pre) (p0s_of u.atoms) ∙ length-map u.atoms (λ a. Atom a) in
    let all : length b.keep + length es ≡ u.commits + length rp.pending.held =
    sym (length-append b.keep es) ∙ ap length b.all ∙ length-append b.ahead rp.pending.held ∙ ap (λ n. n + length rp.pending.held) b.due in
    let held : u.held ≡ length b.keep + u.cancels =
    b.many ∙ ap length b.held ∙ length-append b.keep b.gone ∙ ap (λ n. length b.keep + n) b.going in
    record {
      held = b.room;
      cancels = omega (arith, held);
      atoms = few;
      commits = omega (arith, held, all, many, few, b.room);
      balance = omega (arith, held, all, many);
    }

-- where a P0 element fills the queue, one at least is to be committed
pub never_short : (depth : ℕ) (x : P0) (xs : List P0) (c h : ℕ) (rw rp : Resolved) → Behind depth (x ∷ xs) 0 c h rw rp → h + 1 ≤ depth + c
never_short depth x xs c h rw rp b =
    let es = entries (back b.gone rw.pending.pre) (x ∷ xs) in
    let many : length es ≡ length (x ∷ xs) = length-entries (back b.gone rw.pending.pre) (x ∷ xs) in
    let all : length b.keep + length es ≡ c + length rp.pending.held =
    sym (length-append b.keep es) ∙ ap length b.all ∙ length-append b.ahead rp.pending.held ∙ ap (λ n. n + length rp.pending.held) b.due in
    let held : h ≡ length b.keep + 0 = b.many ∙ ap length b.held ∙ length-append b.keep b.gone ∙ ap (λ n. length b.keep + n) b.going in
    omega (arith, held, all, many, b.fits)

held_are : (image : Image) (closed : List (List RunStep × Closing)) (current : Option Running) (p : Places) (r : Resolved) → MatchesBy image closed current p r
    → length r.pending.held ≡ unretired current
held_are image closed None p r m = ap length m.held
held_are image closed (Some s) p r m = held_many image closed s p r m

pub waits_little : (image : Image) (s : Sizes) (most : ℕ) (events : List Event) (x : Execution) → HasGap image → most ≤ most_addresses
    → AreEvents s events → run_after image s.depth events ≡ Ok x
    → Small s.depth (unretired x.current) (waits_all s.depth nothing_waits (orders image s most events))
waits_little image s most events x gap le given e =
    let run = orders image s most events in
    let all = all_events image gap s most at_first no_places unresolved 0 events x le (stands_first image s.depth) given e in
    let both = all_orders s.depth nothing_waits unresolved unresolved run (wait_first s.depth) (run_takes image s most events x gap le given e) in
    let same : all.0 ≡ both.0 = same_ok all.0 both.0 (sym all.1 ∙ both.2) in
    let many : length both.0.pending.held ≡ unretired x.current =
    ap (λ (r : Resolved). length r.pending.held) (sym same) ∙ held_are image x.closed x.current _ all.0 all.2.matching in
    subst (λ n. Small s.depth n (waits_all s.depth nothing_waits run)) many
    (small s.depth (waits_all s.depth nothing_waits run) both.1 both.0 both.4 (always_few s.depth nothing_waits run (omega arith)))
