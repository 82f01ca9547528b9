-- A trace info announces what is held, and in the whole form nothing waits there.
use Rattle.std.proofs.Common.{◌≡◌, ℕ, ◌≤◌, Bool, true, false, if◌then◌else◌, List, [], ◌∷◌, ◌++◌, length, Option, Some, None, Ok}
use Rattle.std.proofs.Common.{refl, sym, ap, subst, ◌∙◌}
use Rattle.std.specs.Prelude.{⊤}
use Rattle.element_queue.specs.Resolved.{Resolved, resolve_all, unresolved}
use Rattle.etm_types.specs.SameContext.{same_context}
use Rattle.etm_types.specs.Settings.{Sizes}
use Rattle.etm_types.specs.declared.context.Ctx.{Ctx}
use Rattle.program_image.specs.Blocks.{HasGap}
use Rattle.program_image.specs.declared.image.Image.{Image}
use Rattle.return_stack.specs.Stack.{most_addresses}
use Rattle.spec_run.specs.Checks.{effect_of}
use Rattle.spec_run.specs.Effects.{applied}
use Rattle.spec_run.specs.RunAfter.{AreEvents, after_event, place_in, run_after}
use Rattle.spec_run.specs.Runs.{Closing, Execution, Running, at_first, runs}
use Rattle.spec_run.specs.Steps.{is_p0}
use Rattle.spec_run.specs.declared.effect.Effect.{Effect}
use Rattle.spec_run.specs.declared.effect.Effect.TheVariants as effect
use Rattle.spec_run.specs.declared.event.Event.{Event}
use Rattle.spec_run.specs.declared.step.RunStep.{RunStep}
use Rattle.spec_run.specs.declared.step.StepKind.{StepKind}
use Rattle.spec_run.specs.declared.step.StepKind.TheVariants.{Cond, Eret, Exc, Ind, Isb, Jump, Plain}
use Rattle.trace_unit.proofs.AllOrders.{wait_first}
use Rattle.trace_unit.proofs.OneEvent.{goes_on}
use Rattle.trace_unit.proofs.OneOrder.{one_order}
use Rattle.trace_unit.proofs.OrderTold.{settles}
use Rattle.trace_unit.proofs.Out.{Waits, none_left, none_out}
use Rattle.trace_unit.proofs.RunOrders.{Suits, run_suits, same_ok}
use Rattle.trace_unit.proofs.StepOrders.{in_both}
use Rattle.trace_unit.specs.Effects.{orders, orders_from, orders_on, places_after}
use Rattle.trace_unit.specs.Orders.{Branch, Cancel, Close, Exception, ExceptionAtTarget, Flip, Order, Retire, Settle, Sync, Tell}
use Rattle.trace_unit.specs.Orders.{missing, p0_order, step_orders}
use Rattle.trace_unit.specs.Places.{Places, no_places}
use Rattle.trace_unit.specs.Taken.{AllMeet, Announces}
use Rattle.trace_unit.specs.Told.{all_told, closing_element, told}
use Rattle.trace_unit.specs.Whole.{PutOff, nothing_waits, out_elements, settle_elements, waits, waits_all, whole, whole_all}

-- ---- where nothing waits

-- whether nothing waits behind an order, whatever waited before it
abbrev pub settling : Order → Bool
settling Settle = true
settling (Close closing) = true
settling order = false

abbrev pub settled_behind : Bool → List Order → Bool
settled_behind before [] = before
settled_behind before (order ∷ orders) = settled_behind (settling order) orders

abbrev pub SyncsThen : Bool → Order → Type 0
SyncsThen before (Tell (Sync announced)) = before ≡ true
SyncsThen before order = ⊤

-- a trace info is told only where nothing waits
abbrev pub SyncsSettled : Bool → List Order → Type 0
SyncsSettled before [] = ⊤
SyncsSettled before (order ∷ orders) = SyncsThen before order × SyncsSettled (settling order) orders

syncs_joined : (before : Bool) (orders more : List Order) → SyncsSettled before orders → SyncsSettled (settled_behind before orders) more
    → SyncsSettled before (orders ++ more)
syncs_joined before [] more are then_more = then_more
syncs_joined before (x ∷ orders) more are then_more = (are.0, syncs_joined (settling x) orders more are.1 then_more)

-- ---- the orders of a run

abbrev pub is_off : Option Running → Bool
is_off None = true
is_off (Some r) = false

p0_settles_none : (kind : StepKind) (addr : ℕ) → settling (p0_order kind addr) ≡ false
p0_settles_none Plain addr = refl
p0_settles_none Isb addr = refl
p0_settles_none Jump addr = refl
p0_settles_none (Cond taken) addr = refl
p0_settles_none (Ind link) addr = refl
p0_settles_none Eret addr = refl
p0_settles_none (Exc kind) addr = refl

p0_syncs : (before : Bool) (kind : StepKind) (addr : ℕ) → SyncsSettled before (p0_order kind addr ∷ [])
p0_syncs before Plain addr = (tt, tt)
p0_syncs before Isb addr = (tt, tt)
p0_syncs before Jump addr = (tt, tt)
p0_syncs before (Cond taken) addr = (tt, tt)
p0_syncs before (Ind link) addr = (tt, tt)
p0_syncs before Eret addr = (tt, tt)
p0_syncs before (Exc kind) addr = (tt, tt)

missing_syncs : (same needs : Bool) (addr : ℕ) (ctx : Ctx) (kind : StepKind) (ret : ℕ)
    → SyncsSettled false (missing same needs addr ctx ++ p0_order kind ret ∷ [])
missing_syncs true true addr ctx kind ret = (tt, p0_syncs false kind ret)
missing_syncs true false addr ctx kind ret = p0_syncs false kind ret
missing_syncs false true addr ctx kind ret = (tt, p0_syncs false kind ret)
missing_syncs false false addr ctx kind ret = (tt, p0_syncs false kind ret)

missing_ends : (same needs : Bool) (addr : ℕ) (ctx : Ctx) (kind : StepKind) (ret : ℕ)
    → settled_behind false (missing same needs addr ctx ++ p0_order kind ret ∷ []) ≡ false
missing_ends true true addr ctx kind ret = p0_settles_none kind ret
missing_ends true false addr ctx kind ret = p0_settles_none kind ret
missing_ends false true addr ctx kind ret = p0_settles_none kind ret
missing_ends false false addr ctx kind ret = p0_settles_none kind ret

either : (P : List Order → Type 0) (b : Bool) (some none : List Order) → P some → P none → P (if b then some else none)
either P true some none p q = p
either P false some none p q = q

step_syncs : (p : Places) (s : RunStep) → SyncsSettled false (step_orders p s)
step_syncs p s =
    in_both (SyncsSettled false) p s (missing_syncs (same_context s.ctx p.reader_context) p.needs p.start s.ctx s.kind s.addr) (λ kind e is. (tt, tt))

step_ends : (p : Places) (s : RunStep) → settled_behind false (step_orders p s) ≡ false
step_ends p s =
    in_both (λ l. settled_behind false l ≡ false) p s (missing_ends (same_context s.ctx p.reader_context) p.needs p.start s.ctx s.kind s.addr)
    (λ kind e is. refl)

runs_on : (depth : ℕ) (r : Running) (s : RunStep) (ctx : Ctx) → is_off (Some (runs depth r s ctx)) ≡ false
runs_on depth r s ctx = refl

event_syncs : (current : Option Running) (p : Places) (e : Effect) → SyncsSettled (is_off current) (orders_on current p e)
event_syncs None p (effect.Began addr ctx) = (refl, (tt, (tt, tt)))
event_syncs None p (effect.Ran s ctx) = tt
event_syncs None p (effect.Contexted ctx) = tt
event_syncs None p (effect.Retired n) = tt
event_syncs None p (effect.Cancelled n) = tt
event_syncs None p effect.Flipped = tt
event_syncs None p effect.Synced = tt
event_syncs None p effect.Overflowed = tt
event_syncs None p effect.Stopped = tt
event_syncs (Some r) p (effect.Began addr ctx) = tt
event_syncs (Some r) p (effect.Ran s ctx) =
    either (SyncsSettled false) (is_p0 s) (step_orders p s) [] (step_syncs p s) tt
event_syncs (Some r) p (effect.Contexted ctx) = tt
event_syncs (Some r) p (effect.Retired n) = (tt, tt)
event_syncs (Some r) p (effect.Cancelled n) = (tt, tt)
event_syncs (Some r) p effect.Flipped = (tt, tt)
event_syncs (Some r) p effect.Synced = (tt, (refl, (tt, tt)))
event_syncs (Some r) p effect.Overflowed = (tt, tt)
event_syncs (Some r) p effect.Stopped = (tt, tt)

event_ends : (image : Image) (depth : ℕ) (closed : List (List RunStep × Closing)) (current : Option Running) (p : Places) (e : Effect)
    → settled_behind (is_off current) (orders_on current p e) ≡ is_off (applied image depth (record { closed = closed; current = current }) e).current
event_ends image depth closed None p (effect.Began addr ctx) = refl
event_ends image depth closed None p (effect.Ran s ctx) = refl
event_ends image depth closed None p (effect.Contexted ctx) = refl
event_ends image depth closed None p (effect.Retired n) = refl
event_ends image depth closed None p (effect.Cancelled n) = refl
event_ends image depth closed None p effect.Flipped = refl
event_ends image depth closed None p effect.Synced = refl
event_ends image depth closed None p effect.Overflowed = refl
event_ends image depth closed None p effect.Stopped = refl
event_ends image depth closed (Some r) p (effect.Began addr ctx) = refl
event_ends image depth closed (Some r) p (effect.Ran s ctx) =
    either (λ l. settled_behind false l ≡ false) (is_p0 s) (step_orders p s) [] (step_ends p s) refl
event_ends image depth closed (Some r) p (effect.Contexted ctx) = refl
event_ends image depth closed (Some r) p (effect.Retired n) = refl
event_ends image depth closed (Some r) p (effect.Cancelled n) = refl
event_ends image depth closed (Some r) p effect.Flipped = refl
event_ends image depth closed (Some r) p effect.Synced = refl
event_ends image depth closed (Some r) p effect.Overflowed = refl
event_ends image depth closed (Some r) p effect.Stopped = refl

run_syncs : (image : Image) (depth most : ℕ) (x : Execution) (p : Places) (events : List Event)
    → SyncsSettled (is_off x.current) (orders_from image depth most x p events)
run_syncs image depth most x p [] = tt
run_syncs image depth most x p (e ∷ events) =
    let does = effect_of image (place_in x) e in
    let next = after_event image depth x e in
    let rest = run_syncs image depth most next (places_after image depth most x p does) events in
    syncs_joined (is_off x.current) (orders_on x.current p does) (orders_from image depth most next (places_after image depth most x p does) events)
    (event_syncs x.current p does)
    (subst (λ b. SyncsSettled b (orders_from image depth most next (places_after image depth most x p does) events))
    (sym (event_ends image depth x.closed x.current p does)) rest)

-- ---- both readers where nothing waits

record AreAlike (u : PutOff) (rw rp : Resolved) : Type 0 where
  pub atoms : u.atoms ≡ []
  pub cancels : u.cancels ≡ 0
  pub readers : rw ≡ rp

closes_alike : (depth : ℕ) (u : PutOff) (rw rp np nw : Resolved) (closing : Closing) → Waits depth u rw rp
    → resolve_all depth rp (closing_element closing ∷ []) ≡ Ok np
    → resolve_all depth rw (settle_elements depth u ++ closing_element closing ∷ []) ≡ Ok nw → nw ≡ np
closes_alike depth u rw rp np nw closing b e f =
    same_ok nw np (sym f ∙ goes_on depth rw rp (settle_elements depth u) (closing_element closing ∷ []) (settles depth u rw rp b).0 ∙ e)

settles_alike : (depth : ℕ) (u : PutOff) (rw rp np nw : Resolved) (order : Order) → Waits depth u rw rp → settling order ≡ true
    → resolve_all depth rp (told order) ≡ Ok np → resolve_all depth rw (whole depth u order) ≡ Ok nw → AreAlike (waits depth u order) nw np
settles_alike depth u rw rp np nw Settle b is e f =
    record {
      atoms = none_left u;
      cancels = none_out depth (length u.atoms) u;
      readers = same_ok nw rp (sym f ∙ (settles depth u rw rp b).0) ∙ same_ok rp np e;
    }
settles_alike depth u rw rp np nw (Close closing) b is e f =
    record { atoms = none_left u; cancels = none_out depth (length u.atoms) u; readers = closes_alike depth u rw rp np nw closing b (e) f }
settles_alike depth u rw rp np nw (Tell notice) b is e f = absurd cc
settles_alike depth u rw rp np nw (Branch taken) b is e f = absurd cc
settles_alike depth u rw rp np nw (Exception kind ret) b is e f = absurd cc
settles_alike depth u rw rp np nw (ExceptionAtTarget context kind addr) b is e f = absurd cc
settles_alike depth u rw rp np nw (Retire n) b is e f = absurd cc
settles_alike depth u rw rp np nw (Cancel n) b is e f = absurd cc
settles_alike depth u rw rp np nw Flip b is e f = absurd cc

-- the two readers before an order
record Before (depth : ℕ) (before : Bool) (u : PutOff) (rw rp : Resolved) (front : List Order) (order : Order) : Type 0 where
  pub np : Resolved
  pub nw : Resolved
  pub at_once : resolve_all depth rp (all_told front) ≡ Ok np
  pub late : resolve_all depth rw (whole_all depth u front) ≡ Ok nw
  pub waiting : Waits depth (waits_all depth u front) nw np
  pub suits : Suits depth np.pending order
  pub syncs : SyncsThen (settled_behind before front) order
  pub alike : settled_behind before front ≡ true → AreAlike (waits_all depth u front) nw np

before_order : (depth : ℕ) (before : Bool) (u : PutOff) (rw rp : Resolved) (front : List Order) (order : Order) (rest : List Order) → Waits depth u rw rp
    → AllMeet (Suits depth) depth rp (front ++ order ∷ rest) → SyncsSettled before (front ++ order ∷ rest) → (before ≡ true → AreAlike u rw rp)
    → Before depth before u rw rp front order
before_order depth before u rw rp [] order rest b suit syncs alike =
    record { np = rp; nw = rw; at_once = refl; late = refl; waiting = b; suits = suit.0; syncs = syncs.0; alike = alike }
before_order depth before u rw rp (x ∷ front) order rest b suit syncs alike =
    let one = one_order depth u rw rp x b suit.0.0 in
    let more = before_order depth (settling x) (waits depth u x) one.1 one.0 front order rest one.4 (suit.1 one.0 one.2) syncs.1
    (λ is. settles_alike depth u rw rp one.0 one.1 x b is one.2 one.3) in
    record {
      np = more.np;
      nw = more.nw;
      at_once = goes_on depth rp one.0 (told x) (all_told front) one.2 ∙ more.at_once;
      late = goes_on depth rw one.1 (whole depth u x) (whole_all depth (waits depth u x) front) one.3 ∙ more.late;
      waiting = more.waiting;
      suits = more.suits;
      syncs = more.syncs;
      alike = more.alike;
    }

nothing_goes_out : (u : PutOff) → u.atoms ≡ [] → u.cancels ≡ 0 → out_elements u ≡ []
nothing_goes_out u atoms cancels = simp (atoms, cancels)

pub announced : (image : Image) (s : Sizes) (most : ℕ) (events : List Event) (x : Execution) (front rest : List Order) (n : ℕ) → HasGap image
    → most ≤ most_addresses → AreEvents s events → run_after image s.depth events ≡ Ok x
    → orders image s most events ≡ front ++ Tell (Sync n) ∷ rest
    → (r : Resolved) × (resolve_all s.depth unresolved (all_told front) ≡ Ok r)
    × (resolve_all s.depth unresolved (whole_all s.depth nothing_waits front) ≡ Ok r)
    × (out_elements (waits_all s.depth nothing_waits front) ≡ []) × Announces s.depth n r
announced image s most events x front rest n gap le given e is =
    let suit = subst (AllMeet (Suits s.depth) s.depth unresolved) is (run_suits image s most events x gap le given e) in
    let syncs = subst (SyncsSettled true) is (run_syncs image s.depth most at_first no_places events) in
    let start : AreAlike nothing_waits unresolved unresolved = record { atoms = refl; cancels = refl; readers = refl } in
    let at = before_order s.depth true nothing_waits unresolved unresolved front (Tell (Sync n)) rest (wait_first s.depth) suit syncs (λ is. start) in
    let same = at.alike at.syncs in (
      at.np,
      at.at_once,
      at.late ∙ ap (λ (r : Resolved). Ok r) same.readers,
      nothing_goes_out (waits_all s.depth nothing_waits front) same.atoms same.cancels,
      record {
        held = at.suits.1;
        few = subst (λ k. k ≤ s.depth) at.suits.1 at.waiting.fits;
        first = at.suits.0;
      },
    )
