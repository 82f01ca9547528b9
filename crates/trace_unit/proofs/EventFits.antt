-- An event that is accepted gives orders whose values fit, and leaves a run and places that fit.
use Rattle.std.proofs.Common.{◌≡◌, ℕ, zero, suc, ◌+◌, ◌-◌, ◌%◌, ◌<◌, ◌≤◌, Bool, true, false, if◌then◌else◌, List, [], ◌∷◌, length, map, take}
use Rattle.std.proofs.Common.{Option, Some, None, refl, sym, ap, subst, arith, length-append}
use Rattle.std.specs.Prelude.{All, ◌==◌, nat_lt, ⊤}
use Rattle.std.specs.Option.{option_map}
use Rattle.std.proofs.lemmas.Bool.{eqb-true, ltb-true}
use Rattle.std.proofs.lemmas.List.{length-drop, length-take}
use Rattle.std.proofs.lemmas.List.Elements.{All-append, All-cons, All-drop, All-head, All-nil, All-push, All-tail, All-take}
use Rattle.a64_branches.specs.Offsets.{target}
use Rattle.a64_branches.specs.declared.class.Class.{Class}
use Rattle.a64_branches.specs.declared.class.Class.TheVariants as class
use Rattle.etm_types.specs.SameContext.{same_context}
use Rattle.etm_types.specs.Settings.{FitsSettings, Sizes}
use Rattle.etm_types.specs.declared.context.Ctx.{Ctx}
use Rattle.program_image.specs.Blocks.{behind, class_at}
use Rattle.program_image.specs.declared.image.Image.{Image}
use Rattle.spec_run.proofs.StepsKept.{behind_place, cond_place, jump_place}
use Rattle.spec_run.specs.Checks.{aligned_fault, check, depth_fault, effect_of, exception_at, executed, or_else, place_of, ran_by, room_fault}
use Rattle.spec_run.specs.Checks.{step_at, step_fault, unless, window}
use Rattle.spec_run.specs.Effects.{applied_on}
use Rattle.spec_run.specs.Executed.{IsPlace}
use Rattle.spec_run.specs.Kinds.{is_cond}
use Rattle.spec_run.specs.RunAfter.{IsEvent, after_event, place_in}
use Rattle.spec_run.specs.Runs.{Execution, Running, cancels, flips, other_next, runs, turn_newest, turned, turned_next}
use Rattle.spec_run.specs.Steps.{ctx_at, ends_in_cond, is_p0, newest, next_behind, p0s, pc_at}
use Rattle.spec_run.specs.declared.effect.Effect.{Effect}
use Rattle.spec_run.specs.declared.effect.Effect.TheVariants as effect
use Rattle.spec_run.specs.declared.event.Event.{Event}
use Rattle.spec_run.specs.declared.event.Event.TheVariants as event
use Rattle.spec_run.specs.declared.run_fault.RunFault.{RunFault}
use Rattle.spec_run.specs.declared.run_fault.RunFault.TheVariants as fault
use Rattle.spec_run.specs.declared.step.RunStep.{RunStep}
use Rattle.spec_run.specs.declared.step.StepKind.{StepKind}
use Rattle.spec_run.specs.declared.step.StepKind.TheVariants.{Cond, Eret, Exc, Ind, Isb, Jump, Plain}
use Rattle.trace_unit.proofs.StepOrders.{in_both}
use Rattle.trace_unit.specs.Effects.{orders_on, places_after, places_on}
use Rattle.trace_unit.specs.Fitting.{FitsOrder, FitsPlaces, FitsRun, FitsRunning, FitsStep}
use Rattle.trace_unit.specs.Orders.{Address, Cancel, Close, Context, ExceptionAtTarget, Flip, On, Order, Place, Retire, Settle, Start, Sync, Tell}
use Rattle.trace_unit.specs.Orders.{before, lacked, missing, p0_order, step_orders}
use Rattle.trace_unit.specs.Places.{Places, Saved, back_by, placed_behind, saves, without_stack}

-- ---- checks

both : (a b : Option RunFault) → or_else a b ≡ None → (a ≡ None) × (b ≡ None)
both None b e = (refl, e)
both (Some fault) b e = absurd cc

passes : (b : Bool) (fault : RunFault) → unless b fault ≡ None → b ≡ true
passes true fault e = refl
passes false fault e = absurd cc

aligned : (addr : ℕ) → aligned_fault addr ≡ None → addr % 4 ≡ 0
aligned addr e = eqb-true (addr % 4) 0 (passes (addr % 4 == 0) (fault.Unaligned addr) e)

has_room : (depth : ℕ) (held : List RunStep) (t : RunStep) → room_fault depth held t ≡ None → length held < window
has_room depth held t e =
    let f = both (depth_fault depth (is_p0 t) (p0s held)) (unless (nat_lt (length held) window) fault.WindowFull) e in
    ltb-true (length held) window (passes (nat_lt (length held) window) fault.WindowFull f.1)

-- ---- what an effect brings

abbrev KindFits : StepKind → Type 0
KindFits (Exc kind) = kind < 32
KindFits kind = ⊤

-- a step where the core goes on, which leads to an instruction, and there is room for it
record Steps (s : Sizes) (r : Running) (t : RunStep) (ctx : Ctx) : Type 0 where
  there : t.addr ≡ r.pc
  context : t.ctx ≡ r.ctx
  next : IsPlace t.next
  behind : FitsSettings s ctx
  kind : KindFits t.kind
  room : length r.held < window

abbrev Brings : Sizes → Option Running → Effect → Type 0
Brings s None (effect.Began addr ctx) = IsPlace addr × FitsSettings s ctx
Brings s (Some r) (effect.Ran t ctx) = Steps s r t ctx
Brings s (Some r) (effect.Contexted ctx) = FitsSettings s ctx
Brings s (Some r) effect.Flipped = ends_in_cond r.held ≡ true
Brings s current e = ⊤

steps_to : (depth : ℕ) (s : Sizes) (r : Running) (kind : StepKind) (next : ℕ) (link : Bool) (ctx : Ctx) → IsPlace next → FitsSettings s ctx → KindFits kind
    → room_fault depth r.held (step_at (place_of r) kind next link) ≡ None → Steps s r (step_at (place_of r) kind next link) ctx
steps_to depth s r kind next link ctx place fits is f = record {
  there = refl;
  context = refl;
  next = place;
  behind = fits;
  kind = is;
  room = has_room depth r.held (step_at (place_of r) kind next link) f;
}

step_brings : (image : Image) (depth : ℕ) (s : Sizes) (r : Running) (c : Option Class) (e : Event) → class_at image r.pc ≡ c → FitsRunning s r → IsEvent s e
    → step_fault depth c (place_of r) e ≡ None → Brings s (Some r) (ran_by (executed c (place_of r) e))
step_brings image depth s r (Some class.Plain) event.Step at fits given f =
    steps_to depth s r Plain (behind r.pc 1) false r.ctx (behind_place r.pc 1 fits.pc.1) fits.ctx tt f
step_brings image depth s r (Some class.Isb) event.Step at fits given f =
    steps_to depth s r Isb (behind r.pc 1) false r.ctx (behind_place r.pc 1 fits.pc.1) fits.ctx tt f
step_brings image depth s r (Some (class.Jump offset link)) event.Taken at fits given f =
    steps_to depth s r Jump (target r.pc offset) link r.ctx (jump_place image r.pc offset link fits.pc at) fits.ctx tt f
step_brings image depth s r (Some (class.Cond offset)) event.Taken at fits given f =
    steps_to depth s r (Cond true) (target r.pc offset) false r.ctx (cond_place image r.pc offset fits.pc.1 at) fits.ctx tt f
step_brings image depth s r (Some (class.Cond offset)) event.NotTaken at fits given f =
    steps_to depth s r (Cond false) (behind r.pc 1) false r.ctx (behind_place r.pc 1 fits.pc.1) fits.ctx tt f
step_brings image depth s r (Some (class.Ind link)) (event.To addr) at fits given f =
    let room : room_fault depth r.held (step_at (place_of r) (Ind link) addr link) ≡ None = (both (aligned_fault addr) _ f).1 in
    steps_to depth s r (Ind link) addr link r.ctx (given, aligned addr (both (aligned_fault addr) _ f).0) fits.ctx tt room
step_brings image depth s r (Some class.Eret) (event.Eret addr ctx) at fits given f =
    let room : room_fault depth r.held (step_at (place_of r) Eret addr false) ≡ None = (both (aligned_fault addr) _ f).1 in
    steps_to depth s r Eret addr false ctx (given.0, aligned addr (both (aligned_fault addr) _ f).0) given.1 tt room
step_brings image depth s r c e at fits given f = tt

event_brings : (image : Image) (depth : ℕ) (s : Sizes) (current : Option Running) (e : Event) → FitsRun s current → IsEvent s e
    → check image depth (option_map place_of current) e ≡ None → Brings s current (effect_of image (option_map place_of current) e)
event_brings image depth s None (event.On addr ctx) fits given f = ((given.0, aligned addr f), given.1)
event_brings image depth s None e fits given f = absurd cc
event_brings image depth s (Some r) (event.On addr ctx) fits given f = absurd cc
event_brings image depth s (Some r) (event.Exc kind addr ctx) fits given f =
    let room : room_fault depth r.held (exception_at (place_of r) kind addr) ≡ None = (both (aligned_fault addr) _ f).1 in
    steps_to depth s r (Exc kind) addr false ctx (given.1, aligned addr (both (aligned_fault addr) _ f).0) given.2 given.0 room
event_brings image depth s (Some r) (event.Context ctx) fits given f = given
event_brings image depth s (Some r) (event.Retire n) fits given f = tt
event_brings image depth s (Some r) (event.Cancel n) fits given f = tt
event_brings image depth s (Some r) event.Flip fits given f = passes (ends_in_cond r.held) fault.NoBranchToFlip f
event_brings image depth s (Some r) event.Sync fits given f = tt
event_brings image depth s (Some r) event.Overflow fits given f = tt
event_brings image depth s (Some r) event.Off fits given f = tt
event_brings image depth s (Some r) event.Step fits given f = step_brings image depth s r (class_at image r.pc) event.Step refl fits given f
event_brings image depth s (Some r) event.Taken fits given f = step_brings image depth s r (class_at image r.pc) event.Taken refl fits given f
event_brings image depth s (Some r) event.NotTaken fits given f = step_brings image depth s r (class_at image r.pc) event.NotTaken refl fits given f
event_brings image depth s (Some r) (event.To addr) fits given f = step_brings image depth s r (class_at image r.pc) (event.To addr) refl fits given f
event_brings image depth s (Some r) (event.Eret addr ctx) fits given f =
    step_brings image depth s r (class_at image r.pc) (event.Eret addr ctx) refl fits given f

-- ---- orders

module _ (s : Sizes) where
  abbrev AllFit : List Order → Type 0
  AllFit orders = All (FitsOrder s) orders

  none : AllFit []
  none = All-nil (FitsOrder s)

  also : (order : Order) (orders : List Order) → FitsOrder s order → AllFit orders → AllFit (order ∷ orders)
  also order orders fits all = All-cons (FitsOrder s) order orders fits all

  alone : (order : Order) → FitsOrder s order → AllFit (order ∷ [])
  alone order fits = also order [] fits none

  missing_fit : (same needs : Bool) (addr : ℕ) (ctx : Ctx) → IsPlace addr → FitsSettings s ctx → AllFit (missing same needs addr ctx)
  missing_fit true true addr ctx place fits = alone (Tell (Address addr)) place
  missing_fit true false addr ctx place fits = none
  missing_fit false true addr ctx place fits = alone (Tell (Place addr ctx)) (place, fits)
  missing_fit false false addr ctx place fits = alone (Tell (Context ctx)) fits

  p0_fits : (kind : StepKind) (addr : ℕ) → KindFits kind → IsPlace addr → FitsOrder s (p0_order kind addr)
  p0_fits Plain addr is place = tt
  p0_fits Isb addr is place = tt
  p0_fits Jump addr is place = tt
  p0_fits (Cond taken) addr is place = tt
  p0_fits (Ind link) addr is place = tt
  p0_fits Eret addr is place = tt
  p0_fits (Exc kind) addr is place = (is, place)

  target_fits : (same : Bool) (ctx : Ctx) (kind addr : ℕ) → KindFits (Exc kind) → IsPlace addr → FitsSettings s ctx
      → FitsOrder s (ExceptionAtTarget (lacked same ctx) kind addr)
  target_fits true ctx kind addr is place fits = (is, place)
  target_fits false ctx kind addr is place fits = (is, (place, fits))

  step_fits : (r : Running) (t : RunStep) (ctx : Ctx) → FitsRunning s r → Steps s r t ctx → FitsStep s t
  step_fits r t ctx fits is = record { addr = subst IsPlace (sym is.there) fits.pc; ctx = subst (FitsSettings s) (sym is.context) fits.ctx }

  ran_orders : (r : Running) (p : Places) (t : RunStep) (ctx : Ctx) (test : Bool) → FitsRunning s r → FitsPlaces p → Steps s r t ctx
      → AllFit (if test then step_orders p t else [])
  ran_orders r p t ctx true fits places is =
      let step = step_fits r t ctx fits is in
      let same = same_context t.ctx p.reader_context in
      in_both AllFit p t
      (All-append (FitsOrder s) (before p t.ctx) (p0_order t.kind t.addr ∷ []) (missing_fit same p.needs p.start t.ctx places.start step.ctx)
      (alone (p0_order t.kind t.addr) (p0_fits t.kind t.addr is.kind step.addr)))
      (λ kind e at. alone (ExceptionAtTarget (lacked same t.ctx) kind t.addr)
      (target_fits same t.ctx kind t.addr (subst KindFits e is.kind) step.addr step.ctx))
  ran_orders r p t ctx false fits places is = none

  p0s_few : (steps : List RunStep) → p0s steps ≤ length steps
  p0s_few [] = omega arith
  p0s_few (t ∷ steps) = by (is_p0 t) (p0s_few steps)
    where
      by : (test : Bool) → p0s steps ≤ length steps → (if test then 1 else 0) + p0s steps ≤ length (t ∷ steps)
      by true le = omega (arith, le)
      by false le = omega (arith, le)

  orders_fit : (current : Option Running) (p : Places) (e : Effect) → FitsRun s current → FitsPlaces p → Brings s current e → AllFit (orders_on current p e)
  orders_fit None p (effect.Began addr ctx) fits places brings =
      also (Tell (Sync 0)) (Tell On ∷ Tell (Start addr ctx) ∷ []) (omega arith)
      (also (Tell On) (Tell (Start addr ctx) ∷ []) tt (alone (Tell (Start addr ctx)) brings))
  orders_fit None p (effect.Ran t ctx) fits places brings = none
  orders_fit None p (effect.Contexted ctx) fits places brings = none
  orders_fit None p (effect.Retired n) fits places brings = none
  orders_fit None p (effect.Cancelled n) fits places brings = none
  orders_fit None p effect.Flipped fits places brings = none
  orders_fit None p effect.Synced fits places brings = none
  orders_fit None p effect.Overflowed fits places brings = none
  orders_fit None p effect.Stopped fits places brings = none
  orders_fit (Some r) p (effect.Began addr ctx) fits places brings = none
  orders_fit (Some r) p (effect.Ran t ctx) fits places brings = ran_orders r p t ctx (is_p0 t) fits places brings
  orders_fit (Some r) p (effect.Contexted ctx) fits places brings = none
  orders_fit (Some r) p (effect.Retired n) fits places brings = alone (Retire (p0s (take n r.held))) tt
  orders_fit (Some r) p (effect.Cancelled n) fits places brings = alone (Cancel (p0s (newest n r.held))) tt
  orders_fit (Some r) p effect.Flipped fits places brings = alone Flip tt
  orders_fit (Some r) p effect.Synced fits places brings =
      also Settle (Tell (Sync (p0s r.held)) ∷ Tell (Start p.start r.ctx) ∷ []) tt
      (also (Tell (Sync (p0s r.held))) (Tell (Start p.start r.ctx) ∷ []) (omega (arith, p0s_few r.held, fits.few))
      (alone (Tell (Start p.start r.ctx)) (places.start, fits.ctx)))
  orders_fit (Some r) p effect.Overflowed fits places brings = alone (Close _) tt
  orders_fit (Some r) p effect.Stopped fits places brings = alone (Close _) tt

  -- ---- the run

  ran_fits : (depth : ℕ) (r : Running) (t : RunStep) (ctx : Ctx) → FitsRunning s r → Steps s r t ctx → FitsRunning s (runs depth r t ctx)
  ran_fits zero r t ctx fits is = record { pc = is.next; ctx = is.behind; held = fits.held; few = fits.few }
  ran_fits (suc depth) r t ctx fits is = record {
    pc = is.next;
    ctx = is.behind;
    held = All-push (FitsStep s) r.held t fits.held (step_fits r t ctx fits is);
    few = omega (arith, is.room, length-append r.held (t ∷ []));
  }

  back_fits : (r : Running) (gone : List RunStep) → FitsRunning s r → All (FitsStep s) gone → IsPlace (pc_at r.pc gone) × FitsSettings s (ctx_at r.ctx gone)
  back_fits r [] fits all = (fits.pc, fits.ctx)
  back_fits r (t ∷ gone) fits all = let is = All-head (FitsStep s) t gone all in (is.addr, is.ctx)

  cancelled_fits : (r : Running) (n : ℕ) → FitsRunning s r → FitsRunning s (cancels r n)
  cancelled_fits r n fits =
      let k = length r.held - n in
      let back = back_fits r (newest n r.held) fits (All-drop (FitsStep s) k r.held fits.held) in
      record {
        pc = back.0;
        ctx = back.1;
        held = All-take (FitsStep s) k r.held fits.held;
        few = omega (arith, fits.few, length-take k r.held);
      }

  turned_all : (image : Image) (steps : List RunStep) → All (FitsStep s) steps → All (FitsStep s) (turn_newest image steps)
  turned_all image [] all = all
  turned_all image (t ∷ []) all =
      let is = All-head (FitsStep s) t [] all in
      All-cons (FitsStep s) (turned image t) [] (record { addr = is.addr; ctx = is.ctx }) (All-nil (FitsStep s))
  turned_all image (t ∷ u ∷ steps) all =
      All-cons (FitsStep s) t (turn_newest image (u ∷ steps)) (All-head (FitsStep s) t (u ∷ steps) all)
      (turned_all image (u ∷ steps) (All-tail (FitsStep s) t (u ∷ steps) all))

  turned_many : (image : Image) (steps : List RunStep) → length (turn_newest image steps) ≡ length steps
  turned_many image [] = refl
  turned_many image (t ∷ []) = refl
  turned_many image (t ∷ u ∷ steps) = ap (λ n. suc n) (turned_many image (u ∷ steps))

  other_place : (image : Image) (c : Option Class) (taken : Bool) (addr : ℕ) → class_at image addr ≡ c → IsPlace addr → IsPlace (other_next c taken addr)
  other_place image (Some (class.Cond offset)) false addr at place = cond_place image addr offset place.1 at
  other_place image (Some (class.Cond offset)) true addr at place = behind_place addr 1 place.1
  other_place image (Some class.Plain) taken addr at place = behind_place addr 1 place.1
  other_place image (Some class.Isb) taken addr at place = behind_place addr 1 place.1
  other_place image (Some (class.Jump offset link)) taken addr at place = behind_place addr 1 place.1
  other_place image (Some (class.Ind link)) taken addr at place = behind_place addr 1 place.1
  other_place image (Some class.Eret) taken addr at place = behind_place addr 1 place.1
  other_place image (Some class.Odd) taken addr at place = behind_place addr 1 place.1
  other_place image None taken addr at place = behind_place addr 1 place.1

  turned_place : (image : Image) (t : RunStep) (kind : StepKind) → is_cond kind ≡ true → IsPlace t.addr → IsPlace (turned_next image kind t)
  turned_place image t (Cond taken) is place = other_place image (class_at image t.addr) taken t.addr refl place
  turned_place image t Plain is place = absurd cc
  turned_place image t Isb is place = absurd cc
  turned_place image t Jump is place = absurd cc
  turned_place image t (Ind link) is place = absurd cc
  turned_place image t Eret is place = absurd cc
  turned_place image t (Exc kind) is place = absurd cc

  newest_place : (image : Image) (pc : ℕ) (steps : List RunStep) → ends_in_cond steps ≡ true → All (FitsStep s) steps
      → IsPlace (next_behind pc (turn_newest image steps))
  newest_place image pc [] ends all = absurd cc
  newest_place image pc (t ∷ []) ends all = turned_place image t t.kind ends (All-head (FitsStep s) t [] all).addr
  newest_place image pc (t ∷ u ∷ steps) ends all = newest_place image t.next (u ∷ steps) ends (All-tail (FitsStep s) t (u ∷ steps) all)

  flipped_fits : (image : Image) (r : Running) → ends_in_cond r.held ≡ true → FitsRunning s r → FitsRunning s (flips image r)
  flipped_fits image r ends fits = record {
    pc = newest_place image r.pc r.held ends fits.held;
    ctx = fits.ctx;
    held = turned_all image r.held fits.held;
    few = omega (arith, fits.few, turned_many image r.held);
  }

  run_fits : (image : Image) (depth : ℕ) (x : Execution) (current : Option Running) (e : Effect) → x.current ≡ current → FitsRun s current → Brings s current e
      → FitsRun s (applied_on image depth x current e).current
  run_fits image depth x None (effect.Began addr ctx) same fits brings =
      record { pc = brings.0; ctx = brings.1; held = All-nil (FitsStep s); few = omega arith }
  run_fits image depth x None (effect.Ran t ctx) same fits brings = subst (FitsRun s) (sym same) fits
  run_fits image depth x None (effect.Contexted ctx) same fits brings = subst (FitsRun s) (sym same) fits
  run_fits image depth x None (effect.Retired n) same fits brings = subst (FitsRun s) (sym same) fits
  run_fits image depth x None (effect.Cancelled n) same fits brings = subst (FitsRun s) (sym same) fits
  run_fits image depth x None effect.Flipped same fits brings = subst (FitsRun s) (sym same) fits
  run_fits image depth x None effect.Synced same fits brings = subst (FitsRun s) (sym same) fits
  run_fits image depth x None effect.Overflowed same fits brings = subst (FitsRun s) (sym same) fits
  run_fits image depth x None effect.Stopped same fits brings = subst (FitsRun s) (sym same) fits
  run_fits image depth x (Some r) (effect.Began addr ctx) same fits brings = subst (FitsRun s) (sym same) fits
  run_fits image depth x (Some r) (effect.Ran t ctx) same fits brings = ran_fits depth r t ctx fits brings
  run_fits image depth x (Some r) (effect.Contexted ctx) same fits brings =
      record { pc = fits.pc; ctx = brings; held = fits.held; few = fits.few }
  run_fits image depth x (Some r) (effect.Retired n) same fits brings = record {
    pc = fits.pc;
    ctx = fits.ctx;
    held = All-drop (FitsStep s) n r.held fits.held;
    few = omega (arith, fits.few, length-drop n r.held);
  }
  run_fits image depth x (Some r) (effect.Cancelled n) same fits brings = cancelled_fits r n fits
  run_fits image depth x (Some r) effect.Flipped same fits brings = flipped_fits image r brings fits
  run_fits image depth x (Some r) effect.Synced same fits brings = subst (FitsRun s) (sym same) fits
  run_fits image depth x (Some r) effect.Overflowed same fits brings = tt
  run_fits image depth x (Some r) effect.Stopped same fits brings = tt

  -- ---- places

  abbrev StartFits : Saved → Type 0
  StartFits v = IsPlace v.start

  saves_fit : (depth : ℕ) (p : Places) (t : RunStep) → FitsPlaces p → All StartFits (saves depth p t)
  saves_fit zero p t places = places.saved
  saves_fit (suc depth) p t places =
      All-push StartFits p.saved (record { stack = p.stack; context = t.ctx; start = p.start }) places.saved places.start

  ran_places : (depth most : ℕ) (test : Bool) (p : Places) (t : RunStep) → IsPlace t.next → FitsPlaces p
      → FitsPlaces (if test then placed_behind depth most p t else p)
  ran_places depth most true p t next places = record { start = next; saved = saves_fit depth p t places }
  ran_places depth most false p t next places = places

  back_start : (p : Places) (gone : List Saved) → FitsPlaces p → All StartFits gone → IsPlace (back_by p gone).start
  back_start p [] places all = places.start
  back_start p (v ∷ gone) places all = All-head StartFits v gone all

  emptied_fit : (saved : List Saved) → All StartFits saved → All StartFits (map without_stack saved)
  emptied_fit [] all = All-nil StartFits
  emptied_fit (v ∷ saved) all =
      All-cons StartFits (without_stack v) (map without_stack saved) (All-head StartFits v saved all) (emptied_fit saved (All-tail StartFits v saved all))

  places_fit : (image : Image) (depth most : ℕ) (current : Option Running) (p : Places) (e : Effect) → FitsRun s current → FitsPlaces p → Brings s current e
      → FitsPlaces (places_on image depth most current p e)
  places_fit image depth most None p (effect.Began addr ctx) fits places brings = record { start = brings.0; saved = All-nil StartFits }
  places_fit image depth most None p (effect.Ran t ctx) fits places brings = places
  places_fit image depth most None p (effect.Contexted ctx) fits places brings = places
  places_fit image depth most None p (effect.Retired n) fits places brings = places
  places_fit image depth most None p (effect.Cancelled n) fits places brings = places
  places_fit image depth most None p effect.Flipped fits places brings = places
  places_fit image depth most None p effect.Synced fits places brings = places
  places_fit image depth most None p effect.Overflowed fits places brings = places
  places_fit image depth most None p effect.Stopped fits places brings = places
  places_fit image depth most (Some r) p (effect.Began addr ctx) fits places brings = places
  places_fit image depth most (Some r) p (effect.Ran t ctx) fits places brings = ran_places depth most (is_p0 t) p t brings.next places
  places_fit image depth most (Some r) p (effect.Contexted ctx) fits places brings = places
  places_fit image depth most (Some r) p (effect.Retired n) fits places brings =
      record { start = places.start; saved = All-drop StartFits (p0s (take n r.held)) p.saved places.saved }
  places_fit image depth most (Some r) p (effect.Cancelled n) fits places brings =
      let q = p0s (newest n r.held) in
      record {
        start = back_start p (newest q p.saved) places (All-drop StartFits (length p.saved - q) p.saved places.saved);
        saved = All-take StartFits (length p.saved - q) p.saved places.saved;
      }
  places_fit image depth most (Some r) p effect.Flipped fits places brings =
      record { start = (flipped_fits image r brings fits).pc; saved = places.saved }
  places_fit image depth most (Some r) p effect.Synced fits places brings = record { start = places.start; saved = emptied_fit p.saved places.saved }
  places_fit image depth most (Some r) p effect.Overflowed fits places brings = record { start = places.start; saved = All-nil StartFits }
  places_fit image depth most (Some r) p effect.Stopped fits places brings = record { start = places.start; saved = All-nil StartFits }

-- ---- an event

pub event_fits : (image : Image) (depth most : ℕ) (s : Sizes) (x : Execution) (p : Places) (e : Event) → IsEvent s e
    → check image depth (place_in x) e ≡ None → FitsRun s x.current → FitsPlaces p
    → All (FitsOrder s) (orders_on x.current p (effect_of image (place_in x) e)) × FitsRun s (after_event image depth x e).current
    × FitsPlaces (places_after image depth most x p (effect_of image (place_in x) e))
event_fits image depth most s x p e given f fits places =
    let does = effect_of image (place_in x) e in
    let brings = event_brings image depth s x.current e fits given f in (
      orders_fit s x.current p does fits places brings,
      run_fits s image depth x x.current does refl fits brings,
      places_fit s image depth most x.current p does fits places brings,
    )
