-- All packets of one event have spellings, by what is counted before it.
use Rattle.std.proofs.Common.{ℕ, Bool, true, false, if◌then◌else◌, List, [], ◌∷◌, ◌++◌, Option, Some, None}
use Rattle.std.specs.Prelude.{All, ⊤}
use Rattle.std.proofs.lemmas.List.Elements.{All-append, All-head, All-nil, All-tail}
use Rattle.etm_types.specs.SameContext.{same_context}
use Rattle.etm_types.specs.Settings.{Sizes}
use Rattle.etm_types.specs.declared.context.Ctx.{Ctx}
use Rattle.packet_writer.specs.Fitting.{HasSpelling}
use Rattle.spec_run.specs.Runs.{Running}
use Rattle.spec_run.specs.Steps.{is_p0}
use Rattle.spec_run.specs.declared.effect.Effect.{Effect}
use Rattle.spec_run.specs.declared.effect.Effect.TheVariants as effect
use Rattle.spec_run.specs.declared.step.RunStep.{RunStep}
use Rattle.trace_unit.proofs.OrderSpelled.{order_spelled, settled_counted, told_counted}
use Rattle.trace_unit.proofs.StepOrders.{in_both}
use Rattle.trace_unit.specs.Effects.{orders_on}
use Rattle.trace_unit.specs.Fitting.{FitsOrder, IsCounted, IsShared}
use Rattle.trace_unit.specs.Orders.{Order, Settle, Tell, missing, p0_order, step_orders}
use Rattle.trace_unit.specs.Packets.{Shared, packets_all, packets_of, shared_after, shared_all}
use Rattle.trace_unit.specs.Places.{Places}
use Rattle.trace_unit.specs.Whole.{PutOff, waits}

-- each order but the last only tells, or settles
abbrev OneLast : List Order → Type 0
OneLast [] = ⊤
OneLast (order ∷ []) = ⊤
OneLast (Tell notice ∷ next ∷ orders) = OneLast (next ∷ orders)
OneLast (Settle ∷ next ∷ orders) = OneLast (next ∷ orders)
OneLast (order ∷ next ∷ orders) = ⊥

module _ (s : Sizes) (depth : ℕ) where
  abbrev AreSpelled : PutOff → Shared → List Order → Type 0
  AreSpelled u shared orders = All (HasSpelling s) (packets_all depth u shared orders) × IsShared s (shared_all shared orders)

  then_spelled : (u : PutOff) (shared : Shared) (order : Order) (orders : List Order) → IsCounted u → All (FitsOrder s) (order ∷ orders) → IsShared s shared
      → (IsShared s (shared_after shared order) → AreSpelled (waits depth u order) (shared_after shared order) orders)
      → AreSpelled u shared (order ∷ orders)
  then_spelled u shared order orders counted fit is later =
      let here = order_spelled s depth u shared order (All-head (FitsOrder s) order orders fit) is counted in
      let rest = later here.1 in (
        All-append (HasSpelling s) (packets_of depth u shared order) (packets_all depth (waits depth u order) (shared_after shared order) orders) here.0 rest.0,
        rest.1,
      )

  all_spelled : (u : PutOff) (shared : Shared) (orders : List Order) → OneLast orders → IsCounted u → All (FitsOrder s) orders → IsShared s shared
      → AreSpelled u shared orders
  all_spelled u shared [] one counted fit is = (All-nil (HasSpelling s), is)
  all_spelled u shared (order ∷ []) one counted fit is = then_spelled u shared order [] counted fit is (λ is. (All-nil (HasSpelling s), is))
  all_spelled u shared (Tell notice ∷ next ∷ orders) one counted fit is =
      let first = Tell notice in
      then_spelled u shared first (next ∷ orders) counted fit is
      (λ is. all_spelled (waits depth u first) (shared_after shared first) (next ∷ orders) one (told_counted depth u notice counted)
      (All-tail (FitsOrder s) first (next ∷ orders) fit) is)
  all_spelled u shared (Settle ∷ next ∷ orders) one counted fit is =
      then_spelled u shared Settle (next ∷ orders) counted fit is
      (λ is. all_spelled (waits depth u Settle) shared (next ∷ orders) one (settled_counted depth u counted)
      (All-tail (FitsOrder s) Settle (next ∷ orders) fit) is)
  all_spelled u shared (order ∷ next ∷ orders) one counted fit is = absurd one

missing_first : (same needs : Bool) (addr : ℕ) (ctx : Ctx) (order : Order) → OneLast (missing same needs addr ctx ++ order ∷ [])
missing_first true true addr ctx order = tt
missing_first true false addr ctx order = tt
missing_first false true addr ctx order = tt
missing_first false false addr ctx order = tt

step_first : (test : Bool) (p : Places) (t : RunStep) → OneLast (if test then step_orders p t else [])
step_first true p t =
    in_both OneLast p t (missing_first (same_context t.ctx p.reader_context) p.needs p.start t.ctx (p0_order t.kind t.addr)) (λ kind e is. tt)
step_first false p t = tt

one_last : (current : Option Running) (p : Places) (e : Effect) → OneLast (orders_on current p e)
one_last None p (effect.Began addr ctx) = tt
one_last None p (effect.Ran t ctx) = tt
one_last None p (effect.Contexted ctx) = tt
one_last None p (effect.Retired n) = tt
one_last None p (effect.Cancelled n) = tt
one_last None p effect.Flipped = tt
one_last None p effect.Synced = tt
one_last None p effect.Overflowed = tt
one_last None p effect.Stopped = tt
one_last (Some r) p (effect.Began addr ctx) = tt
one_last (Some r) p (effect.Ran t ctx) = step_first (is_p0 t) p t
one_last (Some r) p (effect.Contexted ctx) = tt
one_last (Some r) p (effect.Retired n) = tt
one_last (Some r) p (effect.Cancelled n) = tt
one_last (Some r) p effect.Flipped = tt
one_last (Some r) p effect.Synced = tt
one_last (Some r) p effect.Overflowed = tt
one_last (Some r) p effect.Stopped = tt

pub event_spelled : (s : Sizes) (depth : ℕ) (u : PutOff) (shared : Shared) (current : Option Running) (p : Places) (e : Effect) → IsCounted u
    → All (FitsOrder s) (orders_on current p e) → IsShared s shared
    → All (HasSpelling s) (packets_all depth u shared (orders_on current p e)) × IsShared s (shared_all shared (orders_on current p e))
event_spelled s depth u shared current p e counted fit is = all_spelled s depth u shared (orders_on current p e) (one_last current p e) counted fit is
