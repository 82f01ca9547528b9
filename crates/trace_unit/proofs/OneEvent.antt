-- One event keeps the relation.
use Rattle.std.proofs.Common.{◌≡◌, ℕ, zero, suc, ◌+◌, ◌≤◌, ◌<◌, true, List, [], ◌∷◌, ◌++◌, length, Option, Some, None, Ok, refl, sym, ap, ◌∙◌, inl, inr}
use Rattle.std.proofs.Common.{arith, append_assoc}
use Rattle.std.proofs.lemmas.List.{length-map, nil_from_length}
use Rattle.std.specs.Prelude.{map}
use Rattle.element_queue.proofs.Joined.{one_by_one}
use Rattle.element_queue.specs.Resolved.{Resolved, resolve_all, then_resolve}
use Rattle.etm_types.proofs.SameContexts.{same_is}
use Rattle.etm_types.specs.SameContext.{same_context}
use Rattle.etm_types.specs.declared.context.Ctx.{Ctx}
use Rattle.etm_types.specs.declared.element.Elem.{Elem}
use Rattle.etm_types.specs.declared.element.Elem.TheVariants as elem
use Rattle.program_image.specs.Blocks.{HasGap}
use Rattle.program_image.specs.declared.image.Image.{Image}
use Rattle.return_stack.specs.Stack.{most_addresses}
use Rattle.spec_run.proofs.EventsKept.{Allows, IsExecution}
use Rattle.spec_run.proofs.StepLists.{bools}
use Rattle.spec_run.proofs.StepsKept.{CanRun, IsFlat}
use Rattle.spec_run.specs.Blocks.{begun, fresh}
use Rattle.spec_run.specs.Runs.{Closing, Running, runs}
use Rattle.spec_run.specs.Steps.{is_p0, p0s}
use Rattle.spec_run.specs.declared.effect.Effect.{Effect}
use Rattle.spec_run.specs.declared.effect.Effect.TheVariants as effect
use Rattle.spec_run.specs.declared.step.RunStep.{RunStep}
use Rattle.spec_run.specs.declared.step.StepKind.{StepKind}
use Rattle.spec_run.specs.declared.step.StepKind.TheVariants.{Cond, Eret, Exc, Ind, Isb, Jump, Plain}
use Rattle.trace_unit.proofs.Before.{ready_before, tells_before, told_addr, told_ctx, with_pre}
use Rattle.trace_unit.proofs.Begins.{begun_so}
use Rattle.trace_unit.proofs.Cancelled.{cancelled_so}
use Rattle.trace_unit.proofs.Closed.{overflowed, stopped}
use Rattle.trace_unit.proofs.Flipped.{flipped_so}
use Rattle.trace_unit.proofs.Matching.{IsOpen, Keeps, MatchesBy}
use Rattle.trace_unit.proofs.Ran.{HasRoom, entered, enters, p0_step, plain_step}
use Rattle.trace_unit.proofs.Retired.{retired}
use Rattle.trace_unit.proofs.Rooms.{Fits, HasRoomBy}
use Rattle.trace_unit.proofs.RowLists.{length-rows}
use Rattle.trace_unit.proofs.Rows.{after_all, first_behind, p0_of, thing_of}
use Rattle.trace_unit.proofs.StepOrders.{told_alike}
use Rattle.trace_unit.proofs.Synced.{synced}
use Rattle.trace_unit.specs.Orders.{Order, before, p0_order, step_orders}
use Rattle.trace_unit.specs.Places.{Places, placed_behind}
use Rattle.trace_unit.specs.Told.{all_told, told}

-- ---- what is told of joined lists

pub told_joined : (orders more : List Order) → all_told (orders ++ more) ≡ all_told orders ++ all_told more
told_joined [] more = refl
told_joined (order ∷ orders) more =
    ap (λ l. told order ++ l) (told_joined orders more) ∙ sym (append_assoc (told order) (all_told orders) (all_told more))

pub goes_on : (depth : ℕ) (r next : Resolved) (first second : List Elem) → resolve_all depth r first ≡ Ok next
    → resolve_all depth r (first ++ second) ≡ resolve_all depth next second
goes_on depth r next first second e = one_by_one depth r first second ∙ ap (λ s. then_resolve s (λ n. resolve_all depth n second)) e

-- ---- an executed step

pub few_held : (image : Image) (depth : ℕ) (closed : List (List RunStep × Closing)) (s : Running) (p : Places) (r : Resolved)
    → (0 < depth → p0s s.held + 1 ≤ depth) → IsFlat depth s → IsOpen image closed s p r → HasRoom depth r.pending.held
few_held image zero closed s p r few flat o =
    let none : length o.late ≡ 0 = length-rows (begun (fresh s.start) s.retired) o.late s.held o.unretired ∙ ap p0s (flat refl) in
    o.held ∙ nil_from_length (map thing_of o.late) (length-map o.late thing_of ∙ none)
few_held image (suc depth) closed s p r few flat o =
    let count : length o.late ≡ p0s s.held = length-rows (begun (fresh s.start) s.retired) o.late s.held o.unretired in
    omega (arith, few (omega arith), count, ap length o.held, length-map o.late thing_of)

p0_told : (kind : StepKind) (addr : ℕ) → all_told (p0_order kind addr ∷ []) ≡ elem.P0 (p0_of kind addr) ∷ []
p0_told Plain addr = refl
p0_told Isb addr = refl
p0_told Jump addr = refl
p0_told (Cond taken) addr = refl
p0_told (Ind link) addr = refl
p0_told Eret addr = refl
p0_told (Exc kind) addr = refl

p0_kept : (image : Image) (depth most : ℕ) (closed : List (List RunStep × Closing)) (s : Running) (p : Places) (r : Resolved) (t : RunStep) (ctx : Ctx)
    → most ≤ most_addresses → IsFlat depth s → CanRun image s t ctx → Fits depth s.held t → is_p0 t ≡ true → IsOpen image closed s p r
    → (next : Resolved) × (resolve_all depth r (all_told (step_orders p t)) ≡ Ok next)
    × IsOpen image closed (runs depth s t ctx) (placed_behind depth most p t) next
p0_kept image depth most closed s p r t ctx le flat can fits p0 o =
    let same = same_context t.ctx p.reader_context in
    let pre = told_addr p.needs p.start (told_ctx same t.ctx r.pending.pre) in
    let ready = ready_before (first_behind true (o.early ++ o.late)) (after_all o.before (o.early ++ o.late)) r.pending.pre p.start p.reader_context
    t.ctx p.stack same p.needs (same_is t.ctx p.reader_context) o.pends in
    let tells = tells_before depth r same p.needs t.ctx p.start in
    let takes = enters depth r pre (p0_of t.kind t.addr) (few_held image depth closed s p r (fits p0) flat o) in
    let next = entered depth r pre (p0_of t.kind t.addr) in (
      next,
      ap (resolve_all depth r) (told_alike p t ∙ told_joined (before p t.ctx) (p0_order t.kind t.addr ∷ []))
          ∙ ap (λ l. resolve_all depth r (all_told (before p t.ctx) ++ l)) (p0_told t.kind t.addr)
          ∙ goes_on depth r (with_pre r pre) (all_told (before p t.ctx)) (elem.P0 (p0_of t.kind t.addr) ∷ []) tells
          ∙ ap (λ s. then_resolve s (λ n. Ok n)) takes,
      p0_step image depth most closed s p r t ctx pre le flat can p0 o ready,
    )

ran_kept : (image : Image) (depth most : ℕ) (closed : List (List RunStep × Closing)) (s : Running) (p : Places) (r : Resolved) (t : RunStep) (ctx : Ctx)
    → most ≤ most_addresses → IsFlat depth s → CanRun image s t ctx → Fits depth s.held t → IsOpen image closed s p r
    → Keeps image depth most (record { closed = closed; current = Some s }) p r (effect.Ran t ctx)
ran_kept image depth most closed s p r t ctx le flat can fits o = elim (bools (is_p0 t)) [
  | inl yes_p0 ↦ simp yes_p0 (p0_kept image depth most closed s p r t ctx le flat can fits yes_p0 o)
  | inr none ↦ simp none (r, refl, plain_step image depth closed s p r t ctx flat none o)
]

-- ---- one event

context_kept : (image : Image) (closed : List (List RunStep × Closing)) (s : Running) (p : Places) (r : Resolved) (ctx : Ctx) → IsOpen image closed s p r
    → IsOpen image closed (record s { ctx = ctx }) p r
context_kept image closed s p r ctx o =
    record {
      front = o.front;
      before = o.before;
      early = o.early;
      late = o.late;
      walks = o.walks;
      done = o.done;
      held = o.held;
      informed = o.informed;
      saved = o.saved;
      retired = o.retired;
      unretired = o.unretired;
      led = o.led;
      start = o.start;
      pends = o.pends;
    }

pub one_event : (image : Image) → HasGap image → (depth most : ℕ) (closed : List (List RunStep × Closing)) (current : Option Running) (p : Places)
    (r : Resolved)
    (e : Effect) → most ≤ most_addresses → IsExecution image depth closed current → Allows image current e → HasRoomBy depth current e
    → MatchesBy image closed current p r → Keeps image depth most (record { closed = closed; current = current }) p r e
one_event image gap depth most closed None p r (effect.Began addr ctx) le is ok fits m = begun_so image depth most closed p r addr ctx m
one_event image gap depth most closed None p r (effect.Ran t ctx) le is ok fits m = (r, refl, m)
one_event image gap depth most closed None p r (effect.Contexted ctx) le is ok fits m = (r, refl, m)
one_event image gap depth most closed None p r (effect.Retired n) le is ok fits m = (r, refl, m)
one_event image gap depth most closed None p r (effect.Cancelled n) le is ok fits m = (r, refl, m)
one_event image gap depth most closed None p r effect.Flipped le is ok fits m = (r, refl, m)
one_event image gap depth most closed None p r effect.Synced le is ok fits m = (r, refl, m)
one_event image gap depth most closed None p r effect.Overflowed le is ok fits m = (r, refl, m)
one_event image gap depth most closed None p r effect.Stopped le is ok fits m = (r, refl, m)
one_event image gap depth most closed (Some s) p r (effect.Began addr ctx) le is ok fits m = (r, refl, m)
one_event image gap depth most closed (Some s) p r (effect.Ran t ctx) le is ok fits m = ran_kept image depth most closed s p r t ctx le is.flat ok fits m
one_event image gap depth most closed (Some s) p r (effect.Contexted ctx) le is ok fits m = (r, refl, context_kept image closed s p r ctx m)
one_event image gap depth most closed (Some s) p r (effect.Retired n) le is ok fits m = retired image depth most closed s p r n m
one_event image gap depth most closed (Some s) p r (effect.Cancelled n) le is ok fits m = cancelled_so image depth most closed s p r n m
one_event image gap depth most closed (Some s) p r effect.Flipped le is ok fits m = flipped_so image depth most closed s p r m ok
one_event image gap depth most closed (Some s) p r effect.Synced le is ok fits m = synced image depth most closed s p r m
one_event image gap depth most closed (Some s) p r effect.Overflowed le is ok fits m = overflowed image gap depth most closed s p r is.running m
one_event image gap depth most closed (Some s) p r effect.Stopped le is ok fits m = stopped image gap depth most closed s p r is.running m
