-- An executed step.
use Rattle.std.proofs.Common.{◌≡◌, ℕ, zero, suc, ◌+◌, ◌-◌, ◌≤◌, true, false, List, [], ◌∷◌, ◌++◌, length, Ok, refl, sym, ap, subst, ◌∙◌, arith}
use Rattle.std.proofs.Common.{append_assoc, append-nil, length-append}
use Rattle.std.proofs.lemmas.List.{map-append}
use Rattle.std.specs.Prelude.{map}
use Rattle.program_image.specs.declared.image.Image.{Image}
use Rattle.etm_types.specs.Pre.{nothing_told}
use Rattle.etm_types.specs.declared.context.Ctx.{Ctx}
use Rattle.etm_types.specs.declared.element.Elem.TheVariants as elem
use Rattle.etm_types.specs.declared.element.P0.{P0}
use Rattle.etm_types.specs.declared.element.Pre.{Pre}
use Rattle.etm_types.specs.declared.element.Thing.{Thing}
use Rattle.etm_types.specs.declared.element.Thing.TheVariants.{Seen}
use Rattle.path_walker.specs.State.{State}
use Rattle.path_walker.specs.Start.{start_of}
use Rattle.path_walker.specs.Steps.{linked}
use Rattle.element_queue.specs.Resolved.{Resolved, resolve}
use Rattle.spec_run.proofs.StepLists.{begun-append, blocks-append}
use Rattle.spec_run.specs.Blocks.{BegunBlock, begun, blocks, fresh}
use Rattle.spec_run.specs.Executed.{Executes}
use Rattle.spec_run.proofs.StepsKept.{CanRun, IsFlat}
use Rattle.spec_run.specs.Runs.{Closing, Running, runs}
use Rattle.spec_run.specs.Steps.{is_p0}
use Rattle.spec_run.specs.declared.step.RunStep.{RunStep}
use Rattle.trace_unit.proofs.Flipped.{never_first}
use Rattle.trace_unit.proofs.Before.{pends_behind, standing, with_pre}
use Rattle.trace_unit.proofs.Matching.{IsOpen, Pends}
use Rattle.trace_unit.proofs.RowLists.{after_all-append, led_joined}
use Rattle.trace_unit.proofs.Rows.{Led, Ready, Row, after_all, block_of, first_behind, p0_of, pc_after, saved_of, thing_of}
use Rattle.trace_unit.specs.Places.{Places, left, link_after, placed_behind}

-- ---- a plain step

-- a step that ends no block
no_block : (o : BegunBlock) (t : RunStep) (xs : List RunStep) → is_p0 t ≡ false → blocks o (xs ++ t ∷ []) ≡ blocks o xs
no_block o t xs p = blocks-append o xs (t ∷ []) ∙ ap (λ l. blocks o xs ++ l) (simp p) ∙ append-nil (blocks o xs)

same_start : (o : BegunBlock) (t : RunStep) (xs : List RunStep) → is_p0 t ≡ false → (begun o (xs ++ t ∷ [])).start ≡ (begun o xs).start
same_start o t xs p = ap (λ (b : BegunBlock). b.start) (begun-append o xs (t ∷ [])) ∙ simp p

-- at depth 0 the step goes behind the retired ones, else behind those that are held
pub plain_step : (image : Image) (depth : ℕ) (closed : List (List RunStep × Closing)) (s : Running) (p : Places) (r : Resolved) (t : RunStep) (ctx : Ctx)
    → IsFlat depth s → is_p0 t ≡ false
    → IsOpen image closed s p r → IsOpen image closed (runs depth s t ctx) p r
plain_step image zero closed s p r t ctx flat plain o =
    let f = fresh s.start in
    let fits : s.held ≡ [] = flat refl in
    record {
      front = o.front;
      before = o.before;
      early = o.early;
      late = o.late;
      walks = o.walks;
      done = o.done;
      held = o.held;
      informed = o.informed;
      saved = o.saved;
      retired = o.retired ∙ sym (no_block f t s.retired plain);
      unretired = o.unretired ∙ ap (blocks (begun f s.retired)) fits ∙ ap (blocks (begun f (s.retired ++ t ∷ []))) (sym fits);
      led = o.led;
      start = o.start ∙ ap (λ l. (begun f (s.retired ++ l)).start) fits ∙ ap (λ l. (begun f l).start) (append-nil s.retired)
          ∙ sym (same_start f t s.retired plain)
          ∙ ap (λ l. (begun f l).start) (sym (append-nil (s.retired ++ t ∷ []))) ∙ ap (λ l. (begun f ((s.retired ++ t ∷ []) ++ l)).start) (sym fits);
      pends = o.pends;
    }
plain_step image (suc depth) closed s p r t ctx fits plain o =
    let f = fresh s.start in
    record {
      front = o.front;
      before = o.before;
      early = o.early;
      late = o.late;
      walks = o.walks;
      done = o.done;
      held = o.held;
      informed = o.informed;
      saved = o.saved;
      retired = o.retired;
      unretired = o.unretired ∙ sym (no_block (begun f s.retired) t s.held plain);
      led = o.led;
      start = o.start ∙ sym (same_start f t (s.retired ++ s.held) plain) ∙ ap (λ l. (begun f l).start) (append_assoc s.retired s.held (t ∷ []));
      pends = o.pends;
    }

-- ---- a P0 step

-- the newest entry, where there is room for it, and where nothing is held
abbrev pub entry : Pre → P0 → Thing
entry pre p0 = Seen (record { pre = pre; p0 = p0 })

abbrev pub entered : ℕ → Resolved → Pre → P0 → Resolved
entered zero r pre p0 = record { done = r.done ++ entry pre p0 ∷ []; pending = record { held = []; pre = nothing_told; informed = r.pending.informed } }
entered (suc depth) r pre p0 = record {
  done = r.done;
  pending = record { held = r.pending.held ++ entry pre p0 ∷ []; pre = nothing_told; informed = r.pending.informed };
}

abbrev pub HasRoom : ℕ → List Thing → Type 0
HasRoom zero held = held ≡ []
HasRoom (suc depth) held = length held + 1 ≤ suc depth

no_more : (depth : ℕ) (held : List Thing) (x : Thing) → length held + 1 ≤ suc depth → length (held ++ x ∷ []) - suc depth ≡ 0
no_more depth held x le = omega (arith, le, length-append held (x ∷ []))

pub enters : (depth : ℕ) (r : Resolved) (pre : Pre) (p0 : P0) → HasRoom depth r.pending.held
    → resolve depth (with_pre r pre) (elem.P0 p0) ≡ Ok (entered depth r pre p0)
enters zero r pre p0 none = simp none
enters (suc depth) r pre p0 room =
    simp (no_more depth r.pending.held (entry pre p0) room) (ap
    (λ d. Ok (record { done = d; pending = record { held = r.pending.held ++ entry pre p0 ∷ []; pre = nothing_told; informed = r.pending.informed } }))
    (append-nil r.done))

-- a step that ends a block
one_block : (o : BegunBlock) (t : RunStep) (xs : List RunStep) → is_p0 t ≡ true
    → blocks o (xs ++ t ∷ []) ≡ blocks o xs ++ record { start = (begun o xs).start; plain = (begun o xs).plain; ctx = t.ctx; last = t } ∷ []
one_block o t xs p = blocks-append o xs (t ∷ []) ∙ ap (λ l. blocks o xs ++ l) (simp p)

fresh_start : (o : BegunBlock) (t : RunStep) (xs : List RunStep) → is_p0 t ≡ true → (begun o (xs ++ t ∷ [])).start ≡ t.next
fresh_start o t xs p = ap (λ (b : BegunBlock). b.start) (begun-append o xs (t ∷ [])) ∙ simp p

-- the rows behind one more
pends_on : (image : Image) (most : ℕ) (before : State) (rows : List Row) (x : Row) (p : Places) (t : RunStep) → most ≤ 15 → Executes image t.kind t
    → is_p0 t ≡ true → x.block.last ≡ t → x.block.ctx ≡ t.ctx
    → Ready (first_behind true rows) (after_all before rows) x.pre p.start t.ctx p.stack
    → Pends (left most p t).needs (first_behind true (rows ++ x ∷ [])) (after_all before (rows ++ x ∷ [])) nothing_told t.next t.ctx (left most p t).stack
pends_on image most before rows x p t le does p0 is ctx ready =
    let w = after_all before rows in
    let here : Pends (left most p t).needs false (standing (pc_after t.kind t)
    (linked (link_after t) (start_of w x.pre).stack) t.ctx) nothing_told t.next t.ctx (left most p t).stack =
    pends_behind image most t.kind t p.stack (start_of w x.pre).stack t.ctx does p0 le ready.front in
    let there : Pends (left most p t).needs false (standing (pc_after x.block.last.kind x.block.last)
    (linked (link_after x.block.last) (start_of w x.pre).stack) x.block.ctx) nothing_told t.next t.ctx (left most p t).stack =
    subst (λ c. Pends (left most p t).needs false (standing (pc_after x.block.last.kind x.block.last)
    (linked (link_after x.block.last) (start_of w x.pre).stack) c) nothing_told t.next t.ctx (left most p t).stack) (sym ctx)
    (subst (λ (l : RunStep). Pends (left most p t).needs false (standing (pc_after l.kind l)
    (linked (link_after l) (start_of w x.pre).stack) t.ctx) nothing_told t.next t.ctx (left most p t).stack) (sym is) here) in
    subst (λ f. Pends (left most p t).needs f (after_all before (rows ++ x ∷ [])) nothing_told t.next t.ctx (left most p t).stack)
    (sym (never_first true rows x))
    (subst (λ v. Pends (left most p t).needs false v nothing_told t.next t.ctx (left most p t).stack) (sym (after_all-append before rows (x ∷ []))) there)

-- the step's row
abbrev row_for : Running → Places → RunStep → Pre → Row
row_for s p t pre =
    record {
      block = record {
        start = (begun (fresh s.start) (s.retired ++ s.held)).start;
        plain = (begun (fresh s.start) (s.retired ++ s.held)).plain;
        ctx = t.ctx;
        last = t;
      };
      pre = pre;
      stack = p.stack;
    }

led_on : (s : Running) (p : Places) (t : RunStep) (pre : Pre) (before : State) (rows : List Row) → p.start ≡ (begun (fresh s.start) (s.retired ++ s.held)).start
    → Led true before rows → Ready (first_behind true rows) (after_all before rows) pre p.start t.ctx p.stack → Led true before (rows ++ row_for s p t pre ∷ [])
led_on s p t pre before rows start led ready =
    led_joined true before rows (row_for s p t pre ∷ []) led
    (subst (λ a. Ready (first_behind true rows) (after_all before rows) pre a t.ctx p.stack) start ready, tt)

no_rows : (rows : List Row) → map block_of rows ≡ [] → rows ≡ []
no_rows [] e = refl
no_rows (x ∷ rows) e = absurd cc

pub p0_step : (image : Image) (depth most : ℕ) (closed : List (List RunStep × Closing)) (s : Running) (p : Places) (r : Resolved) (t : RunStep) (ctx : Ctx)
    (pre : Pre) → most ≤ 15 → IsFlat depth s
    → CanRun image s t ctx → is_p0 t ≡ true → (o : IsOpen image closed s p r)
    → Ready (first_behind true (o.early ++ o.late)) (after_all o.before (o.early ++ o.late)) pre p.start t.ctx p.stack
    → IsOpen image closed (runs depth s t ctx) (placed_behind depth most p t) (entered depth r pre (p0_of t.kind t.addr))
p0_step image zero most closed s p r t ctx pre le flat can p0 o ready =
    let f = fresh s.start in
    let fits : s.held ≡ [] = flat refl in
    let x = row_for s p t pre in
    let none : o.late ≡ [] = no_rows o.late (o.unretired ∙ ap (blocks (begun f s.retired)) fits) in
    let rows : o.early ++ o.late ≡ o.early = ap (λ l. o.early ++ l) none ∙ append-nil o.early in
    let steps : s.retired ++ s.held ≡ s.retired = ap (λ l. s.retired ++ l) fits ∙ append-nil s.retired in
    let steps' : (s.retired ++ t ∷ []) ++ s.held ≡ s.retired ++ t ∷ [] = ap (λ l. (s.retired ++ t ∷ []) ++ l) fits ∙ append-nil (s.retired ++ t ∷ []) in
    let y = o.early ++ x ∷ [] in
    let ready' = subst (λ l. Ready (first_behind true l) (after_all o.before l) pre p.start t.ctx p.stack) rows ready in
    let led : Led true o.before y = led_on s p t pre o.before o.early o.start (subst (Led true o.before) rows o.led) ready' in
    record {
      front = o.front;
      before = o.before;
      early = y;
      late = [];
      walks = o.walks;
      done = ap (λ l. l ++ thing_of x ∷ []) o.done ∙ append_assoc o.front (map thing_of o.early) (thing_of x ∷ [])
          ∙ ap (λ l. o.front ++ l) (sym (map-append thing_of o.early (x ∷ [])));
      held = refl;
      informed = o.informed;
      saved = o.saved ∙ ap (map saved_of) none;
      retired = map-append block_of o.early (x ∷ []) ∙ ap (λ l. l ++ x.block ∷ []) o.retired
          ∙ ap (λ l. blocks f s.retired ++ record { start = (begun f l).start; plain = (begun f l).plain; ctx = t.ctx; last = t } ∷ []) steps
          ∙ sym (one_block f t s.retired p0);
      unretired = ap (blocks (begun f (s.retired ++ t ∷ []))) (sym fits);
      led = subst (Led true o.before) (sym (append-nil y)) led;
      start = sym (ap (λ l. (begun f l).start) steps' ∙ fresh_start f t s.retired p0);
      pends = subst (λ l. Pends (left most p t).needs (first_behind true l) (after_all o.before l) nothing_told t.next t.ctx (left most p t).stack)
          (sym (append-nil y))
          (pends_on image most o.before o.early x p t le can.does p0 refl refl ready');
    }
p0_step image (suc depth) most closed s p r t ctx pre le fits can p0 o ready =
    let f = fresh s.start in
    let x = row_for s p t pre in
    let rows = o.early ++ o.late in
    let joined : rows ++ x ∷ [] ≡ o.early ++ (o.late ++ x ∷ []) = append_assoc o.early o.late (x ∷ []) in
    record {
      front = o.front;
      before = o.before;
      early = o.early;
      late = o.late ++ x ∷ [];
      walks = o.walks;
      done = o.done;
      held = ap (λ l. l ++ thing_of x ∷ []) o.held ∙ sym (map-append thing_of o.late (x ∷ []));
      informed = o.informed;
      saved = ap (λ l. l ++ record { stack = p.stack; context = t.ctx; start = p.start } ∷ []) o.saved
          ∙ ap (λ a. map saved_of o.late ++ record { stack = p.stack; context = t.ctx; start = a } ∷ []) o.start
          ∙ sym (map-append saved_of o.late (x ∷ []));
      retired = o.retired;
      unretired = map-append block_of o.late (x ∷ []) ∙ ap (λ l. l ++ x.block ∷ []) o.unretired
          ∙ ap (λ (b : BegunBlock). blocks (begun f s.retired) s.held ++ record { start = b.start; plain = b.plain; ctx = t.ctx; last = t } ∷ [])
          (begun-append f s.retired s.held)
          ∙ sym (one_block (begun f s.retired) t s.held p0);
      led = subst (Led true o.before) joined (led_on s p t pre o.before rows o.start o.led ready);
      start = sym (ap (λ l. (begun f l).start) (sym (append_assoc s.retired s.held (t ∷ []))) ∙ fresh_start f t (s.retired ++ s.held) p0);
      pends = subst (λ l. Pends (left most p t).needs (first_behind true l) (after_all o.before l) nothing_told t.next t.ctx (left most p t).stack) joined
          (pends_on image most o.before rows x p t le can.does p0 refl refl ready);
    }
