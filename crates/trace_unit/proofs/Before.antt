-- What is told before a P0 step, and what is pending behind it.
use Rattle.std.proofs.Common.{◌≡◌, ℕ, ◌≤◌, Bool, true, false, if◌then◌else◌, List, [], ◌∷◌, ◌++◌, Some, Ok, refl, sym, ap, subst, ◌∙◌, append-nil}
use Rattle.std.proofs.lemmas.Bool.{eqb-true}
use Rattle.std.specs.Prelude.{◌==◌}
use Rattle.etm_types.specs.Pre.{nothing_told}
use Rattle.etm_types.specs.declared.context.Ctx.{Ctx}
use Rattle.etm_types.specs.declared.element.Pre.{Pre}
use Rattle.program_image.specs.declared.image.Image.{Image}
use Rattle.path_walker.specs.declared.pc.Pc.{Pc}
use Rattle.path_walker.specs.declared.pc.Pc.TheVariants.{Known, Awaited}
use Rattle.path_walker.specs.State.{State}
use Rattle.path_walker.specs.Start.{mismatch_of}
use Rattle.path_walker.specs.Steps.{linked}
use Rattle.element_queue.specs.Resolved.{Resolved, resolve_all}
use Rattle.spec_run.specs.Executed.{Executes}
use Rattle.spec_run.specs.Kinds.{is_p0_kind}
use Rattle.spec_run.specs.declared.step.RunStep.{RunStep}
use Rattle.spec_run.specs.declared.step.StepKind.{StepKind}
use Rattle.spec_run.specs.declared.step.StepKind.TheVariants.{Cond, Eret, Exc, Ind, Isb, Jump, Plain}
use Rattle.trace_unit.proofs.Fronts.{front_linked}
use Rattle.trace_unit.specs.Told.{all_told}
use Rattle.trace_unit.specs.Orders.{missing}
use Rattle.trace_unit.proofs.Matching.{Pends}
use Rattle.trace_unit.proofs.Rows.{IsFront, Ready, pc_after}
use Rattle.trace_unit.specs.Places.{Left, left_by, link_after, popped, pushed_by}

-- ---- before

abbrev pub with_pre : Resolved → Pre → Resolved
with_pre r pre = record r { pending = record (r.pending) { pre = pre } }

abbrev pub told_ctx : Bool → Ctx → Pre → Pre
told_ctx true ctx pre = pre
told_ctx false ctx pre = record pre { ctx = Some ctx }

abbrev pub told_addr : Bool → ℕ → Pre → Pre
told_addr true addr pre = record pre { addr = Some addr }
told_addr false addr pre = pre

none_done : (r : Resolved) (pre : Pre) → record { done = r.done ++ []; pending = record (r.pending) { pre = pre } } ≡ with_pre r pre
none_done r pre = ap (λ l. record { done = l; pending = record (r.pending) { pre = pre } }) (append-nil r.done)

nones_done : (r : Resolved) (pre : Pre) → record { done = (r.done ++ []) ++ []; pending = record (r.pending) { pre = pre } } ≡ with_pre r pre
nones_done r pre = ap (λ l. record { done = l; pending = record (r.pending) { pre = pre } }) (append-nil (r.done ++ []) ∙ append-nil r.done)

pub tells_before : (depth : ℕ) (r : Resolved) (same needs : Bool) (ctx : Ctx) (addr : ℕ)
    → resolve_all depth r (all_told (missing same needs addr ctx)) ≡ Ok (with_pre r (told_addr needs addr (told_ctx same ctx r.pending.pre)))
tells_before depth r true true ctx addr = ap (λ (s : Resolved). Ok s) (none_done r _)
tells_before depth r true false ctx addr = refl
tells_before depth r false true ctx addr = ap (λ (s : Resolved). Ok s) (nones_done r _)
tells_before depth r false false ctx addr = ap (λ (s : Resolved). Ok s) (none_done r _)

pub ready_before : (first : Bool) (w : State) (pre : Pre) (start : ℕ) (context ctx : Ctx) (stack : List ℕ) (same needs : Bool)
    → (same ≡ true → ctx ≡ context) → Pends needs first w pre start context stack
    → Ready first w (told_addr needs start (told_ctx same ctx pre)) start ctx stack
ready_before first w pre start context ctx stack true false is p =
    record { agrees = p.agrees; at = p.at; ctx = p.ctx ∙ sym (is refl); front = p.front; on = p.on; lost = p.lost }
ready_before first w pre start context ctx stack false false is p =
    record { agrees = p.agrees; at = p.at; ctx = refl; front = p.front; on = p.on; lost = p.lost }
ready_before first w pre start context ctx stack true true is p =
    record { agrees = ap (λ c. mismatch_of c (Some start)) p.awaited; at = refl; ctx = p.ctx ∙ sym (is refl); front = p.front; on = p.on; lost = p.lost }
ready_before first w pre start context ctx stack false true is p =
    record { agrees = ap (λ c. mismatch_of c (Some start)) p.awaited; at = refl; ctx = refl; front = p.front; on = p.on; lost = p.lost }

-- ---- behind a P0 step

abbrev pub standing : Pc → List ℕ → Ctx → State
standing pc stack ctx = record { pc = pc; stack = stack; ctx = ctx }

known : (next : ℕ) (st ws : List ℕ) (c : Ctx) → IsFront st ws → Pends false false (standing (Known next) ws c) nothing_told next c st
known next st ws c f = record { agrees = refl; at = refl; ctx = refl; front = f; on = refl; lost = λ e. refl }

waits : (pops : Bool) (next : ℕ) (st ws : List ℕ) (c : Ctx) → IsFront st ws → Pends true false (standing (Awaited pops) ws c) nothing_told next c st
waits pops next st ws c f = record { addr = refl; pops = pops; awaited = refl; ctx = refl; front = f; on = refl; lost = λ e. refl }

pops_it : (b : Bool) (addr next : ℕ) (st ws : List ℕ) (c : Ctx) → (b ≡ true → addr ≡ next) → IsFront (addr ∷ st) ws
    → let left : Left = if b then record { needs = false; stack = st } else record { needs = true; stack = addr ∷ st } in Pends left.needs false
    (standing (Awaited true) ws c) nothing_told next c left.stack
pops_it true addr next st ws c is f =
    let top : Pends false false (standing (Awaited true) (addr ∷ (st ++ f.0)) c) nothing_told next c st =
    record { agrees = refl; at = ap (λ (a : ℕ). Some a) (is refl); ctx = refl; front = (f.0, refl); on = refl; lost = λ e. refl } in
    subst (λ l. Pends false false (standing (Awaited true) l c) nothing_told next c st) f.1 top
pops_it false addr next st ws c is f = waits true next (addr ∷ st) ws c f

pops : (next : ℕ) (st ws : List ℕ) (c : Ctx) → IsFront st ws
    → Pends (popped next st).needs false (standing (Awaited true) ws c) nothing_told next c (popped next st).stack
pops next [] ws c f = waits true next [] ws c f
pops next (addr ∷ st) ws c f = pops_it (addr == next) addr next st ws c (λ e. eqb-true addr next e) f

pub pends_behind : (image : Image) (most : ℕ) (kind : StepKind) (t : RunStep) (st ws : List ℕ) (c : Ctx) → Executes image kind t → is_p0_kind kind ≡ true
    → most ≤ 15 → IsFront st ws
    → Pends (left_by kind t.next (pushed_by most (link_after t) st)).needs false
    (standing (pc_after kind t) (linked (link_after t) ws) c) nothing_told t.next c (left_by kind t.next (pushed_by most (link_after t) st)).stack
pends_behind image most Plain t st ws c does p le f = absurd cc
pends_behind image most Isb t st ws c does p le f = known t.next _ _ c (front_linked most (link_after t) st ws le f)
pends_behind image most Jump t st ws c does p le f = known t.next _ _ c (front_linked most (link_after t) st ws le f)
pends_behind image most (Cond taken) t st ws c does p le f = known t.next _ _ c (front_linked most (link_after t) st ws le f)
pends_behind image most (Ind true) t st ws c does p le f = waits false t.next _ _ c (front_linked most (link_after t) st ws le f)
pends_behind image most (Ind false) t st ws c does p le f = pops t.next _ _ c (front_linked most (link_after t) st ws le f)
pends_behind image most Eret t st ws c does p le f = waits false t.next _ _ c (front_linked most (link_after t) st ws le f)
pends_behind image most (Exc kind) t st ws c does p le f = waits false t.next _ _ c (front_linked most (link_after t) st ws le f)
