-- On.
use Rattle.std.proofs.Common.{◌≡◌, ℕ, Bool, true, false, List, [], ◌∷◌, ◌++◌, Some, None, Ok, refl, sym, ap, ◌∙◌, arith, append-nil}
use Rattle.std.proofs.lemmas.Bool.Decides.{nat_tests}
use Rattle.std.specs.Prelude.{nat_le}
use Rattle.program_image.specs.declared.image.Image.{Image}
use Rattle.etm_types.specs.declared.context.Ctx.{Ctx}
use Rattle.etm_types.specs.declared.element.Elem.TheVariants as elem
use Rattle.etm_types.specs.declared.element.Pre.{Pre}
use Rattle.etm_types.specs.declared.element.Thing.{Thing}
use Rattle.element_queue.specs.Resolved.{Resolved, resolve_all}
use Rattle.spec_run.specs.Runs.{Closing}
use Rattle.spec_run.specs.declared.step.RunStep.{RunStep}
use Rattle.spec_run.specs.declared.effect.Effect.TheVariants as effect
use Rattle.trace_unit.proofs.Matching.{Keeps, IsOff}
use Rattle.trace_unit.specs.Places.{Places}

abbrev pub told_on : Pre → ℕ → Ctx → Pre
told_on pre addr ctx = record { flush = true; on = true; lost = pre.lost; ctx = Some ctx; addr = Some addr }

abbrev pub begun_at : Resolved → ℕ → Ctx → Resolved
begun_at r addr ctx = record { done = r.done; pending = record { held = r.pending.held; pre = told_on r.pending.pre addr ctx; informed = true } }

-- the elements behind the Info
rest : (depth : ℕ) (done held : List Thing) (pre : Pre) (addr : ℕ) (ctx : Ctx) → pre.flush ≡ true
    → resolve_all depth (record { done = done ++ []; pending = record { held = held; pre = pre; informed = true } })
    (elem.On ∷ elem.Ctx ctx ∷ elem.Addr addr ∷ [])
    ≡ Ok (record { done = done; pending = record { held = held; pre = told_on pre addr ctx; informed = true } })
rest depth done held pre addr ctx flush =
    ap (λ d. Ok (record { done = d; pending = record { held = held; pre = record (told_on pre addr ctx) { flush = pre.flush }; informed = true } }))
    (append-nil (((done ++ []) ++ []) ++ []) ∙ append-nil ((done ++ []) ++ []) ∙ append-nil (done ++ []) ∙ append-nil done)
    ∙ ap (λ f. Ok (record { done = done; pending = record { held = held; pre = record (told_on pre addr ctx) { flush = f }; informed = true } })) flush

none_deep : (depth : ℕ) → nat_le 0 depth ≡ true
none_deep depth = grind (arith, nat_tests)

tells_on : (depth : ℕ) (done held : List Thing) (pre : Pre) (informed : Bool) (addr : ℕ) (ctx : Ctx)
    → resolve_all depth (record { done = done; pending = record { held = held; pre = pre; informed = informed } })
    (elem.Info 0 ∷ elem.On ∷ elem.Ctx ctx ∷ elem.Addr addr ∷ [])
    ≡ Ok (record { done = done; pending = record { held = held; pre = told_on pre addr ctx; informed = true } })
tells_on depth done held pre true addr ctx = rest depth done held (record pre { flush = true }) addr ctx refl
tells_on depth done held pre false addr ctx =
    simp (none_deep depth, append-nil held) (rest depth done held (record pre { flush = true }) addr ctx refl)

pub begun_so : (image : Image) (depth most : ℕ) (closed : List (List RunStep × Closing)) (p : Places) (r : Resolved) (addr : ℕ) (ctx : Ctx)
    → IsOff image closed p r
    → Keeps image depth most (record { closed = closed; current = None }) p r (effect.Began addr ctx)
begun_so image depth most closed p r addr ctx o = (
  begun_at r addr ctx,
  tells_on depth r.done r.pending.held r.pending.pre r.pending.informed addr ctx,
  record {
    front = r.done;
    before = o.before;
    early = [];
    late = [];
    walks = o.walks;
    done = sym (append-nil r.done);
    held = o.held;
    informed = refl;
    saved = refl;
    retired = refl;
    unretired = refl;
    led = tt;
    start = refl;
    pends = record { agrees = refl; at = refl; ctx = refl; front = ([], refl); on = refl; lost = λ e. absurd cc };
  },
)
