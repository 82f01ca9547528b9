-- Sync: trace info, the context and the start of the block are told again, and the return stacks are emptied.
use Rattle.std.proofs.Common.{◌≡◌, ℕ, Bool, true, false, if◌then◌else◌, List, [], ◌∷◌, ◌++◌, Option, Some, None, Ok, refl, sym, ap, subst, ◌∙◌, arith}
use Rattle.std.proofs.Common.{append-nil}
use Rattle.std.proofs.lemmas.Bool.Decides.{nat_tests}
use Rattle.std.specs.Prelude.{map, ◌==◌}
use Rattle.program_image.specs.declared.image.Image.{Image}
use Rattle.etm_types.specs.declared.context.Ctx.{Ctx}
use Rattle.etm_types.specs.declared.element.Elem.TheVariants as elem
use Rattle.etm_types.specs.declared.element.Pre.{Pre}
use Rattle.etm_types.specs.declared.walk_fault.WalkFault.TheVariants.{AddressMismatch}
use Rattle.path_walker.specs.declared.pc.Pc.{Pc}
use Rattle.path_walker.specs.declared.pc.Pc.TheVariants.{Known, Awaited, Lost}
use Rattle.path_walker.specs.State.{State}
use Rattle.path_walker.specs.Start.{mismatch_of, start_by, pc_before, stack_before, start_of}
use Rattle.element_queue.specs.Resolved.{Resolved, resolve_all}
use Rattle.spec_run.specs.Runs.{Closing, Running}
use Rattle.spec_run.specs.declared.step.RunStep.{RunStep}
use Rattle.spec_run.specs.declared.effect.Effect.TheVariants as effect
use Rattle.trace_unit.proofs.Before.{with_pre}
use Rattle.trace_unit.proofs.Matching.{Keeps, IsOpen, Pends}
use Rattle.trace_unit.proofs.RowLists.{after_all-append, first_behind-append, led_fronts, led_joined, led_rests}
use Rattle.trace_unit.proofs.Rows.{Led, Ready, Row, after, after_all, block_of, first_behind, saved_of, thing_of}
use Rattle.trace_unit.specs.Places.{Places, without_stack}

-- ---- rows without their return stacks

abbrev pub bare : Row → Row
bare r = record r { stack = [] }

bare_things : (rows : List Row) → map thing_of (map bare rows) ≡ map thing_of rows
bare_things [] = refl
bare_things (r ∷ rows) = ap (λ l. thing_of r ∷ l) (bare_things rows)

bare_blocks : (rows : List Row) → map block_of (map bare rows) ≡ map block_of rows
bare_blocks [] = refl
bare_blocks (r ∷ rows) = ap (λ l. block_of r ∷ l) (bare_blocks rows)

bare_saved : (rows : List Row) → map saved_of (map bare rows) ≡ map without_stack (map saved_of rows)
bare_saved [] = refl
bare_saved (r ∷ rows) = ap (λ l. without_stack (saved_of r) ∷ l) (bare_saved rows)

bare_after : (w : State) (rows : List Row) → after_all w (map bare rows) ≡ after_all w rows
bare_after w [] = refl
bare_after w (r ∷ rows) = bare_after (after w r) rows

bare_first : (first : Bool) (rows : List Row) → first_behind first (map bare rows) ≡ first_behind first rows
bare_first first [] = refl
bare_first first (r ∷ rows) = refl

bare_led : (first : Bool) (w : State) (rows : List Row) → Led first w rows → Led first w (map bare rows)
bare_led first w [] led = tt
bare_led first w (r ∷ rows) led = (
  record {
    agrees = led.0.agrees;
    at = led.0.at;
    ctx = led.0.ctx;
    front = ((start_of w r.pre).stack, refl);
    on = led.0.on;
    lost = led.0.lost;
  },
  bare_led false (after w r) rows led.1,
)

-- ---- what is told again

inner : (a b : ℕ) → Some a ≡ Some b → a ≡ b
inner a b e = cc

known_again : (known start : ℕ) → known ≡ start → mismatch_of (Known known) (Some start) ≡ None
known_again known start e = ap (λ (b : Bool). if b then None else Some (AddressMismatch known start))
    (let t : (known == start) ≡ true = grind (arith, nat_tests, e) in t)

agrees_again : (pc : Pc) (addr : Option ℕ) (stack : List ℕ) (start : ℕ) → mismatch_of pc addr ≡ None → (start_by addr pc stack).at ≡ Some start
    → mismatch_of pc (Some start) ≡ None
agrees_again (Known known) None stack start agrees at = known_again known start (inner known start at)
agrees_again (Awaited pops) None stack start agrees at = refl
agrees_again Lost None stack start agrees at = refl
agrees_again pc (Some addr) stack start agrees at = subst (λ a. mismatch_of pc (Some a) ≡ None) (inner addr start at) agrees

abbrev pub told_again : Pre → ℕ → Ctx → Pre
told_again pre start ctx = record pre { flush = true; ctx = Some ctx; addr = Some start }

ready_again : (first : Bool) (w : State) (pre : Pre) (start : ℕ) (context ctx : Ctx) (stack : List ℕ) (needs : Bool)
    → Pends needs first w pre start context stack
    → Ready first w (told_again pre start ctx) start ctx []
ready_again first w pre start context ctx stack true p = record {
  agrees = ap (λ c. mismatch_of c (Some start)) p.awaited;
  at = refl;
  ctx = refl;
  front = ([], refl);
  on = p.on;
  lost = p.lost;
}
ready_again first w pre start context ctx stack false p =
    record {
      agrees = agrees_again (pc_before w pre) pre.addr (stack_before w pre) start p.agrees p.at;
      at = refl;
      ctx = refl;
      front = ([], refl);
      on = p.on;
      lost = p.lost;
    }

tells_again : (depth : ℕ) (r : Resolved) (n start : ℕ) (ctx : Ctx) → r.pending.informed ≡ true
    → resolve_all depth r (elem.Info n ∷ elem.Ctx ctx ∷ elem.Addr start ∷ []) ≡ Ok (with_pre r (told_again r.pending.pre start ctx))
tells_again depth r n start ctx informed =
    simp informed (ap (λ d. Ok (record {
      done = d;
      pending = record { held = r.pending.held; pre = told_again r.pending.pre start ctx; informed = true };
    }))
    (append-nil ((r.done ++ []) ++ []) ∙ append-nil (r.done ++ []) ∙ append-nil r.done))

pub synced : (image : Image) (depth most : ℕ) (closed : List (List RunStep × Closing)) (s : Running) (p : Places) (r : Resolved) → IsOpen image closed s p r
    → Keeps image depth most (record { closed = closed; current = Some s }) p r effect.Synced
synced image depth most closed s p r o =
    let w = after_all o.before o.early in
    let f = first_behind true o.early in
    let led : Led true o.before (o.early ++ map bare o.late) =
    led_joined true o.before o.early (map bare o.late) (led_fronts true o.before o.early o.late o.led)
    (bare_led f w o.late (led_rests true o.before o.early o.late o.led)) in
    let ends : after_all o.before (o.early ++ map bare o.late) ≡ after_all o.before (o.early ++ o.late) =
    after_all-append o.before o.early (map bare o.late) ∙ bare_after w o.late ∙ sym (after_all-append o.before o.early o.late) in
    let first : first_behind true (o.early ++ map bare o.late) ≡ first_behind true (o.early ++ o.late) =
    first_behind-append true o.early (map bare o.late) ∙ bare_first f o.late ∙ sym (first_behind-append true o.early o.late) in
    let pre = told_again r.pending.pre p.start s.ctx in
    let ready = ready_again (first_behind true (o.early ++ o.late))
    (after_all o.before (o.early ++ o.late)) r.pending.pre p.start p.reader_context s.ctx p.stack p.needs o.pends in (
      with_pre r pre,
      tells_again depth r _ p.start s.ctx o.informed,
      record {
        front = o.front;
        before = o.before;
        early = o.early;
        late = map bare o.late;
        walks = o.walks;
        done = o.done;
        held = o.held ∙ sym (bare_things o.late);
        informed = o.informed;
        saved = ap (map without_stack) o.saved ∙ sym (bare_saved o.late);
        retired = o.retired;
        unretired = bare_blocks o.late ∙ o.unretired;
        led = led;
        start = o.start;
        pends = subst (λ b. Ready b (after_all o.before (o.early ++ map bare o.late)) pre p.start s.ctx []) (sym first)
            (subst (λ v. Ready (first_behind true (o.early ++ o.late)) v pre p.start s.ctx []) (sym ends) ready);
      },
    )
