-- Elements that only tell: a trace info, On, a context and an address.
use Rattle.std.proofs.Common.{◌≡◌, ℕ, Bool, true, List, [], ◌++◌, Some, None, Ok, refl, sym, ap, subst, ◌∙◌, append-nil}
use Rattle.etm_types.specs.declared.context.Ctx.{Ctx}
use Rattle.etm_types.specs.declared.element.Elem.{Elem}
use Rattle.etm_types.specs.declared.element.Elem.TheVariants as elem
use Rattle.etm_types.specs.declared.element.Pre.{Pre}
use Rattle.etm_types.specs.declared.element.Thing.{Thing}
use Rattle.element_queue.specs.Resolved.{Resolved, resolve}
use Rattle.late_reader.specs.Marks.{Marks, marked}
use Rattle.late_reader.specs.Rows.{BehindEntry, BehindGap, NoneSeen, Whereabouts, PreAt}
use Rattle.late_reader.proofs.Alike.{Alike, places_behind}
use Rattle.late_reader.proofs.Lists.{same_fine}

-- the late reader takes the element too, and the two are alike again
pub record Goes (depth : ℕ) (base : List Thing) (whole : Resolved) (marks : Marks) (late : Resolved) (e : Elem) (next : Resolved) : Type 0 where
  pub after : Resolved
  pub resolves : resolve depth late e ≡ Ok after
  pub alike : Alike base next (marked whole marks e) after

abbrev pub Follows : Elem → Type 0
Follows e =
    (depth : ℕ) (base : List Thing) (whole : Resolved) (marks : Marks) (late next : Resolved)
    → Alike base whole marks late → resolve depth whole e ≡ Ok next → Goes depth base whole marks late e next

abbrev pub told : Resolved → Pre → Resolved
told r pre = record { done = r.done ++ []; pending = record (r.pending) { pre = pre } }

pub told_alike : (base : List Thing) (whole : Resolved) (marks : Marks) (late : Resolved) (on : Bool) (p q : Pre) → (a : Alike base whole marks late)
    → PreAt (places_behind NoneSeen (a.done_rows ++ a.held_rows)) on p q → Alike base (told whole p) (record marks { on = on }) (told late q)
told_alike base whole marks late on p q a pres =
    record {
      done_rows = a.done_rows;
      held_rows = a.held_rows;
      done = append-nil whole.done ∙ a.done;
      shown = append-nil late.done ∙ a.shown;
      held = a.held;
      kept = a.kept;
      all = a.all;
      alike = a.alike;
      pres = pres;
      informed = a.informed;
      begun = a.begun;
    }

on_told : (place : Whereabouts) (on : Bool) (p q : Pre) → PreAt place on p q → PreAt place true (record p { on = true; addr = None })
    (record q { on = true; addr = None })
on_told NoneSeen on p q a = record { lost = a.lost; addr = tt; ctx = a.ctx; on = refl }
on_told BehindGap on p q a = (ap (λ (z : Pre). record z { on = true; addr = None }) a.0, refl, a.2)
on_told BehindEntry on p q a = (ap (λ (z : Pre). record z { on = true; addr = None }) a.0, refl)

ctx_told : (place : Whereabouts) (on : Bool) (p q : Pre) (c : Ctx) → PreAt place on p q → PreAt place on (record p { ctx = Some c })
    (record q { ctx = Some c })
ctx_told NoneSeen on p q c a = record { lost = a.lost; addr = a.addr; ctx = refl; on = a.on }
ctx_told BehindGap on p q c a = (ap (λ (z : Pre). record z { ctx = Some c }) a.0, a.1, a.2)
ctx_told BehindEntry on p q c a = (ap (λ (z : Pre). record z { ctx = Some c }) a.0, a.1)

addr_told : (place : Whereabouts) (on : Bool) (p q : Pre) (x : ℕ) → PreAt place on p q → PreAt place on (record p { addr = Some x })
    (record q { addr = Some x })
addr_told NoneSeen on p q x a = record { lost = a.lost; addr = refl; ctx = a.ctx; on = a.on }
addr_told BehindGap on p q x a = (ap (λ (z : Pre). record z { addr = Some x }) a.0, a.1, a.2)
addr_told BehindEntry on p q x a = (ap (λ (z : Pre). record z { addr = Some x }) a.0, a.1)

flush_told : (place : Whereabouts) (on : Bool) (p q : Pre) → PreAt place on p q → PreAt place on (record p { flush = true }) (record q { flush = true })
flush_told NoneSeen on p q a = record { lost = a.lost; addr = a.addr; ctx = a.ctx; on = a.on }
flush_told BehindGap on p q a = (ap (λ (z : Pre). record z { flush = true }) a.0, a.1, a.2)
flush_told BehindEntry on p q a = (ap (λ (z : Pre). record z { flush = true }) a.0, a.1)

pub informs_again : (depth : ℕ) (r : Resolved) (announced : ℕ) → r.pending.informed ≡ true → resolve depth r (elem.Info announced) ≡ Ok
    (told r (record (r.pending.pre) { flush = true }))
informs_again depth r announced e = simp e

pub on_goes : Follows elem.On
on_goes depth base whole marks late next a e =
    subst (Goes depth base whole marks late elem.On) (same_fine _ next e) (record {
      after = told late (record (late.pending.pre) { on = true; addr = None });
      resolves = refl;
      alike = told_alike base whole marks late true _ _ a (on_told _ marks.on _ _ a.pres);
    })

pub ctx_goes : (c : Ctx) → Follows (elem.Ctx c)
ctx_goes c depth base whole marks late next a e =
    subst (Goes depth base whole marks late (elem.Ctx c)) (same_fine _ next e) (record {
      after = told late (record (late.pending.pre) { ctx = Some c });
      resolves = refl;
      alike = told_alike base whole marks late marks.on _ _ a (ctx_told _ marks.on _ _ c a.pres);
    })

pub addr_goes : (x : ℕ) → Follows (elem.Addr x)
addr_goes x depth base whole marks late next a e =
    subst (Goes depth base whole marks late (elem.Addr x)) (same_fine _ next e) (record {
      after = told late (record (late.pending.pre) { addr = Some x });
      resolves = refl;
      alike = told_alike base whole marks late marks.on _ _ a (addr_told _ marks.on _ _ x a.pres);
    })

pub info_goes : (announced : ℕ) → Follows (elem.Info announced)
info_goes announced depth base whole marks late next a e =
    subst (Goes depth base whole marks late (elem.Info announced)) (same_fine _ next (sym (informs_again depth whole announced a.informed) ∙ e))
    (record {
      after = told late (record (late.pending.pre) { flush = true });
      resolves = informs_again depth late announced a.begun;
      alike = told_alike base whole marks late marks.on _ _ a (flush_told _ marks.on _ _ a.pres);
    })
