-- An order that tells, adds, retires, settles or closes keeps the two readers so.
use Rattle.std.proofs.Common.{◌≡◌, ◌⊎◌, ℕ, ◌+◌, ◌-◌, ◌≤◌, Bool, true, false, List, [], ◌∷◌, ◌++◌, length, take, drop}
use Rattle.std.proofs.Common.{Option, Some, None, Ok, refl, sym, ap, subst, ◌∙◌, inl, inr, arith, append_assoc, append-nil, length-append}
use Rattle.std.proofs.lemmas.Bool.{cases_Bool}
use Rattle.std.proofs.lemmas.Bool.Decides.{nat_tests}
use Rattle.std.proofs.lemmas.List.{take-append-drop, map-append, nil_from_length, length-take-le, length-drop, take_at, drop_at}
use Rattle.std.specs.Prelude.{nat_le, ⊤}
use Rattle.etm_types.specs.Pre.{trace_missing}
use Rattle.etm_types.specs.declared.context.Ctx.{Ctx}
use Rattle.etm_types.specs.declared.element.Elem.{Elem}
use Rattle.etm_types.specs.declared.element.Elem.TheVariants as elem
use Rattle.etm_types.specs.declared.element.P0.{P0}
use Rattle.etm_types.specs.declared.element.P0.TheVariants.{Atom, Exc}
use Rattle.etm_types.specs.declared.element.Pre.{Pre}
use Rattle.etm_types.specs.declared.element.Thing.{Thing}
use Rattle.etm_types.specs.declared.element.Thing.TheVariants.{Gap, Stop}
use Rattle.element_queue.specs.Resolved.{Resolved, resolve, resolve_all, then_resolve}
use Rattle.trace_unit.proofs.Behind.{Behind, back, pushed_on, put}
use Rattle.trace_unit.proofs.OneEvent.{goes_on}
use Rattle.trace_unit.proofs.Out.{Waits, none_left, none_out, none_wrote, p0s_of, writes_all, writes_some, wrote_one}
use Rattle.trace_unit.proofs.Retired.{commits, committed}
use Rattle.spec_run.specs.Runs.{ByOff, ByOverflow, Closing}
use Rattle.trace_unit.specs.Orders.{Address, Branch, Close, Context, Exception, ExceptionAtTarget, Notice, On, Order, Place, Retire, Settle, Start}
use Rattle.trace_unit.specs.Orders.{Sync, Tell, target_notice}
use Rattle.trace_unit.specs.Packing.{longest}
use Rattle.trace_unit.specs.Taken.{CanHear}
use Rattle.trace_unit.specs.Told.{commits_of, notice_elements, told}
use Rattle.trace_unit.specs.Whole.{PutOff, at_once, is_full, out, out_elements, settle_elements, settled, some_elements, some_out, spilled}
use Rattle.trace_unit.specs.Whole.{spilled_elements, waits, whole, with_atom, with_exception, wrote}

-- what an order keeps
abbrev pub KeepsBoth : ℕ → PutOff → Resolved → Resolved → Order → Type 0
KeepsBoth depth u rw rp o =
    (np : Resolved) × (nw : Resolved) × (resolve_all depth rp (told o) ≡ Ok np) × (resolve_all depth rw (whole depth u o) ≡ Ok nw)
    × Waits depth (waits depth u o) nw np

-- ---- nothing waits but what is due

pub record Beside (depth : ℕ) (c h : ℕ) (rw rp : Resolved) : Type 0 where
  pub ahead : List Thing
  pub done : rp.done ≡ rw.done ++ ahead
  pub due : length ahead ≡ c
  pub held : rw.pending.held ≡ ahead ++ rp.pending.held
  pub pre : rp.pending.pre ≡ rw.pending.pre
  pub informed : rp.pending.informed ≡ rw.pending.informed
  pub many : h ≡ length rw.pending.held
  pub room : h ≤ depth
  pub fits : length rp.pending.held ≤ depth

pub beside : (depth c h : ℕ) (rw rp : Resolved) → Behind depth [] 0 c h rw rp → Beside depth c h rw rp
beside depth c h rw rp b =
    let none : b.gone ≡ [] = nil_from_length b.gone b.going in
    record {
      ahead = b.ahead;
      done = b.done;
      due = b.due;
      held = b.held ∙ ap (λ l. b.keep ++ l) none ∙ b.all;
      pre = b.pre ∙ ap (λ l. back l rw.pending.pre) none;
      informed = b.informed;
      many = b.many;
      room = b.room;
      fits = b.fits;
    }

pub behind_by : (depth c h : ℕ) (rw rp : Resolved) → Beside depth c h rw rp → Behind depth [] 0 c h rw rp
behind_by depth c h rw rp b =
    record {
      keep = rw.pending.held;
      gone = [];
      ahead = b.ahead;
      held = sym (append-nil rw.pending.held);
      going = refl;
      done = b.done;
      due = b.due;
      all = append-nil rw.pending.held ∙ b.held;
      pre = b.pre;
      informed = b.informed;
      many = b.many;
      room = b.room;
      fits = b.fits;
    }

-- nothing waits in a unit that has written all
waits_none : (depth : ℕ) (u : PutOff) (rw rp : Resolved) → u.atoms ≡ [] → u.cancels ≡ 0 → Behind depth [] 0 u.commits u.held rw rp → Waits depth u rw rp
waits_none depth u rw rp atoms cancels b = subst (λ l. Behind depth (p0s_of l) u.cancels u.commits u.held rw rp) (sym atoms)
    (subst (λ q. Behind depth [] q u.commits u.held rw rp) (sym cancels) b)

-- ---- Tell

abbrev IsTold : Bool → Elem → Type 0
IsTold informed (elem.Info announced) = (informed ≡ true) ⊎ (announced ≡ 0)
IsTold informed elem.On = ⊤
IsTold informed (elem.Ctx ctx) = ⊤
IsTold informed (elem.Addr addr) = ⊤
IsTold informed e = ⊥

abbrev informed_by : Bool → Elem → Bool
informed_by informed (elem.Info announced) = true
informed_by informed e = informed

abbrev AreTold : Bool → List Elem → Type 0
AreTold informed [] = ⊤
AreTold informed (e ∷ es) = IsTold informed e × AreTold (informed_by informed e) es

notice_told : (informed : Bool) (notice : Notice) → CanHear informed notice → AreTold informed (notice_elements notice)
notice_told informed (Sync announced) can = (can, tt)
notice_told informed On can = (tt, tt)
notice_told informed (Start addr ctx) can = (tt, (tt, tt))
notice_told informed (Place addr ctx) can = (tt, (tt, tt))
notice_told informed (Address addr) can = (tt, tt)
notice_told informed (Context ctx) can = (tt, tt)

abbrev told_pre : Elem → Pre → Pre
told_pre (elem.Info spec) pre = record pre { flush = true }
told_pre elem.On pre = record pre { on = true; addr = None }
told_pre (elem.Ctx ctx) pre = record pre { ctx = Some ctx }
told_pre (elem.Addr addr) pre = record pre { addr = Some addr }
told_pre e pre = pre

abbrev told_to : Elem → Resolved → Resolved
told_to e r = record { done = r.done; pending = record { held = r.pending.held; pre = told_pre e r.pending.pre; informed = informed_by r.pending.informed e } }

info_told : (depth spec : ℕ) (done held : List Thing) (pre : Pre) (informed : Bool) → IsTold informed (elem.Info spec)
    → resolve depth (record { done = done; pending = record { held = held; pre = pre; informed = informed } }) (elem.Info spec)
    ≡ Ok (record { done = done; pending = record { held = held; pre = record pre { flush = true }; informed = true } })
info_told depth spec done held pre true told = ap (λ d. Ok (record {
  done = d;
  pending = record { held = held; pre = record pre { flush = true }; informed = true };
})) (append-nil done)
info_told depth spec done held pre false (inl e) = absurd cc
info_told depth spec done held pre false (inr e) =
    let le : nat_le 0 depth ≡ true = grind (arith, nat_tests) in
    simp (e, le, append-nil held) (ap (λ d. Ok (record { done = d; pending = record { held = held; pre = record pre { flush = true }; informed = true } }))
    (append-nil done))

tells_one : (depth : ℕ) (e : Elem) (r : Resolved) → IsTold r.pending.informed e → resolve depth r e ≡ Ok (told_to e r)
tells_one depth (elem.Info spec) r told = info_told depth spec r.done r.pending.held r.pending.pre r.pending.informed told
tells_one depth elem.On r told = ap (λ d. Ok (record (told_to elem.On r) { done = d })) (append-nil r.done)
tells_one depth (elem.Ctx ctx) r told = ap (λ d. Ok (record (told_to (elem.Ctx ctx) r) { done = d })) (append-nil r.done)
tells_one depth (elem.Addr addr) r told = ap (λ d. Ok (record (told_to (elem.Addr addr) r) { done = d })) (append-nil r.done)
tells_one depth (elem.P0 x) r told = absurd told
tells_one depth (elem.Commit n) r told = absurd told
tells_one depth (elem.Cancel n) r told = absurd told
tells_one depth elem.Flip r told = absurd told
tells_one depth elem.Overflow r told = absurd told
tells_one depth elem.Discard r told = absurd told

tells : (depth c h : ℕ) (es : List Elem) (rw rp : Resolved) → AreTold rp.pending.informed es → Beside depth c h rw rp
    → (np : Resolved) × (nw : Resolved) × (resolve_all depth rp es ≡ Ok np) × (resolve_all depth rw es ≡ Ok nw) × Beside depth c h nw np
    × (np.pending.held ≡ rp.pending.held)
tells depth c h [] rw rp told b = (rp, rw, refl, refl, b, refl)
tells depth c h (e ∷ es) rw rp told b =
    let one = tells_one depth e rp told.0 in
    let two = tells_one depth e rw (subst (λ i. IsTold i e) b.informed told.0) in
    let next : Beside depth c h (told_to e rw) (told_to e rp) =
    record {
      ahead = b.ahead;
      done = b.done;
      due = b.due;
      held = b.held;
      pre = ap (told_pre e) b.pre;
      informed = ap (λ i. informed_by i e) b.informed;
      many = b.many;
      room = b.room;
      fits = b.fits;
    } in
    let rest = tells depth c h es (told_to e rw) (told_to e rp) told.1 next in (
      rest.0,
      rest.1,
      ap (λ s. then_resolve s (λ n. resolve_all depth n es)) one ∙ rest.2,
      ap (λ s. then_resolve s (λ n. resolve_all depth n es)) two
          ∙ rest.3,
      rest.4,
      rest.5,
    )

pub told_order : (depth : ℕ) (u : PutOff) (rw rp : Resolved) (notice : Notice) → Waits depth u rw rp → CanHear rp.pending.informed notice
    → KeepsBoth depth u rw rp (Tell notice)
told_order depth u rw rp notice b can =
    let es = notice_elements notice in
    let w = writes_all depth u rw rp b in
    let t = tells depth (out depth u).commits (out depth u).held es w.0 rp (notice_told rp.pending.informed notice can)
    (beside depth (out depth u).commits (out depth u).held w.0 rp w.2) in (
      t.0,
      t.1,
      t.2,
      goes_on depth rw w.0 (out_elements u) es w.1
          ∙ t.3,
      waits_none depth (out depth u) t.1 t.0 (none_left u) (none_out depth (length u.atoms) u) (behind_by depth _ _ t.1 t.0 t.4),
    )

-- ---- Branch, Exception, ExceptionAtTarget

-- so many of the oldest atoms go out
some_go : (depth : ℕ) (u : PutOff) (rw rp : Resolved) (n : ℕ) → Waits depth u rw rp
    → (nw : Resolved) × (resolve_all depth rw (some_elements n u) ≡ Ok nw) × Waits depth (some_out depth n u) nw rp
some_go depth u rw rp n b =
    let w = writes_some depth n u rw rp b in (
      w.0,
      w.1,
      subst (λ q. Behind depth (p0s_of (drop n u.atoms)) q (some_out depth n u).commits (some_out depth n u).held w.0 rp) (sym (none_out depth n u)) w.2,
    )

spills : (depth : ℕ) (full : Bool) (u : PutOff) (rw rp : Resolved) → Waits depth u rw rp
    → (nw : Resolved) × (resolve_all depth rw (spilled_elements full u) ≡ Ok nw) × Waits depth (spilled full depth u) nw rp
spills depth true u rw rp b = some_go depth u rw rp (longest u.atoms) b
spills depth false u rw rp b = (rw, refl, b)

pub branch_order : (depth : ℕ) (u : PutOff) (rw rp : Resolved) (taken : Bool) → Waits depth u rw rp → length rp.pending.held + 1 ≤ depth + at_once depth
    → KeepsBoth depth u rw rp (Branch taken)
branch_order depth u rw rp taken b asks =
    let np = put depth rp (Atom taken) in
    let next = pushed_on depth (p0s_of u.atoms) u.cancels u.commits u.held rw rp (Atom taken) b asks in
    let v : PutOff = with_atom depth u taken in
    let held : Waits depth v rw np =
    subst (λ l. Behind depth l u.cancels (u.commits + at_once depth) u.held rw np) (sym (map-append (λ a. Atom a) u.atoms (taken ∷ []))) next in
    let s = spills depth (is_full v) v rw np held in
    (np, s.0, refl, s.1, s.2)

pub wrote_atoms : (depth : ℕ) (u : PutOff) → (wrote depth u).atoms ≡ u.atoms
wrote_atoms depth u = elim (cases_Bool (nat_le (u.held + 1) depth)) [ inl t ↦ simp t | inr f ↦ simp f ]

-- where all went out an exception is one more for both
exception_waits : (depth : ℕ) (u : PutOff) (rw rp : Resolved) (x : P0) → Behind depth [] 0 (out depth u).commits (out depth u).held rw rp
    → length rp.pending.held + 1 ≤ depth + at_once depth → Waits depth (with_exception depth u) (put depth rw x) (put depth rp x)
exception_waits depth u rw rp x b asks =
    let v : PutOff = record (out depth u) { commits = (out depth u).commits + at_once depth } in
    let more = pushed_on depth [] 0 (out depth u).commits (out depth u).held rw rp x b asks in
    let one = wrote_one depth x [] v rw (put depth rp x) more in
    waits_none depth (wrote depth v) (put depth rw x) (put depth rp x) (wrote_atoms depth v ∙ none_left u)
    (none_wrote depth v ∙ none_out depth (length u.atoms) u) one

pub exception_order : (depth : ℕ) (u : PutOff) (rw rp : Resolved) (kind ret : ℕ) → Waits depth u rw rp → length rp.pending.held + 1 ≤ depth + at_once depth
    → KeepsBoth depth u rw rp (Exception kind ret)
exception_order depth u rw rp kind ret b asks =
    let x = Exc kind ret in
    let w = writes_all depth u rw rp b in (
      put depth rp x,
      put depth w.0 x,
      refl,
      goes_on depth rw w.0 (out_elements u) (elem.P0 x ∷ []) w.1,
      exception_waits depth u w.0 rp x w.2 asks,
    )

target_heard : (informed : Bool) (context : Option Ctx) (addr : ℕ) → CanHear informed (target_notice context addr)
target_heard informed None addr = tt
target_heard informed (Some ctx) addr = tt

pub target_order : (depth : ℕ) (u : PutOff) (rw rp : Resolved) (context : Option Ctx) (kind addr : ℕ) → Waits depth u rw rp
    → length rp.pending.held + 1 ≤ depth + at_once depth → KeepsBoth depth u rw rp (ExceptionAtTarget context kind addr)
target_order depth u rw rp context kind addr b asks =
    let x = Exc kind addr in
    let notice = target_notice context addr in
    let es = notice_elements notice in
    let c = (out depth u).commits in
    let h = (out depth u).held in
    let w = writes_all depth u rw rp b in
    let t = tells depth c h es w.0 rp (notice_told rp.pending.informed notice (target_heard rp.pending.informed context addr))
    (beside depth c h w.0 rp w.2) in (
      put depth t.0 x,
      put depth t.1 x,
      goes_on depth rp t.0 es (elem.P0 x ∷ []) t.2,
      goes_on depth rw w.0 (out_elements u) (es ++ elem.P0 x ∷ []) w.1 ∙ goes_on depth w.0 t.1 es (elem.P0 x ∷ []) t.3,
      exception_waits depth u t.1 t.0 x (behind_by depth c h t.1 t.0 t.4) (omega (arith, asks, ap length t.5)),
    )

-- ---- Retire

pub retire_order : (depth : ℕ) (u : PutOff) (rw rp : Resolved) (n : ℕ) → Waits depth u rw rp → n ≤ length rp.pending.held → KeepsBoth depth u rw rp (Retire n)
retire_order depth u rw rp n b asks =
    let now = take n rp.pending.held in
    let rest = drop n rp.pending.held in (
      committed rp n,
      rw,
      commits depth n rp asks,
      refl,
      record {
        keep = b.keep;
        gone = b.gone;
        ahead = b.ahead ++ now;
        held = b.held;
        going = b.going;
        done = ap (λ l. l ++ now) b.done ∙ append_assoc rw.done b.ahead now;
        due = length-append b.ahead now ∙ ap (λ m. m + length now) b.due ∙ ap (λ m. u.commits + m) (length-take-le n rp.pending.held asks);
        all = b.all ∙ ap (λ l. b.ahead ++ l) (sym (take-append-drop n rp.pending.held)) ∙ sym (append_assoc b.ahead now rest);
        pre = b.pre;
        informed = b.informed;
        many = b.many;
        room = b.room;
        fits = omega (arith, b.fits, length-drop n rp.pending.held);
      },
    )

-- ---- Settle, Close

-- what is due is committed, and the two readers are the same
same_readers : (depth c h : ℕ) (rw rp : Resolved) → Beside depth c h rw rp → (c ≤ length rw.pending.held) × (committed rw c ≡ rp)
    × (h - c ≡ length rp.pending.held)
same_readers depth c h rw rp b =
    let size : length rw.pending.held ≡ c + length rp.pending.held = ap length b.held ∙ length-append b.ahead rp.pending.held
    ∙ ap (λ n. n + length rp.pending.held) b.due in
    let first : take c rw.pending.held ≡ b.ahead = ap (take c) b.held ∙ take_at b.ahead rp.pending.held c b.due in
    let rest : drop c rw.pending.held ≡ rp.pending.held = ap (drop c) b.held ∙ drop_at b.ahead rp.pending.held c b.due in
    let done : rw.done ++ take c rw.pending.held ≡ rp.done = ap (λ l. rw.done ++ l) first ∙ sym b.done in (
      omega (arith, size),
      ap (λ d. record { done = d; pending = record { held = drop c rw.pending.held; pre = rw.pending.pre; informed = rw.pending.informed } }) done
          ∙ ap (λ l. record { done = rp.done; pending = record { held = l; pre = rw.pending.pre; informed = rw.pending.informed } }) rest
          ∙ ap (λ p. record { done = rp.done; pending = record { held = rp.pending.held; pre = p; informed = rw.pending.informed } }) (sym b.pre)
          ∙ ap (λ i. record { done = rp.done; pending = record { held = rp.pending.held; pre = rp.pending.pre; informed = i } }) (sym b.informed),
      omega (arith, b.many, size),
    )

pub settles : (depth : ℕ) (u : PutOff) (rw rp : Resolved) → Waits depth u rw rp
    → (resolve_all depth rw (out_elements u ++ commits_of (out depth u).commits) ≡ Ok rp)
    × ((out depth u).held - (out depth u).commits ≡ length rp.pending.held)
settles depth u rw rp b =
    let c = (out depth u).commits in
    let h = (out depth u).held in
    let w = writes_all depth u rw rp b in
    let s = same_readers depth c h w.0 rp (beside depth c h w.0 rp w.2) in
    (goes_on depth rw w.0 (out_elements u) (commits_of c) w.1 ∙ commits depth c w.0 s.0 ∙ ap (λ (r : Resolved). Ok r) s.1, s.2)

pub same : (depth h : ℕ) (r : Resolved) → h ≡ length r.pending.held → length r.pending.held ≤ depth → Behind depth [] 0 0 h r r
same depth h r many fits =
    behind_by depth 0 h r r (record {
      ahead = [];
      done = sym (append-nil r.done);
      due = refl;
      held = refl;
      pre = refl;
      informed = refl;
      many = many;
      room = omega (arith, many, fits);
      fits = fits;
    })

pub settle_order : (depth : ℕ) (u : PutOff) (rw rp : Resolved) → Waits depth u rw rp → KeepsBoth depth u rw rp Settle
settle_order depth u rw rp b =
    let s = settles depth u rw rp b in
    (rp, rp, refl, s.0, waits_none depth (settled (out depth u)) rp rp (none_left u) (none_out depth (length u.atoms) u) (same depth _ rp s.1 b.fits))

abbrev pub closed : Resolved → Thing → Resolved
closed r mark = record { done = r.done ++ mark ∷ []; pending = record { held = []; pre = trace_missing; informed = r.pending.informed } }

closed_waits : (depth : ℕ) (u : PutOff) (rp : Resolved) (mark : Thing)
    → Waits depth (record (settled (out depth u)) { held = 0 }) (closed rp mark) (closed rp mark)
closed_waits depth u rp mark =
    waits_none depth (record (settled (out depth u)) { held = 0 }) (closed rp mark) (closed rp mark) (none_left u) (none_out depth (length u.atoms) u)
    (same depth 0 (closed rp mark) refl (omega arith))

pub close_order : (depth : ℕ) (u : PutOff) (rw rp : Resolved) (closing : Closing) → Waits depth u rw rp → KeepsBoth depth u rw rp (Close closing)
close_order depth u rw rp ByOverflow b = (
  closed rp Gap,
  closed rp Gap,
  refl,
  goes_on depth rw rp (settle_elements depth u) (elem.Overflow ∷ []) (settles depth u rw rp b).0,
  closed_waits depth u rp Gap,
)
close_order depth u rw rp ByOff b = (
  closed rp Stop,
  closed rp Stop,
  refl,
  goes_on depth rw rp (settle_elements depth u) (elem.Discard ∷ []) (settles depth u rw rp b).0,
  closed_waits depth u rp Stop,
)
