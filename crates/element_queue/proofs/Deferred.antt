-- A commit that stands behind later elements.
use Rattle.std.proofs.Common.{◌≡◌, ℕ, zero, suc, ◌+◌, ◌-◌, ◌≤◌, ◌<◌, Bool, true, false, if◌then◌else◌, List, [], ◌∷◌, ◌++◌, length, take, drop, replicate, All}
use Rattle.std.proofs.Common.{Option, Some, None, Ok, Err, refl, sym, ap, subst, ◌∙◌, arith, append_assoc, append-nil, length-append, length-take, length-drop}
use Rattle.std.specs.Prelude.{nat_le}
use Rattle.std.specs.Option.{option_map}
use Rattle.std.proofs.lemmas.Bool.{le-leb, leb-true}
use Rattle.std.proofs.lemmas.List.{drop-append-le, drop_at, take-append-drop, take-append-le, take_at}
use Rattle.etm_types.specs.Pre.{nothing_told}
use Rattle.etm_types.specs.declared.element.Elem.{Elem}
use Rattle.etm_types.specs.declared.element.Elem.TheVariants as elem
use Rattle.etm_types.specs.declared.element.P0.{P0}
use Rattle.etm_types.specs.declared.element.Pre.{Pre}
use Rattle.etm_types.specs.declared.element.Thing.{Thing}
use Rattle.etm_types.specs.declared.element.Thing.TheVariants.{Seen, Unseen}
use Rattle.etm_types.specs.declared.queue_fault.QueueFault.{QueueFault}
use Rattle.etm_types.specs.declared.queue_fault.QueueFault.TheVariants.{CancelOverrun, CommitOverrun, SpecTooDeep}
use Rattle.element_queue.specs.Pending.{Gone, Pending, Taken, cancelling, cancels, commits, committing, flip_newest, flips, nothing_gone, pre_behind, taken, tells}
use Rattle.element_queue.specs.Resolved.{Resolved, resolve_all, then_resolve, with_done}
use Rattle.element_queue.specs.Rewriting.{KeepsTrace, SpareAll, SparesNext, Spares, made_room, room_by_step, room_made}
use Rattle.element_queue.proofs.Cancelled.{some}
use Rattle.element_queue.proofs.Flipped.{flip_newest_behind}
use Rattle.element_queue.proofs.Runs.{drop_both, goes_back, resolves, same_parts, split}

-- ---- what had no fault

abbrev without_fault : Pending × Gone → Taken
without_fault x = Ok x

ok_is : (x y : Pending × Gone) → without_fault x ≡ without_fault y → x ≡ y
ok_is x y e = cc

-- one of two, of which the second is a fault
if_ok : (b : Bool) (x t : Pending × Gone) (fault : QueueFault) → (if b then Ok x else Err fault) ≡ Ok t → (b ≡ true) × (x ≡ t)
if_ok true x t fault e = (refl, cc)
if_ok false x t fault e = absurd cc

ok_of : (depth : ℕ) (t : Taken) (done : List Thing) (elements : List Elem) (after : Resolved)
    → then_resolve (with_done done t) (λ next. resolve_all depth next elements) ≡ Ok after
    → (x : Pending × Gone) × ((t ≡ Ok x) × (resolve_all depth (record { done = done ++ (x.1).committed; pending = x.0 }) elements ≡ Ok after))
ok_of depth (Ok x) done elements after e = (x, (refl, e))
ok_of depth (Err fault) done elements after e = absurd cc

-- ---- one element, where some things are committed already or else are owed still, before those that are held

abbrev holding : List Thing → Pre → Bool → Pending
holding held pre informed = record { held = held; pre = pre; informed = informed }

-- it does the same beside them: what is committed with those that are owed then is what is committed behind those that were
record Beside (depth : ℕ) (owed held : List Thing) (pre : Pre) (informed : Bool) (e : Elem) (t : Pending × Gone) : Type 0 where
  rest : List Thing
  gone : Gone
  rule : taken depth (holding (owed ++ held) pre informed) e ≡ Ok (holding (rest ++ (t.0).held) (t.0).pre (t.0).informed, gone)
  same : gone.committed ++ rest ≡ owed ++ (t.1).committed
  count : length rest ≡ length owed - made_room e gone
  spares : Spares (length owed) (holding (owed ++ held) pre informed) e

-- the oldest leave
leave : {X : Type 0} (n : ℕ) (xs ys : List X) → take n (xs ++ ys) ++ drop n xs ≡ xs ++ take (n - length xs) ys
leave zero xs ys = let none : 0 - length xs ≡ 0 = omega arith in sym (append-nil xs) ∙ ap (λ k. xs ++ take k ys) (sym none)
leave (suc n) [] ys = let all : suc n - 0 ≡ suc n = omega arith in append-nil (take (suc n) ys) ∙ ap (λ k. take k ys) (sym all)
leave (suc n) (x ∷ xs) ys =
    let less : n - length xs ≡ suc n - suc (length xs) = omega arith in
    ap (λ l. x ∷ l) (leave n xs ys) ∙ ap (λ k. x ∷ xs ++ take k ys) less

module _ (depth : ℕ) (owed held : List Thing) (pre : Pre) (informed : Bool) where
  abbrev late : Pending
  late = holding (owed ++ held) pre informed

  beside_tells : (e : Elem) (given : Pre) (now : Bool) → made_room e nothing_gone ≡ 0 → Spares (length owed) late e
      → taken depth late e ≡ Ok (holding (owed ++ held) given now, nothing_gone)
      → Beside depth owed held pre informed e (holding held given now, nothing_gone)
  beside_tells e given now none spares rule =
      record {
        rest = owed;
        gone = nothing_gone;
        rule = rule;
        same = sym (append-nil owed);
        count = omega (arith, none);
        spares = spares;
      }

  beside_p0 : (p0 : P0) (t : Pending × Gone) → taken depth (holding held pre informed) (elem.P0 p0) ≡ Ok t → Beside depth owed held pre informed (elem.P0 p0) t
  beside_p0 p0 t e =
      let newest : List Thing = Seen (record { pre = pre; p0 = p0 }) ∷ [] in
      let n = length (owed ++ held ++ newest) - depth in
      let less : n - length owed ≡ length (held ++ newest) - depth =
      omega (arith, length-append (owed ++ held) newest, length-append owed held, length-append held newest) in
      let joined = append_assoc owed held newest in
      subst (Beside depth owed held pre informed (elem.P0 p0)) (ok_is _ t e) (record {
        rest = drop n owed;
        gone = committing (take n (owed ++ held ++ newest));
        rule = ap (λ l. Ok (holding l nothing_told informed, committing (take n (owed ++ held ++ newest))))
            (ap (drop n) joined ∙ drop_both n owed (held ++ newest) ∙ ap (λ k. drop n owed ++ drop k (held ++ newest)) less);
        same = ap (λ l. take n l ++ drop n owed) joined ∙ leave n owed (held ++ newest) ∙ ap (λ k. owed ++ take k (held ++ newest)) less;
        count = omega (arith, length-drop n owed, length-take n (owed ++ held ++ newest));
        spares = tt;
      })

  beside_commit : (m : ℕ) (t : Pending × Gone) → taken depth (holding held pre informed) (elem.Commit m) ≡ Ok t → Beside depth owed held pre informed (elem.Commit m) t
  beside_commit m t e =
      let ok = if_ok (nat_le m (length held)) (holding (drop m held) pre informed, committing (take m held)) t _ e in
      let within : m ≤ length held = leb-true m (length held) ok.0 in
      let front = owed ++ take m held in
      let whole : owed ++ held ≡ front ++ drop m held =
      ap (λ l. owed ++ l) (sym (take-append-drop m held)) ∙ sym (append_assoc owed (take m held) (drop m held)) in
      let room : m ≤ length front = omega (arith, length-append owed (take m held), length-take m held) in
      let all : m ≤ length (owed ++ held) = omega (arith, length-append owed held) in
      subst (Beside depth owed held pre informed (elem.Commit m)) ok.1 (record {
        rest = drop m front;
        gone = committing (take m (owed ++ held));
        rule = ap (λ b. if b then Ok (holding (drop m (owed ++ held)) pre informed, committing (take m (owed ++ held))) else Err (CommitOverrun m (length (owed ++ held))))
            (le-leb m (length (owed ++ held)) all)
            ∙ ap (λ l. Ok (holding l pre informed, committing (take m (owed ++ held)))) (ap (drop m) whole ∙ drop-append-le m front (drop m held) room);
        same = ap (λ l. l ++ drop m front) (ap (take m) whole ∙ take-append-le m front (drop m held) room) ∙ take-append-drop m front;
        count = omega (arith, length-drop m front, length-append owed (take m held), length-take m held);
        spares = omega (arith, length-append owed held);
      })

  beside_cancel : (m : ℕ) (t : Pending × Gone) → m ≤ length held → taken depth (holding held pre informed) (elem.Cancel m) ≡ Ok t
      → Beside depth owed held pre informed (elem.Cancel m) t
  beside_cancel m t within e =
      let s = split held m within in
      let early = goes_back depth m (holding held pre informed) s.kept s.gone s.whole s.count in
      let whole : owed ++ held ≡ (owed ++ s.kept) ++ s.gone = ap (λ l. owed ++ l) s.whole ∙ sym (append_assoc owed s.kept s.gone) in
      subst (Beside depth owed held pre informed (elem.Cancel m)) (ok_is _ t (sym early ∙ e)) (record {
        rest = owed;
        gone = cancelling s.gone;
        rule = goes_back depth m late (owed ++ s.kept) s.gone whole s.count;
        same = sym (append-nil owed);
        count = omega arith;
        spares = omega (arith, length-append owed held);
      })

behind_owed : (owed : List Thing) (thing : Thing) (things : List Thing) (pre : Pre) → pre_behind (owed ++ thing ∷ things) pre ≡ pre_behind (thing ∷ things) pre
behind_owed [] thing things pre = refl
behind_owed (x ∷ []) thing things pre = refl
behind_owed (x ∷ y ∷ owed) thing things pre = behind_owed (y ∷ owed) thing things pre

beside_turn : (depth : ℕ) (owed : List Thing) (thing : Thing) (things : List Thing) (pre : Pre) (informed : Bool) (o : Option (List Thing)) (t : Pending × Gone)
    → flip_newest (thing ∷ things) ≡ o → flips (holding (thing ∷ things) pre informed) o ≡ Ok t → Beside depth owed (thing ∷ things) pre informed elem.Flip t
beside_turn depth owed thing things pre informed None t is e = absurd cc
beside_turn depth owed thing things pre informed (Some flipped) t is e =
    let held = thing ∷ things in
    subst (Beside depth owed held pre informed elem.Flip) (ok_is _ t e) (record {
      rest = owed;
      gone = nothing_gone;
      rule = ap (flips (holding (owed ++ held) pre informed)) (flip_newest_behind owed thing things ∙ ap (option_map (λ l. owed ++ l)) is)
          ∙ ap (λ p. Ok (holding (owed ++ flipped) p informed, nothing_gone)) (behind_owed owed thing things pre);
      same = sym (append-nil owed);
      count = omega arith;
      spares = omega (arith, length-append owed held);
    })

beside_flip : (depth : ℕ) (owed held : List Thing) (pre : Pre) (informed : Bool) (t : Pending × Gone)
    → taken depth (holding held pre informed) elem.Flip ≡ Ok t → Beside depth owed held pre informed elem.Flip t
beside_flip depth owed [] pre informed t e = absurd cc
beside_flip depth owed (thing ∷ things) pre informed t e = beside_turn depth owed thing things pre informed (flip_newest (thing ∷ things)) t refl e

beside_info : (depth : ℕ) (owed held : List Thing) (pre : Pre) (informed : Bool) (spec : ℕ) (t : Pending × Gone)
    → taken depth (holding held pre informed) (elem.Info spec) ≡ Ok t → Beside depth owed held pre informed (elem.Info spec) t
beside_info depth owed held pre true spec t e =
    subst (Beside depth owed held pre true (elem.Info spec)) (ok_is _ t e)
    (beside_tells depth owed held pre true (elem.Info spec) (record pre { flush = true }) true refl tt refl)
beside_info depth owed held pre false spec t e =
    let begun = record pre { flush = true } in
    let new = replicate spec Unseen in
    let ok = if_ok (nat_le spec depth) (holding (held ++ new) begun true, nothing_gone) t _ e in
    subst (Beside depth owed held pre false (elem.Info spec)) ok.1 (record {
      rest = owed;
      gone = nothing_gone;
      rule = ap (λ b. if b then Ok (holding (owed ++ held ++ new) begun true, nothing_gone) else Err (SpecTooDeep spec depth)) ok.0
          ∙ ap (λ l. Ok (holding l begun true, nothing_gone)) (append_assoc owed held new);
      same = sym (append-nil owed);
      count = omega arith;
      spares = tt;
    })

-- a cancel without a fault
can_go_back : (depth m : ℕ) (p : Pending) (t : Pending × Gone) → taken depth p (elem.Cancel m) ≡ Ok t → m ≤ length p.held
can_go_back depth zero p t e = omega arith
can_go_back depth (suc m) p t e =
    leb-true (suc m) (length p.held) (if_ok (nat_le (suc m) (length p.held)) _ t (CancelOverrun (suc m) (length p.held)) (sym (ap (λ b. if b then tells p p.pre else (if nat_le (suc m) (length p.held) then cancels p (suc m) else Err (CancelOverrun (suc m) (length p.held)))) (some m)) ∙ e)).0

beside : (depth : ℕ) (owed held : List Thing) (pre : Pre) (informed : Bool) (e : Elem) (t : Pending × Gone) → KeepsTrace e
    → taken depth (holding held pre informed) e ≡ Ok t → Beside depth owed held pre informed e t
beside depth owed held pre informed (elem.Info spec) t keeps is = beside_info depth owed held pre informed spec t is
beside depth owed held pre informed elem.On t keeps is =
    subst (Beside depth owed held pre informed elem.On) (ok_is _ t is)
    (beside_tells depth owed held pre informed elem.On (record pre { on = true; addr = None }) informed refl tt refl)
beside depth owed held pre informed (elem.Ctx ctx) t keeps is =
    subst (Beside depth owed held pre informed (elem.Ctx ctx)) (ok_is _ t is)
    (beside_tells depth owed held pre informed (elem.Ctx ctx) (record pre { ctx = Some ctx }) informed refl tt refl)
beside depth owed held pre informed (elem.Addr addr) t keeps is =
    subst (Beside depth owed held pre informed (elem.Addr addr)) (ok_is _ t is)
    (beside_tells depth owed held pre informed (elem.Addr addr) (record pre { addr = Some addr }) informed refl tt refl)
beside depth owed held pre informed (elem.P0 p0) t keeps is = beside_p0 depth owed held pre informed p0 t is
beside depth owed held pre informed (elem.Commit m) t keeps is = beside_commit depth owed held pre informed m t is
beside depth owed held pre informed (elem.Cancel m) t keeps is =
    beside_cancel depth owed held pre informed m t (can_go_back depth m (holding held pre informed) t is) is
beside depth owed held pre informed elem.Flip t keeps is = beside_flip depth owed held pre informed t is
beside depth owed held pre informed elem.Overflow t keeps is = absurd keeps
beside depth owed held pre informed elem.Discard t keeps is = absurd keeps

-- ---- elements

keeps_first : (e : Elem) (elements : List Elem) → All KeepsTrace (e ∷ elements) → KeepsTrace e
keeps_first e elements keeps = keeps 0 e (omega arith)

keeps_others : (e : Elem) (elements : List Elem) → All KeepsTrace (e ∷ elements) → All KeepsTrace elements
keeps_others e elements keeps k d within = keeps (suc k) d (omega arith)

-- the commit at the end
commits_owed : (depth : ℕ) (done owed held : List Thing) (pre : Pre) (informed : Bool)
    → resolve_all depth (record { done = done; pending = holding (owed ++ held) pre informed }) (elem.Commit (length owed - 0) ∷ [])
    ≡ Ok (record { done = done ++ owed; pending = holding held pre informed })
commits_owed depth done owed held pre informed =
    let all : length owed - 0 ≡ length owed = omega arith in
    let within : length owed ≤ length (owed ++ held) = omega (arith, length-append owed held) in
    ap (λ n. resolve_all depth (record { done = done; pending = holding (owed ++ held) pre informed }) (elem.Commit n ∷ [])) all
    ∙ ap (λ b. then_resolve (with_done done (if b then commits (holding (owed ++ held) pre informed) pre (owed ++ held) (length owed) else Err (CommitOverrun (length owed) (length (owed ++ held))))) (λ next. Ok next))
    (le-leb (length owed) (length (owed ++ held)) within)
    ∙ same_parts _ _ _ _ pre informed (ap (λ l. done ++ l) (take_at owed held (length owed) refl)) (drop_at owed held (length owed) refl)

-- the elements and the commit of what is owed behind them, as they go on from what the first of them did
abbrev Later : ℕ → List Thing → ℕ → Elem → List Elem → Resolved → Taken → Type 0
Later depth done owed e elements after t =
    SparesNext e t (λ p' room. SpareAll depth (owed - room) p' elements)
    × (then_resolve (with_done done t) (λ next. resolve_all depth next
    (elements ++ elem.Commit (owed - room_by_step e t (λ p'. room_made depth p' elements)) ∷ [])) ≡ Ok after)

-- both from the element on
abbrev Both : ℕ → Resolved → ℕ → List Elem → Resolved → Type 0
Both depth r owed elements after =
    SpareAll depth owed r.pending elements
    × (resolve_all depth r (elements ++ elem.Commit (owed - room_made depth r.pending elements) ∷ []) ≡ Ok after)

-- with what is owed then
less_room : (depth owed less room : ℕ) (r : Resolved) (elements : List Elem) (after : Resolved) → less ≡ owed - room → Both depth r less elements after
    → SpareAll depth (owed - room) r.pending elements
    × (resolve_all depth r (elements ++ elem.Commit (owed - (room + room_made depth r.pending elements)) ∷ []) ≡ Ok after)
less_room depth owed less room r elements after is both =
    let n : less - room_made depth r.pending elements ≡ owed - (room + room_made depth r.pending elements) = omega arith in
    (subst (λ k. SpareAll depth k r.pending elements) is both.0, ap (λ k. resolve_all depth r (elements ++ elem.Commit k ∷ [])) (sym n) ∙ both.1)

more_room : (depth owed less room : ℕ) (r : Resolved) (elements : List Elem) (after : Resolved) → less ≡ owed - room
    → SpareAll depth (owed - room) r.pending elements
    × (resolve_all depth r (elements ++ elem.Commit (owed - (room + room_made depth r.pending elements)) ∷ []) ≡ Ok after)
    → Both depth r less elements after
more_room depth owed less room r elements after is both =
    let n : less - room_made depth r.pending elements ≡ owed - (room + room_made depth r.pending elements) = omega arith in
    (subst (λ k. SpareAll depth k r.pending elements) (sym is) both.0, ap (λ k. resolve_all depth r (elements ++ elem.Commit k ∷ [])) n ∙ both.1)

-- an element on
module _ (depth : ℕ) (done owed held : List Thing) (pre : Pre) (informed : Bool) (e : Elem) (t : Pending × Gone)
    (b : Beside depth owed held pre informed e t) where
  abbrev late_on : Resolved
  late_on = record { done = done ++ (b.gone).committed; pending = holding (b.rest ++ (t.0).held) (t.0).pre (t.0).informed }

  behind_both : (done ++ owed) ++ (t.1).committed ≡ (done ++ (b.gone).committed) ++ b.rest
  behind_both =
      append_assoc done owed (t.1).committed ∙ ap (λ l. done ++ l) (sym b.same) ∙ sym (append_assoc done (b.gone).committed b.rest)

  -- what is resolved behind the commit
  abbrev early_on : Resolved
  early_on = record { done = (done ++ (b.gone).committed) ++ b.rest; pending = t.0 }

  early_next : (elements : List Elem) (after : Resolved)
      → resolve_all depth (record { done = (done ++ owed) ++ (t.1).committed; pending = t.0 }) elements ≡ Ok after → resolve_all depth early_on elements ≡ Ok after
  early_next elements after ok = ap (λ l. resolve_all depth (record { done = l; pending = t.0 }) elements) (sym behind_both) ∙ ok

  early_first : (elements : List Elem) (after : Resolved) → taken depth (holding held pre informed) e ≡ Ok t → resolve_all depth early_on elements ≡ Ok after
      → resolve_all depth (record { done = done ++ owed; pending = holding held pre informed }) (e ∷ elements) ≡ Ok after
  early_first elements after is next =
      resolves depth (record { done = done ++ owed; pending = holding held pre informed }) e elements (without_fault t) is
      ∙ ap (λ l. resolve_all depth (record { done = l; pending = t.0 }) elements) behind_both ∙ next

  goes_on : (elements : List Elem) (after : Resolved) → Both depth late_on (length b.rest) elements after
      → Both depth (record { done = done; pending = holding (owed ++ held) pre informed }) (length owed) (e ∷ elements) after
  goes_on elements after next =
      let room = less_room depth (length owed) (length b.rest) (made_room e b.gone) late_on elements after b.count next in
      let now = subst (Later depth done (length owed) e elements after) (sym b.rule) room in
      ((b.spares, now.0), now.1)

  came_from : (elements : List Elem) (after : Resolved)
      → Both depth (record { done = done; pending = holding (owed ++ held) pre informed }) (length owed) (e ∷ elements) after
      → Both depth late_on (length b.rest) elements after
  came_from elements after both =
      more_room depth (length owed) (length b.rest) (made_room e b.gone) late_on elements after b.count
      (subst (Later depth done (length owed) e elements after) b.rule ((both.0).1, both.1))

defers : (depth : ℕ) (done owed held : List Thing) (pre : Pre) (informed : Bool) (elements : List Elem) (after : Resolved) → All KeepsTrace elements
    → resolve_all depth (record { done = done ++ owed; pending = holding held pre informed }) elements ≡ Ok after
    → Both depth (record { done = done; pending = holding (owed ++ held) pre informed }) (length owed) elements after
defers depth done owed held pre informed [] after keeps ok = (tt, commits_owed depth done owed held pre informed ∙ ok)
defers depth done owed held pre informed (e ∷ elements) after keeps ok =
    let first = ok_of depth (taken depth (holding held pre informed) e) (done ++ owed) elements after ok in
    let t = first.0 in
    let b = beside depth owed held pre informed e t (keeps_first e elements keeps) (first.1).0 in
    goes_on depth done owed held pre informed e t b elements after
    (defers depth (done ++ (b.gone).committed) b.rest (t.0).held (t.0).pre (t.0).informed elements after (keeps_others e elements keeps)
    (early_next depth done owed held pre informed e t b elements after (first.1).1))

-- ---- the other way round

keeps_by : (n : ℕ) (p : Pending) (e : Elem) → Spares n p e → KeepsTrace e
keeps_by n p elem.Overflow spares = absurd spares
keeps_by n p elem.Discard spares = absurd spares
keeps_by n p (elem.Info spec) spares = tt
keeps_by n p elem.On spares = tt
keeps_by n p (elem.Ctx ctx) spares = tt
keeps_by n p (elem.Addr addr) spares = tt
keeps_by n p (elem.P0 p0) spares = tt
keeps_by n p (elem.Commit m) spares = tt
keeps_by n p (elem.Cancel m) spares = tt
keeps_by n p elem.Flip spares = tt

-- an element that has no fault beside what is owed, and spares it, has none without it
abbrev HasNone : Taken → Type 0
HasNone t = (x : Pending × Gone) × (t ≡ Ok x)

none_turning : (owed : List Thing) (pre behind : Pre) (informed : Bool) (held all : List Thing) (o : Option (List Thing)) (t : Pending × Gone)
    → flips (holding all pre informed) (option_map (λ l. owed ++ l) o) ≡ Ok t → HasNone (flips (holding held pre informed) o)
none_turning owed pre behind informed held all None t e = absurd cc
none_turning owed pre behind informed held all (Some flipped) t e = (_, refl)

none_flipping : (depth : ℕ) (owed held : List Thing) (pre : Pre) (informed : Bool) (t : Pending × Gone) → length owed < length (owed ++ held)
    → taken depth (holding (owed ++ held) pre informed) elem.Flip ≡ Ok t → HasNone (taken depth (holding held pre informed) elem.Flip)
none_flipping depth owed [] pre informed t more e = let none : List Thing = [] in absurd (omega (arith, length-append owed none))
none_flipping depth owed (thing ∷ things) pre informed t more e =
    none_turning owed pre pre informed (thing ∷ things) (owed ++ thing ∷ things) (flip_newest (thing ∷ things)) t
    (sym (ap (flips (holding (owed ++ thing ∷ things) pre informed)) (flip_newest_behind owed thing things)) ∙ e)

has_none : (depth : ℕ) (owed held : List Thing) (pre : Pre) (informed : Bool) (e : Elem) (t : Pending × Gone)
    → Spares (length owed) (holding (owed ++ held) pre informed) e → taken depth (holding (owed ++ held) pre informed) e ≡ Ok t
    → HasNone (taken depth (holding held pre informed) e)
has_none depth owed held pre true (elem.Info spec) t spares is = (_, refl)
has_none depth owed held pre false (elem.Info spec) t spares is =
    let ok = if_ok (nat_le spec depth) _ t (SpecTooDeep spec depth) is in
    (_, ap (λ b. if b then Ok (holding (held ++ replicate spec Unseen) (record pre { flush = true }) true, nothing_gone) else Err (SpecTooDeep spec depth)) ok.0)
has_none depth owed held pre informed elem.On t spares is = (_, refl)
has_none depth owed held pre informed (elem.Ctx ctx) t spares is = (_, refl)
has_none depth owed held pre informed (elem.Addr addr) t spares is = (_, refl)
has_none depth owed held pre informed (elem.P0 p0) t spares is = (_, refl)
has_none depth owed held pre informed (elem.Commit m) t spares is =
    let within : m ≤ length held = omega (arith, length-append owed held) in
    (_, ap (λ b. if b then commits (holding held pre informed) pre held m else Err (CommitOverrun m (length held))) (le-leb m (length held) within))
has_none depth owed held pre informed (elem.Cancel m) t spares is =
    let within : m ≤ length held = omega (arith, length-append owed held) in
    let s = split held m within in
    (_, goes_back depth m (holding held pre informed) s.kept s.gone s.whole s.count)
has_none depth owed held pre informed elem.Flip t spares is = none_flipping depth owed held pre informed t spares is
has_none depth owed held pre informed elem.Overflow t spares is = absurd spares
has_none depth owed held pre informed elem.Discard t spares is = absurd spares

brings : (depth : ℕ) (done owed held : List Thing) (pre : Pre) (informed : Bool) (elements : List Elem) (after : Resolved)
    → Both depth (record { done = done; pending = holding (owed ++ held) pre informed }) (length owed) elements after
    → resolve_all depth (record { done = done ++ owed; pending = holding held pre informed }) elements ≡ Ok after
brings depth done owed held pre informed [] after both = sym (commits_owed depth done owed held pre informed) ∙ both.1
brings depth done owed held pre informed (e ∷ elements) after both =
    let late = holding (owed ++ held) pre informed in
    let found = ok_of depth (taken depth late e) done
    (elements ++ elem.Commit (length owed - room_by_step e (taken depth late e) (λ p'. room_made depth p' elements)) ∷ []) after both.1 in
    let early = has_none depth owed held pre informed e found.0 (both.0).0 (found.1).0 in
    let t = early.0 in
    let b = beside depth owed held pre informed e t (keeps_by (length owed) late e (both.0).0) early.1 in
    early_first depth done owed held pre informed e t b elements after early.1
    (brings depth (done ++ (b.gone).committed) b.rest (t.0).held (t.0).pre (t.0).informed elements after
    (came_from depth done owed held pre informed e t b elements after both))

-- ---- the laws

-- the early commit
commits_first : (depth n : ℕ) (r after : Resolved) (elements : List Elem) → resolve_all depth r (elem.Commit n ∷ elements) ≡ Ok after
    → (n ≤ length r.pending.held)
    × (resolve_all depth (record { done = r.done ++ take n r.pending.held; pending = holding (drop n r.pending.held) r.pending.pre r.pending.informed }) elements ≡ Ok after)
commits_first depth n r after elements ok =
    let p = r.pending in
    let first = ok_of depth (taken depth p (elem.Commit n)) r.done elements after ok in
    let is = if_ok (nat_le n (length p.held)) (holding (drop n p.held) p.pre p.informed, committing (take n p.held)) first.0 _ (first.1).0 in
    (leb-true n (length p.held) is.0, subst (λ (x : Pending × Gone). resolve_all depth (record { done = r.done ++ (x.1).committed; pending = x.0 }) elements ≡ Ok after) (sym is.1) (first.1).1)

both_deferred : (depth n : ℕ) (r after : Resolved) (elements : List Elem) → All KeepsTrace elements → resolve_all depth r (elem.Commit n ∷ elements) ≡ Ok after
    → Both depth r n elements after
both_deferred depth n r after elements keeps ok =
    let p = r.pending in
    let first = commits_first depth n r after elements ok in
    let count : length (take n p.held) ≡ n = omega (arith, length-take n p.held) in
    subst (λ k. Both depth r k elements after) count
    (subst (λ l. Both depth (record { done = r.done; pending = holding l p.pre p.informed }) (length (take n p.held)) elements after) (take-append-drop n p.held)
    (defers depth r.done (take n p.held) (drop n p.held) p.pre p.informed elements after keeps first.1))

pub deferred : (depth n : ℕ) (r after : Resolved) (elements : List Elem) → All KeepsTrace elements → resolve_all depth r (elem.Commit n ∷ elements) ≡ Ok after
    → resolve_all depth r (elements ++ elem.Commit (n - room_made depth r.pending elements) ∷ []) ≡ Ok after
deferred depth n r after elements keeps ok = (both_deferred depth n r after elements keeps ok).1

pub spared : (depth n : ℕ) (r after : Resolved) (elements : List Elem) → All KeepsTrace elements → resolve_all depth r (elem.Commit n ∷ elements) ≡ Ok after
    → (n ≤ length r.pending.held) × SpareAll depth n r.pending elements
spared depth n r after elements keeps ok = ((commits_first depth n r after elements ok).0, (both_deferred depth n r after elements keeps ok).0)

pub brought_forward : (depth n : ℕ) (r after : Resolved) (elements : List Elem) → n ≤ length r.pending.held → SpareAll depth n r.pending elements
    → resolve_all depth r (elements ++ elem.Commit (n - room_made depth r.pending elements) ∷ []) ≡ Ok after
    → resolve_all depth r (elem.Commit n ∷ elements) ≡ Ok after
brought_forward depth n r after elements within spare ok =
    let p = r.pending in
    let count : length (take n p.held) ≡ n = omega (arith, length-take n p.held) in
    let all : Both depth (record { done = r.done; pending = holding (take n p.held ++ drop n p.held) p.pre p.informed }) (length (take n p.held)) elements after =
    subst (λ l. Both depth (record { done = r.done; pending = holding l p.pre p.informed }) (length (take n p.held)) elements after) (sym (take-append-drop n p.held))
    (subst (λ k. Both depth r k elements after) (sym count) (spare, ok)) in
    ap (λ b. then_resolve (with_done r.done (if b then commits p p.pre p.held n else Err (CommitOverrun n (length p.held)))) (λ next. resolve_all depth next elements))
    (le-leb n (length p.held) within)
    ∙ brings depth r.done (take n p.held) (drop n p.held) p.pre p.informed elements after all
