-- What a follower makes of what an event did is what the event's orders and its changes say.
use Rattle.std.proofs.Common.{◌≡◌, ℕ, zero, suc, ◌+◌, ◌-◌, ◌^◌, ◌<◌, ◌≤◌, Bool, true, false, if◌then◌else◌, List, [], ◌∷◌, ◌++◌, length, take, drop}
use Rattle.std.proofs.Common.{Option, Some, None}
use Rattle.std.proofs.Common.{refl, sym, ap, ◌∙◌, inl, inr, arith, append-nil, length-append}
use Rattle.std.proofs.lemmas.List.{length-drop, length-take}
use Rattle.std.specs.Prelude.{⊤}
use Rattle.std.specs.Option.{option_map}
use Rattle.etm_types.specs.SameContext.{same_context}
use Rattle.etm_types.specs.declared.context.Ctx.{Ctx}
use Rattle.etm_types.specs.declared.element.P0.{P0}
use Rattle.program_image.specs.declared.image.Image.{Image}
use Rattle.spec_run.proofs.StepLists.{bools}
use Rattle.spec_run.specs.Checks.{Situation as At, held_at, place_of}
use Rattle.spec_run.specs.Effects.{done_of, place_after, place_ran}
use Rattle.spec_run.specs.Runs.{Running}
use Rattle.spec_run.specs.Steps.{ends_in_cond, is_p0, newest, p0s}
use Rattle.spec_run.specs.declared.effect.Effect.{Effect}
use Rattle.spec_run.specs.declared.effect.Effect.TheVariants as effect
use Rattle.spec_run.specs.declared.step.RunStep.{RunStep}
use Rattle.spec_run.specs.declared.step.StepKind.{StepKind}
use Rattle.spec_run.specs.declared.step.StepKind.TheVariants.{Cond, Eret, Exc, Ind, Isb, Jump, Plain}
use Rattle.trace_unit.proofs.BytesFew.{order_size, orders_size}
use Rattle.trace_unit.proofs.Elements.{elements_dropped, elements_joined, elements_kept, elements_many, elements_turned, ends_in_atom, p0s_parts, turned_many}
use Rattle.trace_unit.proofs.Ordered.{AllowsAll, unretired_all}
use Rattle.trace_unit.proofs.StepOrders.{in_both}
use Rattle.trace_unit.specs.Agreeing.{elements_of}
use Rattle.trace_unit.specs.Effects.{counts_by, counts_lost, counts_made, orders_on, places_on}
use Rattle.trace_unit.specs.Followed.{CanFollow, element_of, followed, orders_done}
use Rattle.trace_unit.specs.Followed.{with_both, with_places}
use Rattle.trace_unit.specs.Ordered.{Allows, told_all, unretired_by}
use Rattle.trace_unit.specs.Orders.{Order, missing, p0_order, step_orders, sync_orders}
use Rattle.trace_unit.specs.Places.{Places, placed_synced}
use Rattle.trace_unit.specs.Whole.{at_once}
use Rattle.trace_unit.specs.WindowKept.{WindowKept, pushed, turn_newest_p0, windowed_cancelled, windowed_flipped, windowed_lost, windowed_retired}
use Rattle.trace_unit.specs.declared.follower.Follower.{Follower}

abbrev pub place_by : Option Running → Option At
place_by current = option_map place_of current

abbrev pub held_by : Option Running → List RunStep
held_by current = held_at (place_by current)

-- what the checks of an event leave for its effect
abbrev pub Suits : ℕ → Option Running → Effect → Type 0
Suits depth None (effect.Began addr ctx) = ⊤
Suits depth (Some r) (effect.Ran s ctx) = is_p0 s ≡ true → 0 < depth → p0s r.held + 1 ≤ depth
Suits depth (Some r) (effect.Contexted ctx) = ⊤
Suits depth (Some r) (effect.Retired n) = ⊤
Suits depth (Some r) (effect.Cancelled n) = ⊤
Suits depth (Some r) effect.Flipped = ends_in_cond r.held ≡ true
Suits depth (Some r) effect.Synced = ⊤
Suits depth (Some r) effect.Overflowed = ⊤
Suits depth (Some r) effect.Stopped = ⊤
Suits depth current e = ⊥

-- ---- the window

abbrev pub windowed_on : Option Running → WindowKept → Effect → WindowKept
windowed_on (Some r) w (effect.Ran s ctx) = if is_p0 s then pushed w w.room (element_of s.kind s.addr) else w
windowed_on (Some r) w (effect.Retired n) = windowed_retired w (p0s (take n r.held))
windowed_on (Some r) w (effect.Cancelled n) = windowed_cancelled w (p0s (newest n r.held))
windowed_on (Some r) w effect.Flipped = windowed_flipped w
windowed_on (Some r) w effect.Overflowed = windowed_lost w
windowed_on (Some r) w effect.Stopped = windowed_lost w
windowed_on current w e = w

pushed_room : (w : WindowKept) (room : ℕ) (x : P0) → (pushed w room x).room ≡ w.room
pushed_room w zero x = refl
pushed_room w (suc room) x = refl

pub window_room : (current : Option Running) (w : WindowKept) (e : Effect) → (windowed_on current w e).room ≡ w.room
window_room None w e = refl
window_room (Some r) w (effect.Began addr ctx) = refl
window_room (Some r) w (effect.Ran s ctx) = by (is_p0 s)
  where
    by : (b : Bool) → let v : WindowKept = if b then pushed w w.room (element_of s.kind s.addr) else w in v.room ≡ w.room
    by true = pushed_room w w.room (element_of s.kind s.addr)
    by false = refl
window_room (Some r) w (effect.Contexted ctx) = refl
window_room (Some r) w (effect.Retired n) = refl
window_room (Some r) w (effect.Cancelled n) = refl
window_room (Some r) w effect.Flipped = refl
window_room (Some r) w effect.Synced = refl
window_room (Some r) w effect.Overflowed = refl
window_room (Some r) w effect.Stopped = refl

ran_elements : (depth : ℕ) (q : At) (s : RunStep) (ctx : Ctx) (w : WindowKept) (b : Bool) → is_p0 s ≡ b → w.p0s ≡ elements_of q.held
    → let v : WindowKept = if b then pushed w depth (element_of s.kind s.addr) else w in v.p0s ≡ elements_of (place_ran depth q s ctx).held
ran_elements zero q s ctx w true e same = same
ran_elements zero q s ctx w false e same = same
ran_elements (suc depth) q s ctx w true e same =
    ap (λ l. l ++ element_of s.kind s.addr ∷ []) same
    ∙ ap (λ b. elements_of q.held ++ (if b then element_of s.kind s.addr ∷ [] else [])) (sym e)
    ∙ sym (elements_joined q.held (s ∷ []))
ran_elements (suc depth) q s ctx w false e same =
    same ∙ sym (elements_joined q.held (s ∷ [])
    ∙ ap (λ b. elements_of q.held ++ (if b then element_of s.kind s.addr ∷ [] else [])) e
    ∙ append-nil (elements_of q.held))

pub window_elements : (image : Image) (depth : ℕ) (current : Option Running) (w : WindowKept) (e : Effect) → Suits depth current e → w.room ≡ depth
    → w.p0s ≡ elements_of (held_by current) → (windowed_on current w e).p0s ≡ elements_of (held_at (place_after image depth (place_by current) e))
window_elements image depth None w (effect.Began addr ctx) suits room same = same
window_elements image depth (Some r) w (effect.Ran s ctx) suits room same =
    ap (λ n. let v : WindowKept = if is_p0 s then pushed w n (element_of s.kind s.addr) else w in v.p0s) room
    ∙ ran_elements depth (place_of r) s ctx w (is_p0 s) refl same
window_elements image depth (Some r) w (effect.Contexted ctx) suits room same = same
window_elements image depth (Some r) w (effect.Retired n) suits room same = ap (drop (p0s (take n r.held))) same ∙ sym (elements_dropped n r.held)
window_elements image depth (Some r) w (effect.Cancelled n) suits room same =
    let k = p0s (newest n r.held) in ap (λ l. take (length l - k) l) same ∙ sym (elements_kept n r.held)
window_elements image depth (Some r) w effect.Flipped suits room same = ap turn_newest_p0 same ∙ sym (elements_turned image r.held suits)
window_elements image depth (Some r) w effect.Synced suits room same = same
window_elements image depth (Some r) w effect.Overflowed suits room same = refl
window_elements image depth (Some r) w effect.Stopped suits room same = refl
window_elements image depth current w e suits room same = absurd suits

-- ---- counts

ran_counts : (depth : ℕ) (r : Running) (s : RunStep) (ctx : Ctx) (w : WindowKept) → w.room ≡ depth
    → let v : WindowKept = if is_p0 s then pushed w w.room (element_of s.kind s.addr) else w in
    v.counts ≡ counts_by depth (Some r) w.counts (effect.Ran s ctx)
ran_counts depth r s ctx w room =
    ap (λ n. let v : WindowKept = if is_p0 s then pushed w n (element_of s.kind s.addr) else w in v.counts) room ∙ by depth (is_p0 s)
  where
    by : (depth : ℕ) (b : Bool) → let v : WindowKept = if b then pushed w depth (element_of s.kind s.addr) else w in
        v.counts ≡ (if b then counts_made depth w.counts else w.counts)
    by zero true = refl
    by (suc depth) true = refl
    by depth false = refl

pub window_counts : (depth : ℕ) (current : Option Running) (w : WindowKept) (e : Effect) → Suits depth current e → w.room ≡ depth
    → w.p0s ≡ elements_of (held_by current) → (windowed_on current w e).counts ≡ counts_by depth current w.counts e
window_counts depth None w (effect.Began addr ctx) suits room same = refl
window_counts depth (Some r) w (effect.Ran s ctx) suits room same = ran_counts depth r s ctx w room
window_counts depth (Some r) w (effect.Contexted ctx) suits room same = refl
window_counts depth (Some r) w (effect.Retired n) suits room same = refl
window_counts depth (Some r) w (effect.Cancelled n) suits room same = refl
window_counts depth (Some r) w effect.Flipped suits room same = refl
window_counts depth (Some r) w effect.Synced suits room same = refl
window_counts depth (Some r) w effect.Overflowed suits room same = ap (λ n. counts_lost n w.counts) (ap length same ∙ elements_many r.held)
window_counts depth (Some r) w effect.Stopped suits room same = ap (λ n. counts_lost n w.counts) (ap length same ∙ elements_many r.held)
window_counts depth current w e suits room same = absurd suits

-- ---- orders

-- a P0 step is one more, and written in few bytes
record AreOne (depth n : ℕ) (orders : List Order) : Type 0 where
  allows : n + 1 ≤ depth + at_once depth → AllowsAll depth n orders
  behind : unretired_all depth n orders ≡ n + 1 - at_once depth
  few : orders_size orders ≤ 29

-- what the reader lacks leaves the P0 steps as they are
record Lacking (depth n : ℕ) (order : Order) (orders : List Order) : Type 0 where
  allows : Allows depth n order → AllowsAll depth n orders
  behind : unretired_all depth n orders ≡ unretired_by depth n order
  few : orders_size orders ≤ 18 + order_size order

missing_lacks : (depth n : ℕ) (same needs : Bool) (addr : ℕ) (ctx : Ctx) (order : Order) → Lacking depth n order (missing same needs addr ctx ++ order ∷ [])
missing_lacks depth n true true addr ctx order = record { allows = λ can. (tt, (can, tt)); behind = refl; few = omega arith }
missing_lacks depth n true false addr ctx order = record { allows = λ can. (can, tt); behind = refl; few = omega arith }
missing_lacks depth n false true addr ctx order = record { allows = λ can. (tt, (can, tt)); behind = refl; few = omega arith }
missing_lacks depth n false false addr ctx order = record { allows = λ can. (tt, (can, tt)); behind = refl; few = omega arith }

record IsOne (depth n : ℕ) (order : Order) : Type 0 where
  allows : n + 1 ≤ depth + at_once depth → Allows depth n order
  behind : unretired_by depth n order ≡ n + 1 - at_once depth
  few : order_size order ≤ 11

p0_is_one : (depth n : ℕ) (kind : StepKind) (addr : ℕ) → IsOne depth n (p0_order kind addr)
p0_is_one depth n Plain addr = record { allows = λ le. le; behind = refl; few = omega arith }
p0_is_one depth n Isb addr = record { allows = λ le. le; behind = refl; few = omega arith }
p0_is_one depth n Jump addr = record { allows = λ le. le; behind = refl; few = omega arith }
p0_is_one depth n (Cond taken) addr = record { allows = λ le. le; behind = refl; few = omega arith }
p0_is_one depth n (Ind link) addr = record { allows = λ le. le; behind = refl; few = omega arith }
p0_is_one depth n Eret addr = record { allows = λ le. le; behind = refl; few = omega arith }
p0_is_one depth n (Exc kind) addr = record { allows = λ le. le; behind = refl; few = omega arith }

steps_are_one : (depth n : ℕ) (p : Places) (s : RunStep) → AreOne depth n (step_orders p s)
steps_are_one depth n p s =
    let order = p0_order s.kind s.addr in
    let lacks = missing_lacks depth n (same_context s.ctx p.reader_context) p.needs p.start s.ctx order in
    let one = p0_is_one depth n s.kind s.addr in
    in_both (AreOne depth n) p s
    (record { allows = λ le. lacks.allows (one.allows le); behind = lacks.behind ∙ one.behind; few = omega (arith, lacks.few, one.few) })
    (λ kind e is. record { allows = λ le. (le, tt); behind = refl; few = omega arith })

room_for_one : (depth n : ℕ) → n ≤ depth → (0 < depth → n + 1 ≤ depth) → n + 1 ≤ depth + at_once depth
room_for_one zero n le room = omega (arith, le)
room_for_one (suc depth) n le room = let more = room (omega arith) in omega (arith, more)

pub orders_allowed : (image : Image) (depth : ℕ) (current : Option Running) (p : Places) (e : Effect) (n : ℕ) → Suits depth current e → n ≤ depth
    → n ≡ p0s (held_by current) → AllowsAll depth n (orders_on current p e)
orders_allowed image depth None p (effect.Began addr ctx) n suits le e = (tt, (tt, (tt, tt)))
orders_allowed image depth (Some r) p (effect.Ran s ctx) n suits le e = elim (bools (is_p0 s)) [
  | inl some ↦
      let room = room_for_one depth n le (λ lt. let more = suits some lt in omega (arith, more, e)) in
      simp some ((steps_are_one depth n p s).allows room)
  | inr none ↦ simp none tt
]
orders_allowed image depth (Some r) p (effect.Contexted ctx) n suits le e = tt
orders_allowed image depth (Some r) p (effect.Retired k) n suits le e = (omega (arith, e, p0s_parts k r.held), tt)
orders_allowed image depth (Some r) p (effect.Cancelled k) n suits le e = (omega (arith, e, p0s_parts (length r.held - k) r.held), tt)
orders_allowed image depth (Some r) p effect.Flipped n suits le e = (tt, tt)
orders_allowed image depth (Some r) p effect.Synced n suits le e = (tt, (tt, (tt, tt)))
orders_allowed image depth (Some r) p effect.Overflowed n suits le e = (tt, tt)
orders_allowed image depth (Some r) p effect.Stopped n suits le e = (tt, tt)
orders_allowed image depth current p e n suits le same = absurd suits

pushed_one : (room : ℕ) (w : WindowKept) (x : P0) → length w.p0s + 1 - at_once room ≡ length (pushed w room x).p0s
pushed_one zero w x = omega arith
pushed_one (suc room) w x = omega (arith, length-append w.p0s (x ∷ []))

pub orders_behind : (image : Image) (depth : ℕ) (current : Option Running) (p : Places) (w : WindowKept) (e : Effect) → Suits depth current e
    → w.room ≡ depth → length w.p0s ≡ p0s (held_by current)
    → unretired_all depth (length w.p0s) (orders_on current p e) ≡ length (windowed_on current w e).p0s
orders_behind image depth None p w (effect.Began addr ctx) suits room e = refl
orders_behind image depth (Some r) p w (effect.Ran s ctx) suits room e = elim (bools (is_p0 s)) [
  | inl some ↦
      simp some ((steps_are_one depth (length w.p0s) p s).behind ∙ pushed_one depth w (element_of s.kind s.addr)
      ∙ ap (λ n. length (pushed w n (element_of s.kind s.addr)).p0s) (sym room))
  | inr none ↦ simp none refl
]
orders_behind image depth (Some r) p w (effect.Contexted ctx) suits room e = refl
orders_behind image depth (Some r) p w (effect.Retired k) suits room e = sym (length-drop (p0s (take k r.held)) w.p0s)
orders_behind image depth (Some r) p w (effect.Cancelled k) suits room e =
    let m = p0s (newest k r.held) in omega (arith, length-take (length w.p0s - m) w.p0s)
orders_behind image depth (Some r) p w effect.Flipped suits room e = sym (turned_many w.p0s)
orders_behind image depth (Some r) p w effect.Synced suits room e = refl
orders_behind image depth (Some r) p w effect.Overflowed suits room e = refl
orders_behind image depth (Some r) p w effect.Stopped suits room e = refl
orders_behind image depth current p w e suits room same = absurd suits

pub orders_small : (current : Option Running) (p : Places) (e : Effect) → orders_size (orders_on current p e) ≤ 99
orders_small None p (effect.Began addr ctx) = omega arith
orders_small (Some r) p (effect.Ran s ctx) = elim (bools (is_p0 s)) [
  | inl some ↦ simp some (omega (arith, (steps_are_one 0 0 p s).few))
  | inr none ↦ simp none (omega arith)
]
orders_small (Some r) p effect.Synced = omega arith
orders_small current p e = omega arith

-- ---- what is followed

abbrev synced_with : Follower → ℕ → Ctx → Follower
synced_with f n ctx = record f {
  places = with_places f.places (placed_synced f.places.places ctx);
  teller = told_all f.teller (sync_orders n f.places.places.start ctx);
}

-- as the event's effect says
abbrev pub followed_on : Image → Option Running → Follower → Effect → Follower
followed_on image current f e = record {
  places = with_both f.places (places_on image f.places.window.room f.places.stack_depth current f.places.places e)
      (windowed_on current f.places.window e);
  teller = told_all f.teller (orders_on current f.places.places e);
}

pub follows_so : (image : Image) (depth : ℕ) (current : Option Running) (f : Follower) (e : Effect) → Suits depth current e
    → length f.places.window.p0s ≡ p0s (held_by current)
    → followed (done_of (held_by current) e) (place_after image depth (place_by current) e) f ≡ followed_on image current f e
follows_so image depth None f (effect.Began addr ctx) suits many = refl
follows_so image depth (Some r) f (effect.Ran s ctx) suits many = elim (bools (is_p0 s)) [ inl some ↦ simp some refl | inr none ↦ simp none refl ]
follows_so image depth (Some r) f (effect.Contexted ctx) suits many = refl
follows_so image depth (Some r) f (effect.Retired n) suits many = refl
follows_so image depth (Some r) f (effect.Cancelled n) suits many = refl
follows_so image depth (Some r) f effect.Flipped suits many = refl
follows_so image depth (Some r) f effect.Synced suits many = ap (λ n. synced_with f n r.ctx) many
follows_so image depth (Some r) f effect.Overflowed suits many = refl
follows_so image depth (Some r) f effect.Stopped suits many = refl
follows_so image depth current f e suits many = absurd suits

pub orders_so : (image : Image) (depth : ℕ) (current : Option Running) (f : Follower) (e : Effect) → Suits depth current e
    → length f.places.window.p0s ≡ p0s (held_by current)
    → orders_done (done_of (held_by current) e) (place_after image depth (place_by current) e) f ≡ orders_on current f.places.places e
orders_so image depth None f (effect.Began addr ctx) suits many = refl
orders_so image depth (Some r) f (effect.Ran s ctx) suits many = refl
orders_so image depth (Some r) f (effect.Contexted ctx) suits many = refl
orders_so image depth (Some r) f (effect.Retired n) suits many = refl
orders_so image depth (Some r) f (effect.Cancelled n) suits many = refl
orders_so image depth (Some r) f effect.Flipped suits many = refl
orders_so image depth (Some r) f effect.Synced suits many = ap (λ n. sync_orders n f.places.places.start r.ctx) many
orders_so image depth (Some r) f effect.Overflowed suits many = refl
orders_so image depth (Some r) f effect.Stopped suits many = refl
orders_so image depth current f e suits many = absurd suits

-- what a follower asks for
pub follow_can : (image : Image) (depth : ℕ) (current : Option Running) (f : Follower) (e : Effect) → Suits depth current e
    → f.places.window.room ≡ depth → f.places.window.p0s ≡ elements_of (held_by current) → p0s (held_by current) < 2 ^ 32
    → CanFollow (done_of (held_by current) e) (place_after image depth (place_by current) e) f
follow_can image depth None f (effect.Began addr ctx) suits room same few = (refl, same)
follow_can image depth (Some r) f (effect.Ran s ctx) suits room same few =
    let many = ap length same ∙ elements_many r.held in
    λ some lt. let more = suits some (omega (arith, lt, room)) in omega (arith, more, many, room)
follow_can image depth (Some r) f (effect.Contexted ctx) suits room same few = tt
follow_can image depth (Some r) f (effect.Retired n) suits room same few =
    let many = ap length same ∙ elements_many r.held in omega (arith, many, p0s_parts n r.held)
follow_can image depth (Some r) f (effect.Cancelled n) suits room same few =
    let many = ap length same ∙ elements_many r.held in omega (arith, many, p0s_parts (length r.held - n) r.held)
follow_can image depth (Some r) f effect.Flipped suits room same few =
    let b = ends_in_atom r.held suits in (refl, (b.others, b.taken, same ∙ b.whole))
follow_can image depth (Some r) f effect.Synced suits room same few =
    let many = ap length same ∙ elements_many r.held in (refl, omega (arith, many, few))
follow_can image depth (Some r) f effect.Overflowed suits room same few = tt
follow_can image depth (Some r) f effect.Stopped suits room same few = tt
follow_can image depth current f e suits room same few = absurd suits
