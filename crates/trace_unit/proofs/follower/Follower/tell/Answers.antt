use Rattle.std.proofs.Common.{◌≡◌, ◌∷◌, ◌++◌, [], ap, sym, subst, ◌∙◌, append_assoc, append-nil}
use Rattle.trace_unit.proofs.Ordered.{bytes_joined, can_tell_both, told_joined}
use Rattle.trace_unit.proofs.RoomLeft.{room_first, room_left}
use Rattle.trace_unit.proofs.StepOrders.{IsApart, apart_by_kind, apart_elsewhere}
use Rattle.trace_unit.specs.Ordered.{CanTell, CanTellAll, bytes_all, bytes_of, told_all, told_by}
use Rattle.trace_unit.specs.Orders.{before, p0_order}
use Rattle.trace_unit.specs.Room.{RoomForBytes}
use Rattle.trace_unit.specs.declared.follower.Follower.{Follower}
use Rattle.trace_unit.specs.declared.teller.Teller.{Teller}
use Rattle.trace_unit.proofs.follower.Follower.tell.Goals as goal
use Rattle.trace_unit.proofs.follower.Follower.tell.Goals.{After-tell_missing, In_default, in_default-via-in-Exc+else-is_target, in_default-via-in_default}

-- in the last arm the two are told apart
apart : (c : In_default) → IsApart c.args.self.now.places.places c.args.step.now
apart c =
    let p = c.args.self.now.places.places in
    elim c.in_default.branch [
      | in_default-via-in-Exc+else-is_target w ↦ apart_elsewhere p c.args.step.now (sym w.is_target.ensures ∙ w.if-is_target.false)
      | in_default-via-in_default w ↦ apart_by_kind p c.args.step.now w.in_default.not-Exc
    ]

can_both : (c : In_default) → CanTellAll c.args.self.now.teller (before c.args.self.now.places.places c.args.step.now.ctx
    ++ p0_order c.args.step.now.kind c.args.step.now.addr ∷ [])
can_both c = subst (CanTellAll c.args.self.now.teller) (apart c) c.requires.tells

room_for_both : (c : In_default) → RoomForBytes c.args.bytes.now (bytes_all c.args.self.now.teller (before c.args.self.now.places.places c.args.step.now.ctx)
    ++ bytes_all (told_all c.args.self.now.teller (before c.args.self.now.places.places c.args.step.now.ctx))
    (p0_order c.args.step.now.kind c.args.step.now.addr ∷ []))
room_for_both c =
    let t = c.args.self.now.teller in
    let s = c.args.step.now in
    let order = p0_order s.kind s.addr in
    subst (RoomForBytes c.args.bytes.now) (ap (bytes_all t) (apart c) ∙ bytes_joined t (before c.args.self.now.places.places s.ctx) (order ∷ [])) c.requires.room

pub tell_missing-requires-clause-tells : goal.tell_missing-requires-clause-tells
tell_missing-requires-clause-tells c =
    let s = c.args.step.now in
    (can_tell_both c.args.self.now.teller (before c.args.self.now.places.places s.ctx) (p0_order s.kind s.addr ∷ [])
    (can_both (goal.at.tell_missing-requires-clause-tells c).In_default)).0

pub tell_missing-requires-clause-room : goal.tell_missing-requires-clause-room
tell_missing-requires-clause-room c =
    room_first c.args.bytes.now _ _ (room_for_both (goal.at.tell_missing-requires-clause-room c).In_default)

-- behind what the reader lacked
missing_told : (c : After-tell_missing)
    → c.tell_missing.new.self.teller ≡ told_all c.args.self.now.teller (before c.args.self.now.places.places c.args.step.now.ctx)
missing_told c = ap (λ (f : Follower). f.teller) c.tell_missing.ensures.follower

pub tell_step-requires-clause-can : goal.tell_step-requires-clause-can
tell_step-requires-clause-can c =
    let s = c.args.step.now in
    let order = p0_order s.kind s.addr in
    let can = can_tell_both c.args.self.now.teller (before c.args.self.now.places.places s.ctx) (order ∷ [])
    (can_both (goal.at.tell_step-requires-clause-can c).In_default) in
    subst (λ (t : Teller). CanTell t order) (sym (missing_told (goal.at.tell_step-requires-clause-can c).After-tell_missing)) can.1.0

pub tell_step-requires-clause-room : goal.tell_step-requires-clause-room
tell_step-requires-clause-room c =
    let old = c.args.bytes.now in
    let new = c.tell_missing.new.bytes in
    let t = c.args.self.now.teller in
    let s = c.args.step.now in
    let order = p0_order s.kind s.addr in
    let lacks = before c.args.self.now.places.places s.ctx in
    let told = missing_told (goal.at.tell_step-requires-clause-room c).After-tell_missing in
    subst (λ (t : Teller). RoomForBytes new (bytes_of t order)) (sym told)
    (room_first new (bytes_of (told_all t lacks) order) []
    (room_left old new (bytes_all t lacks) _ c.tell_missing.ensures.bytes c.tell_missing.ensures.capacity
    (room_for_both (goal.at.tell_step-requires-clause-room c).In_default)))

pub returns-in_default-clause-follower : goal.returns-in_default-clause-follower
returns-in_default-clause-follower c =
    let f = c.args.self.now in
    let s = c.args.step.now in
    let order = p0_order s.kind s.addr in
    let lacks = before f.places.places s.ctx in
    c.tell_step.ensures.follower
    ∙ ap (λ (g : Follower). record g { teller = told_by g.teller order }) c.tell_missing.ensures.follower
    ∙ ap (λ (t : Teller). record f { teller = t }) (sym (told_joined f.teller lacks (order ∷ [])))
    ∙ ap (λ orders. record f { teller = told_all f.teller orders }) (sym (apart (goal.at.returns-in_default-clause-follower c).In_default))

pub returns-in_default-clause-bytes : goal.returns-in_default-clause-bytes
returns-in_default-clause-bytes c =
    let t = c.args.self.now.teller in
    let s = c.args.step.now in
    let order = p0_order s.kind s.addr in
    let lacks = before c.args.self.now.places.places s.ctx in
    let items = c.args.bytes.now.items in
    let last = bytes_of (told_all t lacks) order in
    c.tell_step.ensures.bytes
    ∙ ap (λ (t : Teller). c.tell_missing.new.bytes.items ++ bytes_of t order)
    (missing_told (goal.at.returns-in_default-clause-bytes c).After-tell_missing)
    ∙ ap (λ l. l ++ last) c.tell_missing.ensures.bytes
    ∙ append_assoc items (bytes_all t lacks) last
    ∙ ap (λ l. items ++ (bytes_all t lacks ++ l)) (sym (append-nil last))
    ∙ ap (λ l. items ++ l) (sym (bytes_joined t lacks (order ∷ [])))
    ∙ ap (λ orders. items ++ bytes_all t orders) (sym (apart (goal.at.returns-in_default-clause-bytes c).In_default))
