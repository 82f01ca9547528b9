use Rattle.std.proofs.Common.{◌<◌, length, sym, ap, subst, ◌∙◌, arith, length-append}
use Rattle.trace_unit.proofs.Out.{none_out}
use Rattle.trace_unit.proofs.WaitingFront.{longest_is}
use Rattle.trace_unit.proofs.WaitingOut.{after_some, front_put, some_affords, some_bytes, some_fewer}
use Rattle.trace_unit.specs.Packets.{packed}
use Rattle.trace_unit.specs.Packing.{longest}
use Rattle.trace_unit.specs.Room.{Affords}
use Rattle.trace_unit.specs.Whole.{PutOff, out}
use Rattle.trace_unit.specs.Written.{spelled}
use Rattle.trace_unit.proofs.put_off.PutOff.write_out.Goals as goal

pub front_out-requires-clause-room : goal.front_out-requires-clause-room
front_out-requires-clause-room c =
    let atoms = ap (λ (w : PutOff). length w.atoms) c.self.view_is in
    let some : 0 < length c.loop-self.self.atoms = omega (arith, c.loop-self-test.true, c.len.ensures.value, atoms) in
    omega (arith, some_bytes c.args.settings.now c.loop-self.self.atoms some, c.loop-self.invariant.room)

pub loop-self-smaller : goal.loop-self-smaller
loop-self-smaller c =
    let atoms = ap (λ (w : PutOff). length w.atoms) c.self.view_is in
    let some : 0 < length c.loop-self.self.atoms = omega (arith, c.loop-self-test.true, c.len.ensures.value, atoms) in
    some_fewer c.args.settings.now.depth c.loop-self.self c.front_out.new.self some c.front_out.ensures.waiting

pub loop-self-preserved : goal.loop-self-preserved
loop-self-preserved c =
    let s = c.args.settings.now in
    let depth = s.depth in
    let u = c.loop-self.self in
    let v = c.front_out.new.self in
    let n = longest u.atoms in
    let before = c.loop-self.invariant in
    let is = c.front_out.ensures.waiting in
    let atoms = ap (λ (w : PutOff). length w.atoms) c.self.view_is in
    let some : 0 < length u.atoms = omega (arith, c.loop-self-test.true, c.len.ensures.value, atoms) in
    let start = c.loop-self.bytes in
    let end = c.front_out.new.bytes in
    let put = front_put s depth u v start.items end.items some is c.front_out.ensures.bytes in
    let sizes = ap length put in
    let one = length-append end.items (spelled s (packed v.atoms)) in
    let two = length-append start.items (spelled s (packed u.atoms)) in
    record {
      waiting = ap (out depth) is ∙ after_some depth n u ∙ before.waiting;
      none = ap (λ (w : PutOff). w.cancels) is ∙ none_out depth n u;
      affords = subst (Affords depth) (sym is) (some_affords depth n u (longest_is u.atoms some).1 before.affords);
      room = omega (arith, sizes, one, two, end.ok.0, start.ok.0, before.room, c.front_out.ensures.capacity);
      bytes = put ∙ before.bytes;
      capacity = c.front_out.ensures.capacity ∙ before.capacity;
    }
