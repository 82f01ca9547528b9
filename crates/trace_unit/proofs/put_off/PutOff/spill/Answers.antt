use Rattle.std.proofs.Common.{[], ◌∷◌, ◌++◌, ap, ◌∙◌}
use Rattle.trace_unit.proofs.WaitingOut.{after_cancel, put_both}
use Rattle.trace_unit.specs.Packets.{cancel_packets, front_packet}
use Rattle.trace_unit.specs.Packing.{longest}
use Rattle.trace_unit.specs.Whole.{PutOff, some_out}
use Rattle.trace_unit.specs.Written.{spelled}
use Rattle.trace_unit.proofs.put_off.PutOff.spill.Goals as goal

pub returns-clause-waiting : goal.returns-clause-waiting
returns-clause-waiting c =
    let u = c.args.self.now in
    let depth = c.args.settings.now.depth in
    c.front_out.ensures.waiting ∙ ap (λ (v : PutOff). some_out depth (longest v.atoms) v) c.cancel_out.ensures.waiting
    ∙ after_cancel depth (longest u.atoms) u

pub returns-clause-bytes : goal.returns-clause-bytes
returns-clause-bytes c =
    let u = c.args.self.now in
    let between = c.cancel_out.new.bytes.items in
    put_both c.args.settings.now c.args.bytes.now.items between c.front_out.new.bytes.items (cancel_packets u.cancels) (front_packet u.atoms ∷ [])
    c.cancel_out.ensures.bytes
    (c.front_out.ensures.bytes
    ∙ ap (λ (v : PutOff). between ++ spelled c.args.settings.now (front_packet v.atoms ∷ [])) c.cancel_out.ensures.waiting)
