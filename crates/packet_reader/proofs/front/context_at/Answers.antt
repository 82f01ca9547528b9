use Rattle.std.proofs.Common.{refl, sym, ◌∙◌}
use Rattle.packet_reader.proofs.Fronts.{context_front}
use Rattle.packet_reader.proofs.front.context_at.Goals as goal

pub returns-clause-front : goal.returns-clause-front
returns-clause-front c =
    let vmid = rw (c.bit-2.ensures, c.vmid_bytes.ensures.value) at c.in_ok-vmid.ensures.front in
    let cid = rw (c.bit-3.ensures, c.cid_bytes.ensures.value) at c.in_ok-cid.ensures.front in
    rw (c.lowest-el.ensures, c.bit-ns.ensures)
    (context_front c.args.settings.now c.args.bytes.now c.in_ok-info.rest.now c.in_ok-vmid.rest.now c.in_ok-cid.rest.now c.in_ok-info.info.now _
    c.in_ok-info.ensures.cases.0 (sym c.bit.ensures ∙ c.if-not-bit.false) vmid cid refl)
