use Rattle.std.proofs.Common.{Some, arith}
use Rattle.packet_reader.specs.States.{cid_tree}
use Rattle.packet_reader.proofs.Within.{byte_within}
use Rattle.packet_reader.proofs.advance.addresses.vmid.Goals as goal

pub returns-then-byte_goes_on-clause-tree : goal.returns-then-byte_goes_on-clause-tree
returns-then-byte_goes_on-clause-tree c =
    let went = c.if-byte_goes_on.true in
    let old = c.args.field.now in
    let new = c.byte_goes_on.new.field in
    byte_within old.left new.left old.count new.count old.value new.value c.args.byte (omega (arith, c.byte_goes_on.ensures.left went))
    (c.byte_goes_on.ensures.count went) (c.byte_goes_on.ensures.value went) (λ vmid. cid_tree c.args.settings.now c.args.form c.args.info (Some vmid))
