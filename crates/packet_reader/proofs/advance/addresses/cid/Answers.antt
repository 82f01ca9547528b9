use Rattle.std.proofs.Common.{Some, arith}
use Rattle.packet_reader.specs.Trees.{known}
use Rattle.packet_reader.specs.States.{context_of, with_context}
use Rattle.packet_reader.proofs.Within.{byte_within}
use Rattle.packet_reader.proofs.advance.addresses.cid.Goals as goal

pub returns-then-byte_goes_on-clause-tree : goal.returns-then-byte_goes_on-clause-tree
returns-then-byte_goes_on-clause-tree c = λ _.
    let went = c.if-byte_goes_on.true in
    let old = c.args.field.now in
    let new = c.byte_goes_on.new.field in
    byte_within old.left new.left old.count new.count old.value new.value c.args.byte (omega (arith, c.byte_goes_on.ensures.left went))
    (c.byte_goes_on.ensures.count went) (c.byte_goes_on.ensures.value went)
    (λ cid. known (with_context c.args.form (context_of c.args.info c.args.vmid (Some cid))))
