use Rattle.std.proofs.Common.{◌+◌, arith}
use Rattle.packet_grammar.specs.Fields.{from_bit}
use Rattle.packet_reader.specs.States.{behind_long}
use Rattle.packet_reader.proofs.Within.{byte_within}
use Rattle.packet_reader.proofs.advance.addresses.long_high.Goals as goal

pub returns-then-byte_goes_on-clause-tree : goal.returns-then-byte_goes_on-clause-tree
returns-then-byte_goes_on-clause-tree c = λ s.
    let went = c.if-byte_goes_on.true in
    let old = c.args.field.now in
    let new = c.byte_goes_on.new.field in
    byte_within old.left new.left old.count new.count old.value new.value c.args.byte (omega (arith, c.byte_goes_on.ensures.left went))
    (c.byte_goes_on.ensures.count went) (c.byte_goes_on.ensures.value went) (λ value. behind_long s c.args.long (c.args.low + from_bit 16 value))
