use Rattle.std.proofs.Common.{◌==◌, not, arith}
use Rattle.packet_reader.proofs.Within.{neither, is_so, zero_within}
use Rattle.packet_reader.proofs.advance.zeros.Goals as goal

pub returns-then-zero_goes_on-clause-tree : goal.returns-then-zero_goes_on-clause-tree
returns-then-zero_goes_on-clause-tree c = λ _.
    let went = c.if-zero_goes_on.true in
    let more = neither (c.args.left.now == 0) (not (c.args.byte == 0)) c.zero_goes_on.result c.zero_goes_on.ensures.within went in
    zero_within c.args.left.now c.zero_goes_on.new.left c.args.byte (omega (arith, c.zero_goes_on.ensures.left went)) (is_so (c.args.byte == 0) more.1)
