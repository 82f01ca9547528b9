use Rattle.std.proofs.Common.{◌==◌, arith}
use Rattle.packet_grammar.specs.Fields.{is_last}
use Rattle.packet_reader.specs.States.{behind_number}
use Rattle.packet_reader.proofs.Within.{neither, group_within}
use Rattle.packet_reader.proofs.advance.number.Goals as goal

pub returns-then-group_goes_on-clause-tree : goal.returns-then-group_goes_on-clause-tree
returns-then-group_goes_on-clause-tree c = λ _.
    let went = c.if-group_goes_on.true in
    let new = c.group_goes_on.new in
    let more = neither (c.args.left.now == 0) (is_last c.args.byte) c.group_goes_on.result c.group_goes_on.ensures.within went in
    group_within c.args.left.now new.left c.args.groups.now new.groups c.args.value.now new.value c.args.byte
    (omega (arith, c.group_goes_on.ensures.left went)) more.1 (c.group_goes_on.ensures.groups went)
    (c.group_goes_on.ensures.value went) (behind_number c.args.purpose)
