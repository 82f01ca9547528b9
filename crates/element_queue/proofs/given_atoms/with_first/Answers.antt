use Rattle.std.proofs.Common.{◌≤◌, arith}
use Rattle.element_queue.proofs.GivenFronts.{one_before}
use Rattle.element_queue.proofs.given_atoms.with_first.Goals as goal

pub returns-clause-atoms : goal.returns-clause-atoms
returns-clause-atoms c =
    let run = c.args.behind.now in let k = c.min-others.result in
    let within : k ≤ run.count = omega (arith, c.min-others.ensures) in
    let few : k ≤ 24 = omega (arith, c.requires, within) in
    one_before k run.count run.bits c.from.result c.args.taken within few c.from.ensures
