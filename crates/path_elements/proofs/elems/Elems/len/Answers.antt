use Rattle.std.proofs.Common.{arith}
use Rattle.path_elements.specs.Held.{rest_in}
use Rattle.path_elements.proofs.AtomElems.{count_all}
use Rattle.path_elements.proofs.elems.Elems.len.Goals as goal

pub returns-clause-value : goal.returns-clause-value
returns-clause-value c =
    let e = c.self.inside in
    grind (arith, count_all e.atoms.count e.atoms.bits (rest_in e.rest e.values), c.self.view_is, c.from.ensures, c.len.ensures.value e.values)

pub returns-clause-most : goal.returns-clause-most
returns-clause-most c =
    let e = c.self.inside in
    omega (arith, count_all e.atoms.count e.atoms.bits (rest_in e.rest e.values), c.self.invariant.most, c.from.ensures, c.len.ensures.value e.values)
