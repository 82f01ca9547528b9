use Rattle.std.proofs.Common.{List, arith, drop, sym, ap, ◌∙◌}
use Rattle.etm_types.specs.declared.element.Elem.{Elem}
use Rattle.path_elements.specs.Held.{rest_in}
use Rattle.path_elements.proofs.AtomElems.{atoms_behind, atoms_within, count_all}
use Rattle.path_elements.proofs.elems.Elems.atoms_at.Goals as goal

pub overflow_cast-result : goal.overflow_cast-result
overflow_cast-result c =
    let e = c.self.inside in
    let within = atoms_within e.atoms.count e.atoms.bits c.args.i c.args.n e.rest e.values c.args.self.now c.self.view_is c.requires.some c.requires.atoms in
    omega (arith, within, count_all e.atoms.count e.atoms.bits (rest_in e.rest e.values), c.self.invariant.most)

pub overflow_cast-bits : goal.overflow_cast-bits
overflow_cast-bits c =
    let e = c.self.inside in
    let within = atoms_within e.atoms.count e.atoms.bits c.args.i c.args.n e.rest e.values c.args.self.now c.self.view_is c.requires.some c.requires.atoms in
    omega (arith, within, count_all e.atoms.count e.atoms.bits (rest_in e.rest e.values), c.self.invariant.most)

pub overflow_shr-bits : goal.overflow_shr-bits
overflow_shr-bits c =
    let e = c.self.inside in
    let within = atoms_within e.atoms.count e.atoms.bits c.args.i c.args.n e.rest e.values c.args.self.now c.self.view_is c.requires.some c.requires.atoms in
    omega (arith, within, count_all e.atoms.count e.atoms.bits (rest_in e.rest e.values), c.self.invariant.most)

pub returns-clause-few : goal.returns-clause-few
returns-clause-few c =
    let e = c.self.inside in
    let within = atoms_within e.atoms.count e.atoms.bits c.args.i c.args.n e.rest e.values c.args.self.now c.self.view_is c.requires.some c.requires.atoms in
    omega (arith, within, count_all e.atoms.count e.atoms.bits (rest_in e.rest e.values), c.self.invariant.most)

pub returns-clause-rest : goal.returns-clause-rest
returns-clause-rest c =
    let e = c.self.inside in
    let within = atoms_within e.atoms.count e.atoms.bits c.args.i c.args.n e.rest e.values c.args.self.now c.self.view_is c.requires.some c.requires.atoms in
    let behind = atoms_behind e.atoms.count e.atoms.bits c.args.i c.args.n (rest_in e.rest e.values) within in
    (behind.0, sym (ap (λ (xs : List Elem). drop c.args.i xs) c.self.view_is) ∙ behind.1)
