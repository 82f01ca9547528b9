use Rattle.std.proofs.Common.{◌+◌, ◌≤◌, List, arith, drop, slice_get, sym, ap, ◌∙◌}
use Rattle.etm_types.specs.Atoms.{most_atoms}
use Rattle.etm_types.specs.declared.element.Elem.{Elem}
use Rattle.path_elements.specs.Held.{rest_in}
use Rattle.path_elements.proofs.AtomElems.{atoms_behind, count_all, no_atom_from}
use Rattle.path_elements.proofs.elems.Elems.atoms_from.Goals.{After-min}
use Rattle.path_elements.proofs.elems.Elems.atoms_from.Goals as goal

-- no more atoms than elements
count_most : (c : After-min) → c.self.inside.atoms.count ≤ most_atoms
count_most c =
    let e = c.self.inside in omega (arith, count_all e.atoms.count e.atoms.bits (rest_in e.rest e.values), c.self.invariant.most)

pub overflow_shr-result : goal.overflow_shr-result
overflow_shr-result c = omega (arith, count_most c, c.if-i-count.false, c.from-count.ensures)

pub returns-clause-rest : goal.returns-clause-rest
returns-clause-rest c =
    let e = c.self.inside in
    let within : c.args.i + c.min.result ≤ e.atoms.count = omega (arith, c.min.ensures, c.if-i-count.false, c.from-count.ensures) in
    let behind = atoms_behind e.atoms.count e.atoms.bits c.args.i c.min.result (rest_in e.rest e.values) within in
    (behind.0, sym (ap (λ (xs : List Elem). drop c.args.i xs) c.self.view_is) ∙ behind.1)

pub returns-clause-few : goal.returns-clause-few
returns-clause-few c = omega (arith, count_most c, c.min.ensures, c.from-count.ensures)

pub returns-then-i-count-clause-all : goal.returns-then-i-count-clause-all
returns-then-i-count-clause-all c few taken is =
    let e = c.self.inside in
    no_atom_from e.atoms.count e.atoms.bits (c.args.i + 0) e.rest e.values taken (omega (arith, c.if-i-count.true, c.from-count.ensures))
    (ap (λ (xs : List Elem). slice_get xs (c.args.i + 0)) c.self.view_is ∙ is)

pub returns-clause-all : goal.returns-clause-all
returns-clause-all c few taken is =
    let e = c.self.inside in let next = c.args.i + c.min.result in
    let past : e.atoms.count ≤ next = omega (arith, few, c.min.ensures, c.from-count.ensures) in
    no_atom_from e.atoms.count e.atoms.bits next e.rest e.values taken past (ap (λ (xs : List Elem). slice_get xs next) c.self.view_is ∙ is)
