use Rattle.std.proofs.Common.{◌<◌, ◌≤◌, List, refl, slice_get, arith, ◌∙◌, sym, ap}
use Rattle.etm_types.specs.declared.element.Elem.{Elem}
use Rattle.path_elements.specs.Held.{rest_in}
use Rattle.path_elements.proofs.AtomElems.{atom_at, count_all, no_atom_from}
use Rattle.path_elements.proofs.elems.Elems.atom.Goals as goal

pub overflow_shr-result : goal.overflow_shr-result
overflow_shr-result c =
    let e = c.self.inside in
    omega (arith, count_all e.atoms.count e.atoms.bits (rest_in e.rest e.values), c.self.invariant.most, c.if-i-from.true, c.from.ensures)

pub returns-then-i-from-clause-value : goal.returns-then-i-from-clause-value
returns-then-i-from-clause-value c =
    let e = c.self.inside in
    let below : c.args.i < e.atoms.count = omega (arith, c.if-i-from.true, c.from.ensures) in
    sym (ap (λ (xs : List Elem). slice_get xs c.args.i) c.self.view_is) ∙ atom_at e.atoms.count e.atoms.bits c.args.i (rest_in e.rest e.values) below

pub returns-then-i-from-clause-some : goal.returns-then-i-from-clause-some
returns-then-i-from-clause-some c = (λ some. (_, returns-then-i-from-clause-value c), λ told. refl)

pub returns-else-i-from-clause-some : goal.returns-else-i-from-clause-some
returns-else-i-from-clause-some c =
    let e = c.self.inside in
    let past : e.atoms.count ≤ c.args.i = omega (arith, c.if-i-from.false, c.from.ensures) in (
      λ some. absurd cc,
      λ told. absurd (no_atom_from e.atoms.count e.atoms.bits c.args.i e.rest e.values told.0 past
          (ap (λ (xs : List Elem). slice_get xs c.args.i) c.self.view_is ∙ told.1)),
    )
