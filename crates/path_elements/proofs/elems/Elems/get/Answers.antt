use Rattle.std.proofs.Common.{ℕ, ◌-◌, ◌<◌, ◌≤◌, List, slice_get, arith, ◌∙◌, sym, ap}
use Rattle.etm_types.specs.declared.element.Elem.{Elem}
use Rattle.path_elements.specs.Held.{rest_in}
use Rattle.path_elements.proofs.AtomElems.{count_all, atom_at, after_atoms}
use Rattle.path_elements.proofs.elems.Elems.get.Goals as goal

pub overflow_shr-result : goal.overflow_shr-result
overflow_shr-result c =
    let e = c.self.inside in
    omega (arith, count_all e.atoms.count e.atoms.bits (rest_in e.rest e.values), c.self.invariant.most, c.if-i-count.true, c.from-count.ensures)

pub returns-then-i-count : goal.returns-then-i-count
returns-then-i-count c =
    let e = c.self.inside in
    let below : c.args.i < e.atoms.count = omega (arith, c.if-i-count.true, c.from-count.ensures) in
    record {
      value = sym (atom_at e.atoms.count e.atoms.bits c.args.i (rest_in e.rest e.values) below)
          ∙ ap (λ (xs : List Elem). slice_get xs c.args.i) c.self.view_is;
    }

pub returns : goal.returns
returns c =
    let e = c.self.inside in
    let past : e.atoms.count ≤ c.args.i = omega (arith, c.if-i-count.false, c.from-count.ensures) in
    record {
      value =
          c.get.ensures ∙ ap (λ (n : ℕ). slice_get (rest_in e.rest e.values) (c.args.i - n)) c.from-count.ensures
          ∙ sym (after_atoms e.atoms.count e.atoms.bits c.args.i (rest_in e.rest e.values) past)
          ∙ ap (λ (xs : List Elem). slice_get xs c.args.i) c.self.view_is;
    }
