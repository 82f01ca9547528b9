use Rattle.std.proofs.Common.{slice_get, sym, ap, ◌∙◌, refl, ◌+◌}
use Rattle.stream_decoder.specs.Left.{Left}
use Rattle.stream_decoder.proofs.Lefts.{at_left}
use Rattle.stream_decoder.proofs.todo.Todo.first_atoms.Goals as goal

pub atoms_at-requires-clause-atoms : goal.atoms_at-requires-clause-atoms
atoms_at-requires-clause-atoms c k below =
    let t = c.self.inside in let there = c.requires.atoms k below in
    (there.0, sym (at_left t.elems t.next k (t.next + k) refl) ∙ ap (λ (l : Left). slice_get l.elements k) c.self.view_is ∙ there.1)

pub returns-clause-next : goal.returns-clause-next
returns-clause-next c =
    let rest = c.atoms_at.ensures.rest in (rest.0, sym (ap (λ (l : Left). l.elements) c.self.view_is) ∙ rest.1)
