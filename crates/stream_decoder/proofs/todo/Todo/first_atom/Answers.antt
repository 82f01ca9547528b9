use Rattle.std.proofs.Common.{Bool, sym, ap, ◌∙◌}
use Rattle.etm_types.specs.declared.element.Elem.TheVariants as elem
use Rattle.etm_types.specs.declared.element.P0.TheVariants.{Atom}
use Rattle.stream_decoder.specs.Left.{Left}
use Rattle.stream_decoder.proofs.Atoms.{if_some}
use Rattle.stream_decoder.proofs.Lefts.{first_left, here_first}
use Rattle.stream_decoder.proofs.todo.Todo.first_atom.Goals as goal

pub returns-clause-value : goal.returns-clause-value
returns-clause-value c =
    if_some c.atom.result _ _
    (λ (taken : Bool) is.
    let here = first_left c.self.inside.elems c.self.inside.next (elem.P0 (Atom taken)) is in
    (here.0, sym (ap (λ (l : Left). l.elements) c.self.view_is) ∙ here.1))
    c.atom.ensures.value

pub returns-clause-some : goal.returns-clause-some
returns-clause-some c =
    let t = c.self.inside in
    let shown = ap (λ (l : Left). l.elements) c.self.view_is in (
      λ some.
          let told = c.atom.ensures.some.0 some in
          let here = first_left t.elems t.next (elem.P0 (Atom told.0)) told.1 in (told.0, here.0, sym shown ∙ here.1),
      λ told. c.atom.ensures.some.1 (told.0, here_first t.elems t.next (elem.P0 (Atom told.0)) told.1 (shown ∙ told.2)),
    )
