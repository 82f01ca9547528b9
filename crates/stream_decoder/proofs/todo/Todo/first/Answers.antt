use Rattle.std.proofs.Common.{sym, ap, ◌∙◌}
use Rattle.stream_decoder.specs.Left.{Left}
use Rattle.stream_decoder.proofs.Lefts.{first_left, none_left}
use Rattle.stream_decoder.proofs.todo.Todo.first.Goals as goal

pub returns-clause-some : goal.returns-clause-some
returns-clause-some c elem is =
    let here = first_left c.self.inside.elems c.self.inside.next elem (sym c.get.ensures.value ∙ is) in
    (here.0, sym (ap (λ (l : Left). l.elements) c.self.view_is) ∙ here.1)

pub returns-clause-none : goal.returns-clause-none
returns-clause-none c is =
    sym (ap (λ (l : Left). l.elements) c.self.view_is) ∙ none_left c.self.inside.elems c.self.inside.next (sym c.get.ensures.value ∙ is)
