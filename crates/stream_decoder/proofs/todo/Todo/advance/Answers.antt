use Rattle.std.proofs.Common.{◌≡◌, ◌+◌, List, drop, ap, ◌∙◌}
use Rattle.etm_types.specs.declared.element.Elem.{Elem}
use Rattle.stream_decoder.specs.Left.{Left}
use Rattle.stream_decoder.proofs.Lefts.{next_left}
use Rattle.stream_decoder.proofs.todo.Todo.advance.Goals as goal

pub returns-then-self-len : goal.returns-then-self-len
returns-then-self-len c elem others is =
    let left : drop (c.self.inside.next + 1) c.self.inside.elems ≡ others =
    next_left c.self.inside.elems c.self.inside.next elem others (ap (λ (l : Left). l.elements) c.self.view_is ∙ is) in
    ap (λ (es : List Elem). record { at = c.self.inside.at; elements = es }) left ∙ ap (λ (l : Left). record l { elements = others }) c.self.view_is
