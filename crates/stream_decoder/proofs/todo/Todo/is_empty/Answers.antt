use Rattle.std.proofs.Common.{arith, ap, sym, ◌∙◌}
use Rattle.std.proofs.lemmas.Bool.Decides.{nat_tests}
use Rattle.std.proofs.lemmas.List.{drop_all}
use Rattle.stream_decoder.proofs.Waits.{none_from}
use Rattle.stream_decoder.proofs.todo.Todo.is_empty.Goals as goal

pub returns : goal.returns
returns c =
    let t = c.self.inside in
    let shown = ap (λ l. l.elements) c.self.view_is in (
      λ all. sym shown ∙ drop_all t.next t.elems (grind (arith, nat_tests, all, c.len.ensures.value)),
      λ none.
          let end = none_from t.elems t.next c.self.invariant (shown ∙ none) in
          grind (arith, nat_tests, end, c.len.ensures.value),
    )
