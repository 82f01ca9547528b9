use Rattle.std.proofs.Common.{◌+◌, ℕ, slice_get, sym, ap, ◌∙◌, refl, arith}
use Rattle.stream_decoder.specs.Left.{Left}
use Rattle.stream_decoder.proofs.Lefts.{at_left}
use Rattle.stream_decoder.proofs.todo.Todo.atom_count.Goals as goal

pub returns : goal.returns
returns c =
    let t = c.self.inside in
    let at = λ (k : ℕ). at_left t.elems t.next k (t.next + k) refl in
    let shown = λ (k : ℕ). ap (λ (l : Left). slice_get l.elements k) c.self.view_is in
    record {
      value = λ k. (
        λ below.
            let there = (c.atom_count.ensures.value (t.next + k)).0 (omega (arith, below, c.saturating_sub.ensures)) in
            (there.0, sym (shown k) ∙ at k ∙ there.1),
        λ told.
            let below = (c.atom_count.ensures.value (t.next + k)).1 (told.0, sym (at k) ∙ shown k ∙ told.1) in
            omega (arith, below, c.saturating_sub.ensures),
      );
    }
