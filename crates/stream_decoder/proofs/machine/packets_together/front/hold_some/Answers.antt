use Rattle.std.proofs.Common.{List, ℕ, refl, subst, sym, ◌∙◌}
use Rattle.etm_types.specs.declared.element.Elem.{Elem}
use Rattle.path_elements.specs.Elements.{atoms}
use Rattle.stream_decoder.specs.Waiting.{HoldsAtoms}
use Rattle.stream_decoder.proofs.AtomSteps.{holds_some}
use Rattle.stream_decoder.proofs.machine.packets_together.front.hold_some.Goals as goal

pub returns : goal.returns
returns c =
    let w = c.args.waiting.now in let w' = c.hold.new.self in let run = c.atoms-atoms.result in let next = c.atoms-atoms.ensures.next in
    record {
      steps = λ image s told state is.
          let takes = c.if-not-hold.ensures.takes refl next.0 in
          let holds : HoldsAtoms w (atoms told) c.from.result w' next.0 =
          subst (λ (n : ℕ). HoldsAtoms w (atoms told) n w' next.0) (sym c.from.ensures)
          (subst (λ (es : List Elem). HoldsAtoms w es run.count w' next.0) (sym next.1 ∙ is) takes) in
          holds_some image w w' s told c.from.result next.0 state holds;
    }
