use Rattle.std.proofs.Common.{sym}
use Rattle.std.proofs.lemmas.List.{drop-map}
use Rattle.trace_unit.specs.Effects.{counts_retired}
use Rattle.trace_unit.specs.WindowKept.{StepKept}
use Rattle.trace_unit.proofs.places.Places.retire.Goals as goal

pub returns : goal.returns
returns c =
    let p = c.self.inside in
    let n = c.args.n in
    let steps = p.window.steps in
    let saved = sym (drop-map (λ (s : StepKept). s.saved) n steps) in
    let p0s = sym (drop-map (λ (s : StepKept). s.p0) n steps) in
    rw (c.retire.ensures, ← c.self.view_is) (λ k. record {
      places = record { stack = p.stack.addresses; saved = saved k; needs = p.needs; start = p.start; reader_context = p.reader_context };
      stack_depth = p.stack.depth;
      window = record { p0s = p0s k; room = p.window.room; counts = counts_retired n p.window.counts };
    })
