use Rattle.std.proofs.Common.{◌≤◌, false, length, arith}
use Rattle.std.proofs.lemmas.List.Elements.{All-map}
use Rattle.trace_unit.specs.WindowKept.{StepKept, step_emptied}
use Rattle.trace_unit.proofs.PlacesHeld.{p0s_emptied, saved_emptied}
use Rattle.trace_unit.proofs.places.Places.sync.Goals as goal

pub invariant_of-self : goal.invariant_of-self
invariant_of-self c =
    let depth = c.clear.new.self.depth in
    rw c.sync.ensures (All-map (λ (s : StepKept). length s.saved.stack ≤ depth) step_emptied c.self.inside.window.steps (λ k s within. omega arith))

pub returns : goal.returns
returns c =
    let p = c.self.inside in
    let steps = p.window.steps in
    rw (c.sync.ensures, ← c.self.view_is) (λ k. record {
      places = record {
        stack = c.clear.ensures.empty k;
        saved = saved_emptied steps k;
        needs = false;
        start = p.start;
        reader_context = c.args.ctx;
      };
      stack_depth = c.clear.ensures.depth k;
      window = record { p0s = p0s_emptied steps k; room = p.window.room; counts = p.window.counts };
    })
