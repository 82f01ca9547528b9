use Rattle.std.proofs.Common.{◌≤◌, false, length}
use Rattle.trace_unit.specs.WindowKept.{StepKept, turn_step}
use Rattle.trace_unit.proofs.PlacesHeld.{p0s_turned, saved_turned}
use Rattle.trace_unit.proofs.WindowHeld.{at_newest_all}
use Rattle.trace_unit.proofs.places.Places.flip.Goals as goal

pub invariant_of-self : goal.invariant_of-self
invariant_of-self c =
    let p = c.self.inside in
    rw c.flip.ensures (at_newest_all (λ (s : StepKept). length s.saved.stack ≤ p.stack.depth) turn_step (λ s few. few) p.window.steps c.self.invariant)

pub returns : goal.returns
returns c =
    let p = c.self.inside in
    let steps = p.window.steps in
    rw (c.flip.ensures, ← c.self.view_is) (λ k. record {
      places = record {
        stack = p.stack.addresses;
        saved = saved_turned steps k;
        needs = false;
        start = c.args.pc;
        reader_context = p.reader_context;
      };
      stack_depth = p.stack.depth;
      window = record { p0s = p0s_turned steps k; room = p.window.room; counts = p.window.counts };
    })
