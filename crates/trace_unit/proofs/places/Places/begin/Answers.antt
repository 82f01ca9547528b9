use Rattle.std.proofs.Common.{false, ap, ◌∙◌}
use Rattle.trace_unit.specs.PlacesKept.{PlacesKept}
use Rattle.trace_unit.specs.WindowKept.{p0s_in}
use Rattle.trace_unit.proofs.PlacesHeld.{none_saved}
use Rattle.trace_unit.proofs.places.Places.begin.Goals as goal

pub returns : goal.returns
returns c =
    let p = c.self.inside in
    let none = none_saved p.window.steps (ap (λ (k : PlacesKept). k.window.p0s) c.self.view_is ∙ c.requires) in
    rw (← c.self.view_is) (λ k. record {
      places = record { stack = c.clear.ensures.empty k; saved = none k; needs = false; start = c.args.addr; reader_context = c.args.ctx };
      stack_depth = c.clear.ensures.depth k;
      window = record { p0s = p0s_in p.window.steps; room = p.window.room; counts = p.window.counts };
    })
