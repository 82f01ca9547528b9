use Rattle.std.proofs.Common.{◌≡◌, ◌-◌, ◌≤◌, false, ap, sym, ◌∙◌, length}
use Rattle.std.proofs.lemmas.List.Elements.{All-drop}
use Rattle.spec_run.specs.Steps.{kept, newest}
use Rattle.trace_unit.specs.Effects.{counts_cancelled}
use Rattle.trace_unit.specs.Places.{Places, Saved, placed_back}
use Rattle.trace_unit.specs.WindowKept.{StepKept, saved_in}
use Rattle.trace_unit.proofs.PlacesHeld.{back_to, kept_map, oldest_fits, stays}
use Rattle.trace_unit.proofs.places.Places.cancel.Goals as goal

pub restore-requires : goal.restore-requires
restore-requires c =
    let p = c.self.inside in
    let steps = p.window.steps in
    let fits = All-drop (λ (s : StepKept). length s.saved.stack ≤ p.stack.depth) (length steps - c.args.n) steps c.self.invariant in
    rw (ap (λ (v : Saved). v.stack) c.oldest.view_is)
    (oldest_fits p.stack.depth (newest c.args.n steps) c.in-Some.oldest fits (sym c.in-Some.ensures.oldest))

pub returns-in-Some : goal.returns-in-Some
returns-in-Some c =
    let p = c.self.inside in
    let n = c.args.n in
    let steps = p.window.steps in
    let was : Places =
    record { stack = p.stack.addresses; saved = saved_in steps; needs = p.needs; start = p.start; reader_context = p.reader_context } in
    let is = c.oldest.view_is in
    let back : record {
      stack = c.restore.new.self.addresses;
      saved = saved_in (kept n steps);
      needs = false;
      start = c.oldest.inside.start;
      reader_context = c.oldest.inside.context;
    } ≡ placed_back was n =
    back_to was n steps c.in-Some.oldest (sym c.in-Some.ensures.oldest) (λ j. record {
      stack = (c.restore.ensures.addresses ∙ ap (λ (v : Saved). v.stack) is) j;
      saved = saved_in (kept n steps);
      needs = false;
      start = (ap (λ (v : Saved). v.start) is) j;
      reader_context = (ap (λ (v : Saved). v.context) is) j;
    }) in
    rw (c.in-Some.ensures.steps, ← c.self.view_is) (λ k. record {
      places = back k;
      stack_depth = c.restore.ensures.depth k;
      window = record { p0s = kept_map (λ (s : StepKept). s.p0) n steps k; room = p.window.room; counts = counts_cancelled n p.window.counts };
    })

pub returns-in_default : goal.returns-in_default
returns-in_default c =
    let p = c.self.inside in
    let n = c.args.n in
    let steps = p.window.steps in
    let was : Places =
    record { stack = p.stack.addresses; saved = saved_in steps; needs = p.needs; start = p.start; reader_context = p.reader_context } in
    rw (c.cancel.ensures.steps, ← c.self.view_is) (λ k. record {
      places = stays was n steps (sym c.cancel.ensures.oldest ∙ c.in_default.is) k;
      stack_depth = p.stack.depth;
      window = record { p0s = kept_map (λ (s : StepKept). s.p0) n steps k; room = p.window.room; counts = counts_cancelled n p.window.counts };
    })
