use Rattle.std.proofs.Common.{◌≡◌, ◌++◌, List, take}
use Rattle.path_text.proofs.Wrote.{Wrote}
use Rattle.path_text.specs.PathLines.{lines_of, shown_after_all}
use Rattle.spec_run.specs.Checks.{held_at}
use Rattle.spec_run.specs.RetiredItems.{items_behind}
use Rattle.spec_run.specs.Stands.{PathStandsAt}
use Rattle.spec_run.specs.declared.step.RunStep.{RunStep}
use Rattle.retired_paths.proofs.retiring.Retiring.print_oldest.Given as goal

abbrev pub invariant-loop-k : goal.invariant-loop-k
invariant-loop-k g l =
    let state = g.K.Sink.state in
    let held = held_at l.fn.self.run.place in
    record {
      run : l.self.run ≡ l.fn.self.run;
      depth : l.self.depth ≡ l.fn.self.depth;
      path : (steps : List RunStep) → PathStandsAt l.fn.self.path steps → PathStandsAt l.self.path (steps ++ take l.k held);
      shown : (steps : List RunStep) → PathStandsAt l.fn.self.path steps → l.self.shown ≡ shown_after_all l.fn.self.shown (items_behind steps (take l.k held));
      wrote : (steps : List RunStep) → PathStandsAt l.fn.self.path steps
          → Wrote (state l.fn.out) (state l.out) (lines_of l.fn.id l.fn.self.shown (items_behind steps (take l.k held)));
    }
