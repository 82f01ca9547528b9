use Rattle.std.proofs.Common.{rules, ◌≡◌, ◌+◌, ◌++◌, ◌∷◌, [], None, false, ap, subst, ◌∙◌}
use Rattle.etm_types.specs.declared.walked.Walked.{Walked}
use Rattle.spec_run.proofs.PathTaken.{shows_behind, shows_block, stands_behind}
use Rattle.spec_run.specs.RetiredItems.{stretch_items}
use Rattle.spec_run.specs.Stands.{OpenBlock, PathStandsAt, items_shown, shown_by}
use Rattle.spec_run.proofs.retired_path.RetiredPath.retire.Goals as goal

pub returns-then-not-is_p0-clause-stands : goal.returns-then-not-is_p0-clause-stands
returns-then-not-is_p0-clause-stands c = λ steps at.
    subst (λ (b : OpenBlock). PathStandsAt b (steps ++ c.args.step.now ∷ [])) (search rules)
    (stands_behind c.args.self.now c.args.step.now steps c.requires.follows at)

pub returns-then-not-is_p0-clause-shown : goal.returns-then-not-is_p0-clause-shown
returns-then-not-is_p0-clause-shown c = λ steps at.
    let none : shown_by c.args.self.now c.args.step.now ≡ None = search rules in
    shows_behind c.args.self.now c.args.step.now steps c.requires.follows at ∙ ap (λ shown. stretch_items steps ++ items_shown shown) none

pub returns-clause-stands : goal.returns-clause-stands
returns-clause-stands c = λ steps at.
    subst (λ (b : OpenBlock). PathStandsAt b (steps ++ c.args.step.now ∷ [])) (search rules)
    (stands_behind c.args.self.now c.args.step.now steps c.requires.follows at)

pub returns-clause-shown : goal.returns-clause-shown
returns-clause-shown c = λ steps at.
    let block : Walked = record {
      on = c.self.inside.first;
      unknown = false;
      ctx = c.args.step.now.ctx;
      start = c.if-self-eq0.start;
      count = c.self.inside.plain + c.match-step.instruction.0;
      took = c.took.result;
      exc = c.match-step.instruction.1;
    } in
    shows_block c.args.self.now c.args.step.now steps block c.requires.follows at (search rules)
