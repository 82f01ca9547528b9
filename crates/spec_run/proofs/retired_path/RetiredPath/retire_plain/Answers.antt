use Rattle.std.proofs.Common.{◌≡◌, ◌∙◌, ◌++◌, ◌+◌, ap, subst, sym}
use Rattle.spec_run.specs.ManySteps.{begun_behind_all, plain_steps}
use Rattle.spec_run.specs.Stands.{OpenBlock, PathStandsAt}
use Rattle.spec_run.proofs.ManySteps.{begun_many, path_shows, path_stands, starts_before, starts_here}
use Rattle.spec_run.proofs.retired_path.RetiredPath.retire_plain.Goals as goal
use Rattle.spec_run.proofs.retired_path.RetiredPath.retire_plain.Goals.{else-self-eq0, then-self-eq0}

pub returns-clause-begun : goal.returns-clause-begun
returns-clause-begun c =
    let r = c.self.inside in
    let b : OpenBlock = record { first = r.first; start = r.start; plain = r.plain; ctx = r.ctx } in
    let there = begun_behind_all b (plain_steps c.args.addr c.args.ctx c.args.n) in
    let o = c.if-self-eq0.self-inside in
    let now : OpenBlock = record { first = o.first; start = o.start; plain = o.plain + c.from.result; ctx = c.args.ctx } in
    let same : now ≡ there = elim c.if-self-eq0.branch [
      | then-self-eq0 w ↦
          rw w.self-inside-is (begun_many b c.args.addr c.args.addr c.from.result c.args.ctx c.args.n c.if-n-eq0.false c.from.ensures
          (starts_here r.plain c.args.addr r.start w.if-self-eq0.true))
      | else-self-eq0 w ↦
          rw w.self-inside-is (begun_many b c.args.addr r.start c.from.result c.args.ctx c.args.n c.if-n-eq0.false c.from.ensures
          (starts_before r.plain c.args.addr r.start w.if-self-eq0.false))
    ] in
    same ∙ ap (λ (o : OpenBlock). begun_behind_all o (plain_steps c.args.addr c.args.ctx c.args.n)) c.self.view_is

pub returns-clause-stands : goal.returns-clause-stands
returns-clause-stands c steps at =
    subst (λ (o : OpenBlock). PathStandsAt o (steps ++ plain_steps c.args.addr c.args.ctx c.args.n)) (sym (returns-clause-begun c))
    (path_stands c.args.self.now c.args.addr c.args.ctx c.args.n steps c.requires.follows at)

pub returns-clause-shown : goal.returns-clause-shown
returns-clause-shown c steps = path_shows c.args.addr c.args.ctx c.args.n steps
