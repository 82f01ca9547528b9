use Rattle.std.proofs.Common.{◌∙◌, ap, refl, rules}
use Rattle.a64_branches.specs.Offsets.{target}
use Rattle.spec_run.specs.Windows.{ctx_behind, place_of_standing}
use Rattle.spec_run.proofs.Windows.{made_of}
use Rattle.spec_run.proofs.standing.Standing.executed.Goals as goal
use Rattle.spec_run.proofs.standing.Standing.executed.Goals.{in-Plain-Step, in-Isb-Step, in-Jump-Taken, in-Cond-Taken, in-Cond-NotTaken}
use Rattle.spec_run.proofs.standing.Standing.executed.Goals.{in-Ind-To, in-Eret-Eret}

pub returns : goal.returns
returns c held =
    let here = c.args.self.now in
    let made = made_of (place_of_standing here held) in
    let step = c.step.ensures held in
    let ctx = c.ctx_behind.ensures in
    elim c.match-class.branch [
      | in-Plain-Step w ↦ rw (w.in-Plain-Step.is-0, w.in-Plain-Step.is-1)
          (made _ _ _ _ _ _ _ _ step (ctx ∙ ap (ctx_behind here.ctx) w.in-Plain-Step.is-1) w.kind-is refl)
      | in-Isb-Step w ↦ rw (w.in-Isb-Step.is-0, w.in-Isb-Step.is-1)
          (made _ _ _ _ _ _ _ _ step (ctx ∙ ap (ctx_behind here.ctx) w.in-Isb-Step.is-1) w.kind-is refl)
      | in-Jump-Taken w ↦ rw (w.in-Jump-Taken.is-0, w.in-Jump-Taken.is-1)
          (made _ _ _ _ _ _ _ _ step (ctx ∙ ap (ctx_behind here.ctx) w.in-Jump-Taken.is-1) w.kind-is
          (w.target.ensures.value ∙ ap (target here.pc) (search rules)))
      | in-Cond-Taken w ↦ rw (w.in-Cond-Taken.is-0, w.in-Cond-Taken.is-1)
          (made _ _ _ _ _ _ _ _ step (ctx ∙ ap (ctx_behind here.ctx) w.in-Cond-Taken.is-1) w.kind-is
          (w.target-in-Cond-Taken.ensures.value ∙ ap (target here.pc) (search rules)))
      | in-Cond-NotTaken w ↦ rw (w.in-Cond-NotTaken.is-0, w.in-Cond-NotTaken.is-1)
          (made _ _ _ _ _ _ _ _ step (ctx ∙ ap (ctx_behind here.ctx) w.in-Cond-NotTaken.is-1) w.kind-is refl)
      | in-Ind-To w ↦ rw (w.in-Ind-To.is-0, w.in-Ind-To.is-1)
          (made _ _ _ _ _ _ _ _ step (ctx ∙ ap (ctx_behind here.ctx) w.in-Ind-To.is-1) w.kind-is refl)
      | in-Eret-Eret w ↦ rw (w.in-Eret-Eret.is-0, w.in-Eret-Eret.is-1)
          (made _ _ _ _ _ _ _ _ step (ctx ∙ ap (ctx_behind here.ctx) w.in-Eret-Eret.is-1) w.kind-is refl)
    ]
