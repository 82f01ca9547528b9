use Rattle.std.proofs.Common.{ap, arith, subst, sym, refl, ◌∙◌}
use Rattle.std.proofs.lemmas.Result.{err_from_is_err_and}
use Rattle.std.specs.Prelude.{slice_get}
use Rattle.path_text.proofs.Wrote.{Wrote, fails_after, wrote_by, wrote_more}
use Rattle.spec_run.specs.Checks.{held_at}
use Rattle.spec_run.specs.Stands.{Kept}
use Rattle.retired_paths.specs.declared.retiring.Retiring.{Retiring}
use Rattle.retired_paths.proofs.RetiredSteps.{lines_all, lines_one, shown_one, stands_one, take_none, takes_few, takes_follow}
use Rattle.retired_paths.proofs.retiring.Retiring.print_oldest.Goals.{in-Some+in_ok-print_step, in_default}
use Rattle.retired_paths.proofs.retiring.Retiring.print_oldest.Goals as goal

pub print_step-requires-clause-follows : goal.print_step-requires-clause-follows
print_step-requires-clause-follows g c =
    let i = c.loop-k.invariant in
    let there = ap (λ (r : Kept). slice_get (held_at r.place) c.loop-k.k) (sym i.run) ∙ sym c.step_at.ensures ∙ c.in-Some.is in
    takes_follow c.args.self.now c.loop-k.self.path c.args.n c.loop-k.k (held_at c.args.self.now.run.place) c.in-Some.step c.requires i.path (omega arith) there

pub print_step-requires-clause-few : goal.print_step-requires-clause-few
print_step-requires-clause-few g c =
    let i = c.loop-k.invariant in
    let there = ap (λ (r : Kept). slice_get (held_at r.place) c.loop-k.k) (sym i.run) ∙ sym c.step_at.ensures ∙ c.in-Some.is in
    takes_few c.args.self.now c.loop-k.self.path c.args.n c.loop-k.k (held_at c.args.self.now.run.place) c.in-Some.step c.requires i.path (omega arith) there

pub returns-in_err-print_step-clause-lines : goal.returns-in_err-print_step-clause-lines
returns-in_err-print_step-clause-lines g c steps at =
    let p = err_from_is_err_and c.from_residual.result c.from_residual.ensures.1 in
    let i = c.loop-k.invariant in
    let there = ap (λ (r : Kept). slice_get (held_at r.place) c.loop-k.k) (sym i.run) ∙ sym c.step_at.ensures ∙ c.in-Some.is in
    let all = lines_all c.args.id c.args.self.now.shown c.loop-k.self.shown c.args.n c.loop-k.k (held_at c.args.self.now.run.place) steps c.in-Some.step
    (omega arith) there (i.shown steps at) in
    rw p.1 (fails_after _ _ _ c.in_err-print_step.field-0.0 p.0 _ _ all.0 _ all.1 (i.wrote steps at)
    (c.in_err-print_step.ensures.lines _ (i.path steps at)))

pub loop-k-preserved : goal.loop-k-preserved
loop-k-preserved g c =
    let i = c.loop-k.invariant in
    let state = g.K.Sink.state in
    let k = c.loop-k.k in
    let was = c.args.self.now in
    let held = held_at was.run.place in
    let looked = ap (λ (r : Kept). slice_get (held_at r.place) k) (sym i.run) ∙ sym c.step_at.ensures in
    elim c.match-step_at.branch [
      | in-Some+in_ok-print_step w ↦
          let step = w.in-Some.step in
          let there = looked ∙ w.in-Some.is in
          let done = w.in_ok-print_step.ensures in
          record {
            run = ap (λ (t : Retiring). t.run) w.self-is ∙ done.run.0 ∙ i.run;
            depth = ap (λ (t : Retiring). t.depth) w.self-is ∙ done.run.1 ∙ i.depth;
            path = λ steps at. rw w.self-is (stands_one w.print_step.new.self.path k held steps step there (done.path _ (i.path steps at)));
            shown = λ steps at. ap (λ (t : Retiring). t.shown) w.self-is
                ∙ shown_one was.shown c.loop-k.self.shown w.print_step.new.self.shown k held steps step there (i.shown steps at)
                (done.shown _ (i.path steps at) refl);
            wrote = λ steps at. rw w.out-is
                (subst (Wrote (state c.args.out.now) (state w.print_step.new.out))
                (lines_one c.args.id was.shown c.loop-k.self.shown k held steps step there (i.shown steps at))
                (wrote_more _ _ _ _ _ (i.wrote steps at) (wrote_by _ _ _ _ (done.lines _ (i.path steps at)))));
          }
      | in_default w ↦
          let same = take_none held k (looked ∙ w.in_default.is) in
          record {
            run = ap (λ (t : Retiring). t.run) w.self-is ∙ i.run;
            depth = ap (λ (t : Retiring). t.depth) w.self-is ∙ i.depth;
            path = λ steps at. rw (w.self-is, same) (i.path steps at);
            shown = λ steps at. rw (w.self-is, same) (i.shown steps at);
            wrote = λ steps at. rw (w.out-is, same) (i.wrote steps at);
          }
    ]
