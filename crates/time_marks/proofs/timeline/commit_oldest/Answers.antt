use Rattle.std.proofs.Common.{◌≡◌, ◌++◌, Result, Ok, Err, ap, subst, ◌∙◌, arith}
use Rattle.std.specs.List.{concat}
use Rattle.capture_streams.proofs.Standing.{by_err}
use Rattle.path_text.specs.Writing.{Writes}
use Rattle.time_marks.proofs.Going.{committed_fails, committed_more}
use Rattle.time_marks.proofs.Steps.{less_more, shown_more}
use Rattle.time_marks.specs.Marked.{Marked, less, out_first}
use Rattle.time_marks.specs.TimeLines.{mark_lines, shown_of, time_lines}
use Rattle.time_marks.proofs.timeline.commit_oldest.Goals as goal
use Rattle.trace_io.specs.declared.traits.Failed.{Failed}

pub returns-in_err-commit_one-clause-prints : goal.returns-in_err-commit_one-clause-prints
returns-in_err-commit_one-clause-prints g c done is =
    let state = g.K.Sink.state in let i = c.loop.invariant in let m = c.args.queue.now in let n = c.loop.counter in let id = c.args.id in
    let a = state c.args.sink.now in let b = state c.loop.sink in let d = state c.commit_one.new.sink in
    by_err (λ (r : Result (Unit {0}) Failed). Writes a d r (concat (time_lines id (mark_lines done (out_first m c.args.n))))) c.from_residual.result
    c.from_residual.ensures.0 (λ e.
    committed_fails id m n done a b d (i.wrote done is) {T = Unit {0}} {U = Unit {0}} c.in_err-commit_one.field-0.0 e c.args.n (omega (arith, c.loop-test.true))
    (subst (λ (x : Marked). Writes {T = Unit {0}} b d (Err c.in_err-commit_one.field-0.0) (concat (time_lines id (mark_lines (done ++ out_first m n) (out_first x 1)))))
    i.rest (c.in_err-commit_one.ensures.writes (done ++ out_first m n) (i.shown done is))))

pub loop-preserved : goal.loop-preserved
loop-preserved g c =
    let state = g.K.Sink.state in let i = c.loop.invariant in let m = c.args.queue.now in let n = c.loop.counter in let id = c.args.id in
    let a = state c.args.sink.now in let b = state c.loop.sink in let d = state c.commit_one.new.sink in
    let e = c.in_ok-commit_one.ensures in
    record {
      rest = e.rest ∙ ap (λ (x : Marked). less x 1) i.rest ∙ less_more m n;
      shown = λ done is.
          shown_more m n done c.commit_one.new.shown
          (subst (λ (x : Marked). c.commit_one.new.shown ≡ shown_of ((done ++ out_first m n) ++ out_first x 1)) i.rest
          (e.shown (done ++ out_first m n) (i.shown done is)));
      wrote = λ done is.
          committed_more id m n done a b d (i.wrote done is) {E = Failed} c.in_ok-commit_one.field-0
          (subst (λ (x : Marked). Writes {T = Unit {0}} {E = Failed} b d (Ok c.in_ok-commit_one.field-0) (concat (time_lines id (mark_lines (done ++ out_first m n) (out_first x 1)))))
          i.rest (e.writes (done ++ out_first m n) (i.shown done is)));
      holds = e.holds;
      kept = e.serves.cause.kept ∙ i.kept;
      shows = e.serves.shows ∙ i.shows;
    }
