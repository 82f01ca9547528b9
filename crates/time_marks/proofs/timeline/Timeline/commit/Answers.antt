use Rattle.std.proofs.Common.{◌++◌, refl, sym, subst}
use Rattle.etm_types.specs.declared.element.Elem.TheVariants as elem
use Rattle.time_marks.proofs.Steps.{commit_moves, moved_lines, moved_to}
use Rattle.time_marks.specs.Marked.{Marked, Moves, less, out_first}
use Rattle.time_marks.specs.TimeLines.{mark_lines, shown_of}
use Rattle.time_marks.proofs.timeline.Timeline.commit.Goals as goal

pub returns-clause-prints : goal.returns-clause-prints
returns-clause-prints g c t is =
    let l = c.args.self.now in let n = c.args.n in let m = l.queue in let out = out_first m n in
    let moves = commit_moves m n t.stamp (c.in_default.ensures.ok refl) in let e = elem.Commit n in let at = c.args.place.now.at in (
      record {
        more = mark_lines t.done out;
        grows = moved_lines l t at e is.marks is.fault (record { queue = less m n; shown = shown_of (t.done ++ out); fault = l.fault }) out moves refl refl;
        writes = c.commit_oldest.ensures.prints t.done is.marks.shown;
      },
      λ ok.
          let rest = c.commit_oldest.ensures.rest ok in
          moved_to l t at e is.marks is.fault (record { queue = c.commit_oldest.new.queue; shown = c.commit_oldest.new.shown; fault = l.fault }) out
          (subst (λ (x : Marked). Moves m t.stamp e out x) (sym rest) moves) (c.commit_oldest.ensures.shown ok t.done is.marks.shown) refl,
    )
