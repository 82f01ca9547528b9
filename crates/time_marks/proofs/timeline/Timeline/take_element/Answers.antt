use Rattle.std.proofs.Common.{[], refl, sym, ap, ◌∙◌, append-nil}
use Rattle.path_text.proofs.Wrote.{wrote_nothing, writes_all}
use Rattle.time_marks.proofs.Going.{info_informs, stays_informed}
use Rattle.time_marks.proofs.Steps.{moved_lines, moved_to}
use Rattle.time_marks.specs.Stamps.{Stamp}
use Rattle.time_marks.specs.TimeLines.{shown_of}
use Rattle.time_marks.specs.declared.timeline.Timeline.{Timeline}
use Rattle.time_marks.proofs.timeline.Timeline.take_element.Goals as goal
use Rattle.trace_io.specs.declared.traits.Failed.{Failed}

pub returns-in_default-take : goal.returns-in_default-take
returns-in_default-take g c =
    let a = g.K.Sink.state c.args.sink.now in let l = c.args.self.now in let e = c.args.elem.now in let ensures = c.in_default-take.ensures in
    let moves = λ (stamp : Stamp). ensures.ok refl stamp in
    let written = writes_all {E = Failed} a a tt [] (wrote_nothing a) in
    let l' : Timeline = record l { queue = c.take.new.self } in
    record {
      prints = λ t is stamp.
          let shown = is.marks.shown ∙ ap shown_of (sym (append-nil t.done)) in (
            record { more = []; grows = moved_lines l t c.args.place.now.at e is.marks is.fault l' [] (moves t.stamp) shown refl; writes = written },
            λ ok. moved_to l t c.args.place.now.at e is.marks is.fault l' [] (moves t.stamp) shown refl,
          );
      stays = stays_informed l.queue c.take.new.self c.args.place.now.stamp e [] (moves c.args.place.now.stamp);
      informs = λ info none. info_informs l.queue c.take.new.self c.args.place.now.stamp e [] (moves c.args.place.now.stamp) info;
      depth = (moves c.args.place.now.stamp).depth;
      holds = ensures.holds;
      serves = record { shows = refl; cause = written.cause };
    }
