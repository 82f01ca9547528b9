use Rattle.std.proofs.Common.{◌≡◌, List, ◌++◌}
use Rattle.std.specs.List.{concat}
use Rattle.path_text.proofs.Wrote.{Wrote}
use Rattle.time_marks.specs.Marked.{IsMarked, less, out_first}
use Rattle.time_marks.specs.Stamps.{Stamp}
use Rattle.time_marks.specs.TimeLines.{mark_lines, shown_of, time_lines}
use Rattle.time_marks.proofs.timeline.commit_oldest.Given as goal
use Rattle.trace_io.specs.Bytes.{ShowsAsBefore}
use Rattle.trace_io.specs.Causes.{KeepsFaults}

abbrev pub invariant-loop : goal.invariant-loop
invariant-loop g l =
    let state = g.K.Sink.state in
    record {
      rest : l.queue ≡ less l.fn.queue l.counter;
      shown : (done : List Stamp) → l.fn.shown ≡ shown_of done → l.shown ≡ shown_of (done ++ out_first l.fn.queue l.counter);
      wrote : (done : List Stamp) → l.fn.shown ≡ shown_of done
          → Wrote (state l.fn.sink) (state l.sink) (concat (time_lines l.id (mark_lines done (out_first l.fn.queue l.counter))));
      holds : IsMarked l.queue;
      kept : KeepsFaults (state l.fn.sink) (state l.sink);
      shows : ShowsAsBefore (state l.fn.sink) (state l.sink);
    }
