use Rattle.std.proofs.Common.{◌≡◌, ◌<◌, ℕ, [], ◌∷◌, drop, false, true, None}
use Rattle.std.specs.Prelude.{All}
use Rattle.etm_types.specs.declared.element.Elem.TheVariants as elem
use Rattle.time_marks.proofs.Going.{Along}
use Rattle.time_marks.specs.Marked.{IsInfo, IsMarked}
use Rattle.time_marks.specs.Timed.{IsAt}
use Rattle.time_marks.specs.Times.{Times}
use Rattle.time_marks.proofs.timeline.Timeline.take_elements.Given as goal
use Rattle.trace_io.specs.Bytes.{ShowsAsBefore}
use Rattle.trace_io.specs.Causes.{KeepsFaults}

abbrev pub invariant-loop-next : goal.invariant-loop-next
invariant-loop-next g l =
    let state = g.K.Sink.state in
    record {
      along : (t : Times) → IsAt l.fn.self t → t.stamp ≡ l.place.stamp
          → Along l.place.id l.fn.self.queue.depth l.place.at t l.elems l.self (drop l.next l.elems) (state l.fn.sink) (state l.sink);
      begins : l.self.queue.pending.informed ≡ false → All IsInfo l.elems;
      same : l.next ≡ 0 → l.self.queue ≡ l.fn.self.queue;
      stays : l.fn.self.queue.pending.informed ≡ true → l.self.queue.pending.informed ≡ true;
      informs : (spec : ℕ) → l.elems ≡ elem.Info spec ∷ [] → 0 < l.next → l.self.fault ≡ None → l.self.queue.pending.informed ≡ true;
      depth : l.self.queue.depth ≡ l.fn.self.queue.depth;
      holds : IsMarked l.fn.self.queue → IsMarked l.self.queue;
      kept : KeepsFaults (state l.fn.sink) (state l.sink);
      shows : ShowsAsBefore (state l.fn.sink) (state l.sink);
    }
