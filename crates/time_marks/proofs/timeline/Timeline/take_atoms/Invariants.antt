use Rattle.std.proofs.Common.{◌≡◌, drop, true, None}
use Rattle.etm_types.specs.Atoms.{atoms_in}
use Rattle.path_elements.specs.Elements.{atoms}
use Rattle.time_marks.proofs.Going.{Along}
use Rattle.time_marks.specs.Marked.{IsMarked}
use Rattle.time_marks.specs.Timed.{IsAt}
use Rattle.time_marks.specs.Times.{Times}
use Rattle.time_marks.proofs.timeline.Timeline.take_atoms.Given as goal
use Rattle.trace_io.specs.Bytes.{ShowsAsBefore}
use Rattle.trace_io.specs.Causes.{KeepsFaults}

abbrev pub invariant-loop-next : goal.invariant-loop-next
invariant-loop-next g l =
    let state = g.K.Sink.state in
    record {
      along : (t : Times) → IsAt l.fn.self t → t.stamp ≡ l.place.stamp
          → Along l.place.id l.fn.self.queue.depth l.place.at t (atoms (atoms_in l.run)) l.self (drop l.next (atoms (atoms_in l.run)))
          (state l.fn.sink) (state l.sink);
      whole : l.self.fault ≡ None;
      informed : l.self.queue.pending.informed ≡ true;
      depth : l.self.queue.depth ≡ l.fn.self.queue.depth;
      holds : IsMarked l.fn.self.queue → IsMarked l.self.queue;
      kept : KeepsFaults (state l.fn.sink) (state l.sink);
      shows : ShowsAsBefore (state l.fn.sink) (state l.sink);
    }
