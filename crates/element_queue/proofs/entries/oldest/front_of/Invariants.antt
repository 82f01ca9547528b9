use Rattle.std.proofs.Common.{◌≡◌, ◌<◌, ◌++◌, drop, length, map}
use Rattle.etm_types.specs.Atoms.{most_atoms}
use Rattle.element_queue.specs.Kept.{entries_in}
use Rattle.element_queue.specs.Queued.{plain_entry}
use Rattle.element_queue.proofs.entries.oldest.front_of.Given as goal

abbrev pub invariant-loop-i : goal.invariant-loop-i
invariant-loop-i l =
    record {
      split : entries_in (drop l.first l.runs.items) l.plain ≡ map plain_entry l.front ++ entries_in (drop l.i l.runs.items) l.plain;
      few : length l.front < most_atoms;
    }
