use Rattle.std.proofs.Common.{◌≡◌, ◌+◌, ◌-◌, ◌≤◌, take}
use Rattle.trace_unit.specs.Whole.{wrote_all}
use Rattle.trace_unit.proofs.put_off.PutOff.count_atoms.Given as goal

abbrev pub invariant-loop : goal.invariant-loop
invariant-loop l =
    record {
      is : l.self ≡ wrote_all l.settings.depth (take l.counter l.fn.self.atoms) l.fn.self;
      held : l.self.held ≤ l.settings.depth;
      place : l.self.held + (l.count - l.counter) ≤ l.settings.depth + l.self.commits;
    }
