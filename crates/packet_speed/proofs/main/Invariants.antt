use Rattle.std.proofs.Common.{◌≤◌, ◌-◌}
use Rattle.packet_speed.specs.declared.TheConstants.{LIMIT}
use Rattle.packet_speed.proofs.main.Given as goal

abbrev pub invariant-loop-reader : goal.invariant-loop-reader
invariant-loop-reader l = l.packets ≤ l.reader.offset

abbrev pub decreases-loop-reader : goal.decreases-loop-reader
decreases-loop-reader l = LIMIT - l.reader.offset
