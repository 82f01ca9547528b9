use Rattle.std.proofs.Common.{◌≡◌, ◌+◌, ◌≤◌}
use Rattle.packet_speed.proofs.packets_in.Given as goal

abbrev pub invariant-loop-byte : goal.invariant-loop-byte
invariant-loop-byte l = (l.reader.offset ≡ l.fn.reader.offset + l.byte-index) × (l.packets ≤ l.byte-index)
