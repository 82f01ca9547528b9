use Rattle.std.proofs.Common.{length}
use Rattle.stream_decoder.proofs.AtomBytes.{IsOnTheWay}
use Rattle.stream_decoder.proofs.machine.packets_together.front.read_until.Given as goal

abbrev pub invariant-loop-byte : goal.invariant-loop-byte
invariant-loop-byte l = IsOnTheWay l.fn.reader l.bytes l.n l.left l.rest l.reader

abbrev pub decreases-loop-byte : goal.decreases-loop-byte
decreases-loop-byte l = length l.rest
