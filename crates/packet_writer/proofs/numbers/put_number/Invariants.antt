use Rattle.packet_writer.proofs.Digits.{Putting}
use Rattle.packet_writer.proofs.numbers.put_number.Given as goal

abbrev pub decreases-loop-rest : goal.decreases-loop-rest
decreases-loop-rest l = l.rest

abbrev pub invariant-loop-rest : goal.invariant-loop-rest
invariant-loop-rest l = Putting l.fn.out l.out l.n l.rest
