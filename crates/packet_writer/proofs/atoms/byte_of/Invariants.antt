use Rattle.packet_writer.proofs.Runs.{NoneBelow}
use Rattle.packet_writer.proofs.atoms.byte_of.Given as goal

abbrev pub invariant-loop-byte : goal.invariant-loop-byte
invariant-loop-byte l = NoneBelow l.byte l.run
