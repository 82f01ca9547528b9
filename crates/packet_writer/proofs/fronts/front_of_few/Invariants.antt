use Rattle.packet_writer.proofs.Longest.{RowSoFar}
use Rattle.packet_writer.proofs.fronts.front_of_few.Given as goal

abbrev pub invariant-loop-atom : goal.invariant-loop-atom
invariant-loop-atom l = RowSoFar l.atoms l.atom-index l.row
