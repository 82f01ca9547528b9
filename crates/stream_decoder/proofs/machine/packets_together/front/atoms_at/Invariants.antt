use Rattle.std.proofs.Common.{◌≡◌, ◌^◌, ◌<◌, ◌≤◌, ◌++◌, List, ℕ, length}
use Rattle.etm_types.specs.Atoms.{atoms_in, most_atoms}
use Rattle.stream_decoder.specs.AtomPackets.{TellAtoms}
use Rattle.stream_decoder.proofs.machine.packets_together.front.atoms_at.Given as goal

abbrev pub invariant-loop-byte : goal.invariant-loop-byte
invariant-loop-byte l = record {
  front : (text : List ℕ) × (l.bytes ≡ text ++ l.rest) × TellAtoms text (atoms_in l.run);
  few : l.run.count ≤ most_atoms;
  fits : l.run.bits < 2 ^ l.run.count;
}

abbrev pub decreases-loop-byte : goal.decreases-loop-byte
decreases-loop-byte l = length l.rest
