use Rattle.atom_formats.proofs.LowBits.{runs_differ}
use Rattle.atom_formats.proofs.laws.runs_differ_in_their_atoms.Goals as goal

pub returns : goal.returns
returns c = runs_differ
