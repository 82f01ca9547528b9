use Rattle.element_queue.proofs.Runs.{inverted, none_to_flip}
use Rattle.element_queue.proofs.laws.a_flipped_atom_is_the_inverted_atom.Goals as goal

pub returns-clause-inverted : goal.returns-clause-inverted
returns-clause-inverted c = inverted

pub returns-clause-refused : goal.returns-clause-refused
returns-clause-refused c = none_to_flip
