use Rattle.answer_laws.proofs.Back.{reads_back}
use Rattle.answer_laws.proofs.read_back.what_was_traced_is_read_back.Goals as goal

pub returns : goal.returns
returns c = reads_back
