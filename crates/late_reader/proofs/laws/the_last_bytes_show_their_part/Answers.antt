use Rattle.late_reader.proofs.Capture.{last_shown, none_shown}
use Rattle.late_reader.proofs.laws.the_last_bytes_show_their_part.Goals as goal

pub returns-clause-shown : goal.returns-clause-shown
returns-clause-shown c = last_shown

pub returns-clause-none : goal.returns-clause-none
returns-clause-none c = none_shown
