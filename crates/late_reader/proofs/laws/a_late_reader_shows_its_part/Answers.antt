use Rattle.late_reader.proofs.Whole.{late_shows}
use Rattle.late_reader.proofs.laws.a_late_reader_shows_its_part.Goals as goal

pub returns : goal.returns
returns c = record { shows = late_shows }
