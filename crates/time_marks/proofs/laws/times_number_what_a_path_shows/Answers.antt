use Rattle.time_marks.proofs.Numbered.{times_number_paths}
use Rattle.time_marks.proofs.laws.times_number_what_a_path_shows.Goals as goal

pub returns : goal.returns
returns c = times_number_paths
