use Rattle.time_marks.proofs.Own.{marks_are_own}
use Rattle.time_marks.proofs.laws.marks_are_those_of_p0_elements.Goals as goal

pub returns : goal.returns
returns c = marks_are_own
