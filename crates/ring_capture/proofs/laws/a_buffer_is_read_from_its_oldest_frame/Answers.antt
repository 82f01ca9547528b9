use Rattle.ring_capture.proofs.Oldest.{left_rotated, rotated_few, rotated_many, rotated_none}
use Rattle.ring_capture.specs.Laid.{later_grows, wrapped_laid_is}
use Rattle.ring_capture.proofs.laws.a_buffer_is_read_from_its_oldest_frame.Goals as goal

pub returns-clause-laid : goal.returns-clause-laid
returns-clause-laid c = wrapped_laid_is

pub returns-clause-grows : goal.returns-clause-grows
returns-clause-grows c = later_grows

pub returns-clause-left : goal.returns-clause-left
returns-clause-left c = left_rotated

pub returns-clause-length : goal.returns-clause-length
returns-clause-length c = rotated_many

pub returns-clause-from_the_first : goal.returns-clause-from_the_first
returns-clause-from_the_first c = rotated_none

pub returns-clause-few : goal.returns-clause-few
returns-clause-few c = rotated_few
