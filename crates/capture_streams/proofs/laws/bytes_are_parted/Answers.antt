use Rattle.capture_streams.proofs.Parted.{bytes_join, raw_is_of_no_other, raw_is_of_one, zeros_are_of_none}
use Rattle.capture_streams.proofs.laws.bytes_are_parted.Goals as goal

pub returns-clause-joined : goal.returns-clause-joined
returns-clause-joined c = bytes_join

pub returns-clause-zeros : goal.returns-clause-zeros
returns-clause-zeros c = zeros_are_of_none

pub returns-clause-raw : goal.returns-clause-raw
returns-clause-raw c = raw_is_of_one

pub returns-clause-other : goal.returns-clause-other
returns-clause-other c = raw_is_of_no_other
