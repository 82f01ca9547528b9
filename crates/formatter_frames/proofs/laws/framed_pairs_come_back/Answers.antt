use Rattle.formatter_frames.proofs.RoundTrip.{pairs_again, nothing_left}
use Rattle.formatter_frames.proofs.Bytes.{framed_fits}
use Rattle.formatter_frames.proofs.laws.framed_pairs_come_back.Goals as goal

pub returns-clause-pairs : goal.returns-clause-pairs
returns-clause-pairs c = pairs_again

pub returns-clause-nothing_left : goal.returns-clause-nothing_left
returns-clause-nothing_left c = nothing_left

pub returns-clause-bytes : goal.returns-clause-bytes
returns-clause-bytes c = framed_fits
