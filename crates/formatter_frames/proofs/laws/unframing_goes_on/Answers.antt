use Rattle.std.proofs.Common.{◌++◌, arith}
use Rattle.formatter_frames.specs.Symbols.{pairs_of}
use Rattle.formatter_frames.specs.Unframed.{symbols_of_frames, id_after_frames, begun_frame}
use Rattle.formatter_frames.proofs.Pieces.{length-left_over}
use Rattle.formatter_frames.proofs.Going.{begun_pairs, begun_id, begun_left, frame_pairs, frame_id, frame_left, more_pairs}
use Rattle.formatter_frames.proofs.Ranges.{unframed_fits}
use Rattle.formatter_frames.proofs.laws.unframing_goes_on.Goals as goal

pub returns-clause-frame : goal.returns-clause-frame
returns-clause-frame c = frame_pairs

pub returns-clause-current : goal.returns-clause-current
returns-clause-current c = frame_id

pub returns-clause-none_left : goal.returns-clause-none_left
returns-clause-none_left c = frame_left

pub returns-clause-begun : goal.returns-clause-begun
returns-clause-begun c = λ bytes more few. (begun_pairs bytes more few, begun_id bytes more few)

pub returns-clause-left : goal.returns-clause-left
returns-clause-left c = begun_left

pub returns-clause-grows : goal.returns-clause-grows
returns-clause-grows c = λ bytes more. (pairs_of (id_after_frames bytes) (symbols_of_frames (begun_frame bytes ++ more)), more_pairs bytes more)

pub returns-clause-few : goal.returns-clause-few
returns-clause-few c = λ bytes. omega (arith, length-left_over 16 bytes)

pub returns-clause-ranges : goal.returns-clause-ranges
returns-clause-ranges c = unframed_fits
