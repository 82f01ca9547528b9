use Rattle.capture_streams.specs.Demuxed.{raw_pairs}
use Rattle.formatter_frames.specs.Unframed.{unframed}
use Rattle.capture_streams.proofs.Parted.{frames_carry_on, raw_carries_on}
use Rattle.time_marks.proofs.Texts.{each_time_is_a_line, fronts_of_times_begin, one_text_of_times, some_text_of_times, times_are_alone}
use Rattle.time_marks.proofs.laws.times_have_one_text.Goals as goal

pub returns-clause-one : goal.returns-clause-one
returns-clause-one c = one_text_of_times

pub returns-clause-some : goal.returns-clause-some
returns-clause-some c = some_text_of_times

pub returns-clause-framed : goal.returns-clause-framed
returns-clause-framed c = fronts_of_times_begin unframed frames_carry_on

pub returns-clause-raw : goal.returns-clause-raw
returns-clause-raw c = fronts_of_times_begin raw_pairs raw_carries_on

pub returns-clause-alone : goal.returns-clause-alone
returns-clause-alone c = times_are_alone

pub returns-clause-lines : goal.returns-clause-lines
returns-clause-lines c = each_time_is_a_line
