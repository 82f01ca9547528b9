use Rattle.capture_streams.specs.Demuxed.{raw_pairs}
use Rattle.formatter_frames.specs.Unframed.{unframed}
use Rattle.capture_streams.proofs.AlonePaths.{each_is_a_line, path_is_alone}
use Rattle.capture_streams.proofs.Parted.{frames_carry_on, raw_carries_on}
use Rattle.capture_streams.proofs.PathTexts.{fronts_of_paths_begin, one_text_of_paths, some_text_of_paths}
use Rattle.capture_streams.proofs.laws.paths_have_one_text.Goals as goal

pub returns-clause-one : goal.returns-clause-one
returns-clause-one c = one_text_of_paths

pub returns-clause-some : goal.returns-clause-some
returns-clause-some c = some_text_of_paths

pub returns-clause-framed : goal.returns-clause-framed
returns-clause-framed c = fronts_of_paths_begin unframed frames_carry_on

pub returns-clause-raw : goal.returns-clause-raw
returns-clause-raw c = fronts_of_paths_begin raw_pairs raw_carries_on

pub returns-clause-alone : goal.returns-clause-alone
returns-clause-alone c = path_is_alone

pub returns-clause-lines : goal.returns-clause-lines
returns-clause-lines c = each_is_a_line
