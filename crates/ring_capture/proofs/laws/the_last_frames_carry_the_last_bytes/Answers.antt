use Rattle.ring_capture.proofs.LastOfEach.{each_ends, ends_behind, last_framed}
use Rattle.ring_capture.proofs.MissingFrames.{any_end}
use Rattle.ring_capture.proofs.laws.the_last_frames_carry_the_last_bytes.Goals as goal

pub returns-clause-any : goal.returns-clause-any
returns-clause-any c = any_end

pub returns-clause-framed : goal.returns-clause-framed
returns-clause-framed c = last_framed

pub returns-clause-each : goal.returns-clause-each
returns-clause-each c = each_ends

pub returns-clause-left : goal.returns-clause-left
returns-clause-left c = ends_behind
