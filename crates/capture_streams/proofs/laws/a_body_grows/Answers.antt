use Rattle.capture_streams.specs.Demuxed.{raw_pairs}
use Rattle.formatter_frames.specs.Unframed.{unframed}
use Rattle.capture_streams.proofs.Bodies.{body-append, body_parts}
use Rattle.capture_streams.proofs.Parted.{frames_carry_on, fronts_begin, raw_carries_on}
use Rattle.capture_streams.proofs.Sums.{added-append}
use Rattle.capture_streams.specs.Texts.{by_sizes}
use Rattle.capture_streams.proofs.laws.a_body_grows.Goals as goal

pub returns-clause-join : goal.returns-clause-join
returns-clause-join g c shared t = body-append (by_sizes (g.S.Stream.listing shared) t)

pub returns-clause-part : goal.returns-clause-part
returns-clause-part g c shared t = body_parts (by_sizes (g.S.Stream.listing shared) t)

pub returns-clause-framed : goal.returns-clause-framed
returns-clause-framed g c shared t = fronts_begin unframed (by_sizes (g.S.Stream.listing shared) t) frames_carry_on

pub returns-clause-raw : goal.returns-clause-raw
returns-clause-raw g c shared t = fronts_begin raw_pairs (by_sizes (g.S.Stream.listing shared) t) raw_carries_on

pub returns-clause-sums : goal.returns-clause-sums
returns-clause-sums g c shared t = added-append (by_sizes (g.S.Stream.listing shared) t)
