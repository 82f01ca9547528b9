use Rattle.std.proofs.Common.{◌∷◌, []}
use Rattle.capture_streams.specs.Texts.{by_sizes}
use Rattle.capture_streams.proofs.Writing.{all_gained}
use Rattle.ring_capture.specs.Laid.{later_pairs}
use Rattle.ring_capture.proofs.GivenFrames.{none_gained}
use Rattle.ring_capture.proofs.wrapped.take_byte.Goals as goal

pub returns-in-None-clause-gains : goal.returns-in-None-clause-gains
returns-in-None-clause-gains g c t bytes stands =
    let k = c.args.unwrap.now.frames in let listing = by_sizes (g.S.Stream.listing c.args.shared.now) t in let a = g.K.Sink.state c.args.sink.now in
    all_gained (later_pairs k) listing bytes (c.args.byte ∷ []) a a tt
    (none_gained k listing bytes c.args.byte a (c.in-None.ensures.gains bytes stands.unwrap))
