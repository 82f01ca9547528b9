use Rattle.std.proofs.Common.{sym, subst}
use Rattle.capture_streams.specs.Demuxed.{StandsAt}
use Rattle.ring_capture.specs.Rotated.{later_frames}
use Rattle.ring_capture.specs.Wrapped.{Wrapped}
use Rattle.ring_capture.proofs.wrapped.WrappedDemuxPrinter.close.Goals as goal

pub returns-clause-sum : goal.returns-clause-sum
returns-clause-sum g c t bytes given =
    let shared = c.args.shared.now in let later = later_frames c.args.self.unwrap.frames bytes in
    let taken = subst (λ (w : Wrapped g.row.S.Denot g.row.S-Sum.Denot).
    StandsAt (g.S.Stream.stands shared) g.S.Stream.sizes (g.S.Stream.sums shared) (g.S.Stream.listing shared) t w.demux later)
    (sym c.self.view_is) given.demux in
    c.close.ensures.sum t later taken
