use Rattle.std.proofs.Common.{ap, length, subst, sym}
use Rattle.capture_streams.specs.Demuxed.{StandsAt}
use Rattle.capture_streams.specs.Texts.{IsEnding, by_sizes}
use Rattle.formatter_frames.specs.Unframed.{unframed}
use Rattle.ring_capture.specs.Rotated.{rotated}
use Rattle.ring_capture.specs.Wrapped.{Wrapped}
use Rattle.ring_capture.proofs.Oldest.{left_rotated}
use Rattle.ring_capture.proofs.wrapped.WrappedDemuxPrinter.finish.Goals as goal

pub returns-clause-ending : goal.returns-clause-ending
returns-clause-ending g c t bytes ended =
    let shared = c.args.shared.now in let k = c.args.self.unwrap.frames in
    let listing = by_sizes (g.S.Stream.listing shared) t in
    let stands =
    subst (λ (w : Wrapped g.row.S.Denot g.row.S-Sum.Denot).
    StandsAt (g.S.Stream.stands shared) g.S.Stream.sizes (g.S.Stream.sums shared) (g.S.Stream.listing shared) t w.demux (rotated k bytes))
    (sym c.self.view_is) ended in
    let e = c.finish.ensures.ending t (rotated k bytes) stands in (
      e.0,
      e.1,
      subst (λ n. IsEnding listing (unframed (rotated k bytes)) n e.0 e.1) (ap length (left_rotated k bytes)) e.2,
      e.3,
      e.4,
    )
