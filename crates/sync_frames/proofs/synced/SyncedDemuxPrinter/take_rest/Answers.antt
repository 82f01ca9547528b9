use Rattle.std.proofs.Common.{◌++◌, ap, sym, subst, ◌∙◌}
use Rattle.capture_streams.specs.Texts.{by_sizes}
use Rattle.sync_frames.specs.Synchronised.{IsAfter, Synchronised}
use Rattle.sync_frames.specs.Unsyncing.{StandsAt}
use Rattle.sync_frames.proofs.Taking.{rests_of}
use Rattle.sync_frames.proofs.synced.SyncedDemuxPrinter.take_rest.Goals as goal

pub returns-clause-rests : goal.returns-clause-rests
returns-clause-rests g c t bytes after =
    let there = g.S.Stream.stands c.args.shared.now in
    let taken = (subst (λ (s : Synchronised g.row.S.Denot g.row.S-Sum.Denot). IsAfter there g.S.Stream.sizes (g.S.Stream.sums c.args.shared.now) (g.S.Stream.listing c.args.shared.now) t s bytes) (sym c.self.view_is) after).0 in
    let unsync = subst (λ u. StandsAt u bytes taken.given) (sym c.replace.ensures.value) taken.unsync in
    rests_of (by_sizes (g.S.Stream.listing c.args.shared.now) t) c.replace.result bytes taken.given c.as_slice.result.now
    (g.K.Sink.state c.args.sink.now) (g.K.Sink.state c.take_piece.new.sink) c.take_piece.result unsync
    (c.finish-rest.ensures.all bytes taken.given unsync ∙ ap (λ l. taken.given ++ l) (sym c.as_slice.ensures))
    (c.take_piece.ensures.gains t taken.given taken.demux)
