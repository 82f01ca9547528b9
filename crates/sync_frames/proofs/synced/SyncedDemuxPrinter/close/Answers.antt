use Rattle.std.proofs.Common.{sym, subst}
use Rattle.capture_streams.specs.Texts.{IsSum, by_sizes}
use Rattle.sync_frames.specs.Synchronised.{IsAfter, Synchronised}
use Rattle.sync_frames.proofs.Standing.{held_back}
use Rattle.sync_frames.proofs.synced.SyncedDemuxPrinter.close.Goals as goal

pub returns-clause-sum : goal.returns-clause-sum
returns-clause-sum g c t bytes after =
    let shared = c.args.shared.now in let listing = g.S.Stream.listing shared in
    let taken = (subst (λ (s : Synchronised g.row.S.Denot g.row.S-Sum.Denot).
    IsAfter (g.S.Stream.stands shared) g.S.Stream.sizes (g.S.Stream.sums shared) listing t s bytes) (sym c.self.view_is) after).0 in
    let (lines, summed, writes) = c.close.ensures.sum t taken.given taken.demux in
    (lines, subst (λ pairs. IsSum (by_sizes listing t) pairs lines) (sym (held_back _ bytes taken.given taken.unsync)) summed, writes)
