use Rattle.std.proofs.Common.{◌+◌, ◌-◌, ◌*◌, ◌/◌, ◌++◌, arith, take, drop, length, refl, subst}
use Rattle.std.proofs.KnownBytes.{Appends-trans}
use Rattle.std.specs.Prelude.{◌==◌, ◌%◌}
use Rattle.formatter_frames.specs.Pieces.{pieces}
use Rattle.sync_frames.specs.Synced.{synced_every, synced_frames, synced_frame}
use Rattle.sync_frames.proofs.Written.{later_failed, one_frame, sixteen}
use Rattle.sync_frames.proofs.write.write_synced.Goals as goal
use Rattle.trace_io.specs.Bytes.{AppendsAll, AppendsShorter}

pub returns-in_err-write_frame-clause-failed : goal.returns-in_err-write_frame-clause-failed
returns-in_err-write_frame-clause-failed g c =
    let k = c.loop-k.k in let xs = c.args.frames.now in let every = c.args.every in let i = c.loop-k.invariant in let n = length xs / 16 in
    let old = g.K.Sink.state c.args.sink.now in let here = g.K.Sink.state c.loop-k.sink in let new = g.K.Sink.state c.write_frame.new.sink in
    let some = subst (λ f. AppendsShorter here new (synced_frame (k % every == 0) f)) (sixteen k xs) c.in_err-write_frame.ensures.failed in
    later_failed c.from_residual.result old here new (synced_every every xs) i.done (synced_frame (k % every == 0) (take 16 (drop (16 * k) xs)))
    (synced_frames every (k + 1) (pieces 16 (n - (k + 1)) (drop (16 * (k + 1)) xs)))
    (one_frame every k n xs i.done (omega (arith, c.loop-k-test.true)) i.all) i.wrote some

pub loop-k-preserved : goal.loop-k-preserved
loop-k-preserved g c =
    let k = c.loop-k.k in let xs = c.args.frames.now in let every = c.args.every in let i = c.loop-k.invariant in let n = length xs / 16 in
    let old = g.K.Sink.state c.args.sink.now in let here = g.K.Sink.state c.loop-k.sink in let new = g.K.Sink.state c.write_frame.new.sink in
    let frame = synced_frame (k % every == 0) (take 16 (drop (16 * k) xs)) in
    let wrote = subst (λ f. AppendsAll here new (synced_frame (k % every == 0) f)) (sixteen k xs) c.in_ok-write_frame.ensures.ok in
    record {
      within = omega (arith, c.loop-k-test.true);
      count = refl;
      done = i.done ++ frame;
      wrote = Appends-trans old.bytes here.bytes new.bytes i.done frame i.wrote wrote;
      all = one_frame every k n xs i.done (omega (arith, c.loop-k-test.true)) i.all;
      shows = grind (arith, i.shows, c.write_frame.ensures.serves.shows);
      kept = grind (arith, i.kept, c.in_ok-write_frame.ensures.serves.cause);
    }
