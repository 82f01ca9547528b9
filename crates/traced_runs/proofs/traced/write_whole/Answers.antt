use Rattle.std.proofs.Common.{◌+◌, ◌-◌, arith, drop, subst, take}
use Rattle.std.proofs.lemmas.List.{take_all}
use Rattle.std.proofs.lemmas.Result.{err_from_is_err_and}
use Rattle.path_text.proofs.Wrote.{Wrote, fails_after, wrote_by, wrote_more, writes_all}
use Rattle.traced_runs.proofs.LastFrames.{frame_between, frame_next, one_written}
use Rattle.traced_runs.proofs.traced.write_whole.Goals as goal

pub returns-in_err-write_all : goal.returns-in_err-write_all
returns-in_err-write_all g c =
    let bytes = c.args.frames.now in
    let at = c.loop-at.at in
    let frame = take (at + 16 - at) (drop at bytes) in
    let p = err_from_is_err_and c.from_residual.result c.from_residual.ensures.1 in
    rw p.1 (fails_after _ _ _ c.in_err-write_all.field-0.0 p.0 (take at bytes) frame (drop (at + 16) bytes) bytes (frame_between at bytes)
    c.loop-at.invariant.wrote
    (one_written _ _ _ frame c.in_err-write_all.ensures.ok c.in_err-write_all.ensures.failed c.write_all.ensures.serves.shows c.in_err-write_all.ensures.serves.cause))

pub loop-at-preserved : goal.loop-at-preserved
loop-at-preserved g c =
    let bytes = c.args.frames.now in
    let at = c.loop-at.at in
    let i = c.loop-at.invariant in
    let frame = take (at + 16 - at) (drop at bytes) in
    record {
      within = omega (arith, c.requires, c.loop-at-test.true, i.whole);
      whole = omega (arith, i.whole);
      wrote = subst (Wrote _ _) (frame_next at bytes) (wrote_more _ _ _ (take at bytes) frame i.wrote
          (wrote_by _ _ c.in_ok-write_all.field-0 frame
          (one_written _ _ _ frame c.in_ok-write_all.ensures.ok c.in_ok-write_all.ensures.failed c.write_all.ensures.serves.shows c.in_ok-write_all.ensures.serves.cause)));
    }

pub returns : goal.returns
returns g c =
    let bytes = c.args.frames.now in
    writes_all _ _ _ bytes (subst (Wrote _ _) (take_all c.loop-at.at bytes (omega (arith, c.loop-at-test.false))) c.loop-at.invariant.wrote)
