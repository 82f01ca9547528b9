use Rattle.std.proofs.Common.{subst}
use Rattle.std.specs.Prelude.{OnErr}
use Rattle.sync_frames.proofs.Written.{first_failed, second_failed, only_failed}
use Rattle.sync_frames.proofs.write.write_frame.Goals.{then-is_synced+in_ok-write_all, else-is_synced}
use Rattle.sync_frames.proofs.write.write_frame.Goals as goal
use Rattle.trace_io.specs.Bytes.{AppendsShorter}

pub returns-in_err-write_all-clause-failed : goal.returns-in_err-write_all-clause-failed
returns-in_err-write_all-clause-failed g c =
    first_failed c.from_residual.result (g.K.Sink.state c.args.sink.now) (g.K.Sink.state c.write_all.new.sink) c.args.is_synced c.args.frame.now
    c.if-is_synced.true c.in_err-write_all.ensures.failed

pub returns-clause-failed : goal.returns-clause-failed
returns-clause-failed g c =
    let state = g.K.Sink.state in let old = state c.args.sink.now in let new = state c.write_all-2.new.sink in let frame = c.args.frame.now in
    elim c.if-is_synced.branch [
      | then-is_synced+in_ok-write_all w ↦
          second_failed c.write_all-2.result old (state w.write_all.new.sink) new c.args.is_synced frame w.if-is_synced.true
          w.in_ok-write_all.ensures.ok
          (subst (λ s. OnErr c.write_all-2.result (AppendsShorter (state s) new frame)) w.sink-is c.write_all-2.ensures.failed)
      | else-is_synced w ↦
          only_failed c.write_all-2.result old new c.args.is_synced frame w.if-is_synced.false
          (subst (λ s. OnErr c.write_all-2.result (AppendsShorter (state s) new frame)) w.sink-is c.write_all-2.ensures.failed)
    ]
