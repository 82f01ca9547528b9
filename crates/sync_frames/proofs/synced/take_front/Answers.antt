use Rattle.std.proofs.Common.{◌++◌, take, arith}
use Rattle.capture_streams.specs.Texts.{by_sizes}
use Rattle.sync_frames.proofs.Taking.{byte_stands, gains_of}
use Rattle.sync_frames.proofs.synced.take_front.Goals as goal

pub returns-then-run-gt0-clause-stands : goal.returns-then-run-gt0-clause-stands
returns-then-run-gt0-clause-stands g c t bytes taken ok =
    record {
      given = taken.given ++ take c.take_run-run.result c.args.piece.now;
      unsync = c.take_run-run.ensures.stands bytes taken.given taken.unsync;
      demux = c.take_piece.ensures.stands t taken.given taken.demux ok;
    }

pub returns-then-run-gt0-clause-gains : goal.returns-then-run-gt0-clause-gains
returns-then-run-gt0-clause-gains g c t bytes taken =
    let run = take c.take_run-run.result c.args.piece.now in
    gains_of (by_sizes (g.S.Stream.listing c.args.shared.now) t) c.args.unsync.now c.take_run-run.new.self bytes run taken.given run
    (g.K.Sink.state c.args.sink.now) (g.K.Sink.state c.take_piece.new.sink) c.take_piece.result taken.unsync
    (c.take_run-run.ensures.stands bytes taken.given taken.unsync) (c.take_piece.ensures.gains t taken.given taken.demux)

pub returns-clause-stands : goal.returns-clause-stands
returns-clause-stands g c t bytes taken ok =
    record {
      given = taken.given ++ c.as_slice.result.now;
      unsync = byte_stands c.take_run-run.new.self c.take-few.new.self bytes taken.given c.args.piece.now c.take-few.result c.as_slice.result.now
          c.take_run-run.result (omega (arith, c.if-run-gt0.false)) c.requires.some (c.take_run-run.ensures.stands bytes taken.given taken.unsync)
          (c.take-few.ensures.stands bytes taken.given) c.as_slice.ensures;
      demux = c.take_piece-2.ensures.stands t taken.given taken.demux ok;
    }

pub returns-clause-gains : goal.returns-clause-gains
returns-clause-gains g c t bytes taken =
    gains_of (by_sizes (g.S.Stream.listing c.args.shared.now) t) c.args.unsync.now c.take-few.new.self bytes (take 1 c.args.piece.now) taken.given
    c.as_slice.result.now (g.K.Sink.state c.args.sink.now) (g.K.Sink.state c.take_piece-2.new.sink) c.take_piece-2.result taken.unsync
    (byte_stands c.take_run-run.new.self c.take-few.new.self bytes taken.given c.args.piece.now c.take-few.result c.as_slice.result.now
    c.take_run-run.result (omega (arith, c.if-run-gt0.false)) c.requires.some (c.take_run-run.ensures.stands bytes taken.given taken.unsync)
    (c.take-few.ensures.stands bytes taken.given) c.as_slice.ensures)
    (c.take_piece-2.ensures.gains t taken.given taken.demux)
