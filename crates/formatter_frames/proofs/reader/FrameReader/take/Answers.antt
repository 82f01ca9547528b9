use Rattle.std.proofs.Common.{◌≡◌, ◌+◌, ◌≤◌, length, take, arith}
use Rattle.std.proofs.lemmas.List.{length-take-le}
use Rattle.formatter_frames.proofs.Reading.{stands_begun, gains_none, stands_full, gains_frame}
use Rattle.formatter_frames.proofs.reader.FrameReader.take.Goals as goal

pub returns-then-self-lt-FRAME_BYTES-clause-stands : goal.returns-then-self-lt-FRAME_BYTES-clause-stands
returns-then-self-lt-FRAME_BYTES-clause-stands c = λ bytes at.
    let r = c.self.inside in let n = c.min-count.result in let more = take n c.args.piece.now in
    let size : length more ≡ n = length-take-le n c.args.piece.now (omega (arith, c.min-count.ensures)) in
    let room : r.filled + n ≤ 16 = omega (arith, c.min-count.ensures, c.self.invariant.0) in
    stands_begun r.frame c.copy_from_slice.new.self more r.filled n r.current c.args.self.now bytes c.self.view_is c.self.told at c.copy_from_slice.ensures.after
    size room c.if-self-lt-FRAME_BYTES.true

pub returns-then-self-lt-FRAME_BYTES-clause-gains : goal.returns-then-self-lt-FRAME_BYTES-clause-gains
returns-then-self-lt-FRAME_BYTES-clause-gains c = λ bytes at.
    let r = c.self.inside in let n = c.min-count.result in let more = take n c.args.piece.now in
    let size : length more ≡ n = length-take-le n c.args.piece.now (omega (arith, c.min-count.ensures)) in
    let room : r.filled + n ≤ 16 = omega (arith, c.min-count.ensures, c.self.invariant.0) in
    gains_none r.frame c.copy_from_slice.new.self more r.filled n r.current c.args.self.now bytes c.self.view_is c.self.told at c.copy_from_slice.ensures.after
    size room c.if-self-lt-FRAME_BYTES.true

pub returns-clause-stands : goal.returns-clause-stands
returns-clause-stands c = λ bytes at.
    let r = c.self.inside in let n = c.min-count.result in let more = take n c.args.piece.now in
    let size : length more ≡ n = length-take-le n c.args.piece.now (omega (arith, c.min-count.ensures)) in
    let room : r.filled + n ≤ 16 = omega (arith, c.min-count.ensures, c.self.invariant.0) in
    stands_full r.frame c.copy_from_slice.new.self more r.filled n r.current c.args.self.now bytes c.self.view_is c.self.told at c.copy_from_slice.ensures.after
    size room c.if-self-lt-FRAME_BYTES.false c.unpack.new.current c.unpack.ensures.current

pub returns-clause-gains : goal.returns-clause-gains
returns-clause-gains c = λ bytes at.
    let r = c.self.inside in let n = c.min-count.result in let more = take n c.args.piece.now in
    let size : length more ≡ n = length-take-le n c.args.piece.now (omega (arith, c.min-count.ensures)) in
    let room : r.filled + n ≤ 16 = omega (arith, c.min-count.ensures, c.self.invariant.0) in
    gains_frame r.frame c.copy_from_slice.new.self more r.filled n r.current c.args.self.now bytes c.self.view_is c.self.told at c.copy_from_slice.ensures.after
    size room c.if-self-lt-FRAME_BYTES.false c.unpack.result c.unpack.ensures.pairs
