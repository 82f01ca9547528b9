use Rattle.std.proofs.Common.{◌≡◌, ◌++◌, length, take, length-append, refl, sym, subst, ◌∙◌, arith}
use Rattle.std.proofs.KnownBytes.{Consumes-trans}
use Rattle.std.proofs.lemmas.List.{length-take-le}
use Rattle.capture_streams.proofs.Standing.{by_err}
use Rattle.input_pieces.specs.Reading.{StopsSo, Took}
use Rattle.input_pieces.proofs.Interrupts.{cut_within}
use Rattle.input_pieces.proofs.Pieces.{body_printed, gains_by, piece_gained, stop_kept}
use Rattle.input_pieces.proofs.input.take_input.Goals as goal

pub slice_bounds-buffer-end : goal.slice_bounds-buffer-end
slice_bounds-buffer-end g c =
    let gives = c.in-Bytes.ensures.bytes c.in-Bytes.count refl in omega (arith, gives.most, c.read_piece.array_long)

pub returns-in_err-print_piece-in-Bytes-clause-took : goal.returns-in_err-print_piece-in-Bytes-clause-took
returns-in_err-print_piece-in-Bytes-clause-took g c t given =
    let input = g.J.Source.state in let out = g.K.Sink.state in let i = c.loop-count.invariant in
    let laid = g.P.Printer.laid (g.P.Printer.frames c.args.printer.now) in let is_laid = g.met.P.Printer.is_laid (g.P.Printer.frames c.args.printer.now) in let listing = g.P.Printer.listing c.args.shared.now t in
    let gives = c.in-Bytes.ensures.bytes c.in-Bytes.count refl in
    let so_far = i.so_far t given in let bytes = so_far.0 in let piece = take c.in-Bytes.count c.read_piece.new.buffer in
    let size : length piece ≡ c.in-Bytes.count = length-take-le c.in-Bytes.count c.read_piece.new.buffer (omega (arith, gives.most, c.read_piece.array_long)) in
    let gains = gains_by g.P.Printer.laid _ _ i.frames listing bytes piece (out c.loop-count.out) (out c.print_piece.new.out) _
    (c.in_err-print_piece-in-Bytes.ensures.gains t bytes so_far.3) in
    by_err (Took (g.P.Printer.stands c.args.shared.now t c.print_piece.new.printer) laid listing (input c.args.input.now) (input c.read_piece.new.input)
    (out c.args.out.now) (out c.print_piece.new.out)) c.from_residual.result c.from_residual.ensures.0 (λ d.
    cut_within laid is_laid listing (input c.args.input.now) (input c.loop-count.input) (input c.read_piece.new.input)
    (out c.args.out.now) (out c.loop-count.out) (out c.print_piece.new.out) bytes piece c.in_err-print_piece-in-Bytes.field-0.0 so_far.2 gives.took
    (omega (arith, size, so_far.1, gives.few)) (omega (arith, size, gives.most)) so_far.4 gains)

pub loop-count-preserved : goal.loop-count-preserved
loop-count-preserved g c =
    let input = g.J.Source.state in let out = g.K.Sink.state in let i = c.loop-count.invariant in
    let laid = g.P.Printer.laid (g.P.Printer.frames c.args.printer.now) in let is_laid = g.met.P.Printer.is_laid (g.P.Printer.frames c.args.printer.now) in
    let gives = c.in-Bytes.ensures.bytes c.in-Bytes.count refl in let piece = take c.in-Bytes.count c.read_piece.new.buffer in
    let size : length piece ≡ c.in-Bytes.count = length-take-le c.in-Bytes.count c.read_piece.new.buffer (omega (arith, gives.most, c.read_piece.array_long)) in
    record {
      few = gives.few;
      whole = c.in_ok-print_piece-in-Bytes.ensures.whole refl;
      count = omega (arith, c.in_ok-print_piece-in-Bytes.ensures.offset refl, i.count, size);
      frames = c.print_piece.ensures.frames ∙ i.frames;
      so_far = λ t given.
          let listing = g.P.Printer.listing c.args.shared.now t in let so_far = i.so_far t given in let bytes = so_far.0 in (
            bytes ++ piece,
            omega (arith, length-append bytes piece, so_far.1, size),
            Consumes-trans (input c.args.input.now).bytes (input c.loop-count.input).bytes (input c.read_piece.new.input).bytes bytes piece so_far.2 gives.took,
            c.in_ok-print_piece-in-Bytes.ensures.stands t bytes so_far.3 refl,
            piece_gained laid is_laid listing bytes piece (out c.args.out.now) (out c.loop-count.out) (out c.print_piece.new.out)
                c.in_ok-print_piece-in-Bytes.field-0 so_far.4 (gains_by g.P.Printer.laid _ _ i.frames listing bytes piece
                (out c.loop-count.out) (out c.print_piece.new.out) _ (c.in_ok-print_piece-in-Bytes.ensures.gains t bytes so_far.3)),
          );
      input_kept = gives.kept ∙ i.input_kept;
      input_shows = c.read_piece.ensures.lasts.shows ∙ i.input_shows;
      kept = c.in_ok-print_piece-in-Bytes.ensures.serves.cause.kept ∙ i.kept;
      shows = c.print_piece.ensures.serves.shows ∙ i.shows;
    }

pub returns-in-Ended-clause-took : goal.returns-in-Ended-clause-took
returns-in-Ended-clause-took g c t given =
    let input = g.J.Source.state in let out = g.K.Sink.state in let i = c.loop-count.invariant in
    let so_far = i.so_far t given in (
      input c.loop-count.input,
      so_far.0,
      so_far.2,
      i.input_kept,
      omega (arith, so_far.1, i.few),
      so_far.3,
      body_printed (g.P.Printer.laid (g.P.Printer.frames c.args.printer.now)) (g.met.P.Printer.is_laid (g.P.Printer.frames c.args.printer.now)) (g.P.Printer.listing c.args.shared.now t) so_far.0
          (out c.args.out.now) (out c.loop-count.out) so_far.4,
      subst (λ n. StopsSo (input c.loop-count.input) (input c.read_piece.new.input) n c.in-Ended.stop) (sym so_far.1)
          (c.in-Ended.ensures.stop c.in-Ended.stop refl),
    )

pub returns-in-Ended-clause-kept : goal.returns-in-Ended-clause-kept
returns-in-Ended-clause-kept g c =
    let input = g.J.Source.state in
    stop_kept (input c.args.input.now) (input c.loop-count.input) (input c.read_piece.new.input) c.loop-count.taken c.in-Ended.stop
    c.loop-count.invariant.input_kept (c.in-Ended.ensures.stop c.in-Ended.stop refl)
