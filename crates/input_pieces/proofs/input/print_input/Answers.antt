use Rattle.std.proofs.Common.{subst}
use Rattle.input_pieces.specs.Reading.{TookUpTo}
use Rattle.input_pieces.specs.Listed.{Listed}
use Rattle.capture_streams.proofs.Standing.{by_err}
use Rattle.input_pieces.proofs.Pieces.{closed, closes_by, read_failed, read_failed_cut, sums_by, too_long_cut, was_too_long}
use Rattle.input_pieces.proofs.input.print_input.Goals as goal

pub returns-in-Ok-End-clause-answer : goal.returns-in-Ok-End-clause-answer
returns-in-Ok-End-clause-answer g c t given =
    let input = g.J.Source.state in let out = g.K.Sink.state in let stands = g.P.Printer.stands c.args.shared.now t c.take_input.new.printer in
    let n = g.P.Printer.frames c.args.printer in let laid = g.P.Printer.laid n in let listing = g.P.Printer.listing c.args.shared.now t in
    let took = subst (TookUpTo stands laid listing (input c.args.input.now) (input c.take_input.new.input) (out c.args.out.now) (out c.take_input.new.out))
    c.in-Ok-End.field-0-is (c.in-Ok-End.ensures.took t given) in
    closed laid (g.met.P.Printer.is_laid n) listing stands (input c.args.input.now) (input c.take_input.new.input) (out c.args.out.now)
    (out c.take_input.new.out) (out c.print_end.new.out) took c.print_end.result
    (closes_by g.P.Printer.laid _ n c.take_input.ensures.frames listing took.1 _ _ _ (c.print_end.ensures.closes t took.1 took.5))

pub returns-in_ok-close-in-Ok-TooLong-clause-answer : goal.returns-in_ok-close-in-Ok-TooLong-clause-answer
returns-in_ok-close-in-Ok-TooLong-clause-answer g c t given =
    let input = g.J.Source.state in let out = g.K.Sink.state in let stands = g.P.Printer.stands c.args.shared.now t c.take_input.new.printer in
    let n = g.P.Printer.frames c.args.printer in let laid = g.P.Printer.laid n in let listing = g.P.Printer.listing c.args.shared.now t in
    let old = input c.args.input.now in let new = input c.take_input.new.input in let first = out c.args.out.now in
    let here = out c.take_input.new.out in let last = out c.close.new.sink in
    let took = subst (TookUpTo stands laid listing old new first here) c.in-Ok-TooLong.field-0-is (c.in-Ok-TooLong.ensures.took t given) in
    let sums = sums_by g.P.Printer.laid _ n c.take_input.ensures.frames listing took.1 here last _ (c.in_ok-close-in-Ok-TooLong.ensures.sum t took.1 took.5) in
    was_too_long laid (g.met.P.Printer.is_laid n) listing stands old new first here last tt took sums

pub returns-in_err-close-in-Ok-TooLong-clause-answer : goal.returns-in_err-close-in-Ok-TooLong-clause-answer
returns-in_err-close-in-Ok-TooLong-clause-answer g c t given =
    let input = g.J.Source.state in let out = g.K.Sink.state in let stands = g.P.Printer.stands c.args.shared.now t c.take_input.new.printer in
    let n = g.P.Printer.frames c.args.printer in let laid = g.P.Printer.laid n in let listing = g.P.Printer.listing c.args.shared.now t in
    let old = input c.args.input.now in let new = input c.take_input.new.input in let first = out c.args.out.now in
    let here = out c.take_input.new.out in let last = out c.close.new.sink in
    let took = subst (TookUpTo stands laid listing old new first here) c.in-Ok-TooLong.field-0-is (c.in-Ok-TooLong.ensures.took t given) in
    let sums = sums_by g.P.Printer.laid _ n c.take_input.ensures.frames listing took.1 here last _ (c.in_err-close-in-Ok-TooLong.ensures.sum t took.1 took.5) in
    by_err (Listed laid listing old new first last) c.from_residual.result c.from_residual.ensures.0 (λ d.
    too_long_cut laid (g.met.P.Printer.is_laid n) listing stands old new first here last c.in_err-close-in-Ok-TooLong.field-0.0 took sums)

pub returns-in_ok-close-in-Ok-ReadFault-clause-answer : goal.returns-in_ok-close-in-Ok-ReadFault-clause-answer
returns-in_ok-close-in-Ok-ReadFault-clause-answer g c t given =
    let input = g.J.Source.state in let out = g.K.Sink.state in let stands = g.P.Printer.stands c.args.shared.now t c.take_input.new.printer in
    let n = g.P.Printer.frames c.args.printer in let laid = g.P.Printer.laid n in let listing = g.P.Printer.listing c.args.shared.now t in
    let old = input c.args.input.now in let new = input c.take_input.new.input in let first = out c.args.out.now in
    let here = out c.take_input.new.out in let last = out c.close-in-Ok-ReadFault.new.sink in
    let took = subst (TookUpTo stands laid listing old new first here) c.in-Ok-ReadFault.field-0-is (c.in-Ok-ReadFault.ensures.took t given) in
    let sums = sums_by g.P.Printer.laid _ n c.take_input.ensures.frames listing took.1 here last _ (c.in_ok-close-in-Ok-ReadFault.ensures.sum t took.1 took.5) in
    read_failed laid (g.met.P.Printer.is_laid n) listing stands old new first here last tt took sums

pub returns-in_err-close-in-Ok-ReadFault-clause-answer : goal.returns-in_err-close-in-Ok-ReadFault-clause-answer
returns-in_err-close-in-Ok-ReadFault-clause-answer g c t given =
    let input = g.J.Source.state in let out = g.K.Sink.state in let stands = g.P.Printer.stands c.args.shared.now t c.take_input.new.printer in
    let n = g.P.Printer.frames c.args.printer in let laid = g.P.Printer.laid n in let listing = g.P.Printer.listing c.args.shared.now t in
    let old = input c.args.input.now in let new = input c.take_input.new.input in let first = out c.args.out.now in
    let here = out c.take_input.new.out in let last = out c.close-in-Ok-ReadFault.new.sink in
    let took = subst (TookUpTo stands laid listing old new first here) c.in-Ok-ReadFault.field-0-is (c.in-Ok-ReadFault.ensures.took t given) in
    let sums = sums_by g.P.Printer.laid _ n c.take_input.ensures.frames listing took.1 here last _ (c.in_err-close-in-Ok-ReadFault.ensures.sum t took.1 took.5) in
    by_err (Listed laid listing old new first last) c.from_residual-in_err-close-in-Ok-ReadFault.result c.from_residual-in_err-close-in-Ok-ReadFault.ensures.0 (λ d.
    read_failed_cut laid (g.met.P.Printer.is_laid n) listing stands old new first here last c.in_err-close-in-Ok-ReadFault.field-0.0 took sums)
