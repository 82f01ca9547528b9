use Rattle.std.proofs.Common.{Ok, refl, ap, subst}
use Rattle.std.specs.Option.{option_and_then}
use Rattle.capture_streams.proofs.Standing.{by_err}
use Rattle.trace_cmd.specs.Answers.{AnswersSo, call}
use Rattle.command_words.specs.Said.{said_program}
use Rattle.command_words.specs.Words.{program_of}
use Rattle.trace_cmd.proofs.AnswerLemmas.{none_taken, so_of_traced}
use Rattle.trace_cmd.proofs.ReadFirst.{good_first, image_alone, traced_none_bad}
use Rattle.trace_cmd.proofs.command.answer_trace.Goals as goal

pub returns-in_err-image-clause-answer : goal.returns-in_err-image-clause-answer
returns-in_err-image-clause-answer g c words means =
    let image = g.I.Source.state in let input = g.J.Source.state in let out = g.K.Sink.state in
    let asked = call words (image c.args.image.now) (image c.read_image.new.image) (input c.args.input.now) (input c.args.input.now) in
    let failed = c.in_err-image.ensures.reads.failed refl words (input c.args.input.now) (ap (option_and_then program_of) means) in
    by_err (AnswersSo asked (out c.args.out.now) (out c.read_image.new.out)) c.from_residual.result c.from_residual.ensures.0
    (λ e. (c.in_err-image.ensures.serves.cause.failed, failed))

pub returns-in-Ok-clause-answer : goal.returns-in-Ok-clause-answer
returns-in-Ok-clause-answer g c words means =
    let image = g.I.Source.state in let input = g.J.Source.state in let out = g.K.Sink.state in
    let asked = call words (image c.args.image.now) (image c.read_image.new.image) (input c.args.input.now) (input c.trace_input.new.input) in
    let program = said_program c.args.program.now in
    let good = c.in_ok-image.ensures.reads.good c.in-Ok.image (ap Ok c.in-Ok.is) in
    subst (λ o. AnswersSo asked (out o) (out c.trace_input.new.out) c.trace_input.result) good.1
    (so_of_traced asked c.in-Ok.image c.args.last c.args.every (program, means) (program, ap (option_and_then program_of) means, good.0)
    (out c.read_image.new.out) (out c.trace_input.new.out) c.trace_input.result c.trace_input.ensures.answer c.trace_input.ensures.serves.cause)

pub returns-in-Err-clause-answer : goal.returns-in-Err-clause-answer
returns-in-Err-clause-answer g c words means =
    let input = g.J.Source.state in
    c.in_ok-image.ensures.reads.answered c.in-Err.status (ap Ok c.in-Err.is) words (input c.args.input.now) (ap (option_and_then program_of) means)

-- ---- the image comes first

pub returns-in_err-image-clause-first : goal.returns-in_err-image-clause-first
returns-in_err-image-clause-first g c =
    let reads = c.in_err-image.ensures.reads in image_alone _ _ _ _ _ (g.J.Source.state c.args.input.now) _ refl reads.taken reads.lasts

pub returns-in-Ok-clause-first : goal.returns-in-Ok-clause-first
returns-in-Ok-clause-first g c =
    let input = g.J.Source.state in let out = g.K.Sink.state in
    good_first _ _ _ _ _ _ _ c.in_ok-image.ensures.reads c.in-Ok.image (ap Ok c.in-Ok.is) _ _ _ _
    (traced_none_bad _ c.in-Ok.image c.args.last c.args.every (input c.args.input.now) (input c.trace_input.new.input) (out c.read_image.new.out)
    (out c.trace_input.new.out) c.trace_input.result c.trace_input.ensures.answer) c.trace_input.ensures.input_lasts

pub returns-in-Err-clause-first : goal.returns-in-Err-clause-first
returns-in-Err-clause-first g c =
    let reads = c.in_ok-image.ensures.reads in image_alone _ _ _ _ _ (g.J.Source.state c.args.input.now) _ refl reads.taken reads.lasts

-- ---- what was not read was not taken

pub returns-in_err-image-clause-few : goal.returns-in_err-image-clause-few
returns-in_err-image-clause-few g c = none_taken (g.J.Source.state c.args.input.now) _

pub returns-in-Err-clause-few : goal.returns-in-Err-clause-few
returns-in-Err-clause-few g c = none_taken (g.J.Source.state c.args.input.now) _
