use Rattle.std.proofs.Common.{subst}
use Rattle.trace_cmd.specs.Answers.{AnswersSo, call}
use Rattle.command_words.specs.Words.{texts}
use Rattle.trace_cmd.proofs.AnswerLemmas.{all_flushed, flush_fails_behind, write_fails}
use Rattle.trace_cmd.proofs.Meaningless.{one_of_three}
use Rattle.trace_cmd.proofs.command.run.Goals as goal

pub returns-in-Ok-Ok-clause-answer : goal.returns-in-Ok-Ok-clause-answer
returns-in-Ok-Ok-clause-answer g c =
    let image = g.I.Source.state in let input = g.J.Source.state in let out = g.K.Sink.state in
    let asked = call (texts c.args.words.now) (image c.args.image.now) (image c.answer_words-answer.new.image)
    (input c.args.input.now) (input c.answer_words-answer.new.input) in
    all_flushed asked (out c.args.out.now) (out c.answer_words-answer.new.out) (out c.flush.new.self) c.in-Ok-Ok.ensures.bytes
    c.in-Ok-Ok.status c.in-Ok-Ok.ensures.serves.cause.later
    (subst (AnswersSo asked (out c.args.out.now) (out c.answer_words-answer.new.out)) c.in-Ok-Ok.is-1 c.answer_words-answer.ensures.answer)

pub returns-in_default-clause-answer : goal.returns-in_default-clause-answer
returns-in_default-clause-answer g c =
    let image = g.I.Source.state in let input = g.J.Source.state in let out = g.K.Sink.state in
    let asked = call (texts c.args.words.now) (image c.args.image.now) (image c.answer_words-answer.new.image)
    (input c.args.input.now) (input c.answer_words-answer.new.input) in
    write_fails asked (out c.args.out.now) (out c.answer_words-answer.new.out) (out c.flush.new.self) c.in_default.ensures.bytes c.in_default.field-0-1
    (subst (AnswersSo asked (out c.args.out.now) (out c.answer_words-answer.new.out)) c.in_default.is-1 c.answer_words-answer.ensures.answer)
    c.in_default.ensures.serves.cause.later

pub returns-in_default-2-clause-answer : goal.returns-in_default-2-clause-answer
returns-in_default-2-clause-answer g c =
    let image = g.I.Source.state in let input = g.J.Source.state in let out = g.K.Sink.state in
    let asked = call (texts c.args.words.now) (image c.args.image.now) (image c.answer_words-answer.new.image)
    (input c.args.input.now) (input c.answer_words-answer.new.input) in
    flush_fails_behind asked (out c.args.out.now) (out c.answer_words-answer.new.out) (out c.flush.new.self) c.in_default.ensures.bytes
    c.answer_words-answer.result c.answer_words-answer.ensures.answer c.answer_words-answer.ensures.serves.cause.later c.in_default.ensures.serves.cause.later
    c.in_default.ensures.serves.cause.failed

pub returns-in-Ok-Ok-clause-meaningless : goal.returns-in-Ok-Ok-clause-meaningless
returns-in-Ok-Ok-clause-meaningless g c none =
    let image = g.I.Source.state in let input = g.J.Source.state in let out = g.K.Sink.state in
    let asked = call (texts c.args.words.now) (image c.args.image.now) (image c.answer_words-answer.new.image)
    (input c.args.input.now) (input c.answer_words-answer.new.input) in
    one_of_three asked none (out c.args.out.now) (out c.answer_words-answer.new.out) c.in-Ok-Ok.status
    (subst (AnswersSo asked (out c.args.out.now) (out c.answer_words-answer.new.out)) c.in-Ok-Ok.is-1 c.answer_words-answer.ensures.answer)
