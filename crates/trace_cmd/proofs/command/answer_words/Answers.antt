use Rattle.std.proofs.Common.{Option, Some, IfSome, inl, inr, refl, sym, ap, subst, ◌∙◌}
use Rattle.std.specs.Option.{option_map}
use Rattle.trace_cmd.specs.Answers.{call}
use Rattle.trace_cmd.specs.Printing.{PacketsOf, TimesOf}
use Rattle.command_words.specs.Said.{IsInRange, said, said_intake, said_program}
use Rattle.command_words.specs.Words.{Packets, Times, texts}
use Rattle.command_words.specs.declared.words.Command.{Command as Told}
use Rattle.trace_cmd.proofs.AnswerLemmas.{counts_of_no_run_file, none_taken, packets_of_no_run_file, path_of_no_run_file, so_of_listed, so_of_none}
use Rattle.trace_cmd.proofs.AnswerLemmas.{so_of_number, so_of_usage, so_of_words, times_of_no_run_file}
use Rattle.trace_cmd.proofs.ReadFirst.{bare_first, nothing_first, printed_no_memory, printed_none_bad, program_first}
use Rattle.trace_cmd.proofs.WordKinds.{counts_program, packets_kind, path_program, retired_kind, retired_program, times_kind, trace_kind, trace_program}
use Rattle.trace_cmd.proofs.command.answer_words.Goals as goal

pub returns-in-Path-clause-answer : goal.returns-in-Path-clause-answer
returns-in-Path-clause-answer g c =
    let means = sym c.in-Ok-Some.ensures.value ∙ ap (option_map said) (c.in-Ok-Some.field-0-is ∙ ap (λ (command : Told). Some command) c.in-Path.is) in
    c.answer_path.ensures.answer (texts c.args.words.now) means

pub returns-in-Counts-clause-answer : goal.returns-in-Counts-clause-answer
returns-in-Counts-clause-answer g c =
    let means = sym c.in-Ok-Some.ensures.value ∙ ap (option_map said) (c.in-Ok-Some.field-0-is ∙ ap (λ (command : Told). Some command) c.in-Counts.is) in
    c.answer_counts.ensures.answer (texts c.args.words.now) means

pub returns-in-Packets-clause-answer : goal.returns-in-Packets-clause-answer
returns-in-Packets-clause-answer g c =
    let means = sym c.in-Ok-Some.ensures.value ∙ ap (option_map said) (c.in-Ok-Some.field-0-is ∙ ap (λ (command : Told). Some command) c.in-Packets.is) in
    let image = g.I.Source.state in let input = g.J.Source.state in let out = g.K.Sink.state in
    let asked = call (texts c.args.words.now) (image c.args.image.now) (image c.args.image.now) (input c.args.input.now) (input c.print_streams.new.input) in
    elim c.print_streams.ensures.listed [
      | inl none ↦
          so_of_none asked (out c.args.out.now) (out c.print_streams.new.out) c.print_streams.result (Packets (said_intake c.in-Packets.intake), means) none.0
          (ap input none.1) (ap out none.2)
      | inr listed ↦
          so_of_listed asked (PacketsOf (said_intake c.in-Packets.intake)) means (out c.args.out.now) (out c.print_streams.new.out) c.print_streams.result
          listed c.print_streams.ensures.serves.cause
    ]

pub returns-in-Packets-clause-memory : goal.returns-in-Packets-clause-memory
returns-in-Packets-clause-memory g c is =
    inl (printed_no_memory _ _ _ _ _ _ _ _ c.print_streams.result c.print_streams.ensures.listed is)

pub returns-in-Times-clause-answer : goal.returns-in-Times-clause-answer
returns-in-Times-clause-answer g c =
    let means = sym c.in-Ok-Some.ensures.value ∙ ap (option_map said) (c.in-Ok-Some.field-0-is ∙ ap (λ (command : Told). Some command) c.in-Times.is) in
    let image = g.I.Source.state in let input = g.J.Source.state in let out = g.K.Sink.state in
    let words = texts c.args.words.now in
    let asked = call words (image c.args.image.now) (image c.args.image.now) (input c.args.input.now) (input c.print_streams-in-Times.new.input) in
    elim c.print_streams-in-Times.ensures.listed [
      | inl none ↦
          so_of_none asked (out c.args.out.now) (out c.print_streams-in-Times.new.out) c.print_streams-in-Times.result
          (Times (said_intake c.in-Times.intake), means) none.0
          (ap input none.1) (ap out none.2)
      | inr listed ↦
          so_of_listed asked (TimesOf (said_intake c.in-Times.intake)) means (out c.args.out.now) (out c.print_streams-in-Times.new.out)
          c.print_streams-in-Times.result listed c.print_streams-in-Times.ensures.serves.cause
    ]

pub returns-in-Times-clause-memory : goal.returns-in-Times-clause-memory
returns-in-Times-clause-memory g c is =
    inl (printed_no_memory _ _ _ _ _ _ _ _ c.print_streams-in-Times.result c.print_streams-in-Times.ensures.listed is)

pub returns-in-Retired-clause-answer : goal.returns-in-Retired-clause-answer
returns-in-Retired-clause-answer g c =
    let means = sym c.in-Ok-Some.ensures.value ∙ ap (option_map said) (c.in-Ok-Some.field-0-is ∙ ap (λ (command : Told). Some command) c.in-Retired.is) in
    c.answer_retired.ensures.answer (texts c.args.words.now) means

pub returns-in-Retired-clause-memory : goal.returns-in-Retired-clause-memory
returns-in-Retired-clause-memory g c is =
    let means = sym c.in-Ok-Some.ensures.value ∙ ap (option_map said) (c.in-Ok-Some.field-0-is ∙ ap (λ (command : Told). Some command) c.in-Retired.is) in
    inr (retired_kind (texts c.args.words.now) (said_program c.in-Retired.program, means))

pub returns-in-Trace-clause-answer : goal.returns-in-Trace-clause-answer
returns-in-Trace-clause-answer g c =
    let means = sym c.in-Ok-Some.ensures.value ∙ ap (option_map said) (c.in-Ok-Some.field-0-is ∙ ap (λ (command : Told). Some command) c.in-Trace.is) in
    c.answer_trace.ensures.answer (texts c.args.words.now) means

pub returns-in-Trace-clause-memory : goal.returns-in-Trace-clause-memory
returns-in-Trace-clause-memory g c is =
    let means = sym c.in-Ok-Some.ensures.value ∙ ap (option_map said) (c.in-Ok-Some.field-0-is ∙ ap (λ (command : Told). Some command) c.in-Trace.is) in
    inr (trace_kind c.in-Trace.last c.in-Trace.every (texts c.args.words.now) (said_program c.in-Trace.program, means))

pub test_number-requires : goal.test_number-requires
test_number-requires g c =
    subst IsInRange c.in-Selftest.is (subst (λ (o : Option Told). IfSome o IsInRange) c.in-Ok-Some.field-0-is c.in-Ok-Some.ensures.within)

pub returns-in-Selftest-clause-answer : goal.returns-in-Selftest-clause-answer
returns-in-Selftest-clause-answer g c =
    let means = sym c.in-Ok-Some.ensures.value ∙ ap (option_map said) (c.in-Ok-Some.field-0-is ∙ ap (λ (command : Told). Some command) c.in-Selftest.is) in
    let image = g.I.Source.state in let input = g.J.Source.state in let out = g.K.Sink.state in
    let asked = call (texts c.args.words.now) (image c.args.image.now) (image c.args.image.now) (input c.args.input.now) (input c.args.input.now) in
    so_of_number asked c.in-Selftest.number c.in-Selftest.cut means refl (out c.args.out.now) (out c.test_number.new.out) c.test_number.result
    c.test_number.ensures.answer c.test_number.ensures.serves.cause

pub returns-in-Ok-None-clause-answer : goal.returns-in-Ok-None-clause-answer
returns-in-Ok-None-clause-answer g c =
    let none = sym c.in-Ok-None.ensures.value ∙ ap (option_map said) c.in-Ok-None.field-0-is in
    let image = g.I.Source.state in let input = g.J.Source.state in let out = g.K.Sink.state in
    let asked = call (texts c.args.words.now) (image c.args.image.now) (image c.args.image.now) (input c.args.input.now) (input c.args.input.now) in
    so_of_usage asked (out c.args.out.now) (out c.answer_usage.new.out) c.answer_usage.result none c.answer_usage.ensures.0 c.answer_usage.ensures.1

pub returns-in-Err-clause-answer : goal.returns-in-Err-clause-answer
returns-in-Err-clause-answer g c =
    let image = g.I.Source.state in let input = g.J.Source.state in let out = g.K.Sink.state in
    so_of_words (call (texts c.args.words.now) (image c.args.image.now) (image c.args.image.now) (input c.args.input.now) (input c.args.input.now))
    (out c.args.out.now) refl refl

-- ---- how much was taken

pub returns-in-Path-clause-few : goal.returns-in-Path-clause-few
returns-in-Path-clause-few g c file =
    let means = sym c.in-Ok-Some.ensures.value ∙ ap (option_map said) (c.in-Ok-Some.field-0-is ∙ ap (λ (command : Told). Some command) c.in-Path.is) in
    absurd (path_of_no_run_file _ (texts c.args.words.now) (said_program c.in-Path.program, means) file)

pub returns-in-Counts-clause-few : goal.returns-in-Counts-clause-few
returns-in-Counts-clause-few g c file =
    let means = sym c.in-Ok-Some.ensures.value ∙ ap (option_map said) (c.in-Ok-Some.field-0-is ∙ ap (λ (command : Told). Some command) c.in-Counts.is) in
    absurd (counts_of_no_run_file _ (texts c.args.words.now) (said_program c.in-Counts.program, means) file)

pub returns-in-Packets-clause-few : goal.returns-in-Packets-clause-few
returns-in-Packets-clause-few g c file =
    let means = sym c.in-Ok-Some.ensures.value ∙ ap (option_map said) (c.in-Ok-Some.field-0-is ∙ ap (λ (command : Told). Some command) c.in-Packets.is) in
    absurd (packets_of_no_run_file _ (texts c.args.words.now) means file)

pub returns-in-Times-clause-few : goal.returns-in-Times-clause-few
returns-in-Times-clause-few g c file =
    let means = sym c.in-Ok-Some.ensures.value ∙ ap (option_map said) (c.in-Ok-Some.field-0-is ∙ ap (λ (command : Told). Some command) c.in-Times.is) in
    absurd (times_of_no_run_file _ (texts c.args.words.now) means file)

pub returns-in-Selftest-clause-few : goal.returns-in-Selftest-clause-few
returns-in-Selftest-clause-few g c file = none_taken (g.J.Source.state c.args.input.now) _

pub returns-in-Ok-None-clause-few : goal.returns-in-Ok-None-clause-few
returns-in-Ok-None-clause-few g c file = none_taken (g.J.Source.state c.args.input.now) _

pub returns-in-Err-clause-few : goal.returns-in-Err-clause-few
returns-in-Err-clause-few g c file = none_taken (g.J.Source.state c.args.input.now) _

-- ---- the image comes first

pub returns-in-Path-clause-first : goal.returns-in-Path-clause-first
returns-in-Path-clause-first g c =
    let means = sym c.in-Ok-Some.ensures.value ∙ ap (option_map said) (c.in-Ok-Some.field-0-is ∙ ap (λ (command : Told). Some command) c.in-Path.is) in
    let image = g.I.Source.state in let input = g.J.Source.state in let words = texts c.args.words.now in
    let asked = call words (image c.args.image.now) (image c.answer_path.new.image) (input c.args.input.now) (input c.answer_path.new.input) in
    let p = said_program c.in-Path.program in
    program_first asked p _ _ (path_program (said_intake c.in-Path.intake) words (p, means)) c.answer_path.ensures.first

pub returns-in-Counts-clause-first : goal.returns-in-Counts-clause-first
returns-in-Counts-clause-first g c =
    let means = sym c.in-Ok-Some.ensures.value ∙ ap (option_map said) (c.in-Ok-Some.field-0-is ∙ ap (λ (command : Told). Some command) c.in-Counts.is) in
    let image = g.I.Source.state in let input = g.J.Source.state in let words = texts c.args.words.now in
    let asked = call words (image c.args.image.now) (image c.answer_counts.new.image) (input c.args.input.now) (input c.answer_counts.new.input) in
    let p = said_program c.in-Counts.program in
    program_first asked p _ _ (counts_program (said_intake c.in-Counts.intake) words (p, means)) c.answer_counts.ensures.first

pub returns-in-Packets-clause-first : goal.returns-in-Packets-clause-first
returns-in-Packets-clause-first g c =
    let means = sym c.in-Ok-Some.ensures.value ∙ ap (option_map said) (c.in-Ok-Some.field-0-is ∙ ap (λ (command : Told). Some command) c.in-Packets.is) in
    let words = texts c.args.words.now in
    bare_first words _ (g.I.Source.state c.args.image.now) _ _ _ (packets_kind (said_intake c.in-Packets.intake) words means)
    (printed_none_bad _ _ _ _ _ _ _ _ c.print_streams.result c.print_streams.ensures.listed) c.print_streams.ensures.input_lasts

pub returns-in-Times-clause-first : goal.returns-in-Times-clause-first
returns-in-Times-clause-first g c =
    let means = sym c.in-Ok-Some.ensures.value ∙ ap (option_map said) (c.in-Ok-Some.field-0-is ∙ ap (λ (command : Told). Some command) c.in-Times.is) in
    let words = texts c.args.words.now in
    bare_first words _ (g.I.Source.state c.args.image.now) _ _ _ (times_kind (said_intake c.in-Times.intake) words means)
    (printed_none_bad _ _ _ _ _ _ _ _ c.print_streams-in-Times.result c.print_streams-in-Times.ensures.listed) c.print_streams-in-Times.ensures.input_lasts

pub returns-in-Retired-clause-first : goal.returns-in-Retired-clause-first
returns-in-Retired-clause-first g c =
    let means = sym c.in-Ok-Some.ensures.value ∙ ap (option_map said) (c.in-Ok-Some.field-0-is ∙ ap (λ (command : Told). Some command) c.in-Retired.is) in
    let image = g.I.Source.state in let input = g.J.Source.state in let words = texts c.args.words.now in
    let asked = call words (image c.args.image.now) (image c.answer_retired.new.image) (input c.args.input.now) (input c.answer_retired.new.input) in
    let p = said_program c.in-Retired.program in
    program_first asked p _ _ (retired_program words (p, means)) c.answer_retired.ensures.first

pub returns-in-Trace-clause-first : goal.returns-in-Trace-clause-first
returns-in-Trace-clause-first g c =
    let means = sym c.in-Ok-Some.ensures.value ∙ ap (option_map said) (c.in-Ok-Some.field-0-is ∙ ap (λ (command : Told). Some command) c.in-Trace.is) in
    let image = g.I.Source.state in let input = g.J.Source.state in let words = texts c.args.words.now in
    let asked = call words (image c.args.image.now) (image c.answer_trace.new.image) (input c.args.input.now) (input c.answer_trace.new.input) in
    let p = said_program c.in-Trace.program in
    program_first asked p _ _ (trace_program c.in-Trace.last c.in-Trace.every words (p, means)) c.answer_trace.ensures.first

pub returns-in-Selftest-clause-first : goal.returns-in-Selftest-clause-first
returns-in-Selftest-clause-first g c = nothing_first _ _ _ (g.I.Source.state c.args.image.now) (g.J.Source.state c.args.input.now) _ refl

pub returns-in-Ok-None-clause-first : goal.returns-in-Ok-None-clause-first
returns-in-Ok-None-clause-first g c = nothing_first _ _ _ (g.I.Source.state c.args.image.now) (g.J.Source.state c.args.input.now) _ refl

pub returns-in-Err-clause-first : goal.returns-in-Err-clause-first
returns-in-Err-clause-first g c = nothing_first _ _ _ (g.I.Source.state c.args.image.now) (g.J.Source.state c.args.input.now) _ refl
