use Rattle.std.proofs.Common.{Err, ap, sym, inl, inr, ◌∙◌}
use Rattle.command_words.specs.Said.{said_program}
use Rattle.command_words.specs.declared.words.ProgramForm.TheVariants as form
use Rattle.trace_cmd.specs.Programs.{BadFile}
use Rattle.trace_cmd.proofs.Programs.{few_by, file_refused, refused_reads, unwritten_reads}
use Rattle.trace_io.specs.Causes.{KeepsFaults}
use Rattle.trace_cmd.proofs.command.read_file.Goals as goal

pub returns-in_err-write_elf_bad-in-Err-Bad-clause-reads : goal.returns-in_err-write_elf_bad-in-Err-Bad-clause-reads
returns-in_err-write_elf_bad-in-Err-Bad-clause-reads g c =
    let p = said_program c.args.program.now in let e = c.in-Err-Bad.ensures in
    let old = g.I.Source.state c.args.image.now in let new = g.I.Source.state c.read_elf.new.source in
    let why = c.in-Err-Bad.why in let bad = e.bad why (ap Err c.in-Err-Bad.field-0-is) in
    let kept : KeepsFaults old new = elim e.kept [
      | inl is ↦ let both = ap Err (sym c.in-Err-Bad.field-0-is) ∙ is in absurd cc
      | inr kept ↦ kept
    ] in
    unwritten_reads p old new _ _ _ (BadFile why) (file_refused p old new why c.requires bad)
    (few_by p.form form.Elf old new c.requires e.taken) kept e.lasts c.from_residual.result c.from_residual.ensures.0
    c.in_err-write_elf_bad-in-Err-Bad.ensures.front

pub returns-in_ok-write_elf_bad-in-Err-Bad-clause-reads : goal.returns-in_ok-write_elf_bad-in-Err-Bad-clause-reads
returns-in_ok-write_elf_bad-in-Err-Bad-clause-reads g c =
    let p = said_program c.args.program.now in let e = c.in-Err-Bad.ensures in
    let old = g.I.Source.state c.args.image.now in let new = g.I.Source.state c.read_elf.new.source in
    let why = c.in-Err-Bad.why in let bad = e.bad why (ap Err c.in-Err-Bad.field-0-is) in
    let kept : KeepsFaults old new = elim e.kept [
      | inl is ↦ let both = ap Err (sym c.in-Err-Bad.field-0-is) ∙ is in absurd cc
      | inr kept ↦ kept
    ] in
    refused_reads p old new _ _ _ (BadFile why) (file_refused p old new why c.requires bad)
    (few_by p.form form.Elf old new c.requires e.taken) kept e.lasts c.in_ok-write_elf_bad-in-Err-Bad.ensures.whole
