-- Where the words mean nothing, there are three answers.
use Rattle.std.proofs.Common.{◌≡◌, ◌⊎◌, ℕ, List, Option, Some, None, refl, sym, subst, ◌∙◌, inl, inr}
use Rattle.std.specs.Option.{option_and_then}
use Rattle.answer_lines.specs.declared.status.Status.{Status}
use Rattle.answer_lines.specs.declared.status.Status.TheVariants as status
use Rattle.command_words.specs.Words.{Command, Counts, NoCommand, Packets, Path, Program, Retired, RunFileKind, Selftest, Times, Trace, meaning, program_of}
use Rattle.trace_cmd.proofs.WordKinds.{no_kind, one_kind}
use Rattle.trace_cmd.specs.Answers.{Answers, Asks, Call, IsRunFileCall, IsSelftestOf}
use Rattle.trace_cmd.specs.Printing.{CountsOf, PacketsOf, PathsOf, TimesOf, What}
use Rattle.trace_cmd.specs.Programs.{HasProgram}
use Rattle.trace_io.specs.State.{IoState}

abbrev IsOneOfThree : Status → Type 0
IsOneOfThree s = (s ≡ status.Usage) ⊎ (s ≡ status.WriteFault) ⊎ (s ≡ status.NoMemory)

module _ (c : Call) (none : meaning c.words ≡ None) where
  no_command : (command : Command) → meaning c.words ≡ Some command → ⊥
  no_command command is = let both : None ≡ Some command = sym none ∙ is in cc

  no_program : (p : Program) → HasProgram p c.words → ⊥
  no_program p is = let named : option_and_then program_of None ≡ Some p = subst (λ m. option_and_then program_of m ≡ Some p) none is in cc

  no_run_file : IsRunFileCall c.words → ⊥
  no_run_file is = let both : NoCommand ≡ RunFileKind = one_kind NoCommand RunFileKind c.words (no_kind c.words none) is in cc

  no_number : (n : ℕ) (cut : Option ℕ) → IsSelftestOf n cut c.words → ⊥
  no_number n cut is = no_command (Selftest n cut) is

  no_input : (what : What) → Asks c what → ⊥
  no_input (PathsOf image r) (words, read) = no_command (Path words.0 r) words.1
  no_input (CountsOf image r) (words, read) = no_command (Counts words.0 r) words.1
  no_input (PacketsOf r) words = no_command (Packets r) words
  no_input (TimesOf r) words = no_command (Times r) words

  pub one_of_three : (old new : IoState) (s : Status) → Answers c old new s → IsOneOfThree s
  one_of_three old new status.Done (inl (what, asks, way)) = absurd (no_input what asks)
  one_of_three old new status.Done (inr (inl (text, (words, read), printed))) = absurd (no_command (Retired words.0) words.1)
  one_of_three old new status.Done (inr (inr (inl (text, (last, every, (words, read)), printed)))) =
      absurd (no_command (Trace words.0 last every) words.1)
  one_of_three old new status.Done (inr (inr (inr (text, (n, cut, words, way), printed)))) = absurd (no_number n cut words)
  one_of_three old new status.Faulted (what, asks, way) = absurd (no_input what asks)
  one_of_three old new status.Usage is = inl refl
  one_of_three old new (status.ImageBad line why) (inl (text, bad, printed)) = absurd (no_program bad.program bad.named)
  one_of_three old new (status.ImageBad line why) (inr (text, (n, cut, words, way), printed)) = absurd (no_number n cut words)
  one_of_three old new (status.BenchBad line why) (inl (text, (words, read), printed)) = absurd (no_run_file words)
  one_of_three old new (status.BenchBad line why) (inr (text, (n, cut, words, way), printed)) = absurd (no_number n cut words)
  one_of_three old new (status.ElfBad why) (text, bad, printed) = absurd (no_program bad.program bad.named)
  one_of_three old new status.InputTooLong (inl (what, asks, way)) = absurd (no_input what asks)
  one_of_three old new status.InputTooLong (inr ((n, cut, words, way), printed)) = absurd (no_number n cut words)
  one_of_three old new status.ReadFault (inl fault) = absurd (no_program (fault.command).0 (fault.command).1)
  one_of_three old new status.ReadFault (inr (inl (words, read))) = absurd (no_run_file words)
  one_of_three old new status.ReadFault (inr (inr (what, asks, way))) = absurd (no_input what asks)
  one_of_three old new status.NoMemory is = inr (inr refl)
  one_of_three old new status.WriteFault is = inr (inl refl)
