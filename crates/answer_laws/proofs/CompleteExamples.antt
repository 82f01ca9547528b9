-- Calls on which nothing failed, with good input, and near misses; and what each law about them says of one small call.
use Rattle.std.proofs.Common.{◌≡◌, ◌⊎◌, ℕ, ◌≤◌, List, [], ◌∷◌, length, Some, None, Ok, refl, subst, inl, inr, arith, ap, codes}
use Rattle.answer_laws.specs.Complete.{AreAlike, FaultsAreDecided, HasInput, HasRunFile, IsDone, IsDoneOrFaulted, NothingFailed, NumbersAreDone}
use Rattle.answer_laws.specs.Complete.{PacketsAreDone, PathsAreDone, RunFilesAreDone, ShowAlike}
use Rattle.answer_lines.specs.declared.status.Status.TheVariants as status
use Rattle.run_file.specs.Parts.{BenchParts}
use Rattle.run_file.specs.Refusals.{bench_of}
use Rattle.run_file.specs.declared.fault.BenchWhy.{BenchWhy}
use Rattle.command_words.specs.Words.{Program}
use Rattle.command_words.specs.declared.words.ProgramForm.TheVariants as form
use Rattle.input_pieces.specs.Listed.{most_input}
use Rattle.program_image.specs.declared.image.Image.{Image}
use Rattle.retired_paths.proofs.RetiredExamples as retired
use Rattle.run_file.specs.declared.fault.BenchWhy.TheVariants.{Run}
use Rattle.spec_run.specs.declared.run_fault.RunFault.TheVariants as fault
use Rattle.trace_cmd.proofs.Programs.{apart}
use Rattle.trace_cmd.proofs.StatusExamples as world
use Rattle.trace_cmd.specs.Answers.{Answers, Call, HasImage, IsBareCall, call}
use Rattle.trace_io.specs.State.{IoState}
use Rattle.traced_runs.specs.Selftest.{AreGood}
use Rattle.traced_runs.specs.Traced.{trace_frames}

abbrev shows : List ℕ → ℕ → IoState
shows bytes faults = record { bytes = Some bytes; faults = faults }

-- so many calls on image, input and output failed before, and so many behind
abbrev failures : ℕ → ℕ → ℕ → ℕ → Type 0
failures before image input out =
    NothingFailed (call [] (shows [] before) (shows [] image) (shows [] before) (shows [] input)) (shows [] before) (shows [] out)

pub none_failed : failures 0 0 0 0
none_failed = record { image = λ rose. omega (arith, rose); input = λ rose. omega (arith, rose); out = λ rose. omega (arith, rose) }

pub none_more_failed : failures 5 5 5 5
none_more_failed = record { image = λ rose. omega (arith, rose); input = λ rose. omega (arith, rose); out = λ rose. omega (arith, rose) }

pub one_of_the_image : failures 0 1 0 0 → ⊥
one_of_the_image nothing = nothing.image (omega arith)

pub one_of_the_input : failures 5 5 6 5 → ⊥
one_of_the_input nothing = nothing.input (omega arith)

pub one_of_the_output : failures 0 0 0 2 → ⊥
one_of_the_output nothing = nothing.out (omega arith)

-- at the last value no count tells
pub at_its_last_value : failures 18446744073709551615 18446744073709551615 18446744073709551615 18446744073709551615 → ⊥
at_its_last_value nothing = nothing.input (omega arith)

-- ---- what is shown of an input

abbrev of_input : IoState → Call
of_input input = call [] (shows [] 0) (shows [] 0) input (shows [] 0)

pub input_shown : HasInput (of_input (shows (1 ∷ 2 ∷ []) 0))
input_shown = record { bytes = 1 ∷ 2 ∷ []; shows = refl; few = omega arith }

pub input_hidden : HasInput (of_input (record { bytes = None; faults = 0 })) → ⊥
input_hidden has = let none : None ≡ Some has.bytes = has.shows in absurd cc

pub input_too_long : (bytes : List ℕ) → length bytes ≡ 1073741825 → HasInput (of_input (shows bytes 0)) → ⊥
input_too_long bytes many has =
    let same : Some bytes ≡ Some has.bytes = has.shows in let is : bytes ≡ has.bytes = cc in absurd (omega (arith, many, ap length is, has.few))

-- 1 GiB
pub longest_input : (bytes : List ℕ) → length bytes ≡ 1073741824 → HasInput (of_input (shows bytes 0))
longest_input bytes many = record { bytes = bytes; shows = refl; few = omega (arith, many) }

pub run_file_shown : HasRunFile (of_input (shows retired.good 0)) retired.code retired.good_parts
run_file_shown = record { file = retired.good; shows = refl; accepted = retired.good_accepted }

pub run_file_refused : (b : BenchParts) → HasRunFile (of_input (shows retired.bad 0)) retired.code b → ⊥
run_file_refused b has =
    let same : Some retired.bad ≡ Some has.file = has.shows in let is : has.file ≡ retired.bad = cc in
    apart {E = ℕ × BenchWhy} (bench_of retired.code retired.bad) b (3, Run fault.NotOn)
    (subst (λ (f : List ℕ). bench_of retired.code f ≡ Ok b) is has.accepted) retired.bad_refused

-- ---- answers

pub are_done : IsDone status.Done × IsDone status.NoMemory
are_done = (inl refl, inr refl)

pub faulted_is_not_done : IsDone status.Faulted → ⊥
faulted_is_not_done (inl is) = cc
faulted_is_not_done (inr is) = cc

pub failed_is_not_done : IsDone status.ReadFault → ⊥
failed_is_not_done (inl is) = cc
failed_is_not_done (inr is) = cc

pub are_done_or_faulted : IsDoneOrFaulted status.Done × IsDoneOrFaulted status.Faulted × IsDoneOrFaulted status.NoMemory
are_done_or_faulted = (inl refl, inr (inl refl), inr (inr refl))

pub too_long_is_neither : IsDoneOrFaulted status.InputTooLong → ⊥
too_long_is_neither (inl is) = cc
too_long_is_neither (inr (inl is)) = cc
too_long_is_neither (inr (inr is)) = cc

pub written_short_is_neither : IsDoneOrFaulted status.WriteFault → ⊥
written_short_is_neither (inl is) = cc
written_short_is_neither (inr (inl is)) = cc
written_short_is_neither (inr (inr is)) = cc

-- ---- what the laws say of a call on which nothing failed

abbrev text_program : Program
text_program = record { name = codes "img"; form = form.Text }

abbrev path_words : List (List ℕ)
path_words = codes "path" ∷ codes "img" ∷ []

-- so much of the input is left
abbrev path_call : List ℕ → List ℕ → Call
path_call input left = call path_words (shows world.code_text 0) (shows [] 0) (shows input 0) (shows left 0)

has_code : HasImage (path_call (1 ∷ []) []) retired.code
has_code = record { program = text_program; named = refl; bytes = world.code_text; shows = refl; spells = world.code_is }

has_code_too : HasImage (world.over_code retired.good [] 0) retired.code
has_code_too = record { program = text_program; named = refl; bytes = world.code_text; shows = refl; spells = world.code_is }

abbrev nothing_failed : Call → Type 0
nothing_failed c = NothingFailed c (shows [] 0) (shows (65 ∷ []) 0)

pub a_good_run_file_is_not_too_long : RunFilesAreDone → Answers (world.over_code retired.good [] 0) (shows [] 0) (shows (65 ∷ []) 0) status.WriteFault → ⊥
a_good_run_file_is_not_too_long law answers =
    let nothing : nothing_failed (world.over_code retired.good [] 0) = record {
      image = λ rose. omega (arith, rose);
      input = λ rose. omega (arith, rose);
      out = λ rose. omega (arith, rose);
    } in
    let file : HasRunFile (world.over_code retired.good [] 0) retired.code retired.good_parts =
    record { file = retired.good; shows = refl; accepted = retired.good_accepted } in
    by (law (world.over_code retired.good [] 0) (shows [] 0) (shows (65 ∷ []) 0) status.WriteFault retired.code retired.good_parts refl has_code_too file
    nothing answers)
  where
    by : IsDone status.WriteFault → ⊥
    by (inl is) = cc
    by (inr is) = cc

pub a_good_path_is_read : PathsAreDone → Answers (path_call (1 ∷ []) []) (shows [] 0) (shows (65 ∷ []) 0) status.ReadFault → ⊥
a_good_path_is_read law answers =
    let nothing : nothing_failed (path_call (1 ∷ []) []) = record {
      image = λ rose. omega (arith, rose);
      input = λ rose. omega (arith, rose);
      out = λ rose. omega (arith, rose);
    } in
    let input : HasInput (path_call (1 ∷ []) []) = record { bytes = 1 ∷ []; shows = refl; few = omega arith } in
    by (law (path_call (1 ∷ []) []) (shows [] 0) (shows (65 ∷ []) 0) status.ReadFault retired.code refl has_code input nothing answers)
  where
    by : IsDoneOrFaulted status.ReadFault → ⊥
    by (inl is) = cc
    by (inr (inl is)) = cc
    by (inr (inr is)) = cc

pub good_packets_are_known : PacketsAreDone → Answers (world.over_input world.packets_words (1 ∷ []) [] 0) (shows [] 0) (shows (65 ∷ []) 0) status.Usage → ⊥
good_packets_are_known law answers =
    let c = world.over_input world.packets_words (1 ∷ []) [] 0 in
    let nothing : nothing_failed c = record {
      image = λ rose. omega (arith, rose);
      input = λ rose. omega (arith, rose);
      out = λ rose. omega (arith, rose);
    } in
    let input : HasInput c = record { bytes = 1 ∷ []; shows = refl; few = omega arith } in
    by (law c (shows [] 0) (shows (65 ∷ []) 0) status.Usage refl input nothing answers)
  where
    by : IsDoneOrFaulted status.Usage → ⊥
    by (inl is) = cc
    by (inr (inl is)) = cc
    by (inr (inr is)) = cc

abbrev number_call : Call
number_call = call (codes "selftest" ∷ codes "7" ∷ []) (shows [] 0) (shows [] 0) (shows [] 0) (shows [] 0)

pub a_number_is_never_faulted : (image : Image) (b : BenchParts) → AreGood 7 image b → length (trace_frames image b) ≤ most_input → NumbersAreDone
    → Answers number_call (shows [] 0) (shows (65 ∷ []) 0) status.Faulted → ⊥
a_number_is_never_faulted image b good few law answers =
    let nothing : nothing_failed number_call = record {
      image = λ rose. omega (arith, rose);
      input = λ rose. omega (arith, rose);
      out = λ rose. omega (arith, rose);
    } in
    by (law number_call (shows [] 0) (shows (65 ∷ []) 0) status.Faulted 7 None image b refl good few nothing answers)
  where
    by : IsDone status.Faulted → ⊥
    by (inl is) = cc
    by (inr is) = cc

-- ---- calls that are alike

abbrev packets_call : IoState → List ℕ → Call
packets_call image input = call world.packets_words image image (shows input 0) (shows [] 0)

-- the image counts where one is read alone
pub alike : AreAlike (packets_call (shows (1 ∷ []) 0) world.three) (packets_call (shows (2 ∷ []) 7) world.three)
alike = record { words = refl; images = inl refl; input_bytes = world.three; inputs = (refl, refl) }

pub not_with_another_input : AreAlike (packets_call (shows [] 0) world.three) (packets_call (shows [] 0) (1 ∷ [])) → ⊥
not_with_another_input are =
    let one : Some world.three ≡ Some are.input_bytes = are.inputs.0 in let other : Some (1 ∷ []) ≡ Some are.input_bytes = are.inputs.1 in
    let same : world.three ≡ 1 ∷ [] = cc in absurd (omega (arith, ap length same))

pub not_over_another_image : AreAlike (path_call [] []) (call path_words (shows [] 0) (shows [] 0) (shows [] 0) (shows [] 0)) → ⊥
not_over_another_image are = by are.images
  where
    by : IsBareCall path_words ⊎ ((bytes : List ℕ) × ShowAlike (shows world.code_text 0) (shows [] 0) bytes) → ⊥
    by (inl bare) = absurd cc
    by (inr (bytes, (one, other))) =
        let first : Some world.code_text ≡ Some bytes = one in let second : Some [] ≡ Some bytes = other in
        let same : world.code_text ≡ [] = cc in absurd (omega (arith, ap length same))

-- what is faulted in one call is done in none that is alike
pub a_cut_frame_is_done_nowhere : FaultsAreDecided
    → Answers (world.over_input world.packets_words world.three [] 0) (shows [] 0) (shows [] 0) status.Done → ⊥
a_cut_frame_is_done_nowhere law done =
    law (world.over_input world.packets_words world.three [] 0) (world.over_input world.packets_words world.three [] 0) (shows [] 0) (shows [] 0) world.out
    (world.printed world.cut_text) (record { words = refl; images = inl refl; input_bytes = world.three; inputs = (refl, refl) }) done world.cut_frame
