-- The image is read first, by each way that a call goes.
use Rattle.std.proofs.Common.{◌≡◌, ◌⊎◌, ℕ, List, Option, Result, Ok, Err, refl, subst, inl, inr, arith}
use Rattle.answer_lines.specs.declared.status.Status.{Status}
use Rattle.answer_lines.specs.declared.status.Status.TheVariants as status
use Rattle.capture_streams.specs.Laid.{Laid}
use Rattle.capture_streams.specs.Texts.{Listing}
use Rattle.elf_image.specs.declared.fault.ElfWhy.{ElfWhy}
use Rattle.input_pieces.specs.Listed.{Listed}
use Rattle.program_image.specs.declared.fault.ImageWhy.{ImageWhy}
use Rattle.program_image.specs.declared.image.Image.{Image}
use Rattle.retired_paths.specs.Retired.{IsRetiredText, RetiresSo, RunsSo}
use Rattle.trace_cmd.specs.Answers.{Call, ImageFirst, IsBareCall, ProgramFirst, ReadsFirst, ReadsProgram, call}
use Rattle.trace_cmd.specs.Programs.{HasProgram, most_taken}
use Rattle.command_words.specs.Words.{Program}
use Rattle.trace_cmd.proofs.AnswerLemmas.{none_taken}
use Rattle.trace_cmd.proofs.WordKinds.{read_first, taken_at_most}
use Rattle.trace_io.specs.Bytes.{TakesAtMost}
use Rattle.trace_io.specs.Calls.{Lasts}
use Rattle.trace_io.specs.Causes.{KeepsFaults}
use Rattle.trace_io.specs.State.{IoState}
use Rattle.trace_io.specs.declared.traits.Failed.{Failed}
use Rattle.traced_runs.specs.Traced.{AreWritten, TracesSo}

lasts_here : (s : IoState) → Lasts s s
lasts_here s = record { shows = refl; later = omega arith }

-- ---- the input was not touched

-- nor was the image
pub nothing_first : (most : ℕ) (Good Untouched : Type 0) (image input : IoState) (r : Result Status Failed) → Untouched
    → ImageFirst most Good Untouched image image input input r
nothing_first most Good Untouched image input r same = record {
  image_few = none_taken image most;
  order = inl same;
  image_failed = inr same;
  image_first = λ line why is. same;
  elf_first = λ why is. same;
  image_lasts = lasts_here image;
  input_lasts = lasts_here input;
}

-- the image was read, and is none
pub image_alone : (most : ℕ) (Good Untouched : Type 0) (image image' input : IoState) (r : Result Status Failed) → Untouched → TakesAtMost image image' most
    → Lasts image image' → ImageFirst most Good Untouched image image' input input r
image_alone most Good Untouched image image' input r same few lasts = record {
  image_few = few;
  order = inl same;
  image_failed = inr same;
  image_first = λ line why is. same;
  elf_first = λ why is. same;
  image_lasts = lasts;
  input_lasts = lasts_here input;
}

-- ---- the input was read

-- no answer tells why there is no image, or this is so
abbrev pub NoneBad : Type 0 → Result Status Failed → Type 0
NoneBad A r = ((line : ℕ) (why : ImageWhy) → r ≡ Ok (status.ImageBad line why) → A) × ((why : ElfWhy) → r ≡ Ok (status.ElfBad why) → A)

-- an input was printed, or the memory was wanting
module _ (A B : Type 0) (laid : Laid) (g : Listing) (input input' old new : IoState) (r : Result Status Failed) where
  abbrev pub Printed : Type 0
  Printed = ((r ≡ Ok status.NoMemory) × A × B) ⊎ Listed laid g input input' old new r

  pub printed_none_bad : Printed → NoneBad A r
  printed_none_bad (inl none) = (λ line why is. none.1, λ why is. none.1)
  printed_none_bad (inr listed) = (
    λ line why is. absurd (subst (Listed laid g input input' old new) is listed),
    λ why is. absurd (subst (Listed laid g input input' old new) is listed),
  )

  pub printed_no_memory : Printed → r ≡ Ok status.NoMemory → A
  printed_no_memory (inl none) is = none.1
  printed_no_memory (inr listed) is = absurd (subst (Listed laid g input input' old new) is listed)

-- a run file was answered
pub run_none_bad : (A : Type 0) (kind : List ℕ → Type 0) (image : Image) (input input' old new : IoState) (r : Result Status Failed)
    → RunsSo kind image input input' old new r → NoneBad A r
run_none_bad A kind image input input' old new r runs = (
  λ line why is. absurd (subst (RunsSo kind image input input' old new) is runs),
  λ why is. absurd (subst (RunsSo kind image input input' old new) is runs),
)

pub retired_none_bad : (A : Type 0) (image : Image) (input input' old new : IoState) (r : Result Status Failed) → RetiresSo image input input' old new r
    → NoneBad A r
retired_none_bad A image input input' old new r runs = run_none_bad A (IsRetiredText image input input') image input input' old new r runs

pub traced_none_bad : (A : Type 0) (image : Image) (last every : Option ℕ) (input input' old new : IoState) (r : Result Status Failed)
    → TracesSo image last every input input' old new r → NoneBad A r
traced_none_bad A image last every input input' old new r runs =
    run_none_bad A (AreWritten image last every input input') image input input' old new r runs

-- the image was not touched
pub bare_first : (words : List (List ℕ)) (A : Type 0) (image input input' : IoState) (r : Result Status Failed) → IsBareCall words → NoneBad A r
    → Lasts input input' → ImageFirst (most_taken words) (ReadsFirst (call words image image input input')) A image image input input' r
bare_first words A image input input' r bare bad lasts = record {
  image_few = none_taken image (most_taken words);
  order = inr (inr bare);
  image_failed = inl refl;
  image_first = bad.0;
  elf_first = bad.1;
  image_lasts = lasts_here image;
  input_lasts = lasts;
}

-- the image was read before, and is this one
module _ (p : Program) (image image' : IoState) (Unprinted : Type 0) (out out' : IoState) (read : Result (Result Image Status) Failed)
    (reads : ReadsProgram p image image' Unprinted out out' read) (parts : Image) (good : read ≡ Ok (Ok parts)) where
  kept : (read ≡ Ok (Err status.ReadFault)) ⊎ KeepsFaults image image' → KeepsFaults image image'
  kept (inl is) = absurd cc
  kept (inr is) = is

  pub good_first : (A : Type 0) (input input' : IoState) (r : Result Status Failed) → NoneBad A r → Lasts input input'
      → ProgramFirst p A image image' input input' r
  good_first A input input' r bad lasts = record {
    image_few = reads.taken;
    order = inr (parts, (reads.good parts good).0);
    image_failed = inl (kept reads.kept);
    image_first = bad.0;
    elf_first = bad.1;
    image_lasts = reads.lasts;
    input_lasts = lasts;
  }

-- ---- by the words that name the program

pub program_first : (c : Call) (p : Program) (A : Type 0) (r : Result Status Failed) → HasProgram p c.words
    → ProgramFirst p A c.image c.image' c.input c.input' r
    → ImageFirst (most_taken c.words) (ReadsFirst c) A c.image c.image' c.input c.input' r
program_first c p A r named first = record {
  image_few = taken_at_most p c.words c.image c.image' named first.image_few;
  order = read_first c p A named first.order;
  image_failed = first.image_failed;
  image_first = first.image_first;
  elf_first = first.elf_first;
  image_lasts = first.image_lasts;
  input_lasts = first.input_lasts;
}
