-- What bytes say of a program, and that they say one thing.
use Rattle.std.proofs.Common.{◌≡◌, ◌⊎◌, ℕ, ◌+◌, ◌<◌, List, length, Some, Result, Ok, Err, IsErr, refl, sym, ap, subst, inl, inr, ◌∙◌}
use Rattle.answer_lines.specs.Prints.{Prints}
use Rattle.answer_lines.specs.declared.status.Status.{Status}
use Rattle.answer_lines.specs.declared.status.Status.TheVariants as status
use Rattle.std.specs.Io.KnownBytes.{Consumes, IsAtEnd}
use Rattle.command_words.specs.Words.{Program}
use Rattle.command_words.specs.declared.words.ProgramForm.{ProgramForm}
use Rattle.command_words.specs.declared.words.ProgramForm.TheVariants as form
use Rattle.elf_image.specs.Answers.{TakesNoElf}
use Rattle.elf_image.specs.ElfText.{elf_text}
use Rattle.elf_image.specs.declared.fault.ElfWhy.{ElfWhy}
use Rattle.elf_image.specs.declared.fault.ElfWhy.TheVariants.{TooLong}
use Rattle.elf_image.proofs.First as first
use Rattle.program_image.proofs.Placed.{image_read}
use Rattle.program_image.proofs.TooLong.{too_long}
use Rattle.program_image.specs.Answers.{TakesNoImage}
use Rattle.program_image.specs.ImageText.{image_of}
use Rattle.program_image.specs.Part.{IsImage}
use Rattle.program_image.specs.declared.fault.ImageWhy.{ImageWhy}
use Rattle.program_image.specs.declared.fault.ImageWhy.TheVariants as image_why
use Rattle.program_image.specs.declared.image.Image.{Image}
use Rattle.trace_cmd.specs.Answers.{Answers, Call, ImageText, IsProgramBad, ReadsProgram, call}
use Rattle.trace_cmd.specs.Programs.{BadFile, BadText, HasProgram, NoProgram, Refuses, Spells, TakesNoProgram, line_of, most_by, most_of}
use Rattle.trace_io.specs.Bytes.{AppendsAll, AppendsFront, TakesAtMost}
use Rattle.trace_io.specs.Calls.{Lasts}
use Rattle.trace_io.specs.Causes.{KeepsFaults}
use Rattle.trace_io.specs.State.{IoState}
use Rattle.trace_io.specs.declared.traits.Failed.{Failed}

-- what is good has no fault
pub apart : {A E : Type 0} (r : Result A E) (x : A) (fault : E) → r ≡ Ok x → r ≡ Err fault → ⊥
apart r x fault good bad = let both : Ok x ≡ Err fault = sym good ∙ bad in cc

-- and is one
good_twice : {A E : Type 0} (r : Result A E) (x y : A) → r ≡ Ok x → r ≡ Ok y → y ≡ x
good_twice r x y good also = let both : Ok y ≡ Ok x = sym also ∙ good in cc

pub one_image : (text other : List ℕ) (image parts : Image) → other ≡ text → image_of text ≡ Ok image → image_of other ≡ Ok parts → parts ≡ image
one_image text other image parts same is also = good_twice (image_of other) image parts (ap image_of same ∙ is) also

-- words name one program
pub one_program : (p q : Program) (words : List (List ℕ)) → HasProgram p words → HasProgram q words → q ≡ p
one_program p q words named also = let both : Some q ≡ Some p = sym also ∙ named in cc

-- bytes spell one image
pub one_spelled : (f : ProgramForm) (bytes other : List ℕ) (image parts : Image) → other ≡ bytes → Spells f bytes image → Spells f other parts
    → parts ≡ image
one_spelled form.Text bytes other image parts same is also = one_image bytes other image parts same is also
one_spelled form.Elf bytes other image parts same (text, told, is) (text', told', also) =
    let texts = good_twice (elf_text other) text text' (ap elf_text same ∙ told) told' in one_image text text' image parts texts is also

-- and are not refused then
pub not_refused : (f : ProgramForm) (bytes : List ℕ) (image : Image) (refusal : NoProgram) → Spells f bytes image → Refuses f bytes refusal → ⊥
not_refused form.Text bytes image (BadText line why) is refused = apart {E = ℕ × ImageWhy} (image_of bytes) image (line, why) is refused
not_refused form.Text bytes image (BadFile why) is refused = refused
not_refused form.Elf bytes image (BadText line why) is refused = refused
not_refused form.Elf bytes image (BadFile why) is refused = apart {E = ElfWhy} (elf_text bytes) is.0 why is.1 refused

-- they are not too many
pub not_too_long : (f : ProgramForm) (bytes : List ℕ) (image : Image) → most_by f < length bytes → Spells f bytes image → ⊥
not_too_long form.Text bytes image long is =
    apart {E = ℕ × ImageWhy} (image_of bytes) image (0, image_why.TooLong) is (too_long bytes 0 image_why.TooLong long refl refl)
not_too_long form.Elf bytes image long is = apart {E = ElfWhy} (elf_text bytes) is.0 TooLong is.1 (first.too_long bytes TooLong long refl)

-- what they spell is an image
pub spelled_image : (f : ProgramForm) (bytes : List ℕ) (image : Image) → Spells f bytes image → IsImage image
spelled_image form.Text bytes image is = image_read bytes image is
spelled_image form.Elf bytes image is = image_read is.0 image is.2

-- ---- a program that is refused

pub text_refused : (p : Program) (old new : IoState) (line : ℕ) (why : ImageWhy) → p.form ≡ form.Text → TakesNoImage old new line why
    → TakesNoProgram p old new (BadText line why)
text_refused p old new line why is taken =
    subst (λ (f : ProgramForm). (bytes : List ℕ) × Consumes old.bytes new.bytes bytes × Refuses f bytes (BadText line why)
    × (IsAtEnd new.bytes ⊎ (most_by f < length bytes))) (sym is) taken

pub file_refused : (p : Program) (old new : IoState) (why : ElfWhy) → p.form ≡ form.Elf → TakesNoElf old new why → TakesNoProgram p old new (BadFile why)
file_refused p old new why is taken =
    subst (λ (f : ProgramForm). (bytes : List ℕ) × Consumes old.bytes new.bytes bytes × Refuses f bytes (BadFile why)
    × (IsAtEnd new.bytes ⊎ (most_by f < length bytes))) (sym is) taken

-- no more is taken than its form allows
pub few_by : (f form : ProgramForm) (old new : IoState) → f ≡ form → TakesAtMost old new (most_by form + 1) → TakesAtMost old new (most_by f + 1)
few_by f form old new is few = subst (λ (g : ProgramForm). TakesAtMost old new (most_by g + 1)) (sym is) few

-- how it is answered
abbrev pub status_of : NoProgram → Status
status_of (BadText line why) = status.ImageBad line why
status_of (BadFile why) = status.ElfBad why

refused_so : (c : Call) (old new : IoState) (refusal : NoProgram) → Prints (IsProgramBad c refusal) old new → Answers c old new (status_of refusal)
refused_so c old new (BadText line why) prints = inl prints
refused_so c old new (BadFile why) prints = prints

module _ (p : Program) (image image' : IoState) (Unprinted : Type 0) (out out' : IoState) (refusal : NoProgram)
    (refused : TakesNoProgram p image image' refusal) (few : TakesAtMost image image' (most_of p + 1)) (kept : KeepsFaults image image')
    (lasts : Lasts image image') where
  abbrev Reads : Result (Result Image Status) Failed → Type 0
  Reads r = ReadsProgram p image image' Unprinted out out' r

  is_bad : (words : List (List ℕ)) (input : IoState) → HasProgram p words → IsProgramBad (call words image image' input input) refusal (line_of refusal)
  is_bad words input named = record { program = p; named = named; refused = refused; printed = refl }

  abbrev no_image : Status → Result (Result Image Status) Failed
  no_image s = Ok (Err s)

  same_status : (s : Status) → no_image (status_of refusal) ≡ no_image s → status_of refusal ≡ s
  same_status s is = cc

  -- the line that says so was written
  pub refused_reads : AppendsAll out out' (line_of refusal) → Reads (Ok (Err (status_of refusal)))
  refused_reads all = record {
    good = λ parts is. absurd cc;
    answered = λ s is words input named. subst (Answers (call words image image' input input) out out') (same_status s is)
        (refused_so (call words image image' input input) out out' refusal (line_of refusal, is_bad words input named, all));
    failed = λ fails. absurd (let e = fails in cc);
    taken = few;
    kept = inr kept;
    lasts = lasts;
  }

  -- it was not, or not whole
  pub unwritten_reads : (r : Result (Result Image Status) Failed) → IsErr r → AppendsFront out out' (line_of refusal) → Reads r
  unwritten_reads (Ok x) fails front = absurd (let e = fails in cc)
  unwritten_reads (Err e) fails front = record {
    good = λ parts is. absurd cc;
    answered = λ s is. absurd cc;
    failed = λ fails words input named. inl (ImageText refusal, (line_of refusal, is_bad words input named, front));
    taken = few;
    kept = inr kept;
    lasts = lasts;
  }
