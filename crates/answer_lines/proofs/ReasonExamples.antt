-- The line of each reason for which a run file, an image or an ELF file is refused, and the status of each answer, written out by hand from
-- the tables of docs/FORMATS.md.
use Rattle.std.proofs.Common.{◌≡◌, ℕ, List, [], ◌∷◌, ◌++◌, refl, ap, arith}
use Rattle.std.specs.Prelude.{codes, get_or, length, map}
use Rattle.answer_lines.specs.BenchLine.{bench_line}
use Rattle.answer_lines.specs.Codes.{code_of}
use Rattle.answer_lines.specs.ElfLine.{elf_line}
use Rattle.answer_lines.specs.ImageLine.{image_line}
use Rattle.answer_lines.specs.declared.status.Status.TheVariants as status
use Rattle.run_file.specs.declared.fault.BenchWhy.{BenchWhy}
use Rattle.elf_image.specs.declared.fault.ElfWhy.{ElfWhy}
use Rattle.run_file.specs.declared.fault.BenchWhy.TheVariants as why
use Rattle.elf_image.specs.declared.fault.ElfWhy.TheVariants as elf
use Rattle.path_text.specs.Lines.{in_base}
use Rattle.program_image.specs.declared.fault.ImageWhy.{ImageWhy}
use Rattle.program_image.specs.declared.fault.ImageWhy.TheVariants as image
use Rattle.spec_run.specs.declared.run_fault.RunFault.{RunFault}
use Rattle.spec_run.specs.declared.run_fault.RunFault.TheVariants as fault

-- a run file that is bad at this line, for this, has the line with this text
abbrev IsBad : ℕ → BenchWhy → List ℕ → Type 0
IsBad at reason text = bench_line at reason ≡ text ++ 10 ∷ []

-- and one whose event is refused at line 12
abbrev IsRefused : RunFault → List ℕ → Type 0
IsRefused refused text = IsBad 12 (why.Run refused) text

-- ---- run files

pub bad_lines :
    IsBad 0 why.Header (codes "bench line 0: header")
    × IsBad 10 why.Syntax (codes "bench line 10: syntax")
    × IsBad 4 why.IdRange (codes "bench line 4: id-range")
    × IsBad 4 why.DuplicateId (codes "bench line 4: duplicate-id")
    × IsBad 60908 why.Range (codes "bench line 60908: range")
    × IsBad 0 why.TooLong (codes "bench line 0: too-long")
unfolding in_base
bad_lines = (refl, refl, refl, refl, refl, refl)

pub refused_events :
    IsRefused fault.NotOn (codes "bench line 12: not-on")
    × IsRefused fault.AlreadyOn (codes "bench line 12: already-on")
    × IsRefused (fault.NoCode 0xab0c) (codes "bench line 12: no-code ab0c")
    × IsRefused (fault.Odd 0) (codes "bench line 12: odd 0")
    × IsRefused (fault.WrongKind 0x2008) (codes "bench line 12: wrong-kind 2008")
    × IsRefused (fault.Unaligned 0x2002) (codes "bench line 12: unaligned 2002")
    × IsRefused (fault.TooDeep 17 16) (codes "bench line 12: too-deep 17 16")
    × IsRefused fault.WindowFull (codes "bench line 12: window-full")
    × IsRefused fault.ContextPlace (codes "bench line 12: context-place")
    × IsRefused (fault.RetireTooMany 65535 4) (codes "bench line 12: retire-too-many 65535 4")
    × IsRefused (fault.CancelTooMany 10 0) (codes "bench line 12: cancel-too-many 10 0")
    × IsRefused fault.NoBranchToFlip (codes "bench line 12: no-branch")
unfolding in_base
refused_events = (refl, refl, refl, refl, refl, refl, refl, refl, refl, refl, refl, refl)

-- near misses: the depth before what is held, an address in decimal, a line in hex, names that are near, and no LF
pub depth_is_not_first : IsRefused (fault.TooDeep 17 16) (codes "bench line 12: too-deep 16 17") → ⊥
unfolding in_base
depth_is_not_first e = absurd (omega (arith, ap (λ l. get_or l 25 0) e))

pub held_is_not_first : IsRefused (fault.CancelTooMany 3 2) (codes "bench line 12: cancel-too-many 2 3") → ⊥
unfolding in_base
held_is_not_first e = absurd (omega (arith, ap (λ l. get_or l 31 0) e))

pub no_address_in_decimal : IsRefused (fault.NoCode 0x200c) (codes "bench line 12: no-code 8204") → ⊥
unfolding in_base
no_address_in_decimal e = absurd (omega (arith, ap (λ l. get_or l 23 0) e))

pub no_line_in_hex : IsRefused fault.NotOn (codes "bench line c: not-on") → ⊥
unfolding in_base
no_line_in_hex e = absurd (omega (arith, ap length e))

pub no_flip : IsRefused fault.NoBranchToFlip (codes "bench line 12: no-flip") → ⊥
unfolding in_base
no_flip e = absurd (omega (arith, ap length e))

pub no_code_is_no_wrong_kind : IsRefused (fault.NoCode 0x2008) (codes "bench line 12: wrong-kind 2008") → ⊥
unfolding in_base
no_code_is_no_wrong_kind e = absurd (omega (arith, ap length e))

pub one_id_is_no_other_fault : IsBad 4 why.IdRange (codes "bench line 4: duplicate-id") → ⊥
unfolding in_base
one_id_is_no_other_fault e = absurd (omega (arith, ap length e))

pub not_without_feed : bench_line 4 why.Range ≡ codes "bench line 4: range" → ⊥
unfolding in_base
not_without_feed e = absurd (omega (arith, ap length e))

-- ---- images and ELF files

abbrev IsBadImage : ℕ → ImageWhy → List ℕ → Type 0
IsBadImage at reason text = image_line at reason ≡ text ++ 10 ∷ []

pub bad_images :
    IsBadImage 1 image.Syntax (codes "image line 1: syntax")
    × IsBadImage 20 image.Unaligned (codes "image line 20: unaligned")
    × IsBadImage 300 image.Wraps (codes "image line 300: wraps")
    × IsBadImage 4 image.Overlap (codes "image line 4: overlap")
    × IsBadImage 65 image.TooLarge (codes "image line 65: too-large")
    × IsBadImage 0 image.TooLong (codes "image line 0: too-long")
unfolding in_base
bad_images = (refl, refl, refl, refl, refl, refl)

pub too_large_is_not_too_long : IsBadImage 65 image.TooLarge (codes "image line 65: too-long") → ⊥
unfolding in_base
too_large_is_not_too_long e = absurd (omega (arith, ap length e))

abbrev IsBadFile : ElfWhy → List ℕ → Type 0
IsBadFile reason text = elf_line reason ≡ text ++ 10 ∷ []

pub bad_files :
    IsBadFile elf.TooLong (codes "elf: too-long")
    × IsBadFile elf.Header (codes "elf: header")
    × IsBadFile elf.Table (codes "elf: table")
    × IsBadFile (elf.Segment 0) (codes "elf: segment 0")
    × IsBadFile (elf.Unaligned 12) (codes "elf: unaligned 12")
    × IsBadFile (elf.Wraps 345) (codes "elf: wraps 345")
    × IsBadFile (elf.Overlap 65534) (codes "elf: overlap 65534")
    × IsBadFile elf.TooLarge (codes "elf: too-large")
unfolding in_base
bad_files = (refl, refl, refl, refl, refl, refl, refl, refl)

-- ---- the status of each answer

pub statuses :
    map code_of
    (status.Done ∷ status.Usage ∷ status.ImageBad 3 image.Wraps ∷ status.BenchBad 4 why.Range ∷ status.Faulted ∷ status.ReadFault ∷ status.WriteFault
    ∷ status.NoMemory ∷ status.InputTooLong ∷ status.ElfBad (elf.Segment 5) ∷ [])
    ≡ 0 ∷ 1 ∷ 2 ∷ 3 ∷ 4 ∷ 5 ∷ 6 ∷ 7 ∷ 8 ∷ 9 ∷ []
statuses = refl
