-- A segment that is not refused.
use Rattle.std.proofs.Common.{◌≡◌, ℕ, ◌+◌, ◌%◌, ◌^◌, ◌≤◌, List, length, map, Bool, true, false, ◌&&◌, not, Some, None}
use Rattle.std.proofs.Common.{nat_le, nat_lt, refl, sym, ap, ◌∙◌, cond}
use Rattle.std.specs.Prelude.{◌==◌}
use Rattle.std.specs.List.{list_any}
use Rattle.std.proofs.lemmas.Bool.{and_parts, eqb-true, leb-true, ltb-false}
use Rattle.elf_image.specs.Refusals.{header_refusal, overlap, segment_refusal}
use Rattle.elf_image.specs.Segments.{addresses_of, chosen, is_chosen, segment_end}
use Rattle.elf_image.specs.declared.fault.ElfWhy.TheVariants.{Segment, Unaligned, Wraps, Overlap}
use Rattle.elf_image.specs.declared.header.ProgramHeader.{ProgramHeader}
use Rattle.elf_image.specs.declared.segment.Addresses.{Addresses}

-- its instructions stand in the file, and at addresses
pub record IsSound (file : List ℕ) (h : ProgramHeader) : Type 0 where
  pub stands : h.offset + h.filesz ≤ length file
  pub aligned : h.vaddr % 4 ≡ 0
  pub within : segment_end h ≤ 2 ^ 64
  pub some : 4 ≤ h.filesz

pub some_of : (h : ProgramHeader) → is_chosen h ≡ true → 4 ≤ h.filesz
some_of h is =
    let rest = and_parts (h.kind == 1) (h.flags % 2 == 1 && nat_le 4 h.filesz) is in
    leb-true 4 h.filesz (and_parts (h.flags % 2 == 1) (nat_le 4 h.filesz) rest.1).1

four_tests : (a b c d : Bool) (k : ℕ)
    → cond a (Some (Segment k)) (cond (not b) (Some (Unaligned k)) (cond c (Some (Wraps k)) (cond d (Some (Overlap k)) None))) ≡ None
    → (a ≡ false) × (b ≡ true) × (c ≡ false) × (d ≡ false)
four_tests false true false false k e = (refl, refl, refl, refl)
four_tests false true false true k e = cc
four_tests false true true d k e = cc
four_tests false false c d k e = cc
four_tests true b c d k e = cc

-- and at none that is taken
pub sound : (file : List ℕ) (taken : List Addresses) (k : ℕ) (h : ProgramHeader) → is_chosen h ≡ true → segment_refusal file taken k h ≡ None
    → IsSound file h × (list_any (overlap (addresses_of h)) taken ≡ false)
sound file taken k h is none =
    let tests =
    four_tests (nat_lt (length file) (h.offset + h.filesz)) (h.vaddr % 4 == 0) (nat_lt (2 ^ 64) (segment_end h))
    (list_any (overlap (addresses_of h)) taken) k none in (
      record {
        stands = ltb-false (length file) (h.offset + h.filesz) tests.0;
        aligned = eqb-true (h.vaddr % 4) 0 tests.1;
        within = ltb-false (2 ^ 64) (segment_end h) tests.2;
        some = some_of h is;
      },
      tests.3,
    )

pub tested : (file : List ℕ) (before : List ProgramHeader) (h : ProgramHeader) → is_chosen h ≡ true → header_refusal file before h ≡ None
    → segment_refusal file (map addresses_of (chosen before)) (length before) h ≡ None
tested file before h is none =
    sym (ap (λ (b : Bool). cond b (segment_refusal file (map addresses_of (chosen before)) (length before) h) None) is) ∙ none
