-- Small programs, worked out by hand: what they spell, or why they are refused, beside what comes close.
use Rattle.std.proofs.Common.{◌≡◌, ℕ, ◌+◌, ◌<◌, List, [], ◌∷◌, ◌++◌, length, length-append, drop, take, false, Option, Some, None, Result, Ok, Err}
use Rattle.std.proofs.Common.{refl, ap, ◌∙◌, arith, inl, inr, true}
use Rattle.std.specs.Prelude.{codes, map, replicate}
use Rattle.std.proofs.lemmas.Bool.{le-ltb}
use Rattle.std.specs.Fmt.{digits}
use Rattle.std.specs.List.{range_with_len}
use Rattle.hex.specs.Hex.{encode_with}
use Rattle.elf_image.specs.Answers.{TakesElf, TakesNoElf}
use Rattle.elf_image.specs.ElfText.{elf_text}
use Rattle.elf_image.specs.Faults.{why_number, why_text}
use Rattle.elf_image.specs.Fields.{has_headers, e_machine, e_phentsize, e_phnum, e_phoff, is_header, number_at, program_header, program_headers}
use Rattle.elf_image.specs.FirstRefusal.{HasHeaders, IsFirstRefusal, NoneRefused, NotRefused}
use Rattle.elf_image.specs.Refusals.{elf_refusal, header_refusal}
use Rattle.elf_image.specs.Words.{word_in_file}
use Rattle.elf_image.specs.declared.fault.ElfWhy.{ElfWhy}
use Rattle.elf_image.specs.declared.fault.ElfWhy.TheVariants.{TooLong, Header, Table, Segment, Unaligned, Wraps, Overlap, TooLarge}
use Rattle.elf_image.specs.declared.header.ProgramHeader.{ProgramHeader}
use Rattle.trace_io.specs.State.{IoState}
use Rattle.elf_image.proofs.First.{none_refused, too_long}

-- ---- fields

-- each byte is the number of its place
fields_of_the_file : (e_machine (range_with_len 0 64) ≡ 0x1312) × (e_phoff (range_with_len 0 64) ≡ 0x2726252423222120)
    × (e_phentsize (range_with_len 0 64) ≡ 0x3736) × (e_phnum (range_with_len 0 64) ≡ 0x3938)
unfolding number_at
fields_of_the_file = (refl, refl, refl, refl)

-- and here behind three others
fields_of_a_segment : program_header (replicate 3 0xff ++ range_with_len 0 56) 3
    ≡ record { kind = 0x03020100; flags = 0x07060504; offset = 0x0f0e0d0c0b0a0908; vaddr = 0x1716151413121110; filesz = 0x2726252423222120 }
unfolding number_at
fields_of_a_segment = refl

-- ---- a file

abbrev zeros : ℕ → List ℕ
zeros n = replicate n 0

-- a file header, with its program headers behind it
abbrev head : ℕ → List ℕ → List ℕ
head count rest =
    0x7f ∷ 0x45 ∷ 0x4c ∷ 0x46 ∷ 2 ∷ 1
    ∷ (zeros 12 ++ 0xb7 ∷ (zeros 13 ++ 0x40 ∷ (zeros 21 ++ 0x38 ∷ 0 ∷ count ∷ (zeros 7 ++ rest))))

-- a program header: a segment that is loaded, and read and executed, whose offset and size in the file have one byte and whose address has eight
abbrev segment : ℕ → List ℕ → ℕ → List ℕ
segment offset vaddr filesz = 1 ∷ 0 ∷ 0 ∷ 0 ∷ 5 ∷ 0 ∷ 0 ∷ 0 ∷ offset ∷ (zeros 7 ++ (vaddr ++ (zeros 8 ++ filesz ∷ (zeros 7 ++ filesz ∷ zeros 15))))

-- four instructions: nop, b.eq 8, nop, b -12
abbrev code : List ℕ
code = 0x1f ∷ 0x20 ∷ 0x03 ∷ 0xd5 ∷ 0x40 ∷ 0x00 ∷ 0x00 ∷ 0x54 ∷ 0x1f ∷ 0x20 ∷ 0x03 ∷ 0xd5 ∷ 0xfd ∷ 0xff ∷ 0xff ∷ 0x17 ∷ []

-- an address below 65,536
abbrev low : ℕ → ℕ → List ℕ
low first second = first ∷ second ∷ zeros 6

-- an address of the last 256
abbrev high : ℕ → List ℕ
high first = first ∷ replicate 7 0xff

-- one segment with the code at 1000
abbrev base : List ℕ
base = head 1 (segment 0x78 (low 0 0x10) 16 ++ code)

-- the file with these bytes from an offset on
abbrev put : List ℕ → ℕ → List ℕ → List ℕ
put file at bytes = take at file ++ (bytes ++ drop (at + length bytes) file)

-- two segments, with the code behind their headers
abbrev two : List ℕ → List ℕ → List ℕ
two first second = head 2 (first ++ (second ++ code))

-- ---- what is spelled

abbrev text_at_1000 : List ℕ
text_at_1000 = codes "@0000000000001000\n1f2003d5\n40000054\n1f2003d5\nfdffff17\n"

four_words : elf_text base ≡ Ok text_at_1000
unfolding elf_text number_at encode_with
four_words = refl

-- 15 bytes are three words
three_words : elf_text (put base 96 (15 ∷ [])) ≡ Ok (codes "@0000000000001000\n1f2003d5\n40000054\n1f2003d5\n")
unfolding elf_text number_at encode_with
three_words = refl

-- what the segment has in memory, its physical address, and the other flags and fields count for nothing
abbrev others : List ℕ
others = put (put (put (put (put base 104 (0 ∷ 0x10 ∷ [])) 88 (0 ∷ 0x20 ∷ [])) 68 (0xf1 ∷ 0 ∷ 0 ∷ 0x80 ∷ [])) 7 (9 ∷ 9 ∷ [])) 16 (3 ∷ [])

no_other_field : elf_text others ≡ Ok text_at_1000
unfolding elf_text number_at encode_with
no_other_field = refl

executed_alone : elf_text (put base 68 (1 ∷ [])) ≡ Ok text_at_1000
unfolding elf_text number_at encode_with
executed_alone = refl

-- the program headers may stand anywhere: here behind the code
headers_anywhere : elf_text (take 64 (put base 32 (0x50 ∷ [])) ++ (code ++ segment 0x40 (low 0 0x10) 16)) ≡ Ok text_at_1000
unfolding elf_text number_at encode_with
headers_anywhere = refl

-- in the order of the headers
headers_in_order : elf_text (two (segment 0xb0 (low 0 0x20) 4) (segment 0xb4 (low 0 0x10) 4))
    ≡ Ok (codes "@0000000000002000\n1f2003d5\n@0000000000001000\n40000054\n")
unfolding elf_text number_at encode_with
headers_in_order = refl

-- ---- what is not chosen: then it may be as it will

abbrev nothing : Result (List ℕ) ElfWhy
nothing = Ok []

not_executed : elf_text (put (put base 68 (6 ∷ [])) 96 (0x11 ∷ [])) ≡ nothing
unfolding elf_text number_at encode_with
not_executed = refl

not_loaded : elf_text (put (put base 64 (2 ∷ [])) 80 (2 ∷ [])) ≡ nothing
unfolding elf_text number_at encode_with
not_loaded = refl

not_used : elf_text (put (put base 64 (0 ∷ [])) 80 (2 ∷ [])) ≡ nothing
unfolding elf_text number_at encode_with
not_used = refl

no_instruction : elf_text (put (put base 96 (3 ∷ [])) 80 (2 ∷ [])) ≡ nothing
unfolding elf_text number_at encode_with
no_instruction = refl

-- without program headers neither their size nor their offset counts
no_headers : elf_text (put (put (put base 56 (0 ∷ [])) 54 (0x40 ∷ [])) 32 (replicate 8 0xff)) ≡ nothing
unfolding elf_text number_at encode_with
no_headers = refl

-- ---- the header and the program headers

-- the class, the order of the bytes, the machine, the size of a program header, and 63 bytes
refused_headers : map elf_refusal
    (put base 0 (0x7e ∷ []) ∷ put base 4 (1 ∷ []) ∷ put base 5 (2 ∷ []) ∷ put base 18 (0x3e ∷ []) ∷ put base 19 (1 ∷ []) ∷ put base 54 (0x40 ∷ [])
    ∷ put base 54 (0x37 ∷ []) ∷ put base 55 (1 ∷ []) ∷ take 63 (head 0 []) ∷ [])
    ≡ replicate 9 (Some Header)
unfolding number_at
refused_headers = refl

-- 64 bytes are enough where there is no program header
shortest : elf_refusal (head 0 []) ≡ None
unfolding number_at
shortest = refl

-- one more than there is room for, and an offset whose sum passes 2^64
refused_tables : map elf_refusal (put base 56 (2 ∷ []) ∷ put base 32 (replicate 8 0xff) ∷ put base 32 (0x51 ∷ []) ∷ []) ≡ replicate 3 (Some Table)
unfolding number_at
refused_tables = refl

-- they end with the file
last_table : elf_refusal (put base 32 (0x50 ∷ [])) ≡ None
unfolding number_at
last_table = refl

header_before_table : elf_refusal (put (put base 18 (0x3e ∷ [])) 56 (3 ∷ [])) ≡ Some Header
unfolding number_at
header_before_table = refl

table_before_segment : elf_refusal (put (put base 96 (0x11 ∷ [])) 56 (3 ∷ [])) ≡ Some Table
unfolding number_at
table_before_segment = refl

-- more than 256 MiB, whatever they are
too_long_first : (file : List ℕ) → 268435456 < length file → elf_text file ≡ Err TooLong
too_long_first file long = too_long file TooLong long refl

-- 256 MiB are not too many
at_the_limit : (file : List ℕ) → length file ≡ 268435456 → IsFirstRefusal file TooLong → ⊥
at_the_limit file size long = absurd (omega (arith, size, long))

tested_at_the_limit : (file : List ℕ) → length file ≡ 268435456 → is_header file ≡ false → elf_refusal file ≡ Some Header
tested_at_the_limit file size other =
    let short = le-ltb 268435456 (length file) (omega (arith, size)) in
    rw (short, other) refl

-- ---- the segments

-- the size in the file counts, and not whole words of it; an offset whose sum passes 2^64
refused_segments : map elf_refusal (put base 96 (0x11 ∷ []) ∷ put base 96 (0x13 ∷ []) ∷ put base 72 (0xf8 ∷ replicate 7 0xff) ∷ put base 72 (0x79 ∷ []) ∷ [])
    ≡ replicate 4 (Some (Segment 0))
unfolding number_at
refused_segments = refl

refused_unaligned : map elf_refusal (put base 80 (2 ∷ []) ∷ put base 80 (1 ∷ []) ∷ put base 80 (high 0xf6) ∷ []) ≡ replicate 3 (Some (Unaligned 0))
unfolding number_at
refused_unaligned = refl

segment_before_unaligned : elf_refusal (put (put base 96 (0x11 ∷ [])) 80 (2 ∷ [])) ≡ Some (Segment 0)
unfolding number_at
segment_before_unaligned = refl

refused_past_the_last_address : elf_refusal (put base 80 (high 0xf4)) ≡ Some (Wraps 0)
unfolding number_at
refused_past_the_last_address = refl

up_to_the_last_address : elf_text (put base 80 (high 0xf0)) ≡ Ok (codes "@fffffffffffffff0\n1f2003d5\n40000054\n1f2003d5\nfdffff17\n")
unfolding elf_text number_at encode_with
up_to_the_last_address = refl

-- whole words count: 15 bytes at the fourth address from the last are twelve
words_up_to_the_last_address : elf_refusal (put (put base 80 (high 0xf4)) 96 (15 ∷ [])) ≡ None
unfolding number_at
words_up_to_the_last_address = refl

-- ---- two segments

refused_overlaps : map elf_refusal
    (two (segment 0xb0 (low 0 0x10) 16) (segment 0xb0 (low 0x0c 0x10) 16)
    ∷ two (segment 0xb0 (low 0x0c 0x10) 16) (segment 0xb0 (low 0 0x10) 16)
    ∷ two (segment 0xb0 (low 0 0x10) 16) (segment 0xb0 (low 4 0x10) 4)
    ∷ two (segment 0xb0 (low 4 0x10) 4) (segment 0xb0 (low 0 0x10) 16) ∷ [])
    ≡ replicate 4 (Some (Overlap 1))
unfolding number_at
refused_overlaps = refl

-- they may touch, and the same bytes of the file may stand at two addresses
touching : map elf_refusal
    (two (segment 0xb0 (low 0 0x10) 16) (segment 0xb0 (low 0x10 0x10) 16) ∷ two (segment 0xb0 (low 0x10 0x10) 16) (segment 0xb0 (low 0 0x10) 16) ∷ [])
    ≡ replicate 2 None
unfolding number_at
touching = refl

-- a part of a word at the end takes no address
touching_words : elf_refusal (two (segment 0xb0 (low 0 0x10) 15) (segment 0xb0 (low 0x0c 0x10) 4)) ≡ None
unfolding number_at
touching_words = refl

wraps_before_overlap : elf_refusal (two (segment 0xb0 (high 0xf0) 16) (segment 0xb0 (high 0xf4) 16)) ≡ Some (Wraps 1)
unfolding number_at
wraps_before_overlap = refl

-- the first header that is refused, and headers that are not chosen count
first_header : elf_refusal (two (segment 0xb0 (low 2 0x10) 16) (segment 0xff (low 0 0x20) 16)) ≡ Some (Unaligned 0)
unfolding number_at
first_header = refl

each_header_counts : elf_refusal (put (two (segment 0xb0 (low 0 0x10) 16) (segment 0xb0 (low 2 0x10) 16)) 64 (4 ∷ [])) ≡ Some (Unaligned 1)
unfolding number_at
each_header_counts = refl

-- ---- words

abbrev words_of : List ℕ → List ℕ → List (Option ℕ)
words_of file addresses = map (word_in_file file) addresses

lowest_byte_first : words_of base (0xffc ∷ 0x1000 ∷ 0x1001 ∷ 0x1002 ∷ 0x1003 ∷ 0x1004 ∷ 0x100c ∷ 0x1010 ∷ [])
    ≡ None ∷ Some 0xd503201f ∷ None ∷ None ∷ None ∷ Some 0x54000040 ∷ Some 0x17fffffd ∷ None ∷ []
unfolding number_at
lowest_byte_first = refl

-- each segment has its own bytes, and a part of a word is none
words_of_two : words_of (two (segment 0xb0 (low 0 0x20) 7) (segment 0xbc (low 0 0x10) 4)) (0x2000 ∷ 0x2004 ∷ 0x1000 ∷ [])
    ≡ Some 0xd503201f ∷ None ∷ Some 0x17fffffd ∷ []
unfolding number_at
words_of_two = refl

not_executed_words : words_of (put base 68 (6 ∷ [])) (0x1000 ∷ []) ≡ None ∷ []
unfolding number_at
not_executed_words = refl

-- ---- numbers and texts of the reasons

abbrev reasons : List ElfWhy
reasons = TooLong ∷ Header ∷ Table ∷ Segment 9 ∷ Unaligned 10 ∷ Wraps 7 ∷ Overlap 65534 ∷ TooLarge ∷ []

numbers : map why_number reasons ≡ 1 ∷ 2 ∷ 3 ∷ 4 ∷ 5 ∷ 6 ∷ 7 ∷ 8 ∷ []
numbers = refl

reason_texts : map why_text reasons
    ≡ codes "too-long" ∷ codes "header" ∷ codes "table" ∷ codes "segment 9" ∷ codes "unaligned 10" ∷ codes "wraps 7" ∷ codes "overlap 65534"
    ∷ codes "too-large" ∷ []
unfolding digits
reason_texts = refl

-- ---- which refusal is the first

-- the first header's address is no multiple of 4, and the second one's bytes go past the end
abbrev twice_refused : List ℕ
twice_refused = two (segment 0xb0 (low 2 0x10) 16) (segment 0xff (low 0 0x20) 16)

not_behind : (before : List ProgramHeader) (h : ProgramHeader) (behind : List ProgramHeader) → program_headers twice_refused ≡ before ++ h ∷ behind
    → NoneRefused twice_refused before → header_refusal twice_refused before h ≡ Some (Segment 1) → ⊥
unfolding number_at
not_behind [] h behind e none why =
    let first = program_header twice_refused 64 in
    let same : first ≡ h = cc in
    let other : header_refusal twice_refused [] first ≡ Some (Segment 1) = ap (header_refusal twice_refused []) same ∙ why in
    cc
not_behind (b ∷ before) h behind e none why =
    let first = program_header twice_refused 64 in
    let same : first ≡ b = cc in
    let passes : header_refusal twice_refused [] first ≡ None = ap (header_refusal twice_refused []) same ∙ none [] b before refl in
    cc

not_the_second : IsFirstRefusal twice_refused (Segment 1) → ⊥
not_the_second r = not_behind r.before r.refused r.behind r.headers_are r.none_before r.why_is

-- a file of another machine is not refused for its program headers
not_the_table : IsFirstRefusal (put (put base 18 (0x3e ∷ [])) 56 (3 ∷ [])) Table → ⊥
unfolding number_at
not_the_table r = let header = r.1 in cc

not_the_size : IsFirstRefusal base TooLarge → ⊥
unfolding number_at
not_the_size r = let large = r.2 in cc

-- each is the first where it is, and a file that is not refused has none
abbrev other_machine : List ℕ
other_machine = put base 18 (0x3e ∷ [])

header_first : IsFirstRefusal other_machine Header
unfolding number_at
header_first = (omega arith, refl)

not_the_header : IsFirstRefusal base Header → ⊥
unfolding number_at
not_the_header r = let other = r.1 in cc

table_first : IsFirstRefusal (put base 56 (2 ∷ [])) Table
unfolding number_at
table_first = (omega arith, refl, refl)

no_table : IsFirstRefusal base Table → ⊥
unfolding number_at
no_table r = let past = r.2 in cc

-- of this length, the longest that is read
module _ (file : List ℕ) (size : length file ≡ 268435456) where
  header_at_the_limit : is_header file ≡ false → IsFirstRefusal file Header
  header_at_the_limit other = (omega (arith, size), other)

  table_at_the_limit : is_header file ≡ true → has_headers file ≡ false → IsFirstRefusal file Table
  table_at_the_limit is past = (omega (arith, size), is, past)

  headers_at_the_limit : is_header file ≡ true → has_headers file ≡ true → HasHeaders file
  headers_at_the_limit is has = record { short = omega (arith, size); header = is; headers = has }

-- and of one more byte
module _ (file : List ℕ) (size : length file ≡ 268435457) where
  too_long_by_one : IsFirstRefusal file TooLong
  too_long_by_one = omega (arith, size)

  header_of_the_longest : IsFirstRefusal file Header → ⊥
  header_of_the_longest r = absurd (omega (arith, size, r.0))

  table_of_the_longest : IsFirstRefusal file Table → ⊥
  table_of_the_longest r = absurd (omega (arith, size, r.0))

  size_of_the_longest : IsFirstRefusal file TooLarge → ⊥
  size_of_the_longest r = absurd (omega (arith, size, r.0.short))

  segment_of_the_longest : (k : ℕ) → IsFirstRefusal file (Segment k) → ⊥
  segment_of_the_longest k r = absurd (omega (arith, size, r.has.short))

-- the first header is refused; and the second, behind one that is not
unaligned_first : IsFirstRefusal twice_refused (Unaligned 0)
unfolding number_at
unaligned_first = record {
  has = record { short = omega arith; header = refl; headers = refl };
  before = [];
  refused = record { kind = 1; flags = 5; offset = 0xb0; vaddr = 0x1002; filesz = 16 };
  behind = record { kind = 1; flags = 5; offset = 0xff; vaddr = 0x2000; filesz = 16 } ∷ [];
  headers_are = refl;
  none_before = none_refused twice_refused [] refl;
  why_is = refl;
}

abbrev second_refused : List ℕ
second_refused = two (segment 0xb0 (low 0 0x10) 16) (segment 0xb1 (low 0 0x20) 16)

second_first : IsFirstRefusal second_refused (Segment 1)
unfolding number_at
second_first = record {
  has = record { short = omega arith; header = refl; headers = refl };
  before = record { kind = 1; flags = 5; offset = 0xb0; vaddr = 0x1000; filesz = 16 } ∷ [];
  refused = record { kind = 1; flags = 5; offset = 0xb1; vaddr = 0x2000; filesz = 16 };
  behind = [];
  headers_are = refl;
  none_before = none_refused second_refused (record { kind = 1; flags = 5; offset = 0xb0; vaddr = 0x1000; filesz = 16 } ∷ []) refl;
  why_is = refl;
}

-- no other header stands for it, nor another reason
not_for_its_address : IsFirstRefusal second_refused (Unaligned 1) → ⊥
unfolding number_at
not_for_its_address r = by r.before r.refused r.behind r.headers_are r.why_is
  where
    by : (before : List ProgramHeader) (h : ProgramHeader) (behind : List ProgramHeader) → program_headers second_refused ≡ before ++ h ∷ behind
        → header_refusal second_refused before h ≡ Some (Unaligned 1) → ⊥
    by [] h behind e why =
        let first = program_header second_refused 64 in
        let same : first ≡ h = cc in
        let other : header_refusal second_refused [] first ≡ Some (Unaligned 1) = ap (header_refusal second_refused []) same ∙ why in
        cc
    by (b ∷ []) h behind e why =
        let first = program_header second_refused 64 in
        let second = program_header second_refused 120 in
        let same : first ≡ b = cc in
        let last : second ≡ h = cc in
        let other : header_refusal second_refused (first ∷ []) second ≡ Some (Unaligned 1) =
        ap (λ (x : ProgramHeader). header_refusal second_refused (x ∷ []) second) same ∙ ap (header_refusal second_refused (b ∷ [])) last ∙ why in
        cc
    by (b ∷ c ∷ before) h behind e why = absurd (omega (arith, ap length e, length-append before (h ∷ behind)))

-- a file that is not refused
not_refused : NotRefused base
unfolding number_at
not_refused = record {
  has = record { short = omega arith; header = refl; headers = refl };
  none = none_refused base (program_headers base) refl;
  small = refl;
}

-- ---- what a source gives

abbrev shows : List ℕ → IoState
shows bytes = record { bytes = Some bytes; faults = 0 }

refused_at_its_end : TakesNoElf (shows (9 ∷ [])) (shows []) Header
unfolding elf_text number_at
refused_at_its_end = (9 ∷ [], refl, refl, inl refl)

-- with a byte left it is not known to be all
not_before_its_end : TakesNoElf (shows (9 ∷ 9 ∷ [])) (shows (9 ∷ [])) Header → ⊥
not_before_its_end t = elim t.3 [
  | inl end ↦ cc
  | inr long ↦ absurd (omega (arith, long, ap length t.1, length-append t.0 (9 ∷ [])))
]

not_taken_twice : TakesElf (shows base) (shows base) [] → ⊥
not_taken_twice t = let end = t.1.1 in cc
