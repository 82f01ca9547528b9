-- The text of the segments of the first program headers.
use Rattle.std.proofs.Common.{◌≡◌, ℕ, ◌+◌, ◌-◌, ◌*◌, ◌<◌, ◌≤◌, List, [], ◌∷◌, ◌++◌, length, map, take, drop, true, false, None}
use Rattle.std.proofs.Common.{refl, ap, ◌∙◌, arith, append-nil, append_assoc}
use Rattle.std.specs.Prelude.{slice_range}
use Rattle.std.proofs.lemmas.List.{map-append}
use Rattle.std.proofs.lemmas.Grind.{flat_map-append}
use Rattle.elf_image.specs.ElfText.{segment_text, segments_text, word_line, word_lines}
use Rattle.elf_image.specs.Fields.{headers_from, program_header, program_headers}
use Rattle.elf_image.specs.Refusals.{first_refusal, segments_refusal, size_refusal}
use Rattle.elf_image.specs.Segments.{addresses_of, chosen, is_chosen, segment_of, segment_size, segments_of}
use Rattle.elf_image.specs.Table.{IsTable}
use Rattle.elf_image.specs.declared.header.HeaderTable.{HeaderTable}
use Rattle.elf_image.specs.declared.header.ProgramHeader.{ProgramHeader}
use Rattle.elf_image.proofs.Checked.{chosen_more, passed_more, same_headers}
use Rattle.elf_image.proofs.First.{neither, none_refused}
use Rattle.elf_image.proofs.Headers.{headers_around, headers_more}
use Rattle.elf_image.proofs.Sound.{IsSound, sound, tested}

-- ---- one header more

pub told_passed : (file : List ℕ) (at k : ℕ) → is_chosen (program_header file (at + 56 * k)) ≡ false
    → segments_text (segments_of file (headers_from file at (k + 1))) ≡ segments_text (segments_of file (headers_from file at k))
told_passed file at k is =
    ap (λ (hs : List ProgramHeader). segments_text (map (segment_of file) hs))
    (ap chosen (headers_more file at k) ∙ passed_more (headers_from file at k) (program_header file (at + 56 * k)) is)

pub told_chosen : (file : List ℕ) (at k : ℕ) → is_chosen (program_header file (at + 56 * k)) ≡ true
    → segments_text (segments_of file (headers_from file at (k + 1)))
    ≡ segments_text (segments_of file (headers_from file at k)) ++ segment_text (segment_of file (program_header file (at + 56 * k)))
told_chosen file at k is =
    let h = program_header file (at + 56 * k) in
    let before = chosen (headers_from file at k) in
    let told = map (segment_of file) before in
    ap (λ (hs : List ProgramHeader). segments_text (map (segment_of file) hs))
    (ap chosen (headers_more file at k) ∙ chosen_more (headers_from file at k) h is)
    ∙ ap segments_text (map-append (segment_of file) before (h ∷ []))
    ∙ flat_map-append segment_text told (segment_of file h ∷ [])
    ∙ ap (λ (text : List ℕ). segments_text told ++ text) (append-nil (segment_text (segment_of file h)))

-- and so of a header that is the same
pub told_one : (file : List ℕ) (h h' : ProgramHeader) (size : ℕ) → h' ≡ h → size ≡ segment_size h
    → segment_text (record { start = h'.vaddr; bytes = slice_range file h'.offset (h'.offset + size) }) ≡ segment_text (segment_of file h)
told_one file h h' size same is =
    ap (λ (x : ProgramHeader). segment_text (record { start = x.vaddr; bytes = slice_range file x.offset (x.offset + size) })) same
    ∙ ap (λ (n : ℕ). segment_text (record { start = h.vaddr; bytes = slice_range file h.offset (h.offset + n) })) is

-- ---- the bytes of a segment stand in the file

pub stands : (file : List ℕ) (table : HeaderTable) (k : ℕ) → IsTable file table → segments_refusal file ≡ None → k < table.count
    → is_chosen (program_header file (table.offset + 56 * k)) ≡ true → IsSound file (program_header file (table.offset + 56 * k))
stands file table k is none within chosen_is =
    let at = table.offset in
    let h = program_header file (at + 56 * k) in
    let before = headers_from file at k in
    let all = same_headers file table is ∙ headers_around file at k table.count within in
    let first = neither (first_refusal file [] (program_headers file)) (size_refusal (chosen (program_headers file))) none in
    let here = none_refused file (program_headers file) first.0 before h (headers_from file (at + 56 * k + 56) (table.count - k - 1)) all in
    (sound file (map addresses_of (chosen before)) (length before) h chosen_is (tested file before h chosen_is here)).0

-- ---- one word more

pub word_more : (text rest all : List ℕ) → 4 ≤ length rest → text ++ word_lines rest ≡ all → (text ++ word_line (take 4 rest)) ++ word_lines (drop 4 rest) ≡ all
word_more text [] all some left = absurd (omega (arith, some))
word_more text (a ∷ []) all some left = absurd (omega (arith, some))
word_more text (a ∷ b ∷ []) all some left = absurd (omega (arith, some))
word_more text (a ∷ b ∷ c ∷ []) all some left = absurd (omega (arith, some))
word_more text (a ∷ b ∷ c ∷ d ∷ rest) all some left = append_assoc text (word_line (a ∷ b ∷ c ∷ d ∷ [])) (word_lines rest) ∙ left

pub no_word : (rest : List ℕ) → length rest < 4 → word_lines rest ≡ []
no_word [] few = refl
no_word (a ∷ []) few = refl
no_word (a ∷ b ∷ []) few = refl
no_word (a ∷ b ∷ c ∷ []) few = refl
no_word (a ∷ b ∷ c ∷ d ∷ rest) few = absurd (omega (arith, few))
