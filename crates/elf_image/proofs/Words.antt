-- The words of the image that a file spells.
use Rattle.std.proofs.Common.{◌≡◌, ℕ, ◌+◌, ◌-◌, ◌%◌, ◌<◌, ◌≤◌, List, [], ◌∷◌, ◌++◌, length, map, take, drop, reverse, Bool}
use Rattle.std.proofs.Common.{◌&&◌, Option, Some, None, Result, Ok, Err, IfOk, Vec, Global, nat_le, nat_lt, refl, sym, ap, ◌∙◌, arith, cond}
use Rattle.std.proofs.Common.{subst, inl, inr, append-nil}
use Rattle.std.specs.Prelude.{◌==◌, All, Contains, IsPermutation, fold, slice_range}
use Rattle.std.specs.List.{insert, position_or_len}
use Rattle.std.specs.Option.{option_or}
use Rattle.std.proofs.lemmas.Bool.{and_parts, cases_Bool, eqb-true, leb-true, ltb-true, ne_eqb}
use Rattle.std.proofs.lemmas.List.{drop-drop, drop-take, get_or-map, length-map, take-take}
use Rattle.std.proofs.lemmas.List.Elements.{All-cons, All-contains, All-head, All-nil, All-tail, All-weaker}
use Rattle.std.proofs.lemmas.List.Sorted.{All-permutation, Contains-permutation, IsPermutation-append_left, IsPermutation-insert, IsPermutation-middle}
use Rattle.std.proofs.lemmas.List.Sorted.{IsPermutation-refl, IsPermutation-reverse, IsPermutation-sym, IsPermutation-trans}
use Rattle.std.proofs.lemmas.Option.{none-some}
use Rattle.byteorder.specs.Endian.{little_number}
use Rattle.program_image.specs.ImageText.{by_address, image_of, placed}
use Rattle.program_image.specs.Part.{IsImage, IsPart, Part, word_in, word_of}
use Rattle.program_image.proofs.Placed.{image_read}
use Rattle.program_image.proofs.Told.{IsByte}
use Rattle.program_image.proofs.WordLaws.{part_of_word, word_of_part}
use Rattle.elf_image.specs.ElfText.{elf_text}
use Rattle.elf_image.specs.Fields.{number_at, program_headers}
use Rattle.elf_image.specs.Segments.{chosen, segment_end, segment_of, segment_size, segments_of}
use Rattle.elf_image.specs.Words.{IsTextOf, word_in_file, word_of_segments, word_put}
use Rattle.elf_image.specs.declared.header.ProgramHeader.{ProgramHeader}
use Rattle.elf_image.proofs.First.{spelled}
use Rattle.elf_image.proofs.Spelled.{image_told}
use Rattle.elf_image.proofs.Segments.{are_segments, length_segment, sound_segments}
use Rattle.elf_image.proofs.Sound.{IsSound}

-- ---- the word of a segment

-- four bytes of some bytes of a file
part_of_part : (file : List ℕ) (offset size d : ℕ) → d + 4 ≤ size
    → slice_range (slice_range file offset (offset + size)) d (d + 4) ≡ slice_range file (offset + d) (offset + d + 4)
part_of_part file offset size d within =
    let left = size - d in
    let all : offset + size - offset ≡ d + left = omega (arith, within) in
    let four : d + 4 - d ≡ 4 = omega arith in
    let there : offset + d + 4 - (offset + d) ≡ 4 = omega arith in
    ap (λ (n : ℕ). take n (drop d (take (offset + size - offset) (drop offset file)))) four
    ∙ ap (λ (n : ℕ). take 4 (drop d (take n (drop offset file)))) all
    ∙ ap (take 4) (drop-take d left (drop offset file) ∙ ap (take left) (drop-drop d offset file))
    ∙ take-take 4 left (drop (offset + d) file) (omega (arith, within))
    ∙ sym (ap (λ (n : ℕ). take n (drop (offset + d) file)) there)

abbrev reaches : ProgramHeader → ℕ → Bool
reaches h a = (a % 4 == 0) && (nat_le h.vaddr a && nat_lt a (segment_end h))

word_of_segment : (file : List ℕ) (h : ProgramHeader) (a : ℕ) → IsSound file h → word_in (segment_of file h) a ≡ word_put file h a
unfolding number_at
word_of_segment file h a is =
    let size = length_segment file h is in
    let d = a - h.vaddr in
    let number = little_number 4 (slice_range (segment_of file h).bytes d (d + 4)) in
    let same : word_in (segment_of file h) a ≡ cond (reaches h a) (Some number) None =
    ap (λ (n : ℕ). cond ((a % 4 == 0) && (nat_le h.vaddr a && nat_lt a (h.vaddr + n))) (Some number) None) size in
    elim (cases_Bool (reaches h a)) [
      | inl there ↦
          let both = and_parts (a % 4 == 0) (nat_le h.vaddr a && nat_lt a (segment_end h)) there in
          let range = and_parts (nat_le h.vaddr a) (nat_lt a (segment_end h)) both.1 in
          let aligned = eqb-true (a % 4) 0 both.0 in
          let from = leb-true h.vaddr a range.0 in
          let to = ltb-true a (segment_end h) range.1 in
          let within : d + 4 ≤ segment_size h = omega (arith, is.aligned, aligned, from, to) in
          same ∙ ap (λ (bytes : List ℕ). cond (reaches h a) (Some (little_number 4 bytes)) None) (part_of_part file h.offset (segment_size h) d within)
      | inr elsewhere ↦
          same
          ∙ ap (λ (b : Bool). cond b (Some number) None) elsewhere
          ∙ sym (ap (λ (b : Bool). cond b (Some (number_at 4 (h.offset + d) file)) None) elsewhere)
    ]

words_of_segments : (file : List ℕ) (headers : List ProgramHeader) (a : ℕ) → All (IsSound file) headers
    → word_of (map (segment_of file) headers) a ≡ word_of_segments file headers a
words_of_segments file [] a are = refl
words_of_segments file (h ∷ headers) a are =
    ap (λ (word : Option ℕ). option_or word (word_of (map (segment_of file) headers) a))
    (word_of_segment file h a (All-head (IsSound file) h headers are))
    ∙ ap (option_or (word_put file h a)) (words_of_segments file headers a (All-tail (IsSound file) h headers are))

-- ---- the parts of the image are those of the segments

abbrev HasBytes : Part → Type 0
HasBytes part = 0 < length part.bytes

placed_is : (sorted : List Part) (part : Part) → HasBytes part
    → placed sorted part ≡ insert sorted (position_or_len (λ other. nat_lt part.start other.start) sorted) part
placed_is sorted part some =
    let test = ne_eqb (length part.bytes) 0 (λ e. omega (arith, some, e)) in
    rw test refl

all_placed : (sorted rest : List Part) → All HasBytes rest → IsPermutation (sorted ++ rest) (fold placed sorted rest)
all_placed sorted [] some = subst (λ (parts : List Part). IsPermutation parts sorted) (sym (append-nil sorted)) (IsPermutation-refl sorted)
all_placed sorted (part ∷ rest) some =
    let here = All-head HasBytes part rest some in
    let place = position_or_len (λ other. nat_lt part.start other.start) sorted in
    let front = IsPermutation-middle sorted part rest in
    let put = IsPermutation-append_left rest (part ∷ sorted) (insert sorted place part) (IsPermutation-insert sorted place part) in
    let next = subst (λ (parts : List Part). IsPermutation (part ∷ (sorted ++ rest)) (parts ++ rest)) (sym (placed_is sorted part here)) put in
    IsPermutation-trans (sorted ++ part ∷ rest) (part ∷ (sorted ++ rest)) (fold placed (placed sorted part) rest) front
    (IsPermutation-trans (part ∷ (sorted ++ rest)) (placed sorted part ++ rest) (fold placed (placed sorted part) rest) next
    (all_placed (placed sorted part) rest (All-tail HasBytes part rest some)))

sorted_parts : (parts : List Part) → All IsPart parts → IsPermutation parts (by_address (reverse parts))
sorted_parts parts are =
    let turned = IsPermutation-reverse parts in
    let some = All-weaker IsPart HasBytes (λ part is. is.some) (reverse parts) (All-permutation IsPart parts (reverse parts) turned are) in
    IsPermutation-trans parts (reverse parts) (by_address (reverse parts)) turned (all_placed [] (reverse parts) some)

-- ---- so their words are the same

abbrev HasNo : ℕ → Part → Type 0
HasNo a part = word_in part a ≡ None

none_of_each : (part : Part) (here rest : Option ℕ) → option_or here rest ≡ None → (here ≡ None) × (rest ≡ None)
none_of_each part None rest e = (refl, e)
none_of_each part (Some word) rest e = cc

none_of_parts : (parts : List Part) (a : ℕ) → word_of parts a ≡ None → All (HasNo a) parts
none_of_parts [] a none = All-nil (HasNo a)
none_of_parts (part ∷ parts) a none =
    let both = none_of_each part (word_in part a) (word_of parts a) none in
    All-cons (HasNo a) part parts both.0 (none_of_parts parts a both.1)

same_word : (parts image : List Part) (a : ℕ) (here there : Option ℕ) → IsImage image → IsPermutation parts image → word_of parts a ≡ here
    → word_of image a ≡ there → there ≡ here
same_word parts image a (Some word) there is same here_is there_is =
    let of = part_of_word parts a word here_is in
    let part = of.0 in
    sym there_is ∙ word_of_part image a word is (part, Contains-permutation parts image part same of.1, of.2)
same_word parts image a None None is same here_is there_is = refl
same_word parts image a None (Some word) is same here_is there_is =
    let of = part_of_word image a word there_is in
    let part = of.0 in
    let within = Contains-permutation image parts part (IsPermutation-sym parts image same) of.1 in
    absurd (none-some word (sym (All-contains (HasNo a) parts part (none_of_parts parts a here_is) within) ∙ of.2))

-- the image of a file
record Read (file text : List ℕ) : Type 0 where
  image : List Part
  read : image_of text ≡ Ok image
  is : IsImage image
  same : IsPermutation (segments_of file (program_headers file)) image
  words : (a : ℕ) → word_of image a ≡ word_in_file file a

read_file : (file text : List ℕ) → All IsByte file → elf_text file ≡ Ok text → Read file text
read_file file text bytes e =
    let s = spelled file text e in
    let parts = segments_of file (program_headers file) in
    let are = are_segments file text bytes s in
    let image = by_address (reverse parts) in
    let read = ap image_of (sym s.text_is) ∙ image_told parts are in
    let is = image_read text image read in
    let same = sorted_parts parts are.each in
    let words : (a : ℕ) → word_of image a ≡ word_in_file file a =
    λ a. same_word parts image a (word_of parts a) (word_of image a) is same refl refl
    ∙ words_of_segments file (chosen (program_headers file)) a (sound_segments file text s) in
    record { image = image; read = read; is = is; same = same; words = words }

pub image_of_file : (file text : List ℕ) → All IsByte file → elf_text file ≡ Ok text → IsTextOf file text
image_of_file file text bytes e = let r = read_file file text bytes e in (r.image, r.read, r.words)

-- ---- each segment has its words in it

contains_map : {X Y : Type 0} (f : X → Y) (xs : List X) (x : X) → Contains xs x → Contains (map f xs) (f x)
contains_map f xs x of =
    let size = length-map xs f in
    (of.0, omega (arith, size, of.1), get_or-map f xs of.0 x (f x) of.1 ∙ ap f of.2)

pub word_of_each : (file text : List ℕ) (h : ProgramHeader) (a word : ℕ) → All IsByte file → elf_text file ≡ Ok text
    → Contains (chosen (program_headers file)) h → word_put file h a ≡ Some word → word_in_file file a ≡ Some word
word_of_each file text h a word bytes e of put =
    let r = read_file file text bytes e in
    let headers = chosen (program_headers file) in
    let part = segment_of file h in
    let sound = All-contains (IsSound file) headers h (sound_segments file text (spelled file text e)) of in
    let within = Contains-permutation (map (segment_of file) headers) r.image part r.same (contains_map (segment_of file) headers h of) in
    sym (r.words a) ∙ word_of_part r.image a word r.is (part, within, word_of_segment file h a sound ∙ put)

-- and so of the text that a call gives, where it gives one
pub text_told : {E : Type 0} (file : List ℕ) (result : Result (Vec ℕ Global) E) → All IsByte file → IfOk result (λ text. elf_text file ≡ Ok text.items)
    → IfOk result (λ text. IsTextOf file text.items)
text_told file (Ok text) bytes e = image_of_file file text.items bytes e
text_told file (Err fault) bytes e = e
