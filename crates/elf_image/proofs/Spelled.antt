-- The text of segments is read to parts: an image of them.
use Rattle.std.proofs.Common.{◌≡◌, ℕ, ◌+◌, ◌*◌, ◌/◌, ◌%◌, ◌^◌, ◌≤◌, List, [], ◌∷◌, ◌++◌, length, length-append}
use Rattle.std.proofs.Common.{false, Option, Some, None, Result, Ok, refl, sym, ap, ◌∙◌, arith, inl, inr, append-nil, append_assoc}
use Rattle.std.specs.Prelude.{All, reverse, ◌⊎◌, ⊤}
use Rattle.std.proofs.lemmas.Grind.{reverse_onto}
use Rattle.byteorder.specs.Endian.{big_bytes}
use Rattle.byteorder.specs.Numbers.{length-bytes_high_first}
use Rattle.std.specs.Option.{option_map, option_and_then}
use Rattle.std.specs.Result.{result_ok}
use Rattle.std.specs.Str.Lines.{lines}
use Rattle.std.proofs.lemmas.Bool.{le-ltb}
use Rattle.std.proofs.lemmas.List.Elements.{All-drop, All-head, All-tail, All-take, All-weaker}
use Rattle.std.proofs.lemmas.List.Folds.{list_any_none}
use Rattle.hex.specs.Hex.{encode_lower, lower_digits}
use Rattle.hex.specs.declared.error.FromHexError.{FromHexError}
use Rattle.hex.proofs.HexLemmas.{decode_of-encode_lower, length-encode_with}
use Rattle.program_image.specs.Part.{IsPart, Part, end_of, most_bytes, most_parts, total}
use Rattle.program_image.specs.ImageText.{add_line, add_lines, by_address, bytes_of, growth_fault, has_between, image_of, most_text, sorted, unless}
use Rattle.program_image.specs.Spelling.{address_line}
use Rattle.program_image.specs.declared.fault.ImageWhy.{ImageWhy}
use Rattle.program_image.proofs.Told.{IsByte}
use Rattle.program_image.proofs.Spelled.{IsDigit, IsOfWord, address_chars, begins, begun, digit_of_word, digits_of, first_of, is_bytes}
use Rattle.program_image.proofs.Spelled.{line_first, line_of_word, words_of_bytes}
use Rattle.elf_image.specs.ElfText.{segments_text, word_line, word_lines}

-- no byte of the one is at an address of the other
abbrev pub Apart : Part → Part → Type 0
Apart part other = (end_of other ≤ part.start) ⊎ (end_of part ≤ other.start)

-- each is apart from all before it
abbrev pub AllApart : List Part → List Part → Type 0
AllApart told [] = ⊤
AllApart told (part ∷ parts) = All (Apart part) told × AllApart (part ∷ told) parts

-- segments that are the parts of an image, behind those that were told
pub record AreSegments (told parts : List Part) : Type 0 where
  pub each : All IsPart parts
  pub apart : AllApart told parts
  pub few : length told + length parts ≤ most_parts
  pub small : total told + total parts ≤ most_bytes

line_joined : (line more rest : List ℕ) → ((line ++ 10 ∷ []) ++ more) ++ rest ≡ line ++ 10 ∷ (more ++ rest)
line_joined line more rest = append_assoc (line ++ 10 ∷ []) more rest ∙ append_assoc line (10 ∷ []) (more ++ rest)

-- ---- the line of a word

-- no byte at an address from the start on and before the end
abbrev Outside : ℕ → ℕ → Part → Type 0
Outside from to other = (end_of other ≤ from) ⊎ (to ≤ other.start)

outside : (from to : ℕ) (low high : ℕ) (other : Part) → from ≤ low → high ≤ to → Outside from to other → has_between low high other ≡ false
outside from to low high other a b out = elim out [
  | inl before ↦ le-ltb _ _ (omega (arith, a, b, before))
  | inr behind ↦ le-ltb _ _ (omega (arith, a, b, behind))
]

-- so many bytes may stand behind the part: the others leave its addresses free up to an end
record HasRoom (others : List Part) (part : Part) (to count : ℕ) : Type 0 where
  long : end_of part + count ≤ to
  within : to ≤ 2 ^ 64
  out : All (Outside part.start to) others
  small : total (part ∷ others) + count ≤ most_bytes

no_fault : (others : List Part) (part : Part) (to : ℕ) → HasRoom others part to 4 → growth_fault others part 4 ≡ None
no_fault others part to room =
    let fits = le-ltb (2 ^ 64) (end_of part + 4) (omega (arith, room.long, room.within)) in
    let none =
    list_any_none (has_between (end_of part) (end_of part + 4)) others
    (All-weaker (Outside part.start to) (λ other. has_between (end_of part) (end_of part + 4) other ≡ false)
    (λ other o. outside part.start to (end_of part) (end_of part + 4) other (omega arith) room.long o) others room.out) in
    let few = le-ltb most_bytes (total (part ∷ others) + 4) (omega (arith, room.small)) in
    rw (fits, none, few) refl

four_chars : (bytes : List ℕ) → All IsByte bytes → All IsOfWord (encode_lower bytes)
four_chars bytes fit = All-weaker IsDigit IsOfWord digit_of_word (encode_lower bytes) (digits_of bytes fit)

four_back : (bytes : List ℕ) → All IsByte bytes → bytes_of (encode_lower bytes ∷ []) ≡ Some bytes
four_back bytes fit =
    let decoded = decode_of-encode_lower bytes (is_bytes bytes fit) in
    ap (λ (r : Result (List ℕ) FromHexError). option_and_then (λ front. option_map (λ xs. front ++ xs) (Some [])) (result_ok r)) decoded
    ∙ ap Some (append-nil bytes)

abbrev grown : Part → List ℕ → Part
grown part bytes = record { start = part.start; bytes = part.bytes ++ bytes }

word_told : (others : List Part) (part : Part) (to : ℕ) (bytes : List ℕ) → length bytes ≡ 4 → All IsByte bytes → HasRoom others part to 4
    → add_line (part ∷ others) (encode_lower bytes) ≡ Ok (grown part bytes ∷ others)
word_told others part to bytes four fit room =
    let digits = length-encode_with lower_digits bytes in
    let next = grown part bytes ∷ others in
    line_of_word (part ∷ others) (encode_lower bytes) (four_chars bytes fit) (omega (arith, digits, four))
    ∙ words_of_bytes (part ∷ others) (encode_lower bytes) bytes (first_of bytes (omega (arith, four)) fit) (four_back bytes fit)
    ∙ ap (λ (n : ℕ). unless (growth_fault others part n) next) four
    ∙ ap (λ (fault : Option ImageWhy). unless fault next) (no_fault others part to room)

one_line : (number : ℕ) (parts next : List Part) (line : List ℕ) (more : List (List ℕ)) → add_line parts line ≡ Ok next
    → add_lines number parts (line ∷ more) ≡ add_lines (number + 1) next more
one_line number parts next line more one = rw one refl

-- ---- the lines of words

words_told : (number : ℕ) (others : List Part) (part : Part) (to : ℕ) (bytes rest : List ℕ) → length bytes % 4 ≡ 0 → All IsByte bytes
    → HasRoom others part to (length bytes)
    → add_lines number (part ∷ others) (lines (word_lines bytes ++ rest)) ≡ add_lines (number + length bytes / 4) (grown part bytes ∷ others) (lines rest)
words_told number others part to [] rest whole fit room =
    ap (λ bytes. add_lines number (record { start = part.start; bytes = bytes } ∷ others) (lines rest)) (sym (append-nil part.bytes))
    ∙ ap (λ n. add_lines n (grown part [] ∷ others) (lines rest)) (omega arith)
words_told number others part to (a ∷ []) rest whole fit room = absurd (omega arith)
words_told number others part to (a ∷ b ∷ []) rest whole fit room = absurd (omega arith)
words_told number others part to (a ∷ b ∷ c ∷ []) rest whole fit room = absurd (omega arith)
words_told number others part to (a ∷ b ∷ c ∷ d ∷ bytes) rest whole fit room =
    let word = a ∷ b ∷ c ∷ d ∷ [] in
    let word_fit : All IsByte word = All-take IsByte 4 (a ∷ b ∷ c ∷ d ∷ bytes) fit in
    let rest_fit : All IsByte bytes = All-drop IsByte 4 (a ∷ b ∷ c ∷ d ∷ bytes) fit in
    let next = grown part word in
    let size : length (part.bytes ++ word) ≡ length part.bytes + 4 = length-append part.bytes word in
    let here : HasRoom others part to 4 =
    record { long = omega (arith, room.long); within = room.within; out = room.out; small = omega (arith, room.small) } in
    let left : HasRoom others next to (length bytes) =
    record { long = omega (arith, room.long, size); within = room.within; out = room.out; small = omega (arith, room.small, size) } in
    let cut =
    ap lines (line_joined (encode_lower word) (word_lines bytes) rest)
    ∙ line_first (encode_lower word) (word_lines bytes ++ rest) (four_chars word word_fit) in
    let count : number + 1 + length bytes / 4 ≡ number + length (a ∷ b ∷ c ∷ d ∷ bytes) / 4 = omega arith in
    ap (add_lines number (part ∷ others)) cut
    ∙ one_line number (part ∷ others) (next ∷ others) (encode_lower word) (lines (word_lines bytes ++ rest)) (word_told others part to word refl word_fit here)
    ∙ words_told (number + 1) others next to bytes rest (omega (arith, whole)) rest_fit left
    ∙ ap (λ n. add_lines n (grown next bytes ∷ others) (lines rest)) count
    ∙ ap (λ xs. add_lines (number + length (a ∷ b ∷ c ∷ d ∷ bytes) / 4) (record { start = part.start; bytes = xs } ∷ others) (lines rest))
    (append_assoc part.bytes word bytes)

-- ---- the lines of segments

follow_next : (told parts : List Part) (part : Part) → AreSegments told (part ∷ parts) → AreSegments (part ∷ told) parts
follow_next told parts part f = record {
  each = All-tail IsPart part parts f.each;
  apart = f.apart.1;
  few = omega (arith, f.few);
  small = omega (arith, f.small);
}

-- segments last first, before those that were told
told_onto : List Part → List Part → List Part
told_onto [] told = told
told_onto (part ∷ parts) told = told_onto parts (part ∷ told)

told_reversed : (parts told : List Part) → told_onto parts told ≡ reverse parts ++ told
unfolding told_onto
told_reversed [] told = refl
told_reversed (part ∷ parts) told =
    told_reversed parts (part ∷ told) ∙ sym (ap (λ (xs : List Part). xs ++ told) (reverse_onto parts part []) ∙ append_assoc (reverse parts) (part ∷ []) told)

segments_lines : (number : ℕ) (told parts : List Part) → AreSegments told parts
    → add_lines number told (lines (segments_text parts)) ≡ Ok (told_onto parts told)
unfolding told_onto
segments_lines number told [] f = refl
segments_lines number told (part ∷ parts) f =
    let is = All-head IsPart part parts f.each in
    let one = begins told part is (omega (arith, f.few)) in
    let rest = segments_text parts in
    let cut =
    ap lines (line_joined (address_line part) (word_lines part.bytes) rest)
    ∙ line_first (address_line part) (word_lines part.bytes ++ rest) (address_chars part) in
    let room : HasRoom told (begun part) (end_of part) (length part.bytes) =
    record { long = omega arith; within = is.within; out = f.apart.0; small = omega (arith, f.small) } in
    ap (add_lines number told) cut
    ∙ one_line number told (begun part ∷ told) (address_line part) (lines (word_lines part.bytes ++ rest)) one
    ∙ words_told (number + 1) told (begun part) (end_of part) part.bytes rest is.whole is.bytes room
    ∙ segments_lines (number + 1 + length part.bytes / 4) (part ∷ told) parts (follow_next told parts part f)

-- ---- how long they are

length_words : (bytes : List ℕ) → length bytes % 4 ≡ 0 → 4 * length (word_lines bytes) ≡ 9 * length bytes
length_words [] whole = refl
length_words (a ∷ []) whole = absurd (omega arith)
length_words (a ∷ b ∷ []) whole = absurd (omega arith)
length_words (a ∷ b ∷ c ∷ []) whole = absurd (omega arith)
length_words (a ∷ b ∷ c ∷ d ∷ bytes) whole =
    let more = length_words bytes (omega (arith, whole)) in
    let digits = length-encode_with lower_digits (a ∷ b ∷ c ∷ d ∷ []) in
    let one = length-append (word_line (a ∷ b ∷ c ∷ d ∷ [])) (word_lines bytes) in
    let end = length-append (encode_lower (a ∷ b ∷ c ∷ d ∷ [])) (10 ∷ []) in
    omega (arith, more, digits, one, end)

length_text : (parts : List Part) → All IsPart parts → 4 * length (segments_text parts) ≡ 72 * length parts + 9 * total parts
length_text [] each = refl
length_text (part ∷ parts) each =
    let more = length_text parts (All-tail IsPart part parts each) in
    let is = All-head IsPart part parts each in
    let address = length-encode_with lower_digits (big_bytes 8 part.start) in
    let eight = length-bytes_high_first 8 part.start in
    let words = length_words part.bytes is.whole in
    let one = length-append ((address_line part ++ 10 ∷ []) ++ word_lines part.bytes) (segments_text parts) in
    let two = length-append (address_line part ++ 10 ∷ []) (word_lines part.bytes) in
    let end = length-append (address_line part) (10 ∷ []) in
    omega arith

-- ---- the image

pub image_told : (parts : List Part) → AreSegments [] parts → image_of (segments_text parts) ≡ Ok (by_address (reverse parts))
unfolding image_of
image_told parts are =
    let short = le-ltb most_text (length (segments_text parts)) (omega (arith, length_text parts are.each, are.few, are.small)) in
    rw short (ap sorted (segments_lines 1 [] parts are) ∙ ap (λ (xs : List Part). Ok (by_address xs)) (told_reversed parts [] ∙ append-nil (reverse parts)))
