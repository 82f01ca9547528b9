-- The text that spells parts is read to them.
use Rattle.std.proofs.Common.{◌≡◌, ℕ, zero, suc, ◌+◌, ◌-◌, ◌*◌, ◌/◌, ◌%◌, ◌^◌, ◌<◌, ◌≤◌, List, [], ◌∷◌, ◌++◌, length, length-append, take, Bool}
use Rattle.std.proofs.Common.{true, false, ◌&&◌, Option, Some, None, Result, Ok, nat_lt, nat_le, refl, sym, ap, ◌∙◌, arith, get_or, inl, inr, append-nil, codes}
use Rattle.std.specs.Prelude.{◌==◌, ◌||◌, All, fold, filter, slice_index}
use Rattle.std.specs.Int.{byte_at, bytes_high_first}
use Rattle.std.specs.Option.{ok_or, option_map, option_and_then}
use Rattle.std.specs.Result.{result_ok}
use Rattle.std.specs.Str.{IsAscii, is_utf8}
use Rattle.std.specs.Str.Lines.{lines, lines_of_parts, strip_carriage_return}
use Rattle.std.proofs.lemmas.Bool.{and_parts, eq-eqb, ne_eqb, leb-true, le-leb, le-ltb, lt-leb, lt-ltb, or_cases}
use Rattle.std.proofs.lemmas.List.Elements.{All-cons, All-get_or, All-head, All-nil, All-tail, All-weaker}
use Rattle.std.proofs.lemmas.List.Folds.{list_any_none}
use Rattle.std.proofs.lemmas.List.Splits.{slice_split_at, slice_split_none}
use Rattle.std.proofs.lemmas.List.Sums.{AllPass-from_list_all}
use Rattle.std.proofs.lemmas.Str.{IsUtf8-from_ascii, is_utf8-from_IsUtf8}
use Rattle.hex.specs.Hex.{IsBytes, decode_sized, encode_lower, encode_with, lower_digits}
use Rattle.hex.specs.declared.error.FromHexError.{FromHexError}
use Rattle.hex.proofs.HexLemmas.{decode_of-encode_lower, decode_sized-encode_lower, length-encode_with}
use Rattle.byteorder.specs.Endian.{big_bytes, big_number}
use Rattle.byteorder.specs.Numbers.{big_number-reads_back, length-bytes_high_first}
use Rattle.program_image.specs.Part.{InOrder, IsImage, IsPart, Part, end_of, most_bytes, most_parts, total}
use Rattle.line_words.specs.Line.{is_blank, number_of, padded, words_in}
use Rattle.program_image.specs.ImageText.{◌>>=◌, add_bytes, add_line, add_lines, add_words, bytes_of, growth_fault}
use Rattle.program_image.specs.ImageText.{has_between, image_of, most_text, placed, sorted, unless}
use Rattle.program_image.specs.Spelling.{address_line, bytes_line, text_of}
use Rattle.program_image.specs.declared.fault.ImageWhy.{ImageWhy}
use Rattle.program_image.specs.declared.fault.ImageWhy.TheVariants.{Syntax}
use Rattle.line_words.proofs.Cuts.{before_parts, kept}
use Rattle.program_image.proofs.Told.{IsByte}

-- ---- the characters

abbrev pub is_digit : ℕ → Bool
is_digit c = (nat_le 48 c && nat_le c 57) || (nat_le 97 c && nat_le c 102)

abbrev pub IsDigit : ℕ → Type 0
IsDigit c = is_digit c ≡ true

-- a character of a word: none of LF, CR, tab and space, and ASCII
abbrev pub IsOfWord : ℕ → Type 0
IsOfWord c = (33 ≤ c) × (c < 128)

pub digit_of_word : (c : ℕ) → IsDigit c → IsOfWord c
digit_of_word c digit =
    elim (or_cases (nat_le 48 c && nat_le c 57) (nat_le 97 c && nat_le c 102) digit) [
      | inl low ↦ let p = and_parts (nat_le 48 c) (nat_le c 57) low in let a = leb-true 48 c p.0 in let b = leb-true c 57 p.1 in (omega arith, omega arith)
      | inr high ↦ let p = and_parts (nat_le 97 c) (nat_le c 102) high in let a = leb-true 97 c p.0 in let b = leb-true c 102 p.1 in (omega arith, omega arith)
    ]

digit_is_no : (c mark : ℕ) → IsDigit c → is_digit mark ≡ false → (c == mark) ≡ false
digit_is_no c mark digit other = ne_eqb c mark (λ e. let same : true ≡ false = sym digit ∙ ap is_digit e ∙ other in cc)

-- the digits of bytes
digit_at : (d : ℕ) → d < 16 → IsDigit (slice_index lower_digits d)
digit_at d small = All-get_or IsDigit lower_digits d 0 small (AllPass-from_list_all is_digit lower_digits refl)

pub digits_of : (bytes : List ℕ) → All IsByte bytes → All IsDigit (encode_lower bytes)
unfolding encode_with
digits_of [] fit = All-nil IsDigit
digits_of (b ∷ rest) fit =
    let byte : b < 256 = All-head IsByte b rest fit in
    let high = digit_at (b / 16) (omega arith) in
    let low = digit_at (b % 16) (omega arith) in
    let t = encode_lower rest in
    All-cons IsDigit (slice_index lower_digits (b / 16)) (slice_index lower_digits (b % 16) ∷ t) high
    (All-cons IsDigit (slice_index lower_digits (b % 16)) t low (digits_of rest (All-tail IsByte b rest fit)))

pub is_bytes : (xs : List ℕ) → All IsByte xs → IsBytes xs
is_bytes [] fit = λ k. omega arith
is_bytes (x ∷ xs) fit = λ k. cons x xs (All-head IsByte x xs fit) (is_bytes xs (All-tail IsByte x xs fit)) k
  where
    cons : (x : ℕ) (xs : List ℕ) → x < 256 → IsBytes xs → IsBytes (x ∷ xs)
    cons x xs here more zero = here
    cons x xs here more (suc k) = more k

-- ---- lines of one word

ascii : (line : List ℕ) → All IsOfWord line → IsAscii line
ascii [] all = λ i. omega arith
ascii (c ∷ line) all = λ i. cons c line (All-head IsOfWord c line all).1 (ascii line (All-tail IsOfWord c line all)) i
  where
    cons : (c : ℕ) (line : List ℕ) → c < 128 → IsAscii line → IsAscii (c ∷ line)
    cons c line here more zero = here
    cons c line here more (suc k) = more k

word_utf8 : (line : List ℕ) → All IsOfWord line → is_utf8 line ≡ true
word_utf8 line all = is_utf8-from_IsUtf8 line (IsUtf8-from_ascii line (ascii line all))

abbrev is_end : ℕ → Bool
is_end byte = byte == 10

not_end : (c : ℕ) → IsOfWord c → is_end c ≡ false
not_end c of = ne_eqb c 10 (λ e. omega (arith, of.0, e))

not_blank : (c : ℕ) → IsOfWord c → is_blank c ≡ false
not_blank c of =
    let space = ne_eqb c 32 (λ e. omega (arith, of.0, e)) in
    let tab = ne_eqb c 9 (λ e. omega (arith, of.0, e)) in
    rw (space, tab) refl

last_or_zero : (line : List ℕ) → All IsOfWord line → slice_index line (length line - 1) ≡ 13 → ⊥
last_or_zero [] all e = cc
last_or_zero (c ∷ line) all e =
    let last = all (length (c ∷ line) - 1) 0 (omega arith) in
    omega (arith, last.0, e)

no_return : (line : List ℕ) → All IsOfWord line → strip_carriage_return line ≡ line
no_return line all = let test = ne_eqb (slice_index line (length line - 1)) 13 (last_or_zero line all) in rw test refl

-- the first line of a text
pub line_first : (line rest : List ℕ) → All IsOfWord line → lines (line ++ 10 ∷ rest) ≡ line ∷ lines rest
line_first line rest all =
    let cut = slice_split_at is_end line 10 rest (All-weaker IsOfWord (λ c. is_end c ≡ false) not_end line all) refl in
    ap lines_of_parts cut ∙ before_parts line is_end rest ∙ ap (λ (l : List ℕ). l ∷ lines rest) (no_return line all)

one_word : (line : List ℕ) → All IsOfWord line → 0 < length line → words_in line ≡ line ∷ []
one_word line all some =
    ap (filter (λ word. nat_lt 0 (length word))) (slice_split_none is_blank line (All-weaker IsOfWord (λ c. is_blank c ≡ false) not_blank line all))
    ∙ kept line [] some

pub line_of_word : (parts : List Part) (line : List ℕ) → All IsOfWord line → 0 < length line → add_line parts line ≡ add_words parts (line ∷ [])
line_of_word parts line all some =
    let utf8 = word_utf8 line all in
    rw utf8 (ap (add_words parts) (one_word line all some))

-- ---- the line of an address

byte_fits : (k n : ℕ) → byte_at k n < 256
byte_fits zero n = omega arith
byte_fits (suc k) n = omega arith

bytes_fit : (k n : ℕ) → All IsByte (bytes_high_first k n)
bytes_fit zero n = All-nil IsByte
bytes_fit (suc k) n = All-cons IsByte (byte_at k n) (bytes_high_first k n) (byte_fits k n) (bytes_fit k n)

number_spelled : (digits bytes : List ℕ) → length digits ≡ 16 → decode_sized digits 8 ≡ Ok bytes → number_of digits ≡ Some (big_number 8 bytes)
number_spelled digits bytes len decoded =
    let least = le-leb 1 (length digits) (omega (arith, len)) in
    let most = le-leb (length digits) 16 (omega (arith, len)) in
    let none : 16 - length digits ≡ 0 = omega (arith, len) in
    let whole : padded digits ≡ digits = ap (λ (n : ℕ). take n (codes "0000000000000000") ++ digits) none in
    rw (least, most) (ap (λ (ds : List ℕ). option_map (big_number 8) (result_ok (decode_sized ds 8))) whole
    ∙ ap (λ (r : Result (List ℕ) FromHexError). option_map (big_number 8) (result_ok r)) decoded)

number_back : (start : ℕ) → start < 2 ^ 64 → number_of (encode_lower (big_bytes 8 start)) ≡ Some start
number_back start fits =
    let bytes = big_bytes 8 start in
    let len = length-bytes_high_first 8 start in
    let digits = length-encode_with lower_digits bytes in
    let decoded = decode_sized-encode_lower bytes 8 len (is_bytes bytes (bytes_fit 8 start)) in
    let number : big_number 8 bytes ≡ start = ap (big_number 8) (sym (append-nil bytes)) ∙ big_number-reads_back 8 start [] fits in
    number_spelled (encode_lower bytes) bytes (omega (arith, len, digits)) decoded ∙ ap Some number

pub address_chars : (part : Part) → All IsOfWord (address_line part)
address_chars part =
    let digits = digits_of (big_bytes 8 part.start) (bytes_fit 8 part.start) in
    All-cons IsOfWord 64 (encode_lower (big_bytes 8 part.start)) (omega arith, omega arith)
    (All-weaker IsDigit IsOfWord digit_of_word (encode_lower (big_bytes 8 part.start)) digits)

abbrev pub begun : Part → Part
begun part = record { start = part.start; bytes = [] }

pub begins : (parts : List Part) (part : Part) → IsPart part → length parts < most_parts → add_line parts (address_line part) ≡ Ok (begun part ∷ parts)
begins parts part is room =
    let fits : part.start < 2 ^ 64 = omega (arith, is.within, is.some) in
    let number = number_back part.start fits in
    let aligned = eq-eqb (part.start % 4) 0 is.aligned in
    let few = lt-leb most_parts (length parts) room in
    line_of_word parts (address_line part) (address_chars part) (omega arith)
    ∙ rw (number, aligned, few) refl

-- ---- the line of the bytes

bytes_chars : (part : Part) → IsPart part → All IsDigit (bytes_line part)
bytes_chars part is = digits_of part.bytes is.bytes

bytes_back : (part : Part) → IsPart part → bytes_of (bytes_line part ∷ []) ≡ Some part.bytes
bytes_back part is =
    let decoded = decode_of-encode_lower part.bytes (is_bytes part.bytes is.bytes) in
    ap (λ (r : Result (List ℕ) FromHexError). option_and_then (λ front. option_map (λ bytes. front ++ bytes) (Some [])) (result_ok r)) decoded
    ∙ ap Some (append-nil part.bytes)

abbrev EndsBefore : Part → Part → Type 0
EndsBefore part other = end_of other ≤ part.start

apart_from : (part other : Part) → end_of other ≤ part.start → has_between (end_of (begun part)) (end_of (begun part) + length part.bytes) other ≡ false
apart_from part other before = le-ltb _ _ (omega (arith, before))

no_fault : (others : List Part) (part : Part) → IsPart part → All (EndsBefore part) others → total others + length part.bytes ≤ most_bytes
    → growth_fault others (begun part) (length part.bytes) ≡ None
no_fault others part is before small =
    let count = length part.bytes in
    let whole = eq-eqb (count % 4) 0 is.whole in
    let within = le-ltb (2 ^ 64) (end_of (begun part) + count) (omega (arith, is.within)) in
    let none =
    list_any_none (has_between (end_of (begun part)) (end_of (begun part) + count)) others
    (All-weaker (EndsBefore part) (λ other. has_between (end_of (begun part)) (end_of (begun part) + count) other ≡ false) (apart_from part) others
    before) in
    let few = le-ltb most_bytes (total (begun part ∷ others) + count) (omega (arith, small)) in
    rw (whole, within, none, few) refl

first_digit : (byte : ℕ) (bytes : List ℕ) → All IsByte (byte ∷ bytes) → IsDigit (slice_index (encode_lower (byte ∷ bytes)) 0)
unfolding encode_with
first_digit byte bytes fit = let small : byte < 256 = All-head IsByte byte bytes fit in digit_at (byte / 16) (omega arith)

pub first_of : (bytes : List ℕ) → 0 < length bytes → All IsByte bytes → IsDigit (slice_index (encode_lower bytes) 0)
first_of [] some fit = absurd (omega arith)
first_of (byte ∷ bytes) some fit = first_digit byte bytes fit

-- a word of digits is no comment and no address
pub words_of_bytes : (parts : List Part) (word bytes : List ℕ) → IsDigit (slice_index word 0) → bytes_of (word ∷ []) ≡ Some bytes
    → add_words parts (word ∷ []) ≡ add_bytes parts bytes
words_of_bytes parts word bytes first read =
    let comment = digit_is_no (slice_index word 0) 35 first refl in
    let address = digit_is_no (slice_index word 0) 64 first refl in
    rw (comment, address) (ap (λ (o : Option (List ℕ)). ok_or o Syntax >>= add_bytes parts) read)

grows : (others : List Part) (part : Part) → IsPart part → All (EndsBefore part) others → total others + length part.bytes ≤ most_bytes
    → add_line (begun part ∷ others) (bytes_line part) ≡ Ok (part ∷ others)
grows others part is before small =
    let digits = length-encode_with lower_digits part.bytes in
    line_of_word (begun part ∷ others) (bytes_line part) (All-weaker IsDigit IsOfWord digit_of_word (bytes_line part) (bytes_chars part is))
    (omega (arith, digits, is.some))
    ∙ words_of_bytes (begun part ∷ others) (bytes_line part) part.bytes (first_of part.bytes is.some is.bytes) (bytes_back part is)
    ∙ ap (λ (fault : Option ImageWhy). unless fault (part ∷ others)) (no_fault others part is before small)

-- ---- the lines of parts

-- parts last first, before those that were told
told_onto : List Part → List Part → List Part
told_onto [] told = told
told_onto (part ∷ parts) told = told_onto parts (part ∷ told)

-- parts that may follow those that were told
record Follow (told parts : List Part) : Type 0 where
  each : All IsPart parts
  order : InOrder parts
  behind : All (λ part. All (EndsBefore part) told) parts
  few : length told + length parts ≤ most_parts
  small : total told + total parts ≤ most_bytes

abbrev Behind : List Part → Part → Type 0
Behind told part = All (EndsBefore part) told

follow_next : (told parts : List Part) (part : Part) → Follow told (part ∷ parts) → Follow (part ∷ told) parts
follow_next told parts part f = record {
  each = All-tail IsPart part parts f.each;
  order = f.order.1;
  behind = λ k d h. All-cons (EndsBefore (get_or parts k d)) part told (f.order.0 k d h) (All-tail (Behind told) part parts f.behind k d h);
  few = omega (arith, f.few);
  small = omega (arith, f.small);
}

two_lines : (number : ℕ) (parts mid next : List Part) (line line' : List ℕ) (more : List (List ℕ)) → add_line parts line ≡ Ok mid
    → add_line mid line' ≡ Ok next
    → add_lines number parts (line ∷ line' ∷ more) ≡ add_lines (number + 1 + 1) next more
two_lines number parts mid next line line' more one two = rw one (rw two refl)

lines_told : (number : ℕ) (told parts : List Part) → Follow told parts → add_lines number told (lines (text_of parts)) ≡ Ok (told_onto parts told)
unfolding told_onto
lines_told number told [] f = refl
lines_told number told (part ∷ parts) f =
    let is = All-head IsPart part parts f.each in
    let digits = All-weaker IsDigit IsOfWord digit_of_word (bytes_line part) (bytes_chars part is) in
    let one = begins told part is (omega (arith, f.few)) in
    let two = grows told part is (All-head (Behind told) part parts f.behind) (omega (arith, f.small)) in
    let cut =
    line_first (address_line part) (bytes_line part ++ 10 ∷ text_of parts) (address_chars part)
    ∙ ap (λ (ls : List (List ℕ)). address_line part ∷ ls) (line_first (bytes_line part) (text_of parts) digits) in
    ap (add_lines number told) cut
    ∙ two_lines number told (begun part ∷ told) (part ∷ told) (address_line part) (bytes_line part) (lines (text_of parts)) one two
    ∙ lines_told (number + 1 + 1) (part ∷ told) parts (follow_next told parts part f)

-- ---- by their addresses again

put_first : (part : Part) (parts : List Part) → 0 < length part.bytes → All (λ next. end_of part ≤ next.start) parts → placed parts part ≡ part ∷ parts
put_first part [] some before = let not_empty = ne_eqb (length part.bytes) 0 (λ e. omega (arith, e, some)) in rw not_empty refl
put_first part (next ∷ parts) some before =
    let not_empty = ne_eqb (length part.bytes) 0 (λ e. omega (arith, e, some)) in
    let first = before 0 next (omega arith) in
    let behind = lt-ltb part.start next.start (omega (arith, first, some)) in
    rw (not_empty, behind) refl

placed_again : (parts told : List Part) → All IsPart parts → InOrder parts → fold placed [] (told_onto parts told) ≡ fold placed parts told
unfolding told_onto
placed_again [] told each order = refl
placed_again (part ∷ parts) told each order =
    placed_again parts (part ∷ told) (All-tail IsPart part parts each) order.1
    ∙ ap (λ (ps : List Part). fold placed ps told) (put_first part parts (All-head IsPart part parts each).some order.0)

-- ---- the text

length_text : (parts : List Part) → length (text_of parts) ≡ 19 * length parts + 2 * total parts
length_text [] = refl
length_text (part ∷ parts) =
    let more = length_text parts in
    let address = length-encode_with lower_digits (big_bytes 8 part.start) in
    let eight = length-bytes_high_first 8 part.start in
    let digits = length-encode_with lower_digits part.bytes in
    let one = length-append (address_line part) (10 ∷ (bytes_line part ++ 10 ∷ text_of parts)) in
    let two = length-append (bytes_line part) (10 ∷ text_of parts) in
    omega arith

-- the text that spells an image is read to it
pub image_spelled : (image : List Part) → IsImage image → image_of (text_of image) ≡ Ok image
unfolding image_of
image_spelled image is =
    let short = le-ltb most_text (length (text_of image)) (omega (arith, length_text image, is.few, is.small)) in
    let follow : Follow [] image = record {
      each = is.parts;
      order = is.order;
      behind = λ k d h. All-nil (EndsBefore (get_or image k d));
      few = omega (arith, is.few);
      small = omega (arith, is.small);
    } in
    rw short (ap sorted (lines_told 1 [] image follow) ∙ ap Ok (placed_again image [] is.parts is.order))
