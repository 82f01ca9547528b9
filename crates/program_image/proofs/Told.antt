-- What holds of the parts that lines tell, last first.
use Rattle.std.proofs.Common.{◌≡◌, ℕ, suc, ◌+◌, ◌%◌, ◌^◌, ◌<◌, ◌≤◌, List, [], ◌∷◌, ◌++◌, length, length-append, Bool, true, false, not, ◌||◌}
use Rattle.std.proofs.Common.{Option, Some, None, Result, Ok, Err, nat_lt, nat_le, refl, ap, arith, cond, inl, inr, subst, get_or, min, max, ◌⊎◌}
use Rattle.std.specs.Prelude.{◌==◌, All, drop, slice_index, ⊤}
use Rattle.std.specs.List.{list_any}
use Rattle.std.specs.Option.{ok_or, option_map, option_and_then}
use Rattle.std.specs.Result.{result_ok}
use Rattle.std.specs.Str.{is_utf8}
use Rattle.std.proofs.lemmas.Bool.{cases_Bool, eqb-true, ltb-true, ltb-false, leb-false}
use Rattle.std.proofs.lemmas.Option.{none-some, same_Some}
use Rattle.std.proofs.lemmas.List.Elements.{All-cons, All-head, All-nil, All-tail, All-append}
use Rattle.hex.specs.Hex.{IsBytes, decode_of}
use Rattle.hex.specs.declared.error.FromHexError.{FromHexError}
use Rattle.hex.proofs.HexLemmas.{decode_of-ok}
use Rattle.program_image.specs.Part.{Part, end_of, most_bytes, most_parts, total}
use Rattle.line_words.specs.Line.{words_in}
use Rattle.program_image.specs.ImageText.{◌>>=◌, add_bytes, add_line, add_lines, add_words, bytes_of}
use Rattle.program_image.specs.ImageText.{address_of, begin_part, growth_fault, has_between, then_lines, unless}
use Rattle.program_image.specs.declared.fault.ImageWhy.{ImageWhy}
use Rattle.program_image.specs.declared.fault.ImageWhy.TheVariants.{Syntax, Unaligned, Overlap, Wraps, TooLarge}

-- the part has a byte at the address
abbrev pub Covers : Part → ℕ → Type 0
Covers part a = (part.start ≤ a) × (a < end_of part)

-- no address has a byte of both
abbrev pub Apart : Part → Part → Type 0
Apart p q = (a : ℕ) → Covers p a → Covers q a → ⊥

abbrev pub AllApart : List Part → Type 0
AllApart [] = ⊤
AllApart (part ∷ parts) = All (λ other. Apart part other) parts × AllApart parts

abbrev pub IsByte : ℕ → Type 0
IsByte byte = byte < 256

-- a part that may have no bytes yet
pub record IsToldPart (part : Part) : Type 0 where
  pub aligned : part.start % 4 ≡ 0
  pub whole : length part.bytes % 4 ≡ 0
  pub within : 0 < length part.bytes → end_of part ≤ 2 ^ 64
  pub bytes : All IsByte part.bytes

pub record AreTold (parts : List Part) : Type 0 where
  pub each : All IsToldPart parts
  pub apart : AllApart parts
  pub few : length parts ≤ most_parts
  pub small : total parts ≤ most_bytes

pub none_told : AreTold []
none_told = record { each = All-nil IsToldPart; apart = tt; few = omega arith; small = omega arith }

-- ---- a part that begins

-- tests in turn, none of which gives a fault
two_tests : {A : Type 0} (a b : Bool) (v w : ImageWhy) (x y : A) → cond (not a) (Err v) (cond b (Err w) (Ok x)) ≡ Ok y → (a ≡ true) × (b ≡ false) × (x ≡ y)
two_tests true false v w x y e = (refl, refl, cc)
two_tests true true v w x y e = cc
two_tests false b v w x y e = cc

begun_told : (parts : List Part) (start : ℕ) → AreTold parts → start % 4 ≡ 0 → length parts < most_parts
    → AreTold (record { start = start; bytes = [] } ∷ parts)
begun_told parts start told aligned room =
    let part : Part = record { start = start; bytes = [] } in
    let is : IsToldPart part = record { aligned = aligned; whole = refl; within = λ some. absurd (omega arith); bytes = All-nil IsByte } in
    record {
      each = All-cons IsToldPart part parts is told.each;
      apart = (λ k d h a here there. absurd (omega (arith, here.0, here.1)), told.apart);
      few = omega (arith, room);
      small = omega (arith, told.small);
    }

part_begun : (parts next : List Part) (start : ℕ) → AreTold parts → begin_part parts start ≡ Ok next → AreTold next
part_begun parts next start told e =
    let tests = two_tests (start % 4 == 0) (nat_le most_parts (length parts)) Unaligned TooLarge (record { start = start; bytes = [] } ∷ parts) next e in
    let room = leb-false most_parts (length parts) tests.1 in
    subst AreTold tests.2 (begun_told parts start told (eqb-true (start % 4) 0 tests.0) room)

-- ---- a part that grows

neither : (a b : Bool) → (a || b) ≡ false → (a ≡ false) × (b ≡ false)
neither false false e = (refl, refl)
neither false true e = cc
neither true b e = cc

none_of : (p : Part → Bool) (xs : List Part) → list_any p xs ≡ false → All (λ x. p x ≡ false) xs
none_of p [] e = All-nil (λ x. p x ≡ false)
none_of p (x ∷ xs) e =
    let parts = neither (p x) (list_any p xs) e in
    All-cons (λ x. p x ≡ false) x xs parts.0 (none_of p xs parts.1)

abbrev grown : Part → List ℕ → Part
grown part bytes = record { start = part.start; bytes = part.bytes ++ bytes }

grown_apart : (part other : Part) (bytes : List ℕ) → Apart part other → has_between (end_of part) (end_of part + length bytes) other ≡ false
    → Apart (grown part bytes) other
grown_apart part other bytes apart none = λ a here there.
    elim (cases_Bool (nat_lt a (end_of part))) [
      | inl before ↦ apart a (here.0, ltb-true a (end_of part) before) there
      | inr behind ↦
          let from = ltb-false a (end_of part) behind in
          let empty = ltb-false (max (end_of part) other.start) (min (end_of part + length bytes) (end_of other)) none in
          let len = length-append part.bytes bytes in
          let to = here.1 in
          let a_from = there.0 in
          let a_to = there.1 in
          absurd (omega arith)
    ]

four_tests : (a b c d : Bool) → cond (not a) (Some Unaligned) (cond b (Some Wraps) (cond c (Some Overlap) (cond d (Some TooLarge) None))) ≡ None
    → (a ≡ true) × (b ≡ false) × (c ≡ false) × (d ≡ false)
four_tests true false false false e = (refl, refl, refl, refl)
four_tests true false false true e = cc
four_tests true false true d e = cc
four_tests true true c d e = cc
four_tests false b c d e = cc

no_fault : {A : Type 0} (fault : Option ImageWhy) (x y : A) → unless fault x ≡ Ok y → (fault ≡ None) × (x ≡ y)
no_fault None x y e = (refl, cc)
no_fault (Some why) x y e = cc

grown_told : (part : Part) (others : List Part) (bytes : List ℕ) → AreTold (part ∷ others) → All IsByte bytes
    → growth_fault others part (length bytes) ≡ None → AreTold (grown part bytes ∷ others)
grown_told part others bytes told are_bytes e =
    let count = length bytes in
    let tests =
    four_tests (count % 4 == 0) (nat_lt (2 ^ 64) (end_of part + count)) (list_any (has_between (end_of part) (end_of part + count)) others)
    (nat_lt most_bytes (total (part ∷ others) + count)) e in
    let none = none_of (has_between (end_of part) (end_of part + count)) others tests.2 in
    let old = All-head IsToldPart part others told.each in
    let len = length-append part.bytes bytes in
    let whole = eqb-true (count % 4) 0 tests.0 in
    let within = ltb-false (2 ^ 64) (end_of part + count) tests.1 in
    let small = ltb-false most_bytes (total (part ∷ others) + count) tests.3 in
    let is : IsToldPart (grown part bytes) = record {
      aligned = old.aligned;
      whole = omega (arith, old.whole, whole, len);
      within = λ some. omega (arith, within, len);
      bytes = All-append IsByte part.bytes bytes old.bytes are_bytes;
    } in
    record {
      each = All-cons IsToldPart (grown part bytes) others is (All-tail IsToldPart part others told.each);
      apart = (λ k d h. grown_apart part (get_or others k d) bytes (told.apart.0 k d h) (none k d h), told.apart.1);
      few = told.few;
      small = omega (arith, small, len);
    }

bytes_added : (parts next : List Part) (bytes : List ℕ) → AreTold parts → All IsByte bytes → add_bytes parts bytes ≡ Ok next → AreTold next
bytes_added [] next bytes told are_bytes e = cc
bytes_added (part ∷ others) next bytes told are_bytes e =
    let no = no_fault (growth_fault others part (length bytes)) (grown part bytes ∷ others) next e in
    subst AreTold no.1 (grown_told part others bytes told are_bytes no.0)

-- ---- the bytes of words

all_bytes : (xs : List ℕ) → IsBytes xs → All IsByte xs
all_bytes [] fit = All-nil IsByte
all_bytes (x ∷ xs) fit = All-cons IsByte x xs (fit 0) (all_bytes xs (λ k. fit (suc k)))

joined_bytes : (front bytes : List ℕ) (more : Option (List ℕ)) → All IsByte front → ((b : List ℕ) → more ≡ Some b → All IsByte b)
    → option_map (λ more. front ++ more) more ≡ Some bytes → All IsByte bytes
joined_bytes front bytes (Some more) fit fits e = subst (All IsByte) (same_Some (front ++ more) bytes e) (All-append IsByte front more fit (fits more refl))
joined_bytes front bytes None fit fits e = absurd (none-some bytes e)

word_bytes : (word bytes : List ℕ) (r : Result (List ℕ) FromHexError) (more : Option (List ℕ)) → decode_of word ≡ r
    → ((b : List ℕ) → more ≡ Some b → All IsByte b)
    → option_and_then (λ front. option_map (λ more. front ++ more) more) (result_ok r) ≡ Some bytes → All IsByte bytes
word_bytes word bytes (Ok front) more decoded fits e = joined_bytes front bytes more (all_bytes front (decode_of-ok word front decoded).3) fits e
word_bytes word bytes (Err fault) more decoded fits e = absurd (none-some bytes e)

words_bytes : (words : List (List ℕ)) (bytes : List ℕ) → bytes_of words ≡ Some bytes → All IsByte bytes
words_bytes [] bytes e = subst (All IsByte) (same_Some [] bytes e) (All-nil IsByte)
words_bytes (word ∷ words) bytes e = word_bytes word bytes (decode_of word) (bytes_of words) refl (words_bytes words) e

-- ---- a line

pub record Bound {A B : Type 0} (r : Result A ImageWhy) (f : A → Result B ImageWhy) (y : B) : Type 0 where
  pub from : A
  pub was : r ≡ Ok from
  pub then : f from ≡ Ok y

bound : {A B : Type 0} (r : Result A ImageWhy) (f : A → Result B ImageWhy) (y : B) → (r >>= f) ≡ Ok y → Bound r f y
bound (Ok x) f y e = record { from = x; was = refl; then = e }
bound (Err why) f y e = cc

was_some : {A : Type 0} (o : Option A) (x : A) → ok_or o Syntax ≡ Ok x → o ≡ Some x
was_some (Some y) x e = ap Some (let same : y ≡ x = cc in same)
was_some None x e = cc

three_ways : {A : Type 0} (a b : Bool) (x y z r : A) → cond a x (cond b y z) ≡ r → (x ≡ r) ⊎ ((y ≡ r) ⊎ (z ≡ r))
three_ways true b x y z r e = inl e
three_ways false true x y z r e = inr (inl e)
three_ways false false x y z r e = inr (inr e)

abbrev taken : List Part → Result (List Part) ImageWhy
taken parts = Ok parts

same_parts : (parts next : List Part) → AreTold parts → taken parts ≡ taken next → AreTold next
same_parts parts next told e = subst AreTold (let same : parts ≡ next = cc in same) told

words_added : (parts next : List Part) (words : List (List ℕ)) → AreTold parts → add_words parts words ≡ Ok next → AreTold next
words_added parts next [] told e = same_parts parts next told e
words_added parts next (word ∷ words) told e =
    let address = address_of (drop 1 word) words >>= begin_part parts in
    let bytes = ok_or (bytes_of (word ∷ words)) Syntax >>= add_bytes parts in
    elim (three_ways (slice_index word 0 == 35) (slice_index word 0 == 64) (Ok parts) address bytes (Ok next) e) [
      | inl passed ↦ same_parts parts next told passed
      | inr (inl begins) ↦
          let b = bound (address_of (drop 1 word) words) (begin_part parts) next begins in
          part_begun parts next b.from told b.then
      | inr (inr adds) ↦
          let b = bound (ok_or (bytes_of (word ∷ words)) Syntax) (add_bytes parts) next adds in
          bytes_added parts next b.from told (words_bytes (word ∷ words) b.from (was_some (bytes_of (word ∷ words)) b.from b.was)) b.then
    ]

line_added : (parts next : List Part) (line : List ℕ) (test : Bool) → AreTold parts → cond test (add_words parts (words_in line)) (Err Syntax) ≡ Ok next
    → AreTold next
line_added parts next line true told e = words_added parts next (words_in line) told e
line_added parts next line false told e = cc

-- ---- lines

then_told : (number : ℕ) (r : Result (List Part) ImageWhy) (more : List Part → Result (List Part) (ℕ × ImageWhy)) (last : List Part)
    → ((next : List Part) → r ≡ Ok next → more next ≡ Ok last → AreTold last) → then_lines number r more ≡ Ok last → AreTold last
then_told number (Ok next) more last go e = go next refl e
then_told number (Err why) more last go e = cc

pub lines_added : (number : ℕ) (parts last : List Part) (lines : List (List ℕ)) → AreTold parts → add_lines number parts lines ≡ Ok last → AreTold last
lines_added number parts last [] told e = subst AreTold (let same : parts ≡ last = cc in same) told
lines_added number parts last (line ∷ lines) told e =
    then_told number (add_line parts line) (λ next. add_lines (number + 1) next lines) last
    (λ next is rest. lines_added (number + 1) next last lines (line_added parts next line (is_utf8 line) told is) rest)
    e
