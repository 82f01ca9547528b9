-- The addresses of the words of an image, one after another, and the part that each is of.
use Rattle.std.proofs.Common.{◌≡◌, ℕ, zero, suc, ◌+◌, ◌-◌, ◌*◌, ◌/◌, ◌%◌, ◌^◌, ◌<◌, ◌≤◌, ◌∙◌, List, [], ◌∷◌, ◌++◌, length}
use Rattle.std.proofs.Common.{refl, sym, ap, arith, inl, inr, Option, Some, None, get_or, subst, length-append, append_assoc}
use Rattle.std.specs.Prelude.{All, IsSome, slice_get}
use Rattle.std.specs.List.Sorted.{IsNonDecreasingBy}
use Rattle.std.proofs.lemmas.Bool.Decides.{leb_tells}
use Rattle.std.proofs.lemmas.List.{get_or_append_left, get_or-append-add, get_or_default}
use Rattle.std.proofs.lemmas.List.Elements.{All-head, All-tail, All-weaker}
use Rattle.std.proofs.lemmas.Option.{get_or_from_slice_get, slice_get-get_or, slice_get_within}
use Rattle.program_image.specs.Part.{InOrder, IsImage, IsPart, Part, end_of, total, word_in, word_of}
use Rattle.program_image.specs.Places.{addresses_from, word_addresses, word_count, words_before, words_below}
use Rattle.program_image.proofs.Gaps.{none_before}
use Rattle.program_image.proofs.WordLaws.{has_word, word_fits}
use Rattle.program_image.proofs.WordSearch.{outside}
use Rattle.program_image.proofs.WordsBelow.{below_rises, inside, none_below, or_some, reaches, word_more}

-- ---- elements of lists that stand one after another

get_left : {X : Type 0} (xs ys : List X) (k : ℕ) (x : X) → slice_get xs k ≡ Some x → slice_get (xs ++ ys) k ≡ Some x
get_left xs ys k x is =
    let short = slice_get_within xs k x is in
    let all : k < length (xs ++ ys) = omega (arith, short, length-append xs ys) in
    slice_get-get_or (xs ++ ys) k x all ∙ ap Some (get_or_append_left xs ys x k short ∙ get_or_from_slice_get xs k x x is)

get_right : {X : Type 0} (xs ys : List X) (k : ℕ) (x : X) → slice_get ys k ≡ Some x → slice_get (xs ++ ys) (length xs + k) ≡ Some x
get_right xs ys k x is =
    let short = slice_get_within ys k x is in
    let all : length xs + k < length (xs ++ ys) = omega (arith, short, length-append xs ys) in
    slice_get-get_or (xs ++ ys) (length xs + k) x all ∙ ap Some (get_or-append-add xs ys k x ∙ get_or_from_slice_get ys k x x is)

-- ---- the addresses of a part

pub length_from : (start n : ℕ) → length (addresses_from start n) ≡ n
length_from start zero = refl
length_from start (suc n) = let rest = length_from (start + 4) n in omega (arith, rest)

nth_from : (start n k : ℕ) → k < n → slice_get (addresses_from start n) k ≡ Some (start + 4 * k)
nth_from start zero k short = absurd (omega (arith, short))
nth_from start (suc n) zero short = ap Some (omega arith)
nth_from start (suc n) (suc k) short =
    let same : start + 4 + 4 * k ≡ start + 4 * suc k = omega arith in
    nth_from (start + 4) n k (omega (arith, short)) ∙ ap Some same

-- ---- the addresses of all parts

pub length_addresses : (parts : List Part) → All IsPart parts → length (word_addresses parts) ≡ word_count parts
length_addresses [] are = refl
length_addresses (part ∷ parts) are =
    let is = All-head IsPart part parts are in
    let within = is.within in
    let rest = length_addresses parts (All-tail IsPart part parts are) in
    let here = length_from part.start (length part.bytes / 4) in
    let both = length-append (addresses_from part.start (length part.bytes / 4)) (word_addresses parts) in
    omega (arith, rest, here, both, within)

-- the word at an address stands at the place that is the number of words below it
pub stands_at : (parts : List Part) (a : ℕ) → All IsPart parts → InOrder parts → a % 4 ≡ 0 → IsSome (word_of parts a)
    → slice_get (word_addresses parts) (words_below parts a) ≡ Some a
stands_at [] a are order aligned some = absurd cc
stands_at (part ∷ parts) a are order aligned some =
    let is = All-head IsPart part parts are in
    let n = length part.bytes / 4 in
    elim (reaches part a) [
      | inl r ↦
          let rest = none_below parts (end_of part) a order.0 (omega (arith, r.1)) in
          let k = (a - part.start) / 4 in
          let place : words_below (part ∷ parts) a ≡ k = omega (arith, rest, r.0, r.1) in
          let short : k < n = omega (arith, r.0, r.1, aligned, is.aligned, is.whole) in
          let at : part.start + 4 * k ≡ a = omega (arith, r.0, aligned, is.aligned) in
          ap (slice_get (word_addresses (part ∷ parts))) place
          ∙ get_left (addresses_from part.start n) (word_addresses parts) k a (nth_from part.start n k short ∙ ap Some at)
      | inr not ↦
          let none = outside part a (λ low high. not (low, high)) in
          let some' : IsSome (word_of parts a) = rw none at some in
          let rest = stands_at parts a (All-tail IsPart part parts are) order.1 aligned some' in
          elim (leb_tells (end_of part) a) [
            | inl high ↦
                let far = high.1 in
                let len = length_from part.start n in
                let place : words_below (part ∷ parts) a ≡ length (addresses_from part.start n) + words_below parts a = omega (arith, far, len) in
                ap (slice_get (word_addresses (part ∷ parts))) place
                ∙ get_right (addresses_from part.start n) (word_addresses parts) (words_below parts a) a rest
            | inr low ↦
                let near = low.1 in
                let behind = All-weaker (λ next. end_of part ≤ next.start) (λ next. a < next.start) (λ next e. omega (arith, near, e)) parts order.0 in
                absurd (let gone = none_before parts a behind in cc)
          ]
    ]

-- and each place has an address of a word
pub record StandsAt (parts : List Part) (k a : ℕ) : Type 0 where
  pub some : IsSome (word_of parts a)
  pub aligned : a % 4 ≡ 0
  pub small : a < 2 ^ 64
  pub place : k ≡ words_below parts a

begins_behind : (parts : List Part) (from a : ℕ) → All (λ part. from ≤ part.start) parts → IsSome (word_of parts a) → from ≤ a
begins_behind parts from a all some = elim (leb_tells from a) [
  | inl low ↦ low.1
  | inr high ↦
      let near = high.1 in
      let behind = All-weaker (λ part. from ≤ part.start) (λ next. a < next.start) (λ next e. omega (arith, near, e)) parts all in
      absurd (let gone = none_before parts a behind in cc)
]

pub has_address : (parts : List Part) (k : ℕ) → All IsPart parts → InOrder parts → k < length (word_addresses parts)
    → (a : ℕ) × (slice_get (word_addresses parts) k ≡ Some a) × StandsAt parts k a
has_address [] k are order short = absurd (omega (arith, short))
has_address (part ∷ parts) k are order short =
    let is = All-head IsPart part parts are in
    let n = length part.bytes / 4 in
    let len = length_from part.start n in
    elim (leb_tells n k) [
      | inl high ↦
          let far = high.1 in
          let all = length-append (addresses_from part.start n) (word_addresses parts) in
          let rest = has_address parts (k - n) (All-tail IsPart part parts are) order.1 (omega (arith, short, far, len, all)) in
          let a = rest.0 in
          let word = rest.2 in
          let behind = begins_behind parts (end_of part) a order.0 word.some in
          let none = outside part a (λ low up. omega (arith, up, behind)) in
          let same : length (addresses_from part.start n) + (k - n) ≡ k = omega (arith, far, len) in
          let place = word.place in (
            a,
            subst (λ j. slice_get (word_addresses (part ∷ parts)) j ≡ Some a) same (get_right (addresses_from part.start n) (word_addresses parts) (k - n) a rest.1),
            record {
              some = rw none word.some;
              aligned = word.aligned;
              small = word.small;
              place = omega (arith, place, behind, far);
            },
          )
      | inr low ↦
          let near = low.1 in
          let a = part.start + 4 * k in
          let whole = is.whole in
          let high : a < end_of part = omega (arith, near, whole) in
          let rest = none_below parts (end_of part) a order.0 (omega (arith, high)) in
          let aligned : a % 4 ≡ 0 = omega (arith, is.aligned) in (
            a,
            get_left (addresses_from part.start n) (word_addresses parts) k a (nth_from part.start n k near),
            record {
              some = or_some (word_in part a) (word_of parts a) (inside part a aligned (omega arith, high));
              aligned = aligned;
              small = omega (arith, high, is.within);
              place = omega (arith, rest, high);
            },
          )
    ]

pub word_at : (image : List Part) (k a : ℕ) → IsImage image → slice_get (word_addresses image) k ≡ Some a → StandsAt image k a
word_at image k a is at =
    let there = has_address image k is.parts is.order (slice_get_within (word_addresses image) k a at) in
    let same : there.0 ≡ a = let first = there.1 in cc in
    subst (StandsAt image k) same there.2

-- ---- the part that a place is of

pub first_before : (n : ℕ) (parts : List Part) → get_or (words_before n parts) 0 0 ≡ n
first_before n [] = refl
first_before n (part ∷ parts) = refl

pub length_before : (n : ℕ) (parts : List Part) → length (words_before n parts) ≡ length parts + 1
length_before n [] = refl
length_before n (part ∷ parts) = let rest = length_before (n + length part.bytes / 4) parts in omega (arith, rest)

pub last_before : (n : ℕ) (parts : List Part) → get_or (words_before n parts) (length parts) 0 ≡ n + length (word_addresses parts)
last_before n [] = omega arith
last_before n (part ∷ parts) =
    let rest = last_before (n + length part.bytes / 4) parts in
    let here = length_from part.start (length part.bytes / 4) in
    let both = length-append (addresses_from part.start (length part.bytes / 4)) (word_addresses parts) in
    omega (arith, rest, here, both)

not_below : (n : ℕ) (parts : List Part) (k d : ℕ) → k < length (words_before n parts) → n ≤ get_or (words_before n parts) k d
not_below n [] zero d short = omega arith
not_below n [] (suc k) d short = absurd (omega (arith, short))
not_below n (part ∷ parts) zero d short = omega arith
not_below n (part ∷ parts) (suc k) d short = let rest = not_below (n + length part.bytes / 4) parts k d (omega (arith, short)) in omega (arith, rest)

pub before_rises : (n : ℕ) (parts : List Part) → IsNonDecreasingBy (λ words. words) (words_before n parts)
before_rises n [] zero zero d upto within = omega arith
before_rises n [] i (suc j) d upto within = absurd (omega (arith, within))
before_rises n [] (suc i) zero d upto within = absurd (omega (arith, upto))
before_rises n (part ∷ parts) zero j d upto within = not_below n (part ∷ parts) j d within
before_rises n (part ∷ parts) (suc i) zero d upto within = absurd (omega (arith, upto))
before_rises n (part ∷ parts) (suc i) (suc j) d upto within = before_rises (n + length part.bytes / 4) parts i j d (omega (arith, upto)) (omega (arith, within))

-- the place of an address within a part
pub place_in_part : (parts : List Part) (n k a : ℕ) (d : Part) → All IsPart parts → InOrder parts → k < length parts
    → (get_or parts k d).start ≤ a → a < end_of (get_or parts k d)
    → get_or (words_before n parts) k 0 + (a - (get_or parts k d).start) / 4 ≡ n + words_below parts a
place_in_part [] n k a d are order short low high = absurd (omega (arith, short))
place_in_part (part ∷ parts) n zero a d are order short low high =
    let rest = none_below parts (end_of part) a order.0 (omega (arith, high)) in
    omega (arith, rest, low, high)
place_in_part (part ∷ parts) n (suc k) a d are order short low high =
    let within : k < length parts = omega (arith, short) in
    let after = order.0 k d within in
    let rest = place_in_part parts (n + length part.bytes / 4) k a d (All-tail IsPart part parts are) order.1 within low high in
    omega (arith, rest, after, low)

-- the address at a place within a part
pub address_in_part : (parts : List Part) (n k place : ℕ) (d : Part) → k < length parts → get_or (words_before n parts) k 0 ≤ place
    → place < get_or (words_before n parts) (k + 1) 0
    → slice_get (word_addresses parts) (place - n) ≡ Some ((get_or parts k d).start + 4 * (place - get_or (words_before n parts) k 0))
address_in_part [] n k place d short low high = absurd (omega (arith, short))
address_in_part (part ∷ parts) n zero place d short low high =
    let first = first_before (n + length part.bytes / 4) parts in
    get_left (addresses_from part.start (length part.bytes / 4)) (word_addresses parts) (place - n) (part.start + 4 * (place - n))
    (nth_from part.start (length part.bytes / 4) (place - n) (omega (arith, first, low, high)))
address_in_part (part ∷ parts) n (suc k) place d short low high =
    let m = length part.bytes / 4 in
    let within : k < length parts = omega (arith, short) in
    let len = length_from part.start m in
    let above = not_below (n + m) parts k 0 (omega (arith, within, length_before (n + m) parts)) in
    let next : suc k + 1 ≡ suc (k + 1) = omega arith in
    let high' = subst (λ i. place < get_or (words_before n (part ∷ parts)) i 0) next high in
    let rest = address_in_part parts (n + m) k place d within low high' in
    let same : length (addresses_from part.start m) + (place - (n + m)) ≡ place - n = omega (arith, len, above, low) in
    subst (λ j. slice_get (word_addresses (part ∷ parts)) j ≡ Some ((get_or parts k d).start + 4 * (place - get_or (words_before (n + m) parts) k 0))) same
    (get_right (addresses_from part.start m) (word_addresses parts) (place - (n + m)) _ rest)

-- ---- addresses and places

pub some_is : (o : Option ℕ) → IsSome o → (w : ℕ) × (o ≡ Some w)
some_is None some = absurd cc
some_is (Some w) some = (w, refl)

pub word_aligned : (image : List Part) (a : ℕ) → IsImage image → IsSome (word_of image a) → a % 4 ≡ 0
word_aligned image a is some =
    let w = some_is (word_of image a) some in
    let fits = word_fits image a w.0 is w.1 in
    fits.1

pub word_of_place : (image : List Part) (place a : ℕ) → IsImage image → slice_get (word_addresses image) place ≡ Some a
    → IsSome (word_of image a) × (place ≡ words_below image a)
word_of_place image place a is at = let stands = word_at image place a is at in (stands.some, stands.place)

pub place_of_word : (image : List Part) (place a : ℕ) → IsImage image → IsSome (word_of image a) × (place ≡ words_below image a)
    → slice_get (word_addresses image) place ≡ Some a
place_of_word image place a is word =
    ap (slice_get (word_addresses image)) word.1 ∙ stands_at image a is.parts is.order (word_aligned image a is word.0) word.0

-- a word counts below a later one
pub below_more : (image : List Part) (a b : ℕ) → IsImage image → a < b → IsSome (word_of image a) → IsSome (word_of image b)
    → words_below image a < words_below image b
below_more image a b is lt some some' =
    let aligned = word_aligned image a is some in
    let aligned' = word_aligned image b is some' in
    elim (word_more image a is.parts is.order aligned) [
      | inr none ↦ absurd (let gone = none.0 in cc)
      | inl more ↦ let rises = below_rises image (a + 4) b (omega (arith, lt, aligned, aligned')) in omega (arith, more.1, rises)
    ]

-- ---- the words before each part, counted from the first part on

pub record Counting (parts rest : List Part) (before : List ℕ) (words : ℕ) : Type 0 where
  pub so_far : words_before 0 parts ≡ before ++ words_before words rest
  pub few : 4 * words + total rest ≤ total parts

pub part_counted : (parts after : List Part) (part : Part) (before : List ℕ) (words : ℕ) → Counting parts (part ∷ after) before words
    → Counting parts after (before ++ words ∷ []) (words + length part.bytes / 4)
part_counted parts after part before words c = record {
  so_far = c.so_far ∙ sym (append_assoc before (words ∷ []) (words_before (words + length part.bytes / 4) after));
  few = let few = c.few in omega (arith, few);
}

-- ---- what the look-ups answer

few_below : (parts : List Part) (a : ℕ) → 4 * words_below parts a ≤ total parts
few_below [] a = omega arith
few_below (part ∷ parts) a = let rest = few_below parts a in omega (arith, rest)

pub few_words : (image : List Part) (a : ℕ) → IsImage image → words_below image a ≤ 4194304
few_words image a is = let small = is.small in let few = few_below image a in omega (arith, small, few)

pub all_before : (image : List Part) → IsImage image → get_or (words_before 0 image) (length image) 0 ≡ word_count image
all_before image is = let all = last_before 0 image in let count = length_addresses image is.parts in omega (arith, all, count)

-- the place of the word at an address, by the part that has it
pub place_found : (image : List Part) (a k w : ℕ) (part again : Part) → IsImage image → k < length image → part ≡ get_or image k part
    → again ≡ get_or image k again → word_of image a ≡ word_in (get_or image k part) a → word_in part a ≡ Some w
    → (get_or (words_before 0 image) k 0 + (a - again.start) / 4 ≡ words_below image a) × IsSome (word_of image a)
place_found image a k w part again is short there there' word here =
    let has = has_word part a w here in
    let same = ap (λ (p : Part). p.start) there in
    let same' = ap (λ (p : Part). p.start) (there' ∙ get_or_default image k again part short) in
    let same_end = ap end_of there in
    let at = place_in_part image 0 k a part is.parts is.order short (omega (arith, has.from, same)) (omega (arith, has.to, same_end)) in
    let found : word_of image a ≡ Some w = word ∙ ap (λ (p : Part). word_in p a) (sym there) ∙ here in
    (omega (arith, at, same'), rw found refl)

-- so many stand before each part
pub few_before : (image : List Part) (k : ℕ) → IsImage image → k < length image → get_or (words_before 0 image) k 0 ≤ 4194304
few_before image k is short =
    let d : Part = record { start = 0; bytes = [] } in
    let part = get_or image k d in
    let some = (is.parts k d short).some in
    let at = place_in_part image 0 k part.start d is.parts is.order short (omega arith) (omega (arith, some)) in
    let few = few_words image part.start is in
    omega (arith, at, few)

-- the address at a place, by the part that has it
pub address_found : (image : List Part) (k place : ℕ) (part : Part) → IsImage image → k < length image → part ≡ get_or image k part
    → get_or (words_before 0 image) k 0 ≤ place → place < get_or (words_before 0 image) (k + 1) 0
    → slice_get (word_addresses image) place ≡ Some (part.start + (place - get_or (words_before 0 image) k 0) * 4)
address_found image k place part is short there low high =
    let at = address_in_part image 0 k place part short low high in
    let same = ap (λ (p : Part). p.start) there in
    let sum : (get_or image k part).start + 4 * (place - get_or (words_before 0 image) k 0)
    ≡ part.start + (place - get_or (words_before 0 image) k 0) * 4 = omega (arith, same) in
    let first : place - 0 ≡ place = omega arith in
    ap (slice_get (word_addresses image)) (sym first) ∙ at ∙ ap Some sum
