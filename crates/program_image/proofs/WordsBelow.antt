-- The places of words: how many stand below an address.
use Rattle.std.proofs.Common.{◌≡◌, ℕ, ◌+◌, ◌-◌, ◌/◌, ◌%◌, ◌^◌, ◌<◌, ◌≤◌, ◌⊎◌, min, List, [], ◌∷◌, length, refl, arith, inl, inr, Option, Some, None}
use Rattle.std.specs.Prelude.{All, IsSome}
use Rattle.std.specs.Option.{option_or}
use Rattle.std.proofs.lemmas.Bool.{le-leb, lt-ltb, eq-eqb}
use Rattle.std.proofs.lemmas.Bool.Decides.{leb_tells}
use Rattle.std.proofs.lemmas.List.Elements.{All-head, All-tail}
use Rattle.program_image.specs.Part.{InOrder, IsImage, IsPart, Part, end_of, word_in, word_of}
use Rattle.program_image.proofs.WordSearch.{outside}
use Rattle.program_image.specs.Places.{word_count, words_below}

-- ---- a word more

-- no word of parts that begin at an address or behind it stands below it
pub none_below : (parts : List Part) (from address : ℕ) → All (λ part. from ≤ part.start) parts → address ≤ from → words_below parts address ≡ 0
none_below [] from address all low = refl
none_below (part ∷ parts) from address all low =
    let here = All-head (λ part. from ≤ part.start) part parts all in
    let rest = none_below parts from address (All-tail (λ part. from ≤ part.start) part parts all) low in
    omega (arith, here, rest, low)

-- the part has the address
abbrev pub Reaches : Part → ℕ → Type 0
Reaches part a = (part.start ≤ a) × (a < end_of part)

pub reaches : (part : Part) (a : ℕ) → (Reaches part a) ⊎ (Reaches part a → ⊥)
reaches part a = elim (leb_tells part.start a) [
  | inl low ↦ elim (leb_tells (end_of part) a) [
    | inl high ↦ inr (λ r. omega (arith, r.1, high.1))
    | inr high ↦ inl (low.1, high.1)
  ]
  | inr low ↦ inr (λ r. omega (arith, r.0, low.1))
]

pub inside : (part : Part) (a : ℕ) → a % 4 ≡ 0 → Reaches part a → IsSome (word_in part a)
inside part a aligned r =
    let test = eq-eqb (a % 4) 0 aligned in
    let low = le-leb part.start a r.0 in
    let high = lt-ltb a (end_of part) r.1 in
    rw (test, low, high) refl

-- where the part has no such address, it has as many words below the next one
unreached : (part : Part) (a : ℕ) → a % 4 ≡ 0 → IsPart part → (Reaches part a → ⊥)
    → min (a + 4 - part.start) (length part.bytes) / 4 ≡ min (a - part.start) (length part.bytes) / 4
unreached part a aligned is not = elim (leb_tells part.start a) [
  | inl low ↦ elim (leb_tells (end_of part) a) [
    | inl high ↦ let far = high.1 in omega (arith, far)
    | inr high ↦ absurd (not (low.1, high.1))
  ]
  | inr low ↦ let far = low.1 in omega (arith, far, aligned, is.aligned)
]

pub or_some : (o p : Option ℕ) → IsSome o → IsSome (option_or o p)
or_some None p some = absurd cc
or_some (Some w) p some = refl

-- the word at an aligned address is counted below the next one
pub word_more : (parts : List Part) (a : ℕ) → All IsPart parts → InOrder parts → a % 4 ≡ 0
    → (IsSome (word_of parts a) × (words_below parts (a + 4) ≡ words_below parts a + 1))
    ⊎ ((word_of parts a ≡ None) × (words_below parts (a + 4) ≡ words_below parts a))
word_more [] a are order aligned = inr (refl, refl)
word_more (part ∷ parts) a are order aligned =
    let is = All-head IsPart part parts are in
    elim (reaches part a) [
      | inl r ↦
          let last : a + 4 ≤ end_of part = omega (arith, r.0, r.1, aligned, is.aligned, is.whole) in
          let now = none_below parts (end_of part) a order.0 (omega (arith, last)) in
          let next = none_below parts (end_of part) (a + 4) order.0 last in
          inl (or_some (word_in part a) (word_of parts a) (inside part a aligned r), omega (arith, now, next, r.0, r.1, last, aligned, is.aligned, is.whole))
      | inr not ↦
          let none = outside part a (λ low high. not (low, high)) in
          let rest = word_more parts a (All-tail IsPart part parts are) order.1 aligned in
          let same : min (a + 4 - part.start) (length part.bytes) / 4 ≡ min (a - part.start) (length part.bytes) / 4 = unreached part a aligned is not in
          rw none (elim rest [
            | inl some ↦ inl (some.0, omega (arith, some.1, same))
            | inr gone ↦ inr (gone.0, omega (arith, gone.1, same))
          ])
    ]

-- ---- places

-- an address is not below one, and as many words stand below it
pub below_rises : (parts : List Part) (a b : ℕ) → a ≤ b → words_below parts a ≤ words_below parts b
below_rises [] a b le = omega arith
below_rises (part ∷ parts) a b le = let rest = below_rises parts a b le in omega (arith, rest, le)

-- a word has a place among all of them
pub place_within : (image : List Part) (a : ℕ) → IsImage image → a % 4 ≡ 0 → a < 2 ^ 64 → IsSome (word_of image a)
    → words_below image a < word_count image
place_within image a is aligned lt some = elim (word_more image a is.parts is.order aligned) [
  | inl more ↦ let rises = below_rises image (a + 4) (2 ^ 64) (omega (arith, lt, aligned)) in omega (arith, more.1, rises)
  | inr none ↦ absurd (let gone = none.0 in cc)
]

-- words with one place have one address
pub place_is_one : (image : List Part) (a b : ℕ) → IsImage image → a % 4 ≡ 0 → b % 4 ≡ 0 → IsSome (word_of image a) → IsSome (word_of image b)
    → words_below image a ≡ words_below image b → a ≡ b
place_is_one image a b is aligned aligned' some some' same =
    elim (word_more image a is.parts is.order aligned) [
      | inr none ↦ absurd (let gone = none.0 in cc)
      | inl more ↦ elim (word_more image b is.parts is.order aligned') [
        | inr none ↦ absurd (let gone = none.0 in cc)
        | inl more' ↦ elim (leb_tells (a + 4) b) [
          | inl low ↦ let rises = below_rises image (a + 4) b low.1 in absurd (omega (arith, more.1, rises, same))
          | inr low ↦ elim (leb_tells (b + 4) a) [
            | inl high ↦ let rises = below_rises image (b + 4) a high.1 in absurd (omega (arith, more'.1, rises, same))
            | inr high ↦ omega (arith, low.1, high.1, aligned, aligned')
          ]
        ]
      ]
    ]

pub none_at_first : (parts : List Part) → words_below parts 0 ≡ 0
none_at_first [] = refl
none_at_first (part ∷ parts) = let rest = none_at_first parts in omega (arith, rest)
