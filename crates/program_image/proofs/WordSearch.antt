-- The word at an address, by the part that begins last before it.
use Rattle.std.proofs.Common.{◌≡◌, ℕ, zero, suc, ◌-◌, ◌%◌, ◌<◌, ◌≤◌, List, [], ◌∷◌, length}
use Rattle.std.proofs.Common.{true, false, ◌&&◌, Option, Some, None, nat_lt, nat_le, refl, arith, get_or, subst}
use Rattle.std.specs.Prelude.{◌==◌, All, MatchOption, SomeIff}
use Rattle.std.specs.List.Sorted.{IsNonDecreasingBy, IsPartitionPoint, IsPartitionedBy}
use Rattle.std.specs.Option.{option_or}
use Rattle.std.proofs.lemmas.Bool.{leb-true, leb-false, false_from_ne_true, and_parts, ltb-true}
use Rattle.std.proofs.lemmas.List.Sorted.{IsPartitionedBy-leb}
use Rattle.program_image.specs.Part.{InOrder, IsImage, Part, end_of, word_in, word_of}

-- no word where the part does not reach
pub outside : (part : Part) (a : ℕ) → ((part.start ≤ a) → (a < end_of part) → ⊥) → word_in part a ≡ None
outside part a not =
    let test = false_from_ne_true ((a % 4 == 0) && (nat_le part.start a && nat_lt a (end_of part)))
    (λ t. let both = and_parts _ _ t in let range = and_parts _ _ both.1 in not (leb-true part.start a range.0) (ltb-true a (end_of part) range.1)) in
    rw test refl

or_none : (o : Option ℕ) → option_or o None ≡ o
or_none None = refl
or_none (Some w) = refl

-- the first n parts begin at most at the address, and the others behind it
pub record Splits (parts : List Part) (a n : ℕ) : Type 0 where
  pub low : (k : ℕ) (d : Part) → k < n → (get_or parts k d).start ≤ a
  pub high : (k : ℕ) (d : Part) → n ≤ k → k < length parts → a < (get_or parts k d).start

splits_tail : (part : Part) (parts : List Part) (a n : ℕ) → Splits (part ∷ parts) a (suc n) → Splits parts a n
splits_tail part parts a n s = record {
  low = λ k d h. s.low (suc k) d (omega (arith, h));
  high = λ k d from to. s.high (suc k) d (omega (arith, from)) (omega (arith, to));
}

pub none_begins : (parts : List Part) (a : ℕ) → Splits parts a 0 → word_of parts a ≡ None
none_begins [] a s = refl
none_begins (part ∷ parts) a s =
    let here = s.high 0 part (omega arith) (omega arith) in
    let rest : Splits parts a 0 =
    record { low = λ k d h. absurd (omega (arith, h)); high = λ k d from to. s.high (suc k) d (omega arith) (omega (arith, to)) } in
    rw (outside part a (λ from to. omega (arith, from, here))) (none_begins parts a rest)

pub last_begins : (parts : List Part) (a n : ℕ) (d : Part) → InOrder parts → n < length parts → Splits parts a (suc n)
    → word_of parts a ≡ word_in (get_or parts n d) a
last_begins [] a n d order short s = absurd (omega (arith, short))
last_begins (part ∷ parts) a zero d order short s =
    rw (none_begins parts a (splits_tail part parts a 0 s)) (or_none (word_in part a))
last_begins (part ∷ parts) a (suc n) d order short s =
    let within : n < length parts = omega (arith, short) in
    let before = order.0 n d within in
    let begins = s.low (suc n) d (omega arith) in
    rw (outside part a (λ from to. omega (arith, to, before, begins))) (last_begins parts a n d order.1 within (splits_tail part parts a (suc n) s))

-- what stands in order begins in order
rises : (part : Part) (parts : List Part) → All (λ next. end_of part ≤ next.start) parts → IsNonDecreasingBy (λ part. part.start) parts → (i j : ℕ) (d : Part)
    → i ≤ j → j < suc (length parts) → (get_or (part ∷ parts) i d).start ≤ (get_or (part ∷ parts) j d).start
rises part parts first more zero zero d upto within = omega arith
rises part parts first more zero (suc j) d upto within = omega (arith, first j d (omega (arith, within)))
rises part parts first more (suc i) zero d upto within = absurd (omega (arith, upto))
rises part parts first more (suc i) (suc j) d upto within = more i j d (omega (arith, upto)) (omega (arith, within))

rising : (parts : List Part) → InOrder parts → IsNonDecreasingBy (λ part. part.start) parts
rising [] order = λ i j d upto within. absurd (omega (arith, within))
rising (part ∷ parts) order = rises part parts order.0 (rising parts order.1)

pub partitioned : (parts : List Part) (a : ℕ) → IsImage parts → IsPartitionedBy (λ part. nat_le part.start a) parts
partitioned parts a is = IsPartitionedBy-leb (λ part. part.start) parts a (rising parts is.order)

splits_at : (parts : List Part) (a n : ℕ) → IsPartitionPoint (λ part. nat_le part.start a ≡ true) (λ part. nat_le part.start a ≡ false) parts n
    → Splits parts a n
splits_at parts a n point = record {
  low = λ k d h. leb-true _ a (point.0 k d (omega arith) h);
  high = λ k d from to. leb-false _ a (point.1 k d from to);
}

pub none_begun : (parts : List Part) (a n : ℕ) → IsPartitionPoint (λ part. nat_le part.start a ≡ true) (λ part. nat_le part.start a ≡ false) parts n → n ≡ 0
    → word_of parts a ≡ None
none_begun parts a n point none = none_begins parts a (subst (λ (m : ℕ). Splits parts a m) none (splits_at parts a n point))

pub last_begun : (parts : List Part) (a n k : ℕ) (d : Part) → IsImage parts
    → IsPartitionPoint (λ part. nat_le part.start a ≡ true) (λ part. nat_le part.start a ≡ false) parts n
    → n ≡ suc k → k < length parts → word_of parts a ≡ word_in (get_or parts k d) a
last_begun parts a n k d is point next within = last_begins parts a k d is.order within (subst (λ (m : ℕ). Splits parts a m) next (splits_at parts a n point))

-- the first n parts begin at most at the address
abbrev pub Begun : ℕ → ℕ → List Part → Type 0
Begun a n parts = IsPartitionPoint (λ part. nat_le part.start a ≡ true) (λ part. nat_le part.start a ≡ false) parts n

-- which part the word is of
pub place_of : (parts : List Part) (a n : ℕ) (place : Option ℕ) → IsImage parts → Begun a n parts → n ≤ length parts
    → SomeIff place (1 ≤ n) (n - 1)
    → MatchOption place (word_of parts a ≡ None) (λ k. (part : Part) → word_of parts a ≡ word_in (get_or parts k part) a)
place_of parts a n None is begun within none = none_begun parts a n begun (omega (arith, none))
place_of parts a n (Some k) is begun within before = λ part. last_begun parts a n k part is begun (omega (arith, before.1)) (omega (arith, before.1, within))
