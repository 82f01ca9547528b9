-- No image has a word at every address.
use Rattle.std.proofs.Common.{◌≡◌, ℕ, ◌+◌, ◌%◌, ◌^◌, ◌<◌, ◌≤◌, List, [], ◌∷◌, None, nat_lt, refl, arith, inl, inr}
use Rattle.std.specs.Prelude.{All}
use Rattle.std.proofs.lemmas.Bool.{cases_Bool, ltb-true, ltb-false}
use Rattle.std.proofs.lemmas.List.Elements.{All-head, All-tail, All-weaker}
use Rattle.program_image.specs.Part.{InOrder, IsImage, IsPart, Part, end_of, total, word_of}
use Rattle.program_image.proofs.WordSearch.{outside}

abbrev From : ℕ → Part → Type 0
From a part = a ≤ part.start

abbrev pub Behind : ℕ → Part → Type 0
Behind a part = a < part.start

-- no word before all parts
pub none_before : (parts : List Part) (a : ℕ) → All (Behind a) parts → word_of parts a ≡ None
none_before [] a behind = refl
none_before (part ∷ parts) a behind =
    let here : a < part.start = All-head (Behind a) part parts behind in
    rw (outside part a (λ from to. omega (arith, from, here))) (none_before parts a (All-tail (Behind a) part parts behind))

-- an address without a word, not far behind another one
record Gap (parts : List Part) (a : ℕ) : Type 0 where
  address : ℕ
  from : a ≤ address
  near : address ≤ a + total parts
  aligned : address % 4 ≡ 0
  none : word_of parts address ≡ None

gap_from : (parts : List Part) (a : ℕ) → a % 4 ≡ 0 → All IsPart parts → InOrder parts → All (From a) parts → Gap parts a
gap_from [] a aligned each order from = record { address = a; from = omega arith; near = omega arith; aligned = aligned; none = refl }
gap_from (part ∷ parts) a aligned each order from =
    elim (cases_Bool (nat_lt a part.start)) [
      | inl later ↦
          let here = ltb-true a part.start later in
          let rest = All-weaker (From (end_of part)) (Behind a) (λ next e. omega (arith, here, e)) parts order.0 in
          record {
            address = a;
            from = omega arith;
            near = omega arith;
            aligned = aligned;
            none = rw (outside part a (λ low high. omega (arith, low, here)))
                (none_before parts a rest);
          }
      | inr first ↦
          let low = ltb-false a part.start first in
          let high : a ≤ part.start = All-head (From a) part parts from in
          let is = All-head IsPart part parts each in
          let gap = gap_from parts (end_of part) (omega (arith, is.aligned, is.whole)) (All-tail IsPart part parts each) order.1 order.0 in
          record {
            address = gap.address;
            from = omega (arith, gap.from, high);
            near = omega (arith, gap.near, low);
            aligned = gap.aligned;
            none = rw (outside part gap.address (λ below above. omega (arith, above, gap.from))) gap.none;
          }
    ]

-- an address of a word at which none begins
abbrev pub IsGap : List Part → ℕ → Type 0
IsGap image address = (address < 2 ^ 64) × (address % 4 ≡ 0) × (word_of image address ≡ None)

-- one no further from address 0 than there are bytes
pub near_gap : (image : List Part) → IsImage image → (address : ℕ) × (address ≤ total image) × IsGap image address
near_gap image is =
    let gap = gap_from image 0 refl is.parts is.order (λ k d h. omega arith) in
    (gap.address, omega (arith, gap.near), (omega (arith, gap.near, is.small), gap.aligned, gap.none))

pub gap_of : (image : List Part) → IsImage image → (address : ℕ) × IsGap image address
gap_of image is = let gap = near_gap image is in (gap.0, gap.2)
