-- Parts that were told, put by their addresses.
use Rattle.std.proofs.Common.{◌≡◌, ℕ, suc, ◌+◌, ◌<◌, ◌≤◌, List, [], ◌∷◌, length, Bool, true, false, not}
use Rattle.std.proofs.Common.{nat_lt, refl, sym, ap, ◌∙◌, arith, cond, get_or, subst, inl, inr, Result, Ok, Err}
use Rattle.std.specs.Prelude.{◌==◌, All, fold}
use Rattle.std.specs.List.{insert, position_or_len}
use Rattle.std.proofs.lemmas.Bool.{cases_Bool, eqb-false, ltb-true, ltb-false}
use Rattle.std.proofs.lemmas.List.Elements.{All-cons, All-head, All-nil, All-tail, All-weaker}
use Rattle.program_image.specs.Part.{InOrder, IsImage, IsPart, Part, end_of, most_bytes, most_parts, total}
use Rattle.program_image.specs.ImageText.{add_lines, by_address, image_of, most_text, placed, sorted}
use Rattle.program_image.specs.declared.fault.ImageWhy.{ImageWhy}
use Rattle.program_image.specs.declared.fault.ImageWhy.TheVariants.{TooLong}
use Rattle.std.specs.Str.Lines.{lines}
use Rattle.program_image.proofs.Told.{AllApart, Apart, AreTold, IsToldPart, lines_added, none_told}

-- a part before the first that begins behind it
put : Part → List Part → List Part
put part [] = part ∷ []
put part (other ∷ others) = cond (nat_lt part.start other.start) (part ∷ other ∷ others) (other ∷ put part others)

abbrev is_behind : Part → Part → Bool
is_behind part other = nat_lt part.start other.start

put_here : (part other : Part) (others : List Part) (n : ℕ) (test : Bool) → insert others n part ≡ put part others
    → insert (other ∷ others) (cond (not test) (1 + n) 0) part ≡ cond test (part ∷ other ∷ others) (other ∷ put part others)
put_here part other others n true e = refl
put_here part other others n false e =
    let one : 1 + n ≡ suc n = omega arith in
    ap (λ (m : ℕ). insert (other ∷ others) m part) one ∙ ap (λ (rest : List Part). other ∷ rest) e

insert_is_put : (part : Part) (others : List Part) → insert others (position_or_len (is_behind part) others) part ≡ put part others
unfolding put
insert_is_put part [] = refl
insert_is_put part (other ∷ others) = put_here part other others (position_or_len (is_behind part) others) (nat_lt part.start other.start)
    (insert_is_put part others)

all_put : (P : Part → Type 0) (part : Part) (others : List Part) → P part → All P others → All P (put part others)
unfolding put
all_put P part [] here all = All-cons P part [] here all
all_put P part (other ∷ others) here all =
    elim (nat_lt part.start other.start) as (λ test. All P (cond test (part ∷ other ∷ others) (other ∷ put part others))) [
      | true ↦ All-cons P part (other ∷ others) here all
      | false ↦ All-cons P other (put part others) (All-head P other others all) (all_put P part others here (All-tail P other others all))
    ]

length_put : (part : Part) (others : List Part) → length (put part others) ≡ suc (length others)
unfolding put
length_put part [] = refl
length_put part (other ∷ others) =
    elim (nat_lt part.start other.start) as (λ test. length (cond test (part ∷ other ∷ others) (other ∷ put part others)) ≡ suc (suc (length others))) [
      | true ↦ refl
      | false ↦ ap suc (length_put part others)
    ]

total_put : (part : Part) (others : List Part) → total (put part others) ≡ length part.bytes + total others
unfolding put
total_put part [] = refl
total_put part (other ∷ others) =
    let more = total_put part others in
    elim (nat_lt part.start other.start) as
    (λ test. total (cond test (part ∷ other ∷ others) (other ∷ put part others)) ≡ length part.bytes + (length other.bytes + total others)) [
      | true ↦ refl
      | false ↦ omega (arith, more)
    ]

-- of two parts apart, the one that begins first ends before the other begins
ends_before : (p q : Part) → 0 < length q.bytes → Apart p q → p.start ≤ q.start → end_of p ≤ q.start
ends_before p q some apart order =
    elim (cases_Bool (nat_lt q.start (end_of p))) [
      | inl inside ↦ absurd (apart q.start (order, ltb-true q.start (end_of p) inside) (omega arith, omega (arith, some)))
      | inr outside ↦ ltb-false q.start (end_of p) outside
    ]

starts_after : (p q : Part) → 0 < length p.bytes → Apart p q → q.start ≤ p.start → end_of q ≤ p.start
starts_after p q some apart order = ends_before q p some (λ a here there. apart a there here) order

abbrev Before : ℕ → Part → Type 0
Before end next = end ≤ next.start

order_put : (part : Part) (others : List Part) → 0 < length part.bytes → All IsPart others → All (Apart part) others → InOrder others
    → InOrder (put part others)
unfolding put
order_put part [] some parts apart order = (All-nil (Before (end_of part)), tt)
order_put part (other ∷ others) some parts apart order =
    let here = All-head (Apart part) other others apart in
    let is = All-head IsPart other others parts in
    elim (cases_Bool (nat_lt part.start other.start)) [
      | inl first ↦
          let start = ltb-true part.start other.start first in
          let before = ends_before part other is.some here (omega (arith, start)) in
          let later = All-weaker (Before (end_of other)) (Before (end_of part)) (λ next e. omega (arith, before, e)) others order.0 in
          rw first (All-cons (Before (end_of part)) other others before later, order)
      | inr behind ↦
          let start = ltb-false part.start other.start behind in
          let after = starts_after part other some here start in
          let rest = order_put part others some (All-tail IsPart other others parts) (All-tail (Apart part) other others apart) order.1 in
          rw behind (all_put (Before (end_of other)) part others after order.0, rest)
    ]

-- parts in their places, and those that are still to be put there
record Placing (sorted rest : List Part) : Type 0 where
  parts : All IsPart sorted
  order : InOrder sorted
  told : All IsToldPart rest
  among : AllApart rest
  apart : All (λ part. All (Apart part) sorted) rest
  few : length sorted + length rest ≤ most_parts
  small : total sorted + total rest ≤ most_bytes

abbrev ApartFrom : List Part → Part → Type 0
ApartFrom sorted part = All (Apart part) sorted

apart_put : (part : Part) (sorted rest : List Part) → All (Apart part) rest → All (ApartFrom sorted) rest → All (ApartFrom (put part sorted)) rest
apart_put part sorted rest here apart = λ k d h.
    let other = get_or rest k d in
    all_put (Apart other) part sorted (λ a mine its. here k d h a its mine) (apart k d h)

is_part : (part : Part) → IsToldPart part → 0 < length part.bytes → IsPart part
is_part part told some = record { aligned = told.aligned; whole = told.whole; some = some; within = told.within some; bytes = told.bytes }

place_one : (part : Part) (sorted rest : List Part) (empty : Bool) → (length part.bytes == 0) ≡ empty → Placing sorted (part ∷ rest)
    → Placing (cond empty sorted (insert sorted (position_or_len (is_behind part) sorted) part)) rest
place_one part sorted rest true e p = record {
  parts = p.parts;
  order = p.order;
  told = All-tail IsToldPart part rest p.told;
  among = p.among.1;
  apart = All-tail (ApartFrom sorted) part rest p.apart;
  few = omega (arith, p.few);
  small = omega (arith, p.small);
}
place_one part sorted rest false e p =
    let not_empty = eqb-false (length part.bytes) 0 e in
    let some : 0 < length part.bytes = omega (arith, not_empty) in
    let is = is_part part (All-head IsToldPart part rest p.told) some in
    let here = All-head (ApartFrom sorted) part rest p.apart in
    let done : Placing (put part sorted) rest = record {
      parts = all_put IsPart part sorted is p.parts;
      order = order_put part sorted some p.parts here p.order;
      told = All-tail IsToldPart part rest p.told;
      among = p.among.1;
      apart = apart_put part sorted rest p.among.0 (All-tail (ApartFrom sorted) part rest p.apart);
      few = omega (arith, p.few, length_put part sorted);
      small = omega (arith, p.small, total_put part sorted);
    } in
    subst (λ (parts : List Part). Placing parts rest) (sym (insert_is_put part sorted)) done

all_placed : (sorted rest : List Part) → Placing sorted rest → IsImage (fold placed sorted rest)
all_placed sorted [] p = record { parts = p.parts; order = p.order; few = omega (arith, p.few); small = omega (arith, p.small) }
all_placed sorted (part ∷ rest) p = all_placed (placed sorted part) rest (place_one part sorted rest (length part.bytes == 0) refl p)

-- parts that were told are an image, by their addresses
pub image_placed : (parts : List Part) → AreTold parts → IsImage (by_address parts)
image_placed parts told = all_placed [] parts (record {
  parts = All-nil IsPart;
  order = tt;
  told = told.each;
  among = told.apart;
  apart = λ k d h. All-nil (Apart (get_or parts k d));
  few = omega (arith, told.few);
  small = omega (arith, told.small);
})

sorted_image : (r : Result (List Part) (ℕ × ImageWhy)) (image : List Part) → ((told : List Part) → r ≡ Ok told → AreTold told) → sorted r ≡ Ok image
    → IsImage image
sorted_image (Ok told) image are e = subst IsImage (let same : by_address told ≡ image = cc in same) (image_placed told (are told refl))
sorted_image (Err fault) image are e = cc

chosen_image : (long : Bool) (fault r : Result (List Part) (ℕ × ImageWhy)) (image : List Part) → (fault ≡ Ok image → ⊥) → (r ≡ Ok image → IsImage image)
    → cond long fault r ≡ Ok image → IsImage image
chosen_image true fault r image none go e = absurd (none e)
chosen_image false fault r image none go e = go e

-- what a text spells is an image
pub image_read : (text : List ℕ) (image : List Part) → image_of text ≡ Ok image → IsImage image
unfolding image_of
image_read text image e =
    chosen_image (nat_lt most_text (length text)) (Err (0, TooLong)) (sorted (add_lines 1 [] (lines text))) image (λ e. cc)
    (sorted_image (add_lines 1 [] (lines text)) image (λ told are. lines_added 1 [] told (lines text) none_told are)) e
