-- A part that is a code: a reader that goes from left to right knows where a spelling ends and what it spells.
use Rattle.std.proofs.Common.{◌≡◌, ◌⊎◌, ℕ, suc, ◌+◌, ◌-◌, ◌<◌, ◌≤◌, Bool, true, false, List, [], ◌∷◌, ◌++◌}
use Rattle.std.proofs.Common.{length, take, drop, Ok, Err, refl, sym, ap, subst, ◌∙◌, append_assoc, inl, inr, arith, length-append, length-take}
use Rattle.std.specs.Prelude.{All, replicate}
use Rattle.std.proofs.lemmas.Bool.{cases_lt}
use Rattle.std.proofs.lemmas.List.{take-append-drop, length-replicate}
use Rattle.std.proofs.lemmas.List.Elements.{All-append, All-cons, All-nil, All-replicate}
use Rattle.packet_grammar.specs.declared.fault.PacketFault.{PacketFault}
use Rattle.packet_grammar.specs.Parts.{Outcome, Part, Known, Byte, Bytes, Where, Then, As}

-- two spellings at the front of the same bytes are the same
pub record Same {A : Type 0} (outcome other : Outcome A) (text text' rest rest' : List ℕ) : Type 0 where
  pub outcomes : outcome ≡ other
  pub texts : text ≡ text'
  pub rests : rest ≡ rest'

abbrev pub Apart : {A : Type 0} → Part A → Type 0
Apart {A} P = (outcome other : Outcome A) (text text' rest rest' : List ℕ)
    → P outcome text → P other text' → text ++ rest ≡ text' ++ rest' → Same outcome other text text' rest rest'

abbrev pub Small : List ℕ → Type 0
Small bytes = All (λ b. b < 256) bytes

-- bytes that lack the end of a spelling
pub record Begun {A : Type 0} (P : Outcome A → List ℕ → Type 0) (bytes : List ℕ) : Type 0 where
  pub outcome : Outcome A
  pub more : List ℕ
  pub some : 0 < length more
  pub small : Small more
  pub is : P outcome (bytes ++ more)

-- bytes with a spelling at their front
pub record Stands {A : Type 0} (P : Outcome A → List ℕ → Type 0) (bytes : List ℕ) : Type 0 where
  pub outcome : Outcome A
  pub text : List ℕ
  pub rest : List ℕ
  pub parts : bytes ≡ text ++ rest
  pub is : P outcome text

abbrev pub Covers : {A : Type 0} → Part A → Type 0
Covers P = (bytes : List ℕ) → Begun P bytes ⊎ Stands P bytes

abbrev pub AtMost : {A : Type 0} → ℕ → Part A → Type 0
AtMost {A} most P = (outcome : Outcome A) (text : List ℕ) → P outcome text → length text ≤ most

pub record Code {A : Type 0} (most : ℕ) (P : Outcome A → List ℕ → Type 0) : Type 0 where
  pub apart : Apart P
  pub covers : Covers P
  pub short : AtMost most P

pub loosen : {A : Type 0} {P : Part A} (m n : ℕ) → m ≤ n → Code m P → Code n P
loosen m n more code = record { apart = code.apart; covers = code.covers; short = λ outcome text is. omega (arith, code.short outcome text is, more) }

known_apart : {A : Type 0} (known : Outcome A) → Apart (Known known)
known_apart known outcome other [] [] rest rest' is is' e = record { outcomes = is ∙ sym is'; texts = refl; rests = e }
known_apart known outcome other [] (b ∷ text') rest rest' is is' e = absurd is'
known_apart known outcome other (b ∷ text) text' rest rest' is is' e = absurd is

known_short : {A : Type 0} (known : Outcome A) → AtMost 0 (Known known)
known_short known outcome [] is = omega arith
known_short known outcome (b ∷ text) is = absurd is

pub known_code : {A : Type 0} (known : Outcome A) → Code 0 (Known known)
known_code known = record {
  apart = known_apart known;
  covers = λ bytes. inr (record { outcome = known; text = []; rest = bytes; parts = refl; is = refl });
  short = known_short known;
}

pub first_same : (b c : ℕ) (xs ys : List ℕ) → b ∷ xs ≡ c ∷ ys → b ≡ c
first_same b c xs ys e = cc

pub others_same : (b c : ℕ) (xs ys : List ℕ) → b ∷ xs ≡ c ∷ ys → xs ≡ ys
others_same b c xs ys e = cc

-- a part that has a spelling
pub record Has {A : Type 0} (P : Outcome A → List ℕ → Type 0) : Type 0 where
  pub outcome : Outcome A
  pub text : List ℕ
  pub small : Small text
  pub is : P outcome text

nothing_small : (text rest : List ℕ) → [] ≡ text ++ rest → Small text
nothing_small [] rest e = All-nil (λ (b : ℕ). b < 256)
nothing_small (b ∷ text) rest e = absurd cc

pub has_one : {A : Type 0} {P : Part A} {most : ℕ} → Code most P → Has P
has_one {P = P} code = elim (code.covers []) [
  | inl begun ↦ record { outcome = begun.outcome; text = begun.more; small = begun.small; is = begun.is }
  | inr stands ↦ record { outcome = stands.outcome; text = stands.text; small = nothing_small stands.text stands.rest stands.parts; is = stands.is }
]

module _ {A : Type 0} (most : ℕ) (next : ℕ → Part A) where
  pub byte_apart : ((b : ℕ) → Apart (next b)) → Apart (Byte next)
  byte_apart each outcome other [] text' rest rest' is is' e = absurd is
  byte_apart each outcome other (b ∷ text) [] rest rest' is is' e = absurd is'
  byte_apart each outcome other (b ∷ text) (c ∷ text') rest rest' is is' e =
      let first : b ≡ c = first_same b c (text ++ rest) (text' ++ rest') e in
      let same =
      each b outcome other text text' rest rest' is (subst (λ x. next x other text') (sym first) is')
      (others_same b c (text ++ rest) (text' ++ rest') e) in
      record { outcomes = same.outcomes; texts = (λ i. first i ∷ same.texts i); rests = same.rests }

  pub byte_short : ((b : ℕ) → AtMost most (next b)) → AtMost (suc most) (Byte next)
  byte_short each outcome [] is = absurd is
  byte_short each outcome (b ∷ text) is = omega (arith, each b outcome text is)

  byte_covers : ((b : ℕ) → Code most (next b)) → Covers (Byte next)
  byte_covers each [] = let has = has_one (each 0) in inl
      (record {
        outcome = has.outcome;
        more = 0 ∷ has.text;
        some = omega arith;
        small = All-cons (λ (b : ℕ). b < 256) 0 has.text (omega arith) has.small;
        is =
            has.is;
      })
  byte_covers each (b ∷ bytes) = elim ((each b).covers bytes) [
    | inl begun ↦ inl (record { outcome = begun.outcome; more = begun.more; some = begun.some; small = begun.small; is = begun.is })
    | inr stands ↦ inr (record { outcome = stands.outcome; text = b ∷ stands.text; rest = stands.rest; parts = ap (λ t. b ∷ t) stands.parts; is = stands.is })
  ]

  pub byte_code : ((b : ℕ) → Code most (next b)) → Code (suc most) (Byte next)
  byte_code each = record { apart = byte_apart (λ b. (each b).apart); covers = byte_covers each; short = byte_short (λ b. (each b).short) }

where_apart : {A : Type 0} (test : Bool) (P Q : Part A) → Apart P → Apart Q → Apart (Where test P Q)
where_apart true P Q p q outcome other text text' rest rest' is is' e = p outcome other text text' rest rest' is is' e
where_apart false P Q p q outcome other text text' rest rest' is is' e = q outcome other text text' rest rest' is is' e

where_covers : {A : Type 0} (test : Bool) (P Q : Part A) → Covers P → Covers Q → Covers (Where test P Q)
where_covers true P Q p q bytes = elim (p bytes) [
  | inl x ↦ inl (record { outcome = x.outcome; more = x.more; some = x.some; small = x.small; is = x.is })
  | inr x ↦ inr (record { outcome = x.outcome; text = x.text; rest = x.rest; parts = x.parts; is = x.is })
]
where_covers false P Q p q bytes = elim (q bytes) [
  | inl x ↦ inl (record { outcome = x.outcome; more = x.more; some = x.some; small = x.small; is = x.is })
  | inr x ↦ inr (record { outcome = x.outcome; text = x.text; rest = x.rest; parts = x.parts; is = x.is })
]

where_short : {A : Type 0} (test : Bool) (P Q : Part A) (n : ℕ) → AtMost n P → AtMost n Q → AtMost n (Where test P Q)
where_short true P Q n p q outcome text is = p outcome text is
where_short false P Q n p q outcome text is = q outcome text is

pub where_code : {A : Type 0} {P Q : Part A} (n : ℕ) (test : Bool) → Code n P → Code n Q → Code n (Where test P Q)
where_code {P = P} {Q = Q} n test p q = record
    { apart = where_apart test P Q p.apart q.apart; covers = where_covers test P Q p.covers q.covers; short = where_short test P Q n p.short q.short }

abbrev fine : {A : Type 0} → A → Outcome A
fine x = Ok x

same_value : {A : Type 0} (x y : A) → fine x ≡ fine y → x ≡ y
same_value x y e = cc

value_or_fault : {A : Type 0} (x : A) (f : PacketFault) → fine x ≡ Err f → ⊥
value_or_fault x f e = absurd cc

same_fault : {A B : Type 0} (f g : PacketFault) → ◌≡◌ {A = Outcome A} (Err f) (Err g) → ◌≡◌ {A = Outcome B} (Err f) (Err g)
same_fault f g e = let same : f ≡ g = cc in ap (λ h. Err h) same

same_texts : (front front' back back' : List ℕ) → front ≡ front' → back ≡ back' → front ++ back ≡ front' ++ back'
same_texts front front' back back' e f i = e i ++ f i

module _ {A B : Type 0} (m n : ℕ) (first : Part A) (next : A → Part B) (is_first : Code m first) (each : (x : A) → Code n (next x)) where
  then_apart : Apart (Then first next)
  then_apart outcome other text text' rest rest' (inl (x, front, back, whole, is, goes)) (inl (y, front', back', whole', is', goes')) e =
      let regrouped : front ++ (back ++ rest) ≡ front' ++ (back' ++ rest') =
      sym (append_assoc front back rest) ∙ ap (λ t. t ++ rest) (sym whole) ∙ e ∙ ap (λ t. t ++ rest') whole' ∙ append_assoc front' back' rest' in
      let one = is_first.apart (Ok x) (Ok y) front front' (back ++ rest) (back' ++ rest') is is' regrouped in
      let value : x ≡ y = same_value x y one.outcomes in
      let two = (each x).apart outcome other back back' rest rest' goes (subst (λ z. next z other back') (sym value) goes') one.rests in
      record { outcomes = two.outcomes; texts = whole ∙ same_texts front front' back back' one.texts two.texts ∙ sym whole'; rests = two.rests }
  then_apart outcome other text text' rest rest' (inl (x, front, back, whole, is, goes)) (inr (f, fails, is')) e =
      let regrouped : front ++ (back ++ rest) ≡ text' ++ rest' = sym (append_assoc front back rest) ∙ ap (λ t. t ++ rest) (sym whole) ∙ e in
      absurd (value_or_fault x f (is_first.apart (Ok x) (Err f) front text' (back ++ rest) rest' is is' regrouped).outcomes)
  then_apart outcome other text text' rest rest' (inr (f, fails, is)) (inl (y, front', back', whole', is', goes')) e =
      let regrouped : text ++ rest ≡ front' ++ (back' ++ rest') = e ∙ ap (λ t. t ++ rest') whole' ∙ append_assoc front' back' rest' in
      absurd (value_or_fault y f (sym (is_first.apart (Err f) (Ok y) text front' rest (back' ++ rest') is is' regrouped).outcomes))
  then_apart outcome other text text' rest rest' (inr (f, fails, is)) (inr (g, fails', is')) e =
      let one = is_first.apart (Err f) (Err g) text text' rest rest' is is' e in
      record { outcomes = fails ∙ same_fault {A = A} {B = B} f g one.outcomes ∙ sym fails'; texts = one.texts; rests = one.rests }

  then_short : AtMost (m + n) (Then first next)
  then_short outcome text (inl (x, front, back, whole, is, goes)) =
      omega (arith, ap length whole, length-append front back, is_first.short (Ok x) front is, (each x).short outcome back goes)
  then_short outcome text (inr (f, fails, is)) = omega (arith, is_first.short (Err f) text is)

  -- the first part is at its end
  goes_on : (bytes : List ℕ) (x : A) (front back : List ℕ) → bytes ≡ front ++ back → first (Ok x) front → Begun (Then first next) bytes ⊎ Stands
      (Then first next) bytes
  goes_on bytes x front back parts is = elim ((each x).covers back) [
    | inl begun ↦ inl (record {
      outcome = begun.outcome;
      more = begun.more;
      some = begun.some;
      small = begun.small;
      is = inl (x, front, back ++ begun.more, ap (λ t. t ++ begun.more) parts ∙ append_assoc front back begun.more, is, begun.is);
    })
    | inr stands ↦ inr (record {
      outcome = stands.outcome;
      text = front ++ stands.text;
      rest = stands.rest;
      parts = parts ∙ ap (λ t. front ++ t) stands.parts ∙ sym (append_assoc front stands.text stands.rest);
      is = inl (x, front, stands.text, refl, is, stands.is);
    })
  ]

  stops : (bytes : List ℕ) (outcome : Outcome A) (text rest : List ℕ) → bytes ≡ text ++ rest → first outcome text → Begun (Then first next) bytes ⊎ Stands
      (Then first next) bytes
  stops bytes (Ok x) text rest parts is = goes_on bytes x text rest parts is
  stops bytes (Err f) text rest parts is = inr (record { outcome = Err f; text = text; rest = rest; parts = parts; is = inr (f, refl, is) })

  lacks : (bytes : List ℕ) (outcome : Outcome A) (more : List ℕ) → 0 < length more → Small more → first outcome (bytes ++ more) → Begun (Then first next) bytes
  lacks bytes (Ok x) more some small is = let has = has_one (each x) in record {
    outcome = has.outcome;
    more = more ++ has.text;
    some = omega (arith, length-append more has.text, some);
    small = All-append (λ (b : ℕ). b < 256) more has.text small has.small;
    is = inl (x, bytes ++ more, has.text, sym (append_assoc bytes more has.text), is, has.is);
  }
  lacks bytes (Err f) more some small is = record { outcome = Err f; more = more; some = some; small = small; is = inr (f, refl, is) }

  then_covers : Covers (Then first next)
  then_covers bytes = elim (is_first.covers bytes) [
    | inl x ↦ inl (lacks bytes x.outcome x.more x.some x.small x.is)
    | inr x ↦ stops bytes x.outcome x.text x.rest x.parts x.is
  ]

  pub then_code : Code (m + n) (Then first next)
  then_code = record { apart = then_apart; covers = then_covers; short = then_short }

pub as_code : {A B : Type 0} (m : ℕ) (part : Part A) (made : A → B) → Code m part → Code m (As part made)
as_code m part made is = loosen (m + 0) m (omega arith) (then_code m 0 part (λ x. Known (Ok (made x))) is (λ x. known_code (Ok (made x))))

-- lists of the same length at the front of the same bytes
same_fronts : (n : ℕ) (xs ys rest rest' : List ℕ) → length xs ≡ n → length ys ≡ n → xs ++ rest ≡ ys ++ rest' → (xs ≡ ys) × (rest ≡ rest')
same_fronts n [] [] rest rest' a b e = (refl, e)
same_fronts n [] (y ∷ ys) rest rest' a b e = absurd (omega (arith, a, b))
same_fronts n (x ∷ xs) [] rest rest' a b e = absurd (omega (arith, a, b))
same_fronts n (x ∷ xs) (y ∷ ys) rest rest' a b e =
    let first : x ≡ y = first_same x y (xs ++ rest) (ys ++ rest') e in
    let others = same_fronts (n - 1) xs ys rest rest' (omega (arith, a)) (omega (arith, b)) (others_same x y (xs ++ rest) (ys ++ rest') e) in
    ((λ i. first i ∷ others.0 i), others.1)

bytes_apart : (n : ℕ) → Apart (Bytes n)
bytes_apart n (Ok given) (Ok given') text text' rest rest' is is' e =
    let same = same_fronts n text text' rest rest' is.1 is'.1 e in
    let values : given ≡ given' = is.0 ∙ same.0 ∙ sym is'.0 in
    record { outcomes = ap (λ x. Ok x) values; texts = same.0; rests = same.1 }
bytes_apart n (Ok given) (Err f) text text' rest rest' is is' e = absurd is'
bytes_apart n (Err f) other text text' rest rest' is is' e = absurd is

bytes_short : (n : ℕ) → AtMost n (Bytes n)
bytes_short n (Ok given) text is = omega (arith, is.1)
bytes_short n (Err f) text is = absurd is

bytes_covers : (n : ℕ) → Covers (Bytes n)
bytes_covers n bytes = elim (cases_lt (length bytes) n) [
  | inl short ↦
      let pad : List ℕ = replicate (n - length bytes) 0 in
      let padded : length pad ≡ n - length bytes = length-replicate {A = ℕ} (n - length bytes) 0 in
      inl (record {
        outcome = Ok (bytes ++ pad);
        more = pad;
        some = omega (arith, padded, short);
        small = All-replicate (λ (b : ℕ). b < 256)
            (n - length bytes) 0 (omega arith);
        is = (refl, omega (arith, padded, short, length-append bytes pad));
      })
  | inr long ↦ inr (record {
    outcome = Ok (take n bytes);
    text = take n bytes;
    rest = drop n bytes;
    parts = sym (take-append-drop n bytes);
    is =
        (refl, omega (arith, long, length-take n bytes));
  })
]

pub bytes_code : (n : ℕ) → Code n (Bytes n)
bytes_code n = record { apart = bytes_apart n; covers = bytes_covers n; short = bytes_short n }

-- a part that has the same spellings as a code
module _ {A : Type 0} (n : ℕ) (P Q : Part A) (to : (outcome : Outcome A) (text : List ℕ) → P outcome text → Q outcome text)
    (back : (outcome : Outcome A) (text : List ℕ) → Q outcome text → P outcome text) where
  same_covers : Covers P → Covers Q
  same_covers covers bytes = elim (covers bytes) [
    | inl x ↦ inl (record { outcome = x.outcome; more = x.more; some = x.some; small = x.small; is = to x.outcome (bytes ++ x.more) x.is })
    | inr x ↦ inr (record { outcome = x.outcome; text = x.text; rest = x.rest; parts = x.parts; is = to x.outcome x.text x.is })
  ]

  pub same_code : Code n P → Code n Q
  same_code code = record {
    apart = λ outcome other text text' rest rest' is is' e. code.apart outcome other text text' rest rest' (back outcome text is) (back other text' is') e;
    covers = same_covers code.covers;
    short = λ outcome text is. code.short outcome text (back outcome text is);
  }
