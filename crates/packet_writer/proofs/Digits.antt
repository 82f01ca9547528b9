-- The bytes that are written for a number spell it, and no spelling has fewer.
use Rattle.std.proofs.Common.{◌≡◌, ℕ, zero, suc, ◌+◌, ◌-◌, ◌*◌, ◌/◌, ◌%◌, ◌^◌, ◌<◌, ◌≤◌, Bool, true, false, List, [], ◌∷◌, ◌++◌, length, Ok, Err, nat_lt}
use Rattle.std.proofs.Common.{refl, sym, ap, subst, ◌∙◌, inl, inr, arith, append-nil, append_assoc, length-append, take}
use Rattle.std.specs.Prelude.{◌⊎◌, if◌then◌else◌}
use Rattle.std.proofs.lemmas.Bool.{ltb-true, ltb-false, lt-ltb, le-ltb}
use Rattle.std.proofs.lemmas.Nat.{pow-add}
use Rattle.std.proofs.Math.Nat.{div-div-eq-div-mul, div-one, pow-suc}
use Rattle.std.specs.Int.{byte_at, bytes_low_first}
use Rattle.packet_grammar.specs.declared.fault.PacketFault.TheVariants.{NumberTooLong}
use Rattle.packet_grammar.specs.Parts.{Part, Known, Where, As}
use Rattle.packet_grammar.specs.Numbers.{Number, NumberWithin, Stamp, StampWithin, TimeStamp, little}
use Rattle.packet_grammar.specs.Ranges.{IsStampSize}
use Rattle.packet_grammar.proofs.Fitting.{Small, small_head, small_tail, value_of}
use Rattle.packet_grammar.proofs.Inverse.{as_ok}
use Rattle.packet_writer.specs.Numbers.{number_within, number, groups, time_stamp, low_bytes}

-- ---- numbers

-- the last byte of a number
last_byte : (n limit : ℕ) (more : Part ℕ) → n < limit → Where (nat_lt n limit) (Known (Ok n)) more (Ok n) []
last_byte n limit more less = rw (lt-ltb n limit less) refl

number_spells : (more n : ℕ) → n < 16 * 128 ^ more → NumberWithin more (Ok n) (number_within more n)
number_spells zero n less = last_byte n 16 (Known (Err NumberTooLong)) (omega (arith, less))
number_spells (suc more) n less = by (nat_lt n 128) (λ t. ltb-true n 128 t) (number_spells more (n / 128) (omega (arith, less)))
  where
    by : (b : Bool) → (b ≡ true → n < 128) → NumberWithin more (Ok (n / 128)) (number_within more (n / 128))
        → NumberWithin (suc more) (Ok n) (if b then n ∷ [] else (128 + n % 128) ∷ number_within more (n / 128))
    by true few rest = last_byte n 128 _ (few refl)
    by false few rest =
        let b : ℕ = 128 + n % 128 in
        rw (le-ltb b 128 (omega arith))
        (inl (n / 128, number_within more (n / 128), [], sym (append-nil (number_within more (n / 128))), rest, ap (λ k. Ok k) (omega arith)))

pub number_is : (n : ℕ) → n < 2 ^ 32 → Number (Ok n) (number n)
number_is n less = number_spells 4 n (omega (arith, less))

number_next : (more b n : ℕ) (bytes : List ℕ) (test : Bool) → nat_lt b 128 ≡ test → b < 256
    → ((high : ℕ) → NumberWithin more (Ok high) bytes → length (number_within more high) ≤ length bytes)
    → Where test (Known (Ok b)) (As (NumberWithin more) (λ high. b - 128 + 128 * high)) (Ok n) bytes
    → length (number_within (suc more) n) ≤ suc (length bytes)
number_next more b n (c ∷ bytes) true low small later is = absurd is
number_next more b n [] true low small later is =
    let e = value_of n b is in
    let few : nat_lt n 128 ≡ true = ap (λ k. nat_lt k 128) e ∙ low in
    rw few (omega arith)
number_next more b n bytes false high small later is =
    let x = as_ok (NumberWithin more) (λ v. b - 128 + 128 * v) n bytes is in
    let above : n / 128 ≡ x.0 = omega (arith, x.2, small, ltb-false b 128 high) in
    let no_more : length (number_within more (n / 128)) ≤ length bytes =
    subst (λ k. length (number_within more k) ≤ length bytes) (sym above) (later x.0 x.1) in
    by (nat_lt n 128) no_more
  where
    by : (t : Bool) → length (number_within more (n / 128)) ≤ length bytes
        → length (if t then n ∷ [] else (128 + n % 128) ∷ number_within more (n / 128)) ≤ suc (length bytes)
    by true no_more = omega arith
    by false no_more = omega (arith, no_more)

number_within_shortest : (more n : ℕ) (bytes : List ℕ) → Small bytes → NumberWithin more (Ok n) bytes → length (number_within more n) ≤ length bytes
number_within_shortest zero n [] small is = absurd is
number_within_shortest zero n (b ∷ bytes) small is = omega arith
number_within_shortest (suc more) n [] small is = absurd is
number_within_shortest (suc more) n (b ∷ bytes) small is =
    number_next more b n bytes (nat_lt b 128) refl (small_head b bytes small)
    (λ high goes. number_within_shortest more high bytes (small_tail b bytes small) goes) is

pub number_shortest : (n : ℕ) (bytes : List ℕ) → Small bytes → Number (Ok n) bytes → length (number n) ≤ length bytes
number_shortest n bytes small is = number_within_shortest 4 n bytes small is

pub number_long : (more n : ℕ) → length (number_within more n) ≤ more + 1
number_long zero n = omega arith
number_long (suc more) n = by (nat_lt n 128) (number_long more (n / 128))
  where
    by : (t : Bool) → length (number_within more (n / 128)) ≤ more + 1
        → length (if t then n ∷ [] else (128 + n % 128) ∷ number_within more (n / 128)) ≤ suc more + 1
    by true few = omega arith
    by false few = omega (arith, few)

-- ---- timestamps

-- a byte with more behind it
stamp_on : (more b low : ℕ) (bits : ℕ) (x : Stamp) (bytes : List ℕ) → 128 ≤ b → bits ≡ 7 + x.bits → low ≡ b - 128 + 128 * x.low → StampWithin more (Ok x) bytes
    → StampWithin (suc more) (Ok (record { bits = bits; low = low })) (b ∷ bytes)
stamp_on more b low bits x bytes big e f is =
    rw (le-ltb b 128 big) (inl (x, bytes, [], sym (append-nil bytes), is, λ i. Ok (record { bits = e i; low = f i })))

stamp_end : (b : ℕ) (more : Part Stamp) → b < 128
    → Where {A = Stamp} (nat_lt b 128) (Known (Ok (record { bits = 7; low = b }))) more (Ok (record { bits = 7; low = b })) []
stamp_end b more less = rw (lt-ltb b 128 less) refl

-- so many groups of seven bits
stamp_groups : (more k low bits : ℕ) → k < more → bits ≡ 7 * (k + 1) → low < 2 ^ bits → StampWithin more (Ok (record { bits = bits; low = low })) (groups k low)
stamp_groups zero k low bits few e less = absurd (omega (arith, few))
stamp_groups (suc more) zero low bits few e less =
    let seven : bits ≡ 7 = omega (arith, e) in
    let small : low < 2 ^ 7 = subst (λ n. low < 2 ^ n) seven less in
    subst (λ (n : ℕ). StampWithin (suc more) (Ok (record { bits = n; low = low })) (low ∷ [])) (sym seven) (stamp_end low _ small)
stamp_groups (suc more) (suc k) low bits few e less =
    let rest : ℕ = 7 * (k + 1) in
    let parts : bits ≡ 7 + rest = omega (arith, e) in
    let power : 2 ^ (7 + rest) ≡ 2 ^ 7 * 2 ^ rest = pow-add 2 7 rest in
    let within : low < 2 ^ (7 + rest) = subst (λ n. low < 2 ^ n) parts less in
    let high : low / 128 < 2 ^ rest = omega (arith, within, power) in
    stamp_on more (128 + low % 128) low bits (record { bits = rest; low = low / 128 }) (groups k (low / 128)) (omega arith) parts (omega arith)
    (stamp_groups more k (low / 128) rest (omega (arith, few)) refl high)

-- groups of seven bits, and eight bits at last
stamp_whole : (more low bits : ℕ) → bits ≡ 7 * more + 8 → low < 2 ^ bits → StampWithin more (Ok (record { bits = bits; low = low })) (groups more low)
stamp_whole zero low bits e less =
    let eight : bits ≡ 8 = omega (arith, e) in
    λ i. Ok (record { bits = eight i; low = low })
stamp_whole (suc more) low bits e less =
    let rest : ℕ = 7 * more + 8 in
    let parts : bits ≡ 7 + rest = omega (arith, e) in
    let power : 2 ^ (7 + rest) ≡ 2 ^ 7 * 2 ^ rest = pow-add 2 7 rest in
    let within : low < 2 ^ (7 + rest) = subst (λ n. low < 2 ^ n) parts less in
    let high : low / 128 < 2 ^ rest = omega (arith, within, power) in
    stamp_on more (128 + low % 128) low bits (record { bits = rest; low = low / 128 }) (groups more (low / 128)) (omega arith) parts (omega arith)
    (stamp_whole more (low / 128) rest refl high)

pub stamp_is : (bits low : ℕ) → IsStampSize bits → low < 2 ^ bits → TimeStamp (Ok (record { bits = bits; low = low })) (time_stamp bits low)
stamp_is bits low (inl all) less =
    let most : bits / 7 - 1 ≡ 8 = omega (arith, all) in
    subst (λ k. TimeStamp (Ok (record { bits = bits; low = low })) (groups k low)) (sym most) (stamp_whole 8 low bits all less)
stamp_is bits low (inr (count, some, most, e)) less =
    stamp_groups 8 (bits / 7 - 1) low bits (omega (arith, e, most, some)) (omega (arith, e, most, some)) less

-- how many bytes have so many bits
abbrev HasBytes : ℕ → ℕ → Type 0
HasBytes bits count = (bits ≡ 7 * count) ⊎ (bits ≡ 7 * count + 1)

stamp_next : (more b : ℕ) (x : Stamp) (bytes : List ℕ) (test : Bool)
    → ((high : Stamp) → StampWithin more (Ok high) bytes → HasBytes high.bits (length bytes))
    → Where {A = Stamp} test (Known (Ok (record { bits = 7; low = b })))
    (As (StampWithin more) (λ high. record { bits = 7 + high.bits; low = b - 128 + 128 * high.low })) (Ok x) bytes
    → HasBytes x.bits (suc (length bytes))
stamp_next more b x (c ∷ bytes) true later is = absurd is
stamp_next more b x [] true later is =
    let e : x.bits ≡ 7 = ap (λ (y : Stamp). y.bits) (value_of x (record { bits = 7; low = b }) is) in inl (omega (arith, e))
stamp_next more b x bytes false later is =
    let y = as_ok {B = Stamp} (StampWithin more) (λ v. record { bits = 7 + v.bits; low = b - 128 + 128 * v.low }) x bytes is in
    let e : x.bits ≡ 7 + y.0.bits = ap (λ (z : Stamp). z.bits) y.2 in
    elim (later y.0 y.1) [ inl seven ↦ inl (omega (arith, e, seven)) | inr all ↦ inr (omega (arith, e, all)) ]

stamp_bytes : (more : ℕ) (x : Stamp) (bytes : List ℕ) → StampWithin more (Ok x) bytes → HasBytes x.bits (length bytes)
stamp_bytes zero x [] is = absurd is
stamp_bytes zero x (b ∷ c ∷ bytes) is = absurd is
stamp_bytes zero x (b ∷ []) is =
    let e : x.bits ≡ 8 = ap (λ (y : Stamp). y.bits) (value_of x (record { bits = 8; low = b }) is) in inr (omega (arith, e))
stamp_bytes (suc more) x [] is = absurd is
stamp_bytes (suc more) x (b ∷ bytes) is = stamp_next more b x bytes (nat_lt b 128) (λ high goes. stamp_bytes more high bytes goes) is

length-groups : (k n : ℕ) → length (groups k n) ≡ k + 1
length-groups zero n = refl
length-groups (suc k) n = let later = length-groups k (n / 128) in omega (arith, later)

some_bytes : (more : ℕ) (x : Stamp) (bytes : List ℕ) → StampWithin more (Ok x) bytes → 1 ≤ length bytes
some_bytes zero x [] is = absurd is
some_bytes (suc more) x [] is = absurd is
some_bytes more x (b ∷ bytes) is = omega arith

pub stamp_shortest : (bits low : ℕ) (bytes : List ℕ) → TimeStamp (Ok (record { bits = bits; low = low })) bytes → length (time_stamp bits low) ≤ length bytes
stamp_shortest bits low bytes is =
    let x : Stamp = record { bits = bits; low = low } in
    let some = some_bytes 8 x bytes is in
    let count = length-groups (bits / 7 - 1) low in
    elim (stamp_bytes 8 x bytes is) [ inl seven ↦ omega (arith, some, count, seven) | inr all ↦ omega (arith, some, count, all) ]

-- ---- bytes

pub length-low_bytes : (size n : ℕ) → length (low_bytes size n) ≡ size
length-low_bytes zero n = refl
length-low_bytes (suc size) n = ap (λ k. suc k) (length-low_bytes size (n / 256))

pub little-low_bytes : (size n : ℕ) → n < 256 ^ size → little (low_bytes size n) ≡ n
little-low_bytes zero n less = omega (arith, less)
little-low_bytes (suc size) n less = let later = little-low_bytes size (n / 256) (omega (arith, less)) in omega (arith, later)

-- ---- bytes that are put one after the other

-- the bytes that are still to be put for a number
pub record Putting (before out : List ℕ) (n rest : ℕ) : Type 0 where
  pub left : ℕ
  pub fits : rest < 16 * 128 ^ left
  pub whole : out ++ number_within left rest ≡ before ++ number n
  pub count : length out + left ≡ length before + 4

pub putting_first : (before : List ℕ) (n : ℕ) → n < 2 ^ 32 → Putting before before n n
putting_first before n less = record { left = 4; fits = omega (arith, less); whole = refl; count = refl }

on_by : (before out : List ℕ) (n rest left : ℕ) → rest < 16 * 128 ^ left → out ++ number_within left rest ≡ before ++ number n
    → length out + left ≡ length before + 4 → 128 ≤ rest → Putting before (out ++ (128 + rest % 128) ∷ []) n (rest / 128)
on_by before out n rest zero fits whole count more = absurd (omega (arith, fits, more))
on_by before out n rest (suc left) fits whole count more =
    let test = le-ltb rest 128 more in
    let spelled : number_within (suc left) rest ≡ (128 + rest % 128) ∷ number_within left (rest / 128) = rw test refl in
    record {
      left = left;
      fits = omega (arith, fits);
      whole = append_assoc out ((128 + rest % 128) ∷ []) (number_within left (rest / 128)) ∙ ap (λ t. out ++ t) (sym spelled) ∙ whole;
      count = omega (arith, count, length-append out ((128 + rest % 128) ∷ []));
    }

pub putting_on : (before out : List ℕ) (n rest : ℕ) → Putting before out n rest → 128 ≤ rest → Putting before (out ++ (128 + rest % 128) ∷ []) n (rest / 128)
putting_on before out n rest p more = on_by before out n rest p.left p.fits p.whole p.count more

last_is : (left rest : ℕ) → rest < 128 → number_within left rest ≡ rest ∷ []
last_is zero rest less = refl
last_is (suc left) rest less = rw (lt-ltb rest 128 less) refl

pub putting_last : (before out : List ℕ) (n rest : ℕ) → Putting before out n rest → rest < 128 → out ++ rest ∷ [] ≡ before ++ number n
putting_last before out n rest p less = ap (λ t. out ++ t) (sym (last_is p.left rest less)) ∙ p.whole

-- the groups that are still to be put for a timestamp
pub record Stamping (before out : List ℕ) (all low left rest : ℕ) : Type 0 where
  pub fits : rest < 256 * 128 ^ left
  pub whole : out ++ groups left rest ≡ before ++ groups all low
  pub count : length out + left ≡ length before + all

pub stamping_first : (before : List ℕ) (all low : ℕ) → low < 256 * 128 ^ all → Stamping before before all low all low
stamping_first before all low less = record { fits = less; whole = refl; count = refl }

on_from : (before out : List ℕ) (all low left rest : ℕ) → Stamping before out all low (suc left) rest
    → Stamping before (out ++ (128 + rest % 128) ∷ []) all low left (rest / 128)
on_from before out all low left rest p = record {
  fits = omega (arith, p.fits);
  whole = append_assoc out ((128 + rest % 128) ∷ []) (groups left (rest / 128)) ∙ p.whole;
  count = omega (arith, p.count, length-append out ((128 + rest % 128) ∷ []));
}

pub stamping_on : (before out : List ℕ) (all low left next rest : ℕ) → left ≡ suc next → Stamping before out all low left rest
    → Stamping before (out ++ (128 + rest % 128) ∷ []) all low next (rest / 128)
stamping_on before out all low left next rest e p = on_from before out all low next rest (subst (λ k. Stamping before out all low k rest) e p)

pub stamping_last : (before out : List ℕ) (all low left rest : ℕ) → left ≡ 0 → Stamping before out all low left rest
    → (rest < 256) × (out ++ rest ∷ [] ≡ before ++ groups all low)
stamping_last before out all low left rest e p =
    let last = subst (λ k. Stamping before out all low k rest) e p in (omega (arith, last.fits), last.whole)

-- the lowest bytes of a number
byte_is : (i n : ℕ) → byte_at i n ≡ n / 256 ^ i % 256
byte_is zero n = ap (λ k. k % 256) (sym (div-one n))
byte_is (suc i) n = refl

low_from : (size count i n : ℕ) (rest : List ℕ) → size ≤ count → take size (bytes_low_first i count n ++ rest) ≡ low_bytes size (n / 256 ^ i)
low_from zero count i n rest few = refl
low_from (suc size) zero i n rest few = absurd (omega (arith, few))
low_from (suc size) (suc count) i n rest few =
    let later = low_from size count (suc i) n rest (omega (arith, few)) in
    let above : n / 256 ^ suc i ≡ n / 256 ^ i / 256 = ap (λ k. n / k) (pow-suc 256 i) ∙ sym (div-div-eq-div-mul n (256 ^ i) 256) in
    (λ j. byte_is i n j ∷ (later ∙ ap (λ k. low_bytes size k) above) j)

pub take_low_bytes : (size n : ℕ) (rest : List ℕ) → size ≤ 8 → take size (bytes_low_first 0 8 n ++ rest) ≡ low_bytes size n
take_low_bytes size n rest few = low_from size 8 0 n rest few ∙ ap (λ k. low_bytes size k) (div-one n)
