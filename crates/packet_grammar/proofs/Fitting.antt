-- The values of what is spelled are in their ranges.
use Rattle.std.proofs.Common.{take, drop, ◌≡◌, ◌⊎◌, ℕ, zero, suc, ◌+◌, ◌-◌, ◌*◌, ◌^◌, ◌<◌, ◌≤◌, Bool, true, false}
use Rattle.std.proofs.Common.{List, [], ◌∷◌, ◌++◌, length, Ok, Err, nat_lt, refl, sym, ap, subst, ◌∙◌, inl, inr, arith}
use Rattle.std.specs.Prelude.{All}
use Rattle.std.proofs.lemmas.Bool.{ltb-false, ltb-true}
use Rattle.std.proofs.lemmas.List.Elements.{All-head, All-tail, All-drop, All-take}
use Rattle.std.proofs.lemmas.List.{drop_at, take_at}
use Rattle.std.proofs.Math.Nat.{pow-suc}
use Rattle.std.proofs.lemmas.Nat.{pow-add}
use Rattle.packet_grammar.specs.declared.fault.PacketFault.TheVariants.{NumberTooLong}
use Rattle.packet_grammar.specs.Parts.{Outcome, Known, Where, As}
use Rattle.packet_grammar.specs.Numbers.{Number, NumberWithin, Stamp, StampWithin, little}
use Rattle.packet_grammar.proofs.Inverse.{as_ok}

abbrev pub Small : List ℕ → Type 0
Small bytes = All (λ b. b < 256) bytes

pub small_head : (b : ℕ) (bytes : List ℕ) → Small (b ∷ bytes) → b < 256
small_head b bytes small = All-head (λ (x : ℕ). x < 256) b bytes small

pub small_tail : (b : ℕ) (bytes : List ℕ) → Small (b ∷ bytes) → Small bytes
small_tail b bytes small = All-tail (λ (x : ℕ). x < 256) b bytes small

pub small_front : (bytes front back : List ℕ) → bytes ≡ front ++ back → Small bytes → Small front
small_front bytes front back e small =
    subst Small (ap (λ t. take (length front) t) e ∙ take_at front back (length front) refl) (All-take (λ (x : ℕ). x < 256) (length front) bytes small)

pub small_back : (bytes front back : List ℕ) → bytes ≡ front ++ back → Small bytes → Small back
small_back bytes front back e small =
    subst Small (ap (λ t. drop (length front) t) e ∙ drop_at front back (length front) refl) (All-drop (λ (x : ℕ). x < 256) (length front) bytes small)

pub value_of : {A : Type 0} (x y : A) → ◌≡◌ {A = Outcome A} (Ok x) (Ok y) → x ≡ y
value_of x y e = cc

abbrev limit : ℕ → ℕ
limit zero = 16
limit (suc more) = 128 * limit more

limit_some : (more : ℕ) → 0 < limit more
limit_some zero = omega arith
limit_some (suc more) = omega (arith, limit_some more)

number_last : (b n : ℕ) (bytes : List ℕ) (test : Bool) → nat_lt b 16 ≡ test → Where test (Known (Ok b)) (Known (Err NumberTooLong)) (Ok n) bytes → n < 16
number_last b n [] true low is = let e = value_of n b is in omega (arith, e, ltb-true b 16 low)
number_last b n (c ∷ bytes) true low is = absurd is
number_last b n [] false high is = absurd cc
number_last b n (c ∷ bytes) false high is = absurd is

number_next : (more b n : ℕ) (bytes : List ℕ) (test : Bool) → nat_lt b 128 ≡ test → b < 256
    → ((high : ℕ) → NumberWithin more (Ok high) bytes → high < limit more)
    → Where test (Known (Ok b)) (As (NumberWithin more) (λ high. b - 128 + 128 * high)) (Ok n) bytes → n < 128 * limit more
number_next more b n [] true low small later is = let e = value_of n b is in omega (arith, e, ltb-true b 128 low, limit_some more)
number_next more b n (c ∷ bytes) true low small later is = absurd is
number_next more b n bytes false high small later is =
    let x = as_ok (NumberWithin more) (λ v. b - 128 + 128 * v) n bytes is in
    let below = later x.0 x.1 in
    omega (arith, x.2, below, small, ltb-false b 128 high)

number_fits : (more n : ℕ) (bytes : List ℕ) → Small bytes → NumberWithin more (Ok n) bytes → n < limit more
number_fits zero n [] small is = absurd is
number_fits zero n (b ∷ bytes) small is = number_last b n bytes (nat_lt b 16) refl is
number_fits (suc more) n [] small is = absurd is
number_fits (suc more) n (b ∷ bytes) small is =
    number_next more b n bytes (nat_lt b 128) refl (small_head b bytes small) (λ high goes. number_fits more high bytes (small_tail b bytes small) goes) is

pub number_below : (n : ℕ) (bytes : List ℕ) → Small bytes → Number (Ok n) bytes → n < 2 ^ 32
number_below n bytes small is = omega (arith, number_fits 4 n bytes small is)

-- groups of seven bits, or of seven and at last eight
abbrev pub StampFits : ℕ → Stamp → Type 0
StampFits more x = (x.low < 2 ^ x.bits) × ((x.bits ≡ 7 * more + 8) ⊎ ((groups : ℕ) × (1 ≤ groups) × (groups ≤ more) × (x.bits ≡ 7 * groups)))

larger : (bits b low : ℕ) → b < 256 → 128 ≤ b → low < 2 ^ bits → b - 128 + 128 * low < 2 ^ (7 + bits)
larger bits b low small big fits = let e : 2 ^ (7 + bits) ≡ 2 ^ 7 * 2 ^ bits = pow-add 2 7 bits in omega (arith, e, small, big, fits)

stamp_grows : (more b : ℕ) (high : Stamp) → b < 256 → 128 ≤ b → StampFits more high
    → StampFits (suc more) (record { bits = 7 + high.bits; low = b - 128 + 128 * high.low })
stamp_grows more b high small big (fits, inl all) = (larger high.bits b high.low small big fits, inl (omega (arith, all)))
stamp_grows more b high small big (fits, inr (groups, some, most, e)) =
    (larger high.bits b high.low small big fits, inr (suc groups, omega arith, omega (arith, most), omega (arith, e)))

stamp_next : (more b : ℕ) (x : Stamp) (bytes : List ℕ) (test : Bool) → nat_lt b 128 ≡ test → b < 256
    → ((high : Stamp) → StampWithin more (Ok high) bytes → StampFits more high)
    → Where {A = Stamp} test (Known (Ok (record { bits = 7; low = b })))
    (As (StampWithin more) (λ high. record { bits = 7 + high.bits; low = b - 128 + 128 * high.low })) (Ok x) bytes
    → StampFits (suc more) x
stamp_next more b x [] true low small later is =
    let one : Stamp = record { bits = 7; low = b } in
    let fits : StampFits (suc more) one = (ltb-true b 128 low, inr (1, omega arith, omega arith, refl)) in
    subst (StampFits (suc more)) (sym (value_of x one is)) fits
stamp_next more b x (c ∷ bytes) true low small later is = absurd is
stamp_next more b x bytes false high small later is =
    let y = as_ok {B = Stamp} (StampWithin more) (λ v. record { bits = 7 + v.bits; low = b - 128 + 128 * v.low }) x bytes is in
    subst (StampFits (suc more)) (sym y.2) (stamp_grows more b y.0 small (ltb-false b 128 high) (later y.0 y.1))

pub stamp_fits : (more : ℕ) (x : Stamp) (bytes : List ℕ) → Small bytes → StampWithin more (Ok x) bytes → StampFits more x
stamp_fits zero x [] small is = absurd is
stamp_fits zero x (b ∷ []) small is =
    let one : Stamp = record { bits = 8; low = b } in
    let fits : StampFits 0 one = (small_head b [] small, inl refl) in
    subst (StampFits 0) (sym (value_of x one is)) fits
stamp_fits zero x (b ∷ c ∷ bytes) small is = absurd is
stamp_fits (suc more) x [] small is = absurd is
stamp_fits (suc more) x (b ∷ bytes) small is =
    stamp_next more b x bytes (nat_lt b 128) refl (small_head b bytes small) (λ high goes. stamp_fits more high bytes (small_tail b bytes small) goes) is

pub little_below : (bytes : List ℕ) → Small bytes → little bytes < 256 ^ length bytes
little_below [] small = omega arith
little_below (b ∷ bytes) small =
    let e : 256 ^ suc (length bytes) ≡ 256 ^ length bytes * 256 = pow-suc 256 (length bytes) in
    omega (arith, e, small_head b bytes small, little_below bytes (small_tail b bytes small))
