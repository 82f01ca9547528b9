-- What follows a 00, byte by byte.
use Rattle.std.proofs.Common.{◌≡◌, ◌≢◌, ℕ, zero, suc, ◌<◌, ◌≤◌, ◌==◌, Bool, true, false, List, [], ◌∷◌, ◌++◌, Ok, Err, refl, sym, subst, arith, eq-eqb}
use Rattle.std.specs.Prelude.{replicate, if◌then◌else◌}
use Rattle.std.proofs.lemmas.Bool.{both_ways, eqb-true}
use Rattle.packet_grammar.specs.declared.packet.Packet.{Packet}
use Rattle.packet_grammar.specs.declared.packet.Packet.TheVariants.{Async, Discard, Overflow}
use Rattle.packet_grammar.specs.declared.fault.PacketFault.TheVariants.{BrokenSync, Extension}
use Rattle.packet_grammar.specs.Parts.{Outcome, Part, Known, Byte, Where}
use Rattle.packet_grammar.proofs.Table.{AfterZero}
use Rattle.packet_grammar.proofs.Codes.{Code, loosen, known_code, byte_code, where_code, same_code}

-- so many 00 more, and 80
abbrev pub Sync : ℕ → Part Packet
Sync zero = Byte (λ b. Known (if b == 128 then Ok Async else Err BrokenSync))
Sync (suc count) = Byte (λ b. Where (b == 0) (Sync count) (Known (Err BrokenSync)))

abbrev pub one_more : ℕ → Outcome Packet
one_more b = if b == 3 then Ok Discard else if b == 5 then Ok Overflow else Err (Extension b)

abbrev pub After : Part Packet
After = Byte (λ b. Where (b == 0) (Sync 9) (Known (one_more b)))

known_within : (n : ℕ) (known : Outcome Packet) → Code n (Known known)
known_within n known = loosen 0 n (omega arith) (known_code known)

sync_within : (count : ℕ) → Code (suc count) (Sync count)
sync_within zero = byte_code 0 (λ b. Known (if b == 128 then Ok Async else Err BrokenSync)) (λ b. known_code (if b == 128 then Ok Async else Err BrokenSync))
sync_within (suc count) =
    byte_code (suc count) (λ b. Where (b == 0) (Sync count) (Known (Err BrokenSync)))
    (λ b. where_code (suc count) (b == 0) (sync_within count) (known_within (suc count) (Err BrokenSync)))

after_code : Code 11 After
after_code = byte_code 10 (λ b. Where (b == 0) (Sync 9) (Known (one_more b))) (λ b. where_code 10 (b == 0) (sync_within 9) (known_within 10 (one_more b)))

-- what breaks off before or behind so many 00 more
pub record Breaks (room : ℕ) (bytes : List ℕ) : Type 0 where
  pub zeros : ℕ
  pub last : ℕ
  pub whole : bytes ≡ replicate zeros 0 ++ last ∷ []
  pub most : zeros ≤ room
  pub early : zeros < room → last ≢ 0
  pub late : zeros ≡ room → last ≢ 128

abbrev pub SyncIs : ℕ → Part Packet
SyncIs room (Ok Async) bytes = bytes ≡ replicate room 0 ++ 128 ∷ []
SyncIs room (Err BrokenSync) bytes = Breaks room bytes
SyncIs room outcome bytes = ⊥

apart_from : (b n : ℕ) → (b == n) ≡ false → b ≢ n
apart_from b n off same = both_ways (b == n) off (eq-eqb b n same)

off_from : (b n : ℕ) (test : Bool) → (b == n) ≡ test → b ≢ n → (b == n) ≡ false
off_from b n true is other = absurd (other (eqb-true b n is))
off_from b n false is other = is

sync_last : (b : ℕ) (test : Bool) (outcome : Outcome Packet) → (b == 128) ≡ test → outcome ≡ (if test then Ok Async else Err BrokenSync)
    → SyncIs 0 outcome (b ∷ [])
sync_last b true outcome is told = let last : b ≡ 128 = eqb-true b 128 is in subst (λ o. SyncIs 0 o (b ∷ [])) (sym told) (λ i. last i ∷ [])
sync_last b false outcome off told =
    subst (λ o. SyncIs 0 o (b ∷ [])) (sym told)
    (record { zeros = 0; last = b; whole = refl; most = omega arith; early = λ lt. absurd (omega (arith, lt)); late = λ e. apart_from b 128 off })

zero_more : (room b : ℕ) (bytes : List ℕ) (outcome : Outcome Packet) → b ≡ 0 → SyncIs room outcome bytes → SyncIs (suc room) outcome (b ∷ bytes)
zero_more room b bytes (Ok Async) none is = λ i. none i ∷ is i
zero_more room b bytes (Err BrokenSync) none is = record {
  zeros = suc is.zeros;
  last = is.last;
  whole = λ i. none i ∷ is.whole i;
  most = omega (arith, is.most);
  early = λ lt. is.early (omega (arith, lt));
  late = λ e. is.late (omega (arith, e));
}
zero_more room b bytes outcome none is = absurd is

sync_broken : (room b : ℕ) (bytes : List ℕ) (outcome : Outcome Packet) → (b == 0) ≡ false → Known (Err BrokenSync) outcome bytes
    → SyncIs (suc room) outcome (b ∷ bytes)
sync_broken room b [] outcome off told =
    subst (λ o. SyncIs (suc room) o (b ∷ [])) (sym told)
    (record { zeros = 0; last = b; whole = refl; most = omega arith; early = λ lt. apart_from b 0 off; late = λ e. absurd (omega (arith, e)) })
sync_broken room b (c ∷ bytes) outcome off told = absurd told

sync_next : (room b : ℕ) (bytes : List ℕ) (test : Bool) (outcome : Outcome Packet) → (b == 0) ≡ test
    → ((o : Outcome Packet) → Sync room o bytes → SyncIs room o bytes)
    → Where test (Sync room) (Known (Err BrokenSync)) outcome bytes → SyncIs (suc room) outcome (b ∷ bytes)
sync_next room b bytes true outcome is later goes = zero_more room b bytes outcome (eqb-true b 0 is) (later outcome goes)
sync_next room b bytes false outcome off later goes = sync_broken room b bytes outcome off goes

sync_to : (room : ℕ) (outcome : Outcome Packet) (bytes : List ℕ) → Sync room outcome bytes → SyncIs room outcome bytes
sync_to zero outcome [] is = absurd is
sync_to zero outcome (b ∷ []) is = sync_last b (b == 128) outcome refl is
sync_to zero outcome (b ∷ c ∷ bytes) is = absurd is
sync_to (suc room) outcome [] is = absurd is
sync_to (suc room) outcome (b ∷ bytes) is = sync_next room b bytes (b == 0) outcome refl (λ o goes. sync_to room o bytes goes) is

whole_sync : (room : ℕ) → Sync room (Ok Async) (replicate room 0 ++ 128 ∷ [])
whole_sync zero = refl
whole_sync (suc room) = whole_sync room

broken_sync : (room count last : ℕ) → count ≤ room → (count < room → last ≢ 0) → (count ≡ room → last ≢ 128)
    → Sync room (Err BrokenSync) (replicate count 0 ++ last ∷ [])
broken_sync zero zero last most early late = let off = off_from last 128 (last == 128) refl (late refl) in rw off refl
broken_sync zero (suc count) last most early late = absurd (omega (arith, most))
broken_sync (suc room) zero last most early late = let off = off_from last 0 (last == 0) refl (early (omega arith)) in rw off refl
broken_sync (suc room) (suc count) last most early late = broken_sync room count last (omega (arith, most)) (λ lt. early (omega (arith, lt)))
    (λ e. late (omega (arith, e)))

-- the first byte behind 00 is another 00
again_zero : (b : ℕ) (bytes : List ℕ) (outcome : Outcome Packet) → b ≡ 0 → SyncIs 9 outcome bytes → AfterZero outcome (b ∷ bytes)
again_zero b bytes (Ok Async) none is = λ i. none i ∷ is i
again_zero b bytes (Err BrokenSync) none is = record {
  zeros = suc is.zeros;
  last = is.last;
  whole = λ i. none i ∷ is.whole i;
  some = omega arith;
  most = omega (arith, is.most);
  early = λ lt. is.early (omega (arith, lt));
  late = λ e. is.late (omega (arith, e));
}
again_zero b bytes outcome none is = absurd is

third_kind : (b : ℕ) (is_discard is_overflow : Bool) (outcome : Outcome Packet) → (b == 0) ≡ false → (b == 3) ≡ is_discard → (b == 5) ≡ is_overflow
    → outcome ≡ (if is_discard then Ok Discard else if is_overflow then Ok Overflow else Err (Extension b)) → AfterZero outcome (b ∷ [])
third_kind b true is_overflow outcome off is other told = let e = eqb-true b 3 is in subst (λ o. AfterZero o (b ∷ [])) (sym told) (λ i. e i ∷ [])
third_kind b false true outcome off no_discard is told = let e = eqb-true b 5 is in subst (λ o. AfterZero o (b ∷ [])) (sym told) (λ i. e i ∷ [])
third_kind b false false outcome off no_discard no_overflow told =
    subst (λ o. AfterZero o (b ∷ [])) (sym told) (refl, apart_from b 0 off, apart_from b 3 no_discard, apart_from b 5 no_overflow)

other_byte : (b : ℕ) (bytes : List ℕ) (outcome : Outcome Packet) → (b == 0) ≡ false → Known (one_more b) outcome bytes → AfterZero outcome (b ∷ bytes)
other_byte b [] outcome off told = third_kind b (b == 3) (b == 5) outcome off refl refl told
other_byte b (c ∷ bytes) outcome off told = absurd told

after_byte : (b : ℕ) (bytes : List ℕ) (test : Bool) (outcome : Outcome Packet) → (b == 0) ≡ test → Where test (Sync 9) (Known (one_more b)) outcome bytes
    → AfterZero outcome (b ∷ bytes)
after_byte b bytes true outcome is goes = again_zero b bytes outcome (eqb-true b 0 is) (sync_to 9 outcome bytes goes)
after_byte b bytes false outcome off goes = other_byte b bytes outcome off goes

pub after_to : (outcome : Outcome Packet) (bytes : List ℕ) → After outcome bytes → AfterZero outcome bytes
after_to outcome [] is = absurd is
after_to outcome (b ∷ bytes) is = after_byte b bytes (b == 0) outcome refl is

broken_back : (count last : ℕ) → 1 ≤ count → count ≤ 10 → (count < 10 → last ≢ 0) → (count ≡ 10 → last ≢ 128)
    → After (Err BrokenSync) (replicate count 0 ++ last ∷ [])
broken_back zero last some most early late = absurd (omega (arith, some))
broken_back (suc count) last some most early late = broken_sync 9 count last (omega (arith, most)) (λ lt. early (omega (arith, lt)))
    (λ e. late (omega (arith, e)))

extension_back : (b : ℕ) → b ≢ 0 → b ≢ 3 → b ≢ 5 → After (Err (Extension b)) (b ∷ [])
extension_back b other second third =
    let off = off_from b 0 (b == 0) refl other in
    let no_discard = off_from b 3 (b == 3) refl second in
    let no_overflow = off_from b 5 (b == 5) refl third in
    rw (off, no_discard, no_overflow) refl

pub after_back : (outcome : Outcome Packet) (bytes : List ℕ) → AfterZero outcome bytes → After outcome bytes
after_back (Ok Async) bytes is = subst (λ t. After (Ok Async) t) (sym is) (whole_sync 9)
after_back (Ok Discard) bytes is = subst (λ t. After (Ok Discard) t) (sym is) refl
after_back (Ok Overflow) bytes is = subst (λ t. After (Ok Overflow) t) (sym is) refl
after_back (Err (Extension b)) bytes is = subst (λ t. After (Err (Extension b)) t) (sym is.0) (extension_back b is.1 is.2 is.3)
after_back (Err BrokenSync) bytes is = subst (λ t. After (Err BrokenSync) t) (sym is.whole) (broken_back is.zeros is.last is.some is.most is.early is.late)
after_back outcome bytes is = absurd is

pub zero_code : Code 11 AfterZero
zero_code = same_code 11 After AfterZero after_to after_back after_code
