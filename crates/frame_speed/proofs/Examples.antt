-- Worked examples: Knuth's sequence from 1 on, and a digest, worked out by hand.
use Rattle.std.proofs.Common.{◌≡◌, ◌∷◌, [], refl, arith}
use Rattle.frame_speed.specs.Numbers.{byte_of, next_number}
use Rattle.frame_speed.specs.Sum.{digest_of_pairs, digest_with, nothing}

first_number : next_number 1 ≡ 7806831264735756412
first_number = refl

-- the third, from the second on
third_number : next_number 9396908728118811419 ≡ 11960119808228829710
third_number = refl

first_byte : byte_of (next_number 1) ≡ 108
first_byte = refl

-- near miss: not the lowest byte
not_the_lowest : byte_of (next_number 1) ≡ 124 → ⊥
not_the_lowest is = omega (arith, is)

two_bytes : digest_with (digest_with nothing.digest 5) 7 ≡ 162
two_bytes = refl

-- near miss: the first byte weighs more
in_their_order : digest_with (digest_with nothing.digest 7) 5 ≡ 162 → ⊥
in_their_order is = omega (arith, is)

-- a byte behind its ID
one_pair : digest_of_pairs nothing.digest ((5, 7) ∷ []) ≡ 162
one_pair = refl

-- 31 times 2^63 is 2^63 modulo 2^64
digest_wraps : digest_with 9223372036854775808 0 ≡ 9223372036854775808
digest_wraps = refl
