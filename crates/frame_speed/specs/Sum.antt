-- What came: how many, and a digest, which is the bytes read as the digits of a number to base 31, modulo 2^64.
use Rattle.std.specs.Prelude.{ℕ, ◌+◌, ◌*◌, ◌%◌, ◌^◌, List, [], ◌∷◌}

pub record Sum : Type 0 where
  pub count : ℕ
  pub digest : ℕ

-- before the first byte
abbrev pub nothing : Sum
nothing = record { count = 0; digest = 0 }

-- a digest with one byte more
abbrev pub digest_with : ℕ → ℕ → ℕ
digest_with digest byte = (digest * 31 + byte) % 2 ^ 64

-- a digest with more pairs of an ID and a byte in order, the ID first
abbrev pub digest_of_pairs : ℕ → List (ℕ × ℕ) → ℕ
digest_of_pairs digest [] = digest
digest_of_pairs digest (pair ∷ pairs) = digest_of_pairs (digest_with (digest_with digest pair.0) pair.1) pairs
