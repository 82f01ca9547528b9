-- A fixed sequence of numbers: Knuth's generator MMIX (The Art of Computer Programming, volume 2, section 3.3.4).
use Rattle.std.specs.Prelude.{ℕ, ◌+◌, ◌*◌, ◌%◌, ◌/◌, ◌^◌}

-- the number after another
abbrev pub next_number : ℕ → ℕ
next_number n = (n * 6364136223846793005 + 1442695040888963407) % 2 ^ 64

-- the byte that a number gives: its highest
abbrev pub byte_of : ℕ → ℕ
byte_of n = n / 2 ^ 56
