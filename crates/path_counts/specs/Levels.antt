-- Numbers at places of a ring, and numbers that are kept as the differences from each to the next.
use Rattle.std.specs.Prelude.{◌≡◌, ℕ, ◌+◌, ◌-◌, ◌%◌, ◌^◌, ◌<◌, ◌==◌, ◌&&◌, ◌||◌, nat_le, nat_lt, Bool, List, [], ◌∷◌, length, get_or, take, sum, if◌then◌else◌}

-- the sum of the numbers up to each place, after a total of those before, modulo 2^64
abbrev pub sums_from : ℕ → List ℕ → List ℕ
sums_from total [] = []
sums_from total (step ∷ steps) = (total + step) % 2 ^ 64 ∷ sums_from ((total + step) % 2 ^ 64) steps

-- the numbers of which these are the differences
abbrev pub levels_of : List ℕ → List ℕ
levels_of steps = sums_from 0 steps

-- they are those of a function of the place, modulo 2^64
abbrev pub AreLevels : List ℕ → (ℕ → ℕ) → Type 0
AreLevels steps f = (j : ℕ) → j < length steps → sum (take (j + 1) steps) % 2 ^ 64 ≡ f j % 2 ^ 64

-- the numbers themselves are those of a function of the place, modulo 2^64
abbrev pub AreNumbers : List ℕ → (ℕ → ℕ) → Type 0
AreNumbers numbers f = (j : ℕ) → j < length numbers → get_or numbers j 0 ≡ f j % 2 ^ 64

-- a place is one of so many from a place on, in a ring of n places
abbrev pub is_within : ℕ → ℕ → ℕ → ℕ → Bool
is_within n from count j = (nat_le from j && nat_lt j (from + count)) || nat_lt (j + n) (from + count)

-- the place that is so many behind a place, in a ring of n places
abbrev pub place_behind : ℕ → ℕ → ℕ → ℕ
place_behind n place more = if nat_lt (place + more) n then place + more else place + more - n

abbrev pub one_if : Bool → ℕ
one_if b = if b then 1 else 0

-- numbers are raised by one where a test of their places holds, modulo 2^64
abbrev pub Raises : List ℕ → List ℕ → (ℕ → Bool) → Type 0
Raises old new test = (f : ℕ → ℕ) → AreNumbers old f → AreNumbers new (λ j. f j + one_if (test j))

-- over a run of places round the ring
abbrev pub RaisesRun : List ℕ → List ℕ → ℕ → ℕ → Type 0
RaisesRun old new from count = Raises old new (is_within (length old) from count)

-- at one place, where something is so
abbrev pub RaisesLast : List ℕ → List ℕ → Bool → ℕ → Type 0
RaisesLast old new so place = Raises old new (λ j. so && (place == j))
