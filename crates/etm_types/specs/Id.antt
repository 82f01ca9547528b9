-- The numbers of trace sources: 01 to 6f are sources, 00 is the null ID, 70 and above are reserved or special.
use Rattle.std.specs.Prelude.{ℕ, ◌<◌, ◌≤◌}

abbrev pub IsId : ℕ → Type 0
IsId n = (0 < n) × (n ≤ 111)
