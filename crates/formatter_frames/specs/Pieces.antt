-- A list cut into pieces of one size.
use Rattle.std.specs.Prelude.{ℕ, zero, suc, ◌*◌, ◌/◌, List, [], ◌∷◌, length, take, drop}

-- so many pieces, from the front
abbrev pub pieces : {A : Type 0} → ℕ → ℕ → List A → List (List A)
pieces size zero xs = []
pieces size (suc count) xs = take size xs ∷ pieces size count (drop size xs)

-- the whole pieces
abbrev pub whole_pieces : {A : Type 0} → ℕ → List A → List (List A)
whole_pieces size xs = pieces size (length xs / size) xs

-- what is left over, less than a piece
abbrev pub left_over : {A : Type 0} → ℕ → List A → List A
left_over size xs = drop (length xs / size * size) xs
