-- What frames carry: new IDs, and data bytes of the ID that holds (Arm CoreSight architecture, IHI 0029, the trace formatter).
use Rattle.std.specs.Prelude.{ℕ, List, [], ◌∷◌, ◌++◌, map, Option, Some, None, if◌then◌else◌, ◌==◌}
use Rattle.formatter_frames.specs.declared.symbol.Symbol.{Symbol}
use Rattle.formatter_frames.specs.declared.symbol.Symbol.TheVariants.{NewId, Data}

-- the data bytes in order, each with its ID; a byte before the first ID has none and is passed over
abbrev pub pairs_of : Option ℕ → List Symbol → List (ℕ × ℕ)
pairs_of current [] = []
pairs_of current (NewId id ∷ symbols) = pairs_of (Some id) symbols
pairs_of None (Data byte ∷ symbols) = pairs_of None symbols
pairs_of (Some id) (Data byte ∷ symbols) = (id, byte) ∷ pairs_of (Some id) symbols

-- the ID that holds after the symbols
abbrev pub id_after : Option ℕ → List Symbol → Option ℕ
id_after current [] = current
id_after current (NewId id ∷ symbols) = id_after (Some id) symbols
id_after current (Data byte ∷ symbols) = id_after current symbols

-- an ID is told where another holds, or none
abbrev pub told : Option ℕ → ℕ → List Symbol
told None id = NewId id ∷ []
told (Some current) id = if current == id then [] else NewId id ∷ []

-- the symbols that carry the pairs: each byte, and before it its ID, where that is not the one that holds
abbrev pub symbols_of : Option ℕ → List (ℕ × ℕ) → List Symbol
symbols_of current [] = []
symbols_of current (pair ∷ pairs) = told current pair.0 ++ Data pair.1 ∷ symbols_of (Some pair.0) pairs

-- bytes of one ID
abbrev pub run_of : ℕ → List ℕ → List (ℕ × ℕ)
run_of id bytes = map (λ (byte : ℕ). (id, byte)) bytes
