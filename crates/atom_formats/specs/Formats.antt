-- The atom packets (Arm IHI 0064, "Atom Format 1 packet" to "Atom Format 6 packet"): each byte with its atoms, oldest first.
use Rattle.std.specs.Prelude.{ℕ, ◌+◌, Bool, true, false, List, [], ◌∷◌, ◌++◌, map, replicate, Contains}
use Rattle.std.specs.List.{range_with_len}

abbrev pub E : Bool
E = true

abbrev pub N : Bool
N = false

abbrev pub format_1 : List (ℕ × List Bool)
format_1 =
    (0xf6, N ∷ [])
    ∷ (0xf7, E ∷ [])
    ∷ []

abbrev pub format_2 : List (ℕ × List Bool)
format_2 =
    (0xd8, N ∷ N ∷ [])
    ∷ (0xd9, E ∷ N ∷ [])
    ∷ (0xda, N ∷ E ∷ [])
    ∷ (0xdb, E ∷ E ∷ [])
    ∷ []

abbrev pub format_3 : List (ℕ × List Bool)
format_3 =
    (0xf8, N ∷ N ∷ N ∷ [])
    ∷ (0xf9, E ∷ N ∷ N ∷ [])
    ∷ (0xfa, N ∷ E ∷ N ∷ [])
    ∷ (0xfb, E ∷ E ∷ N ∷ [])
    ∷ (0xfc, N ∷ N ∷ E ∷ [])
    ∷ (0xfd, E ∷ N ∷ E ∷ [])
    ∷ (0xfe, N ∷ E ∷ E ∷ [])
    ∷ (0xff, E ∷ E ∷ E ∷ [])
    ∷ []

abbrev pub format_4 : List (ℕ × List Bool)
format_4 =
    (0xdc, N ∷ E ∷ E ∷ E ∷ [])
    ∷ (0xdd, N ∷ N ∷ N ∷ N ∷ [])
    ∷ (0xde, N ∷ E ∷ N ∷ E ∷ [])
    ∷ (0xdf, E ∷ N ∷ E ∷ N ∷ [])
    ∷ []

abbrev pub format_5 : List (ℕ × List Bool)
format_5 =
    (0xf5, N ∷ E ∷ E ∷ E ∷ E ∷ [])
    ∷ (0xd5, N ∷ N ∷ N ∷ N ∷ N ∷ [])
    ∷ (0xd6, N ∷ E ∷ N ∷ E ∷ N ∷ [])
    ∷ (0xd7, E ∷ N ∷ E ∷ N ∷ E ∷ [])
    ∷ []

-- with a COUNT of 0 to 20: COUNT + 3 times E, and then the last atom
abbrev pub format_6 : ℕ → Bool → List (ℕ × List Bool)
format_6 first last = map (λ count. (first + count, replicate (count + 3) E ++ last ∷ [])) (range_with_len 0 21)

unfoldable pub atom_formats : List (ℕ × List Bool)
atom_formats = format_1 ++ format_2 ++ format_3 ++ format_4 ++ format_5 ++ format_6 0xc0 E ++ format_6 0xe0 N

-- the byte is the packet of these atoms
abbrev pub Spells : ℕ → List Bool → Type 0
Spells byte atoms = Contains atom_formats (byte, atoms)
