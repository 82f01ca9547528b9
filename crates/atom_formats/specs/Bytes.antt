-- The byte of a list of atoms (Arm IHI 0064, "Atom Format 1 packet" to "Atom Format 6 packet").
use Rattle.std.specs.Prelude.{ℕ, Bool, true, false, if◌then◌else◌, List, [], ◌∷◌, Option, Some, None}
use Rattle.atom_formats.specs.Formats.{atom_formats}

-- whether two lists have the same atoms
abbrev pub same_atoms : List Bool → List Bool → Bool
same_atoms [] [] = true
same_atoms (true ∷ atoms) (true ∷ others) = same_atoms atoms others
same_atoms (false ∷ atoms) (false ∷ others) = same_atoms atoms others
same_atoms _ _ = false

-- the byte of these atoms in a table
abbrev pub byte_in : List (ℕ × List Bool) → List Bool → Option ℕ
byte_in [] atoms = None
byte_in (row ∷ rows) atoms = if same_atoms row.1 atoms then Some row.0 else byte_in rows atoms

-- the byte that tells these atoms and no more
unfoldable pub byte_of : List Bool → Option ℕ
byte_of atoms = byte_in atom_formats atoms
