-- The fronts of a list of atoms that one atom packet holds (Arm IHI 0064, "Atom Format 1 packet" to "Atom Format 6 packet").
use Rattle.std.specs.Prelude.{ℕ, ◌≤◌, Bool, List, length, take}
use Rattle.atom_formats.specs.Formats.{Spells}

-- the byte is the packet of the first n atoms
abbrev pub SpellsFront : List Bool → ℕ → ℕ → Type 0
SpellsFront atoms byte n = (n ≤ length atoms) × Spells byte (take n atoms)
