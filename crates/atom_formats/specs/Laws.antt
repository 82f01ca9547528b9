-- What the table of atom packets is as a whole (Arm IHI 0064, "Atom Format 1 packet" to "Atom Format 6 packet").
use Rattle.std.specs.Prelude.{◌≡◌, ◌≤◌, ◌<◌, ℕ, Bool, List, length}
use Rattle.etm_types.specs.declared.atoms.AtomRun.{AtomRun}
use Rattle.etm_types.specs.Atoms.{IsAtomRun, atoms_in, most_atoms}
use Rattle.atom_formats.specs.Formats.{Spells}

-- each byte from c0 on is an atom packet
abbrev pub EachByteTells : Type 0
EachByteTells = (byte : ℕ) → 0xc0 ≤ byte → byte < 0x100 → (atoms : List Bool) × Spells byte atoms

-- no other byte is
abbrev pub NoOtherTells : Type 0
NoOtherTells = (byte : ℕ) (atoms : List Bool) → Spells byte atoms → (0xc0 ≤ byte) × (byte < 0x100)

-- a byte has one run alone
abbrev pub OneRunAByte : Type 0
OneRunAByte = (byte : ℕ) (atoms others : List Bool) → Spells byte atoms → Spells byte others → atoms ≡ others

-- no two bytes have the same run
abbrev pub OneByteARun : Type 0
OneByteARun = (byte other : ℕ) (atoms : List Bool) → Spells byte atoms → Spells other atoms → byte ≡ other

-- a run has 1 to 24 atoms
abbrev pub RunsAreShort : Type 0
RunsAreShort = (byte : ℕ) (atoms : List Bool) → Spells byte atoms → (1 ≤ length atoms) × (length atoms ≤ most_atoms)

-- two runs of the same atoms are the same
abbrev pub RunsDiffer : Type 0
RunsDiffer = (run other : AtomRun) → IsAtomRun run → IsAtomRun other → atoms_in run ≡ atoms_in other → run ≡ other
