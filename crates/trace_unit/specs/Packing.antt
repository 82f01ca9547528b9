-- The longest front of atoms that one packet tells (Arm IHI 0064, "Atom Format 1 packet" to "Atom Format 6 packet").
use Rattle.std.specs.Prelude.{ℕ, zero, suc, ◌+◌, ◌&&◌, nat_le, Bool, if◌then◌else◌, List, length, take, is_some}
use Rattle.atom_formats.specs.Bytes.{byte_of}

-- of the fronts of at most so many atoms and one more, the longest that one byte tells
abbrev pub longest_within : ℕ → List Bool → ℕ
longest_within zero atoms = 1
longest_within (suc n) atoms =
    if nat_le (n + 2) (length atoms) && is_some (byte_of (take (n + 2) atoms)) then n + 2 else longest_within n atoms

-- a packet tells at most 24
abbrev pub longest : List Bool → ℕ
longest atoms = longest_within 23 atoms
