-- Runs of atoms, true for E and false for N (Arm IHI 0064, atom packets).
use Rattle.std.specs.Prelude.{◌≡◌, ◌⊎◌, ℕ, zero, suc, ◌/◌, ◌%◌, ◌^◌, ◌<◌, ◌≤◌, ◌==◌, List, [], ◌∷◌, Bool, true, false}
use Rattle.etm_types.specs.declared.atoms.AtomRun.{AtomRun}
use Rattle.etm_types.specs.declared.atoms.FewAtoms.{FewAtoms}

-- the lowest so many bits, bit 0 first: true is 1
abbrev pub low_bits : ℕ → ℕ → List Bool
low_bits zero bits = []
low_bits (suc n) bits = (bits % 2 == 1) ∷ low_bits n (bits / 2)

-- the atoms of a run, oldest first
abbrev pub atoms_in : AtomRun → List Bool
atoms_in run = low_bits run.count run.bits

-- the most atoms that one packet has
abbrev pub most_atoms : ℕ
most_atoms = 24

-- a run of 1 to 24 atoms; the bits from its count on are 0
pub record IsAtomRun (run : AtomRun) : Type 0 where
  pub some : 1 ≤ run.count
  pub most : run.count ≤ most_atoms
  pub bits : run.bits < 2 ^ run.count

-- no atom, E, EE or N
abbrev pub IsFewAtoms : FewAtoms → Type 0
IsFewAtoms few =
    (few ≡ record { count = 0; first = false })
    ⊎ (few ≡ record { count = 1; first = true })
    ⊎ (few ≡ record { count = 2; first = true })
    ⊎ (few ≡ record { count = 1; first = false })
