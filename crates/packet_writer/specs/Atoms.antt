-- Atoms as they are written (Arm IHI 0064, "Mispredict packet", "Cancel Format 2 packet", "Atom Format 1 packet" to "Atom Format 6
-- packet").
use Rattle.std.specs.Prelude.{ℕ, ◌==◌, if◌then◌else◌}
use Rattle.std.specs.Option.{unwrap_or}
use Rattle.etm_types.specs.Atoms.{atoms_in}
use Rattle.etm_types.specs.declared.atoms.AtomRun.{AtomRun}
use Rattle.etm_types.specs.declared.atoms.FewAtoms.{FewAtoms}
use Rattle.atom_formats.specs.Bytes.{byte_of}

-- bits 1 and 0 (A): no atom, E, EE, N
abbrev pub few : FewAtoms → ℕ
few atoms = if atoms.count == 0 then 0 else if atoms.first then atoms.count else 3

-- the byte of a run that one byte tells
abbrev pub run_byte : AtomRun → ℕ
run_byte run = unwrap_or (byte_of (atoms_in run)) 0
