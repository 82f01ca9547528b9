-- The letters of atoms.
use Rattle.std.proofs.Common.{◌≡◌, ℕ, zero, suc, ◌/◌, length, refl, ap, ◌∙◌}
use Rattle.std.proofs.lemmas.List.{length-map}
use Rattle.etm_types.specs.Atoms.{low_bits, atoms_in}
use Rattle.etm_types.specs.declared.atoms.AtomRun.{AtomRun}
use Rattle.path_text.specs.PacketLines.{letter, atoms_text}

length-low_bits : (n bits : ℕ) → length (low_bits n bits) ≡ n
length-low_bits zero bits = refl
length-low_bits (suc n) bits = ap suc (length-low_bits n (bits / 2))

-- each atom has one letter
pub count_letters : (run : AtomRun) → length (atoms_text run) ≡ run.count
count_letters run = length-map (atoms_in run) letter ∙ length-low_bits run.count run.bits
