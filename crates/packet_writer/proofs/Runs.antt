-- The byte of a run of atoms, as it is looked for among the bytes that tell atoms.
use Rattle.std.proofs.Common.{◌≡◌, ℕ, ◌+◌, ◌<◌, Bool, true, false, refl, sym, subst, arith, inl, inr}
use Rattle.std.specs.Prelude.{◌↔◌, IsTrue}
use Rattle.std.proofs.lemmas.Bool.{cases_lt}
use Rattle.etm_types.specs.Atoms.{IsAtomRun, atoms_in}
use Rattle.etm_types.specs.declared.atoms.AtomRun.{AtomRun}
use Rattle.atom_formats.specs.Formats.{Spells as TellsAtoms}
use Rattle.atom_formats.proofs.LowBits.{runs_differ}
use Rattle.atom_formats.proofs.Rows.{no_other_tells, one_run_a_byte}
use Rattle.packet_writer.specs.Atoms.{run_byte}
use Rattle.packet_writer.proofs.Spelled.{byte_told}

-- no byte below this one tells the run
abbrev pub NoneBelow : ℕ → AtomRun → Type 0
NoneBelow byte run = (b : ℕ) → b < byte → TellsAtoms b (atoms_in run) → ⊥

pub none_first : (run : AtomRun) → NoneBelow 192 run
none_first run b below tells = let within = no_other_tells b (atoms_in run) tells in omega (arith, below, within.0)

pub none_next : (byte : ℕ) (run : AtomRun) → (TellsAtoms byte (atoms_in run) → ⊥) → NoneBelow byte run → NoneBelow (byte + 1) run
none_next byte run other none b below is =
    elim (cases_lt b byte) [
      | inl earlier ↦ none b earlier is
      | inr here ↦ let same : b ≡ byte = omega (arith, below, here) in other (rw (sym same) is)
    ]

-- one of the bytes tells the run
pub not_none : (byte : ℕ) (run : AtomRun) → 255 < byte → (b : ℕ) × TellsAtoms b (atoms_in run) → NoneBelow byte run → ⊥
not_none byte run last (b, tells) none = none b (let within = no_other_tells b (atoms_in run) tells in omega (arith, within.1, last)) tells

pub found_byte : (byte : ℕ) (run : AtomRun) → TellsAtoms byte (atoms_in run) → byte ≡ run_byte run
found_byte byte run tells = sym (byte_told byte run tells)

-- a byte tells one run alone
pub same_run : (byte : ℕ) (found run : AtomRun) → IsAtomRun found → IsAtomRun run → TellsAtoms byte (atoms_in found) → TellsAtoms byte (atoms_in run)
    → found ≡ run
same_run byte found run fits other tells tells_other =
    runs_differ found run fits other (one_run_a_byte byte (atoms_in found) (atoms_in run) tells tells_other)

pub so : (b : Bool) (P : Type 0) → (IsTrue b ↔ P) → b ≡ true → P
so true P is e = is.0 refl
so false P is e = absurd cc

pub not_so : (b : Bool) (P : Type 0) → (IsTrue b ↔ P) → b ≡ false → P → ⊥
not_so true P is e p = absurd cc
not_so false P is e p = absurd (let t = is.1 p in cc)

-- what is looked up for a byte, beside a run
pub run_or_none : (byte : ℕ) (run : AtomRun) → IsAtomRun run → byte < 192 → TellsAtoms byte (atoms_in run) → ⊥
run_or_none byte run fits low tells = let within = no_other_tells byte (atoms_in run) tells in omega (arith, low, within.0)

pub run_is : (byte : ℕ) (found run : AtomRun) (test : Bool) → (IsTrue test ↔ (found ≡ run)) → IsAtomRun found → IsAtomRun run → TellsAtoms byte (atoms_in found)
    → IsTrue test ↔ TellsAtoms byte (atoms_in run)
run_is byte found run test is fits other tells =
    (λ t. subst (λ r. TellsAtoms byte (atoms_in r)) (is.0 t) tells, λ tells_other. is.1 (same_run byte found run fits other tells tells_other))
