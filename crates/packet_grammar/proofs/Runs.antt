-- The run of a list of atoms.
use Rattle.std.proofs.Common.{◌≡◌, ℕ, ◌+◌, ◌*◌, ◌/◌, ◌%◌, ◌^◌, ◌<◌, ◌≤◌, ◌==◌, Bool, true, false}
use Rattle.std.proofs.Common.{List, [], ◌∷◌, ◌++◌, length, Ok, refl, sym, ap, subst, ◌∙◌, inr, arith}
use Rattle.std.proofs.Math.Nat.{pow-suc}
use Rattle.etm_types.specs.declared.atoms.AtomRun.{AtomRun}
use Rattle.etm_types.specs.Atoms.{IsAtomRun, atoms_in, low_bits}
use Rattle.atom_formats.specs.Formats.{Spells as TellsAtoms}
use Rattle.atom_formats.proofs.Rows.{each_byte_tells, one_run_a_byte, runs_are_short}
use Rattle.atom_formats.proofs.LowBits.{runs_differ}
use Rattle.packet_grammar.specs.declared.packet.Packet.TheVariants.{Atoms}
use Rattle.packet_grammar.proofs.Table.{AtomsOf}
use Rattle.packet_grammar.proofs.Codes.{Apart, AtMost, Covers}

bit_of : Bool → ℕ
bit_of true = 1
bit_of false = 0

bits_of : List Bool → ℕ
bits_of [] = 0
bits_of (atom ∷ atoms) = bit_of atom + 2 * bits_of atoms

bits_fit : (atoms : List Bool) → bits_of atoms < 2 ^ length atoms
unfolding bits_of bit_of
bits_fit [] = omega arith
bits_fit (true ∷ atoms) = omega (arith, bits_fit atoms, pow-suc 2 (length atoms))
bits_fit (false ∷ atoms) = omega (arith, bits_fit atoms, pow-suc 2 (length atoms))

first_bit : (atom : Bool) (high : ℕ) → ((bit_of atom + 2 * high) % 2 == 1) ≡ atom
unfolding bit_of
first_bit true high = let e : (1 + 2 * high) % 2 ≡ 1 = omega arith in ap (λ n. n == 1) e
first_bit false high = let e : (0 + 2 * high) % 2 ≡ 0 = omega arith in ap (λ n. n == 1) e

other_bits : (atom : Bool) (high : ℕ) → (bit_of atom + 2 * high) / 2 ≡ high
unfolding bit_of
other_bits true high = omega arith
other_bits false high = omega arith

bits_are : (atoms : List Bool) → low_bits (length atoms) (bits_of atoms) ≡ atoms
unfolding bits_of
bits_are [] = refl
bits_are (atom ∷ atoms) =
    let first = first_bit atom (bits_of atoms) in
    let others = ap (λ (n : ℕ). low_bits (length atoms) n) (other_bits atom (bits_of atoms)) ∙ bits_are atoms in
    (λ i. first i ∷ others i)

run_of : List Bool → AtomRun
run_of atoms = record { count = length atoms; bits = bits_of atoms }

module _ (h : ℕ) where
  pub run_apart : Apart (AtomsOf h)
  run_apart outcome other text text' rest rest' (run, is, fits, tells, none) (run', is', fits', tells', none') e =
      let same = runs_differ run run' fits fits' (one_run_a_byte h (atoms_in run) (atoms_in run') tells tells') in
      record {
        outcomes = is ∙ ap (λ r. Ok (Atoms r)) same ∙ sym is';
        texts = none ∙ sym none';
        rests = sym (ap (λ t. t ++ rest) none) ∙ e ∙ ap (λ t. t ++ rest') none';
      }

  pub run_short : AtMost 0 (AtomsOf h)
  run_short outcome text (run, is, fits, tells, none) = omega (arith, ap length none)

  pub run_covers : 192 ≤ h → h < 256 → Covers (AtomsOf h)
  unfolding run_of
  run_covers least below bytes =
      let told = each_byte_tells h least below in
      let run = run_of told.0 in
      let few = runs_are_short h told.0 told.1 in
      let fits : IsAtomRun run = record { some = few.0; most = few.1; bits = bits_fit told.0 } in
      let tells : TellsAtoms h (atoms_in run) = subst (λ atoms. TellsAtoms h atoms) (sym (bits_are told.0)) told.1 in
      inr (record { outcome = Ok (Atoms run); text = []; rest = bytes; parts = refl; is = (run, refl, fits, tells, refl) })
