-- The table of atom packets as a whole, by a test of its rows.
use Rattle.std.proofs.Common.{◌≡◌, ℕ, List, [], ◌∷◌, length, Bool, true, ◌&&◌, ◌||◌, ◌==◌, not, nat_lt, nat_le, refl, arith, inl, inr, if◌then◌else◌, eq-eqb}
use Rattle.std.specs.List.{list_all}
use Rattle.std.proofs.lemmas.Bool.{and_parts, both_ways, eqb-true, leb-true, ltb-true, not-true, or_cases}
use Rattle.atom_formats.specs.Bytes.{same_atoms}
use Rattle.atom_formats.specs.Formats.{Spells, atom_formats}
use Rattle.atom_formats.specs.Laws.{EachByteTells, NoOtherTells, OneByteARun, OneRunAByte, RunsAreShort}
use Rattle.atom_formats.proofs.Table.{each_from, every_row, has_row, row_found, same_atoms-refl, same_atoms-true}

-- the atoms of a byte in the first row that has it
abbrev look : List (ℕ × List Bool) → ℕ → List Bool
look [] byte = []
look (row ∷ rows) byte = if row.0 == byte then row.1 else look rows byte

pub each_byte_tells : EachByteTells
unfolding atom_formats
each_byte_tells byte least below = (
  look atom_formats byte,
  row_found atom_formats byte (look atom_formats byte)
      (each_from 192 63 (λ (b : ℕ). has_row atom_formats b (look atom_formats b)) refl byte least (omega (arith, below))),
)

pub no_other_tells : NoOtherTells
unfolding atom_formats
no_other_tells byte atoms spells =
    let test : (nat_le 192 byte && nat_lt byte 256) ≡ true = every_row (λ (b : ℕ) (xs : List Bool). nat_le 192 b && nat_lt b 256) refl byte atoms spells in
    let parts = and_parts (nat_le 192 byte) (nat_lt byte 256) test in
    (leb-true 192 byte parts.0, ltb-true byte 256 parts.1)

pub runs_are_short : RunsAreShort
unfolding atom_formats
runs_are_short byte atoms spells =
    let test : (nat_le 1 (length atoms) && nat_le (length atoms) 24) ≡ true =
    every_row (λ (b : ℕ) (xs : List Bool). nat_le 1 (length xs) && nat_le (length xs) 24) refl byte atoms spells in
    let parts = and_parts (nat_le 1 (length atoms)) (nat_le (length atoms) 24) test in
    (leb-true 1 (length atoms) parts.0, leb-true (length atoms) 24 parts.1)

-- a test of every two rows holds of what is spelled twice
every_two_rows : (test : ℕ → List Bool → ℕ → List Bool → Bool)
    → list_all (λ row. list_all (λ other. test row.0 row.1 other.0 other.1) atom_formats) atom_formats ≡ true
    → (byte other : ℕ) (atoms others : List Bool) → Spells byte atoms → Spells other others → test byte atoms other others ≡ true
every_two_rows test all byte other atoms others spells spells_other =
    every_row (λ (b : ℕ) (bits : List Bool). test byte atoms b bits)
    (every_row (λ (b : ℕ) (bits : List Bool). list_all (λ (row : ℕ × List Bool). test b bits row.0 row.1) atom_formats) all byte atoms spells)
    other others spells_other

pub one_run_a_byte : OneRunAByte
unfolding atom_formats
one_run_a_byte byte atoms others spells spells_other =
    let test : (not (byte == byte) || same_atoms atoms others) ≡ true =
    every_two_rows (λ (b : ℕ) (xs : List Bool) (c : ℕ) (ys : List Bool). not (b == c) || same_atoms xs ys) refl byte byte atoms others spells spells_other in
    elim (or_cases (not (byte == byte)) (same_atoms atoms others) test) [
      | inl other ↦ absurd (both_ways (byte == byte) (not-true (byte == byte) other) (eq-eqb byte byte refl))
      | inr same ↦ same_atoms-true atoms others same
    ]

pub one_byte_a_run : OneByteARun
unfolding atom_formats
one_byte_a_run byte other atoms spells spells_other =
    let test : (not (same_atoms atoms atoms) || (byte == other)) ≡ true =
    every_two_rows (λ (b : ℕ) (xs : List Bool) (c : ℕ) (ys : List Bool). not (same_atoms xs ys) || (b == c)) refl byte other atoms atoms spells spells_other in
    elim (or_cases (not (same_atoms atoms atoms)) (byte == other) test) [
      | inl differ ↦ absurd (both_ways (same_atoms atoms atoms) (not-true (same_atoms atoms atoms) differ) (same_atoms-refl atoms))
      | inr same ↦ eqb-true byte other same
    ]
