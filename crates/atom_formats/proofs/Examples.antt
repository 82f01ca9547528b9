-- Atom packets with their atoms, oldest first, and near misses. The atoms come from the figures of the standard (Arm IHI 0064,
-- "Atom Format 1 packet" to "Atom Format 6 packet"), worked out apart from the definitions.
use Rattle.std.proofs.Common.{◌≡◌, ℕ, Bool, true, false, ◌&&◌, ◌==◌, not, List, [], ◌∷◌, ◌++◌, Some, None, map, refl, arith, eq-eqb}
use Rattle.std.specs.Prelude.{replicate}
use Rattle.std.specs.List.{list_all}
use Rattle.std.proofs.lemmas.Bool.{both_ways, not-true}
use Rattle.atom_formats.specs.Bytes.{byte_of, same_atoms}
use Rattle.atom_formats.specs.Formats.{Spells, atom_formats}
use Rattle.atom_formats.proofs.Rows.{no_other_tells}
use Rattle.atom_formats.proofs.Table.{every_row, row_found, same_atoms-refl}

-- a branch that was taken
abbrev e : Bool
e = true

-- a branch that was not
abbrev n : Bool
n = false

-- a byte with atoms that are in no row of it
other_atoms : (byte : ℕ) (atoms : List Bool) → list_all (λ row. not ((row.0 == byte) && same_atoms row.1 atoms)) atom_formats ≡ true → Spells byte atoms → ⊥
other_atoms byte atoms none spells =
    let test : not ((byte == byte) && same_atoms atoms atoms) ≡ true =
    every_row (λ (b : ℕ) (xs : List Bool). not ((b == byte) && same_atoms xs atoms)) none byte atoms spells in
    let byte_is = eq-eqb byte byte refl in
    let atoms_are = same_atoms-refl atoms in
    both_ways ((byte == byte) && same_atoms atoms atoms) (not-true ((byte == byte) && same_atoms atoms atoms) test) (rw (byte_is, atoms_are) refl)

-- Format 1: bit 0 is the atom
pub format_1 : Spells 0xf6 (n ∷ []) × Spells 0xf7 (e ∷ [])
unfolding atom_formats
format_1 = (row_found atom_formats 0xf6 (n ∷ []) refl, row_found atom_formats 0xf7 (e ∷ []) refl)

-- Format 2: bit 0 is the older atom
pub format_2 : Spells 0xd8 (n ∷ n ∷ []) × Spells 0xd9 (e ∷ n ∷ []) × Spells 0xda (n ∷ e ∷ []) × Spells 0xdb (e ∷ e ∷ [])
unfolding atom_formats
format_2 = (
  row_found atom_formats 0xd8 (n ∷ n ∷ []) refl,
  row_found atom_formats 0xd9 (e ∷ n ∷ []) refl,
  row_found atom_formats 0xda (n ∷ e ∷ []) refl,
  row_found atom_formats 0xdb (e ∷ e ∷ []) refl,
)

-- Format 3: bit 0 is the oldest atom, bit 2 the newest
pub format_3 : Spells 0xf8 (n ∷ n ∷ n ∷ []) × Spells 0xf9 (e ∷ n ∷ n ∷ []) × Spells 0xfa (n ∷ e ∷ n ∷ []) × Spells 0xfb (e ∷ e ∷ n ∷ [])
    × Spells 0xfc (n ∷ n ∷ e ∷ []) × Spells 0xfd (e ∷ n ∷ e ∷ []) × Spells 0xfe (n ∷ e ∷ e ∷ []) × Spells 0xff (e ∷ e ∷ e ∷ [])
unfolding atom_formats
format_3 = (
  row_found atom_formats 0xf8 (n ∷ n ∷ n ∷ []) refl,
  row_found atom_formats 0xf9 (e ∷ n ∷ n ∷ []) refl,
  row_found atom_formats 0xfa (n ∷ e ∷ n ∷ []) refl,
  row_found atom_formats 0xfb (e ∷ e ∷ n ∷ []) refl,
  row_found atom_formats 0xfc (n ∷ n ∷ e ∷ []) refl,
  row_found atom_formats 0xfd (e ∷ n ∷ e ∷ []) refl,
  row_found atom_formats 0xfe (n ∷ e ∷ e ∷ []) refl,
  row_found atom_formats 0xff (e ∷ e ∷ e ∷ []) refl,
)

-- Format 4: NEEE, NNNN, NENE, ENEN
pub format_4 : Spells 0xdc (n ∷ e ∷ e ∷ e ∷ []) × Spells 0xdd (n ∷ n ∷ n ∷ n ∷ []) × Spells 0xde (n ∷ e ∷ n ∷ e ∷ []) × Spells 0xdf (e ∷ n ∷ e ∷ n ∷ [])
unfolding atom_formats
format_4 = (
  row_found atom_formats 0xdc (n ∷ e ∷ e ∷ e ∷ []) refl,
  row_found atom_formats 0xdd (n ∷ n ∷ n ∷ n ∷ []) refl,
  row_found atom_formats 0xde (n ∷ e ∷ n ∷ e ∷ []) refl,
  row_found atom_formats 0xdf (e ∷ n ∷ e ∷ n ∷ []) refl,
)

-- Format 5: NEEEE, NNNNN, NENEN, ENENE
pub format_5 : Spells 0xf5 (n ∷ e ∷ e ∷ e ∷ e ∷ []) × Spells 0xd5 (n ∷ n ∷ n ∷ n ∷ n ∷ [])
    × Spells 0xd6 (n ∷ e ∷ n ∷ e ∷ n ∷ []) × Spells 0xd7 (e ∷ n ∷ e ∷ n ∷ e ∷ [])
unfolding atom_formats
format_5 = (
  row_found atom_formats 0xf5 (n ∷ e ∷ e ∷ e ∷ e ∷ []) refl,
  row_found atom_formats 0xd5 (n ∷ n ∷ n ∷ n ∷ n ∷ []) refl,
  row_found atom_formats 0xd6 (n ∷ e ∷ n ∷ e ∷ n ∷ []) refl,
  row_found atom_formats 0xd7 (e ∷ n ∷ e ∷ n ∷ e ∷ []) refl,
)

-- Format 6: COUNT of 0, 1 and 20, once with E and once with N at the end
pub format_6_with_e : Spells 0xc0 (e ∷ e ∷ e ∷ e ∷ []) × Spells 0xc1 (e ∷ e ∷ e ∷ e ∷ e ∷ []) × Spells 0xd4 (replicate 24 e)
unfolding atom_formats
format_6_with_e = (
  row_found atom_formats 0xc0 (e ∷ e ∷ e ∷ e ∷ []) refl,
  row_found atom_formats 0xc1 (e ∷ e ∷ e ∷ e ∷ e ∷ []) refl,
  row_found atom_formats 0xd4 (replicate 24 e) refl,
)

pub format_6_with_n : Spells 0xe0 (e ∷ e ∷ e ∷ n ∷ []) × Spells 0xe1 (e ∷ e ∷ e ∷ e ∷ n ∷ []) × Spells 0xf4 (replicate 23 e ++ n ∷ [])
unfolding atom_formats
format_6_with_n = (
  row_found atom_formats 0xe0 (e ∷ e ∷ e ∷ n ∷ []) refl,
  row_found atom_formats 0xe1 (e ∷ e ∷ e ∷ e ∷ n ∷ []) refl,
  row_found atom_formats 0xf4 (replicate 23 e ++ n ∷ []) refl,
)

-- ---- the byte of some atoms, where one byte tells them

pub bytes_of : map byte_of ((e ∷ []) ∷ (n ∷ e ∷ []) ∷ (e ∷ e ∷ e ∷ []) ∷ (e ∷ e ∷ e ∷ e ∷ []) ∷ [])
    ≡ Some 0xf7 ∷ Some 0xda ∷ Some 0xff ∷ Some 0xc0 ∷ []
unfolding byte_of atom_formats
bytes_of = refl

pub no_byte_of : map byte_of ([] ∷ (n ∷ n ∷ e ∷ e ∷ []) ∷ []) ≡ None ∷ None ∷ []
unfolding byte_of atom_formats
no_byte_of = refl

-- ---- near misses

-- E and N exchanged, and atoms read newest first
pub not_exchanged : Spells 0xf7 (n ∷ []) → ⊥
unfolding atom_formats
not_exchanged = other_atoms 0xf7 (n ∷ []) refl

pub format_2_not_newest_first : Spells 0xd9 (n ∷ e ∷ []) → ⊥
unfolding atom_formats
format_2_not_newest_first = other_atoms 0xd9 (n ∷ e ∷ []) refl

pub format_4_not_newest_first : Spells 0xdc (e ∷ e ∷ e ∷ n ∷ []) → ⊥
unfolding atom_formats
format_4_not_newest_first = other_atoms 0xdc (e ∷ e ∷ e ∷ n ∷ []) refl

pub format_5_not_newest_first : Spells 0xf5 (e ∷ e ∷ e ∷ e ∷ n ∷ []) → ⊥
unfolding atom_formats
format_5_not_newest_first = other_atoms 0xf5 (e ∷ e ∷ e ∷ e ∷ n ∷ []) refl

-- COUNT is not the number of atoms E, nor of all atoms; it ends at 20: d5 and f5 are format 5
pub count_has_three_more : Spells 0xc1 (e ∷ e ∷ []) → ⊥
unfolding atom_formats
count_has_three_more = other_atoms 0xc1 (e ∷ e ∷ []) refl

pub count_has_one_more : Spells 0xe0 (e ∷ e ∷ n ∷ []) → ⊥
unfolding atom_formats
count_has_one_more = other_atoms 0xe0 (e ∷ e ∷ n ∷ []) refl

pub no_count_of_21_with_e : Spells 0xd5 (replicate 25 e) → ⊥
unfolding atom_formats
no_count_of_21_with_e = other_atoms 0xd5 (replicate 25 e) refl

pub no_count_of_21_with_n : Spells 0xf5 (replicate 24 e ++ n ∷ []) → ⊥
unfolding atom_formats
no_count_of_21_with_n = other_atoms 0xf5 (replicate 24 e ++ n ∷ []) refl

-- the byte before the first one
pub none_at_bf : (atoms : List Bool) → Spells 0xbf atoms → ⊥
none_at_bf atoms spells = absurd (omega (arith, (no_other_tells 0xbf atoms spells).0))
