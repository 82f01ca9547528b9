-- The table of atom packets, tested row by row.
use Rattle.std.proofs.Common.{◌≡◌, ℕ, suc, ◌+◌, ◌-◌, ◌^◌, ◌<◌, ◌≤◌, List, [], ◌∷◌, Bool, true}
use Rattle.std.proofs.Common.{false, ◌&&◌, ◌||◌, ◌==◌, nat_lt, nat_le, slice_index_or, refl, sym, ap, ◌∙◌, arith, inl, inr}
use Rattle.std.specs.Prelude.{Contains}
use Rattle.std.specs.List.{list_all}
use Rattle.std.proofs.lemmas.Bool.{agree_below, agree_below_at, and_parts, eqb-true, leb-true, ltb-true, or_cases}
use Rattle.std.proofs.lemmas.List.Sums.{AllPass-from_list_all}
use Rattle.etm_types.specs.Atoms.{IsAtomRun, low_bits}
use Rattle.atom_formats.specs.Bytes.{same_atoms}
use Rattle.atom_formats.specs.Formats.{Spells, atom_formats}
use Rattle.atom_formats.specs.declared.formats.TheConstants.{ROWS}

pub same_atoms-true : (xs ys : List Bool) → same_atoms xs ys ≡ true → xs ≡ ys
same_atoms-true [] [] e = refl
same_atoms-true [] (true ∷ ys) e = absurd (cc)
same_atoms-true [] (false ∷ ys) e = absurd (cc)
same_atoms-true (true ∷ xs) [] e = absurd (cc)
same_atoms-true (false ∷ xs) [] e = absurd (cc)
same_atoms-true (true ∷ xs) (true ∷ ys) e = ap (λ (zs : List Bool). true ∷ zs) (same_atoms-true xs ys e)
same_atoms-true (false ∷ xs) (false ∷ ys) e = ap (λ (zs : List Bool). false ∷ zs) (same_atoms-true xs ys e)
same_atoms-true (true ∷ xs) (false ∷ ys) e = absurd (cc)
same_atoms-true (false ∷ xs) (true ∷ ys) e = absurd (cc)

pub same_atoms-refl : (xs : List Bool) → same_atoms xs xs ≡ true
same_atoms-refl [] = refl
same_atoms-refl (true ∷ xs) = same_atoms-refl xs
same_atoms-refl (false ∷ xs) = same_atoms-refl xs

-- whether a row of a table has this byte with these atoms
abbrev pub has_row : List (ℕ × List Bool) → ℕ → List Bool → Bool
has_row [] byte atoms = false
has_row (row ∷ rows) byte atoms = ((row.0 == byte) && same_atoms row.1 atoms) || has_row rows byte atoms

pub same_row : (row : ℕ × List Bool) (byte : ℕ) (atoms : List Bool) → row.0 ≡ byte → row.1 ≡ atoms → row ≡ (byte, atoms)
same_row (b, bits) byte atoms e f = cc

pub row_found : (rows : List (ℕ × List Bool)) (byte : ℕ) (atoms : List Bool) → has_row rows byte atoms ≡ true → Contains rows (byte, atoms)
row_found [] byte atoms e = absurd (cc)
row_found (row ∷ rows) byte atoms e =
    elim (or_cases ((row.0 == byte) && same_atoms row.1 atoms) (has_row rows byte atoms) e) [
      | inl here ↦
          let parts = and_parts (row.0 == byte) (same_atoms row.1 atoms) here in
          let byte_is : row.0 ≡ byte = eqb-true row.0 byte parts.0 in
          let atoms_are : row.1 ≡ atoms = same_atoms-true row.1 atoms parts.1 in
          (0, grind (arith), same_row row byte atoms byte_is atoms_are)
      | inr later ↦
          let found = row_found rows byte atoms later in
          (suc found.0, grind (arith, found.1), found.2)
    ]

-- a test of every row holds of what is spelled
pub every_row : (test : ℕ → List Bool → Bool) → list_all (λ row. test row.0 row.1) atom_formats ≡ true
    → (byte : ℕ) (atoms : List Bool) → Spells byte atoms → test byte atoms ≡ true
every_row test all byte atoms spells =
    let passed = AllPass-from_list_all (λ (row : ℕ × List Bool). test row.0 row.1) atom_formats all spells.0 (byte, atoms) spells.1 in
    ap (λ (row : ℕ × List Bool). test row.0 row.1) (sym spells.2) ∙ passed

-- whether the byte tells so many low bits of a number, and it has no more of them
abbrev pub tells : ℕ → ℕ → ℕ → Bool
tells byte count bits = nat_lt bits (2 ^ count) && has_row atom_formats byte (low_bits count bits)

-- a test of each number from low to high
pub each_from : (low more : ℕ) (test : ℕ → Bool) → agree_below (λ j. test (low + j)) (λ _. true) (suc more) ≡ true → (b : ℕ) → low ≤ b → b ≤ low + more
    → test b ≡ true
each_from low more test all b least most =
    let there : low + (b - low) ≡ b = omega (arith, least) in
    ap test (sym there) ∙ agree_below_at (λ (j : ℕ). test (low + j)) (λ _. true) (suc more) (b - low) all (omega (arith, least, most))

-- ---- the rows that are looked up

-- whether a byte tells so many atoms, 1 to 24, which are the low bits of a number that has no others
abbrev pub is_run : ℕ → ℕ → ℕ → Bool
is_run byte count bits = tells byte count bits && (nat_le 1 count && nat_le count 24)

pub run_told : (byte count bits : ℕ) → is_run byte count bits ≡ true
    → Spells byte (low_bits count bits) × IsAtomRun (record { count = count; bits = bits })
run_told byte count bits told =
    let is = and_parts (tells byte count bits) (nat_le 1 count && nat_le count 24) told in
    let fits = and_parts (nat_lt bits (2 ^ count)) (has_row atom_formats byte (low_bits count bits)) is.0 in
    let within = and_parts (nat_le 1 count) (nat_le count 24) is.1 in (
      row_found atom_formats byte (low_bits count bits) fits.1,
      record { some = leb-true 1 count within.0; most = leb-true count 24 within.1; bits = ltb-true bits (2 ^ count) fits.0 },
    )

-- each row is its byte's
pub row_told : (byte : ℕ) → 192 ≤ byte → byte < 256
    → is_run byte (slice_index_or ROWS (byte - 192) (0, 0)).0 (slice_index_or ROWS (byte - 192) (0, 0)).1 ≡ true
unfolding atom_formats
row_told byte least most =
    each_from 192 63 (λ b. is_run b (slice_index_or ROWS (b - 192) (0, 0)).0 (slice_index_or ROWS (b - 192) (0, 0)).1) refl byte least
    (omega (arith, most))
