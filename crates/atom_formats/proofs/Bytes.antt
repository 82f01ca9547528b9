-- The byte that is looked for is the one that tells the atoms.
use Rattle.std.proofs.Common.{◌≡◌, ℕ, suc, List, [], ◌∷◌, Bool, true, false, Option, Some, None, if◌then◌else◌, refl, ap, ◌∙◌, arith}
use Rattle.std.specs.Prelude.{Contains, is_some}
use Rattle.atom_formats.specs.Bytes.{byte_in, byte_of, same_atoms}
use Rattle.atom_formats.specs.Formats.{Spells, atom_formats}
use Rattle.atom_formats.proofs.Rows.{one_byte_a_run}
use Rattle.atom_formats.proofs.Table.{every_row, same_atoms-true, same_row}

found_by : (test : Bool) (row : ℕ × List Bool) (rows : List (ℕ × List Bool)) (atoms : List Bool) (byte : ℕ) → (test ≡ true → row.1 ≡ atoms)
    → (byte_in rows atoms ≡ Some byte → Contains rows (byte, atoms)) → (if test then Some row.0 else byte_in rows atoms) ≡ Some byte
    → Contains (row ∷ rows) (byte, atoms)
found_by true row rows atoms byte same later e = let is : row.0 ≡ byte = cc in (0, grind (arith), same_row row byte atoms is (same refl))
found_by false row rows atoms byte same later e = let f = later e in (suc f.0, grind (arith, f.1), f.2)

found_in : (rows : List (ℕ × List Bool)) (atoms : List Bool) (byte : ℕ) → byte_in rows atoms ≡ Some byte → Contains rows (byte, atoms)
found_in [] atoms byte e = absurd cc
found_in (row ∷ rows) atoms byte e =
    found_by (same_atoms row.1 atoms) row rows atoms byte (λ t. same_atoms-true row.1 atoms t) (λ f. found_in rows atoms byte f) e

pub byte_tells : (atoms : List Bool) (byte : ℕ) → byte_of atoms ≡ Some byte → Spells byte atoms
unfolding byte_of
byte_tells atoms byte e = found_in atom_formats atoms byte e

some_byte : (atoms : List Bool) (byte : ℕ) → Spells byte atoms → is_some (byte_of atoms) ≡ true
unfolding byte_of atom_formats
some_byte atoms byte tells = every_row (λ b l. is_some (byte_of l)) refl byte atoms tells

pub is_there : (o : Option ℕ) → is_some o ≡ true → (byte : ℕ) × (o ≡ Some byte)
is_there None e = absurd cc
is_there (Some byte) e = (byte, refl)

pub byte_found : (atoms : List Bool) (byte : ℕ) → Spells byte atoms → byte_of atoms ≡ Some byte
byte_found atoms byte tells =
    let there = is_there (byte_of atoms) (some_byte atoms byte tells) in
    there.1 ∙ ap (λ b. Some b) (one_byte_a_run there.0 byte atoms (byte_tells atoms there.0 there.1) tells)

pub one_byte : (a : Bool) → is_some (byte_of (a ∷ [])) ≡ true
unfolding byte_of atom_formats
one_byte true = refl
one_byte false = refl
