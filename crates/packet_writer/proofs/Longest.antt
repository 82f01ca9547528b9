-- The longest front of some atoms: that of few atoms by a table, and that of format 6 by how many E stand first.
use Rattle.std.proofs.Common.{◌≡◌, ℕ, zero, suc, ◌+◌, ◌-◌, ◌*◌, ◌<◌, ◌≤◌, List, [], ◌∷◌, ◌++◌, length, take, drop, get_or, min, replicate, Bool, true, false}
use Rattle.std.proofs.Common.{Option, Some, None, ◌⊎◌, inl, inr, cond, ◌&&◌, ◌||◌, not, nat_lt, nat_le, slice_index_or, position}
use Rattle.std.proofs.Common.{refl, sym, ap, subst, ◌∙◌, arith}
use mir.Val.{bool_byte}
use Rattle.std.specs.List.{list_all, position_or_len}
use Rattle.std.specs.Option.{unwrap_or}
use Rattle.std.proofs.lemmas.Bool.{and_parts, both_ways, cases_lt, leb-true, ltb-false, ltb-true, not-true, or_cases}
use Rattle.std.proofs.lemmas.List.{at_drop_all, at_drop_more, length-take-le, take-take}
use Rattle.std.proofs.Math.Seq.{take-length}
use Rattle.std.proofs.lemmas.List.Recursion.{is_position_or_len}
use Rattle.atom_formats.specs.Bytes.{same_atoms}
use Rattle.atom_formats.specs.Formats.{Spells, atom_formats}
use Rattle.atom_formats.proofs.Rows.{runs_are_short}
use Rattle.atom_formats.proofs.Table.{each_from, every_row, has_row, row_found, same_atoms-refl}
use Rattle.packet_writer.specs.Front.{SpellsFront}
use Rattle.packet_writer.specs.declared.fronts.TheConstants.{ROWS}

-- the byte is the packet of the first n atoms, and none is that of more
pub record IsLongest (atoms : List Bool) (byte n : ℕ) : Type 0 where
  pub front : SpellsFront atoms byte n
  pub longest : (other m : ℕ) → SpellsFront atoms other m → m ≤ n

-- a front has 1 to 24 atoms
pub front_within : (atoms : List Bool) (byte n : ℕ) → SpellsFront atoms byte n → (1 ≤ n) × (n ≤ 24)
front_within atoms byte n front =
    let short = runs_are_short byte (take n atoms) front.1 in
    let count : length (take n atoms) ≡ n = length-take-le n atoms front.0 in
    (omega (arith, short.0, count), omega (arith, short.1, count))

-- where no packet has more than k of the atoms, the others do not matter
pub of_first : (k : ℕ) (atoms : List Bool) (byte n : ℕ) → k ≤ length atoms → ((other m : ℕ) → SpellsFront atoms other m → m ≤ k)
    → IsLongest (take k atoms) byte n → IsLongest atoms byte n
of_first k atoms byte n within most is =
    let count = length-take-le k atoms within in
    let few : n ≤ k = omega (arith, count, is.front.0) in
    record {
      front = (omega (arith, within, few), subst (Spells byte) (take-take n k atoms few) is.front.1);
      longest = λ other m front.
          let less : m ≤ k = most other m front in
          is.longest other m (omega (arith, count, less), subst (Spells other) (sym (take-take m k atoms less)) front.1);
    }

-- ---- the table of few atoms

-- the number of the row of some atoms
abbrev pub row_from : ℕ → List Bool → ℕ
row_from row [] = row
row_from row (true ∷ atoms) = row_from (row * 2 + 1) atoms
row_from row (false ∷ atoms) = row_from (row * 2 + 0) atoms

pub row_grows : (row : ℕ) (atoms : List Bool) → row ≤ row_from row atoms
row_grows row [] = omega arith
row_grows row (true ∷ atoms) = let more = row_grows (row * 2 + 1) atoms in omega (arith, more)
row_grows row (false ∷ atoms) = let more = row_grows (row * 2 + 0) atoms in omega (arith, more)

-- whether a packet is that of the first n atoms
abbrev spells_front : List Bool → ℕ × ℕ → Bool
spells_front atoms row = nat_le row.1 (length atoms) && has_row atom_formats row.0 (take row.1 atoms)

-- whether no packet is that of more than n of the atoms
abbrev none_longer : List Bool → ℕ → Bool
none_longer atoms n = list_all (λ row. not (same_atoms row.1 (take (length row.1) atoms)) || nat_le (length row.1) n) atom_formats

tested : (atoms : List Bool) (row : ℕ × ℕ) → (spells_front atoms row && none_longer atoms row.1) ≡ true → IsLongest atoms row.0 row.1
tested atoms row test =
    let parts = and_parts (spells_front atoms row) (none_longer atoms row.1) test in
    let front = and_parts (nat_le row.1 (length atoms)) (has_row atom_formats row.0 (take row.1 atoms)) parts.0 in
    record {
      front = (leb-true row.1 (length atoms) front.0, row_found atom_formats row.0 (take row.1 atoms) front.1);
      longest = λ other m spells.
          let count : length (take m atoms) ≡ m = length-take-le m atoms spells.0 in
          let same : same_atoms (take m atoms) (take (length (take m atoms)) atoms) ≡ true =
          subst (λ k. same_atoms (take m atoms) (take k atoms) ≡ true) (sym count) (same_atoms-refl (take m atoms)) in
          elim (or_cases (not (same_atoms (take m atoms) (take (length (take m atoms)) atoms))) (nat_le (length (take m atoms)) row.1)
          (every_row (λ (b : ℕ) (xs : List Bool). not (same_atoms xs (take (length xs) atoms)) || nat_le (length xs) row.1) parts.1 other (take m atoms)
          spells.1)) [
            | inl differ ↦
                absurd (both_ways (same_atoms (take m atoms) (take (length (take m atoms)) atoms))
                (not-true (same_atoms (take m atoms) (take (length (take m atoms)) atoms)) differ) same)
            | inr less ↦ let le = leb-true (length (take m atoms)) row.1 less in omega (arith, le, count)
          ];
    }

-- a test of each list of n atoms
abbrev every_list : ℕ → (List Bool → Bool) → Bool
every_list zero test = test []
every_list (suc n) test = every_list n (λ atoms. test (true ∷ atoms)) && every_list n (λ atoms. test (false ∷ atoms))

every_list_at : (n : ℕ) (test : List Bool → Bool) → every_list n test ≡ true → (atoms : List Bool) → length atoms ≡ n → test atoms ≡ true
every_list_at zero test all [] is = all
every_list_at zero test all (a ∷ atoms) is = absurd (omega (arith, is))
every_list_at (suc n) test all [] is = absurd (omega (arith, is))
every_list_at (suc n) test all (true ∷ atoms) is =
    let parts = and_parts (every_list n (λ l. test (true ∷ l))) (every_list n (λ l. test (false ∷ l))) all in
    every_list_at n (λ l. test (true ∷ l)) parts.0 atoms (omega (arith, is))
every_list_at (suc n) test all (false ∷ atoms) is =
    let parts = and_parts (every_list n (λ l. test (true ∷ l))) (every_list n (λ l. test (false ∷ l))) all in
    every_list_at n (λ l. test (false ∷ l)) parts.1 atoms (omega (arith, is))

-- the row of some atoms
abbrev pub row_of : List Bool → ℕ × ℕ
row_of atoms = slice_index_or ROWS (row_from 1 atoms) (0, 0)

-- whether there is a row, and it is that of the longest front
abbrev row_fits : List Bool → Bool
row_fits atoms = nat_lt (row_from 1 atoms) 64 && (spells_front atoms (row_of atoms) && none_longer atoms (row_of atoms).1)

each_fits : (atoms : List Bool) → 0 < length atoms → length atoms ≤ 5 → row_fits atoms ≡ true
unfolding atom_formats
each_fits atoms some few =
    every_list_at (length atoms) row_fits (each_from 1 4 (λ n. every_list n row_fits) refl (length atoms) (omega (arith, some)) (omega (arith, few))) atoms
    refl

pub row_within : (atoms : List Bool) → 0 < length atoms → length atoms ≤ 5 → row_from 1 atoms < 64
row_within atoms some few =
    let parts = and_parts (nat_lt (row_from 1 atoms) 64) (spells_front atoms (row_of atoms) && none_longer atoms (row_of atoms).1)
    (each_fits atoms some few) in
    ltb-true (row_from 1 atoms) 64 parts.0

pub row_is_longest : (atoms : List Bool) → 0 < length atoms → length atoms ≤ 5 → IsLongest atoms (row_of atoms).0 (row_of atoms).1
row_is_longest atoms some few =
    let parts = and_parts (nat_lt (row_from 1 atoms) 64) (spells_front atoms (row_of atoms) && none_longer atoms (row_of atoms).1)
    (each_fits atoms some few) in
    tested atoms (row_of atoms) parts.1

-- ---- format 6

-- how many E stand first
abbrev pub taken_first : List Bool → ℕ
taken_first [] = 0
taken_first (true ∷ atoms) = suc (taken_first atoms)
taken_first (false ∷ atoms) = 0

taken_step : (a : Bool) (atoms : List Bool) → taken_first (a ∷ atoms) ≡ cond (not a) 0 (1 + taken_first atoms)
taken_step true atoms = omega arith
taken_step false atoms = refl

taken_within : (atoms : List Bool) → taken_first atoms ≤ length atoms
taken_within [] = omega arith
taken_within (true ∷ atoms) = let le = taken_within atoms in omega (arith, le)
taken_within (false ∷ atoms) = omega arith

or_all : (test : Bool) (n most : ℕ) → (test ≡ false → n ≡ most) → unwrap_or (cond test (Some n) None) most ≡ n
or_all true n most all = refl
or_all false n most all = sym (all refl)

pub taken_is : (atoms : List Bool) → unwrap_or (position (λ atom. not atom) atoms) (length atoms) ≡ taken_first atoms
taken_is atoms =
    let is : taken_first atoms ≡ position_or_len (λ atom. not atom) atoms = is_position_or_len taken_first (λ atom. not atom) refl taken_step atoms in
    or_all (nat_lt (position_or_len (λ atom. not atom) atoms) (length atoms)) (position_or_len (λ atom. not atom) atoms) (length atoms)
    (λ e.
    let all = ltb-false (position_or_len (λ atom. not atom) atoms) (length atoms) e in
    let le = taken_within atoms in
    omega (arith, is, all, le))
    ∙ sym is

-- atoms behind the first N do not matter for it
taken_of_more : (n : ℕ) (atoms : List Bool) → taken_first atoms < n → n ≤ length atoms → taken_first (take n atoms) ≡ taken_first atoms
taken_of_more zero atoms less within = absurd (omega (arith, less))
taken_of_more (suc n) [] less within = refl
taken_of_more (suc n) (true ∷ atoms) less within = ap suc (taken_of_more n atoms (omega (arith, less)) (omega (arith, within)))
taken_of_more (suc n) (false ∷ atoms) less within = refl

all_taken : (atoms : List Bool) → taken_first atoms ≡ length atoms → atoms ≡ replicate (length atoms) true
all_taken [] all = refl
all_taken (true ∷ atoms) all = ap (λ l. true ∷ l) (all_taken atoms (omega (arith, all)))
all_taken (false ∷ atoms) all = absurd (omega (arith, all))

then_not : (atoms : List Bool) → taken_first atoms < length atoms → take (suc (taken_first atoms)) atoms ≡ replicate (taken_first atoms) true ++ false ∷ []
then_not [] more = absurd (omega (arith, more))
then_not (true ∷ atoms) more = ap (λ l. true ∷ l) (then_not atoms (omega (arith, more)))
then_not (false ∷ atoms) more = refl

-- a packet of more than five atoms begins with E three times
long_begins : (byte : ℕ) (atoms : List Bool) → Spells byte atoms → 5 < length atoms → 3 ≤ taken_first atoms
unfolding atom_formats
long_begins byte atoms spells long =
    elim (or_cases (nat_le (length atoms) 5) (nat_le 3 (taken_first atoms))
    (every_row (λ (b : ℕ) (xs : List Bool). nat_le (length xs) 5 || nat_le 3 (taken_first xs)) refl byte atoms spells)) [
      | inl short ↦ let le = leb-true (length atoms) 5 short in absurd (omega (arith, le, long))
      | inr begins ↦ leb-true 3 (taken_first atoms) begins
    ]

-- and one that begins so has one atom behind the E, or none
ends_soon : (byte : ℕ) (atoms : List Bool) → Spells byte atoms → 3 ≤ taken_first atoms → length atoms ≤ taken_first atoms + 1
unfolding atom_formats
ends_soon byte atoms spells begins =
    elim (or_cases (nat_lt (taken_first atoms) 3) (nat_le (length atoms) (taken_first atoms + 1))
    (every_row (λ (b : ℕ) (xs : List Bool). nat_lt (taken_first xs) 3 || nat_le (length xs) (taken_first xs + 1)) refl byte atoms spells)) [
      | inl other ↦ let less = ltb-true (taken_first atoms) 3 other in absurd (omega (arith, less, begins))
      | inr soon ↦ leb-true (length atoms) (taken_first atoms + 1) soon
    ]

-- where E does not stand three times first, a packet has five of the atoms at most
pub five_at_most : (atoms : List Bool) → taken_first atoms < 3 → (other m : ℕ) → SpellsFront atoms other m → m ≤ 5
five_at_most atoms few other m front =
    elim (cases_lt 5 m) [
      | inl long ↦
          let count : length (take m atoms) ≡ m = length-take-le m atoms front.0 in
          let begins = long_begins other (take m atoms) front.1 (omega (arith, count, long)) in
          let same = taken_of_more m atoms (omega (arith, few, long)) front.0 in
          absurd (omega (arith, begins, same, few))
      | inr less ↦ less
    ]

-- and where it does, one behind the E at most
one_behind : (atoms : List Bool) → 3 ≤ taken_first atoms → (other m : ℕ) → SpellsFront atoms other m → m ≤ taken_first atoms + 1
one_behind atoms begins other m front =
    elim (cases_lt (taken_first atoms) m) [
      | inl more ↦
          let count : length (take m atoms) ≡ m = length-take-le m atoms front.0 in
          let same = taken_of_more m atoms more front.0 in
          let soon = ends_soon other (take m atoms) front.1 (omega (arith, same, begins)) in
          omega (arith, soon, count, same)
      | inr less ↦ omega (arith, less)
    ]

all_e : (n : ℕ) → 4 ≤ n → n ≤ 24 → has_row atom_formats (0xc0 + (n - 4)) (replicate n true) ≡ true
unfolding atom_formats
all_e n least most = each_from 4 20 (λ k. has_row atom_formats (0xc0 + (k - 4)) (replicate k true)) refl n least most

e_then_n : (n : ℕ) → 3 ≤ n → n ≤ 23 → has_row atom_formats (0xe0 + (n - 3)) (replicate n true ++ false ∷ []) ≡ true
unfolding atom_formats
e_then_n n least most = each_from 3 20 (λ k. has_row atom_formats (0xe0 + (k - 3)) (replicate k true ++ false ∷ [])) refl n least most

pub all_is_longest : (atoms : List Bool) → 4 ≤ length atoms → length atoms ≤ 24 → taken_first atoms ≡ length atoms
    → IsLongest atoms (0xc0 + (length atoms - 4)) (length atoms)
all_is_longest atoms least most all =
    let whole : take (length atoms) atoms ≡ replicate (length atoms) true = take-length atoms ∙ all_taken atoms all in
    record {
      front = (
        omega arith,
        subst (Spells (0xc0 + (length atoms - 4))) (sym whole)
            (row_found atom_formats (0xc0 + (length atoms - 4)) (replicate (length atoms) true) (all_e (length atoms) least most)),
      );
      longest = λ other m front. front.0;
    }

pub then_is_longest : (atoms : List Bool) → 3 ≤ taken_first atoms → taken_first atoms < length atoms → length atoms ≤ 24
    → IsLongest atoms (0xe0 + (taken_first atoms - 3)) (suc (taken_first atoms))
then_is_longest atoms least more most =
    record {
      front = (
        omega (arith, more),
        subst (Spells (0xe0 + (taken_first atoms - 3))) (sym (then_not atoms more))
            (row_found atom_formats (0xe0 + (taken_first atoms - 3)) (replicate (taken_first atoms) true ++ false ∷ [])
            (e_then_n (taken_first atoms) least (omega (arith, more, most)))),
      );
      longest = λ other m front. let le = one_behind atoms least other m front in omega (arith, le);
    }

-- ---- the two functions

-- what a loop over few atoms has made of the first of them
abbrev pub RowSoFar : List Bool → ℕ → ℕ → Type 0
RowSoFar atoms i row = row_from row (drop i atoms) ≡ row_from 1 atoms

pub row_small : (atoms : List Bool) (i row : ℕ) → 0 < length atoms → length atoms ≤ 5 → RowSoFar atoms i row → row < 64
row_small atoms i row some few is =
    let more = row_grows row (drop i atoms) in let all = row_within atoms some few in omega (arith, more, all, is)

pub bit_within : (a : Bool) (bit : ℕ) → bit ≡ bool_byte a → bit ≤ 1
bit_within true bit is = omega (arith, is)
bit_within false bit is = omega (arith, is)

row_on : (row : ℕ) (a : Bool) (atoms : List Bool) → row_from row (a ∷ atoms) ≡ row_from (row * 2 + bool_byte a) atoms
row_on row true atoms = refl
row_on row false atoms = refl

pub row_more : (atoms : List Bool) (i row bit : ℕ) → i < length atoms → RowSoFar atoms i row → bit ≡ bool_byte (get_or atoms i false)
    → RowSoFar atoms (i + 1) (row * 2 + bit)
row_more atoms i row bit below is bit_is =
    ap (λ b. row_from (row * 2 + b) (drop (i + 1) atoms)) bit_is ∙ sym (row_on row (get_or atoms i false) (drop (i + 1) atoms))
    ∙ sym (at_drop_more (λ l. row_from row l) atoms i false below) ∙ is

pub row_found_is : (atoms : List Bool) (i row : ℕ) → 0 < length atoms → length atoms ≤ 5 → length atoms ≤ i → RowSoFar atoms i row
    → IsLongest atoms (slice_index_or ROWS row (0, 0)).0 (slice_index_or ROWS row (0, 0)).1
row_found_is atoms i row some few end is =
    let whole : row ≡ row_from 1 atoms = sym (at_drop_all (λ l. row_from row l) atoms i end) ∙ is in
    rw whole (row_is_longest atoms some few)

-- the first 24 atoms, and how many E stand first in them
pub record Front24 (atoms : List Bool) (most taken : ℕ) : Type 0 where
  pub most_is : most ≡ min (length atoms) 24
  pub count : length (take most atoms) ≡ most
  pub taken_is : taken ≡ taken_first (take most atoms)

pub front_24 : (atoms : List Bool) (most taken : ℕ) (place : Option ℕ) → most ≡ min (length atoms) 24
    → place ≡ position (λ atom. not atom) (take most atoms) → taken ≡ unwrap_or place most → Front24 atoms most taken
front_24 atoms most taken place most_is place_is is =
    let count : length (take most atoms) ≡ most = length-take-le most atoms (omega (arith, most_is)) in
    record {
      most_is = most_is;
      count = count;
      taken_is = is ∙ ap (λ o. unwrap_or o most) place_is ∙ ap (λ n. unwrap_or (position (λ atom. not atom) (take most atoms)) n) (sym count)
          ∙ taken_is (take most atoms);
    }

of_front : (atoms : List Bool) (most taken byte n : ℕ) → Front24 atoms most taken → IsLongest (take most atoms) byte n → IsLongest atoms byte n
of_front atoms most taken byte n front is =
    let most_is = front.most_is in
    of_first most atoms byte n (omega (arith, most_is))
    (λ other m spells. let few = (front_within atoms other m spells).1 in let within = spells.0 in omega (arith, few, within, most_is)) is

pub by_table : (atoms : List Bool) (most taken few byte n : ℕ) → Front24 atoms most taken → few ≡ min most 5
    → (most ≤ 5) ⊎ ((5 < most) × (taken < 3)) → IsLongest (take few (take most atoms)) byte n → IsLongest atoms byte n
by_table atoms most taken few byte n front few_is short is =
    let count = front.count in
    let none : (other m : ℕ) → SpellsFront (take most atoms) other m → m ≤ few = λ other m spells.
    let within = spells.0 in
    elim short [
      | inl all ↦ omega (arith, all, few_is, within, count)
      | inr begins ↦
          let five = five_at_most (take most atoms) (omega (arith, begins.1, front.taken_is)) other m spells in omega (arith, five, few_is, begins.0)
    ] in
    of_front atoms most taken byte n front (of_first few (take most atoms) byte n (omega (arith, count, few_is)) none is)

pub by_then : (atoms : List Bool) (most taken : ℕ) → Front24 atoms most taken → 3 ≤ taken → taken < most
    → IsLongest atoms (0xe0 + (taken - 3)) (taken + 1)
by_then atoms most taken front begins more =
    let count = front.count in
    let is = front.taken_is in
    let most_is = front.most_is in
    let one : taken + 1 ≡ suc taken = omega arith in
    rw one
    (of_front atoms most taken (0xe0 + (taken - 3)) (suc taken) front
    (subst (λ k. IsLongest (take most atoms) (0xe0 + (k - 3)) (suc k)) (sym is)
    (then_is_longest (take most atoms) (omega (arith, begins, is)) (omega (arith, more, is, count)) (omega (arith, count, most_is)))))

pub by_all : (atoms : List Bool) (most taken : ℕ) → Front24 atoms most taken → 5 < most → most ≤ taken
    → IsLongest atoms (0xc0 + (taken - 3 - 1)) taken
by_all atoms most taken front many all =
    let count = front.count in
    let is = front.taken_is in
    let most_is = front.most_is in
    let within = taken_within (take most atoms) in
    let whole : length (take most atoms) ≡ taken = omega (arith, within, count, is, all) in
    let byte : taken - 4 ≡ taken - 3 - 1 = omega arith in
    subst (λ k. IsLongest atoms (0xc0 + k) taken) byte
    (of_front atoms most taken (0xc0 + (taken - 4)) taken front
    (subst (λ k. IsLongest (take most atoms) (0xc0 + (k - 4)) k) whole
    (all_is_longest (take most atoms) (omega (arith, count, many)) (omega (arith, count, most_is)) (omega (arith, whole, is)))))
