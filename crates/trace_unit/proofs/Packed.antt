-- Packed atoms: the longest front, its byte, and that each packet of atoms has a spelling.
use Rattle.std.proofs.Common.{◌≡◌, ℕ, zero, suc, ◌+◌, ◌*◌, ◌/◌, ◌%◌, ◌^◌, ◌<◌, ◌≤◌, Bool, true, false, List, [], ◌∷◌, length, take, drop}
use Rattle.std.proofs.Common.{if◌then◌else◌, nat_le, refl, sym, ap, subst, ◌∙◌, inl, inr, arith}
use Rattle.std.specs.Prelude.{All, is_some, ◌&&◌}
use Rattle.std.proofs.Math.Nat.{pow-suc}
use Rattle.std.proofs.lemmas.Bool.{and_parts, cases_lt, eq-eqb, leb-true, le-leb, ne_eqb}
use Rattle.std.proofs.lemmas.List.{length-take-le}
use Rattle.std.proofs.lemmas.List.Elements.{All-cons, All-nil}
use Rattle.etm_types.specs.Atoms.{IsAtomRun, atoms_in, low_bits}
use Rattle.etm_types.specs.Settings.{Sizes}
use Rattle.atom_formats.specs.Bytes.{byte_of}
use Rattle.atom_formats.specs.Formats.{Spells as TellsAtoms}
use Rattle.atom_formats.proofs.Bytes.{byte_found, byte_tells, is_there, one_byte}
use Rattle.atom_formats.proofs.Rows.{runs_are_short}
use Rattle.packet_grammar.specs.declared.packet.Packet.TheVariants as packet
use Rattle.packet_writer.specs.Fitting.{HasSpelling}
use Rattle.packet_writer.specs.Front.{SpellsFront}
use Rattle.packet_writer.specs.Spelling.{spelling}
use Rattle.packet_writer.proofs.Having.{spelled_where_fits}
use Rattle.packet_writer.proofs.Spelled.{byte_told}
use Rattle.trace_unit.specs.Packets.{bits_of, front_packet, packed, packed_within, run_of}
use Rattle.trace_unit.specs.Packing.{longest, longest_within}

-- ---- the atoms of a run

-- the lowest bit put below the others
one_bit : (a : Bool) (b n : ℕ) → low_bits (suc n) ((if a then 1 else 0) + 2 * b) ≡ a ∷ low_bits n b
one_bit true b n =
    let bit = eq-eqb ((1 + 2 * b) % 2) 1 (omega arith) in
    let rest : (1 + 2 * b) / 2 ≡ b = omega arith in
    ap (λ (x : Bool). x ∷ low_bits n ((1 + 2 * b) / 2)) bit ∙ ap (λ k. true ∷ low_bits n k) rest
one_bit false b n =
    let bit = ne_eqb ((0 + 2 * b) % 2) 1 (λ e. omega (arith, e)) in
    let rest : (0 + 2 * b) / 2 ≡ b = omega arith in
    ap (λ (x : Bool). x ∷ low_bits n ((0 + 2 * b) / 2)) bit ∙ ap (λ k. false ∷ low_bits n k) rest

pub bits_are : (atoms : List Bool) → atoms_in (run_of atoms) ≡ atoms
bits_are [] = refl
bits_are (a ∷ atoms) = one_bit a (bits_of atoms) (length atoms) ∙ ap (λ l. a ∷ l) (bits_are atoms)

bits_below : (atoms : List Bool) → bits_of atoms < 2 ^ length atoms
bits_below [] = omega arith
bits_below (true ∷ atoms) = let less = bits_below atoms in let two = pow-suc 2 (length atoms) in omega (arith, less, two)
bits_below (false ∷ atoms) = let less = bits_below atoms in let two = pow-suc 2 (length atoms) in omega (arith, less, two)

-- ---- the longest front

pub record IsFront (most n : ℕ) (atoms : List Bool) : Type 0 where
  pub byte : is_some (byte_of (take n atoms)) ≡ true
  pub some : 1 ≤ n
  pub within : n ≤ length atoms
  pub few : n ≤ most + 1

front_by : (test : Bool) (n rest : ℕ) (atoms : List Bool)
    → (test ≡ true → (nat_le (n + 2) (length atoms) ≡ true) × (is_some (byte_of (take (n + 2) atoms)) ≡ true)) → IsFront n rest atoms
    → IsFront (suc n) (if test then n + 2 else rest) atoms
front_by true n rest atoms parts is =
    let p = parts refl in record { byte = p.1; some = omega arith; within = leb-true (n + 2) (length atoms) p.0; few = omega arith }
front_by false n rest atoms parts is = record { byte = is.byte; some = is.some; within = is.within; few = omega (arith, is.few) }

front_within : (n : ℕ) (a : Bool) (atoms : List Bool) → IsFront n (longest_within n (a ∷ atoms)) (a ∷ atoms)
front_within zero a atoms = record { byte = one_byte a; some = omega arith; within = omega arith; few = omega arith }
front_within (suc n) a atoms =
    let fits = nat_le (n + 2) (length (a ∷ atoms)) in
    let told = is_some (byte_of (take (n + 2) (a ∷ atoms))) in
    front_by (fits && told) n (longest_within n (a ∷ atoms)) (a ∷ atoms) (λ t. and_parts fits told t) (front_within n a atoms)

pub longest_front : (a : Bool) (atoms : List Bool) → IsFront 23 (longest (a ∷ atoms)) (a ∷ atoms)
longest_front a atoms = front_within 23 a atoms

both_true : (a b : Bool) → a ≡ true → b ≡ true → (a && b) ≡ true
both_true true b e f = f
both_true false b e f = absurd cc

none_longer : (n k : ℕ) (atoms : List Bool) → k ≤ n + 1 → is_some (byte_of (take k atoms)) ≡ true → k ≤ length atoms → k ≤ longest_within n atoms
none_longer zero k atoms le some within = le
none_longer (suc n) k atoms le some within =
    let fits = nat_le (n + 2) (length atoms) in
    let told = is_some (byte_of (take (n + 2) atoms)) in
    by (fits && told)
    (λ e. both_true fits told (le-leb (n + 2) (length atoms) (omega (arith, e, within))) (subst (λ m. is_some (byte_of (take m atoms)) ≡ true) e some))
    (λ less. none_longer n k atoms less some within)
  where
    by : (test : Bool) → (k ≡ n + 2 → test ≡ true) → (k ≤ n + 1 → k ≤ longest_within n atoms) → k ≤ (if test then n + 2 else longest_within n atoms)
    by true there later = omega (arith, le)
    by false there later = elim (cases_lt k (n + 2)) [
      | inl less ↦ later (omega (arith, less))
      | inr more ↦ absurd (let e = there (omega (arith, more, le)) in cc)
    ]

-- ---- what is written for the longest front

front_run : (n : ℕ) (atoms : List Bool) (byte : ℕ) → TellsAtoms byte (take n atoms) → TellsAtoms byte (atoms_in (run_of (take n atoms)))
front_run n atoms byte tells = subst (TellsAtoms byte) (sym (bits_are (take n atoms))) tells

run_written : (s : Sizes) (atoms : List Bool) (byte : ℕ) → TellsAtoms byte atoms → spelling s (packet.Atoms (run_of atoms)) ≡ byte ∷ []
run_written s atoms byte tells =
    ap (λ b. b ∷ []) (byte_told byte (run_of atoms) (subst (TellsAtoms byte) (sym (bits_are atoms)) tells))

-- what a search for the longest front finds ..
pub front_is : (atoms : List Bool) (byte n : ℕ) → SpellsFront atoms byte n → ((b m : ℕ) → SpellsFront atoms b m → m ≤ n) → n ≡ longest atoms
front_is [] byte n spells most =
    let short = runs_are_short byte (take n []) spells.1 in
    let many : length (take {A = Bool} n []) ≡ n = length-take-le {A = Bool} n [] spells.0 in
    absurd (omega (arith, short.0, many, spells.0))
front_is (a ∷ atoms) byte n spells most =
    let all = a ∷ atoms in
    let is = longest_front a atoms in
    let there = is_there (byte_of (take (longest all) all)) is.byte in
    let le = most there.0 (longest all) (is.within, byte_tells (take (longest all) all) there.0 there.1) in
    let short = runs_are_short byte (take n all) spells.1 in
    let few : n ≤ 23 + 1 = omega (arith, short.1, length-take-le n all spells.0) in
    let ge = none_longer 23 n all few (ap is_some (byte_found (take n all) byte spells.1)) spells.0 in
    omega (arith, le, ge)

-- .. is what is written for it
pub front_written : (s : Sizes) (atoms : List Bool) (byte n : ℕ) → n ≡ longest atoms → SpellsFront atoms byte n → spelling s (front_packet atoms) ≡ byte ∷ []
front_written s atoms byte n is spells =
    run_written s (take (longest atoms) atoms) byte (subst (λ m. TellsAtoms byte (take m atoms)) is spells.1)

-- ---- each packet has a spelling

run_spelled : (s : Sizes) (atoms : List Bool) → is_some (byte_of atoms) ≡ true → HasSpelling s (packet.Atoms (run_of atoms))
run_spelled s atoms some =
    let there = is_there (byte_of atoms) some in
    let tells = byte_tells atoms there.0 there.1 in
    let short = runs_are_short there.0 atoms tells in
    let is : IsAtomRun (run_of atoms) = record { some = short.0; most = short.1; bits = bits_below atoms } in
    (spelled_where_fits s (packet.Atoms (run_of atoms))).1 (is, (there.0, subst (TellsAtoms there.0) (sym (bits_are atoms)) tells))

pub front_spelled : (s : Sizes) (atoms : List Bool) → 1 ≤ length atoms → HasSpelling s (front_packet atoms)
front_spelled s [] some = absurd (omega (arith, some))
front_spelled s (a ∷ atoms) some = run_spelled s (take (longest (a ∷ atoms)) (a ∷ atoms)) (longest_front a atoms).byte

within_spelled : (s : Sizes) (n : ℕ) (atoms : List Bool) → All (HasSpelling s) (packed_within n atoms)
within_spelled s zero atoms = All-nil (HasSpelling s)
within_spelled s (suc n) [] = All-nil (HasSpelling s)
within_spelled s (suc n) (a ∷ atoms) =
    let rest = drop (longest (a ∷ atoms)) (a ∷ atoms) in
    All-cons (HasSpelling s) (front_packet (a ∷ atoms)) (packed_within n rest) (front_spelled s (a ∷ atoms) (omega arith)) (within_spelled s n rest)

pub packed_spelled : (s : Sizes) (atoms : List Bool) → All (HasSpelling s) (packed atoms)
packed_spelled s atoms = within_spelled s (length atoms) atoms
