-- Atoms as elements, and what stands after them.
use Rattle.std.proofs.Common.{◌≡◌, ◌≢◌, ℕ, zero, suc, ◌+◌, ◌-◌, ◌/◌, ◌%◌, ◌^◌, ◌<◌, ◌≤◌, ◌==◌, Bool}
use Rattle.std.proofs.Common.{List, [], ◌∷◌, ◌++◌, drop, length, slice_get, Some, All, refl, sym, ap, ◌∙◌, arith, inl, inr}
use Rattle.std.proofs.lemmas.Bool.Decides.{leb_tells}
use Rattle.std.proofs.lemmas.Nat.{shr-shr}
use Rattle.std.proofs.lemmas.List.Elements.{All-nil, All-cons}
use Rattle.std.proofs.Math.Nat.{div-one}
use Rattle.etm_types.specs.declared.element.Elem.{Elem}
use Rattle.etm_types.specs.declared.element.Elem.TheVariants as elem
use Rattle.etm_types.specs.declared.element.P0.TheVariants as p0
use Rattle.etm_types.specs.Atoms.{low_bits}
use Rattle.path_elements.specs.Elements.{atoms}
use Rattle.path_elements.specs.Held.{IsElem, elem_of, rest_in}
use Rattle.path_elements.specs.declared.elems.Kind.{Kind}
use Rattle.path_elements.specs.declared.elems.Kind.TheVariants as kind
use Rattle.path_elements.specs.declared.elems.Rest.{Rest}
use Rattle.path_elements.specs.declared.elems.Rest.TheVariants as rest
use Rattle.path_elements.specs.declared.elems.Values.{Values}

pub count_all : (n bits : ℕ) (rest : List Elem) → length (atoms (low_bits n bits) ++ rest) ≡ n + length rest
count_all zero bits rest = omega arith
count_all (suc n) bits rest = let upper : length (atoms (low_bits n (bits / 2)) ++ rest) ≡ n + length rest = count_all n (bits / 2) rest in omega
    (arith, upper)

-- an atom is the bit at its place
pub atom_at : (n bits i : ℕ) (rest : List Elem) → i < n
    → slice_get (atoms (low_bits n bits) ++ rest) i ≡ Some (elem.P0 (p0.Atom (bits / 2 ^ i % 2 == 1)))
atom_at zero bits i rest below = absurd (omega arith)
atom_at (suc n) bits zero rest below = ap (λ (b : ℕ). Some (elem.P0 (p0.Atom (b % 2 == 1)))) (sym (div-one bits))
atom_at (suc n) bits (suc i) rest below =
    let half : bits / 2 / 2 ^ i ≡ bits / 2 ^ (1 + i) = shr-shr bits 1 i in
    let same : 1 + i ≡ suc i = omega arith in
    atom_at n (bits / 2) i rest (omega arith)
    ∙ ap (λ (b : ℕ). Some (elem.P0 (p0.Atom (b % 2 == 1)))) (half ∙ ap (λ (j : ℕ). bits / 2 ^ j) same)

-- fewer atoms stand before others
front_atoms : (n bits m : ℕ) (rest : List Elem) → m ≤ n
    → (others : List Elem) × (atoms (low_bits n bits) ++ rest ≡ atoms (low_bits m bits) ++ others)
front_atoms n bits zero rest few = (atoms (low_bits n bits) ++ rest, refl)
front_atoms zero bits (suc m) rest few = absurd (omega arith)
front_atoms (suc n) bits (suc m) rest few =
    let behind = front_atoms n (bits / 2) m rest (omega arith) in
    (behind.0, ap (λ (l : List Elem). elem.P0 (p0.Atom (bits % 2 == 1)) ∷ l) behind.1)

-- and so do those from a place on
pub atoms_behind : (n bits i m : ℕ) (rest : List Elem) → i + m ≤ n
    → (others : List Elem) × (drop i (atoms (low_bits n bits) ++ rest) ≡ atoms (low_bits m (bits / 2 ^ i)) ++ others)
atoms_behind n bits zero m rest few =
    let front = front_atoms n bits m rest (omega (arith, few)) in
    (front.0, front.1 ∙ ap (λ (b : ℕ). atoms (low_bits m b) ++ front.0) (sym (div-one bits)))
atoms_behind zero bits (suc i) m rest few = absurd (omega arith)
atoms_behind (suc n) bits (suc i) m rest few =
    let half : bits / 2 / 2 ^ i ≡ bits / 2 ^ (1 + i) = shr-shr bits 1 i in
    let same : 1 + i ≡ suc i = omega arith in
    let behind = atoms_behind n (bits / 2) i m rest (omega arith) in
    (behind.0, behind.1 ∙ ap (λ (b : ℕ). atoms (low_bits m b) ++ behind.0) (half ∙ ap (λ (j : ℕ). bits / 2 ^ j) same))

pub after_atoms : (n bits i : ℕ) (rest : List Elem) → n ≤ i → slice_get (atoms (low_bits n bits) ++ rest) i ≡ slice_get rest (i - n)
after_atoms zero bits i rest past = let all : i - 0 ≡ i = omega arith in rw all refl
after_atoms (suc n) bits zero rest past = absurd (omega arith)
after_atoms (suc n) bits (suc i) rest past =
    let same : suc i - suc n ≡ i - n = omega arith in
    rw same (after_atoms n (bits / 2) i rest (omega arith))

pub atoms_are_elements : (taken : List Bool) → All IsElem (atoms taken)
atoms_are_elements [] = All-nil IsElem
atoms_are_elements (t ∷ taken) = All-cons IsElem (elem.P0 (p0.Atom t)) (atoms taken) tt (atoms_are_elements taken)

-- no kind is that of an atom, so none stands behind so many atoms
no_atom : (values : Values) (k : Kind) (taken : Bool) → elem_of values k ≡ elem.P0 (p0.Atom taken) → ⊥
no_atom values kind.Info taken is = cc
no_atom values kind.On taken is = cc
no_atom values kind.Ctx taken is = cc
no_atom values kind.Addr taken is = cc
no_atom values kind.Exc taken is = cc
no_atom values kind.Commit taken is = cc
no_atom values kind.Cancel taken is = cc
no_atom values kind.Flip taken is = cc
no_atom values kind.Overflow taken is = cc
no_atom values kind.Discard taken is = cc

no_atom_behind : (r : Rest) (values : Values) (i : ℕ) (taken : Bool) → slice_get (rest_in r values) i ≡ Some (elem.P0 (p0.Atom taken)) → ⊥
no_atom_behind rest.Nothing values i taken is = cc
no_atom_behind (rest.One k) values zero taken is = no_atom values k taken cc
no_atom_behind (rest.One k) values (suc i) taken is = cc
no_atom_behind (rest.Two j k) values zero taken is = no_atom values j taken cc
no_atom_behind (rest.Two j k) values (suc zero) taken is = no_atom values k taken cc
no_atom_behind (rest.Two j k) values (suc (suc i)) taken is = cc
no_atom_behind (rest.Three i j k) values zero taken is = no_atom values i taken cc
no_atom_behind (rest.Three i j k) values (suc zero) taken is = no_atom values j taken cc
no_atom_behind (rest.Three i j k) values (suc (suc zero)) taken is = no_atom values k taken cc
no_atom_behind (rest.Three i j k) values (suc (suc (suc n))) taken is = cc

pub no_atom_from : (n bits i : ℕ) (r : Rest) (values : Values) (taken : Bool) → n ≤ i
    → slice_get (atoms (low_bits n bits) ++ rest_in r values) i ≢ Some (elem.P0 (p0.Atom taken))
no_atom_from n bits i r values taken past is = no_atom_behind r values (i - n) taken (sym (after_atoms n bits i (rest_in r values) past) ∙ is)

-- so an atom stands among the first so many
atom_within : (n bits i : ℕ) (r : Rest) (values : Values) (taken : Bool)
    → slice_get (atoms (low_bits n bits) ++ rest_in r values) i ≡ Some (elem.P0 (p0.Atom taken)) → i < n
atom_within n bits i r values taken is = elim (leb_tells n i) [
  | inl past ↦ absurd (no_atom_from n bits i r values taken past.1 is)
  | inr below ↦ below.1
]

-- and so do all of some atoms
pub atoms_within : (n bits i m : ℕ) (r : Rest) (values : Values) (now : List Elem) → atoms (low_bits n bits) ++ rest_in r values ≡ now → 0 < m
    → ((k : ℕ) → k < m → (taken : Bool) × (slice_get now (i + k) ≡ Some (elem.P0 (p0.Atom taken)))) → i + m ≤ n
atoms_within n bits i m r values now shown some all =
    let last = all (m - 1) (omega (arith, some)) in
    let within = atom_within n bits (i + (m - 1)) r values last.0 (ap (λ (xs : List Elem). slice_get xs (i + (m - 1))) shown ∙ last.1) in
    omega (arith, within, some)
