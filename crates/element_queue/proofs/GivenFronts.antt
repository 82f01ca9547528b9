-- The oldest entries, where an address may have been given before the first, and nothing before the others.
use Rattle.std.proofs.Common.{◌≡◌, ℕ, zero, suc, ◌+◌, ◌-◌, ◌*◌, ◌/◌, ◌%◌, ◌^◌, ◌≤◌, ◌<◌, ◌==◌, Bool, true, false, List, [], ◌∷◌, ◌++◌, length, map, take, drop, Option, None, Some, refl, sym, ap, subst, ◌∙◌, arith, slice_get}
use Rattle.std.proofs.lemmas.List.{length-map, take-map, take-take}
use mir.Val.{bool_byte}
use Rattle.etm_types.specs.Atoms.{atoms_in, low_bits, most_atoms}
use Rattle.etm_types.specs.declared.atoms.AtomRun.{AtomRun}
use Rattle.etm_types.specs.declared.element.Entry.{Entry}
use Rattle.etm_types.specs.declared.element.Thing.{Thing}
use Rattle.etm_types.specs.declared.element.Thing.TheVariants.{Seen}
use Rattle.element_queue.specs.Kept.{NoPlainAt, entries_in}
use Rattle.element_queue.specs.Queued.{BeginsWith, NoPlainAtomAt, entry_of, given_atoms, plain_atom, plain_entry}
use Rattle.element_queue.specs.declared.entries.AtomsAndEntry.{AtomsAndEntry}
use Rattle.element_queue.specs.declared.given_atoms.GivenAtoms.{GivenAtoms}
use Rattle.element_queue.specs.declared.queue.AtomEntry.{AtomEntry}
use Rattle.element_queue.proofs.Held.{things}
use Rattle.element_queue.proofs.LowBits.{low_bits-first, low_bits-take, run_bits}
use Rattle.element_queue.proofs.ManyAtoms.{no_plain_atom, plain_things}

-- where the first entry is no plain atom, the others are those of the runs behind the first
behind : (bits : List Bool) (last x : Entry) (others : List Entry) → NoPlainAt 0 (map plain_entry bits ++ last ∷ others)
    → slice_get (map plain_entry bits ++ last ∷ others) 0 ≡ Some x → map plain_entry bits ++ last ∷ others ≡ x ∷ others
behind [] last x others none is = let same : last ≡ x = cc in ap (λ (e : Entry). e ∷ others) same
behind (taken ∷ bits) last x others none is = absurd (none taken refl)

pub first_then : (runs : List AtomsAndEntry) (plain : List Bool) (x : Entry) → NoPlainAt 0 (entries_in runs plain) → slice_get (entries_in runs plain) 0 ≡ Some x
    → entries_in runs plain ≡ x ∷ entries_in (drop 1 runs) plain
first_then [] [] x none is = absurd cc
first_then [] (taken ∷ plain) x none is = absurd (none taken refl)
first_then (run ∷ runs) plain x none is = behind run.plain run.last x (entries_in runs plain) none is

-- ---- as things that are held

pub things_seen : (unseen : ℕ) (items : List Entry) → unseen ≤ 0 → things unseen items ≡ map Seen items
things_seen zero items none = refl
things_seen (suc n) items none = absurd (omega (arith, none))

-- where all were seen, the oldest is the first entry
pub from_first : (unseen : ℕ) (items : List Entry) (x : Entry) → unseen ≤ 0 → slice_get (things unseen items) 0 ≡ Some (Seen x) → slice_get items 0 ≡ Some x
from_first (suc n) items x none is = absurd (omega (arith, none))
from_first zero [] x none is = absurd cc
from_first zero (y ∷ items) x none is = let same : y ≡ x = cc in ap (λ (z : Entry). Some z) same

first_of_run : (addr : Option ℕ) (count bits : ℕ) (held : List Thing) → given_atoms addr (low_bits count bits) ≡ take count held → 0 < count
    → (taken : Bool) × (slice_get held 0 ≡ Some (Seen (entry_of (record { addr = addr; taken = taken }))))
first_of_run addr zero bits held is some = absurd (omega (arith, some))
first_of_run addr (suc n) bits [] is some = absurd cc
first_of_run addr (suc n) bits (x ∷ held) is some =
    let atom : AtomEntry = record { addr = addr; taken = bits % 2 == 1 } in
    let same : x ≡ Seen (entry_of atom) = cc in (bits % 2 == 1, ap (λ (y : Thing). Some y) same)

-- the first has that address before it
pub begins_first : (given : GivenAtoms) (held : List Thing) → BeginsWith given held
    → (taken : Bool) × (slice_get held 0 ≡ Some (Seen (entry_of (record { addr = given.addr; taken = taken }))))
begins_first given held is = first_of_run given.addr (given.atoms).count (given.atoms).bits held is.atoms is.some

-- ---- an atom before a run

first_bit : (b bit : ℕ) (taken : Bool) → bit ≡ bool_byte taken → ((b * 2 + bit) % 2 == 1) ≡ taken
first_bit b bit true is = let one : (b * 2 + bit) % 2 ≡ 1 = omega (arith, is) in ap (λ (k : ℕ). k == 1) one
first_bit b bit false is = let none : (b * 2 + bit) % 2 ≡ 0 = omega (arith, is) in ap (λ (k : ℕ). k == 1) none

bit_below : (bit : ℕ) (taken : Bool) → bit ≡ bool_byte taken → bit < 2
bit_below bit true is = omega (arith, is)
bit_below bit false is = omega (arith, is)

pub one_before : (k n bits bit : ℕ) (taken : Bool) → k ≤ n → k ≤ 24 → bit ≡ bool_byte taken
    → low_bits (k + 1) (bits % (1 * 2 ^ k % 2 ^ 32) * 2 + bit) ≡ taken ∷ take (k + 1 - 1) (low_bits n bits)
one_before k n bits bit taken within few is =
    let b = bits % (1 * 2 ^ k % 2 ^ 32) in
    let left : k + 1 - 1 ≡ k = omega arith in
    let below = bit_below bit taken is in
    let half : (b * 2 + bit) / 2 ≡ b = omega (arith, below) in
    low_bits-first (k + 1) (b * 2 + bit) (omega arith)
    ∙ ap (λ (t : Bool). t ∷ low_bits (k + 1 - 1) ((b * 2 + bit) / 2)) (first_bit b bit taken is)
    ∙ ap (λ (h : ℕ). taken ∷ low_bits (k + 1 - 1) h) half
    ∙ ap (λ (j : ℕ). taken ∷ low_bits j b) left
    ∙ ap (λ (l : List Bool). taken ∷ l) (ap (low_bits k) (run_bits k bits few) ∙ sym (low_bits-take k n bits within))
    ∙ ap (λ (j : ℕ). taken ∷ take j (low_bits n bits)) (sym left)

-- ---- what the entries begin with

-- plain atoms are atoms before the first of which no address was given
without_address : (atoms : List Bool) → given_atoms None atoms ≡ map plain_atom atoms
without_address [] = refl
without_address (taken ∷ atoms) = refl

pub begins_plain : (run : AtomRun) (items : List Entry) → map plain_entry (atoms_in run) ≡ take run.count items → 0 < run.count
    → run.count ≤ most_atoms → run.count ≤ length items → (run.count < most_atoms → NoPlainAt run.count items)
    → BeginsWith (record { addr = None; atoms = run }) (map Seen items)
begins_plain run items is some most within all =
    record {
      atoms = without_address (atoms_in run) ∙ sym (plain_things (atoms_in run)) ∙ ap (map Seen) is ∙ sym (take-map Seen run.count items);
      some = some;
      most = most;
      within = omega (arith, within, length-map items Seen);
      all = λ less. no_plain_atom run.count 0 items (omega arith) (all less);
    }

-- plain atoms stand behind the first
others_are : (n k : ℕ) (others : List Bool) (items : List Entry) → map plain_entry others ≡ take k items → n ≤ k
    → map plain_atom (take n others) ≡ take n (map Seen items)
others_are n k others items is within =
    sym (plain_things (take n others)) ∙ ap (map Seen) (sym (take-map plain_entry n others) ∙ ap (take n) is ∙ take-take n k items within)
    ∙ sym (take-map Seen n items)

pub begins_given : (addr : Option ℕ) (taken : Bool) (run others : AtomRun) (items : List Entry)
    → atoms_in run ≡ taken ∷ take (run.count - 1) (atoms_in others) → map plain_entry (atoms_in others) ≡ take others.count items
    → others.count ≤ length items → (others.count < most_atoms → NoPlainAt others.count items)
    → 0 < run.count → run.count ≤ most_atoms → run.count ≤ others.count + 1 → (run.count < most_atoms → run.count ≡ others.count + 1)
    → BeginsWith (record { addr = addr; atoms = run }) (map Seen (entry_of (record { addr = addr; taken = taken }) ∷ items))
begins_given addr taken run others items is behind within none some most fewer all =
    let x : Thing = Seen (entry_of (record { addr = addr; taken = taken })) in
    let n = run.count - 1 in
    let count : run.count ≡ suc n = omega (arith, some) in
    record {
      atoms = ap (given_atoms addr) is
          ∙ ap (λ (l : List Thing). x ∷ l) (others_are n others.count (atoms_in others) items behind (omega (arith, fewer)))
          ∙ ap (λ (k : ℕ). take k (x ∷ map Seen items)) (sym count);
      some = some;
      most = most;
      within = omega (arith, within, fewer, length-map items Seen);
      all = λ less.
          let one : run.count ≡ suc others.count = omega (arith, all less) in
          subst (λ (k : ℕ). NoPlainAtomAt k (x ∷ map Seen items)) (sym one)
          (no_plain_atom others.count 0 items (omega arith) (none (omega (arith, one, less))));
    }
