use Rattle.std.proofs.Common.{◌≡◌, ◌≤◌, ◌<◌, ℕ, Bool, true, false, List, ◌++◌, length, take, drop, map, ap, refl, sym, subst, ◌∙◌, arith, inl, inr, length-append}
use Rattle.std.specs.Prelude.{◌↔◌, ◌⊎◌}
use Rattle.std.proofs.lemmas.List.{length-drop, length-map}
use Rattle.etm_types.specs.Atoms.{atoms_in}
use Rattle.etm_types.specs.declared.element.Entry.{Entry}
use Rattle.element_queue.specs.Counting.{Balances, add}
use Rattle.element_queue.specs.Packed.{pre_of_packed}
use Rattle.element_queue.specs.Queued.{IsQueued, Queued, plain_atom, plain_entry}
use Rattle.element_queue.proofs.Balanced.{passed_many}
use Rattle.element_queue.proofs.Held.{queued, things}
use Rattle.element_queue.proofs.LowBits.{low_bits-length}
use Rattle.element_queue.proofs.ManyAtoms.{AreSeen, drop_held, enough, held_behind, plain_held, plain_seen, unseen_first}
use Rattle.element_queue.proofs.queue.Queue.rotate.Goals as goal

-- as many are held as before
same_length : (n : ℕ) (items now : List Entry) (oldest atoms : List Bool) → map plain_entry oldest ≡ take n items → length oldest ≡ n
    → length atoms ≡ n → now ≡ drop n items ++ map plain_entry atoms → length now ≡ length items
same_length n items now oldest atoms e count many is =
    let within = enough n items oldest e count in
    omega (arith, within, many, ap length is, length-append (drop n items) (map plain_entry atoms), length-drop n items, length-map atoms plain_entry)

-- where a run is empty, or all were seen
seen_among : {count n unseen : ℕ} → count ≡ n → (0 < unseen × count ≤ 0) ⊎ (unseen ≤ 0) → AreSeen n unseen
seen_among same (inl (some, none)) = inl (some, omega (arith, same, none))
seen_among same (inr none) = inr none

not_below : (room : Bool) (m n : ℕ) → (room ≡ true) ↔ (m < n) → room ≡ false → n ≤ m
not_below room m n told full = grind (arith, told.1, full)

pub returns-then-has_room-clause-queued : goal.returns-then-has_room-clause-queued
returns-then-has_room-clause-queued c = let i = c.self.invariant in subst IsQueued c.self.view_is (queued _ _ _ _ _ i.1 i.3)

pub returns-then-count-gt0-clause-when : goal.returns-then-count-gt0-clause-when
returns-then-count-gt0-clause-when c =
    let q = c.self.inside in
    rw (← c.self.view_is) (
      λ done. cc,
      λ (full, told, is). absurd (unseen_first c.args.atoms.now.count q.unseen q.entries.items c.if-self-gt0.true
          (omega (arith, c.if-count-gt0.true, c.from-count.ensures)) is),
    )

pub returns-then-count-gt0-clause-queued : goal.returns-then-count-gt0-clause-queued
returns-then-count-gt0-clause-queued c = let i = c.self.invariant in subst IsQueued c.self.view_is (queued _ _ _ _ _ i.1 i.3)

pub returns-then-not-rotate-clause-when : goal.returns-then-not-rotate-clause-when
returns-then-not-rotate-clause-when c =
    let q = c.self.inside in
    rw (← c.self.view_is) (
      λ done. cc,
      λ (full, told, is).
          c.if-not-rotate.ensures.oldest.1
          (plain_seen c.args.atoms.now.count q.unseen q.entries.items (seen_among c.from-count.ensures c.else-self-gt0.either) is),
    )

pub returns-then-not-rotate-clause-queued : goal.returns-then-not-rotate-clause-queued
returns-then-not-rotate-clause-queued c =
    let i = c.self.invariant in rw (c.rotate.ensures.unchanged c.if-not-rotate.true) (queued _ _ _ _ _ i.1 i.3)

pub invariant_of-self-2 : goal.invariant_of-self-2
invariant_of-self-2 c =
    let i = c.self.invariant in
    let q = c.self.inside in
    let run = c.args.atoms.now in
    let now = c.if-not-rotate.ensures.rotated refl in
    let oldest = c.if-not-rotate.ensures.oldest.0 refl in
    let count = low_bits-length run.count run.bits in
    let same =
    same_length run.count q.entries.items c.rotate.new.self.items oldest.0 (atoms_in run) oldest.1 oldest.2 count (ap (λ k. k.items) now) in (
      ap (λ k. k.capacity) now ∙ i.0,
      omega (arith, same, i.1),
      i.2,
      subst (Balances c.count_passed.new.self) (sym same) (passed_many _ _ _ _ c.count_passed.ensures i.3),
    )

pub returns-clause-rotated : goal.returns-clause-rotated
returns-clause-rotated c ok =
    let q = c.self.inside in
    let run = c.args.atoms.now in
    let atoms = atoms_in run in
    let count : run.count ≡ length atoms = sym (low_bits-length run.count run.bits) in
    let items = ap (λ k. k.items) (c.if-not-rotate.ensures.rotated refl) in
    let held = ap (things q.unseen) items ∙ held_behind q.unseen (drop run.count q.entries.items) atoms
    ∙ ap (λ l. l ++ map plain_atom atoms) (sym (drop_held run.count q.unseen q.entries.items (seen_among c.from-count.ensures c.else-self-gt0.either)))
    ∙ ap (λ n. drop n (things q.unseen q.entries.items) ++ map plain_atom atoms) count in
    let counts = c.count_passed.ensures
    ∙ ap (λ n. record (q.ledger) { made = add q.ledger.made n; committed = add q.ledger.committed n }) (c.from-count.ensures ∙ count) in
    rw (← c.self.view_is) (λ k. record { held = held k; pre = pre_of_packed q.next; depth = q.depth; counts = counts k })

pub returns-clause-when : goal.returns-clause-when
returns-clause-when c =
    let q = c.self.inside in
    let full = not_below c.has_room.result _ _ c.has_room.ensures c.if-has_room.false in
    rw (← c.self.view_is) (
      λ done. (
        subst (λ (v : Queued). v.depth ≤ length v.held) (sym c.self.view_is) full,
        c.is_nothing_told.ensures.0 c.if-not-is_nothing_told.false,
        plain_held c.args.atoms.now.count q.unseen q.entries.items (seen_among c.from-count.ensures c.else-self-gt0.either)
            (c.if-not-rotate.ensures.oldest.0 refl),
      ),
      λ is. refl,
    )

pub returns-clause-queued : goal.returns-clause-queued
returns-clause-queued c =
    let i = c.self.invariant in
    let q = c.self.inside in
    let run = c.args.atoms.now in
    let now = c.if-not-rotate.ensures.rotated refl in
    let oldest = c.if-not-rotate.ensures.oldest.0 refl in
    let count = low_bits-length run.count run.bits in
    let same =
    same_length run.count q.entries.items c.rotate.new.self.items oldest.0 (atoms_in run) oldest.1 oldest.2 count (ap (λ k. k.items) now) in
    queued _ _ _ _ _ (omega (arith, same, i.1)) (subst (Balances c.count_passed.new.self) (sym same) (passed_many _ _ _ _ c.count_passed.ensures i.3))
