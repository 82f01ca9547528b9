use Rattle.std.proofs.Common.{◌≡◌, ◌≤◌, ◌+◌, ◌-◌, ℕ, Bool, List, ◌++◌, arith, ap, drop, length, length-append, length-drop, map, sym, ◌∙◌}
use Rattle.std.proofs.lemmas.List.{length-map}
use Rattle.etm_types.specs.Atoms.{low_bits}
use Rattle.element_queue.specs.Counting.{Balances, add}
use Rattle.element_queue.specs.Kept.{Kept}
use Rattle.element_queue.specs.Packed.{pre_of_packed}
use Rattle.element_queue.specs.Queued.{Queued, plain_atom, plain_entry}
use Rattle.element_queue.proofs.Balanced.{settled_counts, settled_many}
use Rattle.element_queue.proofs.Held.{queued}
use Rattle.element_queue.proofs.LowBits.{low_bits-length}
use Rattle.element_queue.proofs.ManyAtoms.{all_held, all_seen}
use Rattle.element_queue.proofs.queue.Queue.settle.Goals as goal

-- how many are left behind the oldest
left : (gone held : List Bool) (n count bits : ℕ) → low_bits count bits ≡ drop n (gone ++ held) → count ≡ length gone + length held - n
left gone held n count bits is =
    omega (arith, low_bits-length count bits, ap length is, length-drop n (gone ++ held), length-append gone held)

pub become_plain-requires-clause-plain : goal.become_plain-requires-clause-plain
become_plain-requires-clause-plain c =
    let q = c.self.inside in
    let atoms = c.requires.plain.0 in
    let seen = all_seen q.unseen q.entries.items atoms (c.requires.plain.1 ∙ sym (ap (λ (v : Queued). v.held) c.self.view_is)) in
    (atoms, seen.1)

pub become_plain-requires-clause-few : goal.become_plain-requires-clause-few
become_plain-requires-clause-few c =
    let o = c.args.outlook.now in
    let size = left o.gone o.held c.args.n c.behind-bits.result.1 c.behind-bits.result.0 c.behind-bits.ensures.atoms in
    omega (arith, size, c.requires.few, ap (λ (v : Queued). v.depth) c.self.view_is, c.self.invariant.0)

-- what is held and counted then
record Settled (c : goal.After-count_all_cancelled) : Type 0 where
  none : c.self.inside.unseen ≡ 0
  few : length c.become_plain.new.self.items ≤ c.self.inside.depth
  counts : c.count_all_cancelled.new.self ≡ record (c.self.inside.ledger) {
    made = add (c.self.inside.ledger).made c.tries-made.result.0;
    committed = add (c.self.inside.ledger).committed c.args.n;
    cancelled = add (c.self.inside.ledger).cancelled c.tries-made.result.1;
  }
  balanced : Balances c.count_all_cancelled.new.self (length c.become_plain.new.self.items)

settles : (c : goal.After-count_all_cancelled) → Settled c
settles c =
    let q = c.self.inside in
    let o = c.args.outlook.now in
    let atoms = c.requires.plain.0 in
    let seen = all_seen q.unseen q.entries.items atoms (c.requires.plain.1 ∙ sym (ap (λ (v : Queued). v.held) c.self.view_is)) in
    let bits = c.behind-bits.result in
    let size = left o.gone o.held c.args.n bits.1 bits.0 c.behind-bits.ensures.atoms in
    let before : length o.gone + length o.held + c.tries-made.result.1 ≡ length q.entries.items + c.tries-made.result.0 =
    omega (
      arith,
      c.tries-made.ensures.balanced,
      c.tries-made.ensures.tries.0,
      c.tries-made.ensures.tries.1,
      c.requires.before,
      ap length c.requires.plain.1,
      length-map atoms plain_atom,
      ap length seen.1,
      length-map atoms plain_entry,
    ) in
    let count : length c.become_plain.new.self.items ≡ length o.gone + length o.held - c.args.n =
    omega (
      arith,
      size,
      ap (λ (k : Kept). length k.items) c.become_plain.ensures,
      length-map (low_bits bits.1 bits.0) plain_entry,
      low_bits-length bits.1 bits.0,
    ) in
    let counts = settled_counts q.ledger c.count_all_made.new.self c.count_all_committed.new.self c.count_all_cancelled.new.self
    c.tries-made.result.0 c.args.n c.tries-made.result.1 c.count_all_made.ensures c.count_all_committed.ensures c.count_all_cancelled.ensures in
    let all : length c.become_plain.new.self.items + c.args.n + c.tries-made.result.1 ≡ length q.entries.items + c.tries-made.result.0 =
    omega (arith, count, before, c.requires.within) in
    record {
      none = seen.0;
      few = omega (arith, count, c.requires.few, ap (λ (v : Queued). v.depth) c.self.view_is);
      counts = counts;
      balanced = settled_many q.ledger c.count_all_cancelled.new.self c.tries-made.result.0 c.args.n c.tries-made.result.1
          (length q.entries.items) (length c.become_plain.new.self.items) counts all c.self.invariant.3;
    }

pub invariant_of-self : goal.invariant_of-self
invariant_of-self c =
    let s = settles c in (
      ap (λ (k : Kept). k.capacity) c.become_plain.ensures ∙ c.self.invariant.0,
      omega (arith, s.none, s.few),
      c.self.invariant.2,
      s.balanced,
    )

pub returns-clause-value : goal.returns-clause-value
returns-clause-value c =
    let q = c.self.inside in
    let o = c.args.outlook.now in
    let s = settles c in
    let left = drop c.args.n (o.gone ++ o.held) in
    let items : map plain_entry left ≡ c.become_plain.new.self.items =
    ap (map plain_entry) (sym c.behind-bits.ensures.atoms) ∙ sym (ap (λ (k : Kept). k.items) c.become_plain.ensures) in
    let held = sym (all_held q.unseen c.become_plain.new.self.items left (omega (arith, s.none)) items) in
    let counts = s.counts ∙ ap (λ (m : ℕ). record (q.ledger) {
      made = add (q.ledger).made m;
      committed = add (q.ledger).committed c.args.n;
      cancelled = add (q.ledger).cancelled c.tries-made.result.1;
    }) c.tries-made.ensures.tries.0 ∙ ap (λ (m : ℕ). record (q.ledger) {
      made = add (q.ledger).made o.made;
      committed = add (q.ledger).committed c.args.n;
      cancelled = add (q.ledger).cancelled m;
    }) c.tries-made.ensures.tries.1 in
    rw (← c.self.view_is) (λ k. record { held = held k; pre = pre_of_packed q.next; depth = q.depth; counts = counts k })

pub returns-clause-queued : goal.returns-clause-queued
returns-clause-queued c =
    let s = settles c in queued _ _ _ _ _ (omega (arith, s.none, s.few)) s.balanced
