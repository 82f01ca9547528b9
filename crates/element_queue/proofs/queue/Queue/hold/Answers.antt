use Rattle.std.proofs.Common.{◌≡◌, ℕ, Bool, List, ◌+◌, ◌++◌, length, map, ap, sym, subst, ◌∙◌, arith, length-append}
use Rattle.std.proofs.lemmas.List.{length-map}
use Rattle.etm_types.specs.Atoms.{atoms_in}
use Rattle.etm_types.specs.declared.element.Entry.{Entry}
use Rattle.element_queue.specs.Counting.{add}
use Rattle.element_queue.specs.Packed.{pre_of_packed}
use Rattle.element_queue.specs.Queued.{IsQueued, plain_entry}
use Rattle.element_queue.proofs.Balanced.{made_many}
use Rattle.element_queue.proofs.Held.{length-things, queued, things}
use Rattle.element_queue.proofs.LowBits.{low_bits-length}
use Rattle.element_queue.proofs.ManyAtoms.{held_behind}
use Rattle.element_queue.proofs.queue.Queue.hold.Goals as goal

longer : (n : ℕ) (items now : List Entry) (atoms : List Bool) → length atoms ≡ n → now ≡ items ++ map plain_entry atoms → length now ≡ length items + n
longer n items now atoms many is = omega (arith, many, ap length is, length-append items (map plain_entry atoms), length-map atoms plain_entry)

pub returns-then-self-held-clause-queued : goal.returns-then-self-held-clause-queued
returns-then-self-held-clause-queued c = let i = c.self.invariant in subst IsQueued c.self.view_is (queued _ _ _ _ _ i.1 i.3)

pub invariant_of-self : goal.invariant_of-self
invariant_of-self c =
    let i = c.self.invariant in
    let q = c.self.inside in
    let run = c.args.atoms.now in
    let now = c.append_run.ensures in
    let more = longer run.count q.entries.items c.append_run.new.self.items (atoms_in run) (low_bits-length run.count run.bits) (ap (λ k. k.items) now) in
    let size = length-things q.unseen q.entries.items in
    let view = ap (λ v. length v.held) c.self.view_is in
    let depth = ap (λ v. v.depth) c.self.view_is in (
      ap (λ k. k.capacity) now ∙ i.0,
      omega (arith, more, i.1, size, view, depth, c.held.ensures.value, c.from-count.ensures, c.if-self-held.false),
      i.2,
      made_many _ _ _ _ _ c.count_all_made.ensures (omega (arith, more, c.from-count.ensures)) i.3,
    )

pub returns-clause-holding : goal.returns-clause-holding
returns-clause-holding c ok =
    let q = c.self.inside in
    let run = c.args.atoms.now in
    let atoms = atoms_in run in
    let held = ap (λ k. things q.unseen k.items) c.append_run.ensures ∙ held_behind q.unseen q.entries.items atoms in
    let counts = c.count_all_made.ensures
    ∙ ap (λ n. record (q.ledger) { made = add q.ledger.made n }) (c.from-count.ensures ∙ sym (low_bits-length run.count run.bits)) in
    rw (← c.self.view_is) (λ k. record { held = held k; pre = pre_of_packed q.next; depth = q.depth; counts = counts k })

pub returns-clause-queued : goal.returns-clause-queued
returns-clause-queued c =
    let i = c.self.invariant in
    let q = c.self.inside in
    let run = c.args.atoms.now in
    let now = c.append_run.ensures in
    let more = longer run.count q.entries.items c.append_run.new.self.items (atoms_in run) (low_bits-length run.count run.bits) (ap (λ k. k.items) now) in
    let size = length-things q.unseen q.entries.items in
    let view = ap (λ v. length v.held) c.self.view_is in
    let depth = ap (λ v. v.depth) c.self.view_is in
    queued _ _ _ _ _ (omega (arith, more, i.1, size, view, depth, c.held.ensures.value, c.from-count.ensures, c.if-self-held.false))
    (made_many _ _ _ _ _ c.count_all_made.ensures (omega (arith, more, c.from-count.ensures)) i.3)
