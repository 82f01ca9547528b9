use Rattle.std.proofs.Common.{◌≡◌, length, take, ap, refl, sym, subst, ◌∙◌, arith}
use Rattle.std.proofs.lemmas.List.{length-drop}
use Rattle.element_queue.specs.declared.ledger.Counts.{Counts}
use Rattle.element_queue.specs.Counting.{counts_after}
use Rattle.element_queue.specs.Packed.{pre_of_packed}
use Rattle.element_queue.specs.Pending.{committing}
use Rattle.element_queue.specs.Queued.{IsQueued}
use Rattle.element_queue.proofs.Balanced.{committed_many, same_counts}
use Rattle.element_queue.proofs.Held.{queued, things}
use Rattle.element_queue.proofs.ManyAtoms.{drop_held, enough, entries_taken, plain_held, plain_seen, unseen_first}
use Rattle.element_queue.proofs.queue.Queue.commit_plain.Goals as goal

pub returns-then-n-gt0-clause-when : goal.returns-then-n-gt0-clause-when
returns-then-n-gt0-clause-when c =
    let q = c.self.inside in
    rw (← c.self.view_is) (λ done. cc, λ is. absurd (unseen_first c.args.n q.unseen q.entries.items c.if-self-gt0.true c.if-n-gt0.true is))

pub returns-then-n-gt0-clause-queued : goal.returns-then-n-gt0-clause-queued
returns-then-n-gt0-clause-queued c = let i = c.self.invariant in subst IsQueued c.self.view_is (queued _ _ _ _ _ i.1 i.3)

pub returns-then-not-drop_plain-clause-when : goal.returns-then-not-drop_plain-clause-when
returns-then-not-drop_plain-clause-when c =
    let q = c.self.inside in
    rw (← c.self.view_is) (
      λ done. cc,
      λ is. c.if-not-drop_plain.ensures.oldest.1 (plain_seen c.args.n q.unseen q.entries.items c.else-self-gt0.either is),
    )

pub returns-then-not-drop_plain-clause-queued : goal.returns-then-not-drop_plain-clause-queued
returns-then-not-drop_plain-clause-queued c =
    let i = c.self.invariant in rw (c.drop_plain.ensures.unchanged c.if-not-drop_plain.true) (queued _ _ _ _ _ i.1 i.3)

pub returns-clause-rest : goal.returns-clause-rest
returns-clause-rest c ok =
    let q = c.self.inside in
    let n = c.args.n in
    let seen = c.else-self-gt0.either in
    let items = ap (λ k. k.items) (c.if-not-drop_plain.ensures.rest refl) in
    let oldest = c.if-not-drop_plain.ensures.oldest.0 refl in
    let held = ap (things q.unseen) items ∙ sym (drop_held n q.unseen q.entries.items seen) in
    let gone = entries_taken n q.unseen q.entries.items seen (enough n q.entries.items oldest.0 oldest.1 oldest.2) in
    let told = c.count_all_committed.ensures in
    let counts : c.count_all_committed.new.self ≡ counts_after q.ledger 0 (committing (take n (things q.unseen q.entries.items))) =
    same_counts _ _ (omega (arith, ap (λ (x : Counts). x.made) told)) (omega (arith, gone, ap (λ (x : Counts). x.committed) told))
    (omega (arith, ap (λ (x : Counts). x.cancelled) told)) (omega (arith, ap (λ (x : Counts). x.lost) told)) in
    rw (← c.self.view_is) (λ k. record { held = held k; pre = pre_of_packed q.next; depth = q.depth; counts = counts k })

pub returns-clause-when : goal.returns-clause-when
returns-clause-when c =
    let q = c.self.inside in
    rw (← c.self.view_is) (
      λ done. plain_held c.args.n q.unseen q.entries.items c.else-self-gt0.either (c.if-not-drop_plain.ensures.oldest.0 refl),
      λ is. refl,
    )

pub returns-clause-queued : goal.returns-clause-queued
returns-clause-queued c =
    let i = c.self.invariant in
    let q = c.self.inside in
    let items = ap (λ k. length k.items) (c.if-not-drop_plain.ensures.rest refl) in
    let oldest = c.if-not-drop_plain.ensures.oldest.0 refl in
    let within = enough c.args.n q.entries.items oldest.0 oldest.1 oldest.2 in
    let left = length-drop c.args.n q.entries.items in
    queued _ _ _ _ _ (omega (arith, items, left, i.1)) (committed_many _ _ _ _ _ c.count_all_committed.ensures (omega (arith, items, left, within)) i.3)
