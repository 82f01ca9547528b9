use Rattle.std.proofs.Common.{◌≡◌, ◌+◌, ap, arith, length, refl, subst, sym, ◌∙◌}
use Rattle.std.specs.Prelude.{map}
use Rattle.std.proofs.lemmas.List.{length-map}
use Rattle.element_queue.specs.declared.ledger.Counts.{Counts}
use Rattle.element_queue.specs.Counting.{counts_after}
use Rattle.element_queue.specs.Packed.{pre_of_packed}
use Rattle.element_queue.specs.Pending.{cancelling}
use Rattle.element_queue.specs.Queued.{IsQueued, plain_entry}
use Rattle.element_queue.proofs.Balanced.{cancelled_many, same_counts}
use Rattle.element_queue.proofs.Cancelled.{given_behind, parts, takes_cancel}
use Rattle.element_queue.proofs.EntryRuns.{as_many, given_plain}
use Rattle.element_queue.proofs.Held.{entries-things, queued, things}
use Rattle.element_queue.proofs.queue.Queue.cancel_plain.Goals.{then-n-eq0-via-then-n-eq0, then-n-eq0-via-else-n-eq0+then-not-drop_newest}
use Rattle.element_queue.proofs.queue.Queue.cancel_plain.Goals as goal

pub returns-then-n-eq0-clause-queued : goal.returns-then-n-eq0-clause-queued
returns-then-n-eq0-clause-queued c =
    let i = c.self.invariant in
    elim c.then-n-eq0.branch [
      | then-n-eq0-via-then-n-eq0 w ↦ subst IsQueued (c.self.view_is ∙ sym w.self-is) (queued _ _ _ _ _ i.1 i.3)
      | then-n-eq0-via-else-n-eq0+then-not-drop_newest w ↦
          rw (w.self-is, w.drop_newest.ensures.unchanged w.if-not-drop_newest.true) (queued _ _ _ _ _ i.1 i.3)
    ]

pub returns-clause-takes : goal.returns-clause-takes
returns-clause-takes c taken =
    let was = c.self.inside in let pre = pre_of_packed was.next in let rest = c.if-not-drop_newest.ensures.rest refl in
    let gone = map plain_entry rest.0 in
    let size : 0 + length gone ≡ c.args.n = omega (arith, length-map rest.0 plain_entry, rest.2) in
    let went = entries-things 0 gone in
    let told = c.count_all_cancelled.ensures in
    let counts : c.count_all_cancelled.new.self ≡ counts_after was.ledger 0 (cancelling (things 0 gone)) =
    same_counts _ _ (omega (arith, ap (λ (x : Counts). x.made) told)) (omega (arith, ap (λ (x : Counts). x.committed) told))
    (omega (arith, went, size, ap (λ (x : Counts). x.cancelled) told)) (omega (arith, ap (λ (x : Counts). x.lost) told)) in
    rw (← c.self.view_is)
    (takes_cancel was.unseen was.unseen 0 was.depth was.depth c.args.n was.entries.items c.drop_newest.new.self.items gone pre _ was.ledger
    c.count_all_cancelled.new.self
    (parts was.unseen was.unseen 0 was.entries.items c.drop_newest.new.self.items gone (omega arith) (sym rest.1) (λ h. absurd (omega (arith, h))))
    size refl
    (c.nothing_told-self-inside.ensures ∙ sym (given_plain pre rest.0 (omega (arith, c.if-n-eq0.false, rest.2))) ∙ sym (given_behind pre 0 gone refl))
    counts)

pub returns-clause-queued : goal.returns-clause-queued
returns-clause-queued c =
    let i = c.self.invariant in let fewer = as_many c.args.n _ _ (c.if-not-drop_newest.ensures.rest refl) in
    queued _ _ _ _ _ (omega (arith, fewer, i.1)) (cancelled_many _ _ c.args.n _ _ c.count_all_cancelled.ensures fewer i.3)
