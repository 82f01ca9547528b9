use Rattle.std.proofs.Common.{◌≡◌, ◌-◌, [], length, arith, ap, sym, ◌∙◌, length-append}
use Rattle.std.proofs.lemmas.List.{nil_from_length}
use Rattle.element_queue.specs.Packed.{pre_of_packed}
use Rattle.element_queue.proofs.Balanced.{same_counts}
use Rattle.element_queue.proofs.Cancelled.{given_behind, missing_behind, parts, takes_cancel}
use Rattle.element_queue.proofs.Held.{entries-things, length-things, queued}
use Rattle.element_queue.proofs.queue.Queue.cancel_each.Goals as goal

pub returns-then-unseen-gt0-clause-queued : goal.returns-then-unseen-gt0-clause-queued
returns-then-unseen-gt0-clause-queued c =
    let i = c.self.invariant in
    let kept = c.loop.invariant.1 in
    let size = ap length kept.split in
    let joined = length-append c.loop.self-inside.entries.items c.loop.invariant.0 in
    queued _ _ _ _ _ (omega (arith, size, joined)) (omega (arith, size, joined))

pub returns-else-unseen-gt0-clause-queued : goal.returns-else-unseen-gt0-clause-queued
returns-else-unseen-gt0-clause-queued c =
    let i = c.self.invariant in
    let kept = c.loop.invariant.1 in
    let size = ap length kept.split in
    let joined = length-append c.loop.self-inside.entries.items c.loop.invariant.0 in
    queued _ _ _ _ _ (omega (arith, size, joined)) (omega (arith, size, joined))

pub returns-then-unseen-gt0-clause-takes : goal.returns-then-unseen-gt0-clause-takes
returns-then-unseen-gt0-clause-takes c =
    let was = c.self.inside in
    let pre = pre_of_packed was.next in
    let now = c.loop.self-inside in
    let gone = c.loop.invariant.0 in
    let kept = c.loop.invariant.1 in
    let more = c.args.n - c.min-seen.result in
    let less = now.unseen - more in
    let size = ap length kept.split in
    let joined = length-append now.entries.items gone in
    let held = ap (λ q. length q.held) c.self.view_is in
    let count = length-things was.unseen was.entries.items in
    let none : now.entries.items ≡ [] = nil_from_length _ (omega (arith, size, joined)) in
    let went = entries-things more gone in
    rw (← c.self.view_is)
    (takes_cancel was.unseen less more was.depth now.depth c.args.n was.entries.items now.entries.items gone pre _ was.ledger now.ledger
    (parts was.unseen less more was.entries.items now.entries.items gone (omega (arith, size, joined)) kept.split (λ h. none))
    (omega (arith, size, joined))
    kept.depth
    (c.trace_missing-self-inside.ensures ∙ sym (missing_behind pre more gone c.if-unseen-gt0.true))
    (same_counts _ _ (omega arith) (omega arith) (omega (arith, went)) (omega arith)))

pub returns-else-unseen-gt0-clause-takes : goal.returns-else-unseen-gt0-clause-takes
returns-else-unseen-gt0-clause-takes c =
    let was = c.self.inside in
    let pre = pre_of_packed was.next in
    let now = c.loop.self-inside in
    let gone = c.loop.invariant.0 in
    let kept = c.loop.invariant.1 in
    let more = c.args.n - c.min-seen.result in
    let went = entries-things more gone in
    rw (← c.self.view_is)
    (takes_cancel was.unseen now.unseen more was.depth now.depth c.args.n was.entries.items now.entries.items gone pre (pre_of_packed now.next) was.ledger now.ledger
    (parts was.unseen now.unseen more was.entries.items now.entries.items gone (omega arith) kept.split (λ h. absurd (omega arith)))
    (omega arith)
    kept.depth
    (kept.next ∙ sym (given_behind pre more gone (omega arith)))
    (same_counts _ _ (omega arith) (omega arith) (omega (arith, went)) (omega arith)))
