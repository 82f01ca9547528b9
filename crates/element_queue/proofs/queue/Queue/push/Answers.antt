use Rattle.std.proofs.Common.{◌+◌, ◌∷◌, [], arith, length, ap, refl, length-append}
use Rattle.element_queue.proofs.Balanced.{made_one, committed_one}
use Rattle.element_queue.proofs.Held.{length-things, queued}
use Rattle.element_queue.proofs.queue.Queue.push.Goals as goal

pub returns-in-Some-clause-queued : goal.returns-in-Some-clause-queued
returns-in-Some-clause-queued c =
    let i = c.self.invariant in
    let before = c.self.inside.entries.items in
    let pushed = length-append before (c.new-newest.result ∷ []) in
    let order = ap length c.in-Some.ensures.order in
    let made = made_one _ _ (length before) (length before + 1) c.new-newest.ensures.made refl i.3 in
    queued _ _ _ _ _ (omega (arith, order)) (committed_one _ _ _ _ c.commit.ensures.committed (omega (arith, order)) made)

pub returns-then-full-clause-queued : goal.returns-then-full-clause-queued
returns-then-full-clause-queued c =
    let i = c.self.invariant in
    let q = c.self.inside in
    let pushed = length-append q.entries.items (c.new-newest.result ∷ []) in
    let order = ap length c.in_default.ensures.order in
    let held = ap (λ v. length v.held) c.self.view_is in
    let count = length-things q.unseen q.entries.items in
    queued _ _ _ _ _ (omega (arith, order)) (made_one _ _ _ _ c.new-newest.ensures.made (omega (arith, order)) i.3)

pub returns-clause-queued : goal.returns-clause-queued
returns-clause-queued c =
    let i = c.self.invariant in
    let q = c.self.inside in
    let pushed = length-append q.entries.items (c.new-newest.result ∷ []) in
    let order = ap length c.in_default.ensures.order in
    let held = ap (λ v. length v.held) c.self.view_is in
    let count = length-things q.unseen q.entries.items in
    queued _ _ _ _ _ (omega (arith, order)) (made_one _ _ _ _ c.new-newest.ensures.made (omega (arith, order)) i.3)
