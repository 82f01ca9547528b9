use Rattle.std.proofs.Common.{◌≡◌, [], subst, arith, ap, sym, ◌∙◌, None, Err}
use Rattle.std.proofs.lemmas.List.{nil_from_length}
use Rattle.etm_types.specs.declared.queue_fault.QueueFault.TheVariants.{NoAtomToFlip}
use Rattle.element_queue.specs.Counting.{Balances}
use Rattle.element_queue.specs.Packed.{pre_of_packed}
use Rattle.element_queue.specs.Pending.{flip_newest, flips}
use Rattle.element_queue.specs.Queued.{IsQueued, pending_of}
use Rattle.element_queue.proofs.Balanced.{same_counts}
use Rattle.element_queue.proofs.Flipped.{flips_behind, none_flips, seen_behind, some_seen, takes_flip, unseen_behind, unseen_flips}
use Rattle.element_queue.proofs.Held.{queued, things}
use Rattle.element_queue.proofs.queue.Queue.flip.Goals.{else-len-eq0-via-then-len-eq0+else-self-gt0, else-len-eq0-via-else-len-eq0}
use Rattle.element_queue.proofs.queue.Queue.flip.Goals as goal

pub returns-then-self-gt0-clause-ok : goal.returns-then-self-gt0-clause-ok
returns-then-self-gt0-clause-ok c ok =
    let q = c.self.inside in
    let none : q.entries.items ≡ [] = nil_from_length _ (omega arith) in
    rw (← c.self.view_is)
    (takes_flip (things q.unseen q.entries.items) (things q.unseen q.entries.items) (pre_of_packed q.next) _ q.depth q.ledger
    (unseen_flips _ _ c.if-self-gt0.true none)
    (unseen_behind _ _ (pre_of_packed q.next) c.if-self-gt0.true none ∙ sym c.lose.ensures) (same_counts _ _ (omega arith) (omega arith) (omega arith) (omega arith)))

pub returns-then-self-gt0-clause-queued : goal.returns-then-self-gt0-clause-queued
returns-then-self-gt0-clause-queued c = let i = c.self.invariant in queued _ _ _ _ _ i.1 i.3

pub returns-then-not-newest_is_atom-clause-fault : goal.returns-then-not-newest_is_atom-clause-fault
returns-then-not-newest_is_atom-clause-fault c fault e informed =
    let q = c.self.inside in
    let none = none_flips q.unseen q.entries.items c.if-not-newest_is_atom.ensures.1 (λ empty. elim c.else-len-eq0.branch [
      | else-len-eq0-via-then-len-eq0+else-self-gt0 w ↦ omega (arith, w.if-self-gt0)
      | else-len-eq0-via-else-len-eq0 w ↦ absurd (omega (arith, w.if-len-eq0))
    ]) in
    let nothing = subst (λ v. flip_newest v.held ≡ None) c.self.view_is none in
    let is : NoAtomToFlip c.held.result ≡ fault = cc in
    ap (flips (pending_of c.args.self.now informed)) nothing ∙ ap (λ held. Err (NoAtomToFlip held)) (sym c.held.ensures.value) ∙ ap (λ f. Err f) is

pub returns-then-not-newest_is_atom-clause-queued : goal.returns-then-not-newest_is_atom-clause-queued
returns-then-not-newest_is_atom-clause-queued c = let i = c.self.invariant in subst IsQueued c.self.view_is (queued _ _ _ _ _ i.1 i.3)

pub flip-requires : goal.flip-requires
flip-requires c = record { atom = c.newest_is_atom.ensures.0 c.if-not-newest_is_atom.false }

pub returns-clause-ok : goal.returns-clause-ok
returns-clause-ok c ok =
    let q = c.self.inside in
    let some = some_seen q.entries.items (c.newest_is_atom.ensures.0 c.if-not-newest_is_atom.false) in
    rw (← c.self.view_is)
    (takes_flip (things q.unseen q.entries.items) _ (pre_of_packed q.next) _ q.depth q.ledger
    (flips_behind q.unseen q.entries.items c.flip.new.self.items some c.flip.ensures.flipped)
    (seen_behind q.unseen q.entries.items (pre_of_packed q.next) some ∙ sym c.forget_addr.ensures)
    (same_counts _ _ (omega arith) (omega arith) (omega arith) (omega arith)))

pub returns-clause-queued : goal.returns-clause-queued
returns-clause-queued c =
    let i = c.self.invariant in
    let same = c.flip.ensures.count in
    queued _ _ _ _ _ (omega (arith, same, i.1)) (subst (Balances c.self.inside.ledger) (sym same) i.3)
