use Rattle.std.proofs.Common.{◌≡◌, ◌≤◌, ◌-◌, length, take, drop, ap, arith, refl, subst, sym, ◌∙◌}
use Rattle.std.proofs.lemmas.List.{length-take-le}
use Rattle.element_queue.specs.Counting.{counts_after}
use Rattle.element_queue.specs.Pending.{committing}
use Rattle.element_queue.specs.Queued.{Queued}
use Rattle.stream_decoder.specs.Waiting.{DropsDue, Waiting, waiting_of}
use Rattle.stream_decoder.proofs.Rotating.{gives_many, left_by_giving, waits_of}
use Rattle.stream_decoder.proofs.waiting.Waiting.drop_plain.Goals as goal

pub returns-clause-drops : goal.returns-clause-drops
returns-clause-drops c took =
    let s = c.self.inside in let i = c.self.invariant in let q = s.queue in let n = c.args.n in let w = waiting_of q s.informed s.due in
    let within : n ≤ length (take s.due q.held) = omega (arith, length-take-le s.due q.held i.0, c.if-n-self.false) in
    let gives = gives_many w.pending w.depth w.due w.counts n within (waits_of q s.informed s.due i.1 i.2) in
    let left : record w { due = drop n w.due; counts = counts_after w.counts 0 (committing (take n w.due)) }
    ≡ waiting_of c.commit_plain.new.self s.informed (s.due - n) =
    sym (left_by_giving q s.informed s.due n c.if-n-self.false)
    ∙ ap (λ (x : Queued). waiting_of x s.informed (s.due - n)) (sym (c.if-not-commit_plain.ensures.rest refl)) in
    subst (λ (v : Waiting). DropsDue v n (waiting_of c.commit_plain.new.self s.informed (s.due - n))) c.self.view_is
    (subst (λ (v : Waiting). DropsDue w n v) left gives)
