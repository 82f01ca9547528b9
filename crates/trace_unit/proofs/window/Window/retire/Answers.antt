use Rattle.std.proofs.Common.{◌≡◌, ◌-◌, length, drop, ap, sym, ◌∙◌, arith, drop-drop, length-drop}
use Rattle.element_queue.proofs.Balanced.{same_counts}
use Rattle.trace_unit.specs.Effects.{counts_retired}
use Rattle.trace_unit.specs.WindowKept.{StepsKept, without_stacks}
use Rattle.trace_unit.proofs.WindowHeld.{emptied_drop, emptied_length}
use Rattle.trace_unit.proofs.window.Window.retire.Goals.{in-Some, in_default}
use Rattle.trace_unit.proofs.window.Window.retire.Goals as goal

pub loop-preserved : goal.loop-preserved
loop-preserved c =
    let was = c.self.inside.ring.items in
    let kept = c.loop.invariant in
    let held = ap length kept.items ∙ length-drop c.loop.counter was in
    let asked = ap (λ (k : StepsKept). length k.steps) (sym c.self.view_is) ∙ emptied_length c.self.inside.emptied was in
    elim c.match-pop_front.branch [
      | in-Some w ↦
          let counts = w.commit.ensures in
          rw w.self-inside-is (record {
            items = c.pop_front.ensures.rest ∙ ap (drop 1) kept.items ∙ drop-drop 1 c.loop.counter was;
            capacity = c.pop_front.ensures.capacity ∙ kept.capacity;
            emptied = kept.emptied;
            made = ap (λ l. l.made) counts ∙ kept.made;
            committed = omega (arith, ap (λ l. l.committed) counts);
            cancelled = ap (λ l. l.cancelled) counts ∙ kept.cancelled;
            lost = ap (λ l. l.lost) counts ∙ kept.lost;
          })
      | in_default w ↦ absurd (let some = w.in_default.ensures.empty.1 (omega arith) in cc)
    ]

pub returns : goal.returns
returns c =
    let was = c.self.inside in
    let n = c.args.n in
    let emptied = c.saturating_sub-self-inside.result in
    let kept = c.loop.invariant in
    let all : c.loop.counter ≡ n = omega arith in
    let left : emptied ≡ was.emptied - n = c.saturating_sub-self-inside.ensures ∙ ap (λ e. e - n) kept.emptied in
    let same : c.loop.self-inside.ledger ≡ counts_retired n was.ledger =
    same_counts _ _ (omega arith) (omega arith) (omega arith) (omega arith) in
    rw (← c.self.view_is) (λ k. record {
      steps = (ap (without_stacks emptied) (kept.items ∙ ap (λ n. drop n was.ring.items) all) ∙ emptied_drop n was.emptied emptied was.ring.items left) k;
      room = kept.capacity k;
      counts = same k;
    })
