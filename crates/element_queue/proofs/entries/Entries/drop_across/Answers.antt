use Rattle.std.proofs.Common.{ap, arith, drop, refl, ◌∙◌}
use Rattle.std.proofs.lemmas.List.{drop-drop}
use Rattle.etm_types.specs.Atoms.{atoms_in}
use Rattle.element_queue.specs.Kept.{Kept}
use Rattle.element_queue.proofs.EntryRuns.{same_kept}
use Rattle.element_queue.proofs.Fronts.{are_first, oldest_of}
use Rattle.element_queue.proofs.LowBits.{low_bits-length}
use Rattle.element_queue.proofs.entries.Entries.drop_across.Goals as goal

pub returns-then-from-n-clause-oldest : goal.returns-then-from-n-clause-oldest
returns-then-from-n-clause-oldest c = (
  λ none. cc,
  λ (oldest, is, size).
      let k = c.oldest_plain.result.count in
      let there = are_first oldest c.args.self.now.items c.args.n k is size (omega (arith, c.if-from-n.true, c.from.ensures)) in
      absurd (c.oldest_plain.ensures.all (omega (arith, c.if-from-n.true, c.from.ensures, c.requires.few)) there.0 there.1),
)

pub loop-preserved : goal.loop-preserved
loop-preserved c =
    let all = c.args.self.now.items in let k = c.loop.counter in
    same_kept _ _ _ _
    (c.pop_front.ensures.rest ∙ ap (λ (q : Kept). drop 1 q.items) c.loop.invariant ∙ drop-drop 1 k all)
    (c.pop_front.ensures.capacity ∙ ap (λ (q : Kept). q.capacity) c.loop.invariant)

pub returns-clause-oldest : goal.returns-clause-oldest
returns-clause-oldest c =
    let run = c.oldest_plain.result in
    let oldest = oldest_of (atoms_in run) c.args.self.now.items run.count c.args.n c.oldest_plain.ensures.atoms (low_bits-length run.count run.bits)
    (omega (arith, c.if-from-n.false, c.from.ensures)) in
    (λ done. oldest, λ is. refl)
