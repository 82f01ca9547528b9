use Rattle.std.proofs.Common.{arith, length, sym, ap}
use Rattle.std.proofs.Math.Seq.{take-add}
use Rattle.std.proofs.lemmas.List.{drop-drop}
use Rattle.etm_types.specs.Atoms.{low_bits}
use Rattle.element_queue.specs.Outlooks.{Outlook}
use Rattle.element_queue.proofs.Parts.{held-length}
use Rattle.element_queue.proofs.outlook.Outlook.commit.Goals as goal

pub overflow_add-self : goal.overflow_add-self
overflow_add-self c =
    let o = c.self.inside in
    let held = held-length o.committed o.count o.bits in
    omega (arith, c.self.invariant.0, c.self.invariant.2, held, ap (λ (t : Outlook). length t.held) c.self.view_is)

pub invariant_of-self : goal.invariant_of-self
invariant_of-self c =
    let o = c.self.inside in
    let held = held-length o.committed o.count o.bits in
    let within = ap (λ (t : Outlook). length t.held) c.self.view_is in
    let i = c.self.invariant in
    (i.0, i.1, omega (arith, i.2, held, within), i.3, i.4, i.5)

pub returns-clause-commits : goal.returns-clause-commits
returns-clause-commits c _ =
    let o = c.self.inside in
    let all = low_bits o.count o.bits in
    let gone = take-add o.committed c.args.n all in
    let held = sym (drop-drop c.args.n o.committed all) in
    rw (← c.self.view_is) (cc (gone, held))
