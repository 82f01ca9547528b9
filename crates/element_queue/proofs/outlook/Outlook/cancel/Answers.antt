use Rattle.std.proofs.Common.{◌≡◌, ◌≤◌, ◌<◌, ◌-◌, arith, length, ap, drop, take, ◌∙◌}
use Rattle.std.proofs.lemmas.Nat.{one_shl}
use Rattle.etm_types.specs.Atoms.{low_bits}
use Rattle.element_queue.specs.Outlooks.{Outlook}
use Rattle.element_queue.proofs.LowBits.{run_fits}
use Rattle.element_queue.proofs.Parts.{gone-cut, held-cut, held-length}
use Rattle.element_queue.proofs.outlook.Outlook.cancel.Goals as goal

pub overflow_sub-self : goal.overflow_sub-self
overflow_sub-self c =
    let o = c.self.inside in
    let held = held-length o.committed o.count o.bits in
    omega (arith, c.if-n-held.false, c.held.ensures, held, ap (λ (t : Outlook). length t.held) c.self.view_is)

pub overflow_add-self : goal.overflow_add-self
overflow_add-self c =
    let o = c.self.inside in
    let held = held-length o.committed o.count o.bits in
    let i = c.self.invariant in
    omega (arith, i.3, i.4, i.5, c.if-n-held.false, c.held.ensures, held, ap (λ (t : Outlook). length t.held) c.self.view_is)

pub invariant_of-self : goal.invariant_of-self
invariant_of-self c =
    let o = c.self.inside in
    let held = held-length o.committed o.count o.bits in
    let is = ap (λ (t : Outlook). length t.held) c.self.view_is in
    let i = c.self.invariant in
    let m = o.count - c.args.n in
    let within : c.args.n ≤ o.count - o.committed = omega (arith, held, is, c.held.ensures, c.if-n-held.false) in
    let some : 0 < c.args.n = omega (arith, c.if-n-eq0.false) in
    let small : m < 64 = omega (arith, i.0, within, some) in
    (omega (arith, i.0), rw (one_shl m 64 small) (run_fits m o.bits), omega (arith, i.2, within), omega (arith, i.3, within), i.4, i.5)

pub returns-clause-takes : goal.returns-clause-takes
returns-clause-takes c _ =
    let o = c.self.inside in
    let held = held-length o.committed o.count o.bits in
    let is = ap (λ (t : Outlook). length t.held) c.self.view_is in
    let i = c.self.invariant in
    let m = o.count - c.args.n in
    let within : c.args.n ≤ o.count - o.committed = omega (arith, held, is, c.held.ensures, c.if-n-held.false) in
    let some : 0 < c.args.n = omega (arith, c.if-n-eq0.false) in
    let small : m < 64 = omega (arith, i.0, within, some) in
    let before : o.committed ≤ m = omega (arith, i.2, within) in
    let fewer : m ≤ o.count = omega arith in
    let left : m - o.committed ≡ length (drop o.committed (low_bits o.count o.bits)) - c.args.n = omega (arith, held) in
    let gone_is = gone-cut o.committed o.count m o.bits before fewer small in
    let held_is = held-cut o.committed o.count m o.bits before fewer small
    ∙ ap (λ k. take k (drop o.committed (low_bits o.count o.bits))) left in
    rw (← c.self.view_is) (cc (gone_is, held_is))
