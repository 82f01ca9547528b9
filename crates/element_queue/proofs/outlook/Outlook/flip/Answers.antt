use Rattle.std.proofs.Common.{◌<◌, Bool, List, Some, ap, arith, length, map, sym, ◌∙◌}
use Rattle.element_queue.specs.Outlooks.{Outlook, flip_newest_atom}
use Rattle.element_queue.specs.Queued.{plain_atom}
use Rattle.element_queue.proofs.FlippedAtoms.{flipped_by_rule, flipped_fits, gone-flipped, held-flipped}
use Rattle.element_queue.proofs.Parts.{held-length}
use Rattle.element_queue.proofs.outlook.Outlook.flip.Goals as goal

pub invariant_of-self : goal.invariant_of-self
invariant_of-self c =
    let o = c.self.inside in
    let held = held-length o.committed o.count o.bits in
    let is = ap (λ (t : Outlook). length t.held) c.self.view_is in
    let i = c.self.invariant in
    let some : 0 < o.count = omega (arith, held, is, c.held.ensures, c.if-held-eq0.false) in
    (i.0, flipped_fits o.count o.bits some i.0 i.1, i.2, i.3, i.4, i.5)

fewer : (c : goal.After-self-1) → c.self.inside.committed < c.self.inside.count
fewer c =
    let o = c.self.inside in
    let held = held-length o.committed o.count o.bits in
    let is = ap (λ (t : Outlook). length t.held) c.self.view_is in omega (arith, held, is, c.held.ensures, c.if-held-eq0.false)

pub returns-clause-flips : goal.returns-clause-flips
returns-clause-flips c _ =
    let o = c.self.inside in
    let gone = gone-flipped o.committed o.count o.bits (fewer c) c.self.invariant.0 c.self.invariant.1 in
    let held = held-flipped o.committed o.count o.bits (fewer c) c.self.invariant.0 c.self.invariant.1 in
    rw (← c.self.view_is) (cc (gone, held))

pub returns-clause-rule : goal.returns-clause-rule
returns-clause-rule c _ =
    let o = c.self.inside in
    let held = held-flipped o.committed o.count o.bits (fewer c) c.self.invariant.0 c.self.invariant.1 in
    let some : 0 < length c.args.self.now.held = omega (arith, c.held.ensures, c.if-held-eq0.false) in
    flipped_by_rule c.args.self.now.held some
    ∙ ap (λ (l : List Bool). Some (map plain_atom l)) (ap (λ (t : Outlook). flip_newest_atom t.held) (sym c.self.view_is) ∙ sym held)
