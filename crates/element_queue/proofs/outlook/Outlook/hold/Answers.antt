use Rattle.std.proofs.Common.{◌≤◌, ◌+◌, ◌^◌, arith, length, ap, rules}
use Rattle.element_queue.specs.Outlooks.{Outlook, has_room}
use Rattle.element_queue.proofs.LowBits.{fits_word, grown}
use Rattle.element_queue.proofs.Parts.{gone-grown, gone-length, held-grown, held-length}
use Rattle.element_queue.proofs.outlook.Outlook.hold.Goals as goal
use Rattle.element_queue.proofs.outlook.Outlook.hold.Goals.{then-held-count-via-then-held-count, then-held-count-via-else-held-count+then-self-count-gt-MOST_PLAIN, then-held-count-via-else-held-count+else-self-count-gt-MOST_PLAIN+then-self-count-gt-MOST_MADE}

pub overflow_add-held : goal.overflow_add-held
overflow_add-held c =
    let o = c.self.inside in
    let held = held-length o.committed o.count o.bits in
    omega (arith, c.self.invariant.0, held, c.held.ensures, c.requires, c.from-count.ensures, ap (λ (t : Outlook). length t.held) c.self.view_is)

pub returns-then-held-count-clause-when : goal.returns-then-held-count-clause-when
returns-then-held-count-clause-when c =
    let o = c.self.inside in
    let gone = gone-length o.committed o.count o.bits c.self.invariant.2 in
    let held = held-length o.committed o.count o.bits in
    let size = ap (λ (t : Outlook). length t.held) c.self.view_is in
    let gone_is = ap (λ (t : Outlook). length t.gone) c.self.view_is in
    let depth = ap Outlook.depth c.self.view_is in
    let made = ap Outlook.made c.self.view_is in (
      λ e. search rules,
      λ (room : has_room c.args.self.now c.args.run.now.count). elim c.then-held-count.branch [
        | then-held-count-via-then-held-count w ↦ absurd (omega arith)
        | then-held-count-via-else-held-count+then-self-count-gt-MOST_PLAIN w ↦ absurd (omega (arith, c.self.invariant.2))
        | then-held-count-via-else-held-count+else-self-count-gt-MOST_PLAIN+then-self-count-gt-MOST_MADE w ↦ absurd (omega arith)
      ],
    )

pub overflow_add-self : goal.overflow_add-self
overflow_add-self c =
    let o = c.self.inside in
    let run = c.args.run.now in
    let room : o.count + run.count ≤ 64 = omega (arith, c.from-count.ensures, c.if-self-count-gt-MOST_PLAIN.false) in
    let more = grown o.count o.bits run.count run.bits c.from.result c.wrapping_shl.result c.self.invariant.1 room c.requires c.from.ensures
    c.wrapping_shl.ensures in
    let below = fits_word (o.count + run.count) _ more.fits room in
    omega (arith, more.whole, below)

pub invariant_of-self : goal.invariant_of-self
invariant_of-self c =
    let o = c.self.inside in
    let run = c.args.run.now in
    let i = c.self.invariant in
    let room : o.count + run.count ≤ 64 = omega (arith, c.from-count.ensures, c.if-self-count-gt-MOST_PLAIN.false) in
    let most : o.made + run.count ≤ 2 ^ 8 = omega (arith, c.from-count.ensures, c.if-self-count-gt-MOST_MADE.false) in
    let more = grown o.count o.bits run.count run.bits c.from.result c.wrapping_shl.result i.1 room c.requires c.from.ensures
    c.wrapping_shl.ensures in
    rw (more.whole, c.from-count.ensures) (room, more.fits, omega (arith, i.2), omega (arith, i.3), i.4, most)

pub returns-clause-when : goal.returns-clause-when
returns-clause-when c =
    let o = c.self.inside in
    let gone = gone-length o.committed o.count o.bits c.self.invariant.2 in
    let held = held-length o.committed o.count o.bits in
    let size = ap (λ (t : Outlook). length t.held) c.self.view_is in
    let gone_is = ap (λ (t : Outlook). length t.gone) c.self.view_is in
    let depth = ap Outlook.depth c.self.view_is in
    let made = ap Outlook.made c.self.view_is in
    (λ _. (omega arith, omega (arith, c.self.invariant.2), omega arith), λ _. search rules)

pub returns-clause-holds : goal.returns-clause-holds
returns-clause-holds c _ =
    let o = c.self.inside in
    let run = c.args.run.now in
    let room : o.count + run.count ≤ 64 = omega (arith, c.from-count.ensures, c.if-self-count-gt-MOST_PLAIN.false) in
    let more = grown o.count o.bits run.count run.bits c.from.result c.wrapping_shl.result c.self.invariant.1 room c.requires c.from.ensures
    c.wrapping_shl.ensures in
    let gone_is = gone-grown o.committed o.count o.bits run.count run.bits c.wrapping_shl.result c.self.invariant.2 c.self.invariant.1 more in
    let held_is = held-grown o.committed o.count o.bits run.count run.bits c.wrapping_shl.result c.self.invariant.2 c.self.invariant.1 more in
    rw (← c.self.view_is, c.from-count.ensures) (cc (gone_is, held_is))
