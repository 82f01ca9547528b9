use Rattle.std.proofs.Common.{◌≡◌, arith, length, ap, map, ◌∙◌}
use Rattle.element_queue.specs.Kept.{Kept}
use Rattle.element_queue.specs.Queued.{plain_entry}
use Rattle.element_queue.proofs.EntryRuns.{no_fewer, only_plain, same_kept}
use Rattle.element_queue.proofs.LowBits.{low_bits-length}
use Rattle.element_queue.proofs.entries.Entries.become_plain.Goals as goal

pub invariant_of-self : goal.invariant_of-self
invariant_of-self c =
    let q = c.self.inside in
    let none : length q.runs.items ≡ 0 = omega (arith, c.if-len-gt0.false, c.len.ensures.len) in
    let size = no_fewer q.runs.items c.replace.new.self none in
    let capacity = ap (λ (k : Kept). k.capacity) c.self.view_is in (
      omega (arith, size, ap length c.replace.ensures, low_bits-length c.args.count c.args.bits),
      omega (arith, capacity, c.requires.few),
      c.self.invariant.2,
    )

pub returns : goal.returns
returns c =
    let q = c.self.inside in
    let none : length q.runs.items ≡ 0 = omega (arith, c.if-len-gt0.false, c.len.ensures.len) in
    same_kept _ _ _ _ (only_plain q.runs.items c.replace.new.self none ∙ ap (map plain_entry) c.replace.ensures)
    (ap (λ (k : Kept). k.capacity) c.self.view_is)
