use Rattle.std.proofs.Common.{◌≡◌, [], arith, length, length-append, ap, map, ◌∙◌}
use Rattle.element_queue.specs.Kept.{Kept}
use Rattle.element_queue.specs.Queued.{plain_entry}
use Rattle.element_queue.proofs.EntryRuns.{few_runs, no_fewer, only_plain, same_kept}
use Rattle.element_queue.proofs.Held.{none_left}
use Rattle.element_queue.proofs.LowBits.{low_bits-length}
use Rattle.element_queue.proofs.entries.Entries.replace_all.Goals as goal

-- where all were taken out, there is no run
no_run : (c : goal.After-self-1) → length c.self.inside.runs.items ≡ 0
no_run c =
    let q = c.self.inside in
    let all = none_left c.loop-slot.self.items c.in_default.ensures.empty.1 in
    omega (
      arith,
      few_runs q.runs.items q.plain,
      ap (λ (k : Kept). length k.items) c.self.view_is,
      ap length c.in_default.ensures.order,
      ap length all,
      length-append c.pop_back.new.self.items [],
    )

pub invariant_of-self : goal.invariant_of-self
invariant_of-self c =
    let q = c.self.inside in
    let size = no_fewer q.runs.items c.replace.new.self (no_run c) in
    let capacity = ap (λ (k : Kept). k.capacity) c.self.view_is in (
      omega (arith, size, ap length c.replace.ensures, low_bits-length c.args.count c.args.bits),
      omega (arith, capacity, c.pop_back.ensures.capacity, c.loop-slot.invariant, c.requires.few),
      c.self.invariant.2,
    )

pub returns : goal.returns
returns c =
    let q = c.self.inside in
    same_kept _ _ _ _ (only_plain q.runs.items c.replace.new.self (no_run c) ∙ ap (map plain_entry) c.replace.ensures)
    (ap (λ (k : Kept). k.capacity) c.self.view_is ∙ c.pop_back.ensures.capacity ∙ c.loop-slot.invariant)
