use Rattle.std.proofs.Common.{◌<◌, arith, length, refl, subst}
use Rattle.std.specs.Prelude.{IsSome, map}
use Rattle.etm_types.specs.declared.element.Thing.TheVariants.{Seen}
use Rattle.element_queue.specs.Kept.{Kept}
use Rattle.element_queue.specs.Pending.{flip_newest}
use Rattle.element_queue.proofs.EntryRuns.{some_plain}
use Rattle.element_queue.proofs.entries.Entries.newest_is_atom.Goals as goal

pub returns-then-len-gt0 : goal.returns-then-len-gt0
returns-then-len-gt0 c =
    let q = c.self.inside in
    let some : 0 < length q.plain = omega (arith, c.len.ensures.len, c.if-len-gt0.true) in
    (λ h. subst (λ (k : Kept). IsSome (flip_newest (map Seen k.items))) c.self.view_is (some_plain q.runs.items q.plain some), λ h. refl)
