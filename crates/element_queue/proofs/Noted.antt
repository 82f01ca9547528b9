-- What elements give to the next P0 element, and the first trace info.
use Rattle.std.proofs.Common.{◌≡◌, ℕ, ◌≤◌, ◌++◌, true, false, if◌then◌else◌, List, [], replicate, Ok, Err, refl, sym, ap, ◌∙◌}
use Rattle.std.proofs.lemmas.Bool.{le-leb}
use Rattle.etm_types.specs.declared.element.Elem.TheVariants as elem
use Rattle.etm_types.specs.declared.element.Thing.{Thing}
use Rattle.etm_types.specs.declared.element.Thing.TheVariants.{Unseen}
use Rattle.etm_types.specs.declared.queue_fault.QueueFault.TheVariants.{SpecTooDeep}
use Rattle.element_queue.specs.declared.queue.PreElem.{PreElem}
use Rattle.element_queue.specs.declared.queue.PreElem.TheVariants as pre_elem
use Rattle.element_queue.specs.Counting.{counts_after}
use Rattle.element_queue.specs.Pending.{Pending, Taken, nothing_gone, taken}
use Rattle.element_queue.specs.Queued.{Queued, TakesInfo, TakesPre, noted, pending_of}

pub takes_noted : (q : Queued) (e : PreElem) → q.counts ≡ counts_after q.counts 0 nothing_gone → TakesPre q e (record q { pre = noted q.pre e })
takes_noted q pre_elem.Info same = λ spec. record { rule = refl; counts = refl; depth = refl }
takes_noted q pre_elem.On same = record { rule = λ informed. refl; counts = same; depth = refl }
takes_noted q (pre_elem.Ctx ctx) same = record { rule = λ informed. refl; counts = same; depth = refl }
takes_noted q (pre_elem.Addr addr) same = record { rule = λ informed. refl; counts = same; depth = refl }

-- nothing is held, and no more is announced than the depth
informs_first : (q : Queued) (spec : ℕ) → q.held ≡ [] → spec ≤ q.depth
    → taken q.depth (pending_of q false) (elem.Info spec)
    ≡ Ok (record { held = replicate spec Unseen; pre = record (q.pre) { flush = true }; informed = true }, nothing_gone)
informs_first q spec none within =
    ap (λ b. if b then Ok (record { held = q.held ++ replicate spec Unseen; pre = record (q.pre) { flush = true }; informed = true }, nothing_gone) else Err (SpecTooDeep spec q.depth))
    (le-leb spec q.depth within)
    ∙ ap (λ (l : List Thing). Ok (record { held = l ++ replicate spec Unseen; pre = record (q.pre) { flush = true }; informed = true }, nothing_gone)) none

abbrev pending_in : Pending → Taken → Pending
pending_in other (Ok t) = t.0
pending_in other (Err fault) = other

-- what is known of a queue that began so
pub begun : (q q' : Queued) (spec : ℕ) → q.held ≡ [] → spec ≤ q.depth → TakesInfo false q spec q'
    → q' ≡ record q { held = replicate spec Unseen; pre = noted q.pre pre_elem.Info }
begun q q' spec none within takes =
    let same : pending_of q' true ≡ record { held = replicate spec Unseen; pre = record (q.pre) { flush = true }; informed = true } =
    ap (pending_in (pending_of q' true)) (sym takes.rule ∙ informs_first q spec none within) in
    λ k. record { held = (same k).held; pre = (same k).pre; depth = takes.depth k; counts = takes.counts k }
