use Rattle.std.proofs.Common.{arith}
use Rattle.trace_unit.proofs.WindowHeld.{all_emptied}
use Rattle.trace_unit.proofs.window.Window.sync.Goals as goal

pub returns : goal.returns
returns c =
    let w = c.self.inside in
    let steps = all_emptied w.emptied c.len-held.result w.ring.items (omega (arith, c.len-held.ensures.len)) in
    rw (← c.self.view_is) (λ k. record { steps = steps k; room = w.ring.capacity; counts = w.ledger })
