-- One order keeps the two readers so.
use Rattle.std.proofs.Common.{ℕ}
use Rattle.element_queue.specs.Resolved.{Resolved}
use Rattle.trace_unit.proofs.Out.{Waits}
use Rattle.trace_unit.specs.Orders.{Branch, Cancel, Close, Exception, ExceptionAtTarget, Flip, Order, Retire, Settle, Tell}
use Rattle.trace_unit.specs.Taken.{CanTake}
use Rattle.trace_unit.specs.Whole.{PutOff}
use Rattle.trace_unit.proofs.OrderTold.{KeepsBoth, branch_order, close_order, exception_order, retire_order, settle_order, target_order, told_order}
use Rattle.trace_unit.proofs.OrderCancelled.{cancel_order}
use Rattle.trace_unit.proofs.OrderFlipped.{flip_by}

pub one_order : (depth : ℕ) (u : PutOff) (rw rp : Resolved) (o : Order) → Waits depth u rw rp → CanTake depth rp.pending o → KeepsBoth depth u rw rp o
one_order depth u rw rp (Tell notice) b asks = told_order depth u rw rp notice b asks
one_order depth u rw rp (Branch taken) b asks = branch_order depth u rw rp taken b asks
one_order depth u rw rp (Exception kind ret) b asks = exception_order depth u rw rp kind ret b asks
one_order depth u rw rp (ExceptionAtTarget context kind addr) b asks = target_order depth u rw rp context kind addr b asks
one_order depth u rw rp (Retire n) b asks = retire_order depth u rw rp n b asks
one_order depth u rw rp (Cancel n) b asks = cancel_order depth u rw rp n b asks
one_order depth u rw rp Flip b asks = flip_by depth u.atoms u.cancels u.commits u.held rw rp asks.0 b asks.1
one_order depth u rw rp Settle b asks = settle_order depth u rw rp b
one_order depth u rw rp (Close closing) b asks = close_order depth u rw rp closing b
