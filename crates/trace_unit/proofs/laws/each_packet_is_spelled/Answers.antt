use Rattle.trace_unit.proofs.AllPackets.{run_spelled}
use Rattle.trace_unit.proofs.EventFits.{event_fits}
use Rattle.trace_unit.proofs.OrderSpelled.{order_spelled, settle_spelled}
use Rattle.trace_unit.proofs.laws.each_packet_is_spelled.Goals as goal

pub returns-clause-event : goal.returns-clause-event
returns-clause-event c = event_fits

pub returns-clause-order : goal.returns-clause-order
returns-clause-order c = order_spelled

pub returns-clause-settles : goal.returns-clause-settles
returns-clause-settles c = settle_spelled

pub returns-clause-run : goal.returns-clause-run
returns-clause-run c = run_spelled
