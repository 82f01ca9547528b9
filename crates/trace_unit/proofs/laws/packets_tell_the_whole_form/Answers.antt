use Rattle.path_elements.specs.Elements.{untold}
use Rattle.trace_unit.proofs.OrderPackets.{first_tells, order_tells, settle_tells}
use Rattle.trace_unit.proofs.Telling.{are_told}
use Rattle.trace_unit.proofs.TraceShown.{run_told}
use Rattle.trace_unit.proofs.laws.packets_tell_the_whole_form.Goals as goal
use Rattle.trace_unit.specs.Orders.{Sync, Tell}
use Rattle.trace_unit.specs.Packets.{nothing_shared, packets_of, settle_packets, shared_after}
use Rattle.trace_unit.specs.Telling.{told_with}
use Rattle.trace_unit.specs.Whole.{nothing_waits, settle_elements, whole}

pub returns-clause-order : goal.returns-clause-order
returns-clause-order c s depth u shared order fits =
    are_told (told_with shared) (packets_of depth u shared order) (whole depth u order) (told_with (shared_after shared order))
    (order_tells s depth u shared order fits)

pub returns-clause-settles : goal.returns-clause-settles
returns-clause-settles c depth u shared =
    are_told (told_with shared) (settle_packets depth u) (settle_elements depth u) (told_with shared) (settle_tells depth u shared)

pub returns-clause-first : goal.returns-clause-first
returns-clause-first c depth n =
    are_told untold (packets_of depth nothing_waits nothing_shared (Tell (Sync n))) (whole depth nothing_waits (Tell (Sync n))) (told_with nothing_shared)
    (first_tells n)

pub returns-clause-run : goal.returns-clause-run
returns-clause-run c = run_told
