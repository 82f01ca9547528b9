use Rattle.std.proofs.Common.{Err, refl, sym, subst, arith}
use Rattle.packet_reader.specs.declared.state.Progress.{Progress}
use Rattle.packet_reader.specs.States.{HeadsBy}
use Rattle.packet_grammar.specs.declared.packet.Packet.TheVariants.{On}
use Rattle.packet_grammar.specs.declared.fault.RefusedKind.TheVariants.{CycleCount, TimeCycle, DataSync, MProfile}
use Rattle.packet_grammar.specs.declared.fault.PacketFault.TheVariants.{Refused, Reserved}
use Rattle.packet_grammar.specs.Headers.{refused_headers}
use Rattle.packet_grammar.proofs.Table.{alone, headers, whole, extension, trace_info, time_stamp, exception}
use Rattle.packet_reader.proofs.Rows.{says, refuses}
use Rattle.packet_reader.proofs.Headed.{by_row}
use Rattle.packet_reader.proofs.headers.first_headers.Goals as goal

pub returns-in-0-clause-row : goal.returns-in-0-clause-row
unfolding headers refused_headers
returns-in-0-clause-row c =
    by_row c.args.h _ (extension)
    (says c.args.h 0x00 0x00 (extension) refl refl (omega arith) (omega arith))
    (refl)

pub returns-in-1-clause-row : goal.returns-in-1-clause-row
unfolding headers refused_headers
returns-in-1-clause-row c =
    by_row c.args.h _ (trace_info)
    (says c.args.h 0x01 0x01 (trace_info) refl refl (omega arith) (omega arith))
    (refl)

pub returns-in-2-clause-row : goal.returns-in-2-clause-row
unfolding headers refused_headers
returns-in-2-clause-row c =
    by_row c.args.h _ (time_stamp)
    (says c.args.h 0x02 0x02 (time_stamp) refl refl (omega arith) (omega arith))
    (c.time_stamp.ensures)

pub returns-in-3-clause-row : goal.returns-in-3-clause-row
unfolding headers refused_headers
returns-in-3-clause-row c =
    by_row c.args.h _ (alone (Err (Refused TimeCycle c.args.h)))
    (refuses c.args.h 0x03 0x03 (Refused TimeCycle c.args.h) refl refl refl (omega arith) (omega arith))
    (c.refused.ensures)

pub returns-in-4-clause-row : goal.returns-in-4-clause-row
unfolding headers refused_headers
returns-in-4-clause-row c =
    by_row c.args.h _ (whole On)
    (says c.args.h 0x04 0x04 (whole On) refl refl (omega arith) (omega arith))
    (c.whole.ensures)

pub returns-in-5-clause-row : goal.returns-in-5-clause-row
unfolding headers refused_headers
returns-in-5-clause-row c =
    by_row c.args.h _ (alone (Err (Refused MProfile c.args.h)))
    (refuses c.args.h 0x05 0x05 (Refused MProfile c.args.h) refl refl refl (omega arith) (omega arith))
    (c.refused-in-5.ensures)

pub returns-in-6-clause-row : goal.returns-in-6-clause-row
unfolding headers refused_headers
returns-in-6-clause-row c =
    by_row c.args.h _ (exception)
    (says c.args.h 0x06 0x06 (exception) refl refl (omega arith) (omega arith))
    (refl)

pub returns-in-7-clause-row : goal.returns-in-7-clause-row
unfolding headers refused_headers
returns-in-7-clause-row c =
    by_row c.args.h _ (alone (Err (Refused MProfile c.args.h)))
    (refuses c.args.h 0x07 0x07 (Refused MProfile c.args.h) refl refl refl (omega arith) (omega arith))
    (c.refused-in-7.ensures)

pub returns-in-8-to-11-clause-row : goal.returns-in-8-to-11-clause-row
unfolding headers refused_headers
returns-in-8-to-11-clause-row c =
    by_row c.args.h _ (alone (Err (Reserved c.args.h)))
    (refuses c.args.h 0x08 0x0b (Reserved c.args.h) refl refl refl (omega arith) (omega arith))
    (c.reserved.ensures)

pub returns-in-12-to-31-clause-row : goal.returns-in-12-to-31-clause-row
unfolding headers refused_headers
returns-in-12-to-31-clause-row c =
    by_row c.args.h _ (alone (Err (Refused CycleCount c.args.h)))
    (refuses c.args.h 0x0c 0x1f (Refused CycleCount c.args.h) refl refl refl (omega arith) (omega arith))
    (c.refused-in-12-to-31.ensures)

pub returns-in-32-to-44-clause-row : goal.returns-in-32-to-44-clause-row
unfolding headers refused_headers
returns-in-32-to-44-clause-row c =
    by_row c.args.h _ (alone (Err (Refused DataSync c.args.h)))
    (refuses c.args.h 0x20 0x2c (Refused DataSync c.args.h) refl refl refl (omega arith) (omega arith))
    (c.refused-in-32-to-44.ensures)

pub returns-in-45-to-47-clause-row : goal.returns-in-45-to-47-clause-row
returns-in-45-to-47-clause-row c = subst (λ (p : Progress). HeadsBy c.args.h p) (sym c.number.ensures) c.purpose_of.ensures

pub returns-in-48-to-63-clause-row : goal.returns-in-48-to-63-clause-row
returns-in-48-to-63-clause-row c = subst (λ (p : Progress). HeadsBy c.args.h p) (sym c.whole-in-48-to-63.ensures) c.correction_of.ensures
