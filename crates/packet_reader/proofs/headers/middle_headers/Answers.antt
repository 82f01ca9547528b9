use Rattle.std.proofs.Common.{Ok, Err, refl, ap, ◌∙◌, arith}
use Rattle.packet_grammar.specs.declared.packet.Packet.{Packet}
use Rattle.packet_reader.specs.declared.state.Progress.TheVariants.{Done}
use Rattle.std.specs.Prelude.{◌%◌}
use Rattle.packet_grammar.specs.declared.packet.Packet.TheVariants.{Ignore, Event}
use Rattle.packet_grammar.specs.declared.fault.RefusedKind.TheVariants.{Conditional}
use Rattle.packet_grammar.specs.declared.fault.PacketFault.TheVariants.{Refused, Reserved}
use Rattle.packet_grammar.specs.Headers.{refused_headers}
use Rattle.packet_grammar.proofs.Table.{alone, headers, whole}
use Rattle.packet_reader.proofs.Rows.{says, refuses}
use Rattle.packet_reader.proofs.Headed.{by_row}
use Rattle.packet_reader.proofs.headers.middle_headers.Goals as goal

pub returns-in-64-to-70-clause-row : goal.returns-in-64-to-70-clause-row
unfolding headers refused_headers
returns-in-64-to-70-clause-row c =
    by_row c.args.h _ (alone (Err (Refused Conditional c.args.h)))
    (refuses c.args.h 0x40 0x46 (Refused Conditional c.args.h) refl refl refl (omega arith) (omega arith))
    (c.refused.ensures)

pub returns-in-71-clause-row : goal.returns-in-71-clause-row
unfolding headers refused_headers
returns-in-71-clause-row c =
    by_row c.args.h _ (alone (Err (Reserved c.args.h)))
    (refuses c.args.h 0x47 0x47 (Reserved c.args.h) refl refl refl (omega arith) (omega arith))
    (c.reserved.ensures)

pub returns-in-72-to-74-clause-row : goal.returns-in-72-to-74-clause-row
unfolding headers refused_headers
returns-in-72-to-74-clause-row c =
    by_row c.args.h _ (alone (Err (Refused Conditional c.args.h)))
    (refuses c.args.h 0x48 0x4a (Refused Conditional c.args.h) refl refl refl (omega arith) (omega arith))
    (c.refused-in-72-to-74.ensures)

pub returns-in-75-clause-row : goal.returns-in-75-clause-row
unfolding headers refused_headers
returns-in-75-clause-row c =
    by_row c.args.h _ (alone (Err (Reserved c.args.h)))
    (refuses c.args.h 0x4b 0x4b (Reserved c.args.h) refl refl refl (omega arith) (omega arith))
    (c.reserved-in-75.ensures)

pub returns-in-76-to-78-clause-row : goal.returns-in-76-to-78-clause-row
unfolding headers refused_headers
returns-in-76-to-78-clause-row c =
    by_row c.args.h _ (alone (Err (Refused Conditional c.args.h)))
    (refuses c.args.h 0x4c 0x4e (Refused Conditional c.args.h) refl refl refl (omega arith) (omega arith))
    (c.refused-in-76-to-78.ensures)

pub returns-in-79-clause-row : goal.returns-in-79-clause-row
unfolding headers refused_headers
returns-in-79-clause-row c =
    by_row c.args.h _ (alone (Err (Reserved c.args.h)))
    (refuses c.args.h 0x4f 0x4f (Reserved c.args.h) refl refl refl (omega arith) (omega arith))
    (c.reserved-in-79.ensures)

pub returns-in-80-to-95-clause-row : goal.returns-in-80-to-95-clause-row
unfolding headers refused_headers
returns-in-80-to-95-clause-row c =
    by_row c.args.h _ (alone (Err (Refused Conditional c.args.h)))
    (refuses c.args.h 0x50 0x5f (Refused Conditional c.args.h) refl refl refl (omega arith) (omega arith))
    (c.refused-in-80-to-95.ensures)

pub returns-in-96-to-103-clause-row : goal.returns-in-96-to-103-clause-row
unfolding headers refused_headers
returns-in-96-to-103-clause-row c =
    by_row c.args.h _ (alone (Err (Reserved c.args.h)))
    (refuses c.args.h 0x60 0x67 (Reserved c.args.h) refl refl refl (omega arith) (omega arith))
    (c.reserved-in-96-to-103.ensures)

pub returns-in-104-to-111-clause-row : goal.returns-in-104-to-111-clause-row
unfolding headers refused_headers
returns-in-104-to-111-clause-row c =
    by_row c.args.h _ (alone (Err (Refused Conditional c.args.h)))
    (refuses c.args.h 0x68 0x6f (Refused Conditional c.args.h) refl refl refl (omega arith) (omega arith))
    (c.refused-in-104-to-111.ensures)

pub returns-in-112-clause-row : goal.returns-in-112-clause-row
unfolding headers refused_headers
returns-in-112-clause-row c =
    by_row c.args.h _ (whole Ignore)
    (says c.args.h 0x70 0x70 (whole Ignore) refl refl (omega arith) (omega arith))
    (c.whole.ensures)

pub returns-in-113-to-127-clause-row : goal.returns-in-113-to-127-clause-row
unfolding headers refused_headers
returns-in-113-to-127-clause-row c =
    by_row c.args.h _ (whole (Event (c.args.h % 16)))
    (says c.args.h 0x71 0x7f (whole (Event (c.args.h % 16))) refl refl (omega arith) (omega arith))
    (c.whole-in-113-to-127.ensures ∙ ap (λ (p : Packet). Done (Ok p)) c.event.ensures)
