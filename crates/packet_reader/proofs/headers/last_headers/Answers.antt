use Rattle.std.proofs.Common.{Err, refl, arith}
use Rattle.packet_grammar.specs.declared.fault.RefusedKind.TheVariants.{Q}
use Rattle.packet_grammar.specs.declared.fault.PacketFault.TheVariants.{Refused, Reserved}
use Rattle.packet_grammar.specs.Headers.{refused_headers}
use Rattle.packet_grammar.proofs.Table.{alone, headers}
use Rattle.packet_reader.proofs.Rows.{refuses}
use Rattle.packet_reader.proofs.Headed.{by_row}
use Rattle.packet_reader.proofs.headers.last_headers.Goals as goal

pub returns-in-160-to-162-clause-row : goal.returns-in-160-to-162-clause-row
unfolding headers refused_headers
returns-in-160-to-162-clause-row c =
    by_row c.args.h _ (alone (Err (Refused Q c.args.h)))
    (refuses c.args.h 0xa0 0xa2 (Refused Q c.args.h) refl refl refl (omega arith) (omega arith))
    (c.refused-in-160-to-162.ensures)

pub returns-in-163-to-164-clause-row : goal.returns-in-163-to-164-clause-row
unfolding headers refused_headers
returns-in-163-to-164-clause-row c =
    by_row c.args.h _ (alone (Err (Reserved c.args.h)))
    (refuses c.args.h 0xa3 0xa4 (Reserved c.args.h) refl refl refl (omega arith) (omega arith))
    (c.reserved.ensures)

pub returns-in-165-to-166-clause-row : goal.returns-in-165-to-166-clause-row
unfolding headers refused_headers
returns-in-165-to-166-clause-row c =
    by_row c.args.h _ (alone (Err (Refused Q c.args.h)))
    (refuses c.args.h 0xa5 0xa6 (Refused Q c.args.h) refl refl refl (omega arith) (omega arith))
    (c.refused-in-165-to-166.ensures)

pub returns-in-167-to-169-clause-row : goal.returns-in-167-to-169-clause-row
unfolding headers refused_headers
returns-in-167-to-169-clause-row c =
    by_row c.args.h _ (alone (Err (Reserved c.args.h)))
    (refuses c.args.h 0xa7 0xa9 (Reserved c.args.h) refl refl refl (omega arith) (omega arith))
    (c.reserved-in-167-to-169.ensures)

pub returns-in-170-to-172-clause-row : goal.returns-in-170-to-172-clause-row
unfolding headers refused_headers
returns-in-170-to-172-clause-row c =
    by_row c.args.h _ (alone (Err (Refused Q c.args.h)))
    (refuses c.args.h 0xaa 0xac (Refused Q c.args.h) refl refl refl (omega arith) (omega arith))
    (c.refused-in-170-to-172.ensures)

pub returns-in-173-to-174-clause-row : goal.returns-in-173-to-174-clause-row
unfolding headers refused_headers
returns-in-173-to-174-clause-row c =
    by_row c.args.h _ (alone (Err (Reserved c.args.h)))
    (refuses c.args.h 0xad 0xae (Reserved c.args.h) refl refl refl (omega arith) (omega arith))
    (c.reserved-in-173-to-174.ensures)

pub returns-in-175-clause-row : goal.returns-in-175-clause-row
unfolding headers refused_headers
returns-in-175-clause-row c =
    by_row c.args.h _ (alone (Err (Refused Q c.args.h)))
    (refuses c.args.h 0xaf 0xaf (Refused Q c.args.h) refl refl refl (omega arith) (omega arith))
    (c.refused.ensures)

pub returns-in-176-to-191-clause-row : goal.returns-in-176-to-191-clause-row
unfolding headers refused_headers
returns-in-176-to-191-clause-row c =
    by_row c.args.h _ (alone (Err (Reserved c.args.h)))
    (refuses c.args.h 0xb0 0xbf (Reserved c.args.h) refl refl refl (omega arith) (omega arith))
    (c.reserved-in-176-to-191.ensures)
