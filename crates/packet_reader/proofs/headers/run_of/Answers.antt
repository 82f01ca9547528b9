use Rattle.std.proofs.Common.{Ok, refl, arith}
use Rattle.packet_grammar.specs.declared.packet.Packet.TheVariants.{Atoms}
use Rattle.packet_grammar.proofs.Table.{headers, atoms}
use Rattle.packet_reader.specs.declared.state.Progress.TheVariants.{Done}
use Rattle.packet_reader.specs.States.{IsRun}
use Rattle.packet_reader.proofs.Rows.{says}
use Rattle.packet_reader.proofs.Headed.{by_row}
use Rattle.packet_reader.proofs.headers.run_of.Goals as goal

pub returns-clause-row : goal.returns-clause-row
unfolding headers
returns-clause-row c =
    let run : IsRun c.args.h (Done (Ok (Atoms c.in-Some.run'))) = (c.in-Some.ensures.within, c.in-Some.ensures.run) in
    by_row c.args.h (Done (Ok (Atoms c.in-Some.run'))) (atoms c.args.h)
    (says c.args.h 0xc0 0xff (atoms c.args.h) refl refl (omega arith) (omega arith)) run
