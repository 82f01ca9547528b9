use Rattle.std.proofs.Common.{Ok, refl}
use Rattle.packet_grammar.specs.declared.packet.Packet.TheVariants.{Atoms}
use Rattle.packet_reader.specs.declared.phase.Phase.TheVariants.{Between}
use Rattle.packet_reader.specs.declared.state.Progress.TheVariants.{Done}
use Rattle.packet_reader.specs.declared.step.Step.TheVariants.{Whole}
use Rattle.packet_reader.specs.Stands.{Moved, Moves}
use Rattle.packet_reader.proofs.Hunt.{between_moves}
use Rattle.packet_reader.proofs.reader.step.Goals as goal

pub returns-in-Between-clause-moves : goal.returns-in-Between-clause-moves
returns-in-Between-clause-moves c =
    let m : Moved = record { phase = Between; start = c.args.offset; step = Whole c.args.start.now (Atoms c.run_of.result) } in
    let moves : Moves c.args.settings.now Between c.args.start.now c.args.offset c.args.byte m =
    between_moves c.args.settings.now c.args.start.now c.args.offset c.args.byte (Done (Ok (Atoms c.run_of.result))) m c.run_of.ensures.fits
    c.run_of.ensures.row refl in
    rw c.in-Between.is moves
