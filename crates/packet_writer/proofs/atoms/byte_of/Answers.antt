use Rattle.std.proofs.Common.{◌+◌, arith}
use Rattle.etm_types.specs.Atoms.{atoms_in}
use Rattle.atom_formats.specs.Formats.{Spells}
use Rattle.packet_writer.proofs.Runs.{none_first, none_next, not_none, found_byte, so, not_so}
use Rattle.packet_writer.proofs.atoms.byte_of.Goals as goal
use Rattle.packet_writer.proofs.atoms.byte_of.Goals.{else-loop-byte-test, then-loop-byte-test+else-tells+else-byte-lt255}

pub loop-byte-init : goal.loop-byte-init
loop-byte-init c = none_first c.args.run.now

pub returns-then-tells : goal.returns-then-tells
returns-then-tells c =
    found_byte c.loop-byte.byte c.args.run.now (so c.tells.result (Spells c.loop-byte.byte (atoms_in c.args.run.now)) c.tells.ensures c.if-tells.true)

pub loop-byte-preserved : goal.loop-byte-preserved
loop-byte-preserved c =
    none_next c.loop-byte.byte c.args.run.now
    (not_so c.tells.result (Spells c.loop-byte.byte (atoms_in c.args.run.now)) c.tells.ensures c.if-tells.false) c.loop-byte.invariant

pub unreachable-requires : goal.unreachable-requires
unreachable-requires c =
    elim c.loop-byte-test.branch [
      | else-loop-byte-test w ↦ not_none c.loop-byte.byte c.args.run.now w.loop-byte-test.false c.requires.told c.loop-byte.invariant
      | then-loop-byte-test+else-tells+else-byte-lt255 w ↦
          let none = none_next c.loop-byte.byte c.args.run.now
          (not_so w.tells.result (Spells c.loop-byte.byte (atoms_in c.args.run.now)) w.tells.ensures w.if-tells.false) c.loop-byte.invariant in
          not_none (c.loop-byte.byte + 1) c.args.run.now (omega (arith, w.if-byte-lt255.false)) c.requires.told none
    ]
