use Rattle.std.proofs.Common.{◌≤◌, length, sym, subst, ◌∙◌, ap}
use Rattle.packet_grammar.specs.Spelling.{SpellsPacket}
use Rattle.packet_writer.proofs.Having.{it_spells, spelled_fits}
use Rattle.packet_writer.proofs.Shortest.{none_is_shorter}
use Rattle.packet_writer.specs.Laws.{PassedOverAreZero}
use Rattle.packet_writer.proofs.Zeros.{none_is_set}
use Rattle.packet_writer.proofs.packet.write_packet.Goals as goal

pub put_packet-requires-clause-fits : goal.put_packet-requires-clause-fits
put_packet-requires-clause-fits c = spelled_fits c.args.settings.now c.args.packet.now c.requires

pub returns-clause-spells : goal.returns-clause-spells
returns-clause-spells c =
    subst (λ bytes. SpellsPacket c.args.settings.now c.args.packet.now bytes) (sym (c.write.ensures.bytes ∙ c.put_packet.ensures))
    (it_spells c.args.settings.now c.args.packet.now c.requires)

pub returns-clause-shortest : goal.returns-clause-shortest
returns-clause-shortest c other small is =
    subst (λ n. n ≤ length other) (sym (c.write.ensures.count ∙ ap length c.put_packet.ensures))
    (none_is_shorter c.args.settings.now c.args.packet.now other small is)

pub returns-clause-passed_over : goal.returns-clause-passed_over
returns-clause-passed_over c =
    subst (λ bytes. PassedOverAreZero c.args.settings.now c.args.packet.now bytes) (sym (c.write.ensures.bytes ∙ c.put_packet.ensures))
    (none_is_set c.args.settings.now c.args.packet.now c.requires)
