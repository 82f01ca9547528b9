use Rattle.std.proofs.Common.{◌∙◌, ap, sym}
use Rattle.packet_grammar.specs.declared.packet.Packet.TheVariants.{Addr}
use Rattle.packet_writer.specs.Spelling.{spelling}
use Rattle.packet_writer.proofs.packet.put_address.Goals as goal

pub returns-in-None : goal.returns-in-None
returns-in-None c =
    c.put_address_alone.ensures c.args.settings.now ∙ ap (λ x. spelling c.args.settings.now (Addr c.args.form.now x)) (sym c.in-None.is)
