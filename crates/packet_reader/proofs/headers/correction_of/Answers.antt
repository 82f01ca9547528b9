use Rattle.std.proofs.Common.{Ok, refl, ap, arith}
use Rattle.std.specs.Prelude.{◌==◌, ◌%◌, ◌/◌, ◌+◌}
use Rattle.etm_types.specs.declared.atoms.FewAtoms.{FewAtoms}
use Rattle.packet_grammar.specs.declared.packet.Packet.TheVariants.{Mispredict, Cancel2, Cancel3}
use Rattle.packet_grammar.specs.Headers.{few_atoms}
use Rattle.packet_grammar.proofs.Table.{headers, whole}
use Rattle.packet_reader.specs.declared.state.Progress.TheVariants.{Done}
use Rattle.packet_grammar.specs.declared.packet.Packet.{Packet}
use Rattle.packet_reader.proofs.Rows.{says}
use Rattle.packet_reader.proofs.Headed.{by_row}
use Rattle.packet_reader.proofs.headers.correction_of.Goals as goal

pub returns-in-48-to-51 : goal.returns-in-48-to-51
unfolding headers
returns-in-48-to-51 c =
    by_row c.args.h _ (whole (Mispredict (few_atoms c.args.h)))
    (says c.args.h 0x30 0x33 (whole (Mispredict (few_atoms c.args.h))) refl refl (omega arith) (omega arith))
    (ap (λ (f : FewAtoms). Done (Ok (Mispredict f))) c.few_atoms.ensures)

pub returns-in-52-to-55 : goal.returns-in-52-to-55
unfolding headers
returns-in-52-to-55 c =
    by_row c.args.h _ (whole (Cancel2 (few_atoms c.args.h)))
    (says c.args.h 0x34 0x37 (whole (Cancel2 (few_atoms c.args.h))) refl refl (omega arith) (omega arith))
    (ap (λ (f : FewAtoms). Done (Ok (Cancel2 f))) c.few_atoms-in-52-to-55.ensures)

pub returns-in-56-to-63 : goal.returns-in-56-to-63
unfolding headers
returns-in-56-to-63 c =
    by_row c.args.h _ (whole (Cancel3 (c.args.h % 2 == 1) (c.args.h / 2 % 4 + 2)))
    (says c.args.h 0x38 0x3f (whole (Cancel3 (c.args.h % 2 == 1) (c.args.h / 2 % 4 + 2))) refl refl (omega arith) (omega arith))
    (ap (λ (p : Packet). Done (Ok p)) c.cancel_3.ensures)
