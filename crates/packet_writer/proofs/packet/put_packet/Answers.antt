use Rattle.std.proofs.Common.{ap, subst, sym, ◌∙◌}
use Rattle.packet_writer.specs.Fitting.{Fits}
use Rattle.packet_writer.specs.Spelling.{spelling}
use Rattle.packet_writer.proofs.Having.{stamp_room}
use Rattle.packet_writer.proofs.packet.put_packet.Goals as goal

pub put_time_stamp-requires-clause-fits : goal.put_time_stamp-requires-clause-fits
put_time_stamp-requires-clause-fits c =
    let fits = subst (λ p. Fits c.args.settings.now p) c.in-Time.is c.requires.fits in
    stamp_room c.in-Time.bits c.in-Time.low fits.0.0 fits.0.1

pub returns-in-Exc : goal.returns-in-Exc
returns-in-Exc c = c.put_exception.ensures c.args.settings.now ∙ ap (λ p. spelling c.args.settings.now p) (sym c.in-Exc.is)
