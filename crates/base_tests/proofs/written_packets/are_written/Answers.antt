use Rattle.std.proofs.Common.{◌≡◌, refl, subst, sym, arith}
use Rattle.etm_types.specs.Settings.{Sizes}
use Rattle.packet_writer.specs.Fitting.{Fits}
use Rattle.packet_writer.proofs.Having.{spelled_where_fits}
use Rattle.base_tests.proofs.written_packets.are_written.Goals as goal

abbrev one_and_four : Sizes
one_and_four = record { depth = 16; vmid_bytes = 1; cid_bytes = 4 }

pub write_packet-count-requires : goal.write_packet-count-requires
write_packet-count-requires c =
    let made = c.in-Ok.ensures.ok (omega arith) refl refl in
    let same : c.in-Ok.settings ≡ one_and_four = cc in
    (spelled_where_fits c.in-Ok.settings c.args.packet).1 (subst (λ s. Fits s c.args.packet) (sym same) c.requires)
