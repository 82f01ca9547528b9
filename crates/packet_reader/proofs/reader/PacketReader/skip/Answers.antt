use Rattle.std.proofs.Common.{◌≡◌, ◌+◌, ◌<◌, [], ◌∷◌, ◌++◌, length, sym, ap, subst, ◌∙◌, arith}
use Rattle.packet_reader.proofs.Skipped.{end_within, skips}
use Rattle.packet_reader.specs.Packets.{ArePackets, TakesPackets, length_of}
use Rattle.packet_reader.specs.Stands.{PacketReading}
use Rattle.packet_reader.specs.declared.phase.Phase.TheVariants.{Between}
use Rattle.packet_reader.proofs.reader.PacketReader.skip.Goals.{then-count-last, else-count-last}
use Rattle.packet_reader.proofs.reader.PacketReader.skip.Goals as goal

pub overflow_sub-at : goal.overflow_sub-at
overflow_sub-at c =
    let (first, end, are, long, last) = c.requires.packets in
    let within = end_within first end in omega (arith, long, last, within)

pub returns-clause-takes : goal.returns-clause-takes
returns-clause-takes c first end are long last =
    let r = c.self.inside in let after = r.offset + c.args.count in let at = c.if-count-last.at in
    let here : r.phase ≡ Between = ap (λ (v : PacketReading). v.phase) c.self.view_is ∙ c.requires.between in
    let are' = subst (λ (v : PacketReading). ArePackets v.settings (first ++ end ∷ [])) (sym c.self.view_is) are in
    let alone : length_of (first ++ end ∷ []) ≡ length end.0 → at ≡ r.start =
    λ one. elim c.if-count-last.branch [
      | then-count-last w ↦ w.at-is
      | else-count-last w ↦ absurd (omega (arith, long, one, last, w.if-count-last))
    ] in
    let behind : length end.0 < length_of (first ++ end ∷ []) → at + length end.0 ≡ after =
    λ more. elim c.if-count-last.branch [
      | then-count-last w ↦ absurd (omega (arith, more, long, last, w.if-count-last))
      | else-count-last w ↦ omega (arith, w.at-is, long, last, more)
    ] in
    subst (λ (v : PacketReading). TakesPackets v first end at (record { settings = r.settings; phase = r.phase; start = after; offset = after }))
    c.self.view_is
    (rw here (skips r.settings r.start r.offset after at first end are' (omega (arith, long)) alone behind))
