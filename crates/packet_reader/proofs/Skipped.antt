-- Packets that are skipped.
use Rattle.std.proofs.Common.{◌≡◌, ℕ, ◌+◌, ◌≤◌, ◌<◌, List, [], ◌∷◌, ◌++◌, length, refl, sym, subst, arith, length-append}
use Rattle.etm_types.specs.Settings.{Sizes}
use Rattle.packet_grammar.specs.declared.packet.Packet.{Packet}
use Rattle.packet_reader.proofs.Fronts.{takes_packet}
use Rattle.packet_reader.specs.Packets.{ArePackets, TakesPackets, bytes_of, length_of}
use Rattle.packet_reader.specs.Stands.{PacketReading, TakesPacket}
use Rattle.packet_reader.specs.declared.phase.Phase.TheVariants.{Between}

-- the last of them is among their bytes
pub end_within : (first : List (List ℕ × Packet)) (end : List ℕ × Packet) → length end.0 ≤ length_of (first ++ end ∷ [])
end_within [] end = let e = length-append end.0 [] in omega (arith, e)
end_within (p ∷ first) end = let e = length-append p.0 (bytes_of (first ++ end ∷ [])) in omega (arith, e, end_within first end)

module _ (s : Sizes) where
  abbrev between : ℕ → ℕ → PacketReading
  between start offset = record { settings = s; phase = Between; start = start; offset = offset }

  skips_behind : (offset after at : ℕ) (first : List (List ℕ × Packet)) (end : List ℕ × Packet) → ArePackets s (first ++ end ∷ [])
      → after ≡ offset + length_of (first ++ end ∷ []) → at + length end.0 ≡ after → TakesPackets (between offset offset) first end at (between after after)
  skips_behind offset after at [] end are more here =
      let one : length (end.0 ++ []) ≡ length end.0 + 0 = length-append end.0 [] in
      let same : offset ≡ at = omega (arith, more, here, one) in
      subst (λ (x : ℕ). TakesPacket (between offset offset) (between after after) end.0 x end.1) same
      (takes_packet s offset offset after end.0 end.1 (omega (arith, more, one)) (are.1) (are.2))
  skips_behind offset after at (p ∷ first) end are more here =
      let next = offset + length p.0 in
      let long = length-append p.0 (bytes_of (first ++ end ∷ [])) in (
        offset,
        between next next,
        takes_packet s offset offset next p.0 p.1 refl (are.1) (are.2),
        skips_behind next after at first end (are.3) (omega (arith, more, long)) here,
      )

  -- the first of them begins where the reader's last packet ended, and the others behind one another
  pub skips : (start offset after at : ℕ) (first : List (List ℕ × Packet)) (end : List ℕ × Packet) → ArePackets s (first ++ end ∷ [])
      → after ≡ offset + length_of (first ++ end ∷ []) → (length_of (first ++ end ∷ []) ≡ length end.0 → at ≡ start)
      → (length end.0 < length_of (first ++ end ∷ []) → at + length end.0 ≡ after) → TakesPackets (between start offset) first end at (between after after)
  skips start offset after at [] end are more alone behind =
      let one : length (end.0 ++ []) ≡ length end.0 + 0 = length-append end.0 [] in
      subst (λ (x : ℕ). TakesPacket (between start offset) (between after after) end.0 x end.1) (sym (alone (omega (arith, one))))
      (takes_packet s start offset after end.0 end.1 (omega (arith, more, one)) (are.1) (are.2))
  skips start offset after at (p ∷ first) end are more alone behind =
      let next = offset + length p.0 in
      let long = length-append p.0 (bytes_of (first ++ end ∷ [])) in
      let last = end_within first end in (
        start,
        between next next,
        takes_packet s start offset next p.0 p.1 refl (are.1) (are.2),
        skips_behind next after at first end (are.3) (omega (arith, more, long)) (behind (omega (arith, long, are.0, last))),
      )
