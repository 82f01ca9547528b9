-- Packets that are tried on an outlook are whole packets.
use Rattle.std.proofs.Common.{◌≡◌, ℕ, ◌-◌, ◌<◌, List, [], ◌∷◌, ◌++◌, length, length-append, Ok, refl, sym, ap, subst, ◌∙◌, inl, inr, arith}
use Rattle.atom_formats.proofs.Rows.{no_other_tells}
use Rattle.element_queue.specs.Outlooks.{Outlook}
use Rattle.etm_types.specs.Atoms.{atoms_in}
use Rattle.etm_types.specs.Settings.{Sizes}
use Rattle.packet_grammar.proofs.Fitting.{small_back, small_front}
use Rattle.packet_grammar.specs.Parsed.{Spells}
use Rattle.packet_grammar.specs.declared.packet.Packet.{Packet}
use Rattle.packet_reader.proofs.Fronts.{atoms_spelled, cancel_spelled, commit_spelled}
use Rattle.packet_reader.specs.Packets.{ArePackets, bytes_of, length_of}
use Rattle.stream_decoder.proofs.AheadMoves.{all_more, bytes_more}
use Rattle.stream_decoder.proofs.Growing.{Small}
use Rattle.stream_decoder.specs.Ahead.{Moves, MovesAll}

pub some_bytes : (o o' : Outlook) (p : List ℕ × Packet) → Moves o p o' → 0 < length p.0
some_bytes o o' p (inl (byte, run, is, spells, range, room, next)) = subst (λ (q : List ℕ × Packet). 0 < length q.0) (sym is) (omega arith)
some_bytes o o' p (inr (inl (n, is, short, some, few, next))) = subst (λ (q : List ℕ × Packet). 0 < length q.0) (sym is) (omega arith)
some_bytes o o' p (inr (inr (inl (n, is, short, some, few, next)))) = subst (λ (q : List ℕ × Packet). 0 < length q.0) (sym is) (omega arith)
some_bytes o o' p (inr (inr (inr (is, some, next)))) = subst (λ (q : List ℕ × Packet). 0 < length q.0) (sym is) (omega arith)

spelled : (s : Sizes) (o o' : Outlook) (p : List ℕ × Packet) → Moves o p o' → Spells s (Ok p.1) p.0
spelled s o o' p (inl (byte, run, is, spells, range, room, next)) =
    let fits = no_other_tells byte (atoms_in run) spells in
    subst (λ (q : List ℕ × Packet). Spells s (Ok q.1) q.0) (sym is) (atoms_spelled s byte run fits.0 fits.1 spells range)
spelled s o o' p (inr (inl (n, is, short, some, few, next))) = subst (λ (q : List ℕ × Packet). Spells s (Ok q.1) q.0) (sym is) (commit_spelled s n short)
spelled s o o' p (inr (inr (inl (n, is, short, some, few, next)))) =
    subst (λ (q : List ℕ × Packet). Spells s (Ok q.1) q.0) (sym is) (cancel_spelled s n short)
spelled s o o' p (inr (inr (inr (is, some, next)))) =
    subst (λ (q : List ℕ × Packet). Spells s (Ok q.1) q.0) (sym is) (0x30, (omega arith, omega arith, refl), refl)

are_packets : (s : Sizes) (o o' : Outlook) (ps : List (List ℕ × Packet)) → Small (bytes_of ps) → MovesAll o ps o' → ArePackets s ps
are_packets s o o' [] small moves = tt
are_packets s o o' (p ∷ ps) small (next, move, moves) = (
  some_bytes o next p move,
  small_front (p.0 ++ bytes_of ps) p.0 (bytes_of ps) refl small,
  spelled s o next p move,
  are_packets s next o' ps (small_back (p.0 ++ bytes_of ps) p.0 (bytes_of ps) refl small) moves,
)

-- those that were foretold, and how many bytes they have
pub foretold_packets : (s : Sizes) (o before o' : Outlook) (bytes behind : List ℕ) (first : List (List ℕ × Packet)) (last : List ℕ × Packet) → Small bytes
    → bytes ≡ bytes_of first ++ (last.0 ++ behind) → MovesAll o first before → Moves before last o'
    → ArePackets s (first ++ last ∷ []) × (length_of (first ++ last ∷ []) ≡ length bytes - length behind)
foretold_packets s o before o' bytes behind first last small parts moves ends =
    let all = first ++ last ∷ [] in
    let whole : bytes ≡ bytes_of all ++ behind = parts ∙ sym (bytes_more first last behind) in
    let long = ap length whole in let both = length-append (bytes_of all) behind in (
      are_packets s o o' all (small_front bytes (bytes_of all) behind whole small) (all_more o before o' first last moves ends),
      omega (arith, long, both),
    )
