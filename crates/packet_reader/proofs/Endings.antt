-- How a stream ends whose bytes show no fault.
use Rattle.std.proofs.Common.{◌≡◌, ℕ, ◌+◌, ◌<◌, List, [], ◌∷◌, length, drop, None, refl, sym, ap, subst, inl, inr, arith}
use Rattle.etm_types.specs.Settings.{Sizes, AreSettings}
use Rattle.packet_grammar.proofs.Streams.{one_stream}
use Rattle.packet_grammar.specs.Ends.{end_of}
use Rattle.packet_grammar.specs.Parsed.{Ending, no_sync, clean, cut, fault, FirstSync, IsStream, Parses}
use Rattle.packet_grammar.specs.declared.end.End.TheVariants.{Clean, Cut}
use Rattle.packet_grammar.specs.declared.packet.Packet.{Packet}
use Rattle.packet_reader.specs.Answered.{fault_of}
use Rattle.packet_reader.specs.Stands.{rest_of}

never_without_sync : (s : Sizes) (at : ℕ) (bytes : List ℕ) (packets : List (ℕ × Packet)) → Parses s at bytes packets no_sync → ⊥
never_without_sync s at bytes [] is = is
never_without_sync s at bytes (p ∷ packets) (text, rest, starts, parts, spells, is) = never_without_sync s (at + length text) rest packets is

cut_has_bytes : (s : Sizes) (at : ℕ) (bytes : List ℕ) (packets : List (ℕ × Packet)) (n : ℕ) → Parses s at bytes packets (cut n) → 0 < n
cut_has_bytes s at bytes [] n is = is.1
cut_has_bytes s at bytes (p ∷ packets) n (text, rest, starts, parts, spells, is) = cut_has_bytes s (at + length text) rest packets n is

-- one in which an A-sync stands, without bytes of a begun packet
clean_end : (s : Sizes) (bytes : List ℕ) (packets : List (ℕ × Packet)) (ending : Ending) → (at : ℕ) × FirstSync at bytes
    → IsStream s bytes packets ending → fault_of ending ≡ None → rest_of ending ≡ 0 → Clean ≡ end_of ending
clean_end s bytes packets no_sync found (inl (at, first, is)) free none = absurd (never_without_sync s at (drop at bytes) packets is)
clean_end s bytes packets no_sync found (inr (nowhere, e, f)) free none = absurd (nowhere found.0 found.1.here)
clean_end s bytes packets clean found is free none = refl
clean_end s bytes packets (cut n) found (inl (at, first, is)) free none = absurd (omega (arith, cut_has_bytes s at (drop at bytes) packets n is, none))
clean_end s bytes packets (cut n) found (inr (nowhere, e, f)) free none = absurd cc
clean_end s bytes packets (fault at f) found is free none = absurd cc

-- and one with some
cut_end : (n : ℕ) (ending : Ending) → n ≡ rest_of ending → (n ≡ 0 → ⊥) → Cut n ≡ end_of ending
cut_end n (cut m) e some = ap Cut e
cut_end n no_sync e some = absurd (some e)
cut_end n clean e some = absurd (some e)
cut_end n (fault at f) e some = absurd (some e)

-- The bytes of the begun packet are those of any parse, since there is but one.
module _ (s : Sizes) (are : AreSettings s) (bytes : List ℕ) (packets others : List (ℕ × Packet)) (ending other : Ending) (n : ℕ) where
  same_rest : IsStream s bytes packets ending → IsStream s bytes others other → n ≡ rest_of other → n ≡ rest_of ending
  same_rest is also e = subst (λ x. n ≡ rest_of x) (sym (one_stream s are bytes packets others ending other is also).1) e

  pub ends_clean : (at : ℕ) × FirstSync at bytes → IsStream s bytes packets ending → IsStream s bytes others other → n ≡ rest_of other
      → fault_of ending ≡ None → n ≡ 0 → Clean ≡ end_of ending
  ends_clean found is also e free none = clean_end s bytes packets ending found is free (subst (λ k. rest_of ending ≡ k) none (sym (same_rest is also e)))

  pub ends_cut : IsStream s bytes packets ending → IsStream s bytes others other → n ≡ rest_of other → (n ≡ 0 → ⊥) → Cut n ≡ end_of ending
  ends_cut is also e some = cut_end n ending (same_rest is also e) some
