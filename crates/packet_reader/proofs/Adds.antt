-- What the answers to bytes add up to.
use Rattle.std.proofs.Common.{◌≡◌, ℕ, zero, suc, ◌+◌, ◌<◌, List, [], ◌∷◌, ◌++◌, length}
use Rattle.std.proofs.Common.{drop, Option, None, refl, sym, ap, subst, ◌∙◌, inl, inr, append-nil, append_assoc}
use Rattle.std.proofs.lemmas.List.Elements.{All-append, All-cons, All-nil, All-drop}
use Rattle.etm_types.specs.Settings.{Sizes, AreSettings}
use Rattle.packet_grammar.specs.declared.packet.Packet.{Packet}
use Rattle.packet_grammar.specs.declared.fault.PacketFault.{PacketFault}
use Rattle.packet_grammar.specs.Parsed.{Ending, no_sync, clean, cut, fault, IsStream, Parses, SyncAt}
use Rattle.packet_grammar.specs.Ranges.{IsPacket}
use Rattle.packet_grammar.proofs.Streams.{one_stream}
use Rattle.packet_grammar.proofs.InRange.{values_fit}
use Rattle.packet_grammar.proofs.Fitting.{Small, small_front, small_back}
use Rattle.packet_reader.specs.declared.step.Step.{Step}
use Rattle.packet_reader.specs.declared.step.Step.TheVariants.{Skipped, More, Whole, Bad, Stopped}
use Rattle.packet_reader.specs.Stands.{Gains, Goes}
use Rattle.packet_reader.specs.Answered.{Answered, told, packets_in, fault_after, fault_in, fault_of, AddUp}
use Rattle.packet_grammar.proofs.GoesOn.{fault_stays}

goes_without_fault : (ending : Ending) → Goes ending → fault_of ending ≡ None
goes_without_fault clean goes = refl
goes_without_fault (cut n) goes = refl
goes_without_fault no_sync goes = absurd goes
goes_without_fault (fault at f) goes = absurd goes

-- the stream of some bytes, and what is told of its fault
pub record Told (s : Sizes) (bytes : List ℕ) (packets : List (ℕ × Packet)) (last : Option (ℕ × PacketFault)) : Type 0 where
  pub ending : Ending
  pub stream : IsStream s bytes packets ending
  pub fault : fault_of ending ≡ last

module _ (s : Sizes) (are : AreSettings s) (bytes : List ℕ) (byte : ℕ) where
  abbrev more : List ℕ
  more = bytes ++ byte ∷ []

  -- a packet does not come behind a fault
  no_fault_before : (packets others : List (ℕ × Packet)) (ending : Ending) → IsStream s bytes packets ending → IsStream s more others clean → fault_of ending
      ≡ None
  no_fault_before packets others no_sync is now = refl
  no_fault_before packets others clean is now = refl
  no_fault_before packets others (cut n) is now = refl
  no_fault_before packets others (fault at f) is now =
      let same : fault at f ≡ clean = (one_stream s are more packets others (fault at f) clean (fault_stays s bytes (byte ∷ []) packets at f is) now).1 in
      absurd cc

  pub gains_more : (packets : List (ℕ × Packet)) (last : Option (ℕ × PacketFault)) (step : Step) → Told s bytes packets last → Gains s bytes byte step
      → Told s more (packets ++ told step) (fault_after last step)
  gains_more packets last Skipped is (before, now) =
      let same = one_stream s are bytes packets [] is.ending no_sync is.stream before in
      record {
        ending = no_sync;
        stream = subst (λ p. IsStream s more p no_sync) (sym (append-nil packets ∙ same.0)) now;
        fault = ap fault_of (sym same.1) ∙ is.fault;
      }
  gains_more packets last More is (others, ending, n, goes, before, now) =
      let same = one_stream s are bytes packets others is.ending ending is.stream before in
      record {
        ending = cut n;
        stream = subst (λ p. IsStream s more p (cut n)) (sym (append-nil packets ∙ same.0)) now;
        fault = sym (ap fault_of same.1 ∙ goes_without_fault ending goes) ∙ is.fault;
      }
  gains_more packets last (Whole at packet) is (others, ending, before, now) =
      let same = one_stream s are bytes packets others is.ending ending is.stream before in
      record {
        ending = clean;
        stream = subst (λ p. IsStream s more (p ++ (at, packet) ∷ []) clean) (sym same.0) now;
        fault = sym (ap fault_of same.1 ∙ no_fault_before others (others ++ (at, packet) ∷ []) ending before now) ∙ is.fault;
      }
  gains_more packets last (Bad at f) is (others, ending, goes, before, now) =
      let same = one_stream s are bytes packets others is.ending ending is.stream before in
      record { ending = fault at f; stream = subst (λ p. IsStream s more p (fault at f)) (sym (append-nil packets ∙ same.0)) now; fault = refl }
  gains_more packets last Stopped is (others, at, f, before, now) =
      let same = one_stream s are bytes packets others is.ending (fault at f) is.stream before in
      record {
        ending = fault at f;
        stream = subst (λ p. IsStream s more p (fault at f)) (sym (append-nil packets ∙ same.0)) now;
        fault = ap fault_of (sym same.1) ∙ is.fault;
      }

adds_on : (s : Sizes) → AreSettings s → (front bytes : List ℕ) (steps : List Step) (packets : List (ℕ × Packet)) (last : Option (ℕ × PacketFault))
    → Told s front packets last → Answered s front bytes steps → Told s (front ++ bytes) (packets ++ packets_in steps) (fault_in last steps)
adds_on s are front [] [] packets last is answered =
    subst (λ b. Told s b (packets ++ []) last) (sym (append-nil front)) (subst (λ p. Told s front p last) (sym (append-nil packets)) is)
adds_on s are front (byte ∷ bytes) (step ∷ steps) packets last is (gains, later) =
    subst (λ b. Told s b (packets ++ (told step ++ packets_in steps)) (fault_in (fault_after last step) steps)) (append_assoc front (byte ∷ []) bytes)
    (subst (λ p. Told s ((front ++ byte ∷ []) ++ bytes) p (fault_in (fault_after last step) steps)) (append_assoc packets (told step) (packets_in steps))
    (adds_on s are (front ++ byte ∷ []) bytes steps (packets ++ told step) (fault_after last step) (gains_more s are front byte packets last step is gains)
    later))
adds_on s are front [] (step ∷ steps) packets last is answered = absurd answered
adds_on s are front (byte ∷ bytes) [] packets last is answered = absurd answered

-- no byte, no packet
no_sync_in_nothing : (at : ℕ) → SyncAt at [] → ⊥
no_sync_in_nothing zero is = absurd cc
no_sync_in_nothing (suc at) is = absurd cc

pub nothing_is_a_stream : (s : Sizes) → IsStream s [] [] no_sync
nothing_is_a_stream s = inr (no_sync_in_nothing, refl, refl)

pub nothing_told : (s : Sizes) → Told s [] [] None
nothing_told s = record { ending = no_sync; stream = nothing_is_a_stream s; fault = refl }

pub add_up : (s : Sizes) → AreSettings s → (bytes : List ℕ) (steps : List Step) → Answered s [] bytes steps → AddUp s bytes steps
add_up s are bytes steps answered =
    let all = adds_on s are [] bytes steps [] None (nothing_told s) answered in
    record { ending = all.ending; stream = all.stream; fault = all.fault }

-- ---- the values of a packet

last_in_range : (s : Sizes) (from : ℕ) (bytes : List ℕ) (packets : List (ℕ × Packet)) (at : ℕ) (packet : Packet) (ending : Ending) → Small bytes
    → Parses s from bytes (packets ++ (at, packet) ∷ []) ending → IsPacket s packet
last_in_range s from bytes [] at packet ending small (text, rest, starts, parts, spells, is) = values_fit s packet text
    (small_front bytes text rest parts small) spells
last_in_range s from bytes (p ∷ packets) at packet ending small (text, rest, starts, parts, spells, is) =
    last_in_range s (from + length text) rest packets at packet ending (small_back bytes text rest parts small) is

pub packet_in_range : (s : Sizes) (bytes : List ℕ) (byte at : ℕ) (packet : Packet) → Small bytes → byte < 256 → Gains s bytes byte (Whole at packet)
    → IsPacket s packet
packet_in_range s bytes byte at packet small fits (others, ending, before, inl (from, first, is)) =
    let all = All-append (λ (b : ℕ). b < 256) bytes (byte ∷ []) small (All-cons (λ (b : ℕ). b < 256) byte [] fits (All-nil (λ (b : ℕ). b < 256))) in
    last_in_range s from (drop from (bytes ++ byte ∷ [])) others at packet clean (All-drop (λ (b : ℕ). b < 256) from (bytes ++ byte ∷ []) all) is
packet_in_range s bytes byte at packet small fits (others, ending, before, inr (none, nothing, e)) = absurd cc
