-- What a reader tells of the bytes at which it stands.
use Rattle.std.proofs.Common.{IsTrue, ◌≡◌, ℕ, List, length, refl, sym, ap, subst, inl, inr, arith, length-append}
use Rattle.std.specs.Prelude.{◌↔◌}
use Rattle.etm_types.specs.Settings.{Sizes}
use Rattle.packet_grammar.specs.declared.packet.Packet.{Packet}
use Rattle.packet_grammar.specs.Parsed.{Ending, no_sync, clean, cut, fault, FirstSync, IsStream}
use Rattle.packet_reader.specs.declared.phase.Phase.{Phase}
use Rattle.packet_reader.specs.declared.phase.Phase.TheVariants.{Hunting, Between, Within, Failed}
use Rattle.packet_reader.specs.States.{tree_of}
use Rattle.packet_reader.specs.Stands.{FitsPhase, InPhase, is_synced, rest_in, rest_of}
use Rattle.packet_grammar.proofs.GoesOn.{first_on}
use Rattle.packet_reader.proofs.Steps.{At, state_open, is_cut}

is_found : (s : Sizes) (bytes : List ℕ) (packets : List (ℕ × Packet)) (ending : Ending) → (ending ≡ no_sync → ⊥) → IsStream s bytes packets ending
    → (at : ℕ) × FirstSync at bytes
is_found s bytes packets ending goes (inl (at, first, is)) = (at, first)
is_found s bytes packets ending goes (inr (none, nothing, e)) = absurd (goes e)

not_clean : clean ≡ no_sync → ⊥
not_clean e = absurd cc

not_fault : (at : ℕ) (f : _) → fault at f ≡ no_sync → ⊥
not_fault at f e = absurd cc

pub synced_when : (s : Sizes) (phase : Phase) (start : ℕ) (bytes : List ℕ) → InPhase s phase start bytes
    → IsTrue (is_synced phase) ↔ ((at : ℕ) × FirstSync at bytes)
synced_when s (Hunting zeros) start bytes is = ((λ e. absurd cc), (λ found. absurd (is.0 found.0 found.1.here)))
synced_when s Between start bytes is = ((λ e. is_found s bytes is.1.0 clean not_clean is.1.1), (λ found. refl))
synced_when s (Within state) start bytes is =
    let old = is_found s is.front is.packets clean not_clean is.whole in
    let now : FirstSync old.0 bytes = subst (λ t. FirstSync old.0 t) (sym is.parts) (first_on old.0 is.front is.text old.1) in
    ((λ e. (old.0, now)), (λ found. refl))
synced_when s Failed start bytes is = ((λ e. is_found s bytes is.0 (fault is.1 is.2) (not_fault is.1 is.2) is.3), (λ found. refl))

pub rest_when : (s : Sizes) (phase : Phase) (start offset : ℕ) (bytes : List ℕ) → FitsPhase phase → length bytes ≡ offset → InPhase s phase start bytes
    → (packets : List (ℕ × Packet)) × (ending : Ending) × IsStream s bytes packets ending × (rest_in phase start offset ≡ rest_of ending)
rest_when s (Hunting zeros) start offset bytes fits all is = (_, no_sync, inr (is.0, refl, refl), refl)
rest_when s Between start offset bytes fits all is = (is.1.0, clean, is.1.1, refl)
rest_when s (Within state) start offset bytes fits all is =
    let a : At s (tree_of s state) start is.packets bytes =
    record { front = is.front; text = is.text; parts = is.parts; starts = is.starts; some = is.some; whole = is.whole; follows = is.follows } in (
      is.packets,
      cut (length is.text),
      is_cut s start is.packets bytes (tree_of s state) (state_open s state fits) a,
      omega
          (arith, all, ap length is.parts, length-append is.front is.text, is.starts),
    )
rest_when s Failed start offset bytes fits all is = (is.0, fault is.1 is.2, is.3, refl)
