-- Streams that are read from a place in the middle on, worked out by hand, and streams whose A-syncs are not all packets.
use Rattle.std.proofs.Common.{ℕ, zero, suc, ◌<◌, List, [], ◌∷◌, ◌++◌, false, Some, None, ap, refl, inl, arith}
use Rattle.std.specs.Prelude.{Contains, replicate}
use Rattle.etm_types.specs.Settings.{Sizes}
use Rattle.etm_types.specs.declared.address.AddrForm.TheVariants.{Long64}
use Rattle.packet_grammar.specs.declared.packet.Packet.{Packet}
use Rattle.packet_grammar.specs.declared.packet.Packet.TheVariants.{Async, Commit, CtxInfo, Addr, On}
use Rattle.packet_grammar.specs.declared.fault.PacketFault.TheVariants.{Refused}
use Rattle.packet_grammar.specs.declared.fault.RefusedKind.TheVariants.{Q}
use Rattle.packet_grammar.specs.Entering.{EntersAt}
use Rattle.packet_grammar.specs.Faults.{in_header}
use Rattle.packet_grammar.specs.Headers.{refused_headers}
use Rattle.packet_grammar.specs.Numbers.{little}
use Rattle.packet_grammar.specs.Parsed.{clean, fault, SyncAt, IsStream}

-- eleven 00, and 80
abbrev a_sync : List ℕ
a_sync = 0x00 ∷ 0x00 ∷ 0x00 ∷ 0x00 ∷ 0x00 ∷ 0x00 ∷ 0x00 ∷ 0x00 ∷ 0x00 ∷ 0x00 ∷ 0x00 ∷ 0x80 ∷ []

-- ---- the first 11 bytes are missing: the last byte of an A-sync is passed over, and so is the commit behind it

abbrev left_of_the_first : List ℕ
left_of_the_first = 0x80 ∷ 0x2d ∷ 0x05 ∷ a_sync ++ 0x04 ∷ []

none_before_3 : (before : ℕ) → before < 3 → SyncAt before left_of_the_first → ⊥
none_before_3 zero below here = absurd cc
none_before_3 (suc zero) below here = absurd cc
none_before_3 (suc (suc zero)) below here = absurd cc
none_before_3 (suc (suc (suc before))) below here = absurd (omega (arith, below))

pub entered_at_the_second : (s : Sizes)
    → EntersAt s (a_sync ++ 0x2d ∷ 0x05 ∷ a_sync ++ 0x04 ∷ []) ((0, Async) ∷ (12, Commit 5) ∷ (14, Async) ∷ (26, On) ∷ []) 11 3
entered_at_the_second s =
    record {
      front = (0, Async) ∷ (12, Commit 5) ∷ [];
      rest = (26, On) ∷ [];
      parts = refl;
      stream = inl (
        3,
        record { here = refl; none_before = none_before_3 },
        (a_sync, 0x04 ∷ [], refl, refl, refl, (0x04 ∷ [], [], refl, refl, refl, refl)),
      );
    }

-- ---- the eight 00 of an address stand before those of an A-sync, of which the last eleven are its own

abbrev zeros_before : List ℕ
zeros_before = 0x9d ∷ replicate 8 0 ++ a_sync

none_before_9 : (before : ℕ) → before < 9 → SyncAt before zeros_before → ⊥
none_before_9 zero below here = absurd cc
none_before_9 (suc zero) below here = absurd cc
none_before_9 (suc (suc zero)) below here = absurd cc
none_before_9 (suc (suc (suc zero))) below here = absurd cc
none_before_9 (suc (suc (suc (suc zero)))) below here = absurd cc
none_before_9 (suc (suc (suc (suc (suc zero))))) below here = absurd cc
none_before_9 (suc (suc (suc (suc (suc (suc zero)))))) below here = absurd cc
none_before_9 (suc (suc (suc (suc (suc (suc (suc zero))))))) below here = absurd cc
none_before_9 (suc (suc (suc (suc (suc (suc (suc (suc zero)))))))) below here = absurd cc
none_before_9 (suc (suc (suc (suc (suc (suc (suc (suc (suc before))))))))) below here = absurd (omega (arith, below))

pub entered_behind_zeros : (s : Sizes) → EntersAt s (a_sync ++ zeros_before) ((0, Async) ∷ (12, Addr (Long64 0) None) ∷ (21, Async) ∷ []) 12 9
entered_behind_zeros s =
    record {
      front = (0, Async) ∷ (12, Addr (Long64 0) None) ∷ [];
      rest = [];
      parts = refl;
      stream = inl (9, record { here = refl; none_before = none_before_9 }, (a_sync, [], refl, refl, refl, refl));
    }

-- ---- near misses

abbrev one_packet : List (ℕ × Packet)
one_packet = (0, Async) ∷ []

no_other : Contains one_packet (13, Async) → ⊥
no_other (zero, within, is) = omega (arith, ap (λ (p : ℕ × Packet). p.0) is)
no_other (suc k, within, is) = omega (arith, within)

none_before_0 : (bytes : List ℕ) (before : ℕ) → before < 0 → SyncAt before bytes → ⊥
none_before_0 bytes before below here = absurd (omega (arith, below))

-- behind a fault an A-sync is no packet, since nothing is read there
record IsNoPacket (s : Sizes) : Type 0 where
  stream : IsStream s (a_sync ++ 0xa0 ∷ a_sync) one_packet (fault 12 (Refused Q 0xa0))
  here : SyncAt 13 (a_sync ++ 0xa0 ∷ a_sync)
  other : Contains one_packet (13, Async) → ⊥

behind_a_fault : (s : Sizes) → IsNoPacket s
unfolding refused_headers
behind_a_fault s =
    record {
      stream = inl (
        0,
        record { here = refl; none_before = none_before_0 (a_sync ++ 0xa0 ∷ a_sync) },
        (a_sync, 0xa0 ∷ a_sync, refl, refl, refl, (0xa0 ∷ [], a_sync, refl, refl, (in_header, (0xa0, refl, refl)))),
      );
      here = refl;
      other = no_other;
    }

-- a context ID of a size that no trace unit has could be the bytes of an A-sync
abbrev twelve_bytes : Sizes
twelve_bytes = record { depth = 0; vmid_bytes = 0; cid_bytes = 12 }

abbrev context : Packet
context = CtxInfo (record { el = 0; ns = false; vmid = None; cid = Some (little a_sync) })

abbrev with_context : List (ℕ × Packet)
with_context = (0, Async) ∷ (12, context) ∷ []

no_second : Contains with_context (14, Async) → ⊥
no_second (zero, within, is) = omega (arith, ap (λ (p : ℕ × Packet). p.0) is)
no_second (suc zero, within, is) = omega (arith, ap (λ (p : ℕ × Packet). p.0) is)
no_second (suc (suc k), within, is) = omega (arith, within)

record IsContextId : Type 0 where
  stream : IsStream twelve_bytes (a_sync ++ 0x81 ∷ 0x90 ∷ a_sync) with_context clean
  here : SyncAt 14 (a_sync ++ 0x81 ∷ 0x90 ∷ a_sync)
  other : Contains with_context (14, Async) → ⊥

in_a_context_id : IsContextId
in_a_context_id = record {
  stream = inl (
    0,
    record { here = refl; none_before = none_before_0 (a_sync ++ 0x81 ∷ 0x90 ∷ a_sync) },
    (
      a_sync,
      0x81 ∷ 0x90 ∷ a_sync,
      refl,
      refl,
      refl,
      (
        0x81 ∷ 0x90 ∷ a_sync,
        [],
        refl,
        refl,
        (
          0x90 ∷ a_sync,
          refl,
          inl (None, [], a_sync, refl, refl, inl (Some (little a_sync), a_sync, [], refl, inl (a_sync, a_sync, [], refl, (refl, refl), refl), refl)),
        ),
        refl,
      ),
    ),
  );
  here = refl;
  other = no_second;
}
