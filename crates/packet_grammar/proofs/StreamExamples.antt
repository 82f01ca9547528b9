-- Streams with their packets and how they end, worked out by hand.
use Rattle.std.proofs.Common.{ℕ, zero, suc, ◌<◌, List, [], ◌∷◌, ◌++◌, None, Ok, refl, inl, inr, arith}
use Rattle.std.specs.Prelude.{All, replicate}
use Rattle.std.proofs.lemmas.List.Elements.{All-cons, All-nil}
use Rattle.etm_types.specs.Settings.{Sizes}
use Rattle.etm_types.specs.declared.address.AddrForm.TheVariants.{Long64}
use Rattle.packet_grammar.specs.declared.packet.Packet.TheVariants.{Async, Commit, Addr}
use Rattle.packet_grammar.specs.declared.fault.PacketFault.TheVariants.{Refused}
use Rattle.packet_grammar.specs.declared.fault.RefusedKind.TheVariants.{Q}
use Rattle.packet_grammar.specs.Headers.{refused_headers}
use Rattle.packet_grammar.specs.Faults.{in_header}
use Rattle.packet_grammar.specs.Parsed.{Begins, no_sync, clean, cut, fault, SyncAt, IsStream}

-- eleven 00, and 80
abbrev a_sync : List ℕ
a_sync = 0x00 ∷ 0x00 ∷ 0x00 ∷ 0x00 ∷ 0x00 ∷ 0x00 ∷ 0x00 ∷ 0x00 ∷ 0x00 ∷ 0x00 ∷ 0x00 ∷ 0x80 ∷ []

zeros_small : (n : ℕ) → All (λ x. x < 256) (replicate n 0)
zeros_small zero = All-nil (λ (x : ℕ). x < 256)
zeros_small (suc n) = All-cons (λ (x : ℕ). x < 256) 0 (replicate n 0) (omega arith) (zeros_small n)

none_before_0 : (bytes : List ℕ) (before : ℕ) → before < 0 → SyncAt before bytes → ⊥
none_before_0 bytes before below here = absurd (omega (arith, below))

-- 9d and a byte lack seven bytes of an address: of the stream, the last two bytes begin a packet
abbrev eight_zeros : List ℕ
eight_zeros = replicate 8 0

pub long_address_begins : (s : Sizes) → Begins s (0x9d ∷ 0x00 ∷ [])
long_address_begins s =
    record {
      outcome = Ok (Addr (Long64 0) None);
      more = replicate 7 0;
      some = omega arith;
      small = zeros_small 7;
      spells = (eight_zeros, refl, inl (eight_zeros, eight_zeros, [], refl, (refl, refl), refl));
    }

pub stream_is_cut : (s : Sizes) → IsStream s (a_sync ++ 0x9d ∷ 0x00 ∷ []) ((0, Async) ∷ []) (cut 2)
stream_is_cut s =
    inl (
      0,
      record { here = refl; none_before = none_before_0 (a_sync ++ 0x9d ∷ 0x00 ∷ []) },
      (a_sync, 0x9d ∷ 0x00 ∷ [], refl, refl, refl, (refl, omega arith, long_address_begins s)),
    )

-- a commit stands at 12, a fault behind it at 14, and what follows that one is not read
abbrev stream_with_a_fault : List ℕ
stream_with_a_fault = a_sync ++ 0x2d ∷ 0x05 ∷ 0xa0 ∷ 0xf7 ∷ []

pub stream_has_a_fault : (s : Sizes) → IsStream s stream_with_a_fault ((0, Async) ∷ (12, Commit 5) ∷ []) (fault 14 (Refused Q 0xa0))
unfolding refused_headers
stream_has_a_fault s =
    inl (
      0,
      record { here = refl; none_before = none_before_0 stream_with_a_fault },
      (
        a_sync,
        0x2d ∷ 0x05 ∷ 0xa0 ∷ 0xf7 ∷ [],
        refl,
        refl,
        refl,
        (0x2d ∷ 0x05 ∷ [], 0xa0 ∷ 0xf7 ∷ [], refl, refl, (0x05 ∷ [], refl, refl), (0xa0 ∷ [], 0xf7 ∷ [], refl, refl, (in_header, (0xa0, refl, refl)))),
      ),
    )

-- of more zeros than an A-sync has, the last eleven are its own
none_before_1 : (before : ℕ) → before < 1 → SyncAt before (0x00 ∷ a_sync) → ⊥
none_before_1 zero below here = absurd cc
none_before_1 (suc before) below here = absurd (omega (arith, below))

pub last_zeros_count : (s : Sizes) → IsStream s (0x00 ∷ a_sync) ((1, Async) ∷ []) clean
last_zeros_count s = inl (1, record { here = refl; none_before = none_before_1 }, (a_sync, [], refl, refl, refl, refl))

-- with a zero too few there is no A-sync, and no packet
abbrev ten_zeros_and_80 : List ℕ
ten_zeros_and_80 = replicate 10 0x00 ++ 0x80 ∷ []

nowhere : (at : ℕ) → SyncAt at ten_zeros_and_80 → ⊥
nowhere zero here = absurd cc
nowhere (suc zero) here = absurd cc
nowhere (suc (suc zero)) here = absurd cc
nowhere (suc (suc (suc zero))) here = absurd cc
nowhere (suc (suc (suc (suc zero)))) here = absurd cc
nowhere (suc (suc (suc (suc (suc zero))))) here = absurd cc
nowhere (suc (suc (suc (suc (suc (suc zero)))))) here = absurd cc
nowhere (suc (suc (suc (suc (suc (suc (suc zero))))))) here = absurd cc
nowhere (suc (suc (suc (suc (suc (suc (suc (suc zero)))))))) here = absurd cc
nowhere (suc (suc (suc (suc (suc (suc (suc (suc (suc zero))))))))) here = absurd cc
nowhere (suc (suc (suc (suc (suc (suc (suc (suc (suc (suc zero)))))))))) here = absurd cc
nowhere (suc (suc (suc (suc (suc (suc (suc (suc (suc (suc (suc zero))))))))))) here = absurd cc
nowhere (suc (suc (suc (suc (suc (suc (suc (suc (suc (suc (suc (suc at)))))))))))) here = absurd cc

pub too_few_zeros : (s : Sizes) → IsStream s ten_zeros_and_80 [] no_sync
too_few_zeros s = inr (nowhere, refl, refl)
