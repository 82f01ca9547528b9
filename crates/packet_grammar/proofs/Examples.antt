-- Each law at bytes that are written out: what holds, and beside it what does not.
use Rattle.std.proofs.Common.{ℕ, zero, suc, ◌<◌, List, [], ◌∷◌, ◌++◌, Some, Ok, Err, refl, ap, inl, inr, arith}
use Rattle.std.specs.Prelude.{All}
use Rattle.std.proofs.lemmas.List.Elements.{All-cons, All-nil}
use Rattle.etm_types.specs.Settings.{Sizes, AreSettings}
use Rattle.packet_grammar.specs.declared.packet.Packet.{Packet}
use Rattle.packet_grammar.specs.declared.packet.Packet.TheVariants.{Async, On, Info, Commit}
use Rattle.packet_grammar.specs.declared.fault.PacketFault.TheVariants.{Reserved, InfoMode}
use Rattle.packet_grammar.specs.Parts.{Outcome}
use Rattle.packet_grammar.specs.Numbers.{Number}
use Rattle.packet_grammar.specs.Headers.{refused_headers}
use Rattle.packet_grammar.specs.Faults.{in_header, in_info}
use Rattle.packet_grammar.specs.Parsed.{Spells, Begins, clean, cut, sync, SyncAt, IsStream}
use Rattle.packet_grammar.specs.Laws.{AtMost}
use Rattle.packet_grammar.proofs.AllLaws.{none_begins_another, one_outcome, not_both}
use Rattle.packet_grammar.proofs.InRange.{values_fit}
use Rattle.packet_grammar.proofs.Streams.{sync_spells, one_stream}

-- depth 8, a VMID of one byte and a context ID of four
sizes : Sizes
sizes = record { depth = 8; vmid_bytes = 1; cid_bytes = 4 }

sizes_are : AreSettings sizes
unfolding sizes
sizes_are = record { depth = omega arith; vmid = refl; cid = refl }

one_small : (b : ℕ) → b < 256 → All (λ x. x < 256) (b ∷ [])
one_small b low = All-cons (λ (x : ℕ). x < 256) b [] low (All-nil (λ (x : ℕ). x < 256))

-- 04 spells Trace On, and so 04 04 spells nothing
pub on_spells : (s : Sizes) → Spells s (Ok On) (4 ∷ [])
on_spells s = refl

pub twice_on_spells_nothing : (s : Sizes) → AreSettings s → (outcome : Outcome Packet) → Spells s outcome (4 ∷ 4 ∷ []) → ⊥
twice_on_spells_nothing s are outcome is = absurd (let e = none_begins_another s are outcome (Ok On) (4 ∷ []) (4 ∷ []) is (on_spells s) in cc)

-- 2d 05 spells a commit of 5, as 2d 85 00 does, and not one of 6
pub commit_spells : (s : Sizes) → Spells s (Ok (Commit 5)) (45 ∷ 5 ∷ [])
commit_spells s = (5 ∷ [], refl, refl)

pub longer_commit_spells : (s : Sizes) → Spells s (Ok (Commit 5)) (45 ∷ 133 ∷ 0 ∷ [])
longer_commit_spells s = (133 ∷ 0 ∷ [], refl, inl (0, 0 ∷ [], [], refl, refl, refl))

count_of : Outcome Packet → ℕ
count_of (Ok (Commit n)) = n
count_of _ = 0

pub no_other_commit : (s : Sizes) → AreSettings s → Spells s (Ok (Commit 6)) (45 ∷ 5 ∷ []) → ⊥
unfolding count_of
no_other_commit s are is = absurd (omega (arith, ap count_of (one_outcome s are (Ok (Commit 5)) (Ok (Commit 6)) (45 ∷ 5 ∷ []) (commit_spells s) is)))

-- 2d begins a spelling, and so it has none at its front; 08 is reserved, and so it begins none
pub commit_begins : (s : Sizes) → Begins s (45 ∷ [])
commit_begins s = record { outcome = Ok (Commit 5); more = 5 ∷ []; some = omega arith; small = one_small 5 (omega arith); spells = commit_spells s }

pub reserved_spells : (s : Sizes) → Spells s (Err (Reserved 8)) (8 ∷ [])
unfolding refused_headers
reserved_spells s = (in_header, (8, refl, refl))

pub reserved_begins_none : (s : Sizes) → AreSettings s → Begins s (8 ∷ []) → ⊥
reserved_begins_none s are begun =
    not_both s are (8 ∷ []) begun (record { outcome = Err (Reserved 8); text = 8 ∷ []; rest = []; parts = refl; spells = reserved_spells s })

-- an INFO of 5 is refused at its last byte, and before it begins a spelling that is no packet's
pub mode_shown : (s : Sizes) → Spells s (Err (InfoMode 5)) (1 ∷ 1 ∷ 133 ∷ 0 ∷ [])
mode_shown s = (
  in_info,
  (
    1 ∷ 133 ∷ 0 ∷ [],
    refl,
    inr
        (InfoMode 5, refl, inr (InfoMode 5, refl, inl (5, 133 ∷ 0 ∷ [], [], refl, inl (0, 0 ∷ [], [], refl, refl, refl), refl))),
  ),
)

pub mode_begins : (s : Sizes) → Begins s (1 ∷ 1 ∷ 133 ∷ [])
mode_begins s = record { outcome = Err (InfoMode 5); more = 0 ∷ []; some = omega arith; small = one_small 0 (omega arith); spells = mode_shown s }

-- A trace info packet with all sections in five bytes each has 22 bytes. So 22 bytes are enough, and 21 are not.
zero_in_five : Number (Ok 0) (128 ∷ 128 ∷ 128 ∷ 128 ∷ 0 ∷ [])
zero_in_five =
    inl (
      0,
      128 ∷ 128 ∷ 128 ∷ 0 ∷ [],
      [],
      refl,
      inl
          (0, 128 ∷ 128 ∷ 0 ∷ [], [], refl, inl (0, 128 ∷ 0 ∷ [], [], refl, inl (0, 0 ∷ [], [], refl, refl, refl), refl), refl),
      refl,
    )

abbrev long_zero : List ℕ
long_zero = 128 ∷ 128 ∷ 128 ∷ 128 ∷ 0 ∷ []

abbrev long_info : List ℕ
long_info = 1 ∷ 15 ∷ long_zero ++ long_zero ++ long_zero ++ long_zero

pub long_info_spells : (s : Sizes) → Spells s (Ok (Info (Some 0) (Some 0) (Some 0) (Some 0))) long_info
long_info_spells s = (
  15 ∷ long_zero ++ long_zero ++ long_zero ++ long_zero,
  refl,
  inl (
    Some 0,
    long_zero,
    long_zero ++ long_zero ++ long_zero,
    refl,
    inl (0, long_zero, [], refl, inl (0, long_zero, [], refl, zero_in_five, refl), refl),
    inl (
      Some 0,
      long_zero,
      long_zero ++ long_zero,
      refl,
      inl (0, long_zero, [], refl, zero_in_five, refl),
      inl (
        Some 0,
        long_zero,
        long_zero,
        refl,
        inl (0, long_zero, [], refl, zero_in_five, refl),
        inl (Some 0, long_zero, [], refl, inl (0, long_zero, [], refl, zero_in_five, refl), refl),
      ),
    ),
  ),
)

pub more_than_21 : AtMost 21 → ⊥
more_than_21 most = absurd (omega (arith, most sizes sizes_are (Ok (Info (Some 0) (Some 0) (Some 0) (Some 0))) long_info (long_info_spells sizes)))

-- A byte, an A-sync and a Trace On are two packets, at 1 and at 13, and end clean. They do not end cut.
abbrev stream : List ℕ
stream = 7 ∷ sync ++ 4 ∷ []

none_before : (before : ℕ) → before < 1 → SyncAt before stream → ⊥
none_before zero below here = absurd cc
none_before (suc before) below here = absurd (omega (arith, below))

pub stream_parses : (s : Sizes) → IsStream s stream ((1, Async) ∷ (13, On) ∷ []) clean
stream_parses s =
    inl (1, record { here = refl; none_before = none_before }, (sync, 4 ∷ [], refl, refl, sync_spells s, (4 ∷ [], [], refl, refl, on_spells s, refl)))

pub stream_is_not_cut : (s : Sizes) → AreSettings s → IsStream s stream ((1, Async) ∷ []) (cut 1) → ⊥
stream_is_not_cut s are is = absurd (let same = one_stream s are stream ((1, Async) ∷ (13, On) ∷ []) ((1, Async) ∷ []) clean (cut 1) (stream_parses s) is in
    let e = same.1 in cc)

-- a commit has a number below 2^32, and so no bytes spell one of 2^32
pub too_large : (s : Sizes) (bytes : List ℕ) → All (λ b. b < 256) bytes → Spells s (Ok (Commit 4294967296)) bytes → ⊥
too_large s bytes small is = absurd (omega (arith, values_fit s (Commit 4294967296) bytes small is))
