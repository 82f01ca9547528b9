-- An A-sync in the bytes of a clean stream is that of a packet, and the stream goes on from there.
use Rattle.std.proofs.Common.{IsTrue, ◌≡◌, ◌⊎◌, ℕ, zero, suc, ◌+◌, ◌-◌, ◌<◌, ◌≤◌, List, [], ◌∷◌, ◌++◌, length, drop, refl, sym, ap, subst, ◌∙◌, inl}
use Rattle.std.proofs.Common.{inr, arith, nat_eq}
use Rattle.std.specs.Prelude.{Contains}
use Rattle.std.specs.List.{starts_with}
use Rattle.std.proofs.lemmas.Bool.{cases_lt}
use Rattle.std.proofs.lemmas.List.{drop-drop}
use Rattle.etm_types.specs.Settings.{Sizes, AreSettings}
use Rattle.packet_grammar.specs.declared.packet.Packet.{Packet}
use Rattle.packet_grammar.specs.declared.packet.Packet.TheVariants.{Async}
use Rattle.packet_grammar.specs.Parsed.{clean, Parses, sync, SyncAt, IsStream}
use Rattle.packet_grammar.specs.Spelling.{SpellsPacket}
use Rattle.packet_grammar.specs.Entering.{earlier}
use Rattle.packet_grammar.specs.Laws.{EachSyncIsAPacket, LastBytesAreAStream}
use Rattle.packet_grammar.proofs.Zeros.{zeros, dropped, never_eleven}
use Rattle.packet_grammar.proofs.Streams.{none_in, same_pair, split_sync}
use Rattle.packet_grammar.proofs.Tame.{tame}

-- an A-sync in bytes from an offset on is that of a packet, and the bytes behind it are the packets behind that one
pub record StandsAt (s : Sizes) (at offset : ℕ) (bytes : List ℕ) (packets : List (ℕ × Packet)) : Type 0 where
  pub front : List (ℕ × Packet)
  pub rest : List (ℕ × Packet)
  pub split : packets ≡ front ++ (at + offset, Async) ∷ rest
  pub parses : Parses s (at + offset) (drop offset bytes) ((at + offset, Async) ∷ rest) clean

eleven : (j : ℕ) (bytes : List ℕ) → SyncAt j bytes → zeros (drop j bytes) ≡ 11
eleven j bytes here = ap zeros (split_sync (drop j bytes) here)

-- ---- the front of packets

sync_zeros : (rest : List ℕ) → zeros (sync ++ rest) ≡ 11
sync_zeros rest = refl

head_zeros : (s : Sizes) → AreSettings s → (at : ℕ) (bytes : List ℕ) (packets : List (ℕ × Packet)) → Parses s at bytes packets clean
    → (zeros bytes ≤ 1) ⊎ (zeros bytes ≡ 11)
head_zeros s are at bytes [] is = inl (omega (arith, ap zeros is))
head_zeros s are at bytes (p ∷ packets) (text, rest, here, parts, spells, later) = elim (tame s are p.1 text spells) [
  | inl e ↦
      let t : text ≡ sync = subst (λ q. SpellsPacket s q text) e spells in
      inr (ap zeros (parts ∙ ap (λ l. l ++ rest) t) ∙ sync_zeros rest)
  | inr t ↦ inl (subst (λ n. n ≤ 1) (ap zeros (sym parts)) (t.head rest))
]

-- ---- within one packet

drop_front : (j : ℕ) (text rest : List ℕ) → j < length text → (drop j (text ++ rest) ≡ drop j text ++ rest) × (0 < length (drop j text))
drop_front j [] rest lt = absurd (omega (arith, lt))
drop_front zero (b ∷ text) rest lt = (refl, omega arith)
drop_front (suc j) (b ∷ text) rest lt = drop_front j text rest (omega (arith, lt))

drop_past : (j : ℕ) (text rest : List ℕ) → drop (length text + j) (text ++ rest) ≡ drop j rest
drop_past j [] rest = ap (λ n. drop n rest) (omega arith)
drop_past j (b ∷ text) rest =
    ap (λ n. drop n (b ∷ text ++ rest)) (let e : length (b ∷ text) + j ≡ suc (length text + j) = omega arith in e) ∙ drop_past j text rest

-- behind the first byte of an A-sync fewer than eleven 00 follow
abbrev row : ℕ → List ℕ → List ℕ
row zero rest = 0x80 ∷ rest
row (suc n) rest = 0 ∷ row n rest

left_in : (n j : ℕ) (rest : List ℕ) → j ≤ n → zeros (drop j (row n rest)) + j ≡ n
left_in zero zero rest le = omega arith
left_in zero (suc j) rest le = absurd (omega (arith, le))
left_in (suc n) zero rest le = omega (arith, left_in n zero rest (omega arith))
left_in (suc n) (suc j) rest le = omega (arith, left_in n j rest (omega (arith, le)))

few_left : (j : ℕ) (rest : List ℕ) → suc j < 12 → zeros (drop (suc j) (sync ++ rest)) ≡ 11 → ⊥
few_left j rest lt e = omega (arith, left_in 11 (suc j) rest (omega (arith, lt)), e)

within : (s : Sizes) → AreSettings s → (at j : ℕ) (p : ℕ × Packet) (text rest : List ℕ) (packets : List (ℕ × Packet))
    → SpellsPacket s p.1 text → Parses s at rest packets clean
    → suc j < length text → SyncAt (suc j) (text ++ rest) → ⊥
within s are at j p text rest packets spells later lt here = elim (tame s are p.1 text spells) [
  | inl e ↦
      let t : text ≡ sync = subst (λ q. SpellsPacket s q text) e spells in
      few_left j rest (omega (arith, lt, ap length t)) (subst (λ l. zeros (drop (suc j) (l ++ rest)) ≡ 11) t (eleven (suc j) (text ++ rest) here))
  | inr t ↦
      let d = drop_front (suc j) text rest lt in
      never_eleven (drop (suc j) text) rest (dropped (suc j) text 9 (omega arith) t.calm) d.1
      (head_zeros s are at rest packets later) (ap zeros (sym d.0) ∙ eleven (suc j) (text ++ rest) here)
]

-- at the front of a packet: then it is an A-sync
at_front : (s : Sizes) → AreSettings s → (at : ℕ) (p : ℕ × Packet) (text rest : List ℕ) (packets : List (ℕ × Packet))
    → SpellsPacket s p.1 text → Parses s at rest packets clean
    → SyncAt 0 (text ++ rest) → p.1 ≡ Async
at_front s are at p text rest packets spells later here = elim (tame s are p.1 text spells) [
  | inl e ↦ e
  | inr t ↦ absurd (omega (arith, t.head rest, eleven 0 (text ++ rest) here))
]

-- ---- in all of the bytes

behind_front : (s : Sizes) (at j : ℕ) (bytes : List ℕ) (p : ℕ × Packet) (text rest : List ℕ) (packets : List (ℕ × Packet)) → bytes ≡ text ++ rest
    → StandsAt s (at + length text) j rest packets → StandsAt s at (length text + j) bytes (p ∷ packets)
behind_front s at j bytes p text rest packets parts f =
    let place : at + length text + j ≡ at + (length text + j) = omega arith in
    record {
      front = p ∷ f.front;
      rest = f.rest;
      split = ap (λ l. p ∷ l) (f.split ∙ ap (λ n. f.front ++ (n, Async) ∷ f.rest) place);
      parses = subst (λ n. Parses s n (drop (length text + j) bytes) ((n, Async) ∷ f.rest) clean) place
          (subst (λ l. Parses s (at + length text + j) l ((at + length text + j, Async) ∷ f.rest) clean)
          (sym (drop_past j text rest) ∙ ap (drop (length text + j)) (sym parts)) f.parses);
    }

by_place : (s : Sizes) → AreSettings s → (at j : ℕ) (bytes : List ℕ) (p : ℕ × Packet) (text rest : List ℕ) (packets : List (ℕ × Packet))
    → p.0 ≡ at → bytes ≡ text ++ rest
    → SpellsPacket s p.1 text → Parses s (at + length text) rest packets clean → SyncAt j (text ++ rest)
    → ((i : ℕ) → SyncAt i rest → StandsAt s (at + length text) i rest packets) → (j < length text) ⊎ (length text ≤ j) → StandsAt s at j bytes (p ∷ packets)
by_place s are at j bytes p text rest packets place parts spells later here more (inr past) =
    let i = j - length text in
    let there : j ≡ length text + i = omega (arith, past) in
    let next : SyncAt i rest = subst (λ l. IsTrue (starts_with nat_eq l sync)) (ap (λ n. drop n (text ++ rest)) there ∙ drop_past i text rest) here in
    subst (λ n. StandsAt s at n bytes (p ∷ packets)) (sym there) (behind_front s at i bytes p text rest packets parts (more i next))
by_place s are at zero bytes p text rest packets place parts spells later here more (inl lt) =
    let is : p.1 ≡ Async = at_front s are (at + length text) p text rest packets spells later here in
    let same : p ≡ (at + 0, Async) = same_pair p (at + 0, Async) (place ∙ omega arith) is in
    let parses : Parses s (at + 0) bytes (p ∷ packets) clean =
    subst (λ n. Parses s n bytes (p ∷ packets) clean) (let x : at ≡ at + 0 = omega arith in x) (text, rest, place, parts, spells, later) in
    record {
      front = [];
      rest = packets;
      split = ap (λ q. q ∷ packets) same;
      parses = subst (λ q. Parses s (at + 0) bytes (q ∷ packets) clean) same parses;
    }
by_place s are at (suc k) bytes p text rest packets place parts spells later here more (inl lt) =
    absurd (within s are (at + length text) k p text rest packets spells later lt here)

pub found : (s : Sizes) → AreSettings s → (at j : ℕ) (bytes : List ℕ) (packets : List (ℕ × Packet)) → Parses s at bytes packets clean
    → SyncAt j bytes → StandsAt s at j bytes packets
found s are at j bytes [] is here = absurd (none_in j (subst (SyncAt j) is here))
found s are at j bytes (p ∷ packets) (text, rest, place, parts, spells, later) here =
    by_place s are at j bytes p text rest packets place parts spells later (subst (SyncAt j) parts here)
    (λ i next. found s are (at + length text) i rest packets later next) (cases_lt j (length text))

-- ---- a stream whose first bytes are missing

earlier_parses : (s : Sizes) (k at : ℕ) (bytes : List ℕ) (packets : List (ℕ × Packet)) → Parses s (k + at) bytes packets clean
    → Parses s at bytes (earlier k packets) clean
earlier_parses s k at bytes [] is = is
earlier_parses s k at bytes (p ∷ packets) (text, rest, place, parts, spells, later) = (
  text,
  rest,
  (let e : p.0 - k ≡ at = omega (arith, place) in e),
  parts,
  spells,
  earlier_parses s k (at + length text) rest packets (subst (λ n. Parses s n rest packets clean)
      (let e : k + at + length text ≡ k + (at + length text) = omega arith in e) later),
)

-- the A-sync at this place of a stream
record IsInStream (s : Sizes) (bytes : List ℕ) (packets : List (ℕ × Packet)) (place : ℕ) : Type 0 where
  front : List (ℕ × Packet)
  rest : List (ℕ × Packet)
  parts : packets ≡ front ++ (place, Async) ∷ rest
  parses : Parses s place (drop place bytes) ((place, Async) ∷ rest) clean

in_parsed : (s : Sizes) → AreSettings s → (at j place : ℕ) (bytes : List ℕ) (packets : List (ℕ × Packet)) → Parses s at (drop at bytes) packets clean
    → at + j ≡ place → SyncAt place bytes → IsInStream s bytes packets place
in_parsed s are at j place bytes packets parses there here =
    let same : drop j (drop at bytes) ≡ drop place bytes = drop-drop j at bytes ∙ ap (λ n. drop n bytes) there in
    let f = found s are at j (drop at bytes) packets parses (subst (λ l. IsTrue (starts_with nat_eq l sync)) (sym same) here) in
    record {
      front = f.front;
      rest = f.rest;
      parts = f.split ∙ ap (λ n. f.front ++ (n, Async) ∷ f.rest) there;
      parses = subst (λ n. Parses s n (drop place bytes) ((n, Async) ∷ f.rest) clean) there
          (subst (λ l. Parses s (at + j) l ((at + j, Async) ∷ f.rest) clean) same f.parses);
    }

in_stream : (s : Sizes) → AreSettings s → (bytes : List ℕ) (packets : List (ℕ × Packet)) (place : ℕ) → IsStream s bytes packets clean → SyncAt place bytes
    → IsInStream s bytes packets place
in_stream s are bytes packets place (inr (none, more, ends)) here = absurd (none place here)
in_stream s are bytes packets place (inl (at, first, parses)) here = elim (cases_lt place at) [
  | inl lt ↦ absurd (first.none_before place lt here)
  | inr le ↦ in_parsed s are at (place - at) place bytes packets parses (omega (arith, le)) here
]

contained : (front rest : List (ℕ × Packet)) (p : ℕ × Packet) → Contains (front ++ p ∷ rest) p
contained [] rest p = (0, omega arith, refl)
contained (q ∷ front) rest p = let c = contained front rest p in (suc c.0, omega (arith, c.1), c.2)

pub each_sync_is_a_packet : EachSyncIsAPacket
each_sync_is_a_packet s are bytes packets at is here =
    let f = in_stream s are bytes packets at is here in
    subst (λ ps. Contains ps (at, Async)) (sym f.parts) (contained f.front f.rest (at, Async))

pub last_bytes_are_a_stream : LastBytesAreAStream
last_bytes_are_a_stream s are bytes packets missing offset is first =
    let there = drop-drop offset missing bytes in
    let here : SyncAt (missing + offset) bytes = subst (λ l. IsTrue (starts_with nat_eq l sync)) there first.here in
    let f = in_stream s are bytes packets (missing + offset) is here in
    let packet : ℕ × Packet = (missing + offset, Async) in
    let parsed = subst (λ l. Parses s (missing + offset) l (packet ∷ f.rest) clean) (sym there) f.parses in
    record {
      front = f.front;
      rest = f.rest;
      parts = f.parts;
      stream = inl (offset, first, earlier_parses s missing offset (drop offset (drop missing bytes)) (packet ∷ f.rest) parsed);
    }
