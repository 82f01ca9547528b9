-- How the parse of a stream goes on by the bytes behind it.
use Rattle.std.proofs.Common.{◌≡◌, ℕ, ◌+◌, ◌<◌, ◌≤◌, List, [], ◌∷◌, ◌++◌, length, take, drop}
use Rattle.std.proofs.Common.{refl, sym, ap, subst, ◌∙◌, inl, inr, arith, length-append, append_assoc, append-nil, nat_eq}
use Rattle.std.specs.List.{starts_with}
use Rattle.std.proofs.lemmas.Bool.Decides.{Decides-eqb}
use Rattle.std.proofs.lemmas.List.{drop_at, drop-append-le, take-append-drop, length-drop, length-take-le}
use Rattle.std.proofs.lemmas.Slice.Eq.{starts_is}
use Rattle.etm_types.specs.Settings.{Sizes}
use Rattle.packet_grammar.specs.declared.packet.Packet.{Packet}
use Rattle.packet_grammar.specs.declared.fault.PacketFault.{PacketFault}
use Rattle.packet_grammar.specs.Parsed.{Ending, clean, fault, Parses, sync, SyncAt, FirstSync, IsStream}
use Rattle.packet_grammar.specs.Laws.{FaultStays, GoesOnByAFault, GoesOnByAPacket}

-- an A-sync with what stands before and behind it
pub record SyncIn (at : ℕ) (bytes : List ℕ) : Type 0 where
  pub front : List ℕ
  pub rest : List ℕ
  pub parts : bytes ≡ front ++ (sync ++ rest)
  pub place : length front ≡ at

pub sync_in : (at : ℕ) (bytes : List ℕ) → SyncAt at bytes → SyncIn at bytes
sync_in at bytes here =
    let e : drop at bytes ≡ sync ++ drop 12 (drop at bytes) =
    (starts_is Decides-eqb (drop at bytes) sync (starts_with nat_eq (drop at bytes) sync) refl).0 here in
    let some : at ≤ length bytes = omega (arith, ap length e, length-drop at bytes) in
    record {
      front = take at bytes;
      rest = drop 12 (drop at bytes);
      parts = sym (take-append-drop at bytes)
          ∙ ap (λ t. take at bytes ++ t) e;
      place = length-take-le at bytes some;
    }

pub sync_out : (at : ℕ) (bytes : List ℕ) → SyncIn at bytes → SyncAt at bytes
sync_out at bytes is =
    let e : drop at bytes ≡ sync ++ is.rest = ap (λ t. drop at t) is.parts ∙ drop_at is.front (sync ++ is.rest) at is.place in
    (starts_is Decides-eqb (drop at bytes) sync (starts_with nat_eq (drop at bytes) sync) refl).1 is.rest e

pub sync_on : (at : ℕ) (bytes more : List ℕ) → SyncIn at bytes → SyncIn at (bytes ++ more)
sync_on at bytes more is = record {
  front = is.front;
  rest = is.rest ++ more;
  parts = ap (λ t. t ++ more) is.parts ∙ append_assoc is.front (sync ++ is.rest) more;
  place = is.place;
}

-- the last byte of a list
pub strip : (xs ys : List ℕ) (x y : ℕ) → xs ++ x ∷ [] ≡ ys ++ y ∷ [] → (xs ≡ ys) × (x ≡ y)
strip [] [] x y e = (refl, cc)
strip [] (b ∷ ys) x y e = absurd (omega (arith, ap length e, length-append ys (y ∷ [])))
strip (a ∷ xs) [] x y e = absurd (omega (arith, ap length e, length-append xs (x ∷ [])))
strip (a ∷ xs) (b ∷ ys) x y e =
    let first : a ≡ b = cc in
    let others : xs ++ x ∷ [] ≡ ys ++ y ∷ [] = cc in
    let later = strip xs ys x y others in
    ((λ i. first i ∷ later.0 i), later.1)

pub record Last (b : ℕ) (bytes : List ℕ) : Type 0 where
  pub init : List ℕ
  pub last : ℕ
  pub parts : b ∷ bytes ≡ init ++ last ∷ []

pub last_of : (b : ℕ) (bytes : List ℕ) → Last b bytes
last_of b [] = record { init = []; last = b; parts = refl }
last_of b (c ∷ bytes) = let later = last_of c bytes in record { init = b ∷ later.init; last = later.last; parts = ap (λ t. b ∷ t) later.parts }

-- an A-sync that does not end with the last byte stood there before
sync_before : (at x : ℕ) (bytes front rest : List ℕ) → bytes ++ x ∷ [] ≡ front ++ (sync ++ rest) → length front ≡ at → 0 < length rest → SyncIn at bytes
sync_before at x bytes front [] parts place some = absurd (omega (arith, some))
sync_before at x bytes front (b ∷ rest) parts place some =
    let l = last_of b rest in
    let whole : front ++ (sync ++ (l.init ++ l.last ∷ [])) ≡ (front ++ (sync ++ l.init)) ++ l.last ∷ [] =
    sym (append_assoc front (sync ++ l.init) (l.last ∷ [])) in
    let same = strip bytes (front ++ (sync ++ l.init)) x l.last (parts ∙ ap (λ t. front ++ (sync ++ t)) l.parts ∙ whole) in
    record { front = front; rest = l.init; parts = same.0; place = place }

pub sync_earlier : (at x : ℕ) (bytes : List ℕ) (is : SyncIn at (bytes ++ x ∷ [])) → 0 < length is.rest → SyncIn at bytes
sync_earlier at x bytes is some = sync_before at x bytes is.front is.rest is.parts is.place some

-- the first A-sync stays the first
first_on_byte : (at x : ℕ) (bytes : List ℕ) → FirstSync at bytes → FirstSync at (bytes ++ x ∷ [])
first_on_byte at x bytes first = record {
  here = sync_out at (bytes ++ x ∷ []) (sync_on at bytes (x ∷ []) (sync_in at bytes first.here));
  none_before = λ before lt there.
      let old = sync_in at bytes first.here in
      let new = sync_in before (bytes ++ x ∷ []) there in
      first.none_before before lt (sync_out before bytes (sync_earlier before x bytes new
      (omega (
        arith,
        lt,
        ap length old.parts,
        ap length new.parts,
        length-append bytes (x ∷ []),
        length-append old.front (sync ++ old.rest),
        length-append
            new.front (sync ++ new.rest),
        old.place,
        new.place,
      ))));
}

pub first_on : (at : ℕ) (bytes more : List ℕ) → FirstSync at bytes → FirstSync at (bytes ++ more)
first_on at bytes [] first = subst (λ t. FirstSync at t) (sym (append-nil bytes)) first
first_on at bytes (x ∷ more) first = subst (λ t. FirstSync at t) (append_assoc bytes (x ∷ []) more)
    (first_on at (bytes ++ x ∷ []) more (first_on_byte at x bytes first))

module _ (s : Sizes) where
  goes_on : (at place : ℕ) (bytes more : List ℕ) (packets others : List (ℕ × Packet)) (ending : Ending) → place ≡ at + length bytes
      → Parses s at bytes packets clean → Parses s place more others ending → Parses s at (bytes ++ more) (packets ++ others) ending
  goes_on at place bytes more [] others ending here is later =
      let same : place ≡ at = omega (arith, here, ap length is) in
      subst (λ b. Parses s at (b ++ more) others ending) (sym is) (subst (λ n. Parses s n more others ending) same later)
  goes_on at place bytes more (p ∷ packets) others ending here (text, rest, starts, parts, spells, is) later = (
    text,
    rest ++ more,
    starts,
    ap (λ t. t ++ more) parts ∙ append_assoc text rest more,
    spells,
    goes_on (at + length text) place rest more packets others ending (omega (arith, here, ap length parts, length-append text rest)) is later,
  )

  fault_on : (at : ℕ) (bytes more : List ℕ) (packets : List (ℕ × Packet)) (place : ℕ) (f : PacketFault) → Parses s at bytes packets (fault place f) → Parses s
      at (bytes ++ more) packets (fault place f)
  fault_on at bytes more [] place f (text, rest, starts, parts, spells) =
      (text, rest ++ more, starts, ap (λ t. t ++ more) parts ∙ append_assoc text rest more, spells)
  fault_on at bytes more (p ∷ packets) place f (text, rest, starts, parts, spells, is) =
      (text, rest ++ more, starts, ap (λ t. t ++ more) parts ∙ append_assoc text rest more, spells, fault_on (at + length text) rest more packets place f is)

  within : (at : ℕ) (bytes : List ℕ) → FirstSync at bytes → at ≤ length bytes
  within at bytes first = let old = sync_in at bytes first.here in omega (arith, ap length old.parts, length-append old.front (sync ++ old.rest), old.place)

  -- what whole packets and the bytes behind them are
  pub stream_on : (bytes more : List ℕ) (packets others : List (ℕ × Packet)) (ending : Ending) → IsStream s bytes packets clean → Parses s (length bytes) more
      others ending
      → IsStream s (bytes ++ more) (packets ++ others) ending
  stream_on bytes more packets others ending (inl (at, first, is)) later =
      let fits = within at bytes first in
      inl (
        at,
        first_on at bytes more first,
        subst (λ t. Parses s at t (packets ++ others) ending) (sym (drop-append-le at bytes more fits))
            (goes_on at (length bytes) (drop at bytes) more packets others ending (omega (arith, fits, length-drop at bytes)) is later),
      )
  stream_on bytes more packets others ending (inr (none, nothing, e)) later = absurd cc

  pub fault_stays : (bytes more : List ℕ) (packets : List (ℕ × Packet)) (place : ℕ) (f : PacketFault) → IsStream s bytes packets (fault place f) → IsStream s
      (bytes ++ more) packets (fault place f)
  fault_stays bytes more packets place f (inl (at, first, is)) =
      let fits = within at bytes first in
      inl (
        at,
        first_on at bytes more first,
        subst (λ t. Parses s at t packets (fault place f)) (sym (drop-append-le at bytes more fits))
            (fault_on at (drop at bytes) more packets place f is),
      )
  fault_stays bytes more packets place f (inr (none, nothing, e)) = absurd cc

pub goes_on_by_a_packet : GoesOnByAPacket
goes_on_by_a_packet s bytes text packets packet is spells =
    stream_on s bytes text packets ((length bytes, packet) ∷ []) clean is (text, [], refl, sym (append-nil text), spells, refl)

pub goes_on_by_a_fault : GoesOnByAFault
goes_on_by_a_fault s bytes text rest packets f is spells =
    subst (λ p. IsStream s (bytes ++ (text ++ rest)) p (fault (length bytes) f)) (append-nil packets)
    (stream_on s bytes (text ++ rest) packets [] (fault (length bytes) f) is (text, rest, refl, refl, spells))

pub fault_stays_there : FaultStays
fault_stays_there s bytes more packets at f is = fault_stays s bytes more packets at f is
