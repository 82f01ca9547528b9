-- Each list of bytes is a stream, in one way alone.
use Rattle.std.proofs.Common.{IsTrue, ◌≡◌, ◌⊎◌, ℕ, zero, suc, ◌+◌, ◌<◌, ◌≤◌, Bool, true, false, List, [], ◌∷◌}
use Rattle.std.proofs.Common.{◌++◌, length, drop, Ok, Err, refl, sym, ap, subst, ◌∙◌, inl, inr, arith, length-append, nat_eq}
use Rattle.std.specs.Prelude.{All}
use Rattle.std.specs.List.{starts_with}
use Rattle.std.proofs.lemmas.Bool.{both_ways, cases_lt}
use Rattle.std.proofs.lemmas.List.Elements.{All-drop}
use Rattle.std.proofs.lemmas.List.{drop_at}
use Rattle.etm_types.specs.Settings.{Sizes, AreSettings}
use Rattle.packet_grammar.specs.declared.packet.Packet.{Packet}
use Rattle.packet_grammar.specs.declared.packet.Packet.TheVariants.{Async}
use Rattle.std.proofs.lemmas.Slice.Eq.{starts_is}
use Rattle.std.proofs.lemmas.Bool.Decides.{Decides-eqb}
use Rattle.packet_grammar.specs.declared.fault.PacketFault.{PacketFault}
use Rattle.packet_grammar.specs.Parts.{Outcome}
use Rattle.packet_grammar.specs.Parsed.{Spells, Begins, Ending, no_sync, clean, cut, fault, Parses, sync, SyncAt, FirstSync}
use Rattle.packet_grammar.specs.Laws.{EachIsAStream, OneStream, StartsWithSync, Stream}
use Rattle.packet_grammar.proofs.AllLaws.{some_byte, spells_apart, spells_covers, not_both}

pub packet_or_fault : (p : Packet) (f : PacketFault) → ◌≡◌ {A = Outcome Packet} (Ok p) (Err f) → ⊥
packet_or_fault p f e = absurd cc

pub same_packet : (p q : Packet) → ◌≡◌ {A = Outcome Packet} (Ok p) (Ok q) → p ≡ q
same_packet p q e = cc

same_fault : (f g : PacketFault) → ◌≡◌ {A = Outcome Packet} (Err f) (Err g) → f ≡ g
same_fault f g e = cc

pub same_pair : (p q : ℕ × Packet) → p.0 ≡ q.0 → p.1 ≡ q.1 → p ≡ q
same_pair (a, p) (b, q) e f = λ i. (e i, f i)

module _ (s : Sizes) (are : AreSettings s) where
  -- nothing is no packet
  pub nothing_whole : (bytes text rest : List ℕ) (outcome : Outcome Packet) → bytes ≡ [] → bytes ≡ text ++ rest → Spells s outcome text → ⊥
  nothing_whole bytes text rest outcome none parts is =
      absurd (omega (arith, ap length none, ap length parts, length-append text rest, some_byte s outcome text is))

  -- bytes that begin a spelling have none at their front
  pub only_begun : (bytes text rest : List ℕ) (outcome : Outcome Packet) → Begins s bytes → bytes ≡ text ++ rest → Spells s outcome text → ⊥
  only_begun bytes text rest outcome begun parts is = not_both s are bytes begun
      (record { outcome = outcome; text = text; rest = rest; parts = parts; spells = is })

  one_parse : (at at' : ℕ) (bytes bytes' : List ℕ) (packets others : List (ℕ × Packet)) (ending other : Ending) → at ≡ at' → bytes ≡ bytes'
      → Parses s at bytes packets ending → Parses s at' bytes' others other → (packets ≡ others) × (ending ≡ other)
  one_parse at at' bytes bytes' [] [] no_sync other e f is is' = absurd is
  one_parse at at' bytes bytes' [] [] clean no_sync e f is is' = absurd is'
  one_parse at at' bytes bytes' [] [] clean clean e f is is' = (refl, refl)
  one_parse at at' bytes bytes' [] [] clean (cut n) e f is is' = absurd (omega (arith, ap length is, ap length f, is'.0, is'.1))
  one_parse at at' bytes bytes' [] [] clean (fault place g) e f is (text, rest, here, parts, spells) = absurd
      (nothing_whole bytes text rest (Err g) is (f ∙ parts) spells)
  one_parse at at' bytes bytes' [] [] (cut n) no_sync e f is is' = absurd is'
  one_parse at at' bytes bytes' [] [] (cut n) clean e f is is' = absurd (omega (arith, ap length is', ap length f, is.0, is.1))
  one_parse at at' bytes bytes' [] [] (cut n) (cut m) e f is is' = (refl, ap (λ k. cut k) (sym is.0 ∙ ap length f ∙ is'.0))
  one_parse at at' bytes bytes' [] [] (cut n) (fault place g) e f is (text, rest, here, parts, spells) = absurd
      (only_begun bytes text rest (Err g) is.2 (f ∙ parts) spells)
  one_parse at at' bytes bytes' [] [] (fault place g) no_sync e f is is' = absurd is'
  one_parse at at' bytes bytes' [] [] (fault place g) clean e f (text, rest, here, parts, spells) is' = absurd
      (nothing_whole bytes' text rest (Err g) is' (sym f ∙ parts) spells)
  one_parse at at' bytes bytes' [] [] (fault place g) (cut n) e f (text, rest, here, parts, spells) is' = absurd
      (only_begun bytes' text rest (Err g) is'.2 (sym f ∙ parts) spells)
  one_parse at at' bytes bytes' [] [] (fault place g) (fault place' h) e f (text, rest, here, parts, spells) (text', rest', here', parts', spells') =
      let same = spells_apart s are (Err g) (Err h) text text' rest rest' spells spells' (sym parts ∙ f ∙ parts') in
      let places : place ≡ place' = here ∙ e ∙ sym here' in
      let faults : g ≡ h = same_fault g h same.outcomes in
      (refl, λ i. fault (places i) (faults i))
  one_parse at at' bytes bytes' [] (q ∷ others) no_sync other e f is is' = absurd is
  one_parse at at' bytes bytes' [] (q ∷ others) clean other e f is (text, rest, here, parts, spells, later) = absurd
      (nothing_whole bytes text rest (Ok q.1) is (f ∙ parts) spells)
  one_parse at at' bytes bytes' [] (q ∷ others) (cut n) other e f is (text, rest, here, parts, spells, later) = absurd
      (only_begun bytes text rest (Ok q.1) is.2 (f ∙ parts) spells)
  one_parse at at' bytes bytes' [] (q ∷ others) (fault place g) other e f (text, rest, here, parts, spells) (text', rest', here', parts', spells', later) =
      absurd (packet_or_fault q.1 g (sym (spells_apart s are (Err g) (Ok q.1) text text' rest rest' spells spells' (sym parts ∙ f ∙ parts')).outcomes))
  one_parse at at' bytes bytes' (p ∷ packets) [] ending no_sync e f is is' = absurd is'
  one_parse at at' bytes bytes' (p ∷ packets) [] ending clean e f (text, rest, here, parts, spells, later) is' = absurd
      (nothing_whole bytes' text rest (Ok p.1) is' (sym f ∙ parts) spells)
  one_parse at at' bytes bytes' (p ∷ packets) [] ending (cut n) e f (text, rest, here, parts, spells, later) is' = absurd
      (only_begun bytes' text rest (Ok p.1) is'.2 (sym f ∙ parts) spells)
  one_parse at at' bytes bytes' (p ∷ packets) [] ending (fault place g) e f (text, rest, here, parts, spells, later) (text', rest', here', parts', spells') =
      absurd (packet_or_fault p.1 g (spells_apart s are (Ok p.1) (Err g) text text' rest rest' spells spells' (sym parts ∙ f ∙ parts')).outcomes)
  one_parse at at' bytes bytes' (p ∷ packets) (q ∷ others) ending other e f (text, rest, here, parts, spells, later)
      (text', rest', here', parts', spells', later') =
      let same = spells_apart s are (Ok p.1) (Ok q.1) text text' rest rest' spells spells' (sym parts ∙ f ∙ parts') in
      let packet : p ≡ q = same_pair p q (here ∙ e ∙ sym here') (same_packet p.1 q.1 same.outcomes) in
      let places : at + length text ≡ at' + length text' = omega (arith, e, ap length same.texts) in
      let tails = one_parse (at + length text) (at' + length text') rest rest' packets others ending other places same.rests later later' in
      ((λ i. packet i ∷ tails.0 i), tails.1)

  pub record Parsed (at : ℕ) (bytes : List ℕ) : Type 0 where
    pub packets : List (ℕ × Packet)
    pub ending : Ending
    pub is : Parses s at bytes packets ending

  goes_on : (room at : ℕ) (bytes text rest : List ℕ) (outcome : Outcome Packet) → length bytes ≤ suc room → All (λ b. b < 256) bytes
      → bytes ≡ text ++ rest → Spells s outcome text → ((at : ℕ) (others : List ℕ) → length others ≤ room → All (λ b. b < 256) others → Parsed at others)
      → Parsed at bytes
  goes_on room at bytes text rest (Err f) fits bounded parts is later = record { packets = []; ending = fault at f; is = (text, rest, refl, parts, is) }
  goes_on room at bytes text rest (Ok p) fits bounded parts is later =
      let shorter : length rest ≤ room = omega (arith, ap length parts, length-append text rest, some_byte s (Ok p) text is, fits) in
      let dropped : drop (length text) bytes ≡ rest = ap (λ t. drop (length text) t) parts ∙ drop_at text rest (length text) refl in
      let within : All (λ b. b < 256) rest = subst (λ t. All (λ b. b < 256) t) dropped (All-drop (λ (b : ℕ). b < 256) (length text) bytes bounded) in
      let tail = later (at + length text) rest shorter within in
      record { packets = (at, p) ∷ tail.packets; ending = tail.ending; is = (text, rest, refl, parts, is, tail.is) }

  step : (room at b : ℕ) (bytes : List ℕ) → length (b ∷ bytes) ≤ suc room → All (λ b. b < 256) (b ∷ bytes)
      → ((at : ℕ) (others : List ℕ) → length others ≤ room → All (λ b. b < 256) others → Parsed at others) → Parsed at (b ∷ bytes)
  step room at b bytes fits bounded later = elim (spells_covers s are (b ∷ bytes) bounded) [
    | inl begun ↦ record { packets = []; ending = cut (length (b ∷ bytes)); is = (refl, omega arith, begun) }
    | inr x ↦ goes_on room at (b ∷ bytes) x.text x.rest x.outcome fits bounded x.parts x.spells later
  ]

  pub parsed : (room at : ℕ) (bytes : List ℕ) → length bytes ≤ room → All (λ b. b < 256) bytes → Parsed at bytes
  parsed room at [] fits bounded = record { packets = []; ending = clean; is = refl }
  parsed zero at (b ∷ bytes) fits bounded = absurd (omega (arith, fits))
  parsed (suc room) at (b ∷ bytes) fits bounded = step room at b bytes fits bounded (parsed room)

pub none_in : (at : ℕ) → SyncAt at [] → ⊥
none_in zero here = absurd cc
none_in (suc at) here = absurd cc

-- the first A-sync, or none
abbrev Hunted : List ℕ → Type 0
Hunted bytes = ((at : ℕ) × FirstSync at bytes) ⊎ ((at : ℕ) → SyncAt at bytes → ⊥)

not_before : (b : ℕ) (bytes : List ℕ) (at : ℕ) → starts_with nat_eq (b ∷ bytes) sync ≡ false → ((before : ℕ) → before < at → SyncAt before bytes → ⊥)
    → (before : ℕ) → before < suc at → SyncAt before (b ∷ bytes) → ⊥
not_before b bytes at off none zero lt here = both_ways (starts_with nat_eq (b ∷ bytes) sync) off here
not_before b bytes at off none (suc before) lt here = none before (omega (arith, lt)) here

nowhere : (b : ℕ) (bytes : List ℕ) → starts_with nat_eq (b ∷ bytes) sync ≡ false → ((at : ℕ) → SyncAt at bytes → ⊥) → (at : ℕ) → SyncAt at (b ∷ bytes) → ⊥
nowhere b bytes off none zero here = both_ways (starts_with nat_eq (b ∷ bytes) sync) off here
nowhere b bytes off none (suc at) here = none at here

hunt_on : (b : ℕ) (bytes : List ℕ) (test : Bool) → starts_with nat_eq (b ∷ bytes) sync ≡ test → Hunted bytes → Hunted (b ∷ bytes)
hunt_on b bytes true here later = inl (0, record { here = here; none_before = λ before lt. absurd (omega (arith, lt)) })
hunt_on b bytes false off (inl found) = inl (suc found.0, record { here = found.1.here; none_before = not_before b bytes found.0 off found.1.none_before })
hunt_on b bytes false off (inr none) = inr (nowhere b bytes off none)

hunt : (bytes : List ℕ) → Hunted bytes
hunt [] = inr none_in
hunt (b ∷ bytes) = hunt_on b bytes (starts_with nat_eq (b ∷ bytes) sync) refl (hunt bytes)

pub one_first : (at other : ℕ) (bytes : List ℕ) → FirstSync at bytes → FirstSync other bytes → at ≡ other
one_first at other bytes first second = elim (cases_lt at other) [
  | inl earlier ↦ absurd (second.none_before at earlier first.here)
  | inr later ↦ elim (cases_lt other at) [
    | inl earlier ↦ absurd (first.none_before other earlier second.here)
    | inr same ↦ omega (arith, later, same)
  ]
]

module _ (s : Sizes) (are : AreSettings s) (bytes : List ℕ) where
  stream_from : All (λ b. b < 256) bytes → Hunted bytes → Stream s bytes
  stream_from bounded (inl found) =
      let all = parsed s are (length (drop found.0 bytes)) found.0 (drop found.0 bytes) (omega arith) (All-drop (λ (b : ℕ). b < 256) found.0 bytes bounded) in
      record { packets = all.packets; ending = all.ending; is = inl (found.0, found.1, all.is) }
  stream_from bounded (inr none) = record { packets = []; ending = no_sync; is = inr (none, refl, refl) }

pub each_is_a_stream : EachIsAStream
each_is_a_stream s are bytes bounded = stream_from s are bytes bounded (hunt bytes)

pub one_stream : OneStream
one_stream s are bytes packets others ending other (inl (at, first, parses)) (inl (at', first', parses')) =
    let place : at ≡ at' = one_first at at' bytes first first' in
    one_parse s are at at' (drop at bytes) (drop at' bytes) packets others ending other place (ap (λ n. drop n bytes) place) parses parses'
one_stream s are bytes packets others ending other (inl (at, first, parses)) (inr (none, nothing, unsynced)) = absurd (none at first.here)
one_stream s are bytes packets others ending other (inr (none, nothing, unsynced)) (inl (at, first, parses)) = absurd (none at first.here)
one_stream s are bytes packets others ending other (inr (none, nothing, unsynced)) (inr (none', nothing', unsynced')) =
    (nothing ∙ sym nothing', unsynced ∙ sym unsynced')

-- an A-sync at the front, and what is behind it
pub split_sync : (bytes : List ℕ) → IsTrue (starts_with nat_eq bytes sync) → bytes ≡ sync ++ drop 12 bytes
split_sync bytes here = (starts_is Decides-eqb bytes sync (starts_with nat_eq bytes sync) refl).0 here

pub sync_spells : (s : Sizes) → Spells s (Ok Async) sync
sync_spells s = refl

module _ (s : Sizes) (are : AreSettings s) where
  sync_first : (at : ℕ) (bytes rest : List ℕ) (packets : List (ℕ × Packet)) (ending : Ending) → bytes ≡ sync ++ rest → Parses s at bytes packets ending
      → (others : List (ℕ × Packet)) × (packets ≡ (at, Async) ∷ others)
  sync_first at bytes rest [] no_sync e is = absurd is
  sync_first at bytes rest [] clean e is = absurd (nothing_whole s are bytes sync rest (Ok Async) is e (sync_spells s))
  sync_first at bytes rest [] (cut n) e is = absurd (only_begun s are bytes sync rest (Ok Async) is.2 e (sync_spells s))
  sync_first at bytes rest [] (fault place f) e (text, after, here, parts, spells) =
      absurd (packet_or_fault Async f (spells_apart s are (Ok Async) (Err f) sync text rest after (sync_spells s) spells (sym e ∙ parts)).outcomes)
  sync_first at bytes rest (p ∷ packets) ending e (text, after, here, parts, spells, later) =
      let same = spells_apart s are (Ok p.1) (Ok Async) text sync after rest spells (sync_spells s) (sym parts ∙ e) in
      let packet : p ≡ (at, Async) = same_pair p (at, Async) here (same_packet p.1 Async same.outcomes) in
      (packets, λ i. packet i ∷ packets)

pub starts_with_sync : StartsWithSync
starts_with_sync s are bytes packets ending at (inl (at', first', parses)) first =
    let place : at' ≡ at = one_first at' at bytes first' first in
    sync_first s are at (drop at bytes) (drop 12 (drop at bytes)) packets ending (split_sync (drop at bytes) first.here)
    (subst (λ n. Parses s n (drop n bytes) packets ending) place parses)
starts_with_sync s are bytes packets ending at (inr (none, nothing, unsynced)) first = absurd (none at first.here)
