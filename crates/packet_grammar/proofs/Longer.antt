-- A stream and a longer one that begins with its bytes.
use Rattle.std.proofs.Common.{◌≡◌, ℕ, ◌+◌, ◌≤◌, List, [], ◌∷◌, ◌++◌, length, drop, Ok, Err, refl, sym, ap, ◌∙◌, inl, inr, arith, append_assoc}
use Rattle.std.proofs.Common.{length-append}
use Rattle.std.proofs.lemmas.List.{drop-append-le}
use Rattle.etm_types.specs.Settings.{Sizes, AreSettings}
use Rattle.packet_grammar.specs.declared.packet.Packet.{Packet}
use Rattle.packet_grammar.specs.Parsed.{Ending, no_sync, clean, cut, fault, Parses, sync, FirstSync}
use Rattle.packet_grammar.specs.Laws.{BeginsAlike, FaultEndsBoth}
use Rattle.packet_grammar.proofs.AllLaws.{spells_apart}
use Rattle.packet_grammar.proofs.GoesOn.{fault_stays, first_on, sync_in, sync_on, sync_out}
use Rattle.packet_grammar.proofs.Streams.{nothing_whole, one_first, one_stream, only_begun, packet_or_fault, same_packet, same_pair}

-- these packets are some more behind others
abbrev Extends : List (ℕ × Packet) → List (ℕ × Packet) → Type 0
Extends packets others = (rest : List (ℕ × Packet)) × (others ≡ packets ++ rest)

module _ (s : Sizes) (are : AreSettings s) where
  -- the place and the bytes of the longer list are told by equations, since it may be a rest of one
  parses_alike : (at at' : ℕ) (bytes more bytes' : List ℕ) (packets others : List (ℕ × Packet)) (ending other : Ending) → at ≡ at' → bytes' ≡ bytes ++ more
      → Parses s at bytes packets ending → Parses s at' bytes' others other → Extends packets others
  parses_alike at at' bytes more bytes' [] others ending other e f is is' = (others, refl)
  parses_alike at at' bytes more bytes' (p ∷ packets) [] ending no_sync e f is is' = absurd is'
  parses_alike at at' bytes more bytes' (p ∷ packets) [] ending clean e f (text, rest, here, parts, spells, later) is' = absurd
      (nothing_whole s are bytes' text (rest ++ more) (Ok p.1) is' (f ∙ ap (λ t. t ++ more) parts ∙ append_assoc text rest more) spells)
  parses_alike at at' bytes more bytes' (p ∷ packets) [] ending (cut n) e f (text, rest, here, parts, spells, later) is' = absurd
      (only_begun s are bytes' text (rest ++ more) (Ok p.1) is'.2 (f ∙ ap (λ t. t ++ more) parts ∙ append_assoc text rest more) spells)
  parses_alike at at' bytes more bytes' (p ∷ packets) [] ending (fault place g) e f (text, rest, here, parts, spells, later)
      (text', rest', here', parts', spells') =
      let whole : bytes' ≡ text ++ (rest ++ more) = f ∙ ap (λ t. t ++ more) parts ∙ append_assoc text rest more in
      absurd (packet_or_fault p.1 g (spells_apart s are (Ok p.1) (Err g) text text' (rest ++ more) rest' spells spells' (sym whole ∙ parts')).outcomes)
  parses_alike at at' bytes more bytes' (p ∷ packets) (q ∷ others) ending other e f (text, rest, here, parts, spells, later)
      (text', rest', here', parts', spells', later') =
      let whole : bytes' ≡ text ++ (rest ++ more) = f ∙ ap (λ t. t ++ more) parts ∙ append_assoc text rest more in
      let same = spells_apart s are (Ok p.1) (Ok q.1) text text' (rest ++ more) rest' spells spells' (sym whole ∙ parts') in
      let packet : p ≡ q = same_pair p q (here ∙ e ∙ sym here') (same_packet p.1 q.1 same.outcomes) in
      let places : at + length text ≡ at' + length text' = omega (arith, e, ap length same.texts) in
      let tails = parses_alike (at + length text) (at' + length text') rest more rest' packets others ending other places (sym same.rests) later later' in
      (tails.0, λ i. sym packet i ∷ tails.1 i)

within : (at : ℕ) (bytes : List ℕ) → FirstSync at bytes → at ≤ length bytes
within at bytes first = let old = sync_in at bytes first.here in omega (arith, ap length old.parts, length-append old.front (sync ++ old.rest), old.place)

pub begins_alike : BeginsAlike
begins_alike s are bytes more packets others ending other (inl (at, first, parses)) (inl (at', first', parses')) =
    let place : at ≡ at' = one_first at at' (bytes ++ more) (first_on at bytes more first) first' in
    let behind : drop at' (bytes ++ more) ≡ drop at bytes ++ more = ap (λ n. drop n (bytes ++ more)) (sym place)
    ∙ drop-append-le at bytes more (within at bytes first) in
    parses_alike s are at at' (drop at bytes) more (drop at' (bytes ++ more)) packets others ending other place behind parses parses'
begins_alike s are bytes more packets others ending other (inl (at, first, parses)) (inr (none, nothing, unsynced)) =
    absurd (none at (sync_out at (bytes ++ more) (sync_on at bytes more (sync_in at bytes first.here))))
begins_alike s are bytes more packets others ending other (inr (none, nothing, unsynced)) is =
    (others, ap (λ (p : List (ℕ × Packet)). p ++ others) (sym nothing))

pub fault_ends_both : FaultEndsBoth
fault_ends_both s are bytes more packets others at f other is longer =
    one_stream s are (bytes ++ more) others packets other (fault at f) longer (fault_stays s bytes more packets at f is)
