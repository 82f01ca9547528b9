-- Packets that are tried on an outlook, worked out by hand from the figures of the standard (Arm IHI 0064, "Atom Format 1 packet", "Commit
-- packet", "Cancel packets", "Mispredict packet"), and near misses.
use Rattle.std.proofs.Common.{◌≡◌, ℕ, ◌-◌, ◌^◌, ◌<◌, Bool, true, false, List, [], ◌∷◌, ◌++◌, length, refl, sym, ap, subst, ◌∙◌, inl, inr, arith}
use Rattle.std.proofs.Common.{append-nil, append_assoc, length-append, take}
use Rattle.std.specs.Prelude.{replicate}
use Rattle.std.proofs.Math.Seq.{take-append_seam}
use Rattle.atom_formats.specs.Formats.{Spells}
use Rattle.atom_formats.proofs.Examples.{format_1}
use Rattle.element_queue.specs.Outlooks.{Outlook, has_room}
use Rattle.etm_types.specs.Atoms.{IsAtomRun}
use Rattle.packet_grammar.specs.declared.packet.Packet.{Packet}
use Rattle.packet_grammar.specs.declared.packet.Packet.TheVariants.{Atoms, Cancel, Commit, Mispredict}
use Rattle.packet_reader.specs.Packets.{bytes_of}
use Rattle.stream_decoder.specs.Ahead.{Foretold, Moves, MovesAll, no_atoms}
use Rattle.stream_decoder.proofs.AheadMoves.{has_bytes, header_is, number_follows, number_is_few, number_is_small, number_is_some, one_move, room_is, some_held}

-- a branch that was taken
abbrev e : Bool
e = true

-- a branch that was not
abbrev n : Bool
n = false

-- what is committed and what is held, how many were made and cancelled, at depth 2
abbrev outlook : List Bool → List Bool → ℕ → ℕ → Outlook
outlook gone held made cancelled = record { gone = gone; held = held; before = 0; made = made; cancelled = cancelled; depth = 2 }

-- ---- E, N, a commit of 1 and a cancel of 1

abbrev front : List ℕ
front = 0xf7 ∷ 0xf6 ∷ 0x2d ∷ 0x01 ∷ 0x2e ∷ 0x01 ∷ []

abbrev atom_e : List ℕ × Packet
atom_e = (0xf7 ∷ [], Atoms (record { count = 1; bits = 1 }))

abbrev atom_n : List ℕ × Packet
atom_n = (0xf6 ∷ [], Atoms (record { count = 1; bits = 0 }))

abbrev commit_1 : List ℕ × Packet
commit_1 = (0x2d ∷ 0x01 ∷ [], Commit 1)

abbrev cancel_1 : List ℕ × Packet
cancel_1 = (0x2e ∷ 0x01 ∷ [], Cancel 1 false)

abbrev start : Outlook
start = outlook [] [] 0 0

abbrev one : Outlook
one = outlook [] (e ∷ []) 1 0

abbrev two : Outlook
two = outlook [] (e ∷ n ∷ []) 2 0

abbrev committed : Outlook
committed = outlook (e ∷ []) (n ∷ []) 2 0

abbrev end : Outlook
end = outlook (e ∷ []) [] 2 1

spells_f7 : Spells 0xf7 (e ∷ [])
spells_f7 = format_1.1

spells_f6 : Spells 0xf6 (n ∷ [])
spells_f6 = format_1.0

is_run : (bits : ℕ) → bits < 2 → IsAtomRun (record { count = 1; bits = bits })
is_run bits fits = record { some = omega arith; most = omega arith; bits = omega (arith, fits) }

holds_e : Moves start atom_e one
holds_e = inl (0xf7, record { count = 1; bits = 1 }, refl, spells_f7, is_run 1 (omega arith), (omega arith, omega arith, omega arith), refl)

holds_n : Moves one atom_n two
holds_n = inl (0xf6, record { count = 1; bits = 0 }, refl, spells_f6, is_run 0 (omega arith), (omega arith, omega arith, omega arith), refl)

commits : Moves two commit_1 committed
commits = inr (inl (1, refl, omega arith, omega arith, omega arith, refl))

cancels : Moves committed cancel_1 end
cancels = inr (inr (inl (1, refl, omega arith, omega arith, omega arith, refl)))

pub all_moved : (bytes_of (atom_e ∷ atom_n ∷ commit_1 ∷ cancel_1 ∷ []) ≡ front) × MovesAll start (atom_e ∷ atom_n ∷ commit_1 ∷ cancel_1 ∷ []) end
all_moved = (refl, (one, holds_e, (two, holds_n, (committed, commits, (end, cancels, refl)))))

-- none is committed before the commit, and the cancel stands behind it
pub foretold : Foretold start front 0 committed 2 (0x2e ∷ 0x01 ∷ [])
foretold = record {
  first = atom_e ∷ atom_n ∷ [];
  last = commit_1;
  parts = refl;
  length_is = refl;
  before = two;
  moves = (one, holds_e, (two, holds_n, refl));
  within = omega arith;
  ends = commits;
}

-- ---- packets in the same bytes make one outlook alone

pub only_outlook : (bytes rest : List ℕ) (ps qs : List (List ℕ × Packet)) (o o' o'' : Outlook) → bytes ≡ bytes_of ps ++ rest → bytes ≡ bytes_of qs ++ rest
    → MovesAll o ps o' → MovesAll o qs o'' → o' ≡ o''
only_outlook bytes rest [] [] o o' o'' parts parts' same same' = same ∙ sym same'
only_outlook bytes rest [] (q ∷ qs) o o' o'' parts parts' same (next, moves, more) =
    absurd (let short = ap (λ (l : List ℕ). length l) (sym parts ∙ parts' ∙ append_assoc q.0 (bytes_of qs) rest) ∙ length-append q.0 (bytes_of qs ++ rest) in
    omega (arith, short, length-append (bytes_of qs) rest, has_bytes q o next moves))
only_outlook bytes rest (p ∷ ps) [] o o' o'' parts parts' (next, moves, more) same =
    absurd (let short = ap (λ (l : List ℕ). length l) (sym parts' ∙ parts ∙ append_assoc p.0 (bytes_of ps) rest) ∙ length-append p.0 (bytes_of ps ++ rest) in
    omega (arith, short, length-append (bytes_of ps) rest, has_bytes p o next moves))
only_outlook bytes rest (p ∷ ps) (q ∷ qs) o o' o'' parts parts' (next, moves, more) (next', moves', more') =
    let same = one_move bytes (bytes_of ps ++ rest) (bytes_of qs ++ rest) p q o next next' (parts ∙ append_assoc p.0 (bytes_of ps) rest)
    (parts' ∙ append_assoc q.0 (bytes_of qs) rest) moves moves' in
    only_outlook (bytes_of ps ++ rest) rest ps qs next o' o'' refl same.0 more (subst (λ (x : Outlook). MovesAll x qs o'') (sym same.1) more')

pub no_other_end : (ps : List (List ℕ × Packet)) (o : Outlook) → front ≡ bytes_of ps → MovesAll start ps o → o ≡ end
no_other_end ps o parts moves =
    only_outlook front [] ps (atom_e ∷ atom_n ∷ commit_1 ∷ cancel_1 ∷ []) start o end (parts ∙ sym (append-nil (bytes_of ps))) refl moves all_moved.1

-- one packet
only_by : (p : List ℕ × Packet) (o right other : Outlook) → Moves o p right → Moves o p other → other ≡ right
only_by p o right other moves moves' = (one_move (p.0 ++ []) [] [] p p o other right refl refl moves' moves).1

-- ---- near misses

-- the newest is committed in the place of the oldest
pub not_newest_committed : Moves two commit_1 (outlook (n ∷ []) (e ∷ []) 2 0) → ⊥
not_newest_committed other = let same = ap (λ (x : Outlook). x.gone) (only_by commit_1 two committed (outlook (n ∷ []) (e ∷ []) 2 0) commits other) in cc

-- the oldest is cancelled in the place of the newest; or the newest, and it isn't counted
newest_cancelled : Moves two cancel_1 (outlook [] (e ∷ []) 2 1)
newest_cancelled = inr (inr (inl (1, refl, omega arith, omega arith, omega arith, refl)))

pub not_oldest_cancelled : Moves two cancel_1 (outlook [] (n ∷ []) 2 1) → ⊥
not_oldest_cancelled other =
    let same = ap (λ (x : Outlook). x.held) (only_by cancel_1 two (outlook [] (e ∷ []) 2 1) (outlook [] (n ∷ []) 2 1) newest_cancelled other) in cc

pub not_uncounted : Moves two cancel_1 (outlook [] (e ∷ []) 2 0) → ⊥
not_uncounted other =
    let same = ap (λ (x : Outlook). x.cancelled) (only_by cancel_1 two (outlook [] (e ∷ []) 2 1) (outlook [] (e ∷ []) 2 0) newest_cancelled other) in
    absurd (omega (arith, same))

-- the newest atom stands first
pub not_newest_first : Moves one atom_n (outlook [] (n ∷ e ∷ []) 2 0) → ⊥
not_newest_first other = let same = ap (λ (x : Outlook). x.held) (only_by atom_n one two (outlook [] (n ∷ e ∷ []) 2 0) holds_n other) in cc

-- no packet at the front of such bytes can be taken
abbrev NoneMoves : List ℕ → Outlook → Type 0
NoneMoves bytes o = (p : List ℕ × Packet) (behind : List ℕ) (o' : Outlook) → bytes ≡ p.0 ++ behind → Moves o p o' → ⊥

-- more are committed than are held, or cancelled; or none is
pub not_three_committed : NoneMoves (0x2d ∷ 0x03 ∷ []) two
not_three_committed p behind o' parts moves =
    absurd (omega (arith, number_is_few (0x2d ∷ 0x03 ∷ []) (0x03 ∷ []) behind 0x2d p two o' refl (omega arith) (λ is. absurd (omega (arith, is))) parts moves 3 [] refl 3 refl))

pub not_three_cancelled : NoneMoves (0x2e ∷ 0x03 ∷ []) two
not_three_cancelled p behind o' parts moves =
    absurd (omega (arith, number_is_few (0x2e ∷ 0x03 ∷ []) (0x03 ∷ []) behind 0x2e p two o' refl (omega arith) (λ is. absurd (omega (arith, is))) parts moves 3 [] refl 3 refl))

pub not_none_cancelled : NoneMoves (0x2e ∷ 0x00 ∷ []) two
not_none_cancelled p behind o' parts moves =
    absurd (omega (arith, number_is_some (0x2e ∷ 0x00 ∷ []) (0x00 ∷ []) behind 0x2e p two o' refl (omega arith) (λ is. absurd (omega (arith, is))) parts moves 0 [] refl 0 refl))

pub not_none_committed : NoneMoves (0x2d ∷ 0x00 ∷ []) two
not_none_committed p behind o' parts moves =
    absurd (omega (arith, number_is_some (0x2d ∷ 0x00 ∷ []) (0x00 ∷ []) behind 0x2d p two o' refl (omega arith) (λ is. absurd (omega (arith, is))) parts moves 0 [] refl 0 refl))

-- a number of two bytes, or a header with no number behind it, or another header: a cancel with a mispredict
pub not_a_long_number : NoneMoves (0x2d ∷ 0x81 ∷ 0x00 ∷ []) two
not_a_long_number p behind o' parts moves =
    absurd (omega (
      arith,
      number_is_small (0x2d ∷ 0x81 ∷ 0x00 ∷ []) (0x81 ∷ 0x00 ∷ []) behind 0x2d p two o' refl (omega arith) (λ is. absurd (omega (arith, is))) parts moves 0x81
          (0x00 ∷ []) refl,
    ))

pub not_half_a_commit : NoneMoves (0x2d ∷ []) two
not_half_a_commit p behind o' parts moves = number_follows (0x2d ∷ []) [] behind 0x2d p two o' refl (omega arith) (λ is. absurd (omega (arith, is))) parts moves refl

pub not_a_mispredict : NoneMoves (0x2f ∷ 0x01 ∷ []) two
not_a_mispredict p behind o' parts moves =
    absurd (omega (
      arith,
      header_is (0x2f ∷ 0x01 ∷ []) (0x01 ∷ []) behind 0x2f p two o' refl (omega arith) (λ is. absurd (omega (arith, is))) parts moves
          (λ commit. absurd (omega (arith, commit))),
    ))

-- a third atom at depth 2
pub not_beyond_the_depth : NoneMoves (0xf7 ∷ []) two
not_beyond_the_depth p behind o' parts moves =
    let room = room_is (0xf7 ∷ []) [] behind 0xf7 (record { count = 1; bits = 1 }) p two o' refl spells_f7 parts moves in
    absurd (omega (arith, room.0))

-- room for one more alone, by each of the three bounds: what may be held, the bits that there are, and how many are made
abbrev full : ℕ → ℕ → ℕ → Outlook
full gone made depth = record { gone = replicate gone e; held = e ∷ []; before = 1; made = made; cancelled = 0; depth = depth }

pub room_for_one : has_room (full 62 (2 ^ 8 - 1) 2) 1
room_for_one = (omega arith, omega arith, omega arith)

pub no_room : (has_room (full 62 (2 ^ 8 - 1) 1) 1 → ⊥) × (has_room (full 63 (2 ^ 8 - 1) 2) 1 → ⊥) × (has_room (full 62 (2 ^ 8) 2) 1 → ⊥)
no_room = (λ room. absurd (omega (arith, room.0)), λ room. absurd (omega (arith, room.1)), λ room. absurd (omega (arith, room.2)))

-- a mispredict, which turns the newest of those that are held
abbrev mispredict : List ℕ × Packet
mispredict = (0x30 ∷ [], Mispredict no_atoms)

turned : Moves two mispredict (outlook [] (e ∷ e ∷ []) 2 0)
turned = inr (inr (inr (refl, omega arith, refl)))

pub turned_and_committed : MovesAll two (mispredict ∷ commit_1 ∷ []) (outlook (e ∷ []) (e ∷ []) 2 0)
turned_and_committed =
    (outlook [] (e ∷ e ∷ []) 2 0, turned, (outlook (e ∷ []) (e ∷ []) 2 0, inr (inl (1, refl, omega arith, omega arith, omega arith, refl)), refl))

-- the oldest is turned, or none
pub not_oldest_turned : Moves two mispredict (outlook [] (n ∷ n ∷ []) 2 0) → ⊥
not_oldest_turned other =
    let same = ap (λ (x : Outlook). x.held) (only_by mispredict two (outlook [] (e ∷ e ∷ []) 2 0) (outlook [] (n ∷ n ∷ []) 2 0) turned other) in cc

pub not_left_as_it_is : Moves two mispredict two → ⊥
not_left_as_it_is other = let same = ap (λ (x : Outlook). x.held) (only_by mispredict two (outlook [] (e ∷ e ∷ []) 2 0) two turned other) in cc

-- none is held, though one is committed; or an atom stands in the packet
pub not_a_committed_one : NoneMoves (0x30 ∷ []) end
not_a_committed_one p behind o' parts moves = absurd (omega (arith, some_held (0x30 ∷ []) [] behind 0x30 p end o' refl refl parts moves))

pub not_with_an_atom : NoneMoves (0x31 ∷ []) two
not_with_an_atom p behind o' parts moves =
    number_follows (0x31 ∷ []) [] behind 0x31 p two o' refl (omega arith) (λ is. absurd (omega (arith, is))) parts moves refl

-- what is foretold with none committed before the last goes no further than the commit
pub not_foretold_further : Foretold start front 0 end 2 [] → ⊥
not_foretold_further other =
    let whole = ap (λ (l : List ℕ). length l) other.parts ∙ length-append (bytes_of other.first) (other.last.0 ++ []) in
    let four : length (bytes_of other.first) ≡ 4 = omega (arith, whole, length-append other.last.0 [], other.length_is) in
    let first : 0xf7 ∷ 0xf6 ∷ 0x2d ∷ 0x01 ∷ [] ≡ bytes_of other.first =
    ap (λ (k : ℕ). take k front) (sym four) ∙ ap (λ (l : List ℕ). take (length (bytes_of other.first)) l) other.parts
    ∙ take-append_seam (bytes_of other.first) (other.last.0 ++ []) in
    let same = only_outlook (0xf7 ∷ 0xf6 ∷ 0x2d ∷ 0x01 ∷ []) [] other.first (atom_e ∷ atom_n ∷ commit_1 ∷ []) start other.before committed
    (first ∙ sym (append-nil (bytes_of other.first))) refl other.moves (one, holds_e, (two, holds_n, (committed, commits, refl))) in
    absurd (let e = ap (λ (x : Outlook). length x.gone) same in omega (arith, e, other.within))
