-- Packets that are tried on an outlook: what one of them makes of it, and how far they are tried.
use Rattle.std.proofs.Common.{◌≡◌, ◌⊎◌, ℕ, ◌+◌, ◌-◌, ◌<◌, ◌≤◌, Bool, false, List, [], ◌∷◌, ◌++◌, length, take, drop, refl, sym, ap, subst, ◌∙◌, arith}
use Rattle.std.proofs.Common.{inl, inr, append_assoc}
use Rattle.atom_formats.specs.Formats.{Spells}
use Rattle.atom_formats.proofs.Rows.{no_other_tells, one_run_a_byte}
use Rattle.element_queue.proofs.LowBits.{low_bits-length}
use Rattle.element_queue.specs.Outlooks.{Outlook, flip_newest_atom, has_room}
use Rattle.etm_types.specs.Atoms.{IsAtomRun, atoms_in}
use Rattle.etm_types.specs.declared.atoms.AtomRun.{AtomRun}
use Rattle.packet_grammar.specs.declared.packet.Packet.{Packet}
use Rattle.packet_grammar.specs.declared.packet.Packet.TheVariants.{Atoms, Cancel, Commit, Mispredict}
use Rattle.packet_reader.specs.Packets.{bytes_of}
use Rattle.stream_decoder.specs.Ahead.{Foretold, Moves, MovesAll, no_atoms}

-- ---- what the bytes of one packet make

-- the bytes begin with those of the packet
text_first : (bytes behind text : List ℕ) (p : List ℕ × Packet) (packet : Packet) → bytes ≡ p.0 ++ behind → p ≡ (text, packet) → bytes ≡ text ++ behind
text_first bytes behind text p packet parts is = parts ∙ ap (λ (q : List ℕ × Packet). q.0 ++ behind) is

counted : (run other : AtomRun) → atoms_in run ≡ atoms_in other → run.count ≡ other.count
counted run other same =
    sym (low_bits-length run.count run.bits) ∙ ap (λ (l : List Bool). length l) same ∙ low_bits-length other.count other.bits

-- the same list has one first item and one rest
same_one : (x y : ℕ) (xs ys : List ℕ) → x ∷ xs ≡ y ∷ ys → (x ≡ y) × (xs ≡ ys)
same_one x y xs ys e = (cc, ap (drop 1) e)

with_atoms : Outlook → List Bool → ℕ → Outlook
with_atoms o atoms n = record o { held = o.held ++ atoms; made = o.made + n }

-- two packets at the front of the same bytes have one header, and where each has that alone, the same bytes are behind them
module _ (bytes behind behind' : List ℕ) (p p' : List ℕ × Packet) (parts : bytes ≡ p.0 ++ behind) (parts' : bytes ≡ p'.0 ++ behind') where
  both_first : {x y : ℕ} {xs ys : List ℕ} {packet packet' : Packet} → p ≡ (x ∷ xs, packet) → p' ≡ (y ∷ ys, packet')
      → (x ≡ y) × (xs ++ behind ≡ ys ++ behind')
  both_first {x = x} {y = y} {xs = xs} {ys = ys} {packet = packet} {packet' = packet'} is is' =
      same_one x y (xs ++ behind) (ys ++ behind') (sym (text_first bytes behind (x ∷ xs) p packet parts is)
      ∙ text_first bytes behind' (y ∷ ys) p' packet' parts' is')

  same_header : {x y : ℕ} {xs ys : List ℕ} {packet packet' : Packet} → p ≡ (x ∷ xs, packet) → p' ≡ (y ∷ ys, packet') → x ≡ y
  same_header is is' = (both_first is is').0

-- bytes are one such packet alone, and make one outlook
pub one_move : (bytes behind behind' : List ℕ) (p p' : List ℕ × Packet) (o o1 o2 : Outlook) → bytes ≡ p.0 ++ behind → bytes ≡ p'.0 ++ behind'
    → Moves o p o1 → Moves o p' o2 → (behind ≡ behind') × (o1 ≡ o2)
unfolding with_atoms
one_move bytes behind behind' p p' o o1 o2 parts parts' (inl (byte, run, is, spells, fits, room, made)) (inl (byte', run', is', spells', fits', room', made')) =
    let same = both_first bytes behind behind' p p' parts parts' is is' in
    let atoms = one_run_a_byte byte' (atoms_in run) (atoms_in run') (subst (λ (b : ℕ). Spells b (atoms_in run)) same.0 spells) spells' in (
      same.1,
      made ∙ ap (λ (l : List Bool). with_atoms o l run.count) atoms ∙ ap (with_atoms o (atoms_in run')) (counted run run' atoms) ∙ sym made',
    )
one_move bytes behind behind' p p' o o1 o2 parts parts' (inl (byte, run, is, spells, fits, room, made)) (inr (inl (n', is', small', nonzero', few', made'))) =
    let same = same_header bytes behind behind' p p' parts parts' is is' in
    absurd (omega (arith, same, (no_other_tells byte (atoms_in run) spells).0))
one_move bytes behind behind' p p' o o1 o2 parts parts' (inl (byte, run, is, spells, fits, room, made)) (inr (inr (inl (n', is', small', some', few', made')))) =
    let same = same_header bytes behind behind' p p' parts parts' is is' in
    absurd (omega (arith, same, (no_other_tells byte (atoms_in run) spells).0))
one_move bytes behind behind' p p' o o1 o2 parts parts' (inl (byte, run, is, spells, fits, room, made)) (inr (inr (inr (is', some', made')))) =
    let same = same_header bytes behind behind' p p' parts parts' is is' in
    absurd (omega (arith, same, (no_other_tells byte (atoms_in run) spells).0))
one_move bytes behind behind' p p' o o1 o2 parts parts' (inr (inl (n, is, small, nonzero, few, made))) (inl (byte, run, is', spells, fits, room, made')) =
    let same = same_header bytes behind behind' p p' parts parts' is is' in
    absurd (omega (arith, same, (no_other_tells byte (atoms_in run) spells).0))
one_move bytes behind behind' p p' o o1 o2 parts parts' (inr (inl (n, is, small, nonzero, few, made))) (inr (inl (n', is', small', nonzero', few', made'))) =
    let same = both_first bytes behind behind' p p' parts parts' is is' in
    let rest = same_one n n' behind behind' same.1 in
    (rest.1, made ∙ ap (λ (k : ℕ). record o { gone = o.gone ++ take k o.held; held = drop k o.held }) rest.0 ∙ sym made')
one_move bytes behind behind' p p' o o1 o2 parts parts' (inr (inl (n, is, small, nonzero, few, made))) (inr (inr (inl (n', is', small', some', few', made')))) =
    let same = same_header bytes behind behind' p p' parts parts' is is' in
    absurd (omega (arith, same))
one_move bytes behind behind' p p' o o1 o2 parts parts' (inr (inl (n, is, small, nonzero, few, made))) (inr (inr (inr (is', some', made')))) =
    let same = same_header bytes behind behind' p p' parts parts' is is' in
    absurd (omega (arith, same))
one_move bytes behind behind' p p' o o1 o2 parts parts' (inr (inr (inl (n, is, small, some, few, made)))) (inl (byte, run, is', spells, fits, room, made')) =
    let same = same_header bytes behind behind' p p' parts parts' is is' in
    absurd (omega (arith, same, (no_other_tells byte (atoms_in run) spells).0))
one_move bytes behind behind' p p' o o1 o2 parts parts' (inr (inr (inl (n, is, small, some, few, made)))) (inr (inl (n', is', small', nonzero', few', made'))) =
    let same = same_header bytes behind behind' p p' parts parts' is is' in
    absurd (omega (arith, same))
one_move bytes behind behind' p p' o o1 o2 parts parts' (inr (inr (inl (n, is, small, some, few, made)))) (inr (inr (inl (n', is', small', some', few', made')))) =
    let same = both_first bytes behind behind' p p' parts parts' is is' in
    let rest = same_one n n' behind behind' same.1 in
    (rest.1, made ∙ ap (λ (k : ℕ). record o { held = take (length o.held - k) o.held; cancelled = o.cancelled + k }) rest.0 ∙ sym made')
one_move bytes behind behind' p p' o o1 o2 parts parts' (inr (inr (inl (n, is, small, some, few, made)))) (inr (inr (inr (is', some', made')))) =
    let same = same_header bytes behind behind' p p' parts parts' is is' in
    absurd (omega (arith, same))
one_move bytes behind behind' p p' o o1 o2 parts parts' (inr (inr (inr (is, some, made)))) (inl (byte, run, is', spells, fits, room, made')) =
    let same = same_header bytes behind behind' p p' parts parts' is is' in
    absurd (omega (arith, same, (no_other_tells byte (atoms_in run) spells).0))
one_move bytes behind behind' p p' o o1 o2 parts parts' (inr (inr (inr (is, some, made)))) (inr (inl (n', is', small', nonzero', few', made'))) =
    let same = same_header bytes behind behind' p p' parts parts' is is' in
    absurd (omega (arith, same))
one_move bytes behind behind' p p' o o1 o2 parts parts' (inr (inr (inr (is, some, made)))) (inr (inr (inl (n', is', small', some', few', made')))) =
    let same = same_header bytes behind behind' p p' parts parts' is is' in
    absurd (omega (arith, same))
one_move bytes behind behind' p p' o o1 o2 parts parts' (inr (inr (inr (is, some, made)))) (inr (inr (inr (is', some', made')))) =
    ((both_first bytes behind behind' p p' parts parts' is is').1, made ∙ sym made')

-- such a packet has a byte
pub has_bytes : (p : List ℕ × Packet) (o o' : Outlook) → Moves o p o' → 0 < length p.0
has_bytes p o o' (inl (byte, run, is, spells, fits, room, made)) = let e = ap (λ (q : List ℕ × Packet). length q.0) is in omega (arith, e)
has_bytes p o o' (inr (inl (n, is, small, nonzero, few, made))) = let e = ap (λ (q : List ℕ × Packet). length q.0) is in omega (arith, e)
has_bytes p o o' (inr (inr (inl (n, is, small, some, few, made)))) = let e = ap (λ (q : List ℕ × Packet). length q.0) is in omega (arith, e)
has_bytes p o o' (inr (inr (inr (is, some, made)))) = let e = ap (λ (q : List ℕ × Packet). length q.0) is in omega (arith, e)

-- ---- a packet at the front of some bytes

-- the bytes begin with a packet, which makes this of an outlook
abbrev pub Tried : List ℕ → Outlook → ℕ → List ℕ → Outlook → Type 0
Tried bytes o n behind o' = (p : List ℕ × Packet) × (bytes ≡ p.0 ++ behind) × (length p.0 ≡ n) × (0 < n) × Moves o p o'

module _ (bytes rest : List ℕ) (byte : ℕ) (o o' : Outlook) (first : bytes ≡ byte ∷ rest) where
  pub tried_atoms : (run : AtomRun) → Spells byte (atoms_in run) → IsAtomRun run → has_room o run.count
      → o' ≡ record o { held = o.held ++ atoms_in run; made = o.made + run.count } → Tried bytes o 1 rest o'
  tried_atoms run spells fits room made = ((byte ∷ [], Atoms run), first, refl, omega arith, inl (byte, run, refl, spells, fits, room, made))

  pub tried_flip : byte ≡ 0x30 → 0 < length o.held → o' ≡ record o { held = flip_newest_atom o.held } → Tried bytes o 1 rest o'
  tried_flip header some made =
      let whole : bytes ≡ 0x30 ∷ rest = cc in ((0x30 ∷ [], Mispredict no_atoms), whole, refl, omega arith, inr (inr (inr (refl, some, made))))

  module _ (n number : ℕ) (behind : List ℕ) (second : rest ≡ number ∷ behind) (same : n ≡ number) (small : number < 0x80) where
    pub tried_commit : byte ≡ 0x2d → (0 < n) × (n ≤ length o.held) → o' ≡ record o { gone = o.gone ++ take n o.held; held = drop n o.held }
        → Tried bytes o 2 behind o'
    tried_commit header few made =
        let whole : bytes ≡ 0x2d ∷ n ∷ behind = cc in
        ((0x2d ∷ n ∷ [], Commit n), whole, refl, omega arith, inr (inl (n, refl, omega arith, few.0, few.1, made)))

    pub tried_cancel : byte ≡ 0x2e → (0 < n) × (n ≤ length o.held)
        → o' ≡ record o { held = take (length o.held - n) o.held; cancelled = o.cancelled + n } → Tried bytes o 2 behind o'
    tried_cancel header few made =
        let whole : bytes ≡ 0x2e ∷ n ∷ behind = cc in
        ((0x2e ∷ n ∷ [], Cancel n false), whole, refl, omega arith, inr (inr (inl (n, refl, omega arith, few.0, few.1, made))))

-- a byte that tells atoms is a packet of these, and there is room for them
pub room_is : (bytes rest behind : List ℕ) (byte : ℕ) (run : AtomRun) (p : List ℕ × Packet) (o o' : Outlook) → bytes ≡ byte ∷ rest
    → Spells byte (atoms_in run) → bytes ≡ p.0 ++ behind → Moves o p o' → has_room o run.count
room_is bytes rest behind byte run p o o' first spells parts (inl (b, other, is, spells', fits, room, made)) =
    let same = same_one byte b rest behind (sym first ∙ text_first bytes behind (b ∷ []) p (Atoms other) parts is) in
    let atoms = one_run_a_byte b (atoms_in run) (atoms_in other) (subst (λ (x : ℕ). Spells x (atoms_in run)) same.0 spells) spells' in
    subst (λ (k : ℕ). has_room o k) (sym (counted run other atoms)) room
room_is bytes rest behind byte run p o o' first spells parts (inr (inl (n, is, small, nonzero, few, made))) =
    let same = same_one byte 0x2d rest (n ∷ behind) (sym first ∙ text_first bytes behind (0x2d ∷ n ∷ []) p (Commit n) parts is) in
    absurd (omega (arith, same.0, (no_other_tells byte (atoms_in run) spells).0))
room_is bytes rest behind byte run p o o' first spells parts (inr (inr (inl (n, is, small, some, few, made)))) =
    let same = same_one byte 0x2e rest (n ∷ behind) (sym first ∙ text_first bytes behind (0x2e ∷ n ∷ []) p (Cancel n false) parts is) in
    absurd (omega (arith, same.0, (no_other_tells byte (atoms_in run) spells).0))
room_is bytes rest behind byte run p o o' first spells parts (inr (inr (inr (is, some, made)))) =
    let same = same_one byte 0x30 rest behind (sym first ∙ text_first bytes behind (0x30 ∷ []) p (Mispredict no_atoms) parts is) in
    absurd (omega (arith, same.0, (no_other_tells byte (atoms_in run) spells).0))

-- the header of a mispredict is a packet of that alone, and an atom is held
pub some_held : (bytes rest behind : List ℕ) (byte : ℕ) (p : List ℕ × Packet) (o o' : Outlook) → bytes ≡ byte ∷ rest → byte ≡ 0x30 → bytes ≡ p.0 ++ behind
    → Moves o p o' → 0 < length o.held
some_held bytes rest behind byte p o o' first header parts (inl (b, run, is, spells, fits, room, made)) =
    let same = same_one byte b rest behind (sym first ∙ text_first bytes behind (b ∷ []) p (Atoms run) parts is) in
    absurd (omega (arith, same.0, header, (no_other_tells b (atoms_in run) spells).0))
some_held bytes rest behind byte p o o' first header parts (inr (inl (n, is, small, nonzero, few, made))) =
    let same = same_one byte 0x2d rest (n ∷ behind) (sym first ∙ text_first bytes behind (0x2d ∷ n ∷ []) p (Commit n) parts is) in
    absurd (omega (arith, same.0, header))
some_held bytes rest behind byte p o o' first header parts (inr (inr (inl (n, is, small, some, few, made)))) =
    let same = same_one byte 0x2e rest (n ∷ behind) (sym first ∙ text_first bytes behind (0x2e ∷ n ∷ []) p (Cancel n false) parts is) in
    absurd (omega (arith, same.0, header))
some_held bytes rest behind byte p o o' first header parts (inr (inr (inr (is, some, made)))) = some

-- a header and a number of one byte: a commit or a cancel of so many that are held
pub record IsNumbered (byte : ℕ) (rest behind : List ℕ) (o : Outlook) : Type 0 where
  pub n : ℕ
  pub second : rest ≡ n ∷ behind
  pub small : n < 0x80
  pub some : 0 < n
  pub few : n ≤ length o.held
  pub which : (byte ≡ 0x2d) ⊎ (byte ≡ 0x2e)

-- another byte, but for that of a mispredict, is a header with a number behind it
pub numbered : (bytes rest behind : List ℕ) (byte : ℕ) (p : List ℕ × Packet) (o o' : Outlook) → bytes ≡ byte ∷ rest → byte < 0xc0
    → (byte ≡ 0x30 → ⊥) → bytes ≡ p.0 ++ behind → Moves o p o' → IsNumbered byte rest behind o
numbered bytes rest behind byte p o o' first below other parts (inl (b, run, is, spells, fits, room, made)) =
    let same = same_one byte b rest behind (sym first ∙ text_first bytes behind (b ∷ []) p (Atoms run) parts is) in
    absurd (omega (arith, same.0, below, (no_other_tells b (atoms_in run) spells).0))
numbered bytes rest behind byte p o o' first below other parts (inr (inl (n, is, small, nonzero, few, made))) =
    let same = same_one byte 0x2d rest (n ∷ behind) (sym first ∙ text_first bytes behind (0x2d ∷ n ∷ []) p (Commit n) parts is) in
    record { n = n; second = same.1; small = small; some = nonzero; few = few; which = inl same.0 }
numbered bytes rest behind byte p o o' first below other parts (inr (inr (inl (n, is, small, some, few, made)))) =
    let same = same_one byte 0x2e rest (n ∷ behind) (sym first ∙ text_first bytes behind (0x2e ∷ n ∷ []) p (Cancel n false) parts is) in
    record { n = n; second = same.1; small = small; some = some; few = few; which = inr same.0 }
numbered bytes rest behind byte p o o' first below other parts (inr (inr (inr (is, some, made)))) =
    absurd (other (same_one byte 0x30 rest behind (sym first ∙ text_first bytes behind (0x30 ∷ []) p (Mispredict no_atoms) parts is)).0)

-- where no number stands there, or one of several bytes, or another header, or fewer are held, there is no such packet
module _ (bytes rest behind : List ℕ) (byte : ℕ) (p : List ℕ × Packet) (o o' : Outlook) (first : bytes ≡ byte ∷ rest) (below : byte < 0xc0)
    (other : byte ≡ 0x30 → ⊥) (parts : bytes ≡ p.0 ++ behind) (moves : Moves o p o') where
  is : IsNumbered byte rest behind o
  is = numbered bytes rest behind byte p o o' first below other parts moves

  pub number_follows : length rest ≡ 0 → ⊥
  number_follows none = absurd (let e = ap (λ (l : List ℕ). length l) is.second in omega (arith, e, none))

  pub header_is : (byte ≡ 0x2d → ⊥) → byte ≡ 0x2e
  header_is no_commit = elim is.which [ inl commit ↦ absurd (no_commit commit) | inr cancel ↦ cancel ]

  module _ (number : ℕ) (others : List ℕ) (second : rest ≡ number ∷ others) where
    number_is : number ≡ is.n
    number_is = (same_one number is.n others behind (sym second ∙ is.second)).0

    pub number_is_small : number < 0x80
    number_is_small = omega (arith, number_is, is.small)

    pub number_is_few : (n : ℕ) → n ≡ number → n ≤ length o.held
    number_is_few n same = omega (arith, number_is, same, is.few)

    pub number_is_some : (n : ℕ) → n ≡ number → 0 < n
    number_is_some n same = omega (arith, number_is, same, is.some)

-- ---- several packets

-- one more
pub all_more : (o mid o' : Outlook) (ps : List (List ℕ × Packet)) (p : List ℕ × Packet) → MovesAll o ps mid → Moves mid p o' → MovesAll o (ps ++ p ∷ []) o'
all_more o mid o' [] p same moves = (o', subst (λ (x : Outlook). Moves x p o') same moves, refl)
all_more o mid o' (q ∷ ps) p (next, one, others) moves = (next, one, all_more next mid o' ps p others moves)

pub bytes_more : (ps : List (List ℕ × Packet)) (p : List ℕ × Packet) (behind : List ℕ) → bytes_of (ps ++ p ∷ []) ++ behind ≡ bytes_of ps ++ (p.0 ++ behind)
bytes_more [] p behind = append_assoc p.0 [] behind
bytes_more (q ∷ ps) p behind =
    append_assoc q.0 (bytes_of (ps ++ p ∷ [])) behind ∙ ap (λ (l : List ℕ). q.0 ++ l) (bytes_more ps p behind)
    ∙ sym (append_assoc q.0 (bytes_of ps) (p.0 ++ behind))

-- some packets more are at the front, up to which n atoms are committed
abbrev pub Reaches : List ℕ → Outlook → ℕ → List (List ℕ × Packet) → List ℕ → Outlook → Type 0
Reaches bytes o n ps behind o' = (bytes ≡ bytes_of ps ++ behind) × MovesAll o ps o' × (n ≤ length o'.gone)

-- what is foretold reaches that far
pub foretold_reaches : (o o' : Outlook) (bytes behind : List ℕ) (most last n : ℕ) → Foretold o bytes most o' last behind → n ≤ length o'.gone
    → (ps : List (List ℕ × Packet)) × (behind' : List ℕ) × (o'' : Outlook) × (bytes ≡ bytes_of ps ++ behind') × MovesAll o ps o'' × (n ≤ length o''.gone)
foretold_reaches o o' bytes behind most last n f enough =
    (f.first ++ f.last ∷ [], behind, o', f.parts ∙ sym (bytes_more f.first f.last behind), all_more o f.before o' f.first f.last f.moves f.ends, enough)

-- ---- how far packets were tried

pub record IsTried (o : Outlook) (bytes : List ℕ) (n : ℕ) (here : Outlook) (last : ℕ) (rest : List ℕ) : Type 0 where
  pub taken : List (List ℕ × Packet)
  pub parts : bytes ≡ bytes_of taken ++ rest
  pub moves : MovesAll o taken here
  pub none : last ≡ 0 → here ≡ o
  pub some : 0 < last → Foretold o bytes n here last rest
  pub others : (ps : List (List ℕ × Packet)) (behind : List ℕ) (o' : Outlook) → bytes ≡ bytes_of ps ++ behind → MovesAll o ps o' → n ≤ length o'.gone
      → (qs : List (List ℕ × Packet)) × Reaches rest here n qs behind o'

-- where fewer are committed than then, there is a packet more
pub one_of_them : (rest behind : List ℕ) (here o' : Outlook) (n : ℕ) (qs : List (List ℕ × Packet)) → Reaches rest here n qs behind o' → length here.gone < n
    → (q : List ℕ × Packet) × (others : List (List ℕ × Packet)) × (next : Outlook) × (rest ≡ q.0 ++ (bytes_of others ++ behind)) × Moves here q next
    × MovesAll next others o'
one_of_them rest behind here o' n [] (parts, same, enough) fewer =
    absurd (let e = ap (λ (x : Outlook). length x.gone) same in omega (arith, e, enough, fewer))
one_of_them rest behind here o' n (q ∷ qs) (parts, (next, moves, others), enough) fewer =
    (q, qs, next, parts ∙ append_assoc q.0 (bytes_of qs) behind, moves, others)

module _ (o here : Outlook) (bytes rest : List ℕ) (n last : ℕ) (tried : IsTried o bytes n here last rest) (fewer : length here.gone < n) where
  others_on : (next : Outlook) (behind : List ℕ) (p : List ℕ × Packet) → rest ≡ p.0 ++ behind → Moves here p next
      → (ps : List (List ℕ × Packet)) (behind' : List ℕ) (o' : Outlook) → bytes ≡ bytes_of ps ++ behind' → MovesAll o ps o' → n ≤ length o'.gone
      → (qs : List (List ℕ × Packet)) × Reaches behind next n qs behind' o'
  others_on next behind p parts moves ps behind' o' all all_move enough =
      let t = tried.others ps behind' o' all all_move enough in
      let u = one_of_them rest behind' here o' n t.0 t.1 fewer in
      let same = one_move rest behind (bytes_of u.1 ++ behind') p u.0 here next u.2 parts u.3 moves u.4 in
      (u.1, (same.0, subst (λ (x : Outlook). MovesAll x u.1 o') (sym same.1) u.5, enough))

  -- a packet more was taken
  pub tried_more : (next : Outlook) (behind : List ℕ) (length_of_it : ℕ) → Tried rest here length_of_it behind next
      → IsTried o bytes n next length_of_it behind
  tried_more next behind length_of_it (p, parts, long, some, moves) =
      let whole = tried.parts ∙ ap (λ (l : List ℕ). bytes_of tried.taken ++ l) parts in
      record {
        taken = tried.taken ++ p ∷ [];
        parts = whole ∙ sym (bytes_more tried.taken p behind);
        moves = all_more o here next tried.taken p tried.moves moves;
        none = λ none. absurd (omega (arith, none, some));
        some = λ _. record {
          first = tried.taken;
          last = p;
          parts = whole;
          length_is = long;
          before = here;
          moves = tried.moves;
          within = omega (arith, fewer);
          ends = moves;
        };
        others = others_on next behind p parts moves;
      }

  -- where none can be, the others reach no further
  pub tried_all : ((p : List ℕ × Packet) (behind : List ℕ) (o' : Outlook) → rest ≡ p.0 ++ behind → Moves here p o' → ⊥)
      → (ps : List (List ℕ × Packet)) (behind : List ℕ) (o' : Outlook) → bytes ≡ bytes_of ps ++ behind → MovesAll o ps o' → n ≤ length o'.gone → ⊥
  tried_all none ps behind o' all all_move enough =
      let t = tried.others ps behind o' all all_move enough in
      let u = one_of_them rest behind here o' n t.0 t.1 fewer in none u.0 (bytes_of u.1 ++ behind) u.2 u.3 u.4
