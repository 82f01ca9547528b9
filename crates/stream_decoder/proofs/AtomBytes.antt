-- Bytes that are packets of atoms: what they tell, and what a reader takes of them.
use Rattle.std.proofs.Common.{◌≡◌, ℕ, ◌+◌, ◌-◌, ◌*◌, ◌%◌, ◌^◌, ◌<◌, ◌≤◌, Bool, List, [], ◌∷◌, ◌++◌, length, take, refl, sym, ap, subst, ◌∙◌, arith}
use Rattle.std.proofs.Common.{append-nil, append_assoc, length-append}
use Rattle.std.proofs.Math.Seq.{take-append-add}
use Rattle.std.proofs.lemmas.List.{take-append-le}
use Rattle.std.proofs.lemmas.Nat.{shl_whole}
use Rattle.atom_formats.specs.Formats.{Spells}
use Rattle.atom_formats.proofs.Rows.{no_other_tells, one_run_a_byte}
use Rattle.element_queue.proofs.LowBits.{joined_fits, low_bits-append, low_bits-length}
use Rattle.etm_types.specs.Atoms.{atoms_in, low_bits}
use Rattle.etm_types.specs.declared.atoms.AtomRun.{AtomRun}
use Rattle.packet_grammar.specs.declared.packet.Packet.TheVariants.{Atoms}
use Rattle.packet_reader.specs.Stands.{PacketReading, TakesPacket}
use Rattle.packet_reader.specs.declared.phase.Phase.TheVariants.{Between}
use Rattle.stream_decoder.specs.AtomPackets.{BeginWithAtoms, ReadsAtoms, ReadsUntil, TellAtoms}

-- ---- one packet more

pub tell_more : (text : List ℕ) (told : List Bool) (byte : ℕ) (atoms : List Bool) → TellAtoms text told → Spells byte atoms
    → TellAtoms (text ++ byte ∷ []) (told ++ atoms)
tell_more [] told byte atoms none spells = (atoms, [], spells, refl, ap (λ (l : List Bool). l ++ atoms) none ∙ sym (append-nil atoms))
tell_more (b ∷ text) told byte atoms (first, rest, spells_first, tell, parts) spells =
    (first, rest ++ atoms, spells_first, tell_more text rest byte atoms tell spells, ap (λ (l : List Bool). l ++ atoms) parts ∙ append_assoc first rest atoms)

pub read_more : (r r' r'' : PacketReading) (text : List ℕ) (told : List Bool) (byte at : ℕ) (run : AtomRun) → ReadsAtoms r text told r'
    → TakesPacket r' r'' (byte ∷ []) at (Atoms run) → ReadsAtoms r (text ++ byte ∷ []) (told ++ atoms_in run) r''
read_more r r' r'' [] told byte at run (same, none) takes = (
  at,
  run,
  r'',
  [],
  subst (λ (s : PacketReading). TakesPacket s r'' (byte ∷ []) at (Atoms run)) same takes,
  (refl, refl),
  ap (λ (l : List Bool). l ++ atoms_in run) none ∙ sym (append-nil (atoms_in run)),
)
read_more r r' r'' (b ∷ text) told byte at run (at_b, run_b, next, rest, takes_b, reads, parts) takes = (
  at_b,
  run_b,
  next,
  rest ++ atoms_in run,
  takes_b,
  read_more next r' r'' text rest byte at run reads takes,
  ap (λ (l : List Bool). l ++ atoms_in run) parts ∙ append_assoc (atoms_in run_b) rest (atoms_in run),
)

-- ---- the atoms of one packet behind those of others

-- they fit in a word of 32 bits, and stand behind the others there
run_shifted : (bits count others : ℕ) → bits < 2 ^ count → others + count ≤ 24 → bits * 2 ^ others % 2 ^ 32 ≡ bits * 2 ^ others
run_shifted bits count others fits few = shl_whole bits count others 32 fits (omega (arith, few))

pub run_more : (count bits others more : ℕ) → bits < 2 ^ count → more < 2 ^ others → count + others ≤ 24
    → (bits + more * 2 ^ count % 2 ^ 32 < 2 ^ (count + others))
    × (low_bits (count + others) (bits + more * 2 ^ count % 2 ^ 32) ≡ low_bits count bits ++ low_bits others more)
run_more count bits others more fits more_fits few =
    let whole = run_shifted more others count more_fits few in
    let sum : more * 2 ^ count + bits ≡ bits + more * 2 ^ count % 2 ^ 32 = omega (arith, whole) in (
      subst (λ (k : ℕ). k < 2 ^ (count + others)) sum (joined_fits count others bits more fits more_fits),
      ap (low_bits (count + others)) (sym sum) ∙ low_bits-append count others bits more fits,
    )

-- ---- which atoms bytes begin with

-- the first of the bytes that begin with atoms tells some, and the rest begin with the rest
pub first_tells : (byte : ℕ) (behind : List ℕ) (all : List Bool) → BeginWithAtoms (byte ∷ behind) all → 0 < length all
    → (atoms : List Bool) × (rest : List Bool) × Spells byte atoms × (all ≡ atoms ++ rest) × BeginWithAtoms behind rest
first_tells byte behind all ([], more, parts, none) some =
    absurd (let e = ap (λ (l : List Bool). length l) none in omega (arith, e, some))
first_tells byte behind all (b ∷ text, more, parts, (atoms, rest, spells, tell, whole)) some =
    let same : byte ≡ b = cc in
    let behind_is : behind ≡ text ++ more = cc in
    (atoms, rest, subst (λ (x : ℕ). Spells x atoms) (sym same) spells, whole, (text, more, behind_is, tell))

-- they are the ones that the byte tells
pub first_is : (byte : ℕ) (behind : List ℕ) (all atoms : List Bool) → BeginWithAtoms (byte ∷ behind) all → 0 < length all → Spells byte atoms
    → (rest : List Bool) × (all ≡ atoms ++ rest) × BeginWithAtoms behind rest
first_is byte behind all atoms begin some spells =
    let t = first_tells byte behind all begin some in
    let same : t.0 ≡ atoms = one_run_a_byte byte t.0 atoms t.2 spells in
    (t.1, t.3 ∙ ap (λ (l : List Bool). l ++ t.1) same, t.4)

-- a packet of atoms is one of the bytes from c0 on
pub first_least : (byte : ℕ) (behind : List ℕ) (all : List Bool) → BeginWithAtoms (byte ∷ behind) all → 0 < length all → 0xc0 ≤ byte
first_least byte behind all begin some = let t = first_tells byte behind all begin some in (no_other_tells byte t.0 t.2).0

-- several packets are those at the front, and the rest begin with the rest
pub front_is : (first rest : List ℕ) (told all : List Bool) → BeginWithAtoms (first ++ rest) all → TellAtoms first told → length told < length all
    → (later : List Bool) × (all ≡ told ++ later) × BeginWithAtoms rest later
front_is [] rest told all begin none more = (all, sym (ap (λ (l : List Bool). l ++ all) none), begin)
front_is (b ∷ first) rest told all begin (atoms, others, spells, tell, parts) more =
    let t = first_is b (first ++ rest) all atoms begin (omega (arith, more)) spells in
    let long = ap (λ (l : List Bool). length l) t.1 ∙ length-append atoms t.0 in
    let short = ap (λ (l : List Bool). length l) parts ∙ length-append atoms others in
    let f = front_is first rest others t.0 t.2 tell (omega (arith, more, long, short)) in
    (f.0, t.1 ∙ ap (λ (l : List Bool). atoms ++ l) f.1 ∙ sym (append_assoc atoms others f.0) ∙ sym (ap (λ (l : List Bool). l ++ f.0) parts), f.2)

-- the first n, where the last of these stands in the packet behind the several
pub first_n : (first behind : List ℕ) (last n within : ℕ) (told atoms all : List Bool) → BeginWithAtoms (first ++ last ∷ behind) all → TellAtoms first told
    → Spells last atoms → length told + within ≡ n → n ≤ length all → 0 < within → within ≤ length atoms → take n all ≡ told ++ take within atoms
first_n first behind last n within told atoms all begin tell spells count enough some most =
    let f = front_is first (last ∷ behind) told all begin tell (omega (arith, count, enough, some)) in
    let long = ap (λ (l : List Bool). length l) f.1 ∙ length-append told f.0 in
    let t = first_is last behind f.0 atoms f.2 (omega (arith, long, count, enough, some)) spells in
    ap (λ (k : ℕ). take k all) (sym count) ∙ ap (λ (l : List Bool). take (length told + within) l) f.1 ∙ take-append-add told f.0 within
    ∙ ap (λ (l : List Bool). told ++ take within l) t.1
    ∙ ap (λ (l : List Bool). told ++ l) (take-append-le within atoms t.0 most)

-- ---- a reader on its way to an atom

-- of n atoms so many are left, and the bytes that are left begin with them
pub record IsOnTheWay (r : PacketReading) (bytes : List ℕ) (n left : ℕ) (rest : List ℕ) (here : PacketReading) : Type 0 where
  pub first : List ℕ
  pub told : List Bool
  pub parts : bytes ≡ first ++ rest
  pub reads : ReadsAtoms r first told here
  pub tell : TellAtoms first told
  pub count : length told + left ≡ n
  pub some : 0 < left
  pub between : here.phase ≡ Between
  pub small : here.offset + length rest ≤ 2 ^ 62
  pub more : (all : List Bool) × BeginWithAtoms rest all × (left ≤ length all)

at_byte : (r here : PacketReading) (bytes rest behind : List ℕ) (n left byte : ℕ) → rest ≡ byte ∷ behind → IsOnTheWay r bytes n left rest here
    → IsOnTheWay r bytes n left (byte ∷ behind) here
at_byte r here bytes rest behind n left byte parts way = subst (λ (l : List ℕ). IsOnTheWay r bytes n left l here) parts way

-- the next byte is a packet of atoms
pub next_least : (r here : PacketReading) (bytes rest behind : List ℕ) (n left byte : ℕ) → rest ≡ byte ∷ behind → IsOnTheWay r bytes n left rest here
    → (here.phase ≡ Between) × (0xc0 ≤ byte)
next_least r here bytes rest behind n left byte parts on_the_way =
    let way = at_byte r here bytes rest behind n left byte parts on_the_way in
    let m = way.more in (way.between, first_least byte behind m.0 m.1 (omega (arith, m.2, way.some)))

module _ (r here next : PacketReading) (bytes rest behind : List ℕ) (n left byte at : ℕ) (run : AtomRun) (parts : rest ≡ byte ∷ behind)
    (on_the_way : IsOnTheWay r bytes n left rest here) (takes : TakesPacket here next (byte ∷ []) at (Atoms run))
    (spells : Spells byte (atoms_in run)) where
  way : IsOnTheWay r bytes n left (byte ∷ behind) here
  way = at_byte r here bytes rest behind n left byte parts on_the_way

  counted : length (atoms_in run) ≡ run.count
  counted = low_bits-length run.count run.bits

  -- a packet more was taken
  pub on_the_way_more : run.count < left → next.phase ≡ Between → IsOnTheWay r bytes n (left - run.count) behind next
  on_the_way_more fewer between =
      let m = way.more in
      let f = first_is byte behind m.0 (atoms_in run) m.1 (omega (arith, m.2, way.some)) spells in
      let long = ap (λ (l : List Bool). length l) f.1 ∙ length-append (atoms_in run) f.0 in
      let told = length-append way.told (atoms_in run) in
      record {
        first = way.first ++ byte ∷ [];
        told = way.told ++ atoms_in run;
        parts = way.parts ∙ sym (append_assoc way.first (byte ∷ []) behind);
        reads = read_more r here next way.first way.told byte at run way.reads takes;
        tell = tell_more way.first way.told byte (atoms_in run) way.tell spells;
        count = omega (arith, told, counted, way.count, fewer);
        some = omega (arith, fewer);
        between = between;
        small = omega (arith, takes.offset, way.small);
        more = (f.0, f.2, omega (arith, long, counted, m.2, fewer));
      }

  -- the last of the n atoms stands in this one
  pub there : left ≤ run.count → ReadsUntil r bytes n at run left behind next
  there most = record {
    first = way.first;
    last = byte;
    told = way.told;
    before = here;
    parts = way.parts;
    reads = way.reads;
    takes = takes;
    some = way.some;
    most = most;
    count = way.count;
    same = λ all begin enough.
        first_n way.first behind byte n left way.told (atoms_in run) all (subst (λ (l : List ℕ). BeginWithAtoms l all) way.parts begin) way.tell spells
        way.count enough way.some (omega (arith, counted, most));
  }
