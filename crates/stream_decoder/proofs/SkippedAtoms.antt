-- Packets of atoms that are skipped: from what their bytes tell to the packets, and from a reader that took these to one that reached an atom.
use Rattle.std.proofs.Common.{◌≡◌, ℕ, ◌+◌, ◌-◌, ◌<◌, ◌≤◌, Bool, List, [], ◌∷◌, ◌++◌, length, drop, refl, sym, ap, subst, ◌∙◌, arith}
use Rattle.std.proofs.Common.{append-nil, append_assoc, length-append, true}
use Rattle.std.proofs.lemmas.List.{drop_all, length-map}
use Rattle.std.specs.Prelude.{⊤}
use Rattle.atom_formats.proofs.Rows.{no_other_tells, one_run_a_byte}
use Rattle.atom_formats.proofs.Table.{is_run, row_told, run_told}
use Rattle.atom_formats.specs.Formats.{Spells}
use Rattle.element_queue.proofs.LowBits.{low_bits-length}
use Rattle.etm_types.specs.Atoms.{IsAtomRun, atoms_in}
use Rattle.etm_types.specs.Settings.{Sizes}
use Rattle.etm_types.specs.declared.atoms.AtomRun.{AtomRun}
use Rattle.etm_types.specs.declared.element.Elem.TheVariants as elem
use Rattle.etm_types.specs.declared.element.P0.TheVariants.{Atom}
use Rattle.packet_grammar.proofs.Fitting.{small_back, small_front}
use Rattle.packet_grammar.specs.declared.packet.Packet.{Packet}
use Rattle.packet_grammar.specs.declared.packet.Packet.TheVariants.{Atoms}
use Rattle.packet_reader.proofs.Fronts.{atoms_spelled}
use Rattle.packet_reader.specs.Packets.{ArePackets, TakesPackets, bytes_of, length_of}
use Rattle.packet_reader.specs.Stands.{PacketReading, TakesPacket}
use Rattle.path_elements.specs.Elements.{atoms}
use Rattle.stream_decoder.proofs.AtomBytes.{first_n}
use Rattle.stream_decoder.proofs.Growing.{Small}
use Rattle.stream_decoder.specs.AtomPackets.{BeginWithAtoms, ReachesAtom, ReadsAtoms, ReadsUntil, TellAtoms}
use Rattle.stream_decoder.specs.Left.{Left, nothing_left}

-- ---- bytes with their runs

-- a byte has this run of atoms
abbrev pub HasRun : ℕ × AtomRun → Type 0
HasRun p = Spells p.0 (atoms_in p.1) × IsAtomRun p.1

abbrev pub HaveRuns : List (ℕ × AtomRun) → Type 0
HaveRuns [] = ⊤
HaveRuns (p ∷ ps) = HasRun p × HaveRuns ps

abbrev pub bytes_in : List (ℕ × AtomRun) → List ℕ
bytes_in [] = []
bytes_in (p ∷ ps) = p.0 ∷ bytes_in ps

abbrev pub all_in : List (ℕ × AtomRun) → List Bool
all_in [] = []
all_in (p ∷ ps) = atoms_in p.1 ++ all_in ps

abbrev pub packet_in : ℕ × AtomRun → List ℕ × Packet
packet_in p = (p.0 ∷ [], Atoms p.1)

abbrev pub packets_in : List (ℕ × AtomRun) → List (List ℕ × Packet)
packets_in [] = []
packets_in (p ∷ ps) = packet_in p ∷ packets_in ps

-- each byte that tells atoms has a run of these
row_there : (byte : ℕ) (told : List Bool) (count bits : ℕ) → Spells byte told → is_run byte count bits ≡ true
    → (run : AtomRun) × HasRun (byte, run) × (told ≡ atoms_in run)
row_there byte told count bits spells row =
    let is = run_told byte count bits row in
    let run : AtomRun = record { count = count; bits = bits } in (run, (is.0, is.1), one_run_a_byte byte told (atoms_in run) spells is.0)

run_there : (byte : ℕ) (told : List Bool) → Spells byte told → (run : AtomRun) × HasRun (byte, run) × (told ≡ atoms_in run)
run_there byte told spells = let within = no_other_tells byte told spells in row_there byte told _ _ spells (row_told byte within.0 within.1)

runs_there : (text : List ℕ) (told : List Bool) → TellAtoms text told
    → (ps : List (ℕ × AtomRun)) × HaveRuns ps × (text ≡ bytes_in ps) × (told ≡ all_in ps)
runs_there [] told none = ([], tt, refl, none)
runs_there (byte ∷ text) told (first, rest, spells, tell, parts) =
    let (run, has, is) = run_there byte first spells in
    let (ps, have, bytes, all) = runs_there text rest tell in (
      (byte, run) ∷ ps,
      (has, have),
      ap (λ (l : List ℕ). byte ∷ l) bytes,
      parts ∙ ap (λ (l : List Bool). l ++ rest) is ∙ ap (λ (l : List Bool). atoms_in run ++ l) all,
    )

-- ---- the last of them

-- bytes that tell atoms are some with their runs, and a last one with its
pub record AreRuns (text : List ℕ) (told : List Bool) : Type 0 where
  pub first : List (ℕ × AtomRun)
  pub last : ℕ × AtomRun
  pub have : HaveRuns first
  pub has : HasRun last
  pub bytes : text ≡ bytes_in first ++ last.0 ∷ []
  pub all : told ≡ all_in first ++ atoms_in last.1

last_there : (p : ℕ × AtomRun) (ps : List (ℕ × AtomRun)) → HasRun p → HaveRuns ps → AreRuns (p.0 ∷ bytes_in ps) (atoms_in p.1 ++ all_in ps)
last_there p [] has have = record { first = []; last = p; have = tt; has = has; bytes = refl; all = append-nil (atoms_in p.1) }
last_there p (q ∷ ps) has have =
    let later = last_there q ps have.0 have.1 in
    record {
      first = p ∷ later.first;
      last = later.last;
      have = (has, later.have);
      has = later.has;
      bytes = ap (λ (l : List ℕ). p.0 ∷ l) later.bytes;
      all = ap (λ (l : List Bool). atoms_in p.1 ++ l) later.all ∙ sym (append_assoc (atoms_in p.1) (all_in later.first) (atoms_in (later.last).1));
    }

some_there : (text : List ℕ) (told : List Bool) (ps : List (ℕ × AtomRun)) → HaveRuns ps → text ≡ bytes_in ps → told ≡ all_in ps → 0 < length told
    → AreRuns text told
some_there text told [] have bytes all some = absurd (let e = ap (λ (l : List Bool). length l) all in omega (arith, e, some))
some_there text told (p ∷ ps) have bytes all some =
    let are = last_there p ps have.0 have.1 in
    record { first = are.first; last = are.last; have = are.have; has = are.has; bytes = bytes ∙ are.bytes; all = all ∙ are.all }

pub are_runs : (text : List ℕ) (told : List Bool) (n : ℕ) → TellAtoms text told → 0 < n → n ≡ length told → AreRuns text told
are_runs text told n tell some many =
    let (ps, have, bytes, all) = runs_there text told tell in some_there text told ps have bytes all (omega (arith, some, many))

-- ---- their packets

are_packets : (s : Sizes) (ps : List (ℕ × AtomRun)) (p : ℕ × AtomRun) → Small (bytes_in ps ++ p.0 ∷ []) → HaveRuns ps → HasRun p
    → ArePackets s (packets_in ps ++ packet_in p ∷ [])
are_packets s [] p small have (spells, is) =
    let within = no_other_tells p.0 (atoms_in p.1) spells in
    (omega arith, small, atoms_spelled s p.0 p.1 within.0 within.1 spells is, tt)
are_packets s (q ∷ ps) p small ((spells, is), have) has =
    let within = no_other_tells q.0 (atoms_in q.1) spells in
    let all = q.0 ∷ bytes_in ps ++ p.0 ∷ [] in (
      omega arith,
      small_front all (q.0 ∷ []) (bytes_in ps ++ p.0 ∷ []) refl small,
      atoms_spelled s q.0 q.1 within.0 within.1 spells is,
      are_packets s ps p (small_back all (q.0 ∷ []) (bytes_in ps ++ p.0 ∷ []) refl small) have has,
    )

their_bytes : (ps : List (ℕ × AtomRun)) (p : ℕ × AtomRun) → bytes_of (packets_in ps ++ packet_in p ∷ []) ≡ bytes_in ps ++ p.0 ∷ []
their_bytes [] p = refl
their_bytes (q ∷ ps) p = ap (λ (l : List ℕ). q.0 ∷ l) (their_bytes ps p)

-- so many bytes of them stand before the others
pub skipped_packets : (s : Sizes) (bytes text behind : List ℕ) (told : List Bool) (a : AreRuns text told) → Small bytes → bytes ≡ text ++ behind
    → ArePackets s (packets_in a.first ++ packet_in a.last ∷ [])
    × (length_of (packets_in a.first ++ packet_in a.last ∷ []) ≡ length bytes - length behind)
skipped_packets s bytes text behind told a small parts =
    let long = ap (λ (l : List ℕ). length l) parts ∙ length-append text behind in
    let same = ap (λ (l : List ℕ). length l) (their_bytes a.first a.last ∙ sym a.bytes) in (
      are_packets s a.first a.last (subst Small a.bytes (small_front bytes text behind parts small)) a.have a.has,
      omega (arith, long, same),
    )

-- ---- a reader that took them

first_tell : (ps : List (ℕ × AtomRun)) → HaveRuns ps → TellAtoms (bytes_in ps) (all_in ps)
first_tell [] have = refl
first_tell (p ∷ ps) have = (atoms_in p.1, all_in ps, (have.0).0, first_tell ps have.1, refl)

first_read : (r r' : PacketReading) (ps : List (ℕ × AtomRun)) (p : ℕ × AtomRun) (at : ℕ) → TakesPackets r (packets_in ps) (packet_in p) at r'
    → (before : PacketReading) × ReadsAtoms r (bytes_in ps) (all_in ps) before × TakesPacket before r' (p.0 ∷ []) at (Atoms p.1)
first_read r r' [] p at takes = (r, (refl, refl), takes)
first_read r r' (q ∷ ps) p at (at_q, next, takes, later) =
    let (before, reads, ends) = first_read next r' ps p at later in
    (before, (at_q, q.1, next, all_in ps, takes, reads, refl), ends)

none_left : (run : AtomRun) → [] ≡ drop run.count (atoms (atoms_in run))
none_left run =
    let long = length-map (atoms_in run) (λ (t : Bool). elem.P0 (Atom t)) in
    let count = low_bits-length run.count run.bits in
    sym (drop_all run.count (atoms (atoms_in run)) (omega (arith, long, count)))

-- it reached the last of their atoms, and none is left
pub reaches_last : (r r' : PacketReading) (bytes text behind : List ℕ) (told : List Bool) (n at : ℕ) (l : Left) (a : AreRuns text told)
    → bytes ≡ text ++ behind → n ≡ length told → TakesPackets r (packets_in a.first) (packet_in a.last) at r' → l ≡ nothing_left at
    → ReachesAtom r bytes n l behind r'
reaches_last r r' bytes text behind told n at l a parts many takes left =
    let run = (a.last).1 in let last = (a.last).0 in let first = bytes_in a.first in let front = all_in a.first in
    let (before, reads, ends) = first_read r r' a.first a.last at takes in
    let count = low_bits-length run.count run.bits in
    let long = ap (λ (l : List Bool). length l) a.all ∙ length-append front (atoms_in run) in
    let whole : length front + run.count ≡ n = omega (arith, many, long, count) in
    let some : 0 < run.count = omega (arith, (a.has).1.some) in
    let stand : bytes ≡ first ++ last ∷ behind =
    parts ∙ ap (λ (l : List ℕ). l ++ behind) a.bytes ∙ append_assoc first (last ∷ []) behind in
    let until : ReadsUntil r bytes n at run run.count behind r' =
    record {
      first = first;
      last = last;
      told = front;
      before = before;
      parts = stand;
      reads = reads;
      takes = ends;
      some = some;
      most = omega arith;
      count = whole;
      same = λ all begin enough.
          first_n first behind last n run.count front (atoms_in run) all (subst (λ (l : List ℕ). BeginWithAtoms l all) stand begin)
          (first_tell a.first a.have) (a.has).0 whole enough some (omega (arith, count));
    } in
    subst (λ (l : Left). ReachesAtom r bytes n l behind r') (sym left) (run, run.count, until, none_left run)

-- ---- the atoms that are taken are at the front of all

pub begins_with : (bytes behind : List ℕ) (run : AtomRun) (n : ℕ) → (text : List ℕ) × (bytes ≡ text ++ behind) × TellAtoms text (atoms_in run) → n ≤ run.count
    → (all : List Bool) × BeginWithAtoms bytes all × (n ≤ length all)
begins_with bytes behind run n (text, parts, tell) few =
    let count = low_bits-length run.count run.bits in (atoms_in run, (text, behind, parts, tell), omega (arith, count, few))
