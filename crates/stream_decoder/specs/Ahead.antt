-- Packets of atoms, commits, cancels and mispredicts, where all that is held is atoms before which nothing was given: what these commit is known
-- before any of them is taken, and can be walked as one run (Arm IHI 0064, "Atom packets", "Commit packet", "Cancel packets", "Mispredict packet").
use Rattle.std.specs.Prelude.{◌≡◌, ◌⊎◌, ℕ, ◌+◌, ◌-◌, ◌<◌, ◌≤◌, Bool, false, List, [], ◌∷◌, ◌++◌, length, map, take, drop}
use Rattle.atom_formats.specs.Formats.{Spells}
use Rattle.element_queue.specs.Counting.{add}
use Rattle.element_queue.specs.Outlooks.{Outlook, flip_newest_atom, has_room}
use Rattle.element_queue.specs.Queued.{plain_atom}
use Rattle.etm_types.specs.Atoms.{IsAtomRun, atoms_in}
use Rattle.etm_types.specs.declared.atoms.AtomRun.{AtomRun}
use Rattle.etm_types.specs.declared.atoms.FewAtoms.{FewAtoms}
use Rattle.etm_types.specs.declared.element.Elem.{Elem}
use Rattle.etm_types.specs.declared.element.Elem.TheVariants as elem
use Rattle.etm_types.specs.declared.element.Thing.{Thing}
use Rattle.packet_grammar.specs.declared.packet.Packet.{Packet}
use Rattle.packet_grammar.specs.declared.packet.Packet.TheVariants.{Atoms, Commit, Cancel, Mispredict}
use Rattle.packet_reader.specs.Packets.{bytes_of}
use Rattle.path_elements.specs.Elements.{atoms}
use Rattle.stream_decoder.specs.Waiting.{Commits, DropsDue, IsWaiting, Waiting}

-- ---- what packets commit

-- a packet of atoms, for which there is room
abbrev pub HoldsMore : Outlook → List ℕ × Packet → Outlook → Type 0
HoldsMore o p o' =
    (byte : ℕ) × (run : AtomRun) × (p ≡ (byte ∷ [], Atoms run)) × Spells byte (atoms_in run) × IsAtomRun run × has_room o run.count
    × (o' ≡ record o { held = o.held ++ atoms_in run; made = o.made + run.count })

-- a commit packet of at least one, whose number has one byte
abbrev pub CommitsOldest : Outlook → List ℕ × Packet → Outlook → Type 0
CommitsOldest o p o' =
    (n : ℕ) × (p ≡ (0x2d ∷ n ∷ [], Commit n)) × (n < 0x80) × (0 < n) × (n ≤ length o.held)
    × (o' ≡ record o { gone = o.gone ++ take n o.held; held = drop n o.held })

-- a Cancel Format 1 packet without a mispredict whose number has one byte
abbrev pub TakesNewestBack : Outlook → List ℕ × Packet → Outlook → Type 0
TakesNewestBack o p o' =
    (n : ℕ) × (p ≡ (0x2e ∷ n ∷ [], Cancel n false)) × (n < 0x80) × (0 < n) × (n ≤ length o.held)
    × (o' ≡ record o { held = take (length o.held - n) o.held; cancelled = o.cancelled + n })

-- no atom
abbrev pub no_atoms : FewAtoms
no_atoms = record { count = 0; first = false }

-- a Mispredict packet without atoms, where one is held
abbrev pub FlipsNewest : Outlook → List ℕ × Packet → Outlook → Type 0
FlipsNewest o p o' = (p ≡ (0x30 ∷ [], Mispredict no_atoms)) × (0 < length o.held) × (o' ≡ record o { held = flip_newest_atom o.held })

-- what a packet, with its bytes, makes of an outlook
abbrev pub Moves : Outlook → List ℕ × Packet → Outlook → Type 0
Moves o p o' = HoldsMore o p o' ⊎ CommitsOldest o p o' ⊎ TakesNewestBack o p o' ⊎ FlipsNewest o p o'

-- what packets make of it, one after the other
abbrev pub MovesAll : Outlook → List (List ℕ × Packet) → Outlook → Type 0
MovesAll o [] o' = o' ≡ o
MovesAll o (p ∷ ps) o' = (next : Outlook) × Moves o p next × MovesAll next ps o'

-- Packets at the front of some bytes make this of it, and without the last of them no more than n atoms are committed. The last one has so many
-- bytes, and the other bytes are behind it.
pub record Foretold (o : Outlook) (bytes : List ℕ) (n : ℕ) (o' : Outlook) (length_of_last : ℕ) (behind : List ℕ) : Type 0 where
  pub first : List (List ℕ × Packet)
  pub last : List ℕ × Packet
  pub parts : bytes ≡ bytes_of first ++ (last.0 ++ behind)
  pub length_is : length last.0 ≡ length_of_last
  pub before : Outlook
  pub moves : MovesAll o first before
  pub within : length before.gone ≤ n
  pub ends : Moves before last o'

-- ---- packets that are taken

-- elements are taken, one after the other, where nothing is due; what the last commits is due then
abbrev pub TakesEach : Waiting → List Elem → Waiting → Type 0
TakesEach w [] w' = w' ≡ w
TakesEach w (e ∷ es) w' = (next : Waiting) × (w.due ≡ []) × Commits w e next [] × IsWaiting next × TakesEach next es w'

-- the elements of such a packet
abbrev pub HasElements : Packet → List Elem → Type 0
HasElements packet es =
    ((run : AtomRun) × (packet ≡ Atoms run) × (es ≡ atoms (atoms_in run)))
    ⊎ ((n : ℕ) × (packet ≡ Commit n) × (es ≡ elem.Commit n ∷ []))
    ⊎ ((n : ℕ) × (packet ≡ Cancel n false) × (es ≡ elem.Cancel n ∷ []))
    ⊎ ((packet ≡ Mispredict no_atoms) × (es ≡ elem.Flip ∷ []))

-- A packet is taken with all its elements, and the oldest of what is due then, these atoms, are given out.
pub record GivesOut (w : Waiting) (packet : Packet) (gone : List Bool) (w' : Waiting) : Type 0 where
  pub elements : List Elem
  pub has : HasElements packet elements
  pub mid : Waiting
  pub quiet : TakesEach w elements mid
  pub holds : IsWaiting mid
  pub others : List Thing
  pub due : mid.due ≡ map plain_atom gone ++ others
  pub drops : DropsDue mid (length gone) w'

-- packets are, one after the other, and behind each but the last nothing is due
abbrev pub GiveOut : Waiting → List (List ℕ × Packet) → List ℕ × Packet → List Bool → Waiting → Type 0
GiveOut w [] last gone w' = GivesOut w last.1 gone w'
GiveOut w (p ∷ ps) last gone w' =
    (next : Waiting) × (first : List Bool) × (rest : List Bool) × GivesOut w p.1 first next × (next.due ≡ []) × GiveOut next ps last rest w'
    × (gone ≡ first ++ rest)

-- what was tried on an outlook is done, the n oldest of what it commits are given out, and the others are due
abbrev pub settled_waiting : Outlook → ℕ → Waiting → Waiting
settled_waiting o n w =
    record w {
      pending = record (w.pending) { held = map plain_atom o.held };
      due = map plain_atom (drop n o.gone);
      counts = record (w.counts) {
        made = add (w.counts).made o.made;
        committed = add (w.counts).committed n;
        cancelled = add (w.counts).cancelled o.cancelled;
      };
    }
