-- Packets of atoms that stand one behind the other (Arm IHI 0064, "Atom Format 1 packet" to "Atom Format 6 packet"), and what is taken of
-- them together.
use Rattle.std.specs.Prelude.{◌≡◌, ℕ, ◌+◌, ◌<◌, ◌≤◌, Bool, true, List, [], ◌∷◌, ◌++◌, length, take, drop, Option, None, Ok, option_to_list}
use Rattle.atom_formats.specs.Formats.{Spells}
use Rattle.etm_types.specs.Atoms.{atoms_in}
use Rattle.etm_types.specs.Pre.{nothing_told}
use Rattle.etm_types.specs.declared.atoms.AtomRun.{AtomRun}
use Rattle.etm_types.specs.declared.element.Elem.TheVariants as elem
use Rattle.etm_types.specs.declared.element.P0.TheVariants.{Atom}
use Rattle.etm_types.specs.declared.element.Thing.{Thing}
use Rattle.etm_types.specs.declared.item.Item.{Item}
use Rattle.packet_grammar.specs.declared.packet.Packet.TheVariants.{Atoms}
use Rattle.packet_reader.specs.Stands.{PacketReading, TakesPacket}
use Rattle.packet_reader.specs.declared.phase.Phase.TheVariants.{Between}
use Rattle.path_elements.specs.Elements.{atoms}
use Rattle.path_walker.specs.State.{State, IsState}
use Rattle.path_walker.specs.Things.{Walks}
use Rattle.path_walker.specs.Walk.{items_in}
use Rattle.path_walker.specs.declared.stretch.Stretch.{Stretch}
use Rattle.program_image.specs.declared.image.Image.{Image}
use Rattle.stream_decoder.specs.Decoding.{AtRest, Decoding, IsDecoding, depth_of}
use Rattle.stream_decoder.specs.Left.{Left}
use Rattle.stream_decoder.specs.Waiting.{Commits, IsWaiting, Waiting}
use Rattle.stream_decoder.specs.Yields.{BegunPacket, Goes}

-- ---- bytes

-- each byte is a packet of atoms, and these are the atoms of all of them, oldest first
abbrev pub TellAtoms : List ℕ → List Bool → Type 0
TellAtoms [] told = told ≡ []
TellAtoms (byte ∷ bytes) told =
    (first : List Bool) × (rest : List Bool) × Spells byte first × TellAtoms bytes rest × (told ≡ first ++ rest)

-- some bytes at the front are packets of atoms, and these are the atoms of those
abbrev pub BeginWithAtoms : List ℕ → List Bool → Type 0
BeginWithAtoms bytes told = (text : List ℕ) × (behind : List ℕ) × (bytes ≡ text ++ behind) × TellAtoms text told

-- a reader takes packets of atoms, one after the other, and these are the atoms of all of them
abbrev pub ReadsAtoms : PacketReading → List ℕ → List Bool → PacketReading → Type 0
ReadsAtoms r [] told r' = (r' ≡ r) × (told ≡ [])
ReadsAtoms r (byte ∷ bytes) told r' =
    (at : ℕ) × (run : AtomRun) × (next : PacketReading) × (rest : List Bool) × TakesPacket r next (byte ∷ []) at (Atoms run)
    × ReadsAtoms next bytes rest r' × (told ≡ atoms_in run ++ rest)

-- A reader takes packets of atoms up to the one in which the last of n atoms stands. That packet has this offset and these atoms; so many of
-- them are within the n, and these bytes are behind it.
pub record ReadsUntil (r : PacketReading) (bytes : List ℕ) (n at : ℕ) (run : AtomRun) (within : ℕ) (behind : List ℕ) (r' : PacketReading) : Type 0 where
  pub first : List ℕ
  pub last : ℕ
  pub told : List Bool
  pub before : PacketReading
  pub parts : bytes ≡ first ++ last ∷ behind
  pub reads : ReadsAtoms r first told before
  pub takes : TakesPacket before r' (last ∷ []) at (Atoms run)
  pub some : 0 < within
  pub most : within ≤ run.count
  pub count : length told + within ≡ n
  pub same : (all : List Bool) → BeginWithAtoms bytes all → n ≤ length all → take n all ≡ told ++ take within (atoms_in run)

-- It does so, and the atoms of that packet that are behind the n are left to do.
abbrev pub ReachesAtom : PacketReading → List ℕ → ℕ → Left → List ℕ → PacketReading → Type 0
ReachesAtom r bytes n l behind r' =
    (run : AtomRun) × (within : ℕ) × ReadsUntil r bytes n l.at run within behind r' × (l.elements ≡ drop within (atoms (atoms_in run)))

-- ---- atoms that are taken

-- an atom is taken where nothing is due; what it commits is walked, and is given out
pub record StepsByAtom (image : Image) (w : Waiting) (s : State) (taken : Bool) (added : List Stretch) (w' : Waiting) (s' : State) : Type 0 where
  pub thing : Option Thing
  pub commits : Commits w (elem.P0 (Atom taken)) w' (option_to_list thing)
  pub walks : Walks image s (option_to_list thing) (items_in s.ctx added) (Ok s')
  pub holds : IsWaiting w'
  pub due : w'.due ≡ []
  pub state : IsState s'
  pub context : s'.ctx ≡ s.ctx

-- atoms are, one after the other
abbrev pub StepsByAtoms : Image → Waiting → State → List Bool → List Stretch → Waiting → State → Type 0
StepsByAtoms image w s [] added w' s' = (w' ≡ w) × (s' ≡ s) × (added ≡ [])
StepsByAtoms image w s (taken ∷ told) added w' s' =
    (next : Waiting) × (mid : State) × (first : List Stretch) × (rest : List Stretch) × StepsByAtom image w s taken first next mid
    × StepsByAtoms image next mid told rest w' s' × (added ≡ first ++ rest)

-- the first n of some atoms are, and the stretches that this shows were taken
pub record TakesSome {V : Type 0} (Takes : V → List Stretch → V → Type 0) (image : Image) (w : Waiting) (s : State) (told : List Bool) (old : V) (n : ℕ)
    (w' : Waiting) (s' : State) (new : V) : Type 0 where
  pub added : List Stretch
  pub takes : Takes old added new
  pub within : n ≤ length told
  pub steps : StepsByAtoms image w s (take n told) added w' s'

-- ---- packets that are taken

-- a packet of these bytes is begun, and some of what it leaves to do is done
pub record RunsPacket (image : Image) (d : Decoding) (text : List ℕ) (items : List Item) (d' : Decoding) : Type 0 where
  pub begun : Decoding
  pub begins : BegunPacket d text begun
  pub whole : begun.fault ≡ None
  pub goes : Goes image begun items d'

-- packets of these bytes are, one after the other: all that each but the last leaves to do is done
abbrev pub RunsPackets : Image → Decoding → List (List ℕ) → List ℕ → List Item → Decoding → Type 0
RunsPackets image d [] last items d' = RunsPacket image d last items d'
RunsPackets image d (text ∷ texts) last items d' =
    (next : Decoding) × (first : List Item) × (rest : List Item) × RunsPacket image d text first next × AtRest next × IsDecoding next
    × RunsPackets image next texts last rest d' × (items ≡ first ++ rest)

abbrev pub bytes_in : List (List ℕ) → List ℕ
bytes_in [] = []
bytes_in (text ∷ texts) = text ++ bytes_in texts

-- those at the front of some bytes are, and the stretches that this shows were taken
pub record RunsFront {V : Type 0} (Takes : V → List Stretch → V → Type 0) (image : Image) (d : Decoding) (old : V) (bytes behind : List ℕ) (d' : Decoding)
    (new : V) : Type 0 where
  pub first : List (List ℕ)
  pub last : List ℕ
  pub parts : bytes ≡ bytes_in first ++ (last ++ behind)
  pub some : 0 < length last
  pub added : List Stretch
  pub takes : Takes old added new
  pub packets : RunsPackets image d first last (items_in (d.walk).ctx added) d'
  pub settings : (d'.reader).settings ≡ (d.reader).settings
  pub offset : (d'.reader).offset ≡ (d.reader).offset + length (bytes_in first) + length last

-- ---- where each atom is committed as it is made

-- No fault was met, the next byte begins a packet, atoms count and may come, and each is committed as it is made: nothing is due, and nothing but
-- an address, if that, was given before the next one.
pub record PassesAtoms (d : Decoding) : Type 0 where
  pub whole : d.fault ≡ None
  pub between : (d.reader).phase ≡ Between
  pub informed : (d.told).informed ≡ true
  pub awaiting : (d.told).awaiting ≡ None
  pub due : d.due ≡ []
  pub depth : depth_of d ≡ 0
  pub before : Option ℕ
  pub pre : (d.pending).pre ≡ record nothing_told { addr = before }
