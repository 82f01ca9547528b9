-- What is left to do shows, and where it leads.
use Rattle.std.specs.Prelude.{◌≡◌, ◌⊎◌, ℕ, ◌≤◌, ◌+◌, ◌*◌, Bool, true, false, List, [], ◌∷◌, ◌++◌, length, Option, Some, None}
use Rattle.std.specs.Prelude.{Ok, Err, option_to_list}
use Rattle.element_queue.specs.Counting.{counts_after, made_by, tally}
use Rattle.element_queue.specs.Pending.{Gone, Pending, taken}
use Rattle.element_queue.specs.declared.ledger.Counts.{Counts}
use Rattle.etm_types.specs.Atoms.{most_atoms}
use Rattle.etm_types.specs.Walked.{items_of}
use Rattle.etm_types.specs.declared.element.Elem.{Elem}
use Rattle.etm_types.specs.declared.element.Elem.TheVariants as elem
use Rattle.etm_types.specs.declared.element.P0.TheVariants.{Atom}
use Rattle.etm_types.specs.declared.element.Thing.{Thing}
use Rattle.etm_types.specs.declared.element.Thing.TheVariants.{Seen}
use Rattle.etm_types.specs.declared.item.Item.{Item}
use Rattle.etm_types.specs.declared.item.Item.TheVariants as item
use Rattle.etm_types.specs.declared.queue_fault.QueueFault.{QueueFault}
use Rattle.etm_types.specs.declared.walk_fault.WalkFault.{WalkFault}
use Rattle.packet_grammar.specs.declared.packet.Packet.{Packet}
use Rattle.packet_grammar.specs.declared.stream_fault.Fault.{Fault}
use Rattle.packet_grammar.specs.declared.stream_fault.Fault.TheVariants as fault
use Rattle.packet_reader.specs.Stands.{PacketReading}
use Rattle.packet_reader.specs.Stands as reader
use Rattle.packet_reader.specs.declared.step.Step.{Step}
use Rattle.packet_reader.specs.declared.step.Step.TheVariants.{Whole, Bad}
use Rattle.path_elements.specs.Elements.{elements_of, told_after, is_misplaced, with_offset}
use Rattle.path_elements.specs.Path.{unplaced}
use Rattle.path_elements.specs.Running.{Outcome, Runs}
use Rattle.path_walker.specs.State.{State, IsState}
use Rattle.path_walker.specs.Things.{Walks}
use Rattle.path_walker.specs.Walk.{Shows, atom_at, items_in, walked_in}
use Rattle.path_walker.specs.declared.stretch.Stretch.{Stretch}
use Rattle.program_image.specs.declared.image.Image.{Image}
use Rattle.stream_decoder.specs.Decoding.{Decoding, AtRest, counted, depth_of}
use Rattle.stream_decoder.specs.declared.found.Found.{Found}
use Rattle.stream_decoder.specs.declared.found.Found.TheVariants as found

-- the items that were found
abbrev pub items_of_found : Found → List Item
items_of_found (found.Walked w) = items_of w
items_of_found found.Gap = item.Gap ∷ []
items_of_found found.Stop = item.Stop ∷ []

abbrev pub items_found : Option Found → List Item
items_found None = []
items_found (Some f) = items_of_found f

-- ---- what a byte begins

-- the reader takes the byte, and this is its answer
abbrev pub Reads : PacketReading → PacketReading → ℕ → Step → Type 0
Reads r r' byte step =
    (bytes : List ℕ) → reader.StandsAt r bytes → reader.StandsAt r' (bytes ++ byte ∷ []) × reader.Gains r.settings bytes byte step

abbrev pub OpensPacket : Decoding → ℕ → Packet → Decoding → Type 0
OpensPacket d at packet d' =
    ((is_misplaced d.told packet ≡ true) × (d' ≡ record d { reader = d'.reader; fault = Some (at, fault.AddressAwaited) }))
    ⊎ ((is_misplaced d.told packet ≡ false)
    × (d' ≡ record d { reader = d'.reader; told = told_after d.told packet; at = at; todo = elements_of d.told packet }))

-- what the reader's answer to a byte leaves to do
abbrev pub Opens : Decoding → Step → Decoding → Type 0
Opens d (Whole at packet) d' = OpensPacket d at packet d'
Opens d (Bad at f) d' = d' ≡ record d { reader = d'.reader; fault = Some (at, fault.Packet f) }
Opens d step d' = d' ≡ record d { reader = d'.reader }

-- the same, where no fault was met; behind a fault only the reader goes on
abbrev pub OpensBehind : Option (ℕ × Fault) → Decoding → Step → Decoding → Type 0
OpensBehind None d step d' = Opens d step d'
OpensBehind (Some f) d step d' = d' ≡ record d { reader = d'.reader }

-- a byte is taken
abbrev pub BegunByte : Decoding → ℕ → Decoding → Type 0
BegunByte d byte d' = (step : Step) × Reads d.reader d'.reader byte step × OpensBehind d.fault d step d'

-- and the reader is a byte further
pub record TakesByte (d : Decoding) (byte : ℕ) (d' : Decoding) : Type 0 where
  pub begins : BegunByte d byte d'
  pub offset : (d'.reader).offset ≡ (d.reader).offset + 1
  pub settings : (d'.reader).settings ≡ (d.reader).settings

-- the bytes of a whole packet are taken
abbrev pub BegunPacket : Decoding → List ℕ → Decoding → Type 0
BegunPacket d text d' = (at : ℕ) × (packet : Packet) × reader.TakesPacket d.reader d'.reader text at packet × OpensPacket d at packet d'

-- bytes are taken: one, or where no fault was met those of a whole packet
abbrev pub BegunBy : Decoding → List ℕ → Decoding → Type 0
BegunBy d text d' = ((byte : ℕ) × (text ≡ byte ∷ []) × BegunByte d byte d') ⊎ ((d.fault ≡ None) × BegunPacket d text d')

-- ---- one thing or one element more

abbrev pub LeavesBy : Decoding → List Elem → Pending → List Thing → Type 0
LeavesBy d [] p things = (d.due ≡ things) × (p ≡ d.pending)
LeavesBy d (e ∷ []) p things = (d.due ≡ []) × ((gone : Gone) × (taken (depth_of d) d.pending e ≡ Ok (p, gone)) × (gone.committed ≡ things))
LeavesBy d took p things = ⊥

-- The thing is to be walked next: the oldest that is due; or, where none is, an element is taken, and it is the oldest that this
-- commits.
pub record Leaves (d d' : Decoding) (thing : Option Thing) : Type 0 where
  pub took : List Elem
  pub todo : d.todo ≡ took ++ d'.todo
  pub commits : LeavesBy d took d'.pending (option_to_list thing ++ d'.due)
  pub counts : counted d' ≡ tally (depth_of d) d.pending (counted d) took
  pub rest : d' ≡ record d { pending = d'.pending; due = d'.due; todo = d'.todo; counts = d'.counts }

-- The elements begin with atoms that were walked one after the other, each committed at once, before the first of which this address
-- was given, where one was, and nothing before the others: these are their stretches, and the walk goes on from a state.
abbrev pub WalksNext : Image → State → Option ℕ → List Elem → List Stretch → State → Type 0
WalksNext image s addr elements [] s' = s' ≡ s
WalksNext image s addr elements (stretch ∷ run) s' =
    (taken : Bool) × (others : List Elem) × (next : State) × (elements ≡ elem.P0 (Atom taken) ∷ others)
    × Shows image s (atom_at addr taken) (walked_in s.ctx stretch) next × IsState next × WalksNext image next None others run s'

-- The oldest of some things are atoms before which nothing but an address was given, and they were walked one after the other: these are
-- their stretches, and the walk goes on from a state.
abbrev pub WalksOldest : Image → State → List Thing → List Stretch → State → Type 0
WalksOldest image s things [] s' = s' ≡ s
WalksOldest image s things (stretch ∷ run) s' =
    (addr : Option ℕ) × (taken : Bool) × (others : List Thing) × (next : State) × (things ≡ Seen (atom_at addr taken) ∷ others)
    × Shows image s (atom_at addr taken) (walked_in s.ctx stretch) next × IsState next × WalksOldest image next others run s'

-- so many of the oldest were, of so many that could be, and their stretches were taken
pub record WalksSome {V : Type 0} (Takes : V → List Stretch → V → Type 0) (image : Image) (s : State) (things : List Thing) (most : ℕ) (old : V) (n : ℕ)
    (s' : State) (new : V) : Type 0 where
  pub added : List Stretch
  pub takes : Takes old added new
  pub count : length added ≡ n
  pub walks : WalksOldest image s things added s'
  pub within : n ≤ most
  pub few : n ≤ most_atoms
  pub context : s'.ctx ≡ s.ctx

-- the next element has a fault
pub record Refuses (d : Decoding) (f : QueueFault) : Type 0 where
  pub element : Elem
  pub others : List Elem
  pub due : d.due ≡ []
  pub todo : d.todo ≡ element ∷ others
  pub fault : taken (depth_of d) d.pending element ≡ Err f

-- how much is left to do: an element commits no more than the depth
abbrev pub left : Decoding → ℕ
left d = length d.todo * (depth_of d + 1) + length d.due

-- ---- all that is left to do

-- From what is pending and the state of the walk: what is due is walked, and then the elements of the packet at an offset run. So
-- these items are shown, the outcome is this, and these elements are taken.
abbrev pub YieldsFrom : Image → ℕ → ℕ → Pending → State → List Thing → List Elem → List Item → Outcome → List (ℕ × Elem) → Type 0
YieldsFrom image depth at p w due todo items outcome took =
    ((first : List Item) × (rest : List Item) × (next : State) × Walks image w due first (Ok next)
    × Runs image depth p next (with_offset at todo) rest outcome took × (items ≡ first ++ rest))
    ⊎ ((f : WalkFault) × Walks image w due items (Err f) × (outcome ≡ Err (at, fault.Walk f)) × (took ≡ []))

abbrev pub Yields : Image → Decoding → List Item → Outcome → List (ℕ × Elem) → Type 0
Yields image d items outcome took = YieldsFrom image (depth_of d) d.at d.pending d.walk d.due d.todo items outcome took

-- these elements are taken, one after the other, without a fault
abbrev pub TakesAll : ℕ → Pending → Counts → List Elem → Pending → Counts → Type 0
TakesAll depth p c [] p' c' = (p' ≡ p) × (c' ≡ c)
TakesAll depth p c (e ∷ es) p' c' =
    (next : Pending) × (gone : Gone) × (taken depth p e ≡ Ok (next, gone)) × TakesAll depth next (counts_after c (made_by e) gone) es p' c'

-- some of it is done, without a fault, and showed these items
pub record Goes (image : Image) (d : Decoding) (items : List Item) (d' : Decoding) : Type 0 where
  pub took : List Elem
  pub todo : d.todo ≡ took ++ d'.todo
  pub takes : TakesAll (depth_of d) d.pending (counted d) took d'.pending (counted d')
  pub leads : (rest : List Item) (outcome : Outcome) (more : List (ℕ × Elem)) → Yields image d' rest outcome more
      → Yields image d (items ++ rest) outcome (with_offset d.at took ++ more)
  pub rest : d' ≡ record d { pending = d'.pending; due = d'.due; walk = d'.walk; todo = d'.todo; counts = d'.counts }

-- Some of it is done, without a fault, and the stretches that it showed were taken: none where nothing was done, or nothing was left to do.
-- The context is the same for all of them.
pub record WalksOn {V : Type 0} (Takes : V → List Stretch → V → Type 0) (image : Image) (d : Decoding) (old : V) (d' : Decoding) (new : V) : Type 0 where
  pub added : List Stretch
  pub takes : Takes old added new
  pub goes : Goes image d (items_in (d.walk).ctx added) d'
  pub none : added ≡ [] → d' ≡ d
  pub stopped : AtRest d → added ≡ []
  pub context : (d'.walk).ctx ≡ (d.walk).ctx
  pub at_most : left d' ≤ left d

abbrev pub is_walk_fault : Option (ℕ × Fault) → Bool
is_walk_fault (Some (at, fault.Walk f)) = true
is_walk_fault stop = false

-- The next thing or element has a fault; these items are shown before it, and with it these elements are taken.
pub record Stops (image : Image) (d : Decoding) (f : Fault) (d' : Decoding) : Type 0 where
  pub took : List Elem
  pub leads : Yields image d [] (Err (d.at, f)) (with_offset d.at took)
  pub made : (d'.counts).made ≡ (tally (depth_of d) d.pending (counted d) took).made
  pub counts : is_walk_fault (Some (d.at, f)) ≡ false → d'.counts ≡ tally (depth_of d) d.pending (counted d) took
  pub rest : d' ≡ record d { pending = d'.pending; due = d'.due; walk = d'.walk; todo = d'.todo; counts = d'.counts }

-- where a decoding stands: at its fault, if it met one
abbrev pub outcome_at : Option (ℕ × Fault) → Pending → State → Outcome
outcome_at None p w = Ok (p, w)
outcome_at (Some stop) p w = Err stop

-- all of it is done, up to the first fault, and showed these items
pub record Ends (image : Image) (d : Decoding) (items : List Item) (d' : Decoding) : Type 0 where
  pub took : List (ℕ × Elem)
  pub leads : Yields image d items (outcome_at d'.fault d'.pending d'.walk) took
  pub done : AtRest d'
  pub made : (d'.counts).made ≡ (tally (depth_of d) d.pending (counted d) (unplaced took)).made
  pub counts : is_walk_fault d'.fault ≡ false → d'.counts ≡ tally (depth_of d) d.pending (counted d) (unplaced took)
  pub rest : d' ≡ record d { pending = d'.pending; due = []; walk = d'.walk; todo = []; fault = d'.fault; counts = d'.counts }

-- ---- what the first of some bytes begins

-- It is taken, and the others stand behind it. What it begins is left to do.
pub record BegunFront (d d' : Decoding) (bytes behind : List ℕ) : Type 0 where
  pub byte : ℕ
  pub parts : bytes ≡ byte ∷ behind
  pub begins : BegunByte d byte d'
  pub settings : (d'.reader).settings ≡ (d.reader).settings
  pub offset : (d'.reader).offset ≡ (d.reader).offset + 1
