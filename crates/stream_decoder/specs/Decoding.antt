-- What contracts see of the decoding of one stream.
use Rattle.std.specs.Prelude.{◌≡◌, ◌≢◌, ◌⊎◌, ℕ, ◌<◌, ◌≤◌, Bool, false, All, List, [], ◌∷◌, ◌++◌, length}
use Rattle.std.specs.Prelude.{Option, None}
use Rattle.element_queue.specs.Counting.{AreCounts, Balances, entries, no_counts}
use Rattle.element_queue.specs.Pending.{Pending}
use Rattle.element_queue.specs.Resolved.{at_first}
use Rattle.element_queue.specs.declared.ledger.Counts.{Counts}
use Rattle.etm_types.specs.Settings.{AreSettings, Sizes}
use Rattle.etm_types.specs.declared.context.Ctx.{Ctx}
use Rattle.etm_types.specs.declared.element.Elem.{Elem}
use Rattle.etm_types.specs.declared.element.Elem.TheVariants as elem
use Rattle.etm_types.specs.declared.element.Thing.{Thing}
use Rattle.packet_grammar.specs.declared.stream_fault.Fault.{Fault}
use Rattle.packet_reader.specs.Stands.{PacketReading}
use Rattle.packet_reader.specs.Stands as reader
use Rattle.path_elements.specs.Elements.{Told, untold}
use Rattle.path_elements.specs.Held.{IsElem}
use Rattle.path_walker.specs.State.{State, IsState, first_state}
use Rattle.path_walker.specs.Things.{IsAlignedThing}
use Rattle.path_walker.specs.Walk.{ToldIsAligned}
use Rattle.stream_decoder.specs.Left.{Left}
use Rattle.stream_decoder.specs.Waiting.{Waiting, counted_with}

-- what is kept of a stream
pub record Decoding : Type 0 where
  -- the reader of its packets, which has the settings
  pub reader : PacketReading
  -- what its packets so far gave
  pub told : Told
  -- what its elements so far leave pending
  pub pending : Pending
  -- what they committed and what is not walked yet, oldest first
  pub due : List Thing
  -- the walk of what they committed
  pub walk : State
  -- the offset of the last packet, and those of its elements that are still to be taken
  pub at : ℕ
  pub todo : List Elem
  -- the first fault, with the offset of its packet
  pub fault : Option (ℕ × Fault)
  -- what became of its P0 elements; what is due is not committed yet
  pub counts : Counts

abbrev pub depth_of : Decoding → ℕ
depth_of d = ((d.reader).settings).depth

abbrev pub decoding_of : PacketReading → Told → Left → Waiting → State → Option (ℕ × Fault) → Decoding
decoding_of reads told left waiting walk fault =
    record {
      reader = reads;
      told = told;
      pending = waiting.pending;
      due = waiting.due;
      walk = walk;
      at = left.at;
      todo = left.elements;
      fault = fault;
      counts = waiting.counts;
    }

-- between two bytes nothing is left to do
pub record AtRest (d : Decoding) : Type 0 where
  pub due : d.due ≡ []
  pub todo : d.todo ≡ []

-- what became of the P0 elements, once what is due is committed
abbrev pub counted : Decoding → Counts
counted d = counted_with d.counts d.due

-- a trace info
abbrev pub IsInfo : Elem → Type 0
IsInfo e = (spec : ℕ) × (e ≡ elem.Info spec)

-- The first element of a trace is a trace info: until it is taken nothing is held, and no other element is there.
abbrev pub BeginsWithInfo : Decoding → Type 0
BeginsWithInfo d =
    (d.due ≡ []) × ((d.pending).held ≡ [])
    × (((spec : ℕ) × (d.todo ≡ elem.Info spec ∷ [])) ⊎ ((d.todo ≡ []) × (((d.told).informed ≡ false) ⊎ (d.fault ≢ None))))

-- a reader stands at some bytes, under settings
pub record IsReading (r : PacketReading) : Type 0 where
  pub bytes : List ℕ
  pub small : All (λ b. b < 256) bytes
  pub stands : reader.StandsAt r bytes
  pub settings : AreSettings r.settings

-- what holds at any time
pub record IsDecoding (d : Decoding) : Type 0 where
  pub reads : IsReading d.reader
  pub few : length (d.due ++ (d.pending).held) ≤ depth_of d
  pub balanced : Balances d.counts (entries (d.due ++ (d.pending).held))
  pub range : AreCounts d.counts
  pub things : All IsAlignedThing (d.due ++ (d.pending).held)
  pub address : ToldIsAligned (((d.pending).pre).addr)
  pub elements : All IsElem d.todo
  pub walk : IsState d.walk
  pub begins : (d.pending).informed ≡ false → BeginsWithInfo d
  pub stopped : d.fault ≢ None → AtRest d

-- before the first byte
pub record Begins (s : Sizes) (d : Decoding) : Type 0 where
  pub reads : reader.StandsAt d.reader []
  pub settings : (d.reader).settings ≡ s
  pub fresh : d ≡ record {
    reader = d.reader;
    told = untold;
    pending = at_first;
    due = [];
    walk = first_state;
    at = 0;
    todo = [];
    fault = None;
    counts = no_counts;
  }

-- one stream between its bytes and the lines of its path: the context that was printed last, and whether a write failed
pub record Decoder : Type 0 where
  pub decoding : Decoding
  pub shown : Option Ctx
  pub broken : Bool
