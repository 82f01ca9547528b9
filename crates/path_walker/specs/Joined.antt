-- Walks of joined lists of things.
use Rattle.std.specs.Prelude.{◌≡◌, ◌⊎◌, List, ◌++◌, Result, Ok, Err}
use Rattle.program_image.specs.declared.image.Image.{Image}
use Rattle.etm_types.specs.declared.element.Thing.{Thing}
use Rattle.etm_types.specs.declared.item.Item.{Item}
use Rattle.etm_types.specs.declared.walk_fault.WalkFault.{WalkFault}
use Rattle.path_walker.specs.State.{State}
use Rattle.path_walker.specs.Things.{Walks}

-- where the first list is walked to its end, the second one is walked from the state after it
abbrev pub PartsJoin : Type 0
PartsJoin =
    (image : Image) (s next : State) (things more : List Thing) (items others : List Item) (end : Result State WalkFault)
    → Walks image s things items (Ok next) → Walks image next more others end → Walks image s (things ++ more) (items ++ others) end

-- where the first list stops with a fault, both do
abbrev pub FaultStays : Type 0
FaultStays =
    (image : Image) (s : State) (things more : List Thing) (items : List Item) (fault : WalkFault)
    → Walks image s things items (Err fault) → Walks image s (things ++ more) items (Err fault)

-- the walk of the first list to its end and that of the second one from there, or the first one stops
abbrev pub HasParts : Image → State → List Thing → List Thing → List Item → Result State WalkFault → Type 0
HasParts image s things more items end =
    ((first : List Item) × (others : List Item) × (next : State) × Walks image s things first (Ok next) × Walks image next more others end
    × (items ≡ first ++ others))
    ⊎ ((fault : WalkFault) × Walks image s things items (Err fault) × (end ≡ Err fault))

-- every walk of joined lists is of these parts
abbrev pub EachHasParts : Type 0
EachHasParts =
    (image : Image) (s : State) (things more : List Thing) (items : List Item) (end : Result State WalkFault)
    → Walks image s (things ++ more) items end → HasParts image s things more items end

-- after things that were walked to their end, the walk goes on from the state after them
abbrev pub RestGoesOn : Type 0
RestGoesOn =
    (image : Image) (s next : State) (things more : List Thing) (first items : List Item) (end : Result State WalkFault)
    → Walks image s things first (Ok next) → Walks image s (things ++ more) items end
    → (others : List Item) × Walks image next more others end × (items ≡ first ++ others)
