-- The walk of the things of a trace, from the first on, up to the first entry that has a fault.
use Rattle.std.specs.Prelude.{◌≡◌, ◌⊎◌, List, [], ◌∷◌, ◌++◌, Result, Ok, Err, ⊤}
use Rattle.program_image.specs.declared.image.Image.{Image}
use Rattle.etm_types.specs.Walked.{items_of}
use Rattle.etm_types.specs.declared.element.Thing.{Thing}
use Rattle.etm_types.specs.declared.element.Thing.TheVariants.{Seen, Unseen, Gap, Stop}
use Rattle.etm_types.specs.declared.item.Item.{Item}
use Rattle.etm_types.specs.declared.item.Item.TheVariants as item
use Rattle.etm_types.specs.declared.walked.Walked.{Walked}
use Rattle.etm_types.specs.declared.walk_fault.WalkFault.{WalkFault}
use Rattle.path_walker.specs.State.{State}
use Rattle.path_walker.specs.Walk.{Shows, Stops, HasAlignedAddresses}

-- One thing gives these items, and the walk goes on from another state. A P0 element that was not seen gives nothing.
abbrev pub Gives : Image → State → Thing → List Item → State → Type 0
Gives image s (Seen entry) items after = (walked : Walked) × Shows image s entry walked after × (items ≡ items_of walked)
Gives image s Unseen items after = (items ≡ []) × (after ≡ s)
Gives image s Gap items after = (items ≡ item.Gap ∷ []) × (after ≡ s)
Gives image s Stop items after = (items ≡ item.Stop ∷ []) × (after ≡ s)

abbrev pub StopsAt : Image → State → Thing → WalkFault → Type 0
StopsAt image s (Seen entry) f = Stops image s entry f
StopsAt image s _ f = ⊥

-- the items of the things up to the first that stops, and the state after all of them, or the fault of that one
abbrev pub Walks : Image → State → List Thing → List Item → Result State WalkFault → Type 0
Walks image s [] items outcome = (items ≡ []) × (outcome ≡ Ok s)
Walks image s (thing ∷ things) items outcome =
    ((first : List Item) × (rest : List Item) × (next : State) × Gives image s thing first next × Walks image next things rest outcome
    × (items ≡ first ++ rest))
    ⊎ ((f : WalkFault) × StopsAt image s thing f × (items ≡ []) × (outcome ≡ Err f))

-- the addresses in all entries are those of instructions
abbrev pub IsAlignedThing : Thing → Type 0
IsAlignedThing (Seen entry) = HasAlignedAddresses entry
IsAlignedThing _ = ⊤
