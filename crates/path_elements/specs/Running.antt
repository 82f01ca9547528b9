-- What elements show, one after the other: another form of the path, which goes on from element to element.
use Rattle.std.specs.Prelude.{◌≡◌, ◌⊎◌, ℕ, List, [], ◌∷◌, ◌++◌, Result, Ok, Err}
use Rattle.element_queue.specs.Pending.{Pending, Taken, taken}
use Rattle.etm_types.specs.declared.element.Elem.{Elem}
use Rattle.etm_types.specs.declared.item.Item.{Item}
use Rattle.etm_types.specs.declared.walk_fault.WalkFault.{WalkFault}
use Rattle.packet_grammar.specs.declared.stream_fault.Fault.{Fault}
use Rattle.packet_grammar.specs.declared.stream_fault.Fault.TheVariants.{Queue, Walk}
use Rattle.path_walker.specs.State.{State}
use Rattle.path_walker.specs.Things.{Walks}
use Rattle.program_image.specs.declared.image.Image.{Image}

-- where elements lead: what is pending and the state of the walk, or the fault that ends it
abbrev pub Step : Type 0
Step = Result (Pending × State) Fault

abbrev pub Outcome : Type 0
Outcome = Result (Pending × State) (ℕ × Fault)

abbrev pub walked : Pending → Result State WalkFault → Step
walked p (Ok w) = Ok (p, w)
walked p (Err f) = Err (Walk f)

abbrev pub TakesSo : Image → Taken → State → List Item → Step → Type 0
TakesSo image (Ok t) w items step = (r : Result State WalkFault) × Walks image w (t.1).committed items r × (step ≡ walked t.0 r)
TakesSo image (Err f) w items step = (items ≡ []) × (step ≡ Err (Queue f))

-- one element is taken, and what it commits is walked
abbrev pub Takes : Image → ℕ → Pending → State → Elem → List Item → Step → Type 0
Takes image depth p w e items step = TakesSo image (taken depth p e) w items step

-- elements, each with the offset of its packet, up to the first that has a fault, and which of them were taken
abbrev pub Runs : Image → ℕ → Pending → State → List (ℕ × Elem) → List Item → Outcome → List (ℕ × Elem) → Type 0
Runs image depth p w [] items outcome took = (items ≡ []) × (outcome ≡ Ok (p, w)) × (took ≡ [])
Runs image depth p w (e ∷ es) items outcome took =
    ((f : Fault) × Takes image depth p w e.1 items (Err f) × (outcome ≡ Err (e.0, f)) × (took ≡ e ∷ []))
    ⊎ ((first : List Item) × (rest : List Item) × (next : Pending × State) × (more : List (ℕ × Elem)) × Takes image depth p w e.1 first (Ok next)
    × Runs image depth next.0 next.1 es rest outcome more × (items ≡ first ++ rest) × (took ≡ e ∷ more))
