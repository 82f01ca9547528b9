-- The path of a stream: the items that its committed P0 elements lead through over an image, and how it ends (Arm IHI 0064,
-- "Speculation", "P0 elements", "Descriptions of Trace Elements"). Which faults there are, and that the first of them ends the path, is
-- this project's own choice.
use Rattle.std.specs.Prelude.{◌≡◌, ◌⊎◌, ℕ, ◌+◌, List, map, take, Option, Some, None, Ok, Err, slice_get}
use Rattle.element_queue.specs.Resolved.{Resolved, unresolved, resolve_all}
use Rattle.etm_types.specs.Settings.{Sizes}
use Rattle.etm_types.specs.declared.element.Elem.{Elem}
use Rattle.etm_types.specs.declared.item.Item.{Item}
use Rattle.packet_grammar.specs.Ends.{end_of}
use Rattle.packet_grammar.specs.Parsed.{Ending, IsStream}
use Rattle.packet_grammar.specs.declared.end.End.{End}
use Rattle.packet_grammar.specs.declared.end.End.TheVariants as end
use Rattle.packet_grammar.specs.declared.packet.Packet.{Packet}
use Rattle.packet_grammar.specs.declared.stream_fault.Fault.{Fault}
use Rattle.packet_grammar.specs.declared.stream_fault.Fault.TheVariants.{AddressAwaited, Queue, Walk}
use Rattle.path_elements.specs.Elements.{all_elements, untold}
use Rattle.path_walker.specs.State.{State, first_state}
use Rattle.path_walker.specs.Things.{Walks}
use Rattle.program_image.specs.declared.image.Image.{Image}

-- the elements without the offsets of their packets
abbrev pub unplaced : List (ℕ × Elem) → List Elem
unplaced elements = map (λ (e : ℕ × Elem). e.1) elements

-- The elements have no fault ("Speculation"), nor has the walk of what they committed, which shows these items ("P0 elements",
-- "Descriptions of Trace Elements").
pub record WalksAll (image : Image) (depth : ℕ) (elements : List (ℕ × Elem)) (items : List Item) : Type 0 where
  pub resolved : Resolved
  pub after : State
  pub commits : resolve_all depth unresolved (unplaced elements) ≡ Ok resolved
  pub walks : Walks image first_state resolved.done items (Ok after)

-- the elements have a fault, or the walk of what they committed has one; these items are shown before it, where the elements
-- before the last one showed those
abbrev pub StopsBehind : Image → ℕ → List (ℕ × Elem) → List Item → List Item → Fault → Type 0
StopsBehind image depth elements before items (Queue fault) = (resolve_all depth unresolved (unplaced elements) ≡ Err fault) × (items ≡ before)
StopsBehind image depth elements before items (Walk fault) =
    (resolved : Resolved) × (resolve_all depth unresolved (unplaced elements) ≡ Ok resolved) × Walks image first_state resolved.done items (Err fault)
StopsBehind image depth elements before items fault = ⊥

-- Where some elements from the first on have a fault, it is that of the fewest such elements, and the path ends with it, at the
-- packet of the last of them.
pub record Faults (image : Image) (depth : ℕ) (elements : List (ℕ × Elem)) (items : List Item) (last : End) (took : List (ℕ × Elem)) : Type 0 where
  pub count : ℕ
  pub at : ℕ
  pub element : Elem
  pub fault : Fault
  pub before : List Item
  pub there : slice_get elements count ≡ Some (at, element)
  pub none_before : WalksAll image depth (take count elements) before
  pub takes : took ≡ take (count + 1) elements
  pub stops : StopsBehind image depth took before items fault
  pub ends : last ≡ end.Fault at fault

-- the path of elements that end so, and which of them it took: all, or those up to a fault
abbrev pub IsPathOfElements : Image → ℕ → List (ℕ × Elem) → End → List Item → End → List (ℕ × Elem) → Type 0
IsPathOfElements image depth elements ending items last took =
    (WalksAll image depth elements items × (last ≡ ending) × (took ≡ elements)) ⊎ Faults image depth elements items last took

-- how the elements of a stream end: at a packet that may not come where it does, or as the stream does
abbrev pub end_behind : Option ℕ → Ending → End
end_behind None ending = end_of ending
end_behind (Some at) ending = end.Fault at AddressAwaited

-- the path of packets that end so ("Descriptions of Trace Elements": which elements a packet has)
abbrev pub IsPathOfPackets : Image → ℕ → List (ℕ × Packet) → Ending → List Item → End → List (ℕ × Elem) → Type 0
IsPathOfPackets image depth packets ending items last took =
    IsPathOfElements image depth ((all_elements untold packets).elements) (end_behind ((all_elements untold packets).awaited) ending) items last took

-- the path of a stream's bytes, and the elements that it took ("Alignment Synchronization packet", "Descriptions of Trace Packets":
-- which packets the bytes are)
abbrev pub IsPathTaking : Image → Sizes → List ℕ → List Item → End → List (ℕ × Elem) → Type 0
IsPathTaking image s bytes items last took =
    (packets : List (ℕ × Packet)) × (ending : Ending) × IsStream s bytes packets ending × IsPathOfPackets image s.depth packets ending items last took

-- the path of a stream's bytes
abbrev pub IsPath : Image → Sizes → List ℕ → List Item → End → Type 0
IsPath image s bytes items last = (took : List (ℕ × Elem)) × IsPathTaking image s bytes items last took
