-- An element is taken that shows nothing by itself.
use Rattle.std.proofs.Common.{◌≡◌, ℕ, List, [], ◌∷◌, Option, None, refl, sym, ◌∙◌}
use Rattle.etm_types.specs.declared.element.Elem.{Elem}
use Rattle.packet_grammar.specs.declared.stream_fault.Fault.{Fault}
use Rattle.packet_reader.specs.Stands.{PacketReading}
use Rattle.path_elements.specs.Elements.{Told}
use Rattle.path_walker.specs.State.{State}
use Rattle.program_image.specs.declared.image.Image.{Image}
use Rattle.stream_decoder.proofs.Atoms.{whole_by}
use Rattle.stream_decoder.proofs.Taking.{holds_taken, leaves_taken}
use Rattle.stream_decoder.proofs.Yielding.{goes_by_leaving}
use Rattle.stream_decoder.specs.Decoding.{AtRest, Decoding, IsDecoding, decoding_of}
use Rattle.stream_decoder.specs.Left.{Left}
use Rattle.stream_decoder.specs.Waiting.{Commits, IsWaiting, Waiting}
use Rattle.stream_decoder.specs.Yields.{Goes}

module _ (r : PacketReading) (t : Told) (l l' : Left) (w w' : Waiting) (s : State) (f : Option (ℕ × Fault)) (e : Elem) (others : List Elem)
    (first : l.elements ≡ e ∷ others) (left_is : l' ≡ record l { elements = others }) (none : w.due ≡ [])
    (is : (w.depth ≡ (r.settings).depth) × IsDecoding (decoding_of r t l w s f)) (c : Commits w e w' []) (waits : IsWaiting w') where
  abbrev before : Decoding
  before = decoding_of r t l w s f

  abbrev after : Decoding
  after = decoding_of r t l' w' s f

  pub element_left : AtRest before → ⊥
  element_left done = let x : [] ≡ e ∷ others = sym done.todo ∙ first in absurd cc

  whole : f ≡ None
  whole = whole_by f (λ met. element_left (is.1.stopped met))

  pub goes_quiet : (image : Image) → Goes image before [] after
  goes_quiet image =
      let leaves = leaves_taken r t l l' w w' s f e others None first left_is none is whole c waits in
      goes_by_leaving image before after after None [] leaves (refl, refl) refl

  pub holds_quiet : (w'.depth ≡ (r.settings).depth) × IsDecoding after
  holds_quiet = holds_taken r t l l' w w' s f e others None first left_is none is whole c waits
