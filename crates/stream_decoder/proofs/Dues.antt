-- The oldest that is due is an entry, and is walked.
use Rattle.std.proofs.Common.{◌≡◌, ℕ, ◌<◌, List, [], ◌∷◌, Option, Some, Ok, refl, sym, ap, ◌∙◌, inl, append-nil}
use Rattle.element_queue.specs.Counting.{counts_after}
use Rattle.element_queue.specs.Pending.{committing}
use Rattle.etm_types.specs.Walked.{items_of}
use Rattle.etm_types.specs.declared.element.Entry.{Entry}
use Rattle.etm_types.specs.declared.element.Thing.{Thing}
use Rattle.etm_types.specs.declared.element.Thing.TheVariants.{Seen}
use Rattle.etm_types.specs.declared.walked.Walked.{Walked}
use Rattle.packet_grammar.specs.declared.stream_fault.Fault.{Fault}
use Rattle.packet_reader.specs.Stands.{PacketReading}
use Rattle.path_elements.specs.Elements.{Told}
use Rattle.path_walker.specs.State.{State, IsState}
use Rattle.path_walker.specs.Things.{Walks}
use Rattle.path_walker.specs.Walk.{Shows}
use Rattle.program_image.specs.declared.image.Image.{Image}
use Rattle.stream_decoder.proofs.Taking.{fewer_due, holds_due, leaves_due}
use Rattle.stream_decoder.proofs.Yielding.{goes_by_leaving}
use Rattle.stream_decoder.specs.Decoding.{AtRest, Decoding, IsDecoding, decoding_of}
use Rattle.stream_decoder.specs.Left.{Left}
use Rattle.stream_decoder.specs.Waiting.{IsWaiting, Waiting}
use Rattle.stream_decoder.specs.Yields.{Goes, left}

module _ (r : PacketReading) (t : Told) (l : Left) (w w' : Waiting) (s s' : State) (f : Option (ℕ × Fault)) (entry : Entry) (others : List Thing)
    (first : w.due ≡ Seen entry ∷ others)
    (given : w' ≡ record w { due = others; counts = counts_after w.counts 0 (committing (Seen entry ∷ [])) })
    (is : (w.depth ≡ (r.settings).depth) × IsDecoding (decoding_of r t l w s f)) (waits : IsWaiting w') where
  abbrev thing : Thing
  thing = Seen entry

  abbrev before : Decoding
  before = decoding_of r t l w s f

  abbrev after : Decoding
  after = decoding_of r t l w' s' f

  rest : others ≡ w'.due
  rest = sym (ap (λ (x : Waiting). x.due) given)

  order : w.due ≡ thing ∷ w'.due
  order = first ∙ ap (λ (x : List Thing). thing ∷ x) rest

  drops : w' ≡ record w { due = w'.due; counts = counts_after w.counts 0 (committing (thing ∷ [])) }
  drops = given ∙ ap (λ (x : List Thing). record w { due = x; counts = counts_after w.counts 0 (committing (thing ∷ [])) }) rest

  pub thing_left : AtRest before → ⊥
  thing_left done = let x : [] ≡ thing ∷ others = sym done.due ∙ first in absurd cc

  pub fewer_by_due : left after < left before
  fewer_by_due = fewer_due r t l w w' s f thing order drops

  pub goes_by_due : (image : Image) (walked : Walked) → Shows image s entry walked s' → Goes image before (items_of walked) after
  goes_by_due image walked shows =
      let walks : Walks image s (thing ∷ []) (items_of walked) (Ok s') =
      inl (items_of walked, [], s', (walked, shows, refl), (refl, refl), sym (append-nil (items_of walked))) in
      let leaves = leaves_due r t l w w' s f thing order drops is.1.range in
      goes_by_leaving image before (decoding_of r t l w' s f) after (Some thing) (items_of walked) leaves walks refl

  pub holds_by_due : IsState s' → (w'.depth ≡ (r.settings).depth) × IsDecoding after
  holds_by_due state =
      let held = holds_due r t l w w' s f thing order drops is waits in
      let d = held.1 in (
        held.0,
        record {
          reads = d.reads;
          few = d.few;
          balanced = d.balanced;
          range = d.range;
          things = d.things;
          address = d.address;
          elements = d.elements;
          walk = state;
          begins = d.begins;
          stopped = λ met. absurd (thing_left (is.1.stopped met));
        },
      )
