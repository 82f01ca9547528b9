-- An atom is taken that commits an entry, and that one is walked.
use Rattle.std.proofs.Common.{◌≡◌, ◌≢◌, ℕ, ◌<◌, Bool, List, [], ◌∷◌, Option, Some, None, Ok, refl, sym, ap, subst, ◌∙◌, inl, append-nil}
use Rattle.std.specs.Prelude.{IfSome}
use Rattle.element_queue.specs.Pending.{Taken, committing}
use Rattle.element_queue.specs.Queued.{Queued, Takes}
use Rattle.etm_types.specs.Walked.{items_of}
use Rattle.etm_types.specs.declared.element.Elem.{Elem}
use Rattle.etm_types.specs.declared.element.Elem.TheVariants as elem
use Rattle.etm_types.specs.declared.element.Entry.{Entry}
use Rattle.etm_types.specs.declared.element.P0.{P0}
use Rattle.etm_types.specs.declared.element.P0.TheVariants.{Atom}
use Rattle.etm_types.specs.declared.element.Thing.{Thing}
use Rattle.etm_types.specs.declared.element.Thing.TheVariants.{Seen}
use Rattle.etm_types.specs.declared.walked.Walked.{Walked}
use Rattle.packet_grammar.specs.declared.stream_fault.Fault.{Fault}
use Rattle.packet_reader.specs.Stands.{PacketReading}
use Rattle.path_elements.specs.Elements.{Told}
use Rattle.path_walker.specs.State.{State, IsState}
use Rattle.path_walker.specs.Things.{Walks}
use Rattle.path_walker.specs.Walk.{Shows}
use Rattle.program_image.specs.declared.image.Image.{Image}
use Rattle.stream_decoder.proofs.Taking.{fewer_taken, holds_taken, leaves_taken}
use Rattle.stream_decoder.proofs.Yielding.{goes_by_leaving}
use Rattle.stream_decoder.specs.Decoding.{AtRest, Decoding, IsDecoding, decoding_of}
use Rattle.stream_decoder.specs.Left.{Left}
use Rattle.stream_decoder.specs.Waiting.{Commits, IsWaiting, Waiting, committed_by, waiting_of}
use Rattle.stream_decoder.specs.Yields.{Goes, left}

pub if_some : {X : Type 0} (r : Option X) (P Q : X → Type 0) → ((x : X) → P x → Q x) → IfSome r P → IfSome r Q
if_some None P Q f p = p
if_some (Some x) P Q f p = f x p

abbrev committed_of : Taken → List Thing
committed_of (Ok t) = (t.1).committed
committed_of fault = []

-- what a queue commits by a P0 element is what it says beforehand
pub committed_so : (q q' : Queued) (informed : Bool) (n : ℕ) (w : Waiting) (p0 : P0) (things : List Thing) → waiting_of q informed n ≡ w → n ≡ 0
    → Takes q (elem.P0 p0) (committing things) q' → things ≡ committed_by w p0
committed_so q q' informed n w p0 things is none takes =
    ap committed_of (sym (takes.rule informed))
    ∙ ap (λ (v : Waiting). committed_by v p0) (ap (λ (k : ℕ). waiting_of q informed k) (sym none) ∙ is)

pub whole_by : (f : Option (ℕ × Fault)) → (f ≢ None → ⊥) → f ≡ None
whole_by None still = refl
whole_by (Some stop) still = absurd (still (λ e. cc))

module _ (r : PacketReading) (t : Told) (l l' : Left) (w w' : Waiting) (s s' : State) (f : Option (ℕ × Fault)) (taken : Bool) (entry : Entry) (others : List Elem)
    (first : l.elements ≡ elem.P0 (Atom taken) ∷ others) (left_is : l' ≡ record l { elements = others }) (none : w.due ≡ [])
    (gives : committed_by w (Atom taken) ≡ Seen entry ∷ [])
    (is : (w.depth ≡ (r.settings).depth) × IsDecoding (decoding_of r t l w s f))
    (c : Commits w (elem.P0 (Atom taken)) w' (committed_by w (Atom taken))) (waits : IsWaiting w') where
  abbrev before : Decoding
  before = decoding_of r t l w s f

  abbrev after : Decoding
  after = decoding_of r t l' w' s' f

  pub not_at_rest : AtRest before → ⊥
  not_at_rest done = let e : [] ≡ elem.P0 (Atom taken) ∷ others = sym done.todo ∙ first in absurd cc

  whole : f ≡ None
  whole = whole_by f (λ met. not_at_rest (is.1.stopped met))

  commits : Commits w (elem.P0 (Atom taken)) w' (Seen entry ∷ [])
  commits = subst (λ (things : List Thing). Commits w (elem.P0 (Atom taken)) w' things) gives c

  pub fewer_by_atom : left after < left before
  fewer_by_atom = fewer_taken r t l l' w w' s f (elem.P0 (Atom taken)) others (Some (Seen entry)) first left_is none is whole commits waits

  pub goes_by_atom : (image : Image) (walked : Walked) → Shows image s entry walked s' → Goes image before (items_of walked) after
  goes_by_atom image walked shows =
      let walks : Walks image s (Seen entry ∷ []) (items_of walked) (Ok s') =
      inl (items_of walked, [], s', (walked, shows, refl), (refl, refl), sym (append-nil (items_of walked))) in
      let leaves = leaves_taken r t l l' w w' s f (elem.P0 (Atom taken)) others (Some (Seen entry)) first left_is none is whole commits waits in
      goes_by_leaving image before (decoding_of r t l' w' s f) after (Some (Seen entry)) (items_of walked) leaves walks refl

  pub holds_by_atom : IsState s' → (w'.depth ≡ (r.settings).depth) × IsDecoding after
  holds_by_atom state =
      let held = holds_taken r t l l' w w' s f (elem.P0 (Atom taken)) others (Some (Seen entry)) first left_is none is whole commits waits in
      let d = held.1 in (
        held.0,
        record {
          reads = d.reads;
          few = d.few;
          balanced = d.balanced;
          range = d.range;
          things = d.things;
          address = d.address;
          elements = d.elements;
          walk = state;
          begins = d.begins;
          stopped = λ met. absurd (met whole);
        },
      )
