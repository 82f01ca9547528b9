-- What holds at any time stays.
use Rattle.std.proofs.Common.{◌≡◌, ◌⊎◌, ℕ, ◌≤◌, Bool, false, List, [], ◌∷◌, ◌++◌, length, Option, Some, None, refl, sym, ap, subst, ◌∙◌, inl, inr}
use Rattle.std.specs.Prelude.{if◌then◌else◌}
use Rattle.std.specs.Option.{unwrap_or}
use Rattle.etm_types.specs.declared.element.Elem.{Elem}
use Rattle.etm_types.specs.declared.element.Elem.TheVariants as elem
use Rattle.packet_grammar.specs.declared.packet.Packet.{Packet}
use Rattle.packet_grammar.specs.declared.packet.Packet.TheVariants as packet
use Rattle.packet_grammar.specs.declared.stream_fault.Fault.{Fault}
use Rattle.packet_reader.specs.Stands.{PacketReading}
use Rattle.path_elements.specs.Elements.{Told, elements_in, elements_of, tells, told_after, told_by}
use Rattle.path_elements.specs.Held.{AreElems}
use Rattle.path_walker.specs.State.{State}
use Rattle.stream_decoder.specs.Decoding.{AtRest, BeginsWithInfo, Decoding, IsDecoding, IsReading, decoding_of}
use Rattle.stream_decoder.specs.Left.{Left}
use Rattle.stream_decoder.specs.Waiting.{Waiting}

-- ---- the first element is a trace info

-- the elements of a packet before the first trace info, and whether one came
abbrev Quiet : List Elem → Bool → Type 0
Quiet es informed = ((spec : ℕ) × (es ≡ elem.Info spec ∷ [])) ⊎ ((es ≡ []) × (informed ≡ false))

unheard : (told : Told) (p : Packet) → tells told p ≡ false → told.informed ≡ false → Quiet (elements_of told p) (told_after told p).informed
unheard told p none e =
    inr (ap (λ (b : Bool). if b then elements_in told p else []) none, ap (λ (b : Bool). (if b then told_by told p else told).informed) none ∙ e)

first_elements : (told : Told) (p : Packet) → told.informed ≡ false → Quiet (elements_of told p) (told_after told p).informed
first_elements told (packet.Info info key spec cyct) e = inl (unwrap_or spec 0, refl)
first_elements told packet.Async e = unheard told packet.Async e e
first_elements told packet.Discard e = unheard told packet.Discard e e
first_elements told packet.Overflow e = unheard told packet.Overflow e e
first_elements told packet.On e = unheard told packet.On e e
first_elements told packet.Ignore e = unheard told packet.Ignore e e
first_elements told (packet.Event n) e = unheard told (packet.Event n) e e
first_elements told (packet.Time bits low) e = unheard told (packet.Time bits low) e e
first_elements told (packet.Exc kind target) e = unheard told (packet.Exc kind target) e e
first_elements told (packet.Commit n) e = unheard told (packet.Commit n) e e
first_elements told (packet.Cancel n flip) e = unheard told (packet.Cancel n flip) e e
first_elements told (packet.Mispredict few) e = unheard told (packet.Mispredict few) e e
first_elements told (packet.Cancel2 few) e = unheard told (packet.Cancel2 few) e e
first_elements told (packet.Cancel3 some n) e = unheard told (packet.Cancel3 some n) e e
first_elements told packet.CtxSame e = unheard told packet.CtxSame e e
first_elements told (packet.CtxInfo bits) e = unheard told (packet.CtxInfo bits) e e
first_elements told (packet.Addr form ctx) e = unheard told (packet.Addr form ctx) e e
first_elements told (packet.Atoms run) e = unheard told (packet.Atoms run) e e

-- before a trace info was taken, and at rest without a fault, none was told
untold_yet : (d : Decoding) → BeginsWithInfo d → d.todo ≡ [] → d.fault ≡ None → (d.told).informed ≡ false
untold_yet d begins none whole =
    elim begins.2 [
      | inl info ↦ absurd (let e : [] ≡ elem.Info info.0 ∷ [] = sym none ∙ info.1 in cc)
      | inr rest ↦ elim rest.1 [ inl quiet ↦ quiet | inr met ↦ absurd (met whole) ]
    ]

-- ---- what a byte begins

module _ (r r' : PacketReading) (t : Told) (l : Left) (w : Waiting) (s : State) (f : Option (ℕ × Fault))
    (is : IsDecoding (decoding_of r t l w s f)) (reads : IsReading r') (sizes : r'.settings ≡ r.settings) where
  abbrev few : length (w.due ++ (w.pending).held) ≤ (r'.settings).depth
  few = subst (λ n. length (w.due ++ (w.pending).held) ≤ n) (ap (λ z. z.depth) (sym sizes)) is.few

  -- a byte is read
  pub holds_read : IsDecoding (decoding_of r' t l w s f)
  holds_read =
      record {
        reads = reads;
        few = few;
        balanced = is.balanced;
        range = is.range;
        things = is.things;
        address = is.address;
        elements = is.elements;
        walk = is.walk;
        begins = is.begins;
        stopped = λ met. let rest = is.stopped met in record { due = rest.due; todo = rest.todo };
      }

  -- a fault is met
  pub holds_faulted : (stop : ℕ × Fault) → AtRest (decoding_of r t l w s f) → IsDecoding (decoding_of r' t l w s (Some stop))
  holds_faulted stop rest =
      record {
        reads = reads;
        few = few;
        balanced = is.balanced;
        range = is.range;
        things = is.things;
        address = is.address;
        elements = is.elements;
        walk = is.walk;
        begins = λ e. let b = is.begins e in (rest.due, b.1, inr (rest.todo, inr (λ none. let e : Some stop ≡ None = none in cc)));
        stopped = λ met. record { due = rest.due; todo = rest.todo };
      }

  -- the elements of a packet are left to do
  pub holds_opened : (at : ℕ) (p : Packet) (es : List Elem) (t' : Told) (l' : Left) → AtRest (decoding_of r t l w s f) → f ≡ None
      → es ≡ elements_of t p → t' ≡ told_after t p → l' ≡ record { at = at; elements = es } → AreElems es → IsDecoding (decoding_of r' t' l' w s f)
  holds_opened at p es t' l' rest whole here told_here left fits =
      rw told_here (rw left (record {
        reads = reads;
        few = few;
        balanced = is.balanced;
        range = is.range;
        things = is.things;
        address = is.address;
        elements = fits.each;
        walk = is.walk;
        begins = λ e. let b = is.begins e in
            let quiet = first_elements t p (untold_yet (decoding_of r t l w s f) b rest.todo whole) in (
              rest.due,
              b.1,
              elim quiet [
                | inl info ↦ inl (info.0, here ∙ info.1)
                | inr none ↦ inr (here ∙ none.0, inl none.1)
              ],
            );
        stopped = λ met. absurd (met whole);
      }))
