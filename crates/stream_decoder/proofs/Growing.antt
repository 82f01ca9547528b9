-- What bytes more bring: one, or those of a whole packet.
use Rattle.std.proofs.Common.{◌≡◌, ◌≢◌, ℕ, ◌<◌, List, [], ◌∷◌, ◌++◌, Option, Some, None, refl, sym, subst, ◌∙◌, inl, inr, append-nil}
use Rattle.std.specs.Prelude.{All}
use Rattle.std.proofs.lemmas.List.Elements.{All-append, All-cons, All-nil}
use Rattle.etm_types.specs.Settings.{AreSettings, Sizes}
use Rattle.etm_types.specs.declared.context.Ctx.{Ctx}
use Rattle.etm_types.specs.declared.element.Elem.{Elem}
use Rattle.etm_types.specs.declared.item.Item.{Item}
use Rattle.packet_grammar.specs.Parsed.{IsStream, clean}
use Rattle.packet_grammar.specs.declared.end.End.{End}
use Rattle.packet_grammar.specs.declared.packet.Packet.{Packet}
use Rattle.packet_grammar.specs.declared.stream_fault.Fault.{Fault}
use Rattle.packet_grammar.proofs.Streams.{one_stream}
use Rattle.packet_reader.proofs.Adds.{gains_more}
use Rattle.packet_reader.specs.Stands.{Gains, GainsPacket, StandsAt}
use Rattle.packet_reader.specs.declared.step.Step.{Step}
use Rattle.packet_reader.specs.declared.step.Step.TheVariants.{Whole}
use Rattle.path_elements.specs.Path.{IsPath, IsPathTaking}
use Rattle.path_elements.specs.Running.{Outcome}
use Rattle.path_text.specs.PathLines.{shown_after_all}
use Rattle.program_image.specs.declared.image.Image.{Image}
use Rattle.stream_decoder.proofs.Coming.{Adds, came_by, came_stopped, path_by, path_of}
use Rattle.stream_decoder.specs.Decoding.{Decoding}
use Rattle.stream_decoder.specs.Stands.{Came, Grows}
use Rattle.stream_decoder.specs.Yields.{BegunByte, BegunBy, Ends, OpensBehind, OpensPacket, Yields}

-- by whether a fault was met
pub by_fault : {A : Type 0} (f : Option (ℕ × Fault)) → (f ≡ None → A) → ((stop : ℕ × Fault) → f ≡ Some stop → A) → A
by_fault None none some = none refl
by_fault (Some stop) none some = some stop refl

pub not_none : (f : Option (ℕ × Fault)) (stop : ℕ × Fault) → f ≡ Some stop → f ≢ None
not_none f stop some none = let e : Some stop ≡ None = sym some ∙ none in cc

abbrev pub Small : List ℕ → Type 0
Small bytes = All (λ (b : ℕ). b < 256) bytes

pub one_small : (byte : ℕ) → byte < 256 → Small (byte ∷ [])
one_small byte fits = All-cons (λ (b : ℕ). b < 256) byte [] fits (All-nil (λ (b : ℕ). b < 256))

module _ (s : Sizes) (are : AreSettings s) (bytes : List ℕ) where
  adds_byte : (byte : ℕ) (step : Step) → Gains s bytes byte step → Adds s bytes (byte ∷ []) step
  adds_byte byte step gain packets told = gains_more s are bytes byte packets None step told gain

  -- a packet does not come behind a fault
  adds_packet : (text : List ℕ) (at : ℕ) (packet : Packet) → GainsPacket s bytes text at packet → Adds s bytes text (Whole at packet)
  adds_packet text at packet (others, ending, was, now) packets told =
      let same = one_stream s are bytes packets others told.ending ending told.stream was in
      record {
        ending = clean;
        stream = subst (λ (p : List (ℕ × Packet)). IsStream s (bytes ++ text) (p ++ (at, packet) ∷ []) clean) (sym same.0) now;
        fault = refl;
      }

-- bytes were taken, and this is the reader's answer to them
record Led (d m : Decoding) (text : List ℕ) : Type 0 where
  step : Step
  stands : (bytes : List ℕ) → StandsAt d.reader bytes → StandsAt m.reader (bytes ++ text)
  adds : (bytes : List ℕ) → StandsAt d.reader bytes → Adds ((d.reader).settings) bytes text step
  opens : OpensBehind d.fault d step m

opens_whole : (f : Option (ℕ × Fault)) (d m : Decoding) (at : ℕ) (packet : Packet) → f ≡ None → OpensPacket d at packet m
    → OpensBehind f d (Whole at packet) m
opens_whole None d m at packet none opens = opens
opens_whole (Some stop) d m at packet none opens = absurd cc

led : (d m : Decoding) (text : List ℕ) → AreSettings ((d.reader).settings) → BegunBy d text m → Led d m text
led d m text are (inl (byte, is, begun)) =
    subst (Led d m) (sym is) (record {
      step = begun.0;
      stands = λ bytes at. (begun.1 bytes at).0;
      adds = λ bytes at. adds_byte ((d.reader).settings) are bytes byte begun.0 (begun.1 bytes at).1;
      opens = begun.2;
    })
led d m text are (inr (none, (at, packet, takes, opens))) =
    record {
      step = Whole at packet;
      stands = takes.stands;
      adds = λ bytes stands. adds_packet ((d.reader).settings) are bytes text at packet (takes.gains bytes stands);
      opens = opens_whole d.fault d m at packet none opens;
    }

module _ (image : Image) (bytes text : List ℕ) (fits : Small text) (items : List Item) (d m : Decoding) (are : AreSettings ((d.reader).settings))
    (settings : (m.reader).settings ≡ (d.reader).settings) (begun : BegunBy d text m) (came : Came image d bytes items) where
  abbrev all : List ℕ
  all = bytes ++ text

  l : Led d m text
  l = led d m text are begun

  small : All (λ b. b < 256) all
  small = All-append (λ (b : ℕ). b < 256) bytes text came.small fits

  reads : StandsAt m.reader all
  reads = l.stands bytes came.reads

  gain : Adds ((d.reader).settings) bytes text l.step
  gain = l.adds bytes came.reads

  pub stands_stopped : (stop : ℕ × Fault) → m.fault ≡ Some stop → Came image m all items
  stands_stopped stop met = came_stopped image bytes text items d m are settings came small reads l.step stop gain l.opens met

  pub stands_on : m.fault ≡ None → (others : List Item) (d' : Decoding) → Ends image m others d' → Came image d' all (items ++ others)
  stands_on none others d' ends = came_by image bytes text items d m are settings came small reads l.step gain l.opens none others d' ends

  -- the path of the bytes, and of those with the others, up to the first fault
  pub path_before : (last : End) × IsPath image ((d.reader).settings) bytes items last
  path_before = let before = path_of image bytes text items d m are settings came in (before.0, (came.took, before.1))

  pub path_on : m.fault ≡ None → (others : List Item) (outcome : Outcome) (took : List (ℕ × Elem)) → Yields image m others outcome took
      → (next : End) × IsPath image ((d.reader).settings) all (items ++ others) next
  path_on none others outcome took yields =
      let after = path_by image bytes text items d m are settings came small reads l.step gain l.opens none others outcome took yields in
      (after.0, (came.took ++ took, after.1))

  pub path_stopped : (stop : ℕ × Fault) → m.fault ≡ Some stop → (next : End) × IsPath image ((d.reader).settings) all items next
  path_stopped stop met =
      let now = stands_stopped stop met in
      let same = subst AreSettings (sym settings) are in
      let after = path_of image all [] items m m same refl now in
      (after.0, (now.took, subst (λ (s : Sizes). IsPathTaking image s all items after.0 now.took) settings after.1))

module _ (image : Image) (bytes : List ℕ) (byte : ℕ) (fits : byte < 256) (items : List Item) (d m : Decoding) (are : AreSettings ((d.reader).settings))
    (settings : (m.reader).settings ≡ (d.reader).settings) (begun : BegunByte d byte m) (came : Came image d bytes items) where
  abbrev here : BegunBy d (byte ∷ []) m
  here = inl (byte, refl, begun)

  pub byte_stopped : (stop : ℕ × Fault) → m.fault ≡ Some stop → Came image m (bytes ++ byte ∷ []) items
  byte_stopped = stands_stopped image bytes (byte ∷ []) (one_small byte fits) items d m are settings here came

  pub byte_on : m.fault ≡ None → (others : List Item) (d' : Decoding) → Ends image m others d' → Came image d' (bytes ++ byte ∷ []) (items ++ others)
  byte_on = stands_on image bytes (byte ∷ []) (one_small byte fits) items d m are settings here came

  module _ (shown : Option Ctx) (context : shown ≡ shown_after_all None items) where
    pub grows_on : m.fault ≡ None → (others : List Item) (outcome : Outcome) (took : List (ℕ × Elem)) → Yields image m others outcome took
        → Grows image ((d.reader).settings) bytes byte shown others
    grows_on none others outcome took yields =
        let before = path_before image bytes (byte ∷ []) (one_small byte fits) items d m are settings here came in
        let after = path_on image bytes (byte ∷ []) (one_small byte fits) items d m are settings here came none others outcome took yields in
        record { items = items; last = before.0; next = after.0; was = before.1; is = after.1; context = context }

    pub grows_stopped : (stop : ℕ × Fault) → m.fault ≡ Some stop → Grows image ((d.reader).settings) bytes byte shown []
    grows_stopped stop met =
        let before = path_before image bytes (byte ∷ []) (one_small byte fits) items d m are settings here came in
        let after = path_stopped image bytes (byte ∷ []) (one_small byte fits) items d m are settings here came stop met in
        record {
          items = items;
          last = before.0;
          next = after.0;
          was = before.1;
          is = subst (λ (l : List Item). IsPath image ((d.reader).settings) (bytes ++ byte ∷ []) l after.0) (sym (append-nil items)) after.1;
          context = context;
        }
