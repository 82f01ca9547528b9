-- An address and the packets of atoms behind it, where each atom is committed as it is made.
use Rattle.std.proofs.Common.{◌≡◌, ℕ, ◌+◌, ◌-◌, ◌%◌, ◌^◌, ◌<◌, Bool, false, List, [], ◌∷◌, ◌++◌, length, length-append, Option, Some, None, Ok, refl, sym, ap, subst, ◌∙◌, arith, inr, append-nil}
use Rattle.std.proofs.Math.Nat.{mod-lt}
use Rattle.std.proofs.lemmas.List.Elements.{All-cons, All-nil}
use Rattle.std.specs.Prelude.{if◌then◌else◌}
use Rattle.address_history.specs.Forms.{HasEntry, address_told}
use Rattle.element_queue.specs.Counting.{AreCounts, add, counts_after}
use Rattle.element_queue.specs.Pending.{nothing_gone}
use Rattle.element_queue.specs.declared.ledger.Counts.{Counts}
use Rattle.etm_types.specs.Pre.{nothing_told}
use Rattle.etm_types.specs.Settings.{Sizes}
use Rattle.etm_types.specs.declared.address.AddrForm.{AddrForm}
use Rattle.etm_types.specs.declared.element.Elem.{Elem}
use Rattle.etm_types.specs.declared.element.Elem.TheVariants as elem
use Rattle.etm_types.specs.declared.element.Pre.{Pre}
use Rattle.packet_grammar.proofs.AllLaws.{some_byte}
use Rattle.packet_grammar.proofs.Fitting.{small_back, small_front}
use Rattle.packet_grammar.proofs.InRange.{values_fit}
use Rattle.packet_grammar.specs.Parsed.{Spells}
use Rattle.packet_grammar.specs.declared.packet.Packet.{Packet}
use Rattle.packet_grammar.specs.declared.packet.Packet.TheVariants.{Addr}
use Rattle.packet_grammar.specs.declared.stream_fault.Fault.{Fault}
use Rattle.packet_reader.specs.Fronts.{IsFront}
use Rattle.packet_reader.specs.Packets.{ArePackets, length_of}
use Rattle.packet_reader.specs.Stands.{PacketReading, TakesPacket}
use Rattle.packet_reader.specs.declared.phase.Phase.TheVariants.{Between}
use Rattle.path_elements.proofs.Taken.{in_range}
use Rattle.path_elements.specs.Elements.{Told, after_address, atoms, elements_of, is_misplaced, told_after, with_address}
use Rattle.path_elements.specs.Held.{AreElems, IsElem}
use Rattle.path_walker.specs.State.{State}
use Rattle.path_walker.specs.Walk.{WalksRun}
use Rattle.path_walker.specs.declared.stretch.Stretch.{Stretch}
use Rattle.program_image.specs.declared.image.Image.{Image}
use Rattle.stream_decoder.proofs.AtomSteps.{takes_passed}
use Rattle.stream_decoder.proofs.Fronts.{packet_holds}
use Rattle.stream_decoder.proofs.Growing.{Small}
use Rattle.stream_decoder.proofs.Holds.{holds_opened}
use Rattle.stream_decoder.proofs.LettingGo.{waits_in}
use Rattle.stream_decoder.proofs.PacketRuns.{AtomsCount, front_runs, runs_behind}
use Rattle.stream_decoder.proofs.Quiet.{goes_quiet, holds_quiet}
use Rattle.stream_decoder.specs.AtomPackets.{BeginWithAtoms, PassesAtoms, ReachesAtom, RunsFront, RunsPacket}
use Rattle.stream_decoder.specs.Decoding.{AtRest, Decoding, IsDecoding, decoding_of}
use Rattle.stream_decoder.specs.Left.{Left, nothing_left}
use Rattle.stream_decoder.specs.Waiting.{Commits, IsWaiting, Waiting, counted_with, passed}

-- ---- an address packet at the front of some bytes

module _ (s : Sizes) (bytes rest : List ℕ) (form : AddrForm) (small : Small bytes) (front : IsFront (Spells s) bytes (Addr form None) rest) where
  small_text : Small front.text
  small_text = small_front bytes front.text rest front.parts small

  pub has_entry : HasEntry form
  has_entry = (in_range s (Addr form None) (values_fit s (Addr form None) front.text small_text front.spells)).0

  pub long : length front.text ≡ length bytes - length rest
  long = let all = ap length front.parts in let both = length-append front.text rest in omega (arith, all, both)

  pub is_packet : ArePackets s ([] ++ (front.text, Addr form None) ∷ []) × (length_of ([] ++ (front.text, Addr form None) ∷ []) ≡ length bytes - length rest)
  is_packet = (
    (some_byte s (Ok (Addr form None)) front.text front.spells, small_text, front.spells, tt),
    ap length (append-nil front.text) ∙ long,
  )

-- ---- what an address packet tells

module _ (t : Told) (form : AddrForm) (counts : AtomsCount t) where
  abbrev packet : Packet
  packet = Addr form None

  addressed_placed : is_misplaced t packet ≡ false
  addressed_placed = rw counts.informed (rw counts.awaiting refl)

  addressed_elements : elements_of t packet ≡ elem.Addr (address_told t.history form) ∷ []
  addressed_elements =
      ap (λ (b : Bool). if b then with_address t.awaiting (address_told t.history form) else []) counts.informed
      ∙ rw counts.awaiting refl

  addressed_told : told_after t packet ≡ after_address t form
  addressed_told = ap (λ (b : Bool). if b then after_address t form else t) counts.informed

  addressed_counts : AtomsCount (after_address t form)
  addressed_counts = record { informed = counts.informed; awaiting = refl }

-- ---- the address is given before the next P0 element

abbrev given : Waiting → ℕ → Waiting
given w addr = record w { pending = record (w.pending) { pre = record nothing_told { addr = Some addr } } }

none_more : (n : ℕ) → n < 2 ^ 64 → n ≡ add n 0
none_more n small = omega arith

still_counted : (c : Counts) → AreCounts c → c ≡ counts_after c 0 nothing_gone
still_counted c range k =
    record {
      made = none_more c.made range.made k;
      committed = none_more c.committed range.committed k;
      cancelled = none_more c.cancelled range.cancelled k;
      lost = none_more c.lost range.lost k;
    }

gives_address : (w : Waiting) (before : Option ℕ) (addr : ℕ) → w.due ≡ [] → (w.pending).pre ≡ record nothing_told { addr = before } → AreCounts w.counts
    → Commits w (elem.Addr addr) (given w addr) []
gives_address w before addr none pre range =
    record {
      gone = nothing_gone;
      rule = ap (λ (p : Pre). Ok (record (w.pending) { pre = record p { addr = Some addr } }, nothing_gone)) pre;
      commits = sym none;
      counts = still_counted (counted_with w.counts w.due) (record {
        made = range.made;
        committed = mod-lt _ (omega arith);
        cancelled = range.cancelled;
        lost = range.lost;
      });
      depth = refl;
    }

one_address : (addr : ℕ) → addr % 4 ≡ 0 → AreElems (elem.Addr addr ∷ [])
one_address addr aligned = record { most = omega arith; each = All-cons IsElem (elem.Addr addr) [] aligned (All-nil IsElem) }

-- ---- the packets

-- The reader took the packet of an address, and that was taken as its one element.
module _ (r r1 : PacketReading) (t t1 : Told) (l : Left) (w w1 : Waiting) (s : State) (f : Option (ℕ × Fault)) (text : List ℕ) (at : ℕ) (form : AddrForm)
    (addr : ℕ) (is : (w.depth ≡ (r.settings).depth) × IsDecoding (decoding_of r t l w s f)) (done : AtRest (decoding_of r t l w s f)) (whole : f ≡ None)
    (counts : AtomsCount t) (small : Small text) (takes : TakesPacket r r1 text at (Addr form None)) (addr_is : addr ≡ address_told t.history form)
    (aligned : addr % 4 ≡ 0) (told_is : t1 ≡ told_after t (Addr form None)) (commits : Commits w (elem.Addr addr) w1 []) (waits : IsWaiting w1) where
  abbrev here : Decoding
  here = decoding_of r t l w s f

  abbrev to_take : Left
  to_take = record { at = at; elements = elem.Addr addr ∷ [] }

  abbrev noted : Decoding
  noted = decoding_of r1 t1 (nothing_left at) w1 s f

  elements_here : elements_of t (Addr form None) ≡ elem.Addr addr ∷ []
  elements_here = addressed_elements t form counts ∙ ap (λ (a : ℕ). elem.Addr a ∷ []) (sym addr_is)

  opened : (w.depth ≡ (r1.settings).depth) × IsDecoding (decoding_of r1 t1 to_take w s f)
  opened =
      let read = packet_holds r r1 text small at (Addr form None) takes t l w s f is in (
        read.0,
        holds_opened r1 r1 t l w s f read.1 (read.1).reads refl at (Addr form None) (elem.Addr addr ∷ []) t1 to_take
            (record { due = done.due; todo = done.todo }) whole (sym elements_here) told_is refl (one_address addr aligned),
      )

  pub runs_address : (image : Image) → RunsPacket image here text [] noted
  runs_address image =
      let begun = decoding_of r1 t1 to_take w s f in
      let opens : begun ≡ record here { reader = r1; told = told_after t (Addr form None); at = at; todo = elements_of t (Addr form None) } =
      ap (λ (x : Told). record here { reader = r1; told = x; at = at; todo = elem.Addr addr ∷ [] }) told_is
      ∙ ap (λ (x : List Elem). record here { reader = r1; told = told_after t (Addr form None); at = at; todo = x }) (sym elements_here) in
      record {
        begun = begun;
        begins = (at, Addr form None, takes, inr (addressed_placed t form counts, opens));
        whole = whole;
        goes = goes_quiet r1 t1 to_take (nothing_left at) w w1 s f (elem.Addr addr) [] refl refl done.due opened commits waits image;
      }

  pub holds_address : (w1.depth ≡ (r1.settings).depth) × IsDecoding noted
  holds_address = holds_quiet r1 t1 to_take (nothing_left at) w w1 s f (elem.Addr addr) [] refl refl done.due opened commits waits

-- One packet that shows nothing is a run of packets by itself, of which a taker takes nothing.
pub one_shows_nothing : {V : Type 0} (Takes : V → List Stretch → V → Type 0) (image : Image) (d d' : Decoding) (bytes behind text : List ℕ) (old : V)
    → bytes ≡ text ++ behind → 0 < length text → (d'.reader).offset ≡ (d.reader).offset + length text → (d'.reader).settings ≡ (d.reader).settings
    → RunsPacket image d text [] d' → Takes old [] old → RunsFront Takes image d old bytes behind d' old
one_shows_nothing Takes image d d' bytes behind text old parts some taken settings packet none =
    record {
      first = [];
      last = text;
      parts = parts;
      some = some;
      added = [];
      takes = none;
      packets = packet;
      settings = settings;
      offset = omega (arith, taken);
    }

-- The atoms behind an address were walked, the first of them from there, and the reader took the packets in which they stand.
pub addressed_runs : {V : Type 0} (Takes : V → List Stretch → V → Type 0) (image : Image) (r r1 r' : PacketReading) (t t1 : Told) (l l' : Left) (w w' : Waiting)
    (s s' : State) (f : Option (ℕ × Fault)) (bytes rest behind text : List ℕ) (at : ℕ) (form : AddrForm) (addr : ℕ) (before : Option ℕ)
    (told : List Bool) (n : ℕ) (old new : V)
    → (w.depth ≡ (r.settings).depth) × IsDecoding (decoding_of r t l w s f) → AtRest (decoding_of r t l w s f) → f ≡ None → AtomsCount t → Small bytes
    → bytes ≡ text ++ rest → TakesPacket r r1 text at (Addr form None) → addr ≡ address_told t.history form → addr % 4 ≡ 0
    → t1 ≡ told_after t (Addr form None) → w.depth ≡ 0 → (w.pending).pre ≡ record nothing_told { addr = before }
    → WalksRun Takes image s (Some addr) told old n s' new → 0 < n → w' ≡ passed n w → BeginWithAtoms rest told → ReachesAtom r1 rest n l' behind r'
    → RunsFront Takes image (decoding_of r t l w s f) old bytes behind (decoding_of r' t1 l' w' s' f) new
    × ((w'.depth ≡ (r'.settings).depth) × IsDecoding (decoding_of r' t1 l' w' s' f))
addressed_runs Takes image r r1 r' t t1 l l' w w' s s' f bytes rest behind text at form addr before told n old new is done whole counts small parts takes
    addr_is aligned told_is zero pre walks some after begins reached =
    let small_text = small_front bytes text rest parts small in
    let waits = waits_in r t l w s f is.0 is.1 in
    let w1 = given w addr in
    let waits1 : IsWaiting w1 = record { few = waits.few; balanced = waits.balanced; range = waits.range } in
    let commits = gives_address w before addr done.due pre waits.range in
    let l2 = nothing_left at in let mid = decoding_of r1 t1 l2 w1 s f in
    let address = runs_address r r1 t t1 l w w1 s f text at form addr is done whole counts small_text takes addr_is aligned told_is commits waits1 image in
    let holds = holds_address r r1 t t1 l w w1 s f text at form addr is done whole counts small_text takes addr_is aligned told_is commits waits1 in
    let at_rest : AtRest mid = record { due = done.due; todo = refl } in
    let counts1 : AtomsCount t1 = subst AtomsCount (sym (told_is ∙ addressed_told t form counts)) (addressed_counts t form counts) in
    let taken = takes_passed Takes image w1 w' s s' (Some addr) told told [] n old new done.due zero refl waits1 (sym (append-nil (atoms told))) walks some after in
    let (runs, stays) = front_runs Takes image r1 r' t1 l2 l' w1 w' s s' f rest behind told n old new holds at_rest whole counts1
    (small_back bytes text rest parts small) begins taken reached in (
      runs_behind Takes image (decoding_of r t l w s f) mid (decoding_of r' t1 l' w' s' f) text bytes rest behind old new address at_rest holds.1 refl
          takes.settings takes.offset parts runs,
      stays,
    )

-- behind it atoms are still committed as they are made
pub passes_behind : (r r' : PacketReading) (t t1 : Told) (l l' : Left) (w w' : Waiting) (s s' : State) (f : Option (ℕ × Fault)) (form : AddrForm) (n : ℕ)
    → PassesAtoms (decoding_of r t l w s f) → t1 ≡ told_after t (Addr form None) → w' ≡ passed n w → r'.settings ≡ r.settings → r'.phase ≡ Between
    → PassesAtoms (decoding_of r' t1 l' w' s' f)
passes_behind r r' t t1 l l' w w' s s' f form n passes told_is after settings between =
    let counts : AtomsCount t = record { informed = passes.informed; awaiting = passes.awaiting } in
    let counts1 : AtomsCount t1 = subst AtomsCount (sym (told_is ∙ addressed_told t form counts)) (addressed_counts t form counts) in
    record {
      whole = passes.whole;
      between = between;
      informed = counts1.informed;
      awaiting = counts1.awaiting;
      due = ap (λ (x : Waiting). x.due) after ∙ passes.due;
      depth = ap (λ (x : Sizes). x.depth) settings ∙ passes.depth;
      before = None;
      pre = ap (λ (x : Waiting). (x.pending).pre) after;
    }
