-- Atoms of several packets that are taken one after the other, packet by packet.
use Rattle.std.proofs.Common.{◌≡◌, ℕ, zero, suc, ◌+◌, ◌<◌, Bool, true, false, List, [], ◌∷◌, ◌++◌, All, length, take, drop, Option, None}
use Rattle.std.proofs.Common.{refl, sym, ap, subst, ◌∙◌, arith, inr, append-nil, append_assoc, length-append}
use Rattle.std.proofs.lemmas.List.{length-map, map-append, take-append-drop}
use Rattle.std.proofs.lemmas.List.Elements.{All-cons, All-head, All-nil, All-tail}
use Rattle.std.specs.Prelude.{if◌then◌else◌}
use Rattle.etm_types.specs.Atoms.{atoms_in}
use Rattle.etm_types.specs.declared.atoms.AtomRun.{AtomRun}
use Rattle.etm_types.specs.declared.context.Ctx.{Ctx}
use Rattle.etm_types.specs.declared.element.Elem.{Elem}
use Rattle.etm_types.specs.declared.element.Elem.TheVariants as elem
use Rattle.etm_types.specs.declared.element.P0.TheVariants.{Atom}
use Rattle.etm_types.specs.declared.item.Item.{Item}
use Rattle.packet_grammar.proofs.Fitting.{small_front}
use Rattle.packet_grammar.specs.declared.packet.Packet.TheVariants.{Atoms}
use Rattle.packet_grammar.specs.declared.stream_fault.Fault.{Fault}
use Rattle.packet_reader.specs.Stands.{PacketReading, TakesPacket}
use Rattle.path_elements.proofs.Taken.{in_range}
use Rattle.path_elements.specs.Elements.{Told, atoms, elements_of, is_misplaced, told_after}
use Rattle.path_elements.specs.Held.{AreElems, IsElem}
use Rattle.path_walker.specs.State.{State, IsState}
use Rattle.path_walker.specs.Walk.{items_in}
use Rattle.path_walker.specs.declared.stretch.Stretch.{Stretch}
use Rattle.program_image.specs.declared.image.Image.{Image}
use Rattle.stream_decoder.proofs.Fronts.{packet_holds}
use Rattle.stream_decoder.proofs.Growing.{Small}
use Rattle.stream_decoder.proofs.Holds.{holds_opened}
use Rattle.stream_decoder.proofs.LettingGo.{items_joined}
use Rattle.stream_decoder.proofs.Rotating.{length_bits}
use Rattle.stream_decoder.proofs.Taking.{holds_taken, leaves_taken}
use Rattle.stream_decoder.proofs.Yielding.{goes_by_leaving, goes_nowhere, goes_on}
use Rattle.stream_decoder.specs.AtomPackets.{BeginWithAtoms, ReachesAtom, ReadsAtoms, RunsFront, RunsPacket, RunsPackets, StepsByAtoms, TakesSome, bytes_in}
use Rattle.stream_decoder.specs.Decoding.{AtRest, Decoding, IsDecoding, decoding_of}
use Rattle.stream_decoder.specs.Left.{Left}
use Rattle.stream_decoder.specs.Waiting.{Waiting}
use Rattle.stream_decoder.specs.Yields.{Goes}

-- ---- atoms are taken one after the other

-- some, and then the others
pub steps_split : (image : Image) (w w' : Waiting) (s s' : State) (xs ys : List Bool) (added : List Stretch)
    → StepsByAtoms image w s (xs ++ ys) added w' s'
    → (mid : Waiting) × (between : State) × (first : List Stretch) × (rest : List Stretch) × StepsByAtoms image w s xs first mid between
    × StepsByAtoms image mid between ys rest w' s' × (added ≡ first ++ rest)
steps_split image w w' s s' [] ys added steps = (w, s, [], added, (refl, refl, refl), steps, refl)
steps_split image w w' s s' (x ∷ xs) ys added (next, m, f, others, one, more, is) =
    let (mid, between, first, rest, before, behind, parts) = steps_split image next w' m s' xs ys others more in (
      mid,
      between,
      f ++ first,
      rest,
      (next, m, f, first, one, before, refl),
      behind,
      is ∙ ap (λ (l : List Stretch). f ++ l) parts ∙ sym (append_assoc f first rest),
    )

-- what holds of a decoding, and that nothing is due in it
pub record Stays (r : PacketReading) (t : Told) (f : Option (ℕ × Fault)) (l : Left) (w : Waiting) (s : State) : Type 0 where
  pub inside : (w.depth ≡ (r.settings).depth) × IsDecoding (decoding_of r t l w s f)
  pub due : w.due ≡ []

module _ (image : Image) (r : PacketReading) (t : Told) (f : Option (ℕ × Fault)) (whole : f ≡ None) where
  abbrev here : Left → Waiting → State → Decoding
  here l w s = decoding_of r t l w s f

  -- the state of the walk is another one
  walks_elsewhere : (l : Left) (w : Waiting) (s s' : State) → IsState s' → (w.depth ≡ (r.settings).depth) × IsDecoding (here l w s)
      → (w.depth ≡ (r.settings).depth) × IsDecoding (here l w s')
  walks_elsewhere l w s s' state (depth, d) = (
    depth,
    record {
      reads = d.reads;
      few = d.few;
      balanced = d.balanced;
      range = d.range;
      things = d.things;
      address = d.address;
      elements = d.elements;
      walk = state;
      begins = d.begins;
      stopped = λ met. absurd (met whole);
    },
  )

  -- some of the atoms that are next are taken, and the others are left
  pub steps_go : (l : Left) (w w' : Waiting) (s s' : State) (told : List Bool) (others : List Elem) (added : List Stretch) → Stays r t f l w s
      → l.elements ≡ atoms told ++ others → StepsByAtoms image w s told added w' s'
      → Goes image (here l w s) (items_in s.ctx added) (here (record l { elements = others }) w' s')
      × Stays r t f (record l { elements = others }) w' s' × (s'.ctx ≡ s.ctx)
  steps_go l w w' s s' [] others added is next (same, still, none) =
      let l' : Left = record l { elements = others } in
      let left_is : l ≡ l' = λ k. record { at = l.at; elements = next k } in
      let stays : Stays r t f l' w s = subst (λ (x : Left). Stays r t f x w s) left_is is in
      let goes : Goes image (here l w s) [] (here l' w s) =
      subst (λ (x : Left). Goes image (here l w s) [] (here x w s)) left_is (goes_nowhere image (here l w s)) in
      rw same (rw still (rw none (goes, stays, refl)))
  steps_go l w w' s s' (taken ∷ told) others added is first (next, mid, some, rest, one, more, parts) =
      let e = elem.P0 (Atom taken) in let es = atoms told ++ others in
      let l1 : Left = record l { elements = es } in
      let leaves = leaves_taken r t l l1 w next s f e es one.thing first refl is.due is.inside whole one.commits one.holds in
      let goes = goes_by_leaving image (here l w s) (here l1 next s) (here l1 next mid) one.thing (items_in s.ctx some) leaves one.walks refl in
      let holds = holds_taken r t l l1 w next s f e es one.thing first refl is.due is.inside whole one.commits one.holds in
      let after : Stays r t f l1 next mid = record { inside = walks_elsewhere l1 next s mid one.state holds; due = one.due } in
      let (behind, stays, context) = steps_go l1 next w' mid s' told others rest after refl more in
      let last = here (record l { elements = others }) w' s' in
      let behind' : Goes image (here l1 next mid) (items_in s.ctx rest) last =
      subst (λ (ctx : Ctx). Goes image (here l1 next mid) (items_in ctx rest) last) one.context behind in
      let items = items_joined s.ctx some rest ∙ ap (items_in s.ctx) (sym parts) in (
        subst (λ (i : List Item). Goes image (here l w s) i last) items
            (goes_on image (here l w s) (here l1 next mid) last (items_in s.ctx some) (items_in s.ctx rest) goes behind'),
        stays,
        context ∙ one.context,
      )

-- ---- a packet of atoms

-- bytes as packets of one byte each
abbrev alone : List ℕ → List (List ℕ)
alone [] = []
alone (byte ∷ bytes) = (byte ∷ []) ∷ alone bytes

bytes_alone : (bytes : List ℕ) → bytes_in (alone bytes) ≡ bytes
bytes_alone [] = refl
bytes_alone (byte ∷ bytes) = ap (λ (l : List ℕ). byte ∷ l) (bytes_alone bytes)

are_atoms : (told : List Bool) → All IsElem (atoms told)
are_atoms [] = All-nil IsElem
are_atoms (taken ∷ told) = All-cons IsElem (elem.P0 (Atom taken)) (atoms told) tt (are_atoms told)

pub are_elements : (r r' : PacketReading) (text : List ℕ) (at : ℕ) (run : AtomRun) → TakesPacket r r' text at (Atoms run) → AreElems (atoms (atoms_in run))
are_elements r r' text at run takes =
    record {
      most = let few = in_range r.settings (Atoms run) takes.values in
          omega (arith, few, length-map (atoms_in run) (λ (b : Bool). elem.P0 (Atom b)), length_bits run.count run.bits);
      each = are_atoms (atoms_in run);
    }

-- a packet of atoms counts, and may come
pub record AtomsCount (t : Told) : Type 0 where
  pub informed : t.informed ≡ true
  pub awaiting : t.awaiting ≡ None

pub placed : (t : Told) (run : AtomRun) → AtomsCount t → is_misplaced t (Atoms run) ≡ false
placed t run counts = rw counts.informed (rw counts.awaiting refl)

pub elements_are : (t : Told) (run : AtomRun) → AtomsCount t → elements_of t (Atoms run) ≡ atoms (atoms_in run)
elements_are t run counts = ap (λ (b : Bool). if b then atoms (atoms_in run) else []) counts.informed

pub told_as_before : (t : Told) (run : AtomRun) (b : Bool) → (if b then t else t) ≡ t
told_as_before t run true = refl
told_as_before t run false = refl

module _ (image : Image) (t : Told) (counts : AtomsCount t) (f : Option (ℕ × Fault)) (whole : f ≡ None) where
  -- some of its atoms are taken
  packet_runs : (r r' : PacketReading) (l : Left) (w w' : Waiting) (s s' : State) (byte at : ℕ) (run : AtomRun) (xs ys : List Bool) (added : List Stretch)
      → Stays r t f l w s → l.elements ≡ [] → byte < 256 → TakesPacket r r' (byte ∷ []) at (Atoms run) → atoms_in run ≡ xs ++ ys
      → StepsByAtoms image w s xs added w' s'
      → RunsPacket image (decoding_of r t l w s f) (byte ∷ []) (items_in s.ctx added) (decoding_of r' t (record { at = at; elements = atoms ys }) w' s' f)
      × Stays r' t f (record { at = at; elements = atoms ys }) w' s' × (s'.ctx ≡ s.ctx)
  packet_runs r r' l w w' s s' byte at run xs ys added is rest small takes parts steps =
      let text = byte ∷ [] in
      let small_text : Small text = All-cons (λ (b : ℕ). b < 256) byte [] small (All-nil (λ (b : ℕ). b < 256)) in
      let read = packet_holds r r' text small_text at (Atoms run) takes t l w s f is.inside in
      let all = atoms (atoms_in run) in
      let l1 : Left = record { at = at; elements = all } in
      let opened : IsDecoding (decoding_of r' t l1 w s f) =
      holds_opened r' r' t l w s f read.1 (read.1).reads refl at (Atoms run) all t l1 (record { due = is.due; todo = rest }) whole
      (sym (elements_are t run counts)) (sym (told_as_before t run t.informed)) refl (are_elements r r' text at run takes) in
      let begun = decoding_of r' t l1 w s f in
      let here = decoding_of r t l w s f in
      let opens : begun ≡ record here { reader = r'; told = told_after t (Atoms run); at = at; todo = elements_of t (Atoms run) } =
      ap (λ (x : Told). record here { reader = r'; told = x; at = at; todo = all }) (sym (told_as_before t run t.informed))
      ∙ ap (λ (x : List Elem). record here { reader = r'; told = told_after t (Atoms run); at = at; todo = x }) (sym (elements_are t run counts)) in
      let next : all ≡ atoms xs ++ atoms ys = ap atoms parts ∙ map-append (λ (b : Bool). elem.P0 (Atom b)) xs ys in
      let (goes, stays, context) =
      steps_go image r' t f whole l1 w w' s s' xs (atoms ys) added (record { inside = (read.0, opened); due = is.due }) next steps in (
        record {
          begun = begun;
          begins = (at, Atoms run, takes, inr (placed t run counts, opens));
          whole = whole;
          goes = goes;
        },
        stays,
        context,
      )

  -- packets of atoms are, one after the other, and then the first atoms of another one
  pub packets_run : (r before r' : PacketReading) (l : Left) (w w' : Waiting) (s s' : State) (first : List ℕ) (last at : ℕ) (told xs ys : List Bool)
      (run : AtomRun) (added : List Stretch)
      → Stays r t f l w s → l.elements ≡ [] → Small (first ++ last ∷ []) → ReadsAtoms r first told before
      → TakesPacket before r' (last ∷ []) at (Atoms run) → atoms_in run ≡ xs ++ ys → StepsByAtoms image w s (told ++ xs) added w' s'
      → RunsPackets image (decoding_of r t l w s f) (alone first) (last ∷ []) (items_in s.ctx added)
      (decoding_of r' t (record { at = at; elements = atoms ys }) w' s' f)
      × Stays r' t f (record { at = at; elements = atoms ys }) w' s' × (s'.ctx ≡ s.ctx) × (r'.settings ≡ r.settings)
      × (r'.offset ≡ r.offset + length first + 1)
  packets_run r before r' l w w' s s' [] last at told xs ys run added is rest small (same, none) takes parts steps =
      let takes' : TakesPacket r r' (last ∷ []) at (Atoms run) = subst (λ (x : PacketReading). TakesPacket x r' (last ∷ []) at (Atoms run)) same takes in
      let steps' : StepsByAtoms image w s xs added w' s' = subst (λ (x : List Bool). StepsByAtoms image w s (x ++ xs) added w' s') none steps in
      let (runs, stays, context) = packet_runs r r' l w w' s s' last at run xs ys added is rest (All-head (λ (b : ℕ). b < 256) last [] small) takes'
      parts steps' in
      (runs, stays, context, takes'.settings, omega (arith, takes'.offset))
  packets_run r before r' l w w' s s' (byte ∷ first) last at told xs ys run added is rest small (at1, run1, r1, told1, takes1, reads, told_is) takes
      parts steps =
      let all1 = atoms_in run1 in
      let joined : told ++ xs ≡ all1 ++ (told1 ++ xs) = ap (λ (x : List Bool). x ++ xs) told_is ∙ append_assoc all1 told1 xs in
      let steps' : StepsByAtoms image w s (all1 ++ (told1 ++ xs)) added w' s' =
      subst (λ (x : List Bool). StepsByAtoms image w s x added w' s') joined steps in
      let (mid, between, some, others, one, more, added_is) = steps_split image w w' s s' all1 (told1 ++ xs) added steps' in
      let (runs1, stays1, context1) = packet_runs r r1 l w mid s between byte at1 run1 all1 [] some is rest
      (All-head (λ (b : ℕ). b < 256) byte (first ++ last ∷ []) small) takes1 (sym (append-nil all1)) one in
      let l1 : Left = record { at = at1; elements = [] } in
      let (runs, stays, context, settings, taken) = packets_run r1 before r' l1 mid w' between s' first last at told1 xs ys run others stays1 refl
      (All-tail (λ (b : ℕ). b < 256) byte (first ++ last ∷ []) small) reads takes parts more in
      let final = decoding_of r' t (record { at = at; elements = atoms ys }) w' s' f in
      let next = decoding_of r1 t l1 mid between f in
      let runs' : RunsPackets image next (alone first) (last ∷ []) (items_in s.ctx others) final =
      subst (λ (ctx : Ctx). RunsPackets image next (alone first) (last ∷ []) (items_in ctx others) final) context1 runs in (
        (
          next,
          items_in s.ctx some,
          items_in s.ctx others,
          runs1,
          record { due = stays1.due; todo = refl },
          (stays1.inside).1,
          runs',
          ap (items_in s.ctx) added_is ∙ sym (items_joined s.ctx some others),
        ),
        stays,
        context ∙ context1,
        settings ∙ takes1.settings,
        omega (arith, taken, takes1.offset),
      )

-- ---- those at the front of some bytes

atoms_behind : (n : ℕ) (told : List Bool) → atoms (drop n told) ≡ drop n (atoms told)
atoms_behind zero told = refl
atoms_behind (suc n) [] = refl
atoms_behind (suc n) (taken ∷ told) = atoms_behind n told

-- The first of the atoms at the front were taken, and the reader took the packets in which they stand: what is left of the last packet is left
-- to do.
pub front_runs : {V : Type 0} (Takes : V → List Stretch → V → Type 0) (image : Image) (r r' : PacketReading) (t : Told) (l l' : Left) (w w' : Waiting) (s s' : State)
    (f : Option (ℕ × Fault)) (bytes behind : List ℕ) (told : List Bool) (n : ℕ) (old new : V)
    → (w.depth ≡ (r.settings).depth) × IsDecoding (decoding_of r t l w s f) → AtRest (decoding_of r t l w s f) → f ≡ None → AtomsCount t → Small bytes
    → BeginWithAtoms bytes told → TakesSome Takes image w s told old n w' s' new → ReachesAtom r bytes n l' behind r'
    → RunsFront Takes image (decoding_of r t l w s f) old bytes behind (decoding_of r' t l' w' s' f) new
    × ((w'.depth ≡ (r'.settings).depth) × IsDecoding (decoding_of r' t l' w' s' f))
front_runs Takes image r r' t l l' w w' s s' f bytes behind told n old new is rest whole counts small begins some (run, within, reached, remain) =
    let first = reached.first in let last = reached.last in
    let xs = take within (atoms_in run) in let ys = drop within (atoms_in run) in
    let steps : StepsByAtoms image w s (reached.told ++ xs) some.added w' s' =
    subst (λ (x : List Bool). StepsByAtoms image w s x some.added w' s') (reached.same told begins some.within) some.steps in
    let text = first ++ last ∷ [] in
    let parts : bytes ≡ text ++ behind = reached.parts ∙ sym (append_assoc first (last ∷ []) behind) in
    let (runs, stays, context, settings, taken) =
    packets_run image t counts f whole r reached.before r' l w w' s s' first last l'.at reached.told xs ys run some.added
    (record { inside = is; due = rest.due }) rest.todo (small_front bytes text behind parts small) reached.reads reached.takes
    (sym (take-append-drop within (atoms_in run))) steps in
    let left : List Elem → Left = λ es. record { at = l'.at; elements = es } in
    let left_is : left (atoms ys) ≡ l' = ap left (atoms_behind within (atoms_in run) ∙ sym remain) in
    let here = decoding_of r t l w s f in (
      subst (λ (x : Left). RunsFront Takes image here old bytes behind (decoding_of r' t x w' s' f) new) left_is (record {
        first = alone first;
        last = last ∷ [];
        parts = reached.parts ∙ ap (λ (l : List ℕ). l ++ (last ∷ behind)) (sym (bytes_alone first));
        some = omega arith;
        added = some.added;
        takes = some.takes;
        packets = runs;
        settings = settings;
        offset = omega (arith, taken, ap length (bytes_alone first));
      }),
      subst (λ (x : Left). (w'.depth ≡ (r'.settings).depth) × IsDecoding (decoding_of r' t x w' s' f)) left_is stays.inside,
    )

-- a packet that shows nothing stands before those
pub runs_behind : {V : Type 0} (Takes : V → List Stretch → V → Type 0) (image : Image) (d m d' : Decoding) (text bytes rest behind : List ℕ) (old new : V)
    → RunsPacket image d text [] m → AtRest m → IsDecoding m → (m.walk).ctx ≡ (d.walk).ctx → (m.reader).settings ≡ (d.reader).settings
    → (m.reader).offset ≡ (d.reader).offset + length text → bytes ≡ text ++ rest → RunsFront Takes image m old rest behind d' new
    → RunsFront Takes image d old bytes behind d' new
runs_behind Takes image d m d' text bytes rest behind old new packet done holds context settings taken parts runs =
    record {
      first = text ∷ runs.first;
      last = runs.last;
      parts = parts ∙ ap (λ (l : List ℕ). text ++ l) runs.parts ∙ sym (append_assoc text (bytes_in runs.first) (runs.last ++ behind));
      some = runs.some;
      added = runs.added;
      takes = runs.takes;
      packets = (
        m,
        [],
        items_in (d.walk).ctx runs.added,
        packet,
        done,
        holds,
        subst (λ (ctx : Ctx). RunsPackets image m runs.first runs.last (items_in ctx runs.added) d') context runs.packets,
        refl,
      );
      settings = runs.settings ∙ settings;
      offset = omega (arith, runs.offset, taken, length-append text (bytes_in runs.first));
    }
