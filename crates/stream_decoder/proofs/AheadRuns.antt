-- Packets whose atoms were walked before they are taken: packet by packet, what each commits is walked.
use Rattle.std.proofs.Common.{◌≡◌, ℕ, suc, ◌+◌, ◌≤◌, ◌<◌, Bool, false, List, [], ◌∷◌, ◌++◌, length, take, map, Option, None}
use Rattle.std.proofs.Common.{refl, sym, ap, subst, ◌∙◌, arith, inl, inr, append_assoc, length-append}
use Rattle.std.proofs.lemmas.List.{length-take-le}
use Rattle.std.proofs.lemmas.List.Elements.{All-cons, All-nil}
use Rattle.std.specs.Prelude.{if◌then◌else◌}
use Rattle.element_queue.specs.Queued.{plain_atom}
use Rattle.etm_types.specs.declared.context.Ctx.{Ctx}
use Rattle.etm_types.specs.declared.element.Elem.{Elem}
use Rattle.etm_types.specs.declared.element.Elem.TheVariants as elem
use Rattle.etm_types.specs.declared.element.Thing.{Thing}
use Rattle.packet_grammar.proofs.Fitting.{small_back, small_front}
use Rattle.packet_grammar.specs.declared.packet.Packet.{Packet}
use Rattle.packet_grammar.specs.declared.packet.Packet.TheVariants.{Atoms, Commit, Cancel, Mispredict}
use Rattle.packet_grammar.specs.declared.stream_fault.Fault.{Fault}
use Rattle.packet_reader.specs.Packets.{TakesPackets, bytes_of}
use Rattle.packet_reader.specs.Stands.{PacketReading, TakesPacket}
use Rattle.path_elements.specs.Elements.{Told, elements_of, is_misplaced, told_after}
use Rattle.path_elements.specs.Held.{AreElems, IsElem}
use Rattle.path_walker.specs.State.{State}
use Rattle.path_walker.specs.Walk.{WalksAtoms, WalksRun, items_in}
use Rattle.path_walker.specs.declared.stretch.Stretch.{Stretch}
use Rattle.program_image.specs.declared.image.Image.{Image}
use Rattle.stream_decoder.proofs.AtomWalks.{walks_first}
use Rattle.stream_decoder.proofs.Fronts.{packet_holds}
use Rattle.stream_decoder.proofs.Growing.{Small}
use Rattle.stream_decoder.proofs.Holds.{holds_opened}
use Rattle.stream_decoder.proofs.LettingGo.{items_joined, ran_by_dropping}
use Rattle.stream_decoder.proofs.PacketRuns.{AtomsCount, Stays, are_elements, elements_are, placed, told_as_before}
use Rattle.stream_decoder.proofs.Quiet.{goes_quiet, holds_quiet}
use Rattle.stream_decoder.proofs.Yielding.{goes_nowhere, goes_on}
use Rattle.stream_decoder.specs.Ahead.{GiveOut, GivesOut, HasElements, TakesEach, no_atoms}
use Rattle.stream_decoder.specs.AtomPackets.{RunsFront, RunsPacket, RunsPackets, bytes_in}
use Rattle.stream_decoder.specs.Decoding.{AtRest, IsDecoding, decoding_of}
use Rattle.stream_decoder.specs.Left.{Left, nothing_left}
use Rattle.stream_decoder.specs.Waiting.{DropsDue, Waiting, all_of}
use Rattle.stream_decoder.specs.Yields.{Goes, WalksOldest}

-- ---- a walk of atoms, in two parts

pub record Parted (image : Image) (s : State) (xs ys : List Bool) (added : List Stretch) (s' : State) : Type 0 where
  pub mid : State
  pub first : List Stretch
  pub rest : List Stretch
  pub before : WalksAtoms image s None xs first mid
  pub all_before : length first ≡ length xs
  pub behind : WalksAtoms image mid None ys rest s'
  pub all_behind : length rest ≡ length ys
  pub parts : added ≡ first ++ rest

parted : (image : Image) (s s' : State) (xs ys : List Bool) (added : List Stretch) → length added ≡ length (xs ++ ys)
    → WalksAtoms image s None (xs ++ ys) added s' → Parted image s xs ys added s'
parted image s s' [] ys added all walks =
    record { mid = s; first = []; rest = added; before = refl; all_before = refl; behind = walks; all_behind = all; parts = refl }
parted image s s' (x ∷ xs) ys [] all walks = absurd (omega (arith, all))
parted image s s' (x ∷ xs) ys (stretch ∷ added) all (next, shows, state, walks) =
    let more = parted image next s' xs ys added (omega (arith, all)) walks in
    record {
      mid = more.mid;
      first = stretch ∷ more.first;
      rest = more.rest;
      before = (next, shows, state, more.before);
      all_before = ap suc more.all_before;
      behind = more.behind;
      all_behind = more.all_behind;
      parts = ap (λ (l : List Stretch). stretch ∷ l) more.parts;
    }

-- those that were walked are a front of the atoms
walked_front : (image : Image) (s s' : State) (addr : Option ℕ) (told : List Bool) (added : List Stretch) → WalksAtoms image s addr told added s'
    → WalksAtoms image s addr (take (length added) told) added s'
walked_front image s s' addr told [] walks = walks
walked_front image s s' addr [] (stretch ∷ added) walks = absurd walks
walked_front image s s' addr (x ∷ told) (stretch ∷ added) (next, shows, state, walks) =
    (next, shows, state, walked_front image next s' None told added walks)

walked_context : (image : Image) (s s' : State) (told : List Bool) (added : List Stretch) → WalksAtoms image s None told added s' → s'.ctx ≡ s.ctx
walked_context image s s' told [] walks = ap (λ (x : State). x.ctx) walks
walked_context image s s' [] (stretch ∷ added) walks = absurd walks
walked_context image s s' (x ∷ told) (stretch ∷ added) (next, shows, state, walks) = walked_context image next s' told added walks ∙ shows.kept

-- ---- a packet

record Ready (t : Told) (packet : Packet) (es : List Elem) : Type 0 where
  placed : is_misplaced t packet ≡ false
  elements : elements_of t packet ≡ es
  told : told_after t packet ≡ t
  range : AreElems es

one_elem : (e : Elem) → IsElem e → AreElems (e ∷ [])
one_elem e is = record { most = omega arith; each = All-cons IsElem e [] is (All-nil IsElem) }

counted_commit : (t : Told) (n : ℕ) → AtomsCount t → is_misplaced t (Commit n) ≡ false
counted_commit t n counts = rw counts.informed (rw counts.awaiting refl)

counted_cancel : (t : Told) (n : ℕ) → AtomsCount t → is_misplaced t (Cancel n false) ≡ false
counted_cancel t n counts = rw counts.informed (rw counts.awaiting refl)

counted_flip : (t : Told) → AtomsCount t → is_misplaced t (Mispredict no_atoms) ≡ false
counted_flip t counts = rw counts.informed (rw counts.awaiting refl)

ready : (r r' : PacketReading) (t : Told) (text : List ℕ) (at : ℕ) (packet : Packet) (es : List Elem) → AtomsCount t → TakesPacket r r' text at packet
    → HasElements packet es → Ready t packet es
ready r r' t text at packet es counts takes (inl (run, is, has)) =
    let takes' = subst (λ (p : Packet). TakesPacket r r' text at p) is takes in
    subst (λ (p : Packet). Ready t p es) (sym is) (subst (Ready t (Atoms run)) (sym has) (record {
      placed = placed t run counts;
      elements = elements_are t run counts;
      told = told_as_before t run t.informed;
      range = are_elements r r' text at run takes';
    }))
ready r r' t text at packet es counts takes (inr (inl (n, is, has))) =
    subst (λ (p : Packet). Ready t p es) (sym is) (subst (Ready t (Commit n)) (sym has) (record {
      placed = counted_commit t n counts;
      elements = ap (λ (b : Bool). if b then elem.Commit n ∷ [] else []) counts.informed;
      told = ap (λ (b : Bool). if b then t else t) counts.informed;
      range = one_elem (elem.Commit n) tt;
    }))
ready r r' t text at packet es counts takes (inr (inr (inl (n, is, has)))) =
    subst (λ (p : Packet). Ready t p es) (sym is) (subst (Ready t (Cancel n false)) (sym has) (record {
      placed = counted_cancel t n counts;
      elements = ap (λ (b : Bool). if b then elem.Cancel n ∷ [] else []) counts.informed;
      told = ap (λ (b : Bool). if b then t else t) counts.informed;
      range = one_elem (elem.Cancel n) tt;
    }))
ready r r' t text at packet es counts takes (inr (inr (inr (is, has)))) =
    subst (λ (p : Packet). Ready t p es) (sym is) (subst (Ready t (Mispredict no_atoms)) (sym has) (record {
      placed = counted_flip t counts;
      elements = ap (λ (b : Bool). if b then elem.Flip ∷ [] else []) counts.informed;
      told = ap (λ (b : Bool). if b then t else t) counts.informed;
      range = one_elem elem.Flip tt;
    }))

module _ (image : Image) (t : Told) (counts : AtomsCount t) (f : Option (ℕ × Fault)) (whole : f ≡ None) where
  -- its elements are taken, and show nothing
  each_goes : (r : PacketReading) (l : Left) (w w' : Waiting) (s : State) (es : List Elem) → (w.depth ≡ (r.settings).depth) × IsDecoding (decoding_of r t l w s f)
      → l.elements ≡ es → TakesEach w es w'
      → Goes image (decoding_of r t l w s f) [] (decoding_of r t (nothing_left l.at) w' s f)
      × ((w'.depth ≡ (r.settings).depth) × IsDecoding (decoding_of r t (nothing_left l.at) w' s f))
  each_goes r l w w' s [] is none same =
      let left_is : l ≡ nothing_left l.at = λ k. record { at = l.at; elements = none k } in
      rw same (
        subst (λ (x : Left). Goes image (decoding_of r t l w s f) [] (decoding_of r t x w s f)) left_is (goes_nowhere image (decoding_of r t l w s f)),
        subst (λ (x : Left). (w.depth ≡ (r.settings).depth) × IsDecoding (decoding_of r t x w s f)) left_is is,
      )
  each_goes r l w w' s (e ∷ es) is first (next, due, commits, waits, more) =
      let l1 : Left = record l { elements = es } in
      let goes = goes_quiet r t l l1 w next s f e es first refl due is commits waits image in
      let holds = holds_quiet r t l l1 w next s f e es first refl due is commits waits in
      let (behind, stays) = each_goes r l1 next w' s es holds refl more in (
        goes_on image (decoding_of r t l w s f) (decoding_of r t l1 next s f) (decoding_of r t (nothing_left l.at) w' s f) [] [] goes behind,
        stays,
      )

  -- what it commits is given out, and was walked
  drops_go : (r : PacketReading) (l : Left) (w w' : Waiting) (s s' : State) (gone : List Bool) (others : List Thing) (added : List Stretch)
      → (w.depth ≡ (r.settings).depth) × IsDecoding (decoding_of r t l w s f) → w.due ≡ map plain_atom gone ++ others → DropsDue w (length gone) w'
      → length added ≡ length gone → WalksAtoms image s None gone added s'
      → Goes image (decoding_of r t l w s f) (items_in s.ctx added) (decoding_of r t l w' s' f)
      × ((w'.depth ≡ (r.settings).depth) × IsDecoding (decoding_of r t l w' s' f))
  drops_go r l w w' s s' [] others [] is due drops all walks =
      rw drops (rw walks (goes_nowhere image (decoding_of r t l w s f), is))
  drops_go r l w w' s s' [] others (stretch ∷ added) is due drops all walks = absurd (omega (arith, all))
  drops_go r l w w' s s' (x ∷ gone) others added is due drops all walks =
      let oldest : map plain_atom (x ∷ gone) ++ (others ++ (w.pending).held) ≡ all_of w =
      sym (append_assoc (map plain_atom (x ∷ gone)) others (w.pending).held) ∙ ap (λ (l : List Thing). l ++ (w.pending).held) (sym due) in
      let walks' : WalksOldest image s (all_of w) added s' =
      subst (λ (l : List Thing). WalksOldest image s l added s') oldest
      (walks_first image s s' (x ∷ gone) (others ++ (w.pending).held) added walks) in
      let ran = ran_by_dropping image r t f s s' added (suc (length gone)) l w w' all (λ e. absurd (omega (arith, e))) is walks' drops in
      (ran.0, ran.2)

  packet_given : (r r' : PacketReading) (l : Left) (w w' : Waiting) (s s' : State) (text : List ℕ) (at : ℕ) (packet : Packet) (gone : List Bool)
      (added : List Stretch) → Stays r t f l w s → l.elements ≡ [] → Small text → TakesPacket r r' text at packet → GivesOut w packet gone w'
      → length added ≡ length gone → WalksAtoms image s None gone added s'
      → RunsPacket image (decoding_of r t l w s f) text (items_in s.ctx added) (decoding_of r' t (nothing_left at) w' s' f)
      × ((w'.depth ≡ (r'.settings).depth) × IsDecoding (decoding_of r' t (nothing_left at) w' s' f))
  packet_given r r' l w w' s s' text at packet gone added is rest small takes gives all walks =
      let read = packet_holds r r' text small at packet takes t l w s f is.inside in
      let es = gives.elements in let l1 : Left = record { at = at; elements = es } in
      let so = ready r r' t text at packet es counts takes gives.has in
      let opened : IsDecoding (decoding_of r' t l1 w s f) =
      holds_opened r' r' t l w s f read.1 (read.1).reads refl at packet es t l1 (record { due = is.due; todo = rest }) whole (sym so.elements)
      (sym so.told) refl so.range in
      let here = decoding_of r t l w s f in let begun = decoding_of r' t l1 w s f in
      let opens : begun ≡ record here { reader = r'; told = told_after t packet; at = at; todo = elements_of t packet } =
      ap (λ (x : Told). record here { reader = r'; told = x; at = at; todo = es }) (sym so.told)
      ∙ ap (λ (x : List Elem). record here { reader = r'; told = told_after t packet; at = at; todo = x }) (sym so.elements) in
      let (quiet, held) = each_goes r' l1 w gives.mid s es (read.0, opened) refl gives.quiet in
      let (goes, stays) = drops_go r' (nothing_left at) gives.mid w' s s' gone gives.others added held gives.due gives.drops all walks in (
        record {
          begun = begun;
          begins = (at, packet, takes, inr (so.placed, opens));
          whole = whole;
          goes = goes_on image begun (decoding_of r' t (nothing_left at) gives.mid s f) (decoding_of r' t (nothing_left at) w' s' f) []
              (items_in s.ctx added) quiet goes;
        },
        stays,
      )

  -- ---- packets

  packets_given : (r r' : PacketReading) (l : Left) (w w' : Waiting) (s s' : State) (first : List (List ℕ × Packet)) (last : List ℕ × Packet) (at : ℕ)
      (gone : List Bool) (added : List Stretch) → Stays r t f l w s → l.elements ≡ [] → Small (bytes_of first ++ last.0) → TakesPackets r first last at r'
      → GiveOut w first last gone w' → length added ≡ length gone → WalksAtoms image s None gone added s'
      → RunsPackets image (decoding_of r t l w s f) (map (λ (p : List ℕ × Packet). p.0) first) last.0 (items_in s.ctx added)
      (decoding_of r' t (nothing_left at) w' s' f)
      × ((w'.depth ≡ (r'.settings).depth) × IsDecoding (decoding_of r' t (nothing_left at) w' s' f)) × (r'.settings ≡ r.settings)
      × (r'.offset ≡ r.offset + length (bytes_of first) + length last.0)
  packets_given r r' l w w' s s' [] last at gone added is rest small takes gives all walks =
      let (runs, stays) = packet_given r r' l w w' s s' last.0 at last.1 gone added is rest small takes gives all walks in
      (runs, stays, takes.settings, omega (arith, takes.offset))
  packets_given r r' l w w' s s' (p ∷ first) last at gone added is rest small (at1, r1, takes1, takes) (w1, gone1, more, gives1, due1, gives, gone_is)
      all walks =
      let both : length added ≡ length (gone1 ++ more) = all ∙ ap length gone_is in
      let walked = parted image s s' gone1 more added both (subst (λ (x : List Bool). WalksAtoms image s None x added s') gone_is walks) in
      let parts = append_assoc p.0 (bytes_of first) last.0 in
      let (runs1, stays1) = packet_given r r1 l w w1 s walked.mid p.0 at1 p.1 gone1 walked.first is rest
      (small_front ((p.0 ++ bytes_of first) ++ last.0) p.0 (bytes_of first ++ last.0) parts small) takes1 gives1 walked.all_before walked.before in
      let l1 = nothing_left at1 in
      let (runs, stays, settings, taken) = packets_given r1 r' l1 w1 w' walked.mid s' first last at more walked.rest
      (record { inside = stays1; due = due1 }) refl
      (small_back ((p.0 ++ bytes_of first) ++ last.0) p.0 (bytes_of first ++ last.0) parts small) takes gives walked.all_behind walked.behind in
      let context = walked_context image s walked.mid gone1 walked.first walked.before in
      let final = decoding_of r' t (nothing_left at) w' s' f in let next = decoding_of r1 t l1 w1 walked.mid f in
      let texts = map (λ (p : List ℕ × Packet). p.0) first in
      let runs' : RunsPackets image next texts last.0 (items_in s.ctx walked.rest) final =
      subst (λ (ctx : Ctx). RunsPackets image next texts last.0 (items_in ctx walked.rest) final) context runs in (
        (
          next,
          items_in s.ctx walked.first,
          items_in s.ctx walked.rest,
          runs1,
          record { due = due1; todo = refl },
          stays1.1,
          runs',
          ap (items_in s.ctx) walked.parts ∙ sym (items_joined s.ctx walked.first walked.rest),
        ),
        stays,
        settings ∙ takes1.settings,
        omega (arith, taken, takes1.offset, length-append p.0 (bytes_of first)),
      )

texts_of : (ps : List (List ℕ × Packet)) → bytes_in (map (λ (p : List ℕ × Packet). p.0) ps) ≡ bytes_of ps
texts_of [] = refl
texts_of (p ∷ ps) = ap (λ (l : List ℕ). p.0 ++ l) (texts_of ps)

-- The first of some atoms were walked, and then the packets that commit them are taken.
pub ahead_runs : {V : Type 0} (Takes : V → List Stretch → V → Type 0) (image : Image) (r r' : PacketReading) (t : Told) (l : Left) (w w' : Waiting) (s s' : State)
    (f : Option (ℕ × Fault)) (bytes behind : List ℕ) (first : List (List ℕ × Packet)) (last : List ℕ × Packet) (at : ℕ) (told gone : List Bool) (n : ℕ) (old new : V)
    → (w.depth ≡ (r.settings).depth) × IsDecoding (decoding_of r t l w s f) → AtRest (decoding_of r t l w s f) → f ≡ None → AtomsCount t → Small bytes
    → bytes ≡ bytes_of first ++ (last.0 ++ behind) → 0 < length last.0 → TakesPackets r first last at r' → GiveOut w first last gone w'
    → gone ≡ take n told → WalksRun Takes image s None told old n s' new → n ≤ length told
    → RunsFront Takes image (decoding_of r t l w s f) old bytes behind (decoding_of r' t (nothing_left at) w' s' f) new
    × ((w'.depth ≡ (r'.settings).depth) × IsDecoding (decoding_of r' t (nothing_left at) w' s' f))
ahead_runs Takes image r r' t l w w' s s' f bytes behind first last at told gone n old new is rest whole counts small parts some takes gives gone_is walked few =
    let added = walked.added in
    let walks : WalksAtoms image s None gone added s' =
    subst (λ (x : List Bool). WalksAtoms image s None x added s') (ap (λ (k : ℕ). take k told) walked.count ∙ sym gone_is)
    (walked_front image s s' None told added walked.walks) in
    let all : length added ≡ length gone = walked.count ∙ sym (ap length gone_is ∙ length-take-le n told few) in
    let front : bytes ≡ (bytes_of first ++ last.0) ++ behind = parts ∙ sym (append_assoc (bytes_of first) last.0 behind) in
    let (runs, stays, settings, taken) = packets_given image t counts f whole r r' l w w' s s' first last at gone added
    (record { inside = is; due = rest.due }) rest.todo (small_front bytes (bytes_of first ++ last.0) behind front small) takes gives all walks in (
      record {
        first = map (λ (p : List ℕ × Packet). p.0) first;
        last = last.0;
        parts = parts ∙ ap (λ (l : List ℕ). l ++ (last.0 ++ behind)) (sym (texts_of first));
        some = some;
        added = added;
        takes = walked.takes;
        packets = runs;
        settings = settings;
        offset = omega (arith, taken, ap length (texts_of first));
      },
      stays,
    )
