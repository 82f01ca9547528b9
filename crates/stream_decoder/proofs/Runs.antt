-- Atoms of a run are walked one after the other.
use Rattle.std.proofs.Common.{◌≡◌, ℕ, suc, ◌+◌, ◌^◌, ◌≤◌, ◌<◌, Bool, List, [], ◌∷◌, ◌++◌, length, drop, slice_get, ◌∙◌}
use Rattle.std.proofs.Common.{Option, Some, None, refl, sym, ap, subst, arith, append-nil}
use Rattle.element_queue.specs.Counting.{AreCounts, Balances, add}
use Rattle.element_queue.specs.declared.ledger.Counts.{Counts}
use Rattle.etm_types.specs.Pre.{nothing_told}
use Rattle.etm_types.specs.Walked.{items_of}
use Rattle.etm_types.specs.declared.element.Elem.{Elem}
use Rattle.etm_types.specs.declared.element.Elem.TheVariants as elem
use Rattle.etm_types.specs.declared.element.P0.TheVariants.{Atom}
use Rattle.packet_grammar.specs.declared.stream_fault.Fault.{Fault}
use Rattle.packet_reader.specs.Stands.{PacketReading}
use Rattle.path_elements.specs.Elements.{Told}
use Rattle.path_walker.specs.State.{State, IsState}
use Rattle.path_walker.specs.Walk.{Shows, atom_at, items_in, walked_in}
use Rattle.path_walker.specs.declared.stretch.Stretch.{Stretch}
use Rattle.program_image.specs.declared.image.Image.{Image}
use Rattle.std.proofs.Math.Nat.{mod-lt}
use Rattle.element_queue.specs.Pending.{committing}
use Rattle.etm_types.specs.declared.element.Thing.{Thing}
use Rattle.etm_types.specs.declared.element.Thing.TheVariants.{Seen}
use Rattle.etm_types.specs.declared.item.Item.{Item}
use Rattle.stream_decoder.proofs.Atoms.{fewer_by_atom, goes_by_atom, holds_by_atom}
use Rattle.stream_decoder.proofs.Waits.{next_at}
use Rattle.stream_decoder.proofs.Yielding.{goes_on}
use Rattle.stream_decoder.specs.Decoding.{Decoding, IsDecoding, decoding_of}
use Rattle.stream_decoder.specs.Left.{Left}
use Rattle.stream_decoder.specs.Waiting.{Commits, IsWaiting, Waiting, committed_by, counts_passed, passed}
use Rattle.stream_decoder.specs.Yields.{Goes, WalksNext, left}

-- the address that was given before the next atom of a run
abbrev pub addr_behind : Option ℕ → List Stretch → Option ℕ
addr_behind addr [] = addr
addr_behind addr (stretch ∷ run) = None

pub none_behind : (run : List Stretch) → addr_behind None run ≡ None
none_behind [] = refl
none_behind (stretch ∷ run) = refl

-- one atom more is walked
pub walks_more : (image : Image) (s mid next : State) (addr : Option ℕ) (elements : List Elem) (run : List Stretch) (stretch : Stretch) (taken : Bool)
    → WalksNext image s addr elements run mid → slice_get elements (length run) ≡ Some (elem.P0 (Atom taken)) → mid.ctx ≡ s.ctx
    → Shows image mid (atom_at (addr_behind addr run) taken) (walked_in mid.ctx stretch) next → IsState next
    → WalksNext image s addr elements (run ++ stretch ∷ []) next
walks_more image s mid next addr elements [] stretch taken walks there same shows state = (
  taken,
  drop 1 elements,
  next,
  next_at elements 0 (elem.P0 (Atom taken)) there,
  subst (λ (m : State). Shows image m (atom_at addr taken) (walked_in m.ctx stretch) next) walks shows,
  state,
  refl,
)
walks_more image s mid next addr elements (x ∷ run) stretch taken (t, others, after, is, first, kept_state, rest) there same shows state =
    let behind : slice_get others (length run) ≡ Some (elem.P0 (Atom taken)) =
    sym (ap (λ (l : List Elem). slice_get l (suc (length run))) is) ∙ there in
    let kept : mid.ctx ≡ after.ctx = same ∙ sym first.kept in
    let shows' : Shows image mid (atom_at (addr_behind None run) taken) (walked_in mid.ctx stretch) next =
    subst (λ (a : Option ℕ). Shows image mid (atom_at a taken) (walked_in mid.ctx stretch) next) (sym (none_behind run)) shows in
    (t, others, after, is, first, kept_state, walks_more image after mid next None others run stretch taken rest behind kept shows' state)

-- ---- what waits at depth 0, where nothing but an address was given

abbrev pub at_zero : Bool → Option ℕ → Counts → Waiting
at_zero informed addr c =
    record {
      pending = record { held = []; pre = record nothing_told { addr = addr }; informed = informed };
      due = [];
      depth = 0;
      counts = c;
    }

same_count : (n : ℕ) → n < 2 ^ 64 → n ≡ add n 0
same_count n small = omega arith

one_by_one : (n : ℕ) → add (add n 1) 0 ≡ add (add n 0) 1
one_by_one n = omega arith

passed_more : (c n : ℕ) → add (add c 1) n ≡ add c (suc n)
passed_more c n = omega arith

pub counts_on : (n : ℕ) (c : Counts) → counts_passed (suc n) c ≡ counts_passed n (counts_passed 1 c)
counts_on n c k =
    record {
      made = sym (passed_more c.made n) k;
      committed = sym (passed_more c.committed n) k;
      cancelled = c.cancelled;
      lost = c.lost;
    }

pub passed_one : (informed : Bool) (addr : Option ℕ) (c : Counts) (taken : Bool) → AreCounts c
    → Commits (at_zero informed addr c) (elem.P0 (Atom taken)) (at_zero informed None (counts_passed 1 c))
    (committed_by (at_zero informed addr c) (Atom taken))
passed_one informed addr c taken range =
    record {
      gone = committing (Seen (atom_at addr taken) ∷ []);
      rule = refl;
      commits = refl;
      counts = λ k. record {
        made = add c.made 1;
        committed = one_by_one c.committed k;
        cancelled = same_count c.cancelled range.cancelled k;
        lost = same_count c.lost range.lost k;
      };
      depth = refl;
    }

pub waits_one : (informed : Bool) (c : Counts) → AreCounts c → Balances c 0 → IsWaiting (at_zero informed None (counts_passed 1 c))
waits_one informed c range balanced =
    record {
      few = omega arith;
      balanced = omega (arith, balanced);
      range = record {
        made = mod-lt (c.made + 1) (omega arith);
        committed = mod-lt (c.committed + 1) (omega arith);
        cancelled = range.cancelled;
        lost = range.lost;
      };
    }

-- ---- a run

module _ (image : Image) (r : PacketReading) (t : Told) (f : Option (ℕ × Fault)) (informed : Bool) where
  abbrev here : Left → Option ℕ → Counts → State → Decoding
  here l addr c s = decoding_of r t l (at_zero informed addr c) s f

  abbrev Inside : Left → Option ℕ → Counts → State → Type 0
  Inside l addr c s = (0 ≡ (r.settings).depth) × IsDecoding (here l addr c s)

  one_step : (l : Left) (c : Counts) (s next : State) (addr : Option ℕ) (stretch : Stretch) (taken : Bool) (others : List Elem) → Inside l addr c s
      → l.elements ≡ elem.P0 (Atom taken) ∷ others → Shows image s (atom_at addr taken) (walked_in s.ctx stretch) next → IsState next
      → Goes image (here l addr c s) (items_of (walked_in s.ctx stretch)) (here (record l { elements = others }) None (counts_passed 1 c) next)
      × (left (here (record l { elements = others }) None (counts_passed 1 c) next) < left (here l addr c s))
      × Inside (record l { elements = others }) None (counts_passed 1 c) next
  one_step l c s next addr stretch taken others is first shows state =
      let l' : Left = record l { elements = others } in
      let w : Waiting = at_zero informed addr c in let w' : Waiting = at_zero informed None (counts_passed 1 c) in
      let commits = passed_one informed addr c taken is.1.range in
      let waits = waits_one informed c is.1.range is.1.balanced in (
        goes_by_atom r t l l' w w' s next f taken (atom_at addr taken) others first refl refl refl is commits waits image (walked_in s.ctx stretch) shows,
        fewer_by_atom r t l l' w w' s next f taken (atom_at addr taken) others first refl refl refl is commits waits,
        holds_by_atom r t l l' w w' s next f taken (atom_at addr taken) others first refl refl refl is commits waits state,
      )

  pub goes_by_run : (l : Left) (c c' : Counts) (s s' : State) (addr : Option ℕ) (elements : List Elem) (stretch : Stretch) (run : List Stretch)
      → Inside l addr c s → WalksNext image s addr l.elements (stretch ∷ run) s' → elements ≡ drop (suc (length run)) l.elements
      → c' ≡ counts_passed (suc (length run)) c
      → Goes image (here l addr c s) (items_in s.ctx (stretch ∷ run)) (here (record l { elements = elements }) None c' s')
      × (left (here (record l { elements = elements }) None c' s') < left (here l addr c s))
      × Inside (record l { elements = elements }) None c' s'
  goes_by_run l c c' s s' addr elements stretch [] is (taken, others, next, first, shows, state, end) rest counts =
      let so : elements ≡ others = rest ∙ ap (drop 1) first in
      let step = one_step l c s next addr stretch taken others is first shows state in
      let items = sym (append-nil (items_of (walked_in s.ctx stretch))) in
      rw so (rw counts (rw end (
        subst (λ (i : List Item). Goes image (here l addr c s) i (here (record l { elements = others }) None (counts_passed 1 c) next))
            items step.0,
        step.1,
        step.2,
      )))
  goes_by_run l c c' s s' addr elements stretch (x ∷ run) is (taken, others, next, first, shows, state, more) rest counts =
      let l' : Left = record l { elements = others } in
      let step = one_step l c s next addr stretch taken others is first shows state in
      let so : elements ≡ drop (suc (length run)) others = rest ∙ ap (drop (suc (suc (length run)))) first in
      let behind = goes_by_run l' (counts_passed 1 c) c' next s' None elements x run step.2 more so (counts ∙ counts_on (suc (length run)) c) in
      let last : Decoding = here (record l { elements = elements }) None c' s' in
      let same : next.ctx ≡ s.ctx = shows.kept in
      let goes = subst (λ ctx. Goes image (here l' None (counts_passed 1 c) next) (items_in ctx (x ∷ run)) last) same behind.0 in (
        goes_on image (here l addr c s) (here l' None (counts_passed 1 c) next) last (items_of (walked_in s.ctx stretch)) (items_in s.ctx (x ∷ run))
            step.0 goes,
        omega (arith, step.1, behind.1),
        behind.2,
      )

-- ---- the same, of what waits

pub no_things : (things : List Thing) → length things ≤ 0 → things ≡ []
no_things [] few = refl
no_things (x ∷ things) few = absurd (omega (arith, few))

pub walks_within : (image : Image) (s s' : State) (addr : Option ℕ) (elements : List Elem) (run : List Stretch)
    → WalksNext image s addr elements run s' → length run ≤ length elements
walks_within image s s' addr elements [] walks = omega arith
walks_within image s s' addr elements (x ∷ run) (t, others, next, is, first, state, more) =
    omega (arith, ap length is, walks_within image next s' None others run more)

pub none_walked : (image : Image) (s s' : State) (addr : Option ℕ) (elements : List Elem) (run : List Stretch)
    → WalksNext image s addr elements run s' → elements ≡ [] → run ≡ []
none_walked image s s' addr elements [] walks none = refl
none_walked image s s' addr elements (x ∷ run) (t, others, next, is, first, state, more) none = absurd (
    let e : [] ≡ elem.P0 (Atom t) ∷ others = sym none ∙ is in cc)

abbrev pub Ran : Image → PacketReading → Told → Option (ℕ × Fault) → State → State → List Stretch → Left → Left → Waiting → Waiting → Type 0
Ran image r t f s s' run l l' w w' =
    Goes image (decoding_of r t l w s f) (items_in s.ctx run) (decoding_of r t l' w' s' f)
    × (left (decoding_of r t l' w' s' f) < left (decoding_of r t l w s f))
    × ((w'.depth ≡ (r.settings).depth) × IsDecoding (decoding_of r t l' w' s' f))

pub ran : (image : Image) (r : PacketReading) (t : Told) (f : Option (ℕ × Fault)) (s s' : State) (addr : Option ℕ) (run : List Stretch) (l l' : Left)
    (w w' : Waiting)
    → w.due ≡ [] → w.depth ≡ 0 → (w.pending).pre ≡ record nothing_told { addr = addr }
    → (w.depth ≡ (r.settings).depth) × IsDecoding (decoding_of r t l w s f) → 0 < length run → WalksNext image s addr l.elements run s'
    → l' ≡ record l { elements = drop (length run) l.elements } → w' ≡ passed (length run) w → Ran image r t f s s' run l l' w w'
ran image r t f s s' addr [] l l' w w' none zero given is some walks left_is waits_is = absurd (omega (arith, some))
ran image r t f s s' addr (stretch ∷ run) l l' w w' none zero given is some walks left_is waits_is =
    let few : length (w.pending).held ≤ 0 =
    let e = ap (λ (x : List Thing). length (x ++ (w.pending).held)) none in let d = is.1.few in omega (arith, e, d, zero, is.0) in
    let held : (w.pending).held ≡ [] = no_things (w.pending).held few in
    let same : w ≡ at_zero (w.pending).informed addr w.counts = λ k.
    record {
      pending = record { held = held k; pre = given k; informed = (w.pending).informed };
      due = none k;
      depth = zero k;
      counts = w.counts;
    } in
    let n = suc (length run) in
    let inside = subst (λ (v : Waiting). (v.depth ≡ (r.settings).depth) × IsDecoding (decoding_of r t l v s f)) same is in
    let all = goes_by_run image r t f (w.pending).informed l w.counts (counts_passed n w.counts) s s' addr (drop n l.elements) stretch run inside walks
    refl refl in
    let after : w' ≡ at_zero (w.pending).informed None (counts_passed n w.counts) = waits_is ∙ ap (passed n) same in
    let here = at_zero (w.pending).informed addr w.counts in
    subst (λ (v : Waiting). Ran image r t f s s' (stretch ∷ run) l l' v w') (sym same)
    (subst (λ (v : Waiting). Ran image r t f s s' (stretch ∷ run) l l' here v) (sym after)
    (subst (λ (x : Left). Ran image r t f s s' (stretch ∷ run) l x here (at_zero (w.pending).informed None (counts_passed n w.counts))) (sym left_is) all))
