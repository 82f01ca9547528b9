-- The oldest of what waits are walked, and then let go.
use Rattle.std.proofs.Common.{◌≡◌, ℕ, zero, suc, ◌-◌, ◌≤◌, ◌<◌, Bool, List, [], ◌∷◌, ◌++◌, All, length, take, drop, slice_get}
use Rattle.std.proofs.Common.{Ok, Option, Some, refl, sym, ap, subst, ◌∙◌, arith, append-nil, append_assoc, length-append}
use Rattle.std.proofs.lemmas.List.{length-drop}
use Rattle.std.proofs.lemmas.Option.{get_or_from_slice_get, slice_get_within}
use Rattle.element_queue.specs.Counting.{counts_after}
use Rattle.element_queue.specs.Pending.{Pending, Taken, committing}
use Rattle.etm_types.specs.Pre.{nothing_told}
use Rattle.etm_types.specs.Walked.{items_of}
use Rattle.etm_types.specs.declared.context.Ctx.{Ctx}
use Rattle.etm_types.specs.declared.element.Elem.{Elem}
use Rattle.etm_types.specs.declared.element.Elem.TheVariants as elem
use Rattle.etm_types.specs.declared.element.Entry.{Entry}
use Rattle.etm_types.specs.declared.element.P0.TheVariants.{Atom}
use Rattle.etm_types.specs.declared.element.Thing.{Thing}
use Rattle.etm_types.specs.declared.element.Thing.TheVariants.{Seen}
use Rattle.etm_types.specs.declared.item.Item.{Item}
use Rattle.packet_grammar.specs.declared.stream_fault.Fault.{Fault}
use Rattle.packet_reader.specs.Stands.{PacketReading}
use Rattle.path_elements.specs.Elements.{Told}
use Rattle.path_walker.specs.State.{State, IsState}
use Rattle.path_walker.specs.Things.{IsAlignedThing}
use Rattle.path_walker.specs.Walk.{Shows, ToldIsAligned, atom_at, items_in, walked_in}
use Rattle.path_walker.specs.declared.stretch.Stretch.{Stretch}
use Rattle.program_image.specs.declared.image.Image.{Image}
use Rattle.stream_decoder.proofs.Atoms.{fewer_by_atom, goes_by_atom, holds_by_atom}
use Rattle.stream_decoder.proofs.Dues.{fewer_by_due, goes_by_due, holds_by_due}
use Rattle.stream_decoder.proofs.Runs.{Ran}
use Rattle.stream_decoder.proofs.Stepping.{nothing_left}
use Rattle.stream_decoder.proofs.Yielding.{goes_nowhere, goes_on}
use Rattle.stream_decoder.specs.Decoding.{AtRest, Decoding, IsDecoding, decoding_of}
use Rattle.stream_decoder.specs.Left.{Left}
use Rattle.stream_decoder.specs.Waiting.{Commits, DropsDue, DropsOldest, IsWaiting, TakesAtoms, Waiting, all_of, committed_by}
use Rattle.stream_decoder.specs.Yields.{Goes, WalksNext, WalksOldest, WalksOn, left}

-- ---- one more

-- the address before an atom that waits is that of an instruction
pub told_aligned_at : (things : List Thing) (n : ℕ) (addr : Option ℕ) (taken : Bool) → All IsAlignedThing things
    → slice_get things n ≡ Some (Seen (atom_at addr taken)) → ToldIsAligned addr
told_aligned_at things n addr taken all there =
    let x : Thing = Seen (atom_at addr taken) in
    (subst IsAlignedThing (get_or_from_slice_get things n x x there) (all n x (slice_get_within things n x there))).0

-- more things behind them change nothing
pub walks_before : (image : Image) (s s' : State) (things behind : List Thing) (run : List Stretch)
    → WalksOldest image s things run s' → WalksOldest image s (things ++ behind) run s'
walks_before image s s' things behind [] walks = walks
walks_before image s s' things behind (x ∷ run) (a, t, others, after, is, first, state, rest) = (
  a,
  t,
  others ++ behind,
  after,
  ap (λ (l : List Thing). l ++ behind) is,
  first,
  state,
  walks_before image after s' others behind run rest,
)

-- no more are walked than there are
pub walked_within : (image : Image) (s s' : State) (things : List Thing) (run : List Stretch) → WalksOldest image s things run s'
    → length run ≤ length things
walked_within image s s' things [] walks = omega arith
walked_within image s s' things (x ∷ run) (a, t, others, after, is, first, state, rest) =
    omega (arith, ap length is, walked_within image after s' others run rest)

-- one atom more is taken
pub takes_more : (w mid next : Waiting) (elements left others : List Elem) (n : ℕ) (taken : Bool) → TakesAtoms w elements n mid left
    → left ≡ elem.P0 (Atom taken) ∷ others → Commits mid (elem.P0 (Atom taken)) next (committed_by mid (Atom taken)) → IsWaiting next
    → TakesAtoms w elements (suc n) next others
takes_more w mid next elements left others zero taken (same, all) first commits holds = (
  taken,
  others,
  next,
  sym all ∙ first,
  subst (λ (v : Waiting). Commits v (elem.P0 (Atom taken)) next (committed_by v (Atom taken))) same commits,
  holds,
  (refl, refl),
)
takes_more w mid next elements left others (suc n) taken (t, es, after, is, one, kept, rest) first commits holds =
    (t, es, after, is, one, kept, takes_more after mid next es left others n taken rest first commits holds)

-- one more that is due is given out
pub drops_more : (w mid next : Waiting) (n : ℕ) (thing : Thing) (others : List Thing) → DropsDue w n mid → DropsOldest mid thing others next
    → DropsDue w (suc n) next
drops_more w mid next zero thing others drops drop =
    (thing, others, next, subst (λ (v : Waiting). DropsOldest v thing others next) drops drop, refl)
drops_more w mid next (suc n) thing others (x, xs, after, first, rest) drop = (x, xs, after, first, drops_more after mid next n thing others rest drop)

-- ---- what waits, where an atom commits the oldest

abbrev next_of : Pending → Taken → Pending
next_of p (Ok t) = t.0
next_of p fault = p

abbrev committed_of : Taken → List Thing
committed_of (Ok t) = (t.1).committed
committed_of fault = []

none_behind : (xs ys : List Thing) → xs ≡ xs ++ ys → ys ≡ []
none_behind [] ys e = sym e
none_behind (x ∷ xs) ys e = none_behind xs ys (ap (drop 1) e)

-- what waits once an atom was taken: the oldest is committed, and the atom is the newest
pub record Rotates (w : Waiting) (taken : Bool) (w' : Waiting) : Type 0 where
  pub due : w'.due ≡ []
  pub held : (w'.pending).held ≡ drop 1 ((w.pending).held ++ Seen (record { pre = (w.pending).pre; p0 = Atom taken }) ∷ [])
  pub pre : (w'.pending).pre ≡ nothing_told
  pub depth : w'.depth ≡ w.depth
  pub gives : committed_by w (Atom taken) ≡ take 1 ((w.pending).held ++ Seen (record { pre = (w.pending).pre; p0 = Atom taken }) ∷ [])

pub rotates : (w w' : Waiting) (taken : Bool) → length (w.pending).held ≤ w.depth
    → w.depth ≤ length (w.pending).held → Commits w (elem.P0 (Atom taken)) w' (committed_by w (Atom taken)) → Rotates w taken w'
rotates w w' taken few full c =
    let newest : Thing = Seen (record { pre = (w.pending).pre; p0 = Atom taken }) in
    let all : List Thing = (w.pending).held ++ newest ∷ [] in
    let one : length all - w.depth ≡ 1 = omega (arith, length-append (w.pending).held (newest ∷ []), few, full) in
    let left : w'.pending ≡ record (w.pending) { held = drop (length all - w.depth) all; pre = nothing_told } = sym (ap (next_of (w.pending)) c.rule) in
    let gone : committed_by w (Atom taken) ≡ c.gone.committed = ap committed_of c.rule in
    record {
      due = none_behind (committed_by w (Atom taken)) w'.due (gone ∙ c.commits);
      held = ap (λ (p : Pending). p.held) left ∙ ap (λ (n : ℕ). drop n all) one;
      pre = ap (λ (p : Pending). p.pre) left;
      depth = c.depth;
      gives = ap (λ (n : ℕ). take n all) one;
    }

-- no more are held than the depth
pub few_held : (w : Waiting) → w.due ≡ [] → IsWaiting w → length (w.pending).held ≤ w.depth
few_held w none waits = let same = ap (λ (due : List Thing). length (due ++ (w.pending).held)) none in omega (arith, waits.few, same)

pub still_full : (w w' : Waiting) (taken : Bool) → w.depth ≤ length (w.pending).held → Rotates w taken w' → w'.depth ≤ length (w'.pending).held
still_full w w' taken full turned =
    let all : List Thing = (w.pending).held ++ Seen (record { pre = (w.pending).pre; p0 = Atom taken }) ∷ [] in
    omega (
      arith,
      full,
      turned.depth,
      ap length turned.held,
      length-drop 1 all,
      length-append (w.pending).held (Seen (record { pre = (w.pending).pre; p0 = Atom taken }) ∷ []),
    )

-- what holds once the first of some atoms was taken
pub record OneAfter (mid : Waiting) (remain : List Elem) (n : ℕ) : Type 0 where
  pub due : mid.due ≡ []
  pub full : mid.depth ≤ length (mid.pending).held
  pub held : n ≤ length (mid.pending).held
  pub atoms : (k : ℕ) → k < n → (taken : Bool) × (slice_get remain k ≡ Some (elem.P0 (Atom taken)))
  pub holds : IsWaiting mid

pub one_after : (w mid : Waiting) (elements remain : List Elem) (n : ℕ) → w.due ≡ [] → w.depth ≤ length (w.pending).held → IsWaiting w
    → n ≤ length (w.pending).held → ((k : ℕ) → k < n → (taken : Bool) × (slice_get elements k ≡ Some (elem.P0 (Atom taken))))
    → TakesAtoms w elements 1 mid remain → OneAfter mid remain (n - 1)
one_after w mid elements remain n none full waits held atoms (t, others, next, first, commits, kept, ends) =
    let turned = rotates w next t (few_held w none waits) full commits in
    let after : OneAfter next others (n - 1) = record {
      due = turned.due;
      full = still_full w next t full turned;
      held = omega (arith, held, still_full w next t full turned, turned.depth, few_held w none waits, full);
      atoms = λ k below.
          let there = atoms (suc k) (omega (arith, below)) in (there.0, sym (ap (λ (l : List Elem). slice_get l (suc k)) first) ∙ there.1);
      holds = kept;
    } in
    subst (λ (es : List Elem). OneAfter mid es (n - 1)) (sym ends.1) (subst (λ (v : Waiting). OneAfter v others (n - 1)) (sym ends.0) after)

-- the first is taken, and then others
pub takes_behind : (w mid w' : Waiting) (elements remain remain' : List Elem) (n : ℕ) → TakesAtoms w elements 1 mid remain
    → TakesAtoms mid remain n w' remain' → TakesAtoms w elements (suc n) w' remain'
takes_behind w mid w' elements remain remain' n (t, others, next, first, commits, kept, ends) more = (
  t,
  others,
  next,
  first,
  commits,
  kept,
  subst (λ (v : Waiting). TakesAtoms v others n w' remain') ends.0 (subst (λ (es : List Elem). TakesAtoms mid es n w' remain') ends.1 more),
)

same_first : (x y : Thing) (xs ys : List Thing) → x ∷ xs ≡ y ∷ ys → x ≡ y
same_first x y xs ys e = cc

-- ---- what was walked, and is let go

module _ (image : Image) (r : PacketReading) (t : Told) (f : Option (ℕ × Fault)) where
  -- one is, and then others
  ran_on : (s m s' : State) (stretch : Stretch) (run : List Stretch) (l l1 l' : Left) (w w1 w' : Waiting)
      → Ran image r t f s m (stretch ∷ []) l l1 w w1 → m.ctx ≡ s.ctx → Ran image r t f m s' run l1 l' w1 w'
      → Ran image r t f s s' (stretch ∷ run) l l' w w'
  ran_on s m s' stretch run l l1 l' w w1 w' one same more =
      let first = decoding_of r t l w s f in let mid = decoding_of r t l1 w1 m f in let last = decoding_of r t l' w' s' f in
      let items = items_of (walked_in s.ctx stretch) in
      let alone = subst (λ (i : List Item). Goes image first i mid) (append-nil items) one.0 in
      let rest = subst (λ (ctx : Ctx). Goes image mid (items_in ctx run) last) same more.0 in
      (goes_on image first mid last items (items_in s.ctx run) alone rest, omega (arith, one.1, more.1), more.2)

  abbrev pub Inside : Left → Waiting → State → Type 0
  Inside l w s = (w.depth ≡ (r.settings).depth) × IsDecoding (decoding_of r t l w s f)

  one_taken : (s next : State) (stretch : Stretch) (addr : Option ℕ) (told taken : Bool) (others : List Thing) (es : List Elem) (l : Left) (w w1 : Waiting)
      → w.due ≡ [] → w.depth ≤ length (w.pending).held → IsWaiting w → Inside l w s → all_of w ≡ Seen (atom_at addr told) ∷ others
      → l.elements ≡ elem.P0 (Atom taken) ∷ es → Commits w (elem.P0 (Atom taken)) w1 (committed_by w (Atom taken)) → IsWaiting w1
      → Shows image s (atom_at addr told) (walked_in s.ctx stretch) next → IsState next
      → Ran image r t f s next (stretch ∷ []) l (record l { elements = es }) w w1 × Rotates w taken w1
      × (all_of w1 ≡ others ++ Seen (record { pre = (w.pending).pre; p0 = Atom taken }) ∷ [])
  one_taken s next stretch addr told taken others es l w w1 none full waits is all first commits waits1 shows state =
      let entry : Entry = atom_at addr told in let walked = walked_in s.ctx stretch in
      let newest : Thing = Seen (record { pre = (w.pending).pre; p0 = Atom taken }) in
      let turned = rotates w w1 taken (few_held w none waits) full commits in
      let held : (w.pending).held ≡ Seen entry ∷ others = sym (ap (λ (due : List Thing). due ++ (w.pending).held) none) ∙ all in
      let gives : committed_by w (Atom taken) ≡ Seen entry ∷ [] = turned.gives ∙ ap (λ (h : List Thing). take 1 (h ++ newest ∷ [])) held in
      let l1 : Left = record l { elements = es } in
      let goes = goes_by_atom r t l l1 w w1 s next f taken entry es first refl none gives is commits waits1 image walked shows in
      let left : all_of w1 ≡ others ++ newest ∷ [] =
      ap (λ (due : List Thing). due ++ (w1.pending).held) turned.due ∙ turned.held ∙ ap (λ (h : List Thing). drop 1 (h ++ newest ∷ [])) held in (
        (
          subst (λ (i : List Item). Goes image (decoding_of r t l w s f) i (decoding_of r t l1 w1 next f)) (sym (append-nil (items_of walked))) goes,
          fewer_by_atom r t l l1 w w1 s next f taken entry es first refl none gives is commits waits1,
          holds_by_atom r t l l1 w w1 s next f taken entry es first refl none gives is commits waits1 state,
        ),
        turned,
        left,
      )

  ran_taken : (s s' : State) (stretch : Stretch) (run : List Stretch) (l l' : Left) (w w' : Waiting)
      → w.due ≡ [] → w.depth ≤ length (w.pending).held → IsWaiting w → Inside l w s → WalksOldest image s (all_of w) (stretch ∷ run) s'
      → TakesAtoms w l.elements (suc (length run)) w' l'.elements → l'.at ≡ l.at → Ran image r t f s s' (stretch ∷ run) l l' w w'
  ran_taken s s' stretch [] l l' w w' none full waits is (addr, told, others, next, all, shows, state, end) (taken, es, w1, first, commits, holds, ends) at =
      let one = one_taken s next stretch addr told taken others es l w w1 none full waits is all first commits holds shows state in
      let left_is : l' ≡ record l { elements = es } = λ k. record { at = at k; elements = ends.1 k } in
      subst (λ (x : Left). Ran image r t f s s' (stretch ∷ []) l x w w') (sym left_is)
      (subst (λ (v : Waiting). Ran image r t f s s' (stretch ∷ []) l (record l { elements = es }) w v) (sym ends.0)
      (subst (λ (z : State). Ran image r t f s z (stretch ∷ []) l (record l { elements = es }) w w1) (sym end) one.0))
  ran_taken s s' stretch (x ∷ run) l l' w w' none full waits is (addr, told, others, next, all, shows, state, walks) (taken, es, w1, first, commits, holds, takes) at =
      let newest : Thing = Seen (record { pre = (w.pending).pre; p0 = Atom taken }) in
      let one = one_taken s next stretch addr told taken others es l w w1 none full waits is all first commits holds shows state in
      let l1 : Left = record l { elements = es } in
      let walks' : WalksOldest image next (all_of w1) (x ∷ run) s' =
      subst (λ (things : List Thing). WalksOldest image next things (x ∷ run) s') (sym one.2)
      (walks_before image next s' others (newest ∷ []) (x ∷ run) walks) in
      let more = ran_taken next s' x run l1 l' w1 w' (one.1).due (still_full w w1 taken full one.1) holds (one.0).2 walks' takes at in
      ran_on s next s' stretch (x ∷ run) l l1 l' w w1 w' one.0 shows.kept more

  one_dropped : (s next : State) (stretch : Stretch) (addr : Option ℕ) (told : Bool) (others dues : List Thing) (thing : Thing) (l : Left) (w w1 : Waiting)
      → Inside l w s → all_of w ≡ Seen (atom_at addr told) ∷ others → DropsOldest w thing dues w1
      → Shows image s (atom_at addr told) (walked_in s.ctx stretch) next → IsState next
      → Ran image r t f s next (stretch ∷ []) l l w w1 × (all_of w1 ≡ others)
  one_dropped s next stretch addr told others dues thing l w w1 is all (first, given, waits1) shows state =
      let entry : Entry = atom_at addr told in let walked = walked_in s.ctx stretch in
      let both : thing ∷ (dues ++ (w.pending).held) ≡ Seen entry ∷ others = sym (ap (λ (due : List Thing). due ++ (w.pending).held) first) ∙ all in
      let same = same_first thing (Seen entry) (dues ++ (w.pending).held) others both in
      let first' : w.due ≡ Seen entry ∷ dues = first ∙ ap (λ (x : Thing). x ∷ dues) same in
      let given' = given ∙ ap (λ (x : Thing). record w { due = dues; counts = counts_after w.counts 0 (committing (x ∷ [])) }) same in
      let goes = goes_by_due r t l w w1 s next f entry dues first' given' is waits1 image walked shows in (
        (
          subst (λ (i : List Item). Goes image (decoding_of r t l w s f) i (decoding_of r t l w1 next f)) (sym (append-nil (items_of walked))) goes,
          fewer_by_due r t l w w1 s next f entry dues first' given' is waits1,
          holds_by_due r t l w w1 s next f entry dues first' given' is waits1 state,
        ),
        ap all_of given ∙ ap (drop 1) both,
      )

  ran_due : (s s' : State) (stretch : Stretch) (run : List Stretch) (l : Left) (w w' : Waiting)
      → Inside l w s → WalksOldest image s (all_of w) (stretch ∷ run) s' → DropsDue w (suc (length run)) w' → Ran image r t f s s' (stretch ∷ run) l l w w'
  ran_due s s' stretch [] l w w' is (addr, told, others, next, all, shows, state, end) (thing, dues, w1, drop, same) =
      let one = one_dropped s next stretch addr told others dues thing l w w1 is all drop shows state in
      subst (λ (v : Waiting). Ran image r t f s s' (stretch ∷ []) l l w v) (sym same)
      (subst (λ (z : State). Ran image r t f s z (stretch ∷ []) l l w w1) (sym end) one.0)
  ran_due s s' stretch (x ∷ run) l w w' is (addr, told, others, next, all, shows, state, walks) (thing, dues, w1, drop, drops) =
      let one = one_dropped s next stretch addr told others dues thing l w w1 is all drop shows state in
      let walks' : WalksOldest image next (all_of w1) (x ∷ run) s' =
      subst (λ (things : List Thing). WalksOldest image next things (x ∷ run) s') (sym one.1) walks in
      let more = ran_due next s' x run l w1 w' (one.0).2 walks' drops in
      ran_on s next s' stretch (x ∷ run) l l l w w1 w' one.0 shows.kept more

  -- of a run that is not empty
  pub ran_by_taking : (s s' : State) (run : List Stretch) (n : ℕ) (l l' : Left) (w w' : Waiting) → length run ≡ n → (n ≡ 0 → ⊥)
      → w.due ≡ [] → w.depth ≤ length (w.pending).held → IsWaiting w → Inside l w s → WalksOldest image s (all_of w) run s'
      → TakesAtoms w l.elements n w' l'.elements → l'.at ≡ l.at → Ran image r t f s s' run l l' w w'
  ran_by_taking s s' [] n l l' w w' count some none full waits is walks takes at = absurd (some (sym count))
  ran_by_taking s s' (stretch ∷ run) n l l' w w' count some none full waits is walks takes at =
      ran_taken s s' stretch run l l' w w' none full waits is walks
      (subst (λ (k : ℕ). TakesAtoms w l.elements k w' l'.elements) (sym count) takes) at

  pub ran_by_dropping : (s s' : State) (run : List Stretch) (n : ℕ) (l : Left) (w w' : Waiting) → length run ≡ n → (n ≡ 0 → ⊥)
      → Inside l w s → WalksOldest image s (all_of w) run s' → DropsDue w n w' → Ran image r t f s s' run l l w w'
  ran_by_dropping s s' [] n l w w' count some is walks drops = absurd (some (sym count))
  ran_by_dropping s s' (stretch ∷ run) n l w w' count some is walks drops =
      ran_due s s' stretch run l w w' is walks (subst (λ (k : ℕ). DropsDue w k w') (sym count) drops)

-- what a decoding keeps of what waits
pub waits_in : (r : PacketReading) (t : Told) (l : Left) (w : Waiting) (s : State) (f : Option (ℕ × Fault)) → w.depth ≡ (r.settings).depth
    → IsDecoding (decoding_of r t l w s f) → IsWaiting w
waits_in r t l w s f depth is = record { few = omega (arith, is.few, depth); balanced = is.balanced; range = is.range }

-- where none was walked the walk stays where it was
pub none_more : (image : Image) (s s' : State) (things : List Thing) (added : List Stretch) (n : ℕ) → length added ≡ n → n ≡ 0
    → WalksOldest image s things added s' → (s' ≡ s) × (added ≡ [])
none_more image s s' things [] n count none walks = (walks, refl)
none_more image s s' things (x ∷ added) n count none walks = absurd (omega (arith, count, none))

pub none_passed : (image : Image) (s s' : State) (addr : Option ℕ) (elements : List Elem) (added : List Stretch) → length added ≤ 0
    → WalksNext image s addr elements added s' → (s' ≡ s) × (added ≡ [])
none_passed image s s' addr elements [] few walks = (walks, refl)
none_passed image s s' addr elements (x ∷ added) few walks = absurd (omega (arith, few))

-- where some were walked there are stretches
pub some_more : (added : List Stretch) (n : ℕ) → length added ≡ n → (n ≡ 0 → ⊥) → added ≡ [] → ⊥
some_more added n count some none = some (omega (arith, count, ap length none))

pub both_none : (xs ys : List Stretch) → xs ++ ys ≡ [] → (xs ≡ []) × (ys ≡ [])
both_none [] ys none = (refl, none)
both_none (x ∷ xs) ys none = absurd cc

pub items_joined : (ctx : Ctx) (run added : List Stretch) → items_in ctx run ++ items_in ctx added ≡ items_in ctx (run ++ added)
items_joined ctx [] added = refl
items_joined ctx (x ∷ run) added =
    append_assoc (items_of (walked_in ctx x)) (items_in ctx run) (items_in ctx added)
    ∙ ap (λ (items : List Item). items_of (walked_in ctx x) ++ items) (items_joined ctx run added)

-- nothing is done
pub walks_nowhere : {V : Type 0} (Takes : V → List Stretch → V → Type 0) (image : Image) (d : Decoding) (v : V) → Takes v [] v → WalksOn Takes image d v d v
walks_nowhere Takes image d v none = record {
  added = [];
  takes = none;
  goes = goes_nowhere image d;
  none = λ same. refl;
  stopped = λ done. refl;
  context = refl;
  at_most = omega arith;
}

-- none was walked, and nothing changed
pub walks_still : {V : Type 0} (Takes : V → List Stretch → V → Type 0) (image : Image) (d d' : Decoding) (old new : V) (added : List Stretch)
    → d' ≡ d → added ≡ [] → Takes old added new → WalksOn Takes image d old d' new
walks_still Takes image d d' old new added same none takes = record {
  added = added;
  takes = takes;
  goes = subst (λ (run : List Stretch). Goes image d (items_in (d.walk).ctx run) d') (sym none)
      (subst (λ (x : Decoding). Goes image d [] x) (sym same) (goes_nowhere image d));
  none = λ empty. same;
  stopped = λ done. none;
  context = ap (λ (x : Decoding). (x.walk).ctx) same;
  at_most = omega (arith, ap left same);
}

-- some were walked, and less is left to do
pub walks_some : {V : Type 0} (Takes : V → List Stretch → V → Type 0) (image : Image) (d d' : Decoding) (old new : V) (added : List Stretch)
    → Goes image d (items_in (d.walk).ctx added) d' → (added ≡ [] → ⊥) → left d' < left d → (d'.walk).ctx ≡ (d.walk).ctx → Takes old added new
    → WalksOn Takes image d old d' new
walks_some Takes image d d' old new added goes some fewer context takes = record {
  added = added;
  takes = takes;
  goes = goes;
  none = λ empty. absurd (some empty);
  stopped = λ done. absurd (nothing_left d done (omega (arith, fewer)));
  context = context;
  at_most = omega (arith, fewer);
}

module _ {V : Type 0} (Takes : Ctx → V → List Stretch → V → Type 0)
    (joins : (ctx : Ctx) (a b c : V) (xs ys : List Stretch) → Takes ctx a xs b → Takes ctx b ys c → Takes ctx a (xs ++ ys) c) where
  -- some more is done
  pub walks_on : (image : Image) (d mid last : Decoding) (old between new : V)
      → WalksOn (Takes (d.walk).ctx) image d old mid between → WalksOn (Takes (mid.walk).ctx) image mid between last new
      → WalksOn (Takes (d.walk).ctx) image d old last new
  walks_on image d mid last old between new first rest =
      let ctx = (d.walk).ctx in
      let more = subst (λ (x : Ctx). Goes image mid (items_in x rest.added) last) first.context rest.goes in
      record {
        added = first.added ++ rest.added;
        takes = joins (d.walk).ctx old between new first.added rest.added first.takes
            (subst (λ (x : Ctx). Takes x between rest.added new) first.context rest.takes);
        goes = subst (λ (items : List Item). Goes image d items last) (items_joined ctx first.added rest.added)
            (goes_on image d mid last (items_in ctx first.added) (items_in ctx rest.added) first.goes more);
        none = λ empty. let both = both_none first.added rest.added empty in rest.none both.1 ∙ first.none both.0;
        stopped = λ done.
            let none = first.stopped done in
            ap (λ (run : List Stretch). run ++ rest.added) none ∙ rest.stopped (subst AtRest (sym (first.none none)) done);
        context = rest.context ∙ first.context;
        at_most = omega (arith, first.at_most, rest.at_most);
      }
