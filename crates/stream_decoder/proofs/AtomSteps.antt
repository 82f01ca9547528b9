-- Some atoms at the front are taken together: that is the same as one after the other.
use Rattle.std.proofs.Common.{◌≡◌, ℕ, zero, suc, ◌+◌, ◌≤◌, ◌<◌, Bool, List, [], ◌∷◌, ◌++◌, length, take, drop, Option, Some, None}
use Rattle.std.proofs.Common.{refl, sym, ap, subst, ◌∙◌, arith, inl, append_assoc, length-drop}
use Rattle.std.proofs.Math.Seq.{take-add}
use Rattle.std.proofs.lemmas.List.{length-map}
use Rattle.element_queue.specs.Counting.{AreCounts, Balances}
use Rattle.element_queue.specs.declared.ledger.Counts.{Counts}
use Rattle.etm_types.specs.Pre.{nothing_told}
use Rattle.etm_types.specs.Walked.{items_of}
use Rattle.etm_types.specs.declared.element.Elem.{Elem}
use Rattle.etm_types.specs.declared.element.Elem.TheVariants as elem
use Rattle.etm_types.specs.declared.element.P0.TheVariants.{Atom}
use Rattle.etm_types.specs.declared.element.Thing.{Thing}
use Rattle.etm_types.specs.declared.element.Thing.TheVariants.{Seen}
use Rattle.path_elements.specs.Elements.{atoms}
use Rattle.path_walker.specs.State.{State, IsState}
use Rattle.path_walker.specs.Walk.{Shows, WalksAtoms, WalksRun, atom_at, walked_in}
use Rattle.path_walker.specs.declared.stretch.Stretch.{Stretch}
use Rattle.program_image.specs.declared.image.Image.{Image}
use Rattle.stream_decoder.proofs.LettingGo.{few_held, rotates, still_full, walks_before}
use Rattle.stream_decoder.proofs.Runs.{at_zero, counts_on, no_things, passed_one, waits_one}
use Rattle.stream_decoder.specs.AtomPackets.{StepsByAtom, StepsByAtoms, TakesSome}
use Rattle.stream_decoder.specs.Waiting.{Commits, HoldsAtoms, IsWaiting, TakesAtoms, Waiting, all_of, committed_by, counts_passed, passed}
use Rattle.stream_decoder.specs.Yields.{WalksOldest, WalksSome}

-- ---- the atoms at a front

-- atoms that are next are these atoms
same_atom : (t u : Bool) (es fs : List Elem) → elem.P0 (Atom t) ∷ es ≡ elem.P0 (Atom u) ∷ fs → (t ≡ u) × (es ≡ fs)
same_atom t u es fs e = (cc, ap (drop 1) e)

-- the elements of a run at the front are of atoms at the front
pub front_of : (told run : List Bool) (others : List Elem) → atoms told ≡ atoms run ++ others → (rest : List Bool) × (told ≡ run ++ rest)
front_of told [] others e = (told, refl)
front_of [] (taken ∷ run) others e = absurd cc
front_of (t ∷ told) (taken ∷ run) others e =
    let same = same_atom t taken (atoms told) (atoms run ++ others) e in let rest = front_of told run others same.1 in
    (rest.0, ap (λ (b : Bool). b ∷ told) same.0 ∙ ap (λ (l : List Bool). taken ∷ l) rest.1)

long : (told : List Bool) → length (atoms told) ≡ length told
long told = length-map told _

takes_within : (w w' : Waiting) (elements left : List Elem) (n : ℕ) → TakesAtoms w elements n w' left → n ≤ length elements
takes_within w w' elements left zero takes = omega arith
takes_within w w' elements left (suc n) (taken, others, next, first, commits, holds, rest) =
    omega (arith, ap length first, takes_within next w' others left n rest)

holds_within : (w w' : Waiting) (elements left : List Elem) (n : ℕ) → HoldsAtoms w elements n w' left → n ≤ length elements
holds_within w w' elements left zero holds = omega arith
holds_within w w' elements left (suc n) (taken, others, next, first, commits, waits, due, rest) =
    omega (arith, ap length first, holds_within next w' others left n rest)

module _ (image : Image) where
  -- more atoms behind them change nothing
  walks_in : (s s' : State) (addr : Option ℕ) (run rest : List Bool) (added : List Stretch)
      → WalksAtoms image s addr run added s' → WalksAtoms image s addr (run ++ rest) added s'
  walks_in s s' addr run rest [] walks = walks
  walks_in s s' addr [] rest (stretch ∷ added) walks = absurd walks
  walks_in s s' addr (taken ∷ run) rest (stretch ∷ added) (next, shows, state, walks) =
      (next, shows, state, walks_in next s' None run rest added walks)

  walks_few : (s s' : State) (addr : Option ℕ) (told : List Bool) (added : List Stretch) → WalksAtoms image s addr told added s' → length added ≤ length told
  walks_few s s' addr told [] walks = omega arith
  walks_few s s' addr [] (stretch ∷ added) walks = absurd walks
  walks_few s s' addr (taken ∷ told) (stretch ∷ added) (next, shows, state, walks) = omega (arith, walks_few next s' None told added walks)

  -- ---- one atom

  -- what it commits is walked
  step_walked : (w w' : Waiting) (s s' : State) (taken told : Bool) (addr : Option ℕ) (stretch : Stretch)
      → Commits w (elem.P0 (Atom taken)) w' (Seen (atom_at addr told) ∷ []) → IsWaiting w' → w'.due ≡ []
      → Shows image s (atom_at addr told) (walked_in s.ctx stretch) s' → IsState s' → StepsByAtom image w s taken (stretch ∷ []) w' s'
  step_walked w w' s s' taken told addr stretch commits waits due shows state =
      let walked = walked_in s.ctx stretch in
      record {
        thing = Some (Seen (atom_at addr told));
        commits = commits;
        walks = inl (items_of walked, [], s', (walked, shows, refl), (refl, refl), refl);
        holds = waits;
        due = due;
        state = state;
        context = shows.kept;
      }

  -- it commits nothing
  step_held : (w w' : Waiting) (s : State) (taken : Bool) → Commits w (elem.P0 (Atom taken)) w' [] → IsWaiting w' → w'.due ≡ [] → IsState s
      → StepsByAtom image w s taken [] w' s
  step_held w w' s taken commits waits due state =
      record { thing = None; commits = commits; walks = (refl, refl); holds = waits; due = due; state = state; context = refl }

  -- ---- each is committed as it is made

  steps_passed : (informed : Bool) (addr : Option ℕ) (c : Counts) (s s' : State) (told : List Bool) (stretch : Stretch) (added : List Stretch)
      → AreCounts c → Balances c 0 → WalksAtoms image s addr told (stretch ∷ added) s'
      → StepsByAtoms image (at_zero informed addr c) s (take (suc (length added)) told) (stretch ∷ added)
      (at_zero informed None (counts_passed (suc (length added)) c)) s'
  steps_passed informed addr c s s' [] stretch added range balanced walks = absurd walks
  steps_passed informed addr c s s' (taken ∷ told) stretch [] range balanced (next, shows, state, end) =
      let w1 = at_zero informed None (counts_passed 1 c) in
      let step = step_walked (at_zero informed addr c) w1 s next taken taken addr stretch (passed_one informed addr c taken range)
      (waits_one informed c range balanced) refl shows state in
      (w1, next, stretch ∷ [], [], step, (refl, end, refl), refl)
  steps_passed informed addr c s s' (taken ∷ told) stretch (x ∷ added) range balanced (next, shows, state, walks) =
      let w1 = at_zero informed None (counts_passed 1 c) in let waits = waits_one informed c range balanced in
      let step = step_walked (at_zero informed addr c) w1 s next taken taken addr stretch (passed_one informed addr c taken range) waits refl shows state in
      let more = steps_passed informed None (counts_passed 1 c) next s' told x added waits.range waits.balanced walks in
      let rest = subst (λ (k : Counts). StepsByAtoms image w1 next (take (suc (length added)) told) (x ∷ added) (at_zero informed None k) s')
      (sym (counts_on (suc (length added)) c)) more in
      (w1, next, stretch ∷ [], x ∷ added, step, rest, refl)

  at_depth_zero : (w : Waiting) (addr : Option ℕ) → w.due ≡ [] → w.depth ≡ 0 → (w.pending).pre ≡ record nothing_told { addr = addr } → IsWaiting w
      → w ≡ at_zero (w.pending).informed addr w.counts
  at_depth_zero w addr none depth given waits =
      let few = few_held w none waits in
      let held : (w.pending).held ≡ [] = no_things (w.pending).held (omega (arith, few, depth)) in
      λ k. record {
        pending = record { held = held k; pre = given k; informed = (w.pending).informed };
        due = none k;
        depth = depth k;
        counts = w.counts;
      }

  steps_at_zero : (w w' : Waiting) (s s' : State) (addr : Option ℕ) (told : List Bool) (added : List Stretch) → w.due ≡ [] → w.depth ≡ 0
      → (w.pending).pre ≡ record nothing_told { addr = addr } → IsWaiting w → WalksAtoms image s addr told added s' → 0 < length added
      → w' ≡ passed (length added) w → StepsByAtoms image w s (take (length added) told) added w' s'
  steps_at_zero w w' s s' addr told [] none depth given waits walks some after = absurd (omega (arith, some))
  steps_at_zero w w' s s' addr told (stretch ∷ added) none depth given waits walks some after =
      let same = at_depth_zero w addr none depth given waits in let here = at_zero (w.pending).informed addr w.counts in
      let n = suc (length added) in let last = at_zero (w.pending).informed None (counts_passed n w.counts) in
      let balanced : Balances w.counts 0 = (subst IsWaiting same waits).balanced in
      let all = steps_passed (w.pending).informed addr w.counts s s' told stretch added waits.range balanced walks in
      let there : w' ≡ last = after ∙ ap (passed n) same in
      subst (λ (v : Waiting). StepsByAtoms image v s (take n told) (stretch ∷ added) w' s') (sym same)
      (subst (λ (v : Waiting). StepsByAtoms image here s (take n told) (stretch ∷ added) v s') (sym there) all)

  -- ---- each commits the oldest

  steps_turned : (s s' : State) (told : List Bool) (added : List Stretch) (w w' : Waiting) (left : List Elem)
      → w.due ≡ [] → w.depth ≤ length (w.pending).held → IsWaiting w → WalksOldest image s (all_of w) added s'
      → TakesAtoms w (atoms told) (length added) w' left → StepsByAtoms image w s (take (length added) told) added w' s'
  steps_turned s s' told [] w w' left none full waits walks takes = (takes.0, walks, refl)
  steps_turned s s' [] (stretch ∷ added) w w' left none full waits walks (taken, others, w1, first, commits, holds, takes) = absurd cc
  steps_turned s s' (t ∷ told) (stretch ∷ added) w w' left none full waits (addr, old, things, next, all, shows, state, walks)
      (taken, others, w1, first, commits, holds, takes) =
      let newest : Thing = Seen (record { pre = (w.pending).pre; p0 = Atom taken }) in
      let turned = rotates w w1 taken (few_held w none waits) full commits in
      let held : (w.pending).held ≡ Seen (atom_at addr old) ∷ things = sym (ap (λ (due : List Thing). due ++ (w.pending).held) none) ∙ all in
      let gives : committed_by w (Atom taken) ≡ Seen (atom_at addr old) ∷ [] =
      turned.gives ∙ ap (λ (h : List Thing). take 1 (h ++ newest ∷ [])) held in
      let left_is : all_of w1 ≡ things ++ newest ∷ [] =
      ap (λ (due : List Thing). due ++ (w1.pending).held) turned.due ∙ turned.held ∙ ap (λ (h : List Thing). drop 1 (h ++ newest ∷ [])) held in
      let walks' : WalksOldest image next (all_of w1) added s' =
      subst (λ (l : List Thing). WalksOldest image next l added s') (sym left_is) (walks_before image next s' things (newest ∷ []) added walks) in
      let same = same_atom t taken (atoms told) others first in
      let takes' : TakesAtoms w1 (atoms told) (length added) w' left =
      subst (λ (es : List Elem). TakesAtoms w1 es (length added) w' left) (sym same.1) takes in
      let step = step_walked w w1 s next taken old addr stretch
      (subst (λ (l : List Thing). Commits w (elem.P0 (Atom taken)) w1 l) gives commits) holds turned.due shows state in (
        w1,
        next,
        stretch ∷ [],
        added,
        subst (λ (b : Bool). StepsByAtom image w s b (stretch ∷ []) w1 next) (sym same.0) step,
        steps_turned next s' told added w1 w' left turned.due (still_full w w1 taken full turned) holds walks' takes',
        refl,
      )

  -- ---- there is room for each

  steps_held : (s : State) (told : List Bool) (n : ℕ) (w w' : Waiting) (left : List Elem) → IsState s → HoldsAtoms w (atoms told) n w' left
      → StepsByAtoms image w s (take n told) [] w' s
  steps_held s told zero w w' left state holds = (holds.0, refl, refl)
  steps_held s [] (suc n) w w' left state (taken, others, w1, first, commits, waits, due, holds) = absurd cc
  steps_held s (t ∷ told) (suc n) w w' left state (taken, others, w1, first, commits, waits, due, holds) =
      let same = same_atom t taken (atoms told) others first in
      let holds' : HoldsAtoms w1 (atoms told) n w' left = subst (λ (es : List Elem). HoldsAtoms w1 es n w' left) (sym same.1) holds in (
        w1,
        s,
        [],
        [],
        subst (λ (b : Bool). StepsByAtom image w s b [] w1 s) (sym same.0) (step_held w w1 s taken commits waits due state),
        steps_held s told n w1 w' left state holds',
        refl,
      )

  -- ---- one run of them behind the other

  steps_joined : (w mid w' : Waiting) (s m s' : State) (xs ys : List Bool) (a b : List Stretch) → StepsByAtoms image w s xs a mid m
      → StepsByAtoms image mid m ys b w' s' → StepsByAtoms image w s (xs ++ ys) (a ++ b) w' s'
  steps_joined w mid w' s m s' [] ys a b (same, same_state, none) rest =
      subst (λ (l : List Stretch). StepsByAtoms image w s ys (l ++ b) w' s') (sym none)
      (subst (λ (v : Waiting). StepsByAtoms image v s ys b w' s') same (subst (λ (x : State). StepsByAtoms image mid x ys b w' s') same_state rest))
  steps_joined w mid w' s m s' (taken ∷ xs) ys a b (next, after, first, more, step, steps, is) rest = (
    next,
    after,
    first,
    more ++ b,
    step,
    steps_joined next mid w' after m s' xs ys more b steps rest,
    ap (λ (l : List Stretch). l ++ b) is ∙ append_assoc first more b,
  )

-- ---- some of them are taken

module _ {V : Type 0} (Takes : V → List Stretch → V → Type 0) (image : Image) where
  -- each is committed as it is made
  pub takes_passed : (w w' : Waiting) (s s' : State) (addr : Option ℕ) (run told : List Bool) (others : List Elem) (n : ℕ) (old new : V)
      → w.due ≡ [] → w.depth ≡ 0 → (w.pending).pre ≡ record nothing_told { addr = addr } → IsWaiting w → atoms told ≡ atoms run ++ others
      → WalksRun Takes image s addr run old n s' new → 0 < n → w' ≡ passed n w → TakesSome Takes image w s told old n w' s' new
  takes_passed w w' s s' addr run told others n old new none depth given waits front walks some after =
      let rest = front_of told run others front in
      let all : WalksAtoms image s addr told walks.added s' =
      subst (λ (l : List Bool). WalksAtoms image s addr l walks.added s') (sym rest.1) (walks_in image s s' addr run rest.0 walks.added walks.walks) in
      record {
        added = walks.added;
        takes = walks.takes;
        within = omega (arith, walks.count, walks_few image s s' addr told walks.added all);
        steps = subst (λ (m : ℕ). StepsByAtoms image w s (take m told) walks.added w' s') walks.count
            (steps_at_zero image w w' s s' addr told walks.added none depth given waits all (omega (arith, walks.count, some))
            (after ∙ ap (λ (m : ℕ). passed m w) (sym walks.count)));
      }

  -- each commits the oldest
  pub takes_turned : (w w' : Waiting) (s s' : State) (told : List Bool) (left : List Elem) (most n : ℕ) (old new : V) → w.due ≡ []
      → w.depth ≤ length (w.pending).held → IsWaiting w → WalksSome Takes image s (all_of w) most old n s' new → TakesAtoms w (atoms told) n w' left
      → TakesSome Takes image w s told old n w' s' new
  takes_turned w w' s s' told left most n old new none full waits walks takes = record {
    added = walks.added;
    takes = walks.takes;
    within = omega (arith, long told, takes_within w w' (atoms told) left n takes);
    steps = subst (λ (m : ℕ). StepsByAtoms image w s (take m told) walks.added w' s') walks.count
        (steps_turned image s s' told walks.added w w' left none full waits walks.walks
        (subst (λ (m : ℕ). TakesAtoms w (atoms told) m w' left) (sym walks.count) takes));
  }

  -- nothing is committed
  pub takes_held : (w w' : Waiting) (s : State) (told : List Bool) (n : ℕ) (v : V) → Takes v [] v
      → (n ≤ length told) × StepsByAtoms image w s (take n told) [] w' s → TakesSome Takes image w s told v n w' s v
  takes_held w w' s told n v none steps = record { added = []; takes = none; within = steps.0; steps = steps.1 }

  -- some, and others behind them
  pub takes_joined : ((a b c : V) (xs ys : List Stretch) → Takes a xs b → Takes b ys c → Takes a (xs ++ ys) c) → (w mid w' : Waiting) (s m s' : State)
      (told : List Bool) (n k : ℕ) (old v new : V) → TakesSome Takes image w s told old n mid m v
      → TakesSome Takes image mid m (drop n told) v k w' s' new → TakesSome Takes image w s told old (n + k) w' s' new
  takes_joined joins w mid w' s m s' told n k old v new first rest = record {
    added = first.added ++ rest.added;
    takes = joins old v new first.added rest.added first.takes rest.takes;
    within = omega (arith, first.within, rest.within, length-drop n told);
    steps = subst (λ (l : List Bool). StepsByAtoms image w s l (first.added ++ rest.added) w' s') (sym (take-add n k told))
        (steps_joined image w mid w' s m s' (take n told) (take k (drop n told)) first.added rest.added first.steps rest.steps);
  }

-- where there is room for each, nothing is shown
pub holds_some : (image : Image) (w w' : Waiting) (s : State) (told : List Bool) (n : ℕ) (left : List Elem) → IsState s
    → HoldsAtoms w (atoms told) n w' left → (n ≤ length told) × StepsByAtoms image w s (take n told) [] w' s
holds_some image w w' s told n left state holds =
    (omega (arith, long told, holds_within w w' (atoms told) left n holds), steps_held image s told n w w' left state holds)
