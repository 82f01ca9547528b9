-- Elements one after the other: what each commits is walked as it comes.
use Rattle.std.proofs.Common.{◌≡◌, ◌⊎◌, ℕ, List, [], ◌∷◌, ◌++◌, Result, Ok, Err, refl, sym, ap, subst, ◌∙◌, inl, inr, append_assoc, append-nil}
use Rattle.std.specs.Prelude.{All}
use Rattle.std.proofs.lemmas.List.Elements.{All-head, All-tail}
use Rattle.element_queue.specs.Pending.{Pending, Taken, taken}
use Rattle.etm_types.specs.declared.element.Elem.{Elem}
use Rattle.etm_types.specs.declared.element.Thing.{Thing}
use Rattle.etm_types.specs.declared.element.Thing.TheVariants.{Seen, Unseen, Gap, Stop}
use Rattle.etm_types.specs.declared.item.Item.{Item}
use Rattle.etm_types.specs.declared.walk_fault.WalkFault.{WalkFault}
use Rattle.packet_grammar.specs.declared.stream_fault.Fault.{Fault}
use Rattle.packet_grammar.specs.declared.stream_fault.Fault.TheVariants.{Queue, Walk}
use Rattle.path_elements.specs.Held.{IsElem}
use Rattle.path_elements.specs.Running.{Step, Outcome, walked, TakesSo, Takes, Runs}
use Rattle.path_elements.specs.Standing.{ArePlacedElems, IsAlignedPending, IsPlace}
use Rattle.path_elements.proofs.InRange.{IsElemThere}
use Rattle.path_elements.proofs.Places.{IsAlignedTaken, taken_aligned}
use Rattle.path_walker.specs.State.{State, IsState}
use Rattle.path_walker.specs.Things.{Gives, Walks, IsAlignedThing}
use Rattle.path_walker.proofs.After.{shows_state}
use Rattle.path_walker.proofs.OneTrail.{one_trail, some_trail}
use Rattle.program_image.specs.Blocks.{HasGap}
use Rattle.program_image.specs.declared.image.Image.{Image}

-- ---- what one outcome says of another

abbrev pub goes : Pending × State → Step
goes n = Ok n

abbrev pub halts : Fault → Step
halts f = Err f

pub same_goes : (m n : Pending × State) → goes m ≡ goes n → m ≡ n
same_goes m n e = cc

pub same_halts : (f g : Fault) → halts f ≡ halts g → f ≡ g
same_halts f g e = cc

pub goes_or_halts : (n : Pending × State) (f : Fault) → goes n ≡ halts f → ⊥
goes_or_halts n f e = cc

abbrev pub ended : Pending × State → Outcome
ended n = Ok n

abbrev pub stopped : ℕ × Fault → Outcome
stopped stop = Err stop

pub same_ended : (m n : Pending × State) → ended m ≡ ended n → m ≡ n
same_ended m n e = cc

pub ended_or_stopped : (n : Pending × State) (stop : ℕ × Fault) → ended n ≡ stopped stop → ⊥
ended_or_stopped n stop e = cc

abbrev pub walking : State → Result State WalkFault
walking s = Ok s

abbrev pub halting : WalkFault → Result State WalkFault
halting f = Err f

pub same_walking : (a b : State) → walking a ≡ walking b → a ≡ b
same_walking a b e = cc

pub walking_or_halting : (s : State) (f : WalkFault) → walking s ≡ halting f → ⊥
walking_or_halting s f e = cc

-- an element goes on or halts
pub step_cases : (s : Step) → ((n : Pending × State) × (s ≡ Ok n)) ⊎ ((f : Fault) × (s ≡ Err f))
step_cases (Ok n) = inl (n, refl)
step_cases (Err f) = inr (f, refl)

-- the same items, outcome and elements taken
pub record Same (i j : List Item) (a b : Outcome) (t u : List (ℕ × Elem)) : Type 0 where
  pub items : i ≡ j
  pub outcome : a ≡ b
  pub took : t ≡ u

module _ (image : Image) (depth : ℕ) where
  -- ---- one run behind another

  pub runs_append : (p : Pending) (w : State) (xs ys : List (ℕ × Elem)) (items more : List Item) (n : Pending × State) (outcome : Outcome)
      (took later : List (ℕ × Elem))
      → Runs image depth p w xs items (Ok n) took → Runs image depth n.0 n.1 ys more outcome later
      → Runs image depth p w (xs ++ ys) (items ++ more) outcome (took ++ later)
  runs_append p w [] ys items more n outcome took later r s =
      let there = subst (λ (m : Pending × State). Runs image depth m.0 m.1 ys more outcome later) (same_ended n (p, w) r.1) s in
      subst (λ l. Runs image depth p w ys (l ++ more) outcome (took ++ later)) (sym r.0)
      (subst (λ l. Runs image depth p w ys more outcome (l ++ later)) (sym r.2) there)
  runs_append p w (x ∷ xs) ys items more n outcome took later (inl r) s = absurd (ended_or_stopped n (x.0, r.0) r.2)
  runs_append p w (x ∷ xs) ys items more n outcome took later (inr r) s =
      inr (
        r.0,
        r.1 ++ more,
        r.2,
        r.3 ++ later,
        r.4,
        runs_append (r.2).0 (r.2).1 xs ys r.1 more n outcome r.3 later r.5 s,
        ap (λ l. l ++ more) r.6 ∙ append_assoc r.0 r.1 more,
        ap (λ l. l ++ later) r.7,
      )

  -- what follows an element that has a fault is not read
  pub runs_more : (p : Pending) (w : State) (xs ys : List (ℕ × Elem)) (items : List Item) (stop : ℕ × Fault) (took : List (ℕ × Elem))
      → Runs image depth p w xs items (Err stop) took → Runs image depth p w (xs ++ ys) items (Err stop) took
  runs_more p w [] ys items stop took r = absurd (ended_or_stopped (p, w) stop (sym r.1))
  runs_more p w (x ∷ xs) ys items stop took (inl r) = inl r
  runs_more p w (x ∷ xs) ys items stop took (inr r) =
      inr (r.0, r.1, r.2, r.3, r.4, runs_more (r.2).0 (r.2).1 xs ys r.1 stop r.3 r.5, r.6, r.7)

  -- elements without a fault are all taken
  pub runs_all : (p : Pending) (w : State) (es : List (ℕ × Elem)) (items : List Item) (n : Pending × State) (took : List (ℕ × Elem))
      → Runs image depth p w es items (Ok n) took → took ≡ es
  runs_all p w [] items n took r = r.2
  runs_all p w (e ∷ es) items n took (inl r) = absurd (ended_or_stopped n (e.0, r.0) r.2)
  runs_all p w (e ∷ es) items n took (inr r) = r.7 ∙ ap (λ l. e ∷ l) (runs_all (r.2).0 (r.2).1 es r.1 n r.3 r.5)

  -- one element alone
  pub runs_alone : (p : Pending) (w : State) (x : ℕ × Elem) (items : List Item) (next : Pending × State) → Takes image depth p w x.1 items (Ok next)
      → Runs image depth p w (x ∷ []) items (Ok next) (x ∷ [])
  runs_alone p w x items next takes = inr (items, [], next, [], takes, (refl, refl, refl), sym (append-nil items), refl)

  -- one element behind others
  pub runs_step : (p : Pending) (w : State) (xs : List (ℕ × Elem)) (x : ℕ × Elem) (items more : List Item) (n next : Pending × State)
      (took : List (ℕ × Elem))
      → Runs image depth p w xs items (Ok n) took → Takes image depth n.0 n.1 x.1 more (Ok next)
      → Runs image depth p w (xs ++ x ∷ []) (items ++ more) (Ok next) (took ++ x ∷ [])
  runs_step p w xs x items more n next took r takes =
      runs_append p w xs (x ∷ []) items more n (Ok next) took (x ∷ []) r (runs_alone n.0 n.1 x more next takes)

  pub runs_fault : (p : Pending) (w : State) (xs : List (ℕ × Elem)) (x : ℕ × Elem) (items more : List Item) (n : Pending × State) (f : Fault)
      (took : List (ℕ × Elem))
      → Runs image depth p w xs items (Ok n) took → Takes image depth n.0 n.1 x.1 more (Err f)
      → Runs image depth p w (xs ++ x ∷ []) (items ++ more) (Err (x.0, f)) (took ++ x ∷ [])
  runs_fault p w xs x items more n f took r takes =
      runs_append p w xs (x ∷ []) items more n (Err (x.0, f)) took (x ∷ []) r (inl (f, takes, refl, refl))

  -- ---- elements have one run

  takes_so_one : (t : Taken) (w : State) (items others : List Item) (a b : Step) → TakesSo image t w items a → TakesSo image t w others b
      → (items ≡ others) × (a ≡ b)
  takes_so_one (Ok t) w items others a b x y =
      let same = one_trail image w (t.1).committed items others x.0 y.0 x.1 y.1 in (same.0, x.2 ∙ ap (walked t.0) same.1 ∙ sym y.2)
  takes_so_one (Err f) w items others a b x y = (x.0 ∙ sym y.0, x.1 ∙ sym y.1)

  pub takes_one : (p : Pending) (w : State) (e : Elem) (items others : List Item) (a b : Step) → Takes image depth p w e items a
      → Takes image depth p w e others b → (items ≡ others) × (a ≡ b)
  takes_one p w e items others a b x y = takes_so_one (taken depth p e) w items others a b x y

  pub runs_one : (p : Pending) (w : State) (es : List (ℕ × Elem)) (items others : List Item) (a b : Outcome) (took also : List (ℕ × Elem))
      → Runs image depth p w es items a took → Runs image depth p w es others b also → Same items others a b took also
  runs_one p w [] items others a b took also x y = record { items = x.0 ∙ sym y.0; outcome = x.1 ∙ sym y.1; took = x.2 ∙ sym y.2 }
  runs_one p w (e ∷ es) items others a b took also (inl x) (inl y) =
      let same = takes_one p w e.1 items others (Err x.0) (Err y.0) x.1 y.1 in
      record { items = same.0; outcome = x.2 ∙ ap (λ f. stopped (e.0, f)) (same_halts x.0 y.0 same.1) ∙ sym y.2; took = x.3 ∙ sym y.3 }
  runs_one p w (e ∷ es) items others a b took also (inl x) (inr y) =
      absurd (goes_or_halts y.2 x.0 (sym ((takes_one p w e.1 items y.0 (Err x.0) (Ok y.2) x.1 y.4).1)))
  runs_one p w (e ∷ es) items others a b took also (inr x) (inl y) =
      absurd (goes_or_halts x.2 y.0 ((takes_one p w e.1 x.0 others (Ok x.2) (Err y.0) x.4 y.1).1))
  runs_one p w (e ∷ es) items others a b took also (inr x) (inr y) =
      let first = takes_one p w e.1 x.0 y.0 (Ok x.2) (Ok y.2) x.4 y.4 in
      let next = same_goes x.2 y.2 first.1 in
      let there = subst (λ (n : Pending × State). Runs image depth n.0 n.1 es y.1 b y.3) (sym next) y.5 in
      let rest = runs_one (x.2).0 (x.2).1 es x.1 y.1 a b x.3 y.3 x.5 there in
      record {
        items = x.6 ∙ ap (λ l. l ++ x.1) first.0 ∙ ap (λ l. y.0 ++ l) rest.items ∙ sym y.6;
        outcome = rest.outcome;
        took = x.7 ∙ ap (λ l. e ∷ l) rest.took ∙ sym y.7;
      }

  -- behind elements whose run is known, the run goes on from where they lead
  pub runs_rest : (p : Pending) (w : State) (xs ys : List (ℕ × Elem)) (first items : List Item) (n : Pending × State) (outcome : Outcome)
      (front took : List (ℕ × Elem))
      → Runs image depth p w xs first (Ok n) front → Runs image depth p w (xs ++ ys) items outcome took
      → (more : List Item) × (later : List (ℕ × Elem)) × Runs image depth n.0 n.1 ys more outcome later × (items ≡ first ++ more) × (took ≡ front ++ later)
  runs_rest p w [] ys first items n outcome front took r all = (
    items,
    took,
    subst (λ (m : Pending × State). Runs image depth m.0 m.1 ys items outcome took) (sym (same_ended n (p, w) r.1)) all,
    ap (λ l. l ++ items) (sym r.0),
    ap (λ l. l ++ took) (sym r.2),
  )
  runs_rest p w (x ∷ xs) ys first items n outcome front took (inl r) all = absurd (ended_or_stopped n (x.0, r.0) r.2)
  runs_rest p w (x ∷ xs) ys first items n outcome front took (inr r) (inl a) =
      absurd (goes_or_halts r.2 a.0 ((takes_one p w x.1 r.0 items (Ok r.2) (Err a.0) r.4 a.1).1))
  runs_rest p w (x ∷ xs) ys first items n outcome front took (inr r) (inr a) =
      let one = takes_one p w x.1 a.0 r.0 (Ok a.2) (Ok r.2) a.4 r.4 in
      let there = subst (λ (m : Pending × State). Runs image depth m.0 m.1 (xs ++ ys) a.1 outcome a.3) (same_goes a.2 r.2 one.1) a.5 in
      let rest = runs_rest (r.2).0 (r.2).1 xs ys r.1 a.1 n outcome r.3 a.3 r.5 there in (
        rest.0,
        rest.1,
        rest.2,
        a.6 ∙ ap (λ l. l ++ a.1) one.0 ∙ ap (λ l. r.0 ++ l) rest.3 ∙ sym (append_assoc r.0 r.1 rest.0) ∙ ap (λ l. l ++ rest.0) (sym r.6),
        a.7 ∙ ap (λ l. x ∷ l) rest.4 ∙ ap (λ l. l ++ rest.1) (sym r.7),
      )

  -- ---- a run stands where one may

  gives_state : (s after : State) (t : Thing) (items : List Item) → IsState s → IsAlignedThing t → Gives image s t items after → IsState after
  gives_state s after (Seen entry) items state is g = shows_state image s entry g.0 after state is g.1
  gives_state s after Unseen items state is g = subst IsState (sym g.1) state
  gives_state s after Gap items state is g = subst IsState (sym g.1) state
  gives_state s after Stop items state is g = subst IsState (sym g.1) state

  pub walks_state : (s after : State) (things : List Thing) (items : List Item) → IsState s → All IsAlignedThing things → Walks image s things items (Ok after)
      → IsState after
  walks_state s after [] items state are w = subst IsState (sym (same_walking after s w.1)) state
  walks_state s after (t ∷ things) items state are (inl w) =
      walks_state w.2 after things w.1 (gives_state s w.2 t w.0 state (All-head IsAlignedThing t things are) w.3) (All-tail IsAlignedThing t things are) w.4
  walks_state s after (t ∷ things) items state are (inr w) = absurd (walking_or_halting after w.0 w.3)

  walked_keep : (p : Pending) (n : Pending × State) (r : Result State WalkFault) → goes n ≡ walked p r → IsAlignedPending p
      → ((s : State) → r ≡ Ok s → IsState s) → IsPlace n
  walked_keep p n (Ok s) e is state = subst IsPlace (sym (same_goes n (p, s) e)) (record { pending = is; state = state s refl })
  walked_keep p n (Err f) e is state = absurd (goes_or_halts n (Walk f) e)

  keep_so : (t : Taken) (w : State) (items : List Item) (n : Pending × State) → IsState w → IsAlignedTaken t → TakesSo image t w items (Ok n) → IsPlace n
  keep_so (Ok t) w items n state is takes =
      let things = (t.1).committed in
      walked_keep t.0 n takes.0 takes.2 is.pending
      (λ s e. walks_state w s things items state is.committed (subst (Walks image w things items) e takes.1))
  keep_so (Err f) w items n state is takes = absurd (goes_or_halts n (Queue f) takes.1)

  pub takes_keep : (p : Pending) (w : State) (e : Elem) (items : List Item) (n : Pending × State) → IsPlace (p, w) → IsElem e
      → Takes image depth p w e items (Ok n) → IsPlace n
  takes_keep p w e items n place is takes = keep_so (taken depth p e) w items n place.state (taken_aligned depth p e place.pending is) takes

  pub runs_keep : (p : Pending) (w : State) (es : List (ℕ × Elem)) (items : List Item) (n : Pending × State) (took : List (ℕ × Elem)) → IsPlace (p, w)
      → ArePlacedElems es → Runs image depth p w es items (Ok n) took → IsPlace n
  runs_keep p w [] items n took place are r = subst IsPlace (sym (same_ended n (p, w) r.1)) place
  runs_keep p w (e ∷ es) items n took place are (inl r) = absurd (ended_or_stopped n (e.0, r.0) r.2)
  runs_keep p w (e ∷ es) items n took place are (inr r) =
      runs_keep (r.2).0 (r.2).1 es r.1 n r.3 (takes_keep p w e.1 r.0 r.2 place (All-head IsElemThere e es are) r.4) (All-tail IsElemThere e es are) r.5

  -- ---- and there is one

  some_so : (t : Taken) (w : State) → HasGap image → IsState w → IsAlignedTaken t → (items : List Item) × (step : Step) × TakesSo image t w items step
  some_so (Ok t) w gap state is =
      let trail = some_trail image w (t.1).committed gap state is.committed in (trail.0, walked t.0 trail.1, (trail.1, trail.2, refl))
  some_so (Err f) w gap state is = ([], Err (Queue f), (refl, refl))

  pub takes_some : (p : Pending) (w : State) (e : Elem) → HasGap image → IsPlace (p, w) → IsElem e → (items : List Item) × (step : Step)
      × Takes image depth p w e items step
  takes_some p w e gap place is = some_so (taken depth p e) w gap place.state (taken_aligned depth p e place.pending is)

  pub runs_some : (p : Pending) (w : State) (es : List (ℕ × Elem)) → HasGap image → IsPlace (p, w) → ArePlacedElems es
      → (items : List Item) × (outcome : Outcome) × (took : List (ℕ × Elem)) × Runs image depth p w es items outcome took
  runs_some p w [] gap place are = ([], Ok (p, w), [], (refl, refl, refl))
  runs_some p w (e ∷ es) gap place are =
      let is = All-head IsElemThere e es are in
      let first = takes_some p w e.1 gap place is in
      elim (step_cases first.1) [
        | inl n ↦
            let takes = subst (Takes image depth p w e.1 first.0) n.1 first.2 in
            let rest = runs_some (n.0).0 (n.0).1 es gap (takes_keep p w e.1 first.0 n.0 place is takes) (All-tail IsElemThere e es are) in
            (first.0 ++ rest.0, rest.1, e ∷ rest.2, inr (first.0, rest.0, n.0, rest.2, takes, rest.3, refl, refl))
        | inr f ↦ (first.0, Err (e.0, f.0), e ∷ [], inl (f.0, subst (Takes image depth p w e.1 first.0) f.1 first.2, refl, refl))
      ]
