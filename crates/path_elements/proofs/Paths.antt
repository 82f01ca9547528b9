-- A run over all elements is their path.
use Rattle.std.proofs.Common.{◌≡◌, ℕ, ◌+◌, List, [], ◌∷◌, ◌++◌, length, take, Some, Result, Ok, Err, refl, sym, ap, subst, ◌∙◌, inl, inr}
use Rattle.std.proofs.Common.{append_assoc, append-nil, length-append}
use Rattle.std.specs.Prelude.{slice_get}
use Rattle.std.proofs.lemmas.List.{map-append, take_at}
use Rattle.element_queue.specs.Pending.{Pending, Taken, taken}
use Rattle.element_queue.proofs.Joined.{one_by_one}
use Rattle.element_queue.specs.Resolved.{Resolved, at_first, unresolved, with_done, resolve, then_resolve, resolve_all}
use Rattle.etm_types.specs.declared.element.Elem.{Elem}
use Rattle.etm_types.specs.declared.element.Thing.{Thing}
use Rattle.etm_types.specs.declared.item.Item.{Item}
use Rattle.etm_types.specs.declared.queue_fault.QueueFault.{QueueFault}
use Rattle.etm_types.specs.declared.walk_fault.WalkFault.{WalkFault}
use Rattle.packet_grammar.specs.declared.end.End.{End}
use Rattle.packet_grammar.specs.declared.end.End.TheVariants as end
use Rattle.packet_grammar.specs.declared.stream_fault.Fault.{Fault}
use Rattle.packet_grammar.specs.declared.stream_fault.Fault.TheVariants.{Queue, Walk}
pub use Rattle.path_elements.specs.Standing.{Stands}
use Rattle.path_elements.specs.Path.{unplaced, WalksAll, StopsBehind, Faults, IsPathOfElements}
use Rattle.path_elements.specs.Running.{Outcome, walked, TakesSo, Takes, Runs}
use Rattle.path_elements.specs.Standing.{at, ArePlacedElems}
use Rattle.path_elements.proofs.Places.{first_place}
use Rattle.path_elements.proofs.Runs.{goes, halts, same_goes, same_halts, goes_or_halts, same_ended, ended_or_stopped, runs_some}
use Rattle.path_walker.specs.State.{State, first_state}
use Rattle.path_walker.specs.Things.{Walks}
use Rattle.path_walker.proofs.Joined.{parts_join}
use Rattle.program_image.specs.Blocks.{HasGap}
use Rattle.program_image.specs.declared.image.Image.{Image}

-- ---- elements are resolved one by one

then_one : (s : Result Resolved QueueFault) → then_resolve s (λ next. Ok next) ≡ s
then_one (Ok r) = refl
then_one (Err f) = refl

-- one element more is resolved as it is taken
pub resolved_on : (depth : ℕ) (elements : List (ℕ × Elem)) (p : Pending) (done : List Thing) (x : ℕ × Elem)
    → resolve_all depth unresolved (unplaced elements) ≡ Ok (at p done)
    → resolve_all depth unresolved (unplaced (elements ++ x ∷ [])) ≡ with_done done (taken depth p x.1)
resolved_on depth elements p done x e =
    ap (resolve_all depth unresolved) (map-append (λ (y : ℕ × Elem). y.1) elements (x ∷ []))
    ∙ one_by_one depth unresolved (unplaced elements) (x.1 ∷ [])
    ∙ ap (λ s. then_resolve s (λ next. resolve_all depth next (x.1 ∷ []))) e
    ∙ then_one (resolve depth (at p done) x.1)

-- ---- the elements so far

module _ (image : Image) (depth : ℕ) where
  pub stands_walks : (elements : List (ℕ × Elem)) (items : List Item) (n : Pending × State) → Stands image depth elements items n
      → WalksAll image depth elements items
  stands_walks elements items n s = record { resolved = at n.0 s.done; after = n.1; commits = s.resolved; walks = s.walks }

  pub stands_first : Stands image depth [] [] (at_first, first_state)
  stands_first = record { done = []; resolved = refl; walks = (refl, refl) }

  -- an element behind them
  module _ (elements : List (ℕ × Elem)) (before : List Item) (x : ℕ × Elem) (items : List Item) where
    abbrev StandsBehind : Pending × State → Type 0
    StandsBehind next = Stands image depth (elements ++ x ∷ []) (before ++ items) next

    abbrev HaltsBehind : Fault → Type 0
    HaltsBehind f = StopsBehind image depth (elements ++ x ∷ []) before (before ++ items) f

    -- that has no fault
    stands_walked : (q : Pending) (done more : List Thing) (w : State) (next : Pending × State) (r : Result State WalkFault)
        → resolve_all depth unresolved (unplaced (elements ++ x ∷ [])) ≡ Ok (at q (done ++ more)) → Walks image first_state done before (Ok w)
        → Walks image w more items r → goes next ≡ walked q r → StandsBehind next
    stands_walked q done more w next (Ok v) is walks rest e =
        subst StandsBehind (sym (same_goes next (q, v) e))
        (record { done = done ++ more; resolved = is; walks = parts_join image first_state w done more before items (Ok v) walks rest })
    stands_walked q done more w next (Err f) is walks rest e = absurd (goes_or_halts next (Walk f) e)

    stands_so : (n next : Pending × State) (done : List Thing) (t : Taken)
        → resolve_all depth unresolved (unplaced (elements ++ x ∷ [])) ≡ with_done done t
        → Walks image first_state done before (Ok n.1) → TakesSo image t n.1 items (Ok next) → StandsBehind next
    stands_so n next done (Ok t) is walks takes = stands_walked t.0 done (t.1).committed n.1 next takes.0 is walks takes.1 takes.2
    stands_so n next done (Err f) is walks takes = absurd (goes_or_halts next (Queue f) takes.1)

    pub stands_on : (n next : Pending × State) → Stands image depth elements before n → Takes image depth n.0 n.1 x.1 items (Ok next)
        → Stands image depth (elements ++ x ∷ []) (before ++ items) next
    stands_on n next s takes =
        stands_so n next s.done (taken depth n.0 x.1) (resolved_on depth elements n.0 s.done x s.resolved) s.walks takes

    -- that has one
    stops_walked : (q : Pending) (done more : List Thing) (w : State) (f : Fault) (r : Result State WalkFault)
        → resolve_all depth unresolved (unplaced (elements ++ x ∷ [])) ≡ Ok (at q (done ++ more)) → Walks image first_state done before (Ok w)
        → Walks image w more items r → halts f ≡ walked q r → HaltsBehind f
    stops_walked q done more w f (Ok v) is walks rest e = absurd (goes_or_halts (q, v) f (sym e))
    stops_walked q done more w f (Err g) is walks rest e =
        subst HaltsBehind (sym (same_halts f (Walk g) e))
        (at q (done ++ more), is, parts_join image first_state w done more before items (Err g) walks rest)

    stops_so : (n : Pending × State) (done : List Thing) (f : Fault) (t : Taken)
        → resolve_all depth unresolved (unplaced (elements ++ x ∷ [])) ≡ with_done done t
        → Walks image first_state done before (Ok n.1) → TakesSo image t n.1 items (Err f) → HaltsBehind f
    stops_so n done f (Ok t) is walks takes = stops_walked t.0 done (t.1).committed n.1 f takes.0 is walks takes.1 takes.2
    stops_so n done f (Err g) is walks takes =
        subst HaltsBehind (sym (same_halts f (Queue g) takes.1)) (is, ap (λ l. before ++ l) takes.0 ∙ append-nil before)

    pub stops_here : (n : Pending × State) (f : Fault) → Stands image depth elements before n → Takes image depth n.0 n.1 x.1 items (Err f)
        → StopsBehind image depth (elements ++ x ∷ []) before (before ++ items) f
    stops_here n f s takes = stops_so n s.done f (taken depth n.0 x.1) (resolved_on depth elements n.0 s.done x s.resolved) s.walks takes

-- ---- all of them

-- how the path of elements ends
abbrev pub last_of : End → Outcome → End
last_of ending (Ok n) = ending
last_of ending (Err stop) = end.Fault stop.0 stop.1

slice_get_seam : {X : Type 0} (xs : List X) (y : X) (ys : List X) → slice_get (xs ++ y ∷ ys) (length xs) ≡ Some y
slice_get_seam [] y ys = refl
slice_get_seam (x ∷ xs) y ys = slice_get_seam xs y ys

-- the front up to one element and with it
take_front : {X : Type 0} (xs : List X) (y : X) (ys : List X) → take (length xs) (xs ++ y ∷ ys) ≡ xs
take_front xs y ys = take_at xs (y ∷ ys) (length xs) refl

take_with : {X : Type 0} (xs : List X) (y : X) (ys : List X) → take (length xs + 1) (xs ++ y ∷ ys) ≡ xs ++ y ∷ []
take_with xs y ys =
    ap (take (length xs + 1)) (sym (append_assoc xs (y ∷ []) ys)) ∙ take_at (xs ++ y ∷ []) ys (length xs + 1) (length-append xs (y ∷ []))

module _ (image : Image) (depth : ℕ) where
  fault_behind : (front : List (ℕ × Elem)) (x : ℕ × Elem) (rest : List (ℕ × Elem)) (before items : List Item) (f : Fault)
      → WalksAll image depth front before → StopsBehind image depth (front ++ x ∷ []) before items f
      → Faults image depth (front ++ x ∷ rest) items (end.Fault x.0 f) (front ++ x ∷ [])
  fault_behind front x rest before items f walks stops =
      record {
        count = length front;
        at = x.0;
        element = x.1;
        fault = f;
        before = before;
        there = slice_get_seam front x rest;
        none_before = subst (λ l. WalksAll image depth l before) (sym (take_front front x rest)) walks;
        takes = sym (take_with front x rest);
        stops = stops;
        ends = refl;
      }

  path_behind : (front es : List (ℕ × Elem)) (ending : End) (before items : List Item) (n : Pending × State) (outcome : Outcome)
      (took : List (ℕ × Elem))
      → Stands image depth front before n → Runs image depth n.0 n.1 es items outcome took
      → IsPathOfElements image depth (front ++ es) ending (before ++ items) (last_of ending outcome) (front ++ took)
  path_behind front [] ending before items n outcome took s r =
      let walks = subst (λ l. WalksAll image depth l before) (sym (append-nil front)) (stands_walks image depth front before n s) in
      let same : before ++ items ≡ before = ap (λ l. before ++ l) r.0 ∙ append-nil before in
      inl (subst (WalksAll image depth (front ++ [])) (sym same) walks, ap (last_of ending) r.1, ap (λ l. front ++ l) r.2)
  path_behind front (e ∷ es) ending before items n outcome took s (inl r) =
      let fault = fault_behind front e es before (before ++ items) r.0 (stands_walks image depth front before n s)
      (stops_here image depth front before e items n r.0 s r.1) in
      let ends = subst (λ l. Faults image depth (front ++ e ∷ es) (before ++ items) l (front ++ e ∷ [])) (sym (ap (last_of ending) r.2)) fault in
      inr (subst (Faults image depth (front ++ e ∷ es) (before ++ items) (last_of ending outcome)) (ap (λ l. front ++ l) (sym r.3)) ends)
  path_behind front (e ∷ es) ending before items n outcome took s (inr r) =
      let path = path_behind (front ++ e ∷ []) es ending (before ++ r.0) r.1 r.2 outcome r.3 (stands_on image depth front before e r.0 n r.2 s r.4) r.5 in
      let shown : (before ++ r.0) ++ r.1 ≡ before ++ items = append_assoc before r.0 r.1 ∙ ap (λ l. before ++ l) (sym r.6) in
      let taken_too : (front ++ e ∷ []) ++ r.3 ≡ front ++ took = append_assoc front (e ∷ []) r.3 ∙ ap (λ l. front ++ l) (sym r.7) in
      let ends = last_of ending outcome in
      subst (IsPathOfElements image depth (front ++ e ∷ es) ending (before ++ items) ends) taken_too
      (subst (λ l. IsPathOfElements image depth l ending (before ++ items) ends ((front ++ e ∷ []) ++ r.3)) (append_assoc front (e ∷ []) es)
      (subst (λ l. IsPathOfElements image depth ((front ++ e ∷ []) ++ es) ending l ends ((front ++ e ∷ []) ++ r.3)) shown path))

  -- from the first element on
  pub runs_to_path : (elements : List (ℕ × Elem)) (ending : End) (items : List Item) (outcome : Outcome) (took : List (ℕ × Elem))
      → Runs image depth at_first first_state elements items outcome took
      → IsPathOfElements image depth elements ending items (last_of ending outcome) took
  runs_to_path elements ending items outcome took r =
      path_behind [] elements ending [] items (at_first, first_state) outcome took (stands_first image depth) r

  -- the elements of a run without a fault stand where it leads
  stands_after : (front es : List (ℕ × Elem)) (before items : List Item) (n next : Pending × State) (took : List (ℕ × Elem))
      → Stands image depth front before n → Runs image depth n.0 n.1 es items (Ok next) took → Stands image depth (front ++ es) (before ++ items) next
  stands_after front [] before items n next took s r =
      let same : before ≡ before ++ items = sym (ap (λ l. before ++ l) r.0 ∙ append-nil before) in
      let there = subst (Stands image depth front before) (sym (same_ended next n r.1)) s in
      subst (λ l. Stands image depth l (before ++ items) next) (sym (append-nil front)) (subst (λ l. Stands image depth front l next) same there)
  stands_after front (e ∷ es) before items n next took s (inl r) = absurd (ended_or_stopped next (e.0, r.0) r.2)
  stands_after front (e ∷ es) before items n next took s (inr r) =
      let later = stands_after (front ++ e ∷ []) es (before ++ r.0) r.1 r.2 next r.3 (stands_on image depth front before e r.0 n r.2 s r.4) r.5 in
      let shown : (before ++ r.0) ++ r.1 ≡ before ++ items = append_assoc before r.0 r.1 ∙ ap (λ l. before ++ l) (sym r.6) in
      subst (λ l. Stands image depth l (before ++ items) next) (append_assoc front (e ∷ []) es)
      (subst (λ l. Stands image depth ((front ++ e ∷ []) ++ es) l next) shown later)

  pub runs_stand : (elements : List (ℕ × Elem)) (items : List Item) (n : Pending × State) (took : List (ℕ × Elem))
      → Runs image depth at_first first_state elements items (Ok n) took → Stands image depth elements items n
  runs_stand elements items n took r = stands_after [] elements [] items (at_first, first_state) n took (stands_first image depth) r

  -- ---- every list of elements has a path

  pub some_path_of_elements : (elements : List (ℕ × Elem)) (ending : End) → HasGap image → ArePlacedElems elements
      → (items : List Item) × (last : End) × (took : List (ℕ × Elem)) × IsPathOfElements image depth elements ending items last took
  some_path_of_elements elements ending gap are =
      let run = runs_some image depth at_first first_state elements gap first_place are in
      (run.0, last_of ending run.1, run.2, runs_to_path elements ending run.0 run.1 run.2 run.3)
