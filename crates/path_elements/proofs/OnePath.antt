-- The path of elements is their run, so that they have one path and no other.
use Rattle.std.proofs.Common.{◌≡◌, ℕ, suc, ◌+◌, List, [], ◌∷◌, ◌++◌, take, drop, Some, Result, Ok, Err, refl, sym, ap, subst, ◌∙◌, inl, inr, arith}
use Rattle.std.proofs.Common.{append_assoc, append-nil}
use Rattle.std.specs.Prelude.{slice_get}
use Rattle.std.proofs.Math.Seq.{take-suc}
use Rattle.std.proofs.lemmas.List.{take-append-drop}
use Rattle.std.proofs.lemmas.Option.{slice_get_within, get_or_from_slice_get}
use Rattle.element_queue.specs.Pending.{Pending, Taken, taken}
use Rattle.element_queue.specs.Resolved.{Resolved, at_first, with_done, then_resolve, resolve_all}
use Rattle.etm_types.specs.declared.element.Elem.{Elem}
use Rattle.etm_types.specs.declared.element.Thing.{Thing}
use Rattle.etm_types.specs.declared.item.Item.{Item}
use Rattle.etm_types.specs.declared.queue_fault.QueueFault.{QueueFault}
use Rattle.etm_types.specs.declared.walk_fault.WalkFault.{WalkFault}
use Rattle.packet_grammar.specs.declared.end.End.{End}
use Rattle.packet_grammar.specs.declared.end.End.TheVariants as end
use Rattle.packet_grammar.specs.declared.stream_fault.Fault.{Fault}
use Rattle.packet_grammar.specs.declared.stream_fault.Fault.TheVariants.{Packet, AddressAwaited, Queue, Walk}
use Rattle.path_elements.specs.Path.{unplaced, WalksAll, StopsBehind, Faults, IsPathOfElements}
use Rattle.path_elements.specs.Running.{Outcome, TakesSo, Runs}
use Rattle.path_elements.specs.Standing.{at, Stands}
use Rattle.path_elements.proofs.Paths.{last_of, resolved_on}
use Rattle.path_elements.proofs.Runs.{ended, same_walking, walking_or_halting, runs_fault, runs_more, runs_one}
use Rattle.path_walker.specs.State.{State, first_state}
use Rattle.path_walker.specs.Things.{Walks}
use Rattle.path_walker.proofs.Joined.{each_has_parts, rest_goes_on}
use Rattle.program_image.specs.declared.image.Image.{Image}

-- ---- elements that have no fault

abbrev resolving : Resolved → Result Resolved QueueFault
resolving r = Ok r

abbrev refusing : QueueFault → Result Resolved QueueFault
refusing f = Err f

same_resolving : (a b : Resolved) → resolving a ≡ resolving b → a ≡ b
same_resolving a b e = cc

same_refusing : (f g : QueueFault) → refusing f ≡ refusing g → f ≡ g
same_refusing f g e = cc

not_refusing : (r : Resolved) (f : QueueFault) → refusing f ≡ resolving r → ⊥
not_refusing r f e = cc

module _ (image : Image) (depth : ℕ) where
  -- they commit more things, and where those are walked to their end, they run so
  record Commits (es : List (ℕ × Elem)) (done : List Thing) (r : Resolved) (RunSo : State → List Item → Outcome → Type 0) : Type 0 where
    more : List Thing
    told : Pending
    is : r ≡ at told (done ++ more)
    runs : (w after : State) (items : List Item) → Walks image w more items (Ok after) → RunSo w items (Ok (told, after))

  -- the run of elements, all of them taken
  abbrev RunsAll : Pending → List (ℕ × Elem) → State → List Item → Outcome → Type 0
  RunsAll p es w items outcome = Runs image depth p w es items outcome es

  -- the same of one element, as it is taken, and the others
  abbrev GoesSo : Taken → List (ℕ × Elem) → State → List Item → Outcome → Type 0
  GoesSo t es w items outcome =
      (first : List Item) × (rest : List Item) × (next : Pending × State) × TakesSo image t w first (Ok next)
      × Runs image depth next.0 next.1 es rest outcome es × (items ≡ first ++ rest)

  commits_so : (t : Taken) (es : List (ℕ × Elem)) (done : List Thing) (r : Resolved)
      → then_resolve (with_done done t) (λ next. resolve_all depth next (unplaced es)) ≡ Ok r
      → ((p : Pending) (front : List Thing) → resolve_all depth (at p front) (unplaced es) ≡ Ok r → Commits es front r (RunsAll p es))
      → Commits es done r (GoesSo t es)
  commits_so (Ok t) es done r e on =
      let things = (t.1).committed in
      let rest = on t.0 (done ++ things) e in
      record {
        more = things ++ rest.more;
        told = rest.told;
        is = rest.is ∙ ap (at rest.told) (append_assoc done things rest.more);
        runs = λ w after items walks. elim (each_has_parts image w things rest.more items (Ok after) walks) [
          | inl q ↦ (q.0, q.1, (t.0, q.2), (Ok q.2, q.3, refl), rest.runs q.2 after q.1 q.4, q.5)
          | inr f ↦ absurd (walking_or_halting after f.0 f.2)
        ];
      }
  commits_so (Err f) es done r e on = absurd (not_refusing r f e)

  commits : (es : List (ℕ × Elem)) (p : Pending) (done : List Thing) (r : Resolved) → resolve_all depth (at p done) (unplaced es) ≡ Ok r
      → Commits es done r (RunsAll p es)
  commits [] p done r e =
      record {
        more = [];
        told = p;
        is = sym (same_resolving (at p done) r e) ∙ ap (at p) (sym (append-nil done));
        runs = λ w after items walks. (walks.0, ap (λ (s : State). ended (p, s)) (same_walking after w walks.1), refl);
      }
  commits (x ∷ es) p done r e =
      let all = commits_so (taken depth p x.1) es done r e (λ q front is. commits es q front r is) in
      record {
        more = all.more;
        told = all.told;
        is = all.is;
        runs = λ w after items walks. let go = all.runs w after items walks in inr (go.0, go.1, go.2, es, go.3, go.4, go.5, refl);
      }

  -- ---- the path of elements is their run

  pub walks_to_run : (es : List (ℕ × Elem)) (items : List Item) → WalksAll image depth es items
      → (n : Pending × State) × Stands image depth es items n × Runs image depth at_first first_state es items (Ok n) es
  walks_to_run es items w =
      let all = commits es at_first [] w.resolved w.commits in
      let walks = subst (λ (r : Resolved). Walks image first_state r.done items (Ok w.after)) all.is w.walks in (
        (all.told, w.after),
        record { done = all.more; resolved = w.commits ∙ ap (λ r. resolving r) all.is; walks = walks },
        all.runs first_state w.after items walks,
      )

  -- what the element behind them shows, where its walk stops
  abbrev Stopped : Taken → State → List Item → List Item → Fault → Type 0
  Stopped t w before items f = (more : List Item) × TakesSo image t w more (Err f) × (items ≡ before ++ more)

  refused : (t : Taken) (w : State) (done : List Thing) (before : List Item) (f : QueueFault) → with_done done t ≡ Err f → Stopped t w before before (Queue f)
  refused (Ok t) w done before f e = absurd (not_refusing (at t.0 (done ++ (t.1).committed)) f (sym e))
  refused (Err g) w done before f e = ([], (refl, ap (λ (h : QueueFault). Err (Queue h)) (sym (same_refusing g f e))), sym (append-nil before))

  halted : (t : Taken) (w : State) (done : List Thing) (before items : List Item) (f : WalkFault) (r : Resolved) → with_done done t ≡ Ok r
      → Walks image first_state done before (Ok w) → Walks image first_state r.done items (Err f) → Stopped t w before items (Walk f)
  halted (Ok t) w done before items f r e first all =
      let things = (t.1).committed in
      let same = subst (λ (s : Resolved). Walks image first_state s.done items (Err f)) (sym (same_resolving (at t.0 (done ++ things)) r e)) all in
      let rest = rest_goes_on image first_state w done things before items (Err f) first same in
      (rest.0, (Err f, rest.1, refl), rest.2)
  halted (Err g) w done before items f r e first all = absurd (not_refusing r g e)

  stops_so : (front : List (ℕ × Elem)) (x : ℕ × Elem) (before items : List Item) (f : Fault) (n : Pending × State) → Stands image depth front before n
      → StopsBehind image depth (front ++ x ∷ []) before items f → Stopped (taken depth n.0 x.1) n.1 before items f
  stops_so front x before items (Packet f) n s stops = absurd stops
  stops_so front x before items AddressAwaited n s stops = absurd stops
  stops_so front x before items (Queue f) n s stops =
      subst (λ l. Stopped (taken depth n.0 x.1) n.1 before l (Queue f)) (sym stops.1)
      (refused (taken depth n.0 x.1) n.1 s.done before f (sym (resolved_on depth front n.0 s.done x s.resolved) ∙ stops.0))
  stops_so front x before items (Walk f) n s stops =
      halted (taken depth n.0 x.1) n.1 s.done before items f stops.0 (sym (resolved_on depth front n.0 s.done x s.resolved) ∙ stops.1) s.walks stops.2

take_next : {X : Type 0} (xs : List X) (k : ℕ) (x : X) → slice_get xs k ≡ Some x → take (k + 1) xs ≡ take k xs ++ x ∷ []
take_next xs k x e =
    let next : k + 1 ≡ suc k = omega arith in
    ap (λ n. take n xs) next ∙ take-suc xs k x (slice_get_within xs k x e) ∙ ap (λ y. take k xs ++ y ∷ []) (get_or_from_slice_get xs k x x e)

module _ (image : Image) (depth : ℕ) where
  pub fault_to_run : (es : List (ℕ × Elem)) (items : List Item) (last : End) (took : List (ℕ × Elem)) → Faults image depth es items last took
      → (stop : ℕ × Fault) × Runs image depth at_first first_state es items (Err stop) took × (last ≡ end.Fault stop.0 stop.1)
  fault_to_run es items last took f =
      let front = take f.count es in
      let x : ℕ × Elem = (f.at, f.element) in
      let run = walks_to_run image depth front f.before f.none_before in
      let next = f.takes ∙ take_next es f.count x f.there in
      let stop = stops_so image depth front x f.before items f.fault run.0 run.1
      (subst (λ l. StopsBehind image depth l f.before items f.fault) next f.stops) in
      let fault = runs_fault image depth at_first first_state front x f.before stop.0 run.0 f.fault front run.2 stop.1 in
      let rest = drop (f.count + 1) es in
      let all : (front ++ x ∷ []) ++ rest ≡ es = ap (λ l. l ++ rest) (sym next ∙ f.takes) ∙ take-append-drop (f.count + 1) es in
      let shown = subst (λ l. Runs image depth at_first first_state (front ++ x ∷ []) l (Err (f.at, f.fault)) (front ++ x ∷ [])) (sym stop.2) fault in
      let whole = runs_more image depth at_first first_state (front ++ x ∷ []) rest items (f.at, f.fault) (front ++ x ∷ []) shown in (
        (f.at, f.fault),
        subst (λ l. Runs image depth at_first first_state l items (Err (f.at, f.fault)) took) all
            (subst (Runs image depth at_first first_state ((front ++ x ∷ []) ++ rest) items (Err (f.at, f.fault))) (sym next) whole),
        f.ends,
      )

  -- the run of elements by their path
  pub path_to_runs : (es : List (ℕ × Elem)) (ending : End) (items : List Item) (last : End) (took : List (ℕ × Elem))
      → IsPathOfElements image depth es ending items last took
      → (outcome : Outcome) × Runs image depth at_first first_state es items outcome took × (last ≡ last_of ending outcome)
  path_to_runs es ending items last took (inl p) =
      let run = walks_to_run image depth es items p.0 in
      (Ok run.0, subst (Runs image depth at_first first_state es items (Ok run.0)) (sym p.2) run.2, p.1)
  path_to_runs es ending items last took (inr p) = let run = fault_to_run es items last took p in (Err run.0, run.1, run.2)

  pub one_path_of_elements : (es : List (ℕ × Elem)) (ending : End) (items others : List Item) (last other : End) (took also : List (ℕ × Elem))
      → IsPathOfElements image depth es ending items last took → IsPathOfElements image depth es ending others other also
      → (items ≡ others) × (last ≡ other) × (took ≡ also)
  one_path_of_elements es ending items others last other took also p q =
      let a = path_to_runs es ending items last took p in
      let b = path_to_runs es ending others other also q in
      let same = runs_one image depth at_first first_state es items others a.0 b.0 took also a.1 b.1 in
      (same.items, a.2 ∙ ap (last_of ending) same.outcome ∙ sym b.2, same.took)
