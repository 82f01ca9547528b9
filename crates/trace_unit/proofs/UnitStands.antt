-- A unit stands behind one event more.
use Rattle.std.proofs.Common.{◌≡◌, ℕ, ◌+◌, List, [], ◌∷◌, ◌++◌, length, Option, Some, None, Ok, refl, sym, ap, subst, ◌∙◌}
use Rattle.element_queue.specs.Counting.{no_counts}
use Rattle.element_queue.specs.declared.ledger.Counts.{Counts}
use Rattle.etm_types.specs.Settings.{Sizes}
use Rattle.program_image.specs.declared.image.Image.{Image}
use Rattle.spec_run.proofs.EventsJoined.{passed, same_execution}
use Rattle.spec_run.specs.Checks.{Situation, check, effect_of, held_at}
use Rattle.spec_run.specs.RunAfter.{AreEvents, IsEvent, after_event, place_in, run_after, run_from}
use Rattle.spec_run.specs.Runs.{Execution, Running, at_first}
use Rattle.spec_run.specs.Stands.{Kept as RunKept, StandsAt as RunStandsAt}
use Rattle.spec_run.specs.Steps.{p0s}
use Rattle.spec_run.specs.declared.event.Done.{Done}
use Rattle.spec_run.specs.declared.event.Event.{Event}
use Rattle.trace_unit.proofs.Elements.{elements_many}
use Rattle.trace_unit.proofs.EventFollowed.{held_by, orders_so, window_counts}
use Rattle.trace_unit.proofs.EventSuits.{suits_so}
use Rattle.trace_unit.proofs.Growing.{places_grow, shared_grows, waiting_grows, written_grows}
use Rattle.trace_unit.proofs.Ordered.{bytes_all_are}
use Rattle.trace_unit.proofs.UnitKept.{Accepts, behind, done_at, follows_as}
use Rattle.trace_unit.specs.Agreeing.{Agree, kept_of}
use Rattle.trace_unit.specs.Effects.{counts_by, counts_from, counts_lost, counts_of, orders_on, places_on}
use Rattle.trace_unit.specs.Followed.{followed, orders_done}
use Rattle.trace_unit.specs.Growing.{places_behind, waiting_behind}
use Rattle.trace_unit.specs.Kept.{Kept, StandsAt}
use Rattle.trace_unit.specs.Ordered.{bytes_all, bytes_of}
use Rattle.trace_unit.specs.Orders.{Order, Settle}
use Rattle.trace_unit.specs.Packets.{Shared, packets_all, settle_packets, shared_all}
use Rattle.trace_unit.specs.Places.{Places}
use Rattle.trace_unit.specs.Small.{unretired}
use Rattle.trace_unit.specs.Whole.{PutOff, waits_all}
use Rattle.trace_unit.specs.WindowKept.{windowed_lost}
use Rattle.trace_unit.specs.Written.{pending, spelled, written}
use Rattle.trace_unit.specs.declared.follower.Follower.{Follower}

-- ---- events of joined lists

pub events_more : (s : Sizes) (events : List Event) (e : Event) → AreEvents s events → IsEvent s e → AreEvents s (events ++ e ∷ [])
events_more s [] e given is = (is, tt)
events_more s (event ∷ events) e given is = (given.0, events_more s events e given.1 is)

counts_joined : (image : Image) (depth : ℕ) (x : Execution) (c : Counts) (n : ℕ) (events : List Event) (e : Event) (y : Execution)
    → run_from image depth x n events ≡ Ok y
    → counts_from image depth x c (events ++ e ∷ []) ≡ counts_by depth y.current (counts_from image depth x c events) (effect_of image (place_in y) e)
counts_joined image depth x c n [] e y ran = ap (λ (z : Execution). counts_by depth z.current c (effect_of image (place_in z) e)) (same_execution x y ran)
counts_joined image depth x c n (event ∷ events) e y ran =
    let next = after_event image depth x event in
    let f = passed (check image depth (place_in x) event) n (run_from image depth next (n + 1) events) y ran in
    counts_joined image depth next (counts_by depth x.current c (effect_of image (place_in x) event)) (n + 1) events e y f.1

counts_grow : (image : Image) (depth : ℕ) (events : List Event) (x : Execution) (e : Event) → run_after image depth events ≡ Ok x
    → counts_of image depth (events ++ e ∷ []) ≡ counts_by depth x.current (counts_of image depth events) (effect_of image (place_in x) e)
counts_grow image depth events x e ran = counts_joined image depth at_first no_counts 0 events e x ran

-- ---- one event more

-- the unit stands behind it, and these bytes are written for it, where this was done and the run is there then
pub record Grows (image : Image) (f : Follower) (events : List Event) (e : Event) (now : RunKept) (did : Done) (place : Option Situation) : Type 0 where
  pub stands : StandsAt image (kept_of now (followed did place f)) (events ++ e ∷ [])
  pub wrote : written image f.teller.settings f.places.stack_depth (events ++ e ∷ []) ≡ written image f.teller.settings f.places.stack_depth events
      ++ bytes_all f.teller (orders_done did place f)

grows_by : (image : Image) (x : Execution) (f : Follower) (events : List Event) (e : Event) (now : RunKept)
    → let run : RunKept = record { depth = f.teller.settings.depth; place = place_in x } in
    Accepts image run f e → run_after image f.teller.settings.depth events ≡ Ok x → StandsAt image (kept_of run f) events
    → RunStandsAt image f.teller.settings now (events ++ e ∷ [])
    → Grows image f events e now (done_at image (place_in x) e) (behind image f.teller.settings.depth (place_in x) e)
grows_by image x f events e now acc ran st stands =
    let t = f.teller in
    let s = t.settings in
    let most = f.places.stack_depth in
    let does = effect_of image (place_in x) e in
    let p = f.places.places in
    let ordered : Places → List Order = λ p. orders_on x.current p does in
    let told = ordered (places_behind image s most events) in
    let agree = acc.agree in
    let suits = suits_so image s.depth x.current e acc.passes in
    let many : length f.places.window.p0s ≡ p0s (held_by x.current) = ap length agree.elements ∙ elements_many (held_by x.current) in
    let same = follows_as image s.depth x.current f does suits many in
    record {
      stands = subst (λ (g : Follower). StandsAt image (kept_of now g) (events ++ e ∷ [])) (sym same) (record {
        given = events_more s events e st.given acc.given;
        most = st.most;
        run = stands;
        places =
            ap (λ room. places_on image room most x.current p does) agree.room
            ∙ ap (λ (p : Places). places_on image s.depth most x.current p does) st.places
            ∙ sym (places_grow image s most events x e ran);
        waiting =
            ap (λ (p : Places). waits_all s.depth t.waiting (ordered p)) st.places
            ∙ ap (λ (u : PutOff). waits_all s.depth u (ordered (places_behind image s most events))) st.waiting
            ∙ sym (waiting_grows image s most events x e ran);
        shared =
            ap (λ (p : Places). shared_all t.shared (ordered p)) st.places
            ∙ ap (λ (h : Shared). shared_all h (ordered (places_behind image s most events))) st.shared
            ∙ sym (shared_grows image s most events x e ran);
        counts =
            window_counts s.depth x.current f.places.window does suits agree.room agree.elements
            ∙ ap (λ (c : Counts). counts_by s.depth x.current c does) st.counts
            ∙ sym (counts_grow image s.depth events x e ran);
      });
      wrote =
          written_grows image s most events x e ran
          ∙ ap (λ l. written image s most events ++ l)
          (sym (ap (bytes_all t) (orders_so image s.depth x.current f does suits many)
          ∙ bytes_all_are t (ordered p)
          ∙ ap (λ (p : Places). spelled s (packets_all s.depth t.waiting t.shared (ordered p))) st.places
          ∙ ap (λ (u : PutOff). spelled s (packets_all s.depth u t.shared told)) st.waiting
          ∙ ap (λ (h : Shared). spelled s (packets_all s.depth (waiting_behind image s most events) h told)) st.shared));
    }

grows_there : (image : Image) (run : RunKept) (f : Follower) (events : List Event) (e : Event) (now : RunKept) → Accepts image run f e
    → StandsAt image (kept_of run f) events → RunStandsAt image f.teller.settings now (events ++ e ∷ [])
    → Grows image f events e now (done_at image run.place e) (behind image run.depth run.place e)
grows_there image run f events e now acc st stands =
    let x = st.run.execution in
    let P : RunKept → Type 0 = λ run. Accepts image run f e → StandsAt image (kept_of run f) events
    → Grows image f events e now (done_at image run.place e) (behind image run.depth run.place e) in
    let same : run ≡ record { depth = f.teller.settings.depth; place = place_in x } =
    ap (λ d. record run { depth = d }) st.run.depth ∙ ap (λ place. record { depth = f.teller.settings.depth; place = place }) st.run.place in
    let ran : run_after image f.teller.settings.depth events ≡ Ok x = st.run.after in
    subst P (sym same) (λ acc st. grows_by image x f events e now acc ran st stands) acc st

pub grows : (image : Image) (run : RunKept) (f : Follower) (events : List Event) (e : Event) (now : RunKept) (did : Done) (place : Option Situation)
    → Accepts image run f e → did ≡ done_at image run.place e → place ≡ behind image run.depth run.place e → StandsAt image (kept_of run f) events
    → RunStandsAt image f.teller.settings now (events ++ e ∷ []) → Grows image f events e now did place
grows image run f events e now did place acc same there st stands =
    subst (λ did. Grows image f events e now did place) (sym same)
    (subst (Grows image f events e now (done_at image run.place e)) (sym there) (grows_there image run f events e now acc st stands))

-- ---- the end

held_many : (current : Option Running) → p0s (held_by current) ≡ unretired current
held_many None = refl
held_many (Some r) = refl

-- as many are lost as are not retired
pub lost_are : (image : Image) (run : RunKept) (f : Follower) (events : List Event) (x : Execution) → Agree run f → StandsAt image (kept_of run f) events
    → run_after image f.teller.settings.depth events ≡ Ok x → (windowed_lost f.places.window).counts
    ≡ counts_lost (unretired x.current) (counts_of image f.teller.settings.depth events)
lost_are image run f events x agree st ran =
    let same : st.run.execution ≡ x = same_execution st.run.execution x (sym st.run.after ∙ ran) in
    let many : length f.places.window.p0s ≡ unretired x.current =
    ap length agree.elements ∙ elements_many (held_at run.place) ∙ ap (λ place. p0s (held_at place)) (st.run.place ∙ ap place_in same) ∙ held_many x.current in
    ap (λ n. counts_lost n f.places.window.counts) many ∙ ap (counts_lost (unretired x.current)) st.counts

pub lost_of : (image : Image) (run : RunKept) (f : Follower) (k : Kept) (events : List Event) (x : Execution) → Agree run f → kept_of run f ≡ k
    → StandsAt image k events → run_after image k.settings.depth events ≡ Ok x
    → (windowed_lost f.places.window).counts ≡ counts_lost (unretired x.current) (counts_of image k.settings.depth events)
lost_of image run f k events x agree same =
    subst (λ (k : Kept). StandsAt image k events → run_after image k.settings.depth events ≡ Ok x
    → (windowed_lost f.places.window).counts ≡ counts_lost (unretired x.current) (counts_of image k.settings.depth events))
    same (lost_are image run f events x agree)

-- what is settled is what is pending
pub settles : (image : Image) (run : RunKept) (f : Follower) (k : Kept) (events : List Event) → kept_of run f ≡ k → StandsAt image k events
    → bytes_of f.teller Settle ≡ pending image k.settings k.stack_depth events
settles image run f k events same =
    subst (λ (k : Kept). StandsAt image k events → bytes_of f.teller Settle ≡ pending image k.settings k.stack_depth events) same
    (λ st. ap (λ (u : PutOff). spelled f.teller.settings (settle_packets f.teller.settings.depth u)) st.waiting)
