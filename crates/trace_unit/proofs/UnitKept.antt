-- An event that is accepted is told in few bytes, and keeps what the parts of a unit have in common.
use Rattle.std.proofs.Common.{◌≡◌, ℕ, zero, suc, ◌≤◌, Bool, true, false, if◌then◌else◌, List, [], ◌∷◌, length, Option, Some, None}
use Rattle.std.proofs.Common.{refl, sym, ap, subst, ◌∙◌, arith, length-append}
use Rattle.etm_types.specs.Settings.{Sizes}
use Rattle.program_image.specs.declared.image.Image.{Image}
use Rattle.spec_run.proofs.OneEvent.{place_behind}
use Rattle.spec_run.specs.Checks.{Situation, check, effect_of, held_at}
use Rattle.spec_run.specs.Effects.{done_of, place_after}
use Rattle.spec_run.specs.RunAfter.{IsEvent, after_event}
use Rattle.spec_run.specs.Runs.{Execution, Running}
use Rattle.spec_run.specs.Stands.{Kept as RunKept}
use Rattle.spec_run.specs.Steps.{is_p0, p0s}
use Rattle.spec_run.specs.declared.effect.Effect.{Effect}
use Rattle.spec_run.specs.declared.event.Done.{Done}
use Rattle.spec_run.specs.declared.event.Done.TheVariants as done
use Rattle.spec_run.specs.declared.event.Event.{Event}
use Rattle.trace_unit.proofs.BytesFew.{orders_few, weight, weight_of}
use Rattle.trace_unit.proofs.Elements.{elements_many}
use Rattle.trace_unit.proofs.EventFits.{event_fits}
use Rattle.trace_unit.proofs.EventFollowed.{follow_can, followed_on, follows_so, held_by, orders_allowed, orders_behind}
use Rattle.trace_unit.proofs.EventFollowed.{orders_small, orders_so, place_by}
use Rattle.trace_unit.proofs.EventFollowed.{Suits, window_elements, window_room, windowed_on}
use Rattle.trace_unit.proofs.EventSuits.{is_there, suits_so}
use Rattle.trace_unit.proofs.Ordered.{can_tell, told_all_is}
use Rattle.trace_unit.specs.Agreeing.{Agree, running_by}
use Rattle.trace_unit.specs.Effects.{orders_on, places_on}
use Rattle.trace_unit.specs.Fitting.{FitsPlaces, FitsRun}
use Rattle.trace_unit.specs.Followed.{CanFollow, followed, orders_done, stepped}
use Rattle.trace_unit.specs.Ordered.{CanTellAll, IsReady, bytes_all, bytes_of, told_all}
use Rattle.trace_unit.specs.Orders.{Order, Settle, step_orders}
use Rattle.trace_unit.specs.Packets.{shared_all}
use Rattle.trace_unit.specs.Whole.{waits_all}
use Rattle.trace_unit.specs.declared.follower.Follower.{Follower}
use Rattle.trace_unit.specs.declared.teller.Teller.{Teller}

-- ---- values

pub fits_there : (s : Sizes) (current : Option Running) → FitsRun s current → FitsRun s (running_by (place_by current))
fits_there s None fits = tt
fits_there s (Some r) fits = record { pc = fits.pc; ctx = fits.ctx; held = fits.held; few = fits.few }

pub fits_back : (s : Sizes) (current : Option Running) → FitsRun s (running_by (place_by current)) → FitsRun s current
fits_back s None fits = tt
fits_back s (Some r) fits = record { pc = fits.pc; ctx = fits.ctx; held = fits.held; few = fits.few }

-- ---- what an event does, and where the run is behind it

abbrev pub done_at : Image → Option Situation → Event → Done
done_at image place e = done_of (held_at place) (effect_of image place e)

abbrev pub behind : Image → ℕ → Option Situation → Event → Option Situation
behind image depth place e = place_after image depth place (effect_of image place e)

-- an event that is accepted
pub record Accepts (image : Image) (run : RunKept) (f : Follower) (e : Event) : Type 0 where
  pub agree : Agree run f
  pub given : IsEvent f.teller.settings e
  pub passes : check image run.depth run.place e ≡ None

-- it is told and kept, where this was done and the run is there then
pub record Follows (depth : ℕ) (f : Follower) (did : Done) (place : Option Situation) : Type 0 where
  pub can : CanFollow did place f
  pub tells : CanTellAll f.teller (orders_done did place f)
  pub few : length (bytes_all f.teller (orders_done did place f)) ≤ 128
  pub agree : Agree (record { depth = depth; place = place }) (followed did place f)

-- ---- what is followed, with all that is told at once

abbrev pub told_as : Teller → List Order → Teller
told_as t orders = record { settings = t.settings; waiting = waits_all t.settings.depth t.waiting orders; shared = shared_all t.shared orders }

abbrev pub followed_as : Image → Option Running → Follower → Effect → Follower
followed_as image current f e = record (followed_on image current f e) { teller = told_as f.teller (orders_on current f.places.places e) }

pub follows_as : (image : Image) (depth : ℕ) (current : Option Running) (f : Follower) (e : Effect) → Suits depth current e
    → length f.places.window.p0s ≡ p0s (held_by current)
    → followed (done_of (held_by current) e) (place_after image depth (place_by current) e) f ≡ followed_as image current f e
follows_as image depth current f e suits many =
    follows_so image depth current f e suits many
    ∙ ap (λ (t : Teller). record (followed_on image current f e) { teller = t }) (told_all_is f.teller (orders_on current f.places.places e))

few_waits : (n : ℕ) (t : Teller) → IsReady n t → weight t.waiting ≤ 29
few_waits n t ready = omega (arith, ready.small.atoms, by t.waiting.cancels)
  where
    by : (k : ℕ) → weight_of k ≤ 6
    by zero = omega arith
    by (suc k) = omega arith

follows_by : (image : Image) (current : Option Running) (f : Follower) (e : Event)
    → Accepts image (record { depth = f.teller.settings.depth; place = place_by current }) f e
    → Follows f.teller.settings.depth f (done_at image (place_by current) e) (behind image f.teller.settings.depth (place_by current) e)
follows_by image current f e acc =
    let t = f.teller in
    let s = t.settings in
    let place = place_by current in
    let does = effect_of image place e in
    let p = f.places.places in
    let x : Execution = record { closed = []; current = current } in
    let agree = acc.agree in
    let suits = suits_so image s.depth current e acc.passes in
    let many : length f.places.window.p0s ≡ p0s (held_by current) = ap length agree.elements ∙ elements_many (held_by current) in
    let n = length f.places.window.p0s in
    let ready : IsReady n t = subst (λ n. IsReady n t) (sym many) agree.ready in
    let fit = event_fits image s.depth f.places.stack_depth s x p e acc.given acc.passes (fits_back s current agree.fits) agree.starts in
    let orders = orders_on current p does in
    let allowed = orders_allowed image s.depth current p does n suits ready.few many in
    let told = can_tell t orders n ready allowed fit.0 in
    let same = orders_so image s.depth current f does suits many in
    let elements = window_elements image s.depth current f.places.window does suits agree.room agree.elements in
    let steps = held_at (behind image s.depth place e) in
    let left : length (windowed_on current f.places.window does).p0s ≡ p0s steps = ap length elements ∙ elements_many steps in
    let there = place_behind image s.depth x e acc.passes in
    let kept : Agree (record { depth = s.depth; place = behind image s.depth place e }) (followed_as image current f does) = record {
      depth = refl;
      room = window_room current f.places.window does ∙ agree.room;
      elements = elements;
      ready = subst (λ (t : Teller). IsReady (p0s steps) t) (told_all_is t orders)
          (subst (λ n. IsReady n (told_all t orders)) (orders_behind image s.depth current p f.places.window does suits agree.room many ∙ left) told.1);
      fits = subst (λ place. FitsRun s (running_by place)) there (fits_there s (after_event image s.depth x e).current fit.1);
      starts = subst (λ room. FitsPlaces (places_on image room f.places.stack_depth current p does)) (sym agree.room) fit.2;
    } in
    record {
      can = follow_can image s.depth current f does suits agree.room agree.elements
          (omega (arith, ready.few, many, ready.settings.depth));
      tells = subst (CanTellAll t) (sym same) told.0;
      few = subst (λ l. length (bytes_all t l) ≤ 128) (sym same)
          (omega (arith, orders_few t orders ready.settings, orders_small current p does, few_waits n t ready));
      agree = subst (Agree (record { depth = s.depth; place = behind image s.depth place e })) (sym (follows_as image s.depth current f does suits many)) kept;
    }

follows_there : (image : Image) (run : RunKept) (f : Follower) (e : Event) → Accepts image run f e
    → Follows run.depth f (done_at image run.place e) (behind image run.depth run.place e)
follows_there image run f e acc =
    let P : ℕ → Option Situation → Type 0 = λ depth place.
    Accepts image (record { depth = depth; place = place }) f e → Follows depth f (done_at image place e) (behind image depth place e) in
    let by_place : P f.teller.settings.depth run.place =
    subst (P f.teller.settings.depth) (is_there run.place) (follows_by image (running_by run.place) f e) in
    subst (λ depth. P depth run.place) (sym acc.agree.depth) by_place acc

pub follows : (image : Image) (run : RunKept) (f : Follower) (e : Event) (did : Done) (place : Option Situation) → Accepts image run f e
    → did ≡ done_at image run.place e → place ≡ behind image run.depth run.place e → Follows run.depth f did place
follows image run f e did place acc same there =
    subst (λ did. Follows run.depth f did place) (sym same)
    (subst (Follows run.depth f (done_at image run.place e)) (sym there) (follows_there image run f e acc))

-- ---- what does not change

told_settings : (t : Teller) (orders : List Order) → (told_all t orders).settings ≡ t.settings
told_settings t orders = ap (λ (t : Teller). t.settings) (told_all_is t orders)

-- the settings, and how many return addresses are kept at most
pub followed_keeps : (did : Done) (place : Option Situation) (f : Follower) → ((followed did place f).teller.settings ≡ f.teller.settings)
    × ((followed did place f).places.stack_depth ≡ f.places.stack_depth)
followed_keeps done.Began None f = (refl, refl)
followed_keeps done.Began (Some q) f = (refl, refl)
followed_keeps (done.Ran s) place f = by (is_p0 s)
  where
    by : (b : Bool) → let g : Follower = if b then stepped f s else f in (g.teller.settings ≡ f.teller.settings) × (g.places.stack_depth ≡ f.places.stack_depth)
    by true = (told_settings f.teller (step_orders f.places.places s), refl)
    by false = (refl, refl)
followed_keeps done.Contexted place f = (refl, refl)
followed_keeps (done.Retired n) place f = (refl, refl)
followed_keeps (done.Cancelled n) place f = (refl, refl)
followed_keeps done.Flipped None f = (refl, refl)
followed_keeps done.Flipped (Some q) f = (refl, refl)
followed_keeps done.Synced None f = (refl, refl)
followed_keeps done.Synced (Some q) f = (refl, refl)
followed_keeps done.Overflowed place f = (refl, refl)
followed_keeps done.Stopped place f = (refl, refl)

-- ---- what waits is settled in few bytes

pub settle_few : (n : ℕ) (t : Teller) → IsReady n t → length (bytes_of t Settle) ≤ 128
settle_few n t ready =
    omega (arith, orders_few t (Settle ∷ []) ready.settings, few_waits n t ready, length-append (bytes_of t Settle) [])
