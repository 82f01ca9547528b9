-- What one event prints, and events one behind the other.
use Rattle.std.proofs.Common.{◌≡◌, ℕ, zero, suc, ◌+◌, ◌-◌, ◌<◌, List, [], ◌∷◌, ◌++◌, length, take, drop, replicate, Option, Some, None, Result, Ok, Err}
use Rattle.std.proofs.Common.{refl, sym, ap, subst, ◌∙◌, append_assoc, append-nil, arith}
use Rattle.std.proofs.lemmas.List.{replicate-append-replicate, replicate_more, take-append-drop}
use Rattle.std.specs.Option.{option_map}
use Rattle.std.specs.Prelude.{IsOk, ⊤}
use Rattle.etm_types.specs.Settings.{Sizes}
use Rattle.etm_types.specs.declared.context.Ctx.{Ctx}
use Rattle.etm_types.specs.declared.item.Item.{Item}
use Rattle.etm_types.specs.declared.item.Item.TheVariants as item
use Rattle.path_text.proofs.LineLemmas.{lines_of-append, shown_after_all-append}
use Rattle.path_text.proofs.Wrote.{Wrote, fails_after, fails_first, then_writes, writes_all, wrote_by, wrote_more}
use Rattle.path_text.specs.PathLines.{lines_of, shown_after_all}
use Rattle.path_text.specs.Writing.{Writes}
use Rattle.program_image.specs.Blocks.{HasGap}
use Rattle.program_image.specs.declared.image.Image.{Image}
use Rattle.spec_run.proofs.EventsJoined.{events_front, events_joined, passed, same_execution}
use Rattle.spec_run.proofs.EventsKept.{executed_so}
use Rattle.spec_run.proofs.PathFollows.{few, follows}
use Rattle.spec_run.proofs.PathGrows.{event_adds, items_joined}
use Rattle.spec_run.proofs.StepLists.{steps_front}
use Rattle.spec_run.specs.Blocks.{fresh}
use Rattle.spec_run.specs.Checks.{Situation, check, effect_of, exception_at, held_at, place_of, ran_by}
use Rattle.spec_run.specs.Effects.{applied_on, done_of}
use Rattle.spec_run.specs.Executed.{AreSteps, IsRunningBy}
use Rattle.spec_run.specs.RetiredItems.{added_by, items_behind, retired_of}
use Rattle.spec_run.specs.RunAfter.{AreEvents, after_event, place_in, run_after}
use Rattle.spec_run.specs.Runs.{Closing, Execution, Running}
use Rattle.spec_run.specs.Stands.{Kept, OpenBlock, PathStandsAt, StandsAt}
use Rattle.spec_run.specs.declared.effect.Effect.{Effect}
use Rattle.spec_run.specs.declared.effect.Effect.TheVariants as effect
use Rattle.spec_run.specs.declared.event.Done.{Done}
use Rattle.spec_run.specs.declared.event.Event.{Event}
use Rattle.spec_run.specs.declared.event.Event.TheVariants as event
use Rattle.spec_run.specs.declared.step.RunStep.{RunStep}
use Rattle.retired_paths.proofs.RetiredSteps.{nothing_behind}
use Rattle.retired_paths.specs.Retired.{items_after}
use Rattle.retired_paths.specs.Retiring.{CanGoOn, CanRetire, CanShow, IsRetiring, PrintsRetired, StandsBehind, StandsDone, asked, events_with, items_done}
use Rattle.retired_paths.specs.Retiring.{retired_items}
use Rattle.retired_paths.specs.declared.retiring.Retiring.{Retiring}
use Rattle.trace_io.specs.State.{IoState}
use Rattle.trace_io.specs.declared.traits.Failed.{Failed}

-- ---- where a retired path stands

-- while tracing is on, these are the retired steps
abbrev pub IsAt : Option Running → List RunStep → Type 0
IsAt None steps = ⊤
IsAt (Some r) steps = steps ≡ r.retired

pub stood_at : (path : OpenBlock) (current : Option Running) → StandsBehind path current
    → (steps : List RunStep) × PathStandsAt path steps × IsAt current steps
stood_at path None at = (at.0, at.1, tt)
stood_at path (Some r) at = (r.retired, at, refl)

none_held : (n : ℕ) → 0 < length (take {A = RunStep} n []) → ⊥
none_held zero lt = absurd (omega (arith, lt))
none_held (suc n) lt = absurd (omega (arith, lt))

-- the steps that a retire takes follow those that are retired
pub can_retire : (image : Image) (t : Retiring) (current : Option Running) (n : ℕ) → HasGap image → IsRunningBy image current → StandsBehind t.path current
    → 0 < length (take n (held_at (option_map place_of current))) → CanRetire t (take n (held_at (option_map place_of current)))
can_retire image t None n gap is at lt = absurd (none_held n lt)
can_retire image t (Some r) n gap is at lt =
    let parts : r.retired ++ r.held ≡ (r.retired ++ take n r.held) ++ drop n r.held =
    ap (λ l. r.retired ++ l) (sym (take-append-drop n r.held)) ∙ sym (append_assoc r.retired (take n r.held) (drop n r.held)) in
    record {
      image = image;
      gap = gap;
      start = r.start;
      first = is.first;
      steps = r.retired;
      place = is.place;
      are = steps_front image (fresh r.start) is.first (r.retired ++ take n r.held) (drop n r.held)
          (subst (AreSteps image (fresh r.start) is.first) parts is.are);
      stands = at;
    }

-- ---- what an effect adds, and where the retired path stands behind it

record Quiet (image : Image) (depth : ℕ) (closed : List (List RunStep × Closing)) (r : Running) (does : Effect) : Type 0 where
  pub items : added_by depth (Some r) does ≡ items_behind r.retired [] ++ items_done depth (r.retired ++ []) (done_of r.held does)
  pub path : (path : OpenBlock) → StandsDone depth path (r.retired ++ []) (done_of r.held does)
      → StandsBehind path (applied_on image depth (record { closed = closed; current = Some r }) (Some r) does).current
  pub show : HasGap image → IsRunningBy image (applied_on image depth (record { closed = closed; current = Some r }) (Some r) does).current
      → (path : OpenBlock) → PathStandsAt path (r.retired ++ []) → CanShow depth path (done_of r.held does)

adds_nothing : (steps : List RunStep) → [] ≡ items_behind steps [] ++ []
adds_nothing steps = sym (append-nil (items_behind steps []) ∙ nothing_behind steps)

adds_one : (steps : List RunStep) (i : Item) → i ∷ [] ≡ items_behind steps [] ++ i ∷ []
adds_one steps i = ap (λ l. l ++ i ∷ []) (sym (nothing_behind steps))

same_steps : (path : OpenBlock) (steps : List RunStep) → PathStandsAt path (steps ++ []) → PathStandsAt path steps
same_steps path steps at = subst (PathStandsAt path) (append-nil steps) at

ran_quiet : (image : Image) (depth : ℕ) (closed : List (List RunStep × Closing)) (r : Running) (t : RunStep) (ctx : Ctx)
    → Quiet image depth closed r (effect.Ran t ctx)
ran_quiet image zero closed r t ctx = record {
  items = items_joined r.retired [] (t ∷ []);
  path = λ path at. subst (λ l. PathStandsAt path (l ++ t ∷ [])) (append-nil r.retired) at;
  show = λ gap is path at none.
      let are : AreSteps image (fresh r.start) is.first (r.retired ++ t ∷ r.held) =
      subst (AreSteps image (fresh r.start) is.first) (append_assoc r.retired (t ∷ []) r.held) is.are in
      let stands = same_steps path r.retired at in
      let taken = follows image r.start is.first r.retired r.held t path is.place are stands in
      (taken, few image r.start is.first r.retired (t ∷ r.held) path gap is.place are stands);
}
ran_quiet image (suc depth) closed r t ctx = record {
  items = adds_nothing r.retired;
  path = λ path at. same_steps path r.retired at;
  show = λ gap is path at none. absurd (omega (arith, none));
}

abbrev pub IsQuiet : Effect → Type 0
IsQuiet (effect.Began addr ctx) = ⊥
IsQuiet (effect.Retired n) = ⊥
IsQuiet does = ⊤

quiet : (image : Image) (depth : ℕ) (closed : List (List RunStep × Closing)) (r : Running) (does : Effect) → IsQuiet does → Quiet image depth closed r does
quiet image depth closed r (effect.Began addr ctx) is = absurd is
quiet image depth closed r (effect.Retired n) is = absurd is
quiet image depth closed r (effect.Ran t ctx) is = ran_quiet image depth closed r t ctx
quiet image depth closed r (effect.Contexted ctx) is =
    record { items = adds_nothing r.retired; path = λ path at. same_steps path r.retired at; show = λ gap is path at. tt }
quiet image depth closed r (effect.Cancelled n) is =
    record { items = adds_nothing r.retired; path = λ path at. same_steps path r.retired at; show = λ gap is path at. tt }
quiet image depth closed r effect.Flipped is =
    record { items = adds_nothing r.retired; path = λ path at. same_steps path r.retired at; show = λ gap is path at. tt }
quiet image depth closed r effect.Synced is =
    record { items = adds_nothing r.retired; path = λ path at. same_steps path r.retired at; show = λ gap is path at. tt }
quiet image depth closed r effect.Overflowed is =
    record { items = adds_one r.retired item.Gap; path = λ path at. at; show = λ gap is path at. tt }
quiet image depth closed r effect.Stopped is =
    record { items = adds_one r.retired item.Stop; path = λ path at. at; show = λ gap is path at. tt }

quiet_ran_by : (step : Option (RunStep × Ctx)) → IsQuiet (ran_by step)
quiet_ran_by None = tt
quiet_ran_by (Some step) = tt

-- ---- what an event adds: what it retires at once, and what its answer says

abbrev pub taken_by : Option Running → Event → List RunStep
taken_by current e = take (asked e) (held_at (option_map place_of current))

abbrev pub answer_by : Image → Option Running → Event → Done
answer_by image current e = done_of (held_at (option_map place_of current)) (effect_of image (option_map place_of current) e)

-- the same, by what a run keeps
pub taken_is : (n : ℕ) (was : Kept) (current : Option Running) (e : Event) → n ≡ asked e → was.place ≡ option_map place_of current
    → take n (held_at was.place) ≡ taken_by current e
taken_is n was current e is place = ap (λ k. take k (held_at was.place)) is ∙ ap (λ (p : Option Situation). take (asked e) (held_at p)) place

pub answer_is : (image : Image) (was now : Kept) (current : Option Running) (e : Event) (answer : Done) → now ≡ was
    → was.place ≡ option_map place_of current → answer ≡ done_of (held_at now.place) (effect_of image now.place e) → answer ≡ answer_by image current e
answer_is image was now current e answer same place is =
    is ∙ ap (λ (r : Kept). done_of (held_at r.place) (effect_of image r.place e)) same
    ∙ ap (λ (p : Option Situation). done_of (held_at p) (effect_of image p e)) place

pub record Parts (image : Image) (depth : ℕ) (closed : List (List RunStep × Closing)) (current : Option Running) (e : Event) (steps : List RunStep)
    : Type 0 where
  pub items : added_by depth current (effect_of image (option_map place_of current) e)
      ≡ items_behind steps (taken_by current e) ++ items_done depth (steps ++ taken_by current e) (answer_by image current e)
  pub path : (path : OpenBlock) → StandsDone depth path (steps ++ taken_by current e) (answer_by image current e)
      → StandsBehind path (after_event image depth (record { closed = closed; current = current }) e).current
  pub show : HasGap image → IsRunningBy image (after_event image depth (record { closed = closed; current = current }) e).current
      → (path : OpenBlock) → PathStandsAt path (steps ++ taken_by current e) → CanShow depth path (answer_by image current e)

parts_on : (image : Image) (depth : ℕ) (closed : List (List RunStep × Closing)) (r : Running) (e : Event) → check image depth (Some (place_of r)) e ≡ None
    → Parts image depth closed (Some r) e r.retired
parts_on image depth closed r (event.On addr ctx) ok = absurd cc
parts_on image depth closed r (event.Retire n) ok = record {
  items = sym (append-nil (items_behind r.retired (take n r.held)));
  path = λ path at. at;
  show = λ gap is path at. tt;
}
parts_on image depth closed r (event.Exc kind addr ctx) ok =
    let q = quiet image depth closed r (effect.Ran (exception_at (place_of r) kind addr) ctx) tt in record { items = q.items; path = q.path; show = q.show }
parts_on image depth closed r (event.Context ctx) ok =
    let q = quiet image depth closed r (effect.Contexted ctx) tt in record { items = q.items; path = q.path; show = q.show }
parts_on image depth closed r (event.Cancel n) ok =
    let q = quiet image depth closed r (effect.Cancelled n) tt in record { items = q.items; path = q.path; show = q.show }
parts_on image depth closed r event.Flip ok = let q = quiet image depth closed r effect.Flipped tt in record { items = q.items; path = q.path; show = q.show }
parts_on image depth closed r event.Sync ok = let q = quiet image depth closed r effect.Synced tt in record { items = q.items; path = q.path; show = q.show }
parts_on image depth closed r event.Overflow ok =
    let q = quiet image depth closed r effect.Overflowed tt in record { items = q.items; path = q.path; show = q.show }
parts_on image depth closed r event.Off ok = let q = quiet image depth closed r effect.Stopped tt in record { items = q.items; path = q.path; show = q.show }
parts_on image depth closed r event.Step ok =
    let q = quiet image depth closed r (effect_of image (Some (place_of r)) event.Step) (quiet_ran_by _) in
    record { items = q.items; path = q.path; show = q.show }
parts_on image depth closed r event.Taken ok =
    let q = quiet image depth closed r (effect_of image (Some (place_of r)) event.Taken) (quiet_ran_by _) in
    record { items = q.items; path = q.path; show = q.show }
parts_on image depth closed r event.NotTaken ok =
    let q = quiet image depth closed r (effect_of image (Some (place_of r)) event.NotTaken) (quiet_ran_by _) in
    record { items = q.items; path = q.path; show = q.show }
parts_on image depth closed r (event.To addr) ok =
    let q = quiet image depth closed r (effect_of image (Some (place_of r)) (event.To addr)) (quiet_ran_by _) in
    record { items = q.items; path = q.path; show = q.show }
parts_on image depth closed r (event.Eret addr ctx) ok =
    let q = quiet image depth closed r (effect_of image (Some (place_of r)) (event.Eret addr ctx)) (quiet_ran_by _) in
    record { items = q.items; path = q.path; show = q.show }

parts_off : (image : Image) (depth : ℕ) (closed : List (List RunStep × Closing)) (e : Event) (steps : List RunStep) → check image depth None e ≡ None
    → Parts image depth closed None e steps
parts_off image depth closed (event.On addr ctx) steps ok =
    record { items = adds_nothing steps; path = λ path at. at; show = λ gap is path at. tt }
parts_off image depth closed e steps ok = absurd cc

pub parts_of : (image : Image) (depth : ℕ) (closed : List (List RunStep × Closing)) (current : Option Running) (e : Event) (steps : List RunStep)
    → IsAt current steps → check image depth (option_map place_of current) e ≡ None → Parts image depth closed current e steps
parts_of image depth closed None e steps at ok = parts_off image depth closed e steps ok
parts_of image depth closed (Some r) e steps at ok =
    subst (Parts image depth closed (Some r) e) (sym at) (parts_on image depth closed r e ok)

-- ---- an event that is accepted behind others

pub front_are : (s : Sizes) (events more : List Event) → AreEvents s (events ++ more) → AreEvents s events
front_are s [] more are = tt
front_are s (e ∷ events) more are = (are.0, front_are s events more are.1)

record Accepted (image : Image) (s : Sizes) (events : List Event) (e : Event) (x : Execution) : Type 0 where
  pub passed : check image s.depth (place_in x) e ≡ None
  pub after : run_after image s.depth (events ++ e ∷ []) ≡ Ok (after_event image s.depth x e)
  pub grows : retired_items image s (events ++ e ∷ []) ≡ retired_items image s events ++ added_by s.depth x.current (effect_of image (place_in x) e)

accepted_so : (image : Image) (s : Sizes) (events : List Event) (e : Event) (x y : Execution) → run_after image s.depth events ≡ Ok x
    → run_after image s.depth (events ++ e ∷ []) ≡ Ok y → Accepted image s events e x
accepted_so image s events e x y before after =
    let joined = events_joined image s.depth events (e ∷ []) x before in
    let p = passed (check image s.depth (place_in x) e) (length events) (Ok (after_event image s.depth x e)) y (sym joined ∙ after) in
    let is : run_after image s.depth (events ++ e ∷ []) ≡ Ok (after_event image s.depth x e) = after ∙ sym p.1 in
    record {
      passed = p.0;
      after = is;
      grows = ap items_after is ∙ event_adds image s.depth x e
          ∙ ap (λ o. items_after o ++ added_by s.depth x.current (effect_of image (place_in x) e)) (sym before);
    }

pub record Went (image : Image) (s : Sizes) (events : List Event) (e : Event) (x : Execution) : Type 0 where
  pub passed : check image s.depth (place_in x) e ≡ None
  pub after : run_after image s.depth (events ++ e ∷ []) ≡ Ok (after_event image s.depth x e)
  pub grows : retired_items image s (events ++ e ∷ []) ≡ retired_items image s events ++ added_by s.depth x.current (effect_of image (place_in x) e)
  pub before : IsRunningBy image x.current
  pub running : IsRunningBy image (after_event image s.depth x e).current

pub went : (image : Image) (s : Sizes) (t : Retiring) (events : List Event) (e : Event) (can : CanGoOn image s t events (events ++ e ∷ []))
    → Went image s events e can.stands.run.execution
went image s t events e can =
    let x = can.stands.run.execution in
    let a = accepted_so image s events e x can.execution can.stands.run.after can.accepted in
    record {
      passed = a.passed;
      after = a.after;
      grows = a.grows;
      before = (executed_so image s events x (front_are s events (e ∷ []) can.are) can.stands.run.after).0;
      running = (executed_so image s (events ++ e ∷ []) (after_event image s.depth x e) can.are a.after).0;
    }

-- ---- an event is printed

-- the retired path grows by what is retired at once, and by what the answer says
abbrev pub grows_by : Image → Sizes → List RunStep → List RunStep → Done → List Item
grows_by image s steps taken answer = items_behind steps taken ++ items_done s.depth (steps ++ taken) answer

grown_so : (image : Image) (s : Sizes) (events : List Event) (e : Event) (x : Execution) (steps taken : List RunStep) (answer : Done)
    → Went image s events e x → Parts image s.depth x.closed x.current e steps → taken ≡ taken_by x.current e → answer ≡ answer_by image x.current e
    → retired_items image s (events ++ e ∷ []) ≡ retired_items image s events ++ grows_by image s steps taken answer
grown_so image s events e x steps taken answer w p same is =
    w.grows ∙ ap (λ l. retired_items image s events ++ l)
    (p.items ∙ ap (λ l. grows_by image s steps l (answer_by image x.current e)) (sym same) ∙ ap (grows_by image s steps taken) (sym is))

pub prints : (image : Image) (s : Sizes) (id : ℕ) (t t' : Retiring) (events : List Event) (e : Event) (can : CanGoOn image s t events (events ++ e ∷ []))
    (steps taken : List RunStep) (answer : Done) (shown : Option Ctx) (a b c : IoState) (result : Result (Unit {0}) Failed)
    → Parts image s.depth can.stands.run.execution.closed can.stands.run.execution.current e steps
    → taken ≡ taken_by can.stands.run.execution.current e → answer ≡ answer_by image can.stands.run.execution.current e
    → shown ≡ shown_after_all t.shown (items_behind steps taken) → Wrote a b (lines_of id t.shown (items_behind steps taken))
    → Writes b c result (lines_of id shown (items_done s.depth (steps ++ taken) answer))
    → (IsOk result → t'.shown ≡ shown_after_all shown (items_done s.depth (steps ++ taken) answer))
    → StandsDone s.depth t'.path (steps ++ taken) answer → t'.depth ≡ s.depth → StandsAt image s t'.run (events ++ e ∷ [])
    → PrintsRetired image s id t events t' (events ++ e ∷ []) a c result
prints image s id t t' events e can steps taken answer shown a b c result p same is context wrote writes now path depth run =
    let x = can.stands.run.execution in
    let w = went image s t events e can in
    let y = after_event image s.depth x e in
    let at_once = items_behind steps taken in
    let behind = items_done s.depth (steps ++ taken) answer in
    let grows = grown_so image s events e x steps taken answer w p same is in
    let text : lines_of id t.shown at_once ++ lines_of id shown behind ≡ lines_of id t.shown (at_once ++ behind) =
    ap (λ m. lines_of id t.shown at_once ++ lines_of id m behind) context ∙ sym (lines_of-append id t.shown at_once behind) in
    record {
      more = at_once ++ behind;
      grows = grows;
      printed = then_writes a b c result (lines_of id t.shown at_once) (lines_of id shown behind) (lines_of id t.shown (at_once ++ behind)) text wrote writes;
      stands = λ ok. record {
        depth = depth;
        run = record {
          depth = run.depth;
          execution = y;
          after = w.after;
          place = run.place ∙ ap place_in (same_execution run.execution y (sym run.after ∙ w.after));
        };
        path = p.path t'.path (subst (λ d. StandsDone s.depth t'.path (steps ++ taken_by x.current e) d) is
            (subst (λ l. StandsDone s.depth t'.path (steps ++ l) answer) same path));
        shown = now ok ∙ ap (λ m. shown_after_all m behind) context ∙ sym (shown_after_all-append t.shown at_once behind)
            ∙ ap (λ m. shown_after_all m (at_once ++ behind)) can.stands.shown
            ∙ sym (shown_after_all-append None (retired_of x) (at_once ++ behind))
            ∙ ap (λ o. shown_after_all None (items_after o ++ (at_once ++ behind))) (sym can.stands.run.after)
            ∙ ap (shown_after_all None) (sym grows) ∙ ap (λ o. shown_after_all None (items_after o)) w.after;
      };
    }

-- the first write failed
pub fails_to_print : (image : Image) (s : Sizes) (id : ℕ) (t t' : Retiring) (events : List Event) (e : Event)
    (can : CanGoOn image s t events (events ++ e ∷ [])) (steps taken : List RunStep) (answer : Done) (a b : IoState) (f d : Failed)
    → Parts image s.depth can.stands.run.execution.closed can.stands.run.execution.current e steps
    → taken ≡ taken_by can.stands.run.execution.current e → answer ≡ answer_by image can.stands.run.execution.current e
    → Writes {T = Unit {0}} a b (Err f) (lines_of id t.shown (items_behind steps taken)) → PrintsRetired image s id t events t' (events ++ e ∷ []) a b (Err d)
fails_to_print image s id t t' events e can steps taken answer a b f d p same is writes =
    let x = can.stands.run.execution in
    let w = went image s t events e can in
    let at_once = items_behind steps taken in
    let behind = items_done s.depth (steps ++ taken) answer in
    record {
      more = at_once ++ behind;
      grows = grown_so image s events e x steps taken answer w p same is;
      printed = fails_first a b f d (lines_of id t.shown at_once) (lines_of id (shown_after_all t.shown at_once) behind)
          (lines_of id t.shown (at_once ++ behind)) (sym (lines_of-append id t.shown at_once behind)) writes;
      stands = λ no. absurd cc;
    }

-- ---- events one behind the other

-- what is added by two is added by both
added_on : {X : Type 0} (all front first one more : List X) → all ≡ front ++ more → front ≡ first ++ one → all ≡ first ++ (one ++ more)
added_on all front first one more e f = e ∙ ap (λ l. l ++ more) f ∙ append_assoc first one more

-- what an event adds, and others behind it
one_grows : (image : Image) (s : Sizes) (events all : List Event) (e : Event) (x y : Execution) (rest : List Item) → run_after image s.depth events ≡ Ok x
    → run_after image s.depth (events ++ e ∷ []) ≡ Ok y
    → retired_items image s all ≡ retired_items image s (events ++ e ∷ []) ++ rest
    → (items : List Item) × (retired_items image s all ≡ retired_items image s events ++ items)
one_grows image s events all e x y rest before after grows =
    let added = added_by s.depth x.current (effect_of image (place_in x) e) in (
      added ++ rest,
      added_on (retired_items image s all) (retired_items image s (events ++ e ∷ [])) (retired_items image s events) added rest grows
          (accepted_so image s events e x y before after).grows,
    )

-- what more events add to the retired path
pub path_grows : (image : Image) (s : Sizes) (events more : List Event) (y : Execution) → run_after image s.depth (events ++ more) ≡ Ok y
    → (items : List Item) × (retired_items image s (events ++ more) ≡ retired_items image s events ++ items)
path_grows image s events [] y ok = ([], ap (retired_items image s) (append-nil events) ∙ sym (append-nil (retired_items image s events)))
path_grows image s events (e ∷ more) y ok =
    let same = append_assoc events (e ∷ []) more in
    let on : run_after image s.depth ((events ++ e ∷ []) ++ more) ≡ Ok y = ap (run_after image s.depth) same ∙ ok in
    let one = events_front image s.depth (events ++ e ∷ []) more y on in
    let none = events_front image s.depth events (e ∷ []) one.0 one.1 in
    let rest = path_grows image s (events ++ e ∷ []) more y on in
    one_grows image s events (events ++ e ∷ more) e none.0 one.0 rest.0 none.1 one.1 (ap (retired_items image s) (sym same) ∙ rest.1)

-- events were run, and all of what they retire was printed
pub record Printed (image : Image) (s : Sizes) (id : ℕ) (t : Retiring) (events : List Event) (t' : Retiring) (all : List Event) (old new : IoState)
    : Type 0 where
  pub more : List Item
  pub grows : retired_items image s all ≡ retired_items image s events ++ more
  pub wrote : Wrote old new (lines_of id t.shown more)
  pub stands : IsRetiring image s t' all

-- the context that was printed last
pub shown_by_all : (image : Image) (s : Sizes) (id : ℕ) (t : Retiring) (events : List Event) → IsRetiring image s t events
    → t.shown ≡ shown_after_all None (retired_items image s events)
shown_by_all image s id t events is = is.shown ∙ ap (λ o. shown_after_all None (items_after o)) (sym is.run.after)

pub shown_on : (image : Image) (s : Sizes) (id : ℕ) (t t' : Retiring) (events all : List Event) (more : List Item) → IsRetiring image s t events
    → IsRetiring image s t' all → retired_items image s all ≡ retired_items image s events ++ more → t'.shown ≡ shown_after_all t.shown more
shown_on image s id t t' events all more was now grows =
    shown_by_all image s id t' all now ∙ ap (shown_after_all None) grows ∙ shown_after_all-append None (retired_items image s events) more
    ∙ ap (λ c. shown_after_all c more) (sym (shown_by_all image s id t events was))

-- the lines of some items and of others behind them
lines_on : (image : Image) (s : Sizes) (id : ℕ) (t t' : Retiring) (events all : List Event) (more others : List Item) → IsRetiring image s t events
    → IsRetiring image s t' all → retired_items image s all ≡ retired_items image s events ++ more
    → lines_of id t.shown more ++ lines_of id t'.shown others ≡ lines_of id t.shown (more ++ others)
lines_on image s id t t' events all more others was now grows =
    ap (λ c. lines_of id t.shown more ++ lines_of id c others) (shown_on image s id t t' events all more was now grows)
    ∙ sym (lines_of-append id t.shown more others)

pub printed_more : (image : Image) (s : Sizes) (id : ℕ) (t t' t'' : Retiring) (events all others : List Event) (a b c : IoState) (u : Unit {0})
    → IsRetiring image s t events → Printed image s id t events t' all a b → PrintsRetired image s id t' all t'' others b c (Ok u)
    → Printed image s id t events t'' others a c
printed_more image s id t t' t'' events all others a b c u was p q =
    record {
      more = p.more ++ q.more;
      grows = added_on (retired_items image s others) (retired_items image s all) (retired_items image s events) p.more q.more q.grows p.grows;
      wrote = subst (Wrote a c) (lines_on image s id t t' events all p.more q.more was p.stands p.grows)
          (wrote_more a b c (lines_of id t.shown p.more) (lines_of id t'.shown q.more) p.wrote (wrote_by b c u (lines_of id t'.shown q.more) q.printed));
      stands = q.stands refl;
    }

-- a write failed, and more events come behind it
pub printed_front : (image : Image) (s : Sizes) (id : ℕ) (t t' t'' : Retiring) (events all others more : List Event) (y : Execution) (a b c : IoState)
    (f d : Failed) → IsRetiring image s t events → run_after image s.depth (others ++ more) ≡ Ok y → Printed image s id t events t' all a b
    → PrintsRetired image s id t' all t'' others b c (Err f) → PrintsRetired image s id t events t'' (others ++ more) a c (Err d)
printed_front image s id t t' t'' events all others more y a b c f d was ok p q =
    let rest = path_grows image s others more y ok in
    let first = lines_of id t.shown p.more in
    let failed = lines_of id t'.shown q.more in
    let behind = lines_of id (shown_after_all t.shown (p.more ++ q.more)) rest.0 in
    let text : first ++ (failed ++ behind) ≡ lines_of id t.shown ((p.more ++ q.more) ++ rest.0) =
    sym (append_assoc first failed behind)
    ∙ ap (λ l. l ++ behind) (lines_on image s id t t' events all p.more q.more was p.stands p.grows)
    ∙ sym (lines_of-append id t.shown (p.more ++ q.more) rest.0) in
    record {
      more = (p.more ++ q.more) ++ rest.0;
      grows = added_on (retired_items image s (others ++ more)) (retired_items image s others) (retired_items image s events) (p.more ++ q.more) rest.0
          rest.1 (added_on (retired_items image s others) (retired_items image s all) (retired_items image s events) p.more q.more q.grows p.grows);
      printed = fails_after a b c f d first failed behind (lines_of id t.shown ((p.more ++ q.more) ++ rest.0)) text p.wrote q.printed;
      stands = λ no. absurd cc;
    }

pub printed_all : (image : Image) (s : Sizes) (id : ℕ) (t t' : Retiring) (events all : List Event) (a b : IoState) (u : Unit {0})
    → Printed image s id t events t' all a b → PrintsRetired image s id t events t' all a b (Ok u)
printed_all image s id t t' events all a b u p =
    record { more = p.more; grows = p.grows; printed = writes_all a b u (lines_of id t.shown p.more) p.wrote; stands = λ ok. p.stands }

-- ---- an event that comes several times

pub parted : (events : List Event) (e : Event) (times k : ℕ) → k < times
    → events_with events times e ≡ (events_with events k e ++ e ∷ []) ++ replicate (times - (k + 1)) e
parted events e times k lt =
    let whole : k + 1 + (times - (k + 1)) ≡ times = omega (arith, lt) in
    let rest = replicate (times - (k + 1)) e in
    ap (λ n. events ++ replicate n e) (sym whole)
    ∙ ap (λ l. events ++ l) (sym (replicate-append-replicate (k + 1) (times - (k + 1)) e) ∙ ap (λ l. l ++ rest) (sym (replicate_more k e)))
    ∙ sym (append_assoc events (replicate k e ++ e ∷ []) rest) ∙ ap (λ l. l ++ rest) (sym (append_assoc events (replicate k e) (e ∷ [])))

pub once_more : (events : List Event) (e : Event) (k : ℕ) → events_with events k e ++ e ∷ [] ≡ events_with events (k + 1) e
once_more events e k = append_assoc events (replicate k e) (e ∷ []) ∙ ap (λ l. events ++ l) (replicate_more k e)

pub accepted_times : (image : Image) (s : Sizes) (t : Retiring) (events : List Event) (e : Event) (times k : ℕ) (lt : k < times)
    (can : CanGoOn image s t events (events_with events times e))
    → run_after image s.depth ((events_with events k e ++ e ∷ []) ++ replicate (times - (k + 1)) e) ≡ Ok can.execution
accepted_times image s t events e times k lt can = ap (run_after image s.depth) (sym (parted events e times k lt)) ∙ can.accepted

pub can_more : (image : Image) (s : Sizes) (t t' : Retiring) (events : List Event) (e : Event) (times k : ℕ) → k < times
    → CanGoOn image s t events (events_with events times e) → IsRetiring image s t' (events_with events k e)
    → CanGoOn image s t' (events_with events k e) (events_with events k e ++ e ∷ [])
can_more image s t t' events e times k lt can is =
    let front = events_front image s.depth (events_with events k e ++ e ∷ []) (replicate (times - (k + 1)) e) can.execution
    (accepted_times image s t events e times k lt can) in
    record {
      gap = can.gap;
      are = front_are s (events_with events k e ++ e ∷ []) (replicate (times - (k + 1)) e) (subst (AreEvents s) (parted events e times k lt) can.are);
      execution = front.0;
      accepted = front.1;
      stands = is;
    }

pub front_of_times : (image : Image) (s : Sizes) (id : ℕ) (t t' t'' : Retiring) (events : List Event) (e : Event) (times k : ℕ) (a b c : IoState) (f d : Failed)
    → k < times → CanGoOn image s t events (events_with events times e) → Printed image s id t events t' (events_with events k e) a b
    → PrintsRetired image s id t' (events_with events k e) t'' (events_with events k e ++ e ∷ []) b c (Err f)
    → PrintsRetired image s id t events t'' (events_with events times e) a c (Err d)
front_of_times image s id t t' t'' events e times k a b c f d lt can p q =
    subst (λ all. PrintsRetired image s id t events t'' all a c (Err d)) (sym (parted events e times k lt))
    (printed_front image s id t t' t'' events (events_with events k e) (events_with events k e ++ e ∷ []) (replicate (times - (k + 1)) e) can.execution
    a b c f d can.stands (accepted_times image s t events e times k lt can) p q)
