-- Plain steps that are taken together print nothing.
use Rattle.std.proofs.Common.{◌≡◌, ℕ, zero, suc, ◌+◌, ◌^◌, ◌<◌, List, [], ◌∷◌, ◌++◌, length, replicate, Option, Some, None, Ok}
use Rattle.std.proofs.Common.{refl, sym, ap, subst, ◌∙◌, append_assoc, append-nil, arith}
use Rattle.std.specs.Option.{option_map}
use Rattle.etm_types.specs.Settings.{Sizes}
use Rattle.etm_types.specs.declared.context.Ctx.{Ctx}
use Rattle.path_text.proofs.Wrote.{Wrote}
use Rattle.path_text.specs.PathLines.{shown_after_all}
use Rattle.program_image.specs.Blocks.{HasGap, behind}
use Rattle.program_image.specs.declared.image.Image.{Image}
use Rattle.spec_run.proofs.EventsJoined.{events_joined, passed, same_execution}
use Rattle.spec_run.proofs.EventsKept.{executed_so}
use Rattle.spec_run.proofs.ManySteps.{ArePlain, begun_plain, counted_plain, path_shows, path_stands}
use Rattle.spec_run.proofs.OneEvent.{place_behind}
use Rattle.spec_run.proofs.PathFollows.{few, follows}
use Rattle.spec_run.specs.Blocks.{fresh}
use Rattle.spec_run.specs.Checks.{Situation, check, effect_of, place_of}
use Rattle.spec_run.specs.Effects.{applied_on}
use Rattle.spec_run.specs.Executed.{AreSteps, IsPlace, IsRunning, IsRunningBy}
use Rattle.spec_run.specs.ManySteps.{AllPass, IsStepCount, begun_behind_all, plain_step, plain_steps}
use Rattle.spec_run.specs.RetiredItems.{closed_items, retired_of, stretch_items}
use Rattle.spec_run.specs.RunAfter.{AreEvents, after_event, place_in, run_after, run_from}
use Rattle.spec_run.specs.Runs.{Closing, Execution, Running, runs}
use Rattle.spec_run.specs.Stands.{Follows, Kept, OpenBlock, PathStandsAt, StandsAt}
use Rattle.spec_run.specs.declared.effect.Effect.{Effect}
use Rattle.spec_run.specs.declared.effect.Effect.TheVariants as effect
use Rattle.spec_run.specs.declared.event.Event.{Event}
use Rattle.spec_run.specs.declared.event.Event.TheVariants as event
use Rattle.spec_run.specs.declared.step.RunStep.{RunStep}
use Rattle.retired_paths.specs.Retired.{items_after}
use Rattle.retired_paths.proofs.RetiredEvents.{Printed, front_are}
use Rattle.retired_paths.specs.Retiring.{AddsNothing, CanGoOn, IsRetiring, StandsBehind, events_with, retired_items}
use Rattle.retired_paths.specs.declared.retiring.Retiring.{Retiring}
use Rattle.trace_io.specs.State.{IoState}

-- ---- where a run is behind them

-- at depth 0 they are retired
abbrev retired_by : ℕ → Running → ℕ → List RunStep
retired_by zero r n = r.retired ++ plain_steps r.pc r.ctx n
retired_by (suc depth) r n = r.retired

record Passed (depth : ℕ) (closed : List (List RunStep × Closing)) (r : Running) (n : ℕ) (y : Execution) : Type 0 where
  pub running : Running
  pub there : y ≡ record { closed = closed; current = Some running }
  pub start : running.start ≡ r.start
  pub retired : running.retired ≡ retired_by depth r n

retired_none : (depth : ℕ) (r : Running) → r.retired ≡ retired_by depth r 0
retired_none zero r = sym (append-nil r.retired)
retired_none (suc depth) r = refl

start_on : (depth : ℕ) (r : Running) (s : RunStep) (ctx : Ctx) → (runs depth r s ctx).start ≡ r.start
start_on zero r s ctx = refl
start_on (suc depth) r s ctx = refl

retired_on : (depth : ℕ) (r : Running) (n : ℕ) → retired_by depth (runs depth r (plain_step r.pc r.ctx) r.ctx) n ≡ retired_by depth r (suc n)
retired_on zero r n = append_assoc r.retired (plain_step r.pc r.ctx ∷ []) (plain_steps (behind r.pc 1) r.ctx n)
retired_on (suc depth) r n = refl

-- behind one of them, so many are one more
one_passed : (depth : ℕ) (closed : List (List RunStep × Closing)) (r : Running) (n : ℕ) (y : Execution)
    → Passed depth closed (runs depth r (plain_step r.pc r.ctx) r.ctx) n y → Passed depth closed r (suc n) y
one_passed depth closed r n y passed = record {
  running = passed.running;
  there = passed.there;
  start = passed.start ∙ start_on depth r (plain_step r.pc r.ctx) r.ctx;
  retired = passed.retired ∙ retired_on depth r n;
}

passed_so : (image : Image) (depth : ℕ) (closed : List (List RunStep × Closing)) (r : Running) (k n : ℕ) (y : Execution)
    → ArePlain image depth (Some (place_of r)) n
    → run_from image depth (record { closed = closed; current = Some r }) k (replicate n event.Step) ≡ Ok y → Passed depth closed r n y
passed_so image depth closed r k zero y are ran = record {
  running = r;
  there = sym (same_execution (record { closed = closed; current = Some r }) y ran);
  start = refl;
  retired = retired_none depth r;
}
passed_so image depth closed r k (suc n) y are ran =
    let x : Execution = record { closed = closed; current = Some r } in
    let s = plain_step r.pc r.ctx in
    let at : are.1.at ≡ place_of r = let same = are.1.there in cc in
    let does : effect_of image (Some (place_of r)) event.Step ≡ effect.Ran s r.ctx =
    subst (λ (q : Situation). effect_of image (Some (place_of r)) event.Step ≡ effect.Ran (plain_step q.pc q.ctx) q.ctx) at are.1.does in
    let on = (passed (check image depth (place_in x) event.Step) k
    (run_from image depth (after_event image depth x event.Step) (k + 1) (replicate n event.Step)) y ran).1 in
    let are_next = subst (λ (p : Option Situation). ArePlain image depth p n) (sym (place_behind image depth x event.Step are.0)) are.2 in
    one_passed depth closed r n y (passed_so image depth closed (runs depth r s r.ctx) (k + 1) n y
    (subst (λ (e : Effect). ArePlain image depth (place_in (applied_on image depth x (Some r) e)) n) does are_next)
    (subst (λ (e : Effect). run_from image depth (applied_on image depth x (Some r) e) (k + 1) (replicate n event.Step) ≡ Ok y) does on))

-- tracing was on, and goes on there
record Ahead (depth : ℕ) (closed : List (List RunStep × Closing)) (current : Option Running) (n pc : ℕ) (ctx : Ctx) (y : Execution) : Type 0 where
  pub run : Running
  pub is : current ≡ Some run
  pub at : pc ≡ run.pc
  pub context : ctx ≡ run.ctx
  pub passed : Passed depth closed run n y

ahead : (image : Image) (depth : ℕ) (events : List Event) (closed : List (List RunStep × Closing)) (current : Option Running) (n pc : ℕ) (ctx : Ctx)
    (y : Execution) → run_after image depth events ≡ Ok (record { closed = closed; current = current })
    → run_after image depth (events ++ replicate n event.Step) ≡ Ok y → ArePlain image depth (option_map place_of current) n
    → Some pc ≡ option_map (λ (p : Situation). p.pc) (option_map place_of current)
    → Some ctx ≡ option_map (λ (p : Situation). p.ctx) (option_map place_of current) → Ahead depth closed current n pc ctx y
ahead image depth events closed None n pc ctx y before after are there same = absurd cc
ahead image depth events closed (Some r) n pc ctx y before after are there same = record {
  run = r;
  is = refl;
  at = cc;
  context = cc;
  passed = passed_so image depth closed r (length events) n y are
      (sym (events_joined image depth events (replicate n event.Step) (record { closed = closed; current = Some r }) before) ∙ after);
}

-- ---- the retired path

-- at depth 0 it takes them
abbrev pub path_by : ℕ → OpenBlock → ℕ → Ctx → ℕ → OpenBlock
path_by zero b pc ctx n = begun_behind_all b (plain_steps pc ctx n)
path_by (suc depth) b pc ctx n = b

follows_here : (image : Image) (start : ℕ) (first : Ctx) (steps held : List RunStep) (b : OpenBlock) (pc : ℕ) (ctx : Ctx) (n : ℕ) → IsPlace start
    → AreSteps image (fresh start) first ((steps ++ plain_steps pc ctx n) ++ held) → PathStandsAt b steps → 0 < n → Follows b (plain_step pc ctx)
follows_here image start first steps held b pc ctx zero place are at some = absurd (omega (arith, some))
follows_here image start first steps held b pc ctx (suc n) place are at some =
    follows image start first steps (plain_steps (behind pc 1) ctx n ++ held) (plain_step pc ctx) b place
    (subst (AreSteps image (fresh start) first) (append_assoc steps (plain_steps pc ctx (suc n)) held) are) at

many_begun : (b : OpenBlock) (pc : ℕ) (ctx : Ctx) (n : ℕ) → (begun_behind_all b (plain_steps pc ctx n)).plain ≡ b.plain + n
many_begun b pc ctx zero = omega arith
many_begun b pc ctx (suc n) = ap (λ (o : OpenBlock). o.plain) (begun_plain b pc ctx n)

few_here : (image : Image) (start : ℕ) (first : Ctx) (steps held : List RunStep) (b : OpenBlock) (pc : ℕ) (ctx : Ctx) (n : ℕ) → HasGap image → IsPlace start
    → AreSteps image (fresh start) first ((steps ++ plain_steps pc ctx n) ++ held) → PathStandsAt b steps → b.plain + n < 2 ^ 62
few_here image start first steps held b pc ctx n gap place are at =
    let stands = path_stands b pc ctx n steps (λ some. follows_here image start first steps held b pc ctx n place are at some) at in
    let short = few image start first (steps ++ plain_steps pc ctx n) held (begun_behind_all b (plain_steps pc ctx n)) gap place are stands in
    subst (λ k. k < 2 ^ 62) (many_begun b pc ctx n) short

-- what the retired path must know of the steps that it takes, and where it stands behind them
pub record Takes (depth : ℕ) (b : OpenBlock) (pc : ℕ) (ctx : Ctx) (n : ℕ) : Type 0 where
  pub follows : depth ≡ 0 → 0 < n → Follows b (plain_step pc ctx)
  pub few : depth ≡ 0 → b.plain + n < 2 ^ 62

takes_by : (image : Image) (depth : ℕ) (closed : List (List RunStep × Closing)) (r : Running) (n : ℕ) (y : Execution) (b : OpenBlock) → HasGap image
    → IsRunningBy image y.current → PathStandsAt b r.retired → Passed depth closed r n y → Takes depth b r.pc r.ctx n
takes_by image zero closed r n y b gap is at passed =
    let here : IsRunning image passed.running = subst (λ (z : Execution). IsRunningBy image z.current) passed.there is in
    let are = subst (λ l. AreSteps image (fresh passed.running.start) here.first (l ++ passed.running.held)) passed.retired here.are in
    record {
      follows = λ flat some. follows_here image passed.running.start here.first r.retired passed.running.held b r.pc r.ctx n here.place are at some;
      few = λ flat. few_here image passed.running.start here.first r.retired passed.running.held b r.pc r.ctx n gap here.place are at;
    }
takes_by image (suc depth) closed r n y b gap is at passed =
    record { follows = λ flat. absurd (omega (arith, flat)); few = λ flat. absurd (omega (arith, flat)) }

stands_by : (depth : ℕ) (r : Running) (n : ℕ) (b : OpenBlock) → PathStandsAt b r.retired → Takes depth b r.pc r.ctx n
    → PathStandsAt (path_by depth b r.pc r.ctx n) (retired_by depth r n)
stands_by zero r n b at takes = path_stands b r.pc r.ctx n r.retired (takes.follows refl) at
stands_by (suc depth) r n b at takes = at

shows_by : (depth : ℕ) (r : Running) (n : ℕ) → stretch_items (retired_by depth r n) ≡ stretch_items r.retired
shows_by zero r n = path_shows r.pc r.ctx n r.retired
shows_by (suc depth) r n = refl

items_same : (depth : ℕ) (closed : List (List RunStep × Closing)) (r : Running) (n : ℕ) (y : Execution) → Passed depth closed r n y
    → retired_of y ≡ retired_of (record { closed = closed; current = Some r })
items_same depth closed r n y passed =
    ap retired_of passed.there ∙ ap (λ l. closed_items closed ++ stretch_items l) passed.retired
    ∙ ap (λ l. closed_items closed ++ l) (shows_by depth r n)

-- ---- behind events

-- the retired path can take the steps, where it stands behind them, and that nothing is added
pub record Quiet (image : Image) (s : Sizes) (t : Retiring) (x y : Execution) (n pc : ℕ) (ctx : Ctx) : Type 0 where
  pub takes : Takes s.depth t.path pc ctx n
  pub path : StandsBehind (path_by s.depth t.path pc ctx n) y.current
  pub items : retired_of y ≡ retired_of x

quiet_at : (image : Image) (s : Sizes) (t : Retiring) (events : List Event) (closed : List (List RunStep × Closing)) (current : Option Running)
    (n pc : ℕ) (ctx : Ctx) (y : Execution) → HasGap image → AreEvents s (events ++ replicate n event.Step)
    → run_after image s.depth events ≡ Ok (record { closed = closed; current = current })
    → run_after image s.depth (events ++ replicate n event.Step) ≡ Ok y → ArePlain image s.depth (option_map place_of current) n
    → Some pc ≡ option_map (λ (p : Situation). p.pc) (option_map place_of current)
    → Some ctx ≡ option_map (λ (p : Situation). p.ctx) (option_map place_of current) → StandsBehind t.path current
    → Quiet image s t (record { closed = closed; current = current }) y n pc ctx
quiet_at image s t events closed current n pc ctx y gap are before after plain there same behind =
    let a = ahead image s.depth events closed current n pc ctx y before after plain there same in
    let r = a.run in
    let at : PathStandsAt t.path r.retired = subst (StandsBehind t.path) a.is behind in
    let running = (executed_so image s (events ++ replicate n event.Step) y are after).0 in
    let takes = takes_by image s.depth closed r n y t.path gap running at a.passed in
    let P = path_by s.depth t.path r.pc r.ctx n in
    let stands = subst (PathStandsAt P) (sym a.passed.retired) (stands_by s.depth r n t.path at takes) in
    let x : Execution = record { closed = closed; current = current } in
    let here : Quiet image s t x y n r.pc r.ctx = record {
      takes = takes;
      path = subst (λ (z : Execution). StandsBehind P z.current) (sym a.passed.there) stands;
      items = items_same s.depth closed r n y a.passed ∙ ap (λ (c : Option Running). retired_of (record { closed = closed; current = c })) (sym a.is);
    } in
    subst (λ (c : Ctx). Quiet image s t x y n pc c) (sym a.context) (subst (λ k. Quiet image s t x y n k r.ctx) (sym a.at) here)

-- steps fit all sizes
more_are : (s : Sizes) (events : List Event) (n : ℕ) → AreEvents s events → AreEvents s (events ++ replicate n event.Step)
more_are s [] zero are = tt
more_are s [] (suc n) are = (tt, more_are s [] n tt)
more_are s (e ∷ events) n are = (are.0, more_are s events n are.1)

pub quiet_so : (image : Image) (s : Sizes) (t : Retiring) (events : List Event) (asked n pc : ℕ) (ctx : Ctx) (now : Kept)
    (can : CanGoOn image s t events (events_with events asked event.Step)) (st : StandsAt image s now (events ++ replicate n event.Step))
    → IsStepCount image t.run.depth t.run.place asked n → AllPass image t.run.depth t.run.place (replicate n event.Step)
    → Some pc ≡ option_map (λ (p : Situation). p.pc) t.run.place → Some ctx ≡ option_map (λ (p : Situation). p.ctx) t.run.place
    → Quiet image s t can.stands.run.execution st.execution n pc ctx
quiet_so image s t events asked n pc ctx now can st count pass there same =
    let x = can.stands.run.execution in
    let place = can.stands.run.place in
    let are = more_are s events n (front_are s events (replicate asked event.Step) can.are) in
    let plain =
    subst (λ d. ArePlain image d (place_in x) n) can.stands.run.depth
    (subst (λ (p : Option Situation). ArePlain image t.run.depth p n) place (counted_plain image t.run.depth asked n t.run.place count pass)) in
    quiet_at image s t events x.closed x.current n pc ctx st.execution can.gap are can.stands.run.after st.after plain
    (there ∙ ap (option_map (λ (p : Situation). p.pc)) place) (same ∙ ap (option_map (λ (p : Situation). p.ctx)) place) can.stands.path

-- ---- what is printed

pub adds_by : (image : Image) (s : Sizes) (t t' : Retiring) (events : List Event) (n pc : ℕ) (ctx : Ctx) (is : IsRetiring image s t events)
    (st : StandsAt image s t'.run (events ++ replicate n event.Step)) → Quiet image s t is.run.execution st.execution n pc ctx
    → t'.depth ≡ t.depth → t'.path ≡ path_by s.depth t.path pc ctx n → t'.shown ≡ t.shown
    → AddsNothing image s t events t' (events ++ replicate n event.Step)
adds_by image s t t' events n pc ctx is st quiet depth path shown = record {
  stands = record {
    depth = depth ∙ is.depth;
    run = st;
    path = subst (λ (b : OpenBlock). StandsBehind b st.execution.current) (sym path) quiet.path;
    shown = shown ∙ is.shown ∙ ap (shown_after_all None) (sym quiet.items);
  };
  same = ap items_after st.after ∙ quiet.items ∙ ap items_after (sym is.run.after);
}

-- where none is taken
pub adds_none : (image : Image) (s : Sizes) (t : Retiring) (events : List Event) → IsRetiring image s t events → AddsNothing image s t events t (events ++ [])
adds_none image s t events is =
    subst (AddsNothing image s t events t) (sym (append-nil events)) (record { stands = is; same = refl })

-- the retired path at a depth
pub path_at_0 : (depth : ℕ) (b : OpenBlock) (pc : ℕ) (ctx : Ctx) (n : ℕ) → depth ≡ 0 → begun_behind_all b (plain_steps pc ctx n) ≡ path_by depth b pc ctx n
path_at_0 zero b pc ctx n flat = refl
path_at_0 (suc depth) b pc ctx n flat = absurd (omega (arith, flat))

pub path_deep : (depth : ℕ) (b : OpenBlock) (pc : ℕ) (ctx : Ctx) (n : ℕ) → (depth ≡ 0 → ⊥) → b ≡ path_by depth b pc ctx n
path_deep zero b pc ctx n deep = absurd (deep refl)
path_deep (suc depth) b pc ctx n deep = refl

-- ---- the front of a line

pub printed_first : (image : Image) (s : Sizes) (id : ℕ) (t t' : Retiring) (events all : List Event) (a : IoState) → AddsNothing image s t events t' all
    → Wrote a a [] → Printed image s id t events t' all a a
printed_first image s id t t' events all a adds nothing =
    record { more = []; grows = adds.same ∙ sym (append-nil (retired_items image s events)); wrote = nothing; stands = adds.stands }
