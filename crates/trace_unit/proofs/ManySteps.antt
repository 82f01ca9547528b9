-- Plain steps that are taken together: a unit stands behind them, and writes nothing of them.
use Rattle.std.proofs.Common.{◌≡◌, ℕ, zero, suc, List, [], ◌∷◌, ◌++◌, Option, None}
use Rattle.std.proofs.Common.{refl, sym, ap, subst, ◌∙◌, append_assoc, append-nil}
use Rattle.std.specs.Prelude.{replicate}
use Rattle.program_image.specs.declared.image.Image.{Image}
use Rattle.spec_run.proofs.ManySteps.{ArePlain, IsPlainStep, counted_plain}
use Rattle.spec_run.proofs.OneEvent.{stands_behind}
use Rattle.spec_run.specs.Checks.{Situation, check, held_at}
use Rattle.spec_run.specs.Effects.{done_of}
use Rattle.spec_run.specs.ManySteps.{AllPass, IsStepCount, place_after_all}
use Rattle.spec_run.specs.Stands.{Kept as RunKept}
use Rattle.spec_run.specs.declared.effect.Effect.{Effect}
use Rattle.spec_run.specs.declared.event.Event.{Event}
use Rattle.spec_run.specs.declared.event.Event.TheVariants as event
use Rattle.trace_unit.proofs.UnitKept.{Accepts, behind, done_at, follows}
use Rattle.trace_unit.proofs.UnitStands.{grows}
use Rattle.trace_unit.specs.Agreeing.{Agree, kept_of}
use Rattle.trace_unit.specs.Followed.{followed, orders_done}
use Rattle.trace_unit.specs.Kept.{StandsAt}
use Rattle.trace_unit.specs.Ordered.{bytes_all}
use Rattle.trace_unit.specs.Written.{written}
use Rattle.trace_unit.specs.declared.follower.Follower.{Follower}

-- ---- a step that is no P0 step is not followed

not_followed : (image : Image) (place there : Option Situation) (f : Follower) → IsPlainStep image place
    → followed (done_at image place event.Step) there f ≡ f
not_followed image place there f is =
    ap (λ (does : Effect). followed (done_of (held_at place) does) there f) is.does

not_told : (image : Image) (place there : Option Situation) (f : Follower) → IsPlainStep image place
    → orders_done (done_at image place event.Step) there f ≡ []
not_told image place there f is =
    ap (λ (does : Effect). orders_done (done_of (held_at place) does) there f) is.does

-- the run behind a step
abbrev next_run : Image → RunKept → RunKept
next_run image run = record { depth = run.depth; place = behind image run.depth run.place event.Step }

one_agrees : (image : Image) (run : RunKept) (f : Follower) → Agree run f → check image run.depth run.place event.Step ≡ None
    → IsPlainStep image run.place → Agree (next_run image run) f
one_agrees image run f agree pass is =
    let there = behind image run.depth run.place event.Step in
    let acc : Accepts image run f event.Step = record { agree = agree; given = tt; passes = pass } in
    let follows = follows image run f event.Step (done_at image run.place event.Step) there acc refl refl in
    subst (Agree (next_run image run)) (not_followed image run.place there f is) follows.agree

-- behind some events, a unit of this run stands behind those and so many steps, and what is written stays the same
pub record Moves (image : Image) (f : Follower) (run now : RunKept) (n : ℕ) (events : List Event) : Type 0 where
  pub stands : StandsAt image (kept_of now f) (events ++ replicate n event.Step)
  pub wrote : written image f.teller.settings f.places.stack_depth (events ++ replicate n event.Step)
      ≡ written image f.teller.settings f.places.stack_depth events

one_moves : (image : Image) (run : RunKept) (f : Follower) (events : List Event) → Agree run f → check image run.depth run.place event.Step ≡ None
    → IsPlainStep image run.place → StandsAt image (kept_of run f) events → Moves image f run (next_run image run) 1 events
one_moves image run f events agree pass is st =
    let there = behind image run.depth run.place event.Step in
    let did = done_at image run.place event.Step in
    let acc : Accepts image run f event.Step = record { agree = agree; given = tt; passes = pass } in
    let stands = stands_behind image f.teller.settings run (next_run image run) events event.Step st.run pass refl refl in
    let g = grows image run f events event.Step (next_run image run) did there acc refl refl st stands in
    let before = written image f.teller.settings f.places.stack_depth events in
    record {
      stands = subst (λ (f : Follower). StandsAt image (kept_of (next_run image run) f) (events ++ event.Step ∷ [])) (not_followed image run.place there f is)
          g.stands;
      wrote = g.wrote ∙ ap (λ orders. before ++ bytes_all f.teller orders) (not_told image run.place there f is) ∙ append-nil before;
    }

-- ---- so many

-- the run behind so many steps
abbrev pub run_behind : Image → RunKept → ℕ → RunKept
run_behind image run n = record { depth = run.depth; place = place_after_all image run.depth run.place (replicate n event.Step) }

pub all_agree : (image : Image) (run : RunKept) (f : Follower) (n : ℕ) → Agree run f → ArePlain image run.depth run.place n
    → Agree (run_behind image run n) f
all_agree image run f zero agree are = agree
all_agree image run f (suc n) agree are =
    all_agree image (next_run image run) f n (one_agrees image run f agree are.0 are.1) are.2

pub all_move : (image : Image) (run : RunKept) (f : Follower) (n : ℕ) (events : List Event) → Agree run f → ArePlain image run.depth run.place n
    → StandsAt image (kept_of run f) events → Moves image f run (run_behind image run n) n events
all_move image run f zero events agree are st =
    let same = append-nil events in
    record {
      stands = subst (StandsAt image (kept_of run f)) (sym same) st;
      wrote = ap (written image f.teller.settings f.places.stack_depth) same;
    }
all_move image run f (suc n) events agree are st =
    let one = one_moves image run f events agree are.0 are.1 st in
    let rest = all_move image (next_run image run) f n (events ++ event.Step ∷ []) (one_agrees image run f agree are.0 are.1) are.2 one.stands in
    let same = append_assoc events (event.Step ∷ []) (replicate n event.Step) in
    record {
      stands = subst (StandsAt image (kept_of (run_behind image run (suc n)) f)) same rest.stands;
      wrote = ap (written image f.teller.settings f.places.stack_depth) (sym same) ∙ rest.wrote ∙ one.wrote;
    }

-- ---- so many as a run counts

same_run : (image : Image) (run now : RunKept) (n : ℕ) → now.depth ≡ run.depth → now.place ≡ place_after_all image run.depth run.place (replicate n event.Step)
    → run_behind image run n ≡ now
same_run image run now n depth place =
    ap (λ d. record { depth = d; place = place_after_all image run.depth run.place (replicate n event.Step) }) (sym depth)
    ∙ ap (λ p. record { depth = now.depth; place = p }) (sym place)

pub many_agree : (image : Image) (run now : RunKept) (f : Follower) (asked n : ℕ) → Agree run f → IsStepCount image run.depth run.place asked n
    → AllPass image run.depth run.place (replicate n event.Step) → now.depth ≡ run.depth
    → now.place ≡ place_after_all image run.depth run.place (replicate n event.Step) → Agree now f
many_agree image run now f asked n agree is pass depth place =
    subst (λ (r : RunKept). Agree r f) (same_run image run now n depth place)
    (all_agree image run f n agree (counted_plain image run.depth asked n run.place is pass))

pub many_move : (image : Image) (run now : RunKept) (f : Follower) (asked n : ℕ) (events : List Event) → Agree run f
    → IsStepCount image run.depth run.place asked n → AllPass image run.depth run.place (replicate n event.Step) → now.depth ≡ run.depth
    → now.place ≡ place_after_all image run.depth run.place (replicate n event.Step) → StandsAt image (kept_of run f) events
    → Moves image f run now n events
many_move image run now f asked n events agree is pass depth place st =
    subst (λ (r : RunKept). Moves image f run r n events) (same_run image run now n depth place)
    (all_move image run f n events agree (counted_plain image run.depth asked n run.place is pass) st)
