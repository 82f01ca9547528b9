use Rattle.std.proofs.Common.{◌≡◌, None, List, length, ◌++◌, ◌∷◌, [], rules, sym, ap, subst, ◌∙◌, arith, length-append}
use Rattle.etm_types.specs.Settings.{AreSettings}
use Rattle.spec_run.proofs.OneEvent.{room_for, stands_behind}
use Rattle.spec_run.specs.Checks.{check, effect_of, held_at}
use Rattle.spec_run.specs.Effects.{done_of, place_after}
use Rattle.spec_run.specs.RunAfter.{IsEvent}
use Rattle.spec_run.specs.Windows.{RoomInWindow}
use Rattle.spec_run.specs.declared.effect.Effect.{Effect}
use Rattle.spec_run.specs.declared.event.Event.{Event}
use Rattle.trace_unit.proofs.TraceShown.{trace_shows}
use Rattle.trace_unit.proofs.UnitKept.{Accepts, Follows, behind, done_at, followed_keeps, follows}
use Rattle.trace_unit.proofs.UnitResults.{as_planned, on_ok, refused_as}
use Rattle.trace_unit.proofs.UnitStands.{Grows, events_more, grows}
use Rattle.trace_unit.specs.Agreeing.{Agree, kept_of}
use Rattle.trace_unit.specs.Followed.{followed, orders_done}
use Rattle.trace_unit.specs.Kept.{Kept, StandsAt}
use Rattle.trace_unit.specs.Ordered.{bytes_all}
use Rattle.trace_unit.specs.Written.{written}
use Rattle.trace_unit.specs.declared.follower.Follower.{Follower}
use Rattle.trace_unit.proofs.unit.Unit.accept.Goals as goal
use Rattle.trace_unit.proofs.unit.Unit.accept.Goals.{After-take-done}

pub take-done-requires : goal.take-done-requires
take-done-requires c =
    let run = c.self.inside.run in
    let here = as_planned _ c.plan.result c.in_ok-effect.effect _ _ _ c.in_ok-effect.ensures.cases c.in_ok-effect.ensures.variant c.plan.ensures in
    record {
      room = subst (λ (does : Effect). RoomInWindow does (held_at run.place)) (sym here.1) (room_for c.args.image.now run.depth run.place c.args.event.now here.0);
    }

-- the event passes its checks, and the plan is what it does
as_here : (c : After-take-done) → (check c.args.image.now c.self.inside.run.depth c.self.inside.run.place c.args.event.now ≡ None)
    × (c.in_ok-effect.effect ≡ effect_of c.args.image.now c.self.inside.run.place c.args.event.now)
as_here c = as_planned _ c.plan.result c.in_ok-effect.effect _ _ _ c.in_ok-effect.ensures.cases c.in_ok-effect.ensures.variant c.plan.ensures

accepted : (c : After-take-done) → Accepts c.args.image.now c.self.inside.run c.self.inside.follower c.args.event.now
accepted c = record {
  agree = c.self.invariant;
  given = subst (λ (k : Kept). IsEvent k.settings c.args.event.now) (sym c.self.view_is) c.requires;
  passes = (as_here c).0;
}

does : (c : After-take-done) → c.take-done.result ≡ done_at c.args.image.now c.self.inside.run.place c.args.event.now
does c = c.take-done.ensures.done ∙ ap (done_of (held_at c.self.inside.run.place)) (as_here c).1

there : (c : After-take-done) → c.take-done.new.self.place ≡ behind c.args.image.now c.self.inside.run.depth c.self.inside.run.place c.args.event.now
there c =
    let run = c.self.inside.run in
    c.take-done.ensures.place ∙ ap (place_after c.args.image.now run.depth run.place) (as_here c).1

follows_here : (c : After-take-done) → Follows c.self.inside.run.depth c.self.inside.follower c.take-done.result c.take-done.new.self.place
follows_here c = follows c.args.image.now c.self.inside.run c.self.inside.follower c.args.event.now c.take-done.result c.take-done.new.self.place (accepted c)
    (does c) (there c)

pub follow-requires-clause-can : goal.follow-requires-clause-can
follow-requires-clause-can c = (follows_here (goal.at.follow-requires-clause-can c).After-take-done).can

pub follow-requires-clause-tells : goal.follow-requires-clause-tells
follow-requires-clause-tells c = (follows_here (goal.at.follow-requires-clause-tells c).After-take-done).tells

pub follow-requires-clause-room : goal.follow-requires-clause-room
follow-requires-clause-room c =
    let few = (follows_here (goal.at.follow-requires-clause-room c).After-take-done).few in
    let room = on_ok c.reserve.result _ c.in_ok-map_err.ensures.variant c.reserve.ensures.ok in
    omega (arith, few, room)

pub invariant_of-self : goal.invariant_of-self
invariant_of-self c =
    let now = c.take-done.new.self in
    let agree = (follows_here (goal.at.invariant_of-self c).After-take-done).agree in
    let f = followed c.take-done.result now.place c.self.inside.follower in
    subst (Agree now) (sym c.follow.ensures.follower)
    (subst (λ depth. Agree (record { depth = depth; place = now.place }) f) (sym c.take-done.ensures.depth) agree)

-- behind events
grows_here : (c : After-take-done) (events : List Event) → StandsAt c.args.image.now c.args.self.now events
    → Grows c.args.image.now c.self.inside.follower events c.args.event.now c.take-done.new.self c.take-done.result c.take-done.new.self.place
grows_here c events st =
    let here = subst (λ (k : Kept). StandsAt c.args.image.now k events) (sym c.self.view_is) st in
    let run = c.self.inside.run in
    let stands = stands_behind c.args.image.now c.self.inside.follower.teller.settings run c.take-done.new.self events c.args.event.now here.run
    (as_here c).0 c.take-done.ensures.depth (there c) in
    grows c.args.image.now c.self.inside.run c.self.inside.follower events c.args.event.now c.take-done.new.self c.take-done.result c.take-done.new.self.place
    (accepted c) (does c) (there c) here stands

pub returns-clause-stands : goal.returns-clause-stands
returns-clause-stands c events st ok =
    subst (λ (f : Follower). StandsAt c.args.image.now (kept_of c.take-done.new.self f) (events ++ c.args.event.now ∷ [])) (sym c.follow.ensures.follower)
    (grows_here (goal.at.returns-clause-stands c).After-take-done events st).stands

pub returns-clause-written : goal.returns-clause-written
returns-clause-written c events st ok =
    let g = grows_here (goal.at.returns-clause-written c).After-take-done events st in
    let f = c.self.inside.follower in
    let more = bytes_all f.teller (orders_done c.take-done.result c.take-done.new.self.place f) in
    let image = c.args.image.now in
    let all = events ++ c.args.event.now ∷ [] in (
      more,
      c.follow.ensures.bytes ∙ ap (λ l. l ++ more) c.reserve.ensures.items,
      subst (λ (k : Kept). written image k.settings k.stack_depth all ≡ written image k.settings k.stack_depth events ++ more) c.self.view_is g.wrote,
    )

pub returns-clause-path : goal.returns-clause-path
returns-clause-path c events x st ok is ran =
    let s = c.args.self.now.settings in
    let e = c.args.event.now in
    let are : AreSettings s = subst (λ (k : Kept). AreSettings k.settings) c.self.view_is c.self.invariant.ready.settings in
    trace_shows c.args.image.now s c.args.self.now.stack_depth (events ++ e ∷ []) x is are st.most (events_more s events e st.given c.requires)
    (omega (arith, length-append events (e ∷ []))) ran

pub returns-clause-accepted : goal.returns-clause-accepted
returns-clause-accepted c ok =
    subst (λ (k : Kept). check c.args.image.now k.run.depth k.run.place c.args.event.now ≡ None) c.self.view_is
    (as_here (goal.at.returns-clause-accepted c).After-take-done).0

pub returns-in_err-effect-clause-refused : goal.returns-in_err-effect-clause-refused
returns-in_err-effect-clause-refused c fault =
    let checked = refused_as c.plan.result _ _ c.plan.ensures in search (rules, checked)

pub returns-clause-few : goal.returns-clause-few
returns-clause-few c =
    let few = (follows_here (goal.at.returns-clause-few c).After-take-done).few in
    let wrote = bytes_all c.self.inside.follower.teller (orders_done c.take-done.result c.take-done.new.self.place c.self.inside.follower) in
    omega (arith, few, ap length c.follow.ensures.bytes, length-append c.reserve.new.self.items wrote, ap length c.reserve.ensures.items)

pub returns-clause-settings : goal.returns-clause-settings
returns-clause-settings c =
    let keeps = followed_keeps c.take-done.result c.take-done.new.self.place c.self.inside.follower in (
      ap (λ (f : Follower). f.teller.settings) c.follow.ensures.follower ∙ keeps.0 ∙ ap (λ (k : Kept). k.settings) c.self.view_is,
      ap (λ (f : Follower). f.places.stack_depth) c.follow.ensures.follower ∙ keeps.1 ∙ ap (λ (k : Kept). k.stack_depth) c.self.view_is,
    )
