use Rattle.std.proofs.Common.{◌<◌, [], ◌∷◌, ◌++◌, length, Option, refl, take, ap, subst, sym, ◌∙◌}
use Rattle.std.proofs.lemmas.Result.{err_from_is_err_and}
use Rattle.path_text.proofs.Wrote.{wrote_by}
use Rattle.path_text.specs.PathLines.{lines_of, shown_after_all}
use Rattle.path_text.specs.Writing.{Writes}
use Rattle.spec_run.specs.Checks.{Situation, held_at}
use Rattle.spec_run.specs.Stands.{Kept, PathStandsAt, StandsAt}
use Rattle.retired_paths.specs.Retiring.{CanRetire, StandsDone, items_done}
use Rattle.retired_paths.proofs.RetiredEvents.{answer_by, answer_is, can_retire, fails_to_print, parts_of, prints, stood_at, taken_is, went}
use Rattle.retired_paths.proofs.retiring.Retiring.print_event.Goals as goal

pub print_oldest-requires : goal.print_oldest-requires
print_oldest-requires g c =
    let s = c.requires.0 in
    let events = c.requires.1 in
    let can = c.requires.2 in
    let t = c.args.self.now in
    let x = can.stands.run.execution in
    let w = went c.args.image.now s t events c.args.event.now can in
    subst (λ (place : Option Situation). 0 < length (take c.asked.result (held_at place)) → CanRetire t (take c.asked.result (held_at place)))
    (sym can.stands.run.place) (can_retire c.args.image.now t x.current c.asked.result can.gap w.before can.stands.path)

pub returns-in_err-print_oldest : goal.returns-in_err-print_oldest
returns-in_err-print_oldest g c s events can =
    let image = c.args.image.now in
    let e = c.args.event.now in
    let t = c.args.self.now in
    let x = can.stands.run.execution in
    let w = went image s t events e can in
    let stood = stood_at t.path x.current can.stands.path in
    let same = taken_is c.asked.result t.run x.current e c.asked.ensures can.stands.run.place in
    let p = err_from_is_err_and c.from_residual.result c.from_residual.ensures.1 in
    rw p.1 (fails_to_print image s c.args.id t c.print_oldest.new.self events e can stood.0 (take c.asked.result (held_at t.run.place))
    (answer_by image x.current e) _ _ c.in_err-print_oldest.field-0.0 p.0 (parts_of image s.depth x.closed x.current e stood.0 stood.2 w.passed) same refl
    (c.in_err-print_oldest.ensures.lines stood.0 stood.1))

pub print_done-requires : goal.print_done-requires
print_done-requires g c =
    let image = c.args.image.now in
    let e = c.args.event.now in
    let t = c.args.self.now in
    let s = c.requires.0 in
    let events = c.requires.1 in
    let can = c.requires.2 in
    let x = can.stands.run.execution in
    let w = went image s t events e can in
    let stood = stood_at t.path x.current can.stands.path in
    let parts = parts_of image s.depth x.closed x.current e stood.0 stood.2 w.passed in
    let oldest = c.in_ok-print_oldest.ensures in
    let same = taken_is c.asked.result t.run x.current e c.asked.ensures can.stands.run.place in
    let is = answer_is image t.run c.print_oldest.new.self.run x.current e c.in-Ok.done oldest.run.0 can.stands.run.place c.in-Ok.ensures.done in
    let path = c.print_oldest.new.self.path in
    let at = subst (λ l. PathStandsAt path (stood.0 ++ l)) same (oldest.path stood.0 stood.1 refl) in
    rw (oldest.run.1, can.stands.depth, is) (parts.show can.gap w.running path at)

pub returns : goal.returns
returns g c s events can =
    let image = c.args.image.now in
    let e = c.args.event.now in
    let t = c.args.self.now in
    let x = can.stands.run.execution in
    let w = went image s t events e can in
    let stood = stood_at t.path x.current can.stands.path in
    let parts = parts_of image s.depth x.closed x.current e stood.0 stood.2 w.passed in
    let oldest = c.in_ok-print_oldest.ensures in
    let taken = take c.asked.result (held_at t.run.place) in
    let same = taken_is c.asked.result t.run x.current e c.asked.ensures can.stands.run.place in
    let is = answer_is image t.run c.print_oldest.new.self.run x.current e c.in-Ok.done oldest.run.0 can.stands.run.place c.in-Ok.ensures.done in
    let depth = oldest.run.1 ∙ can.stands.depth in
    let at = oldest.path stood.0 stood.1 refl in
    let last = c.print_done.ensures in
    let before = subst (λ (r : Kept). StandsAt image s r events) (sym oldest.run.0) can.stands.run in
    let steps = stood.0 ++ taken in
    let shown = c.print_oldest.new.self.shown in
    prints image s c.args.id t c.print_done.new.self events e can stood.0 taken c.in-Ok.done shown _ _ _ c.print_done.result parts same is
    (oldest.shown stood.0 stood.1 refl)
    (wrote_by _ _ _ _ (oldest.lines stood.0 stood.1))
    (subst (λ d. Writes (g.K.Sink.state c.print_oldest.new.out) (g.K.Sink.state c.print_done.new.out) c.print_done.result
    (lines_of c.args.id shown (items_done d steps c.in-Ok.done))) depth (last.lines steps at))
    (λ ok. last.shown steps at ok ∙ ap (λ d. shown_after_all shown (items_done d steps c.in-Ok.done)) depth)
    (subst (λ d. StandsDone d c.print_done.new.self.path steps c.in-Ok.done) depth (last.path steps at))
    (last.run.1 ∙ depth)
    (subst (λ (r : Kept). StandsAt image s r (events ++ e ∷ [])) (sym last.run.0) (c.in-Ok.ensures.stands s events before refl))
