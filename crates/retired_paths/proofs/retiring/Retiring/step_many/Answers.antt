use Rattle.std.proofs.Common.{◌∙◌, List, arith, refl, sym}
use Rattle.etm_types.specs.Settings.{Sizes}
use Rattle.spec_run.specs.declared.event.Event.{Event}
use Rattle.spec_run.specs.declared.event.Event.TheVariants as event
use Rattle.retired_paths.specs.Retiring.{CanGoOn, events_with}
use Rattle.retired_paths.proofs.RetiredMany.{Quiet, adds_by, adds_none, path_at_0, path_deep, quiet_so}
use Rattle.retired_paths.proofs.retiring.Retiring.step_many.Goals as goal
use Rattle.retired_paths.proofs.retiring.Retiring.step_many.Goals.{After-step_many-count}

pub returns-in_default-2-clause-nothing : goal.returns-in_default-2-clause-nothing
returns-in_default-2-clause-nothing c s events can = adds_none c.args.image.now s c.args.self.now events can.stands

quiet : (c : After-step_many-count) (s : Sizes) (events : List Event)
    (can : CanGoOn c.args.image.now s c.args.self.now events (events_with events c.args.n event.Step))
    → Quiet c.args.image.now s c.args.self.now can.stands.run.execution (c.step_many-count.ensures.stands s events can.stands.run).execution
    c.step_many-count.result c.in-Some-Some.pc c.in-Some-Some.ctx
quiet c s events can =
    let e = c.step_many-count.ensures in
    quiet_so c.args.image.now s c.args.self.now events c.args.n c.step_many-count.result c.in-Some-Some.pc c.in-Some-Some.ctx c.step_many-count.new.self can
    (e.stands s events can.stands.run) e.count e.accepted (sym c.in-Some-Some.is-0 ∙ c.pc.ensures) (sym c.in-Some-Some.is-1 ∙ c.ctx.ensures)

pub retire_plain-requires-clause-follows : goal.retire_plain-requires-clause-follows
retire_plain-requires-clause-follows c =
    let can = c.requires.2 in
    (quiet (goal.at.retire_plain-requires-clause-follows c).After-step_many-count c.requires.0 c.requires.1 can).takes.follows
    (sym can.stands.depth ∙ c.if-self-eq0.true)

pub retire_plain-requires-clause-few : goal.retire_plain-requires-clause-few
retire_plain-requires-clause-few c =
    let can = c.requires.2 in
    let few = (quiet (goal.at.retire_plain-requires-clause-few c).After-step_many-count c.requires.0 c.requires.1 can).takes.few
    (sym can.stands.depth ∙ c.if-self-eq0.true) in
    omega (arith, few)

pub returns-then-self-eq0-clause-nothing : goal.returns-then-self-eq0-clause-nothing
returns-then-self-eq0-clause-nothing c s events can =
    let t = c.args.self.now in
    let n = c.step_many-count.result in
    let pc = c.in-Some-Some.pc in
    let ctx = c.in-Some-Some.ctx in
    adds_by c.args.image.now s t (record { run = c.step_many-count.new.self; depth = t.depth; path = c.retire_plain.new.self; shown = t.shown }) events n pc ctx
    can.stands (c.step_many-count.ensures.stands s events can.stands.run)
    (quiet (goal.at.returns-then-self-eq0-clause-nothing c).After-step_many-count s events can) refl
    (c.retire_plain.ensures.begun ∙ path_at_0 s.depth t.path pc ctx n (sym can.stands.depth ∙ c.if-self-eq0.true)) refl

pub returns-else-self-eq0-clause-nothing : goal.returns-else-self-eq0-clause-nothing
returns-else-self-eq0-clause-nothing c s events can =
    let t = c.args.self.now in
    let n = c.step_many-count.result in
    let pc = c.in-Some-Some.pc in
    let ctx = c.in-Some-Some.ctx in
    adds_by c.args.image.now s t (record { run = c.step_many-count.new.self; depth = t.depth; path = t.path; shown = t.shown }) events n pc ctx
    can.stands (c.step_many-count.ensures.stands s events can.stands.run)
    (quiet (goal.at.returns-else-self-eq0-clause-nothing c).After-step_many-count s events can) refl
    (path_deep s.depth t.path pc ctx n (λ flat. c.if-self-eq0.false (can.stands.depth ∙ flat))) refl
