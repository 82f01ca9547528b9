use Rattle.std.proofs.Common.{◌≡◌, [], ◌∷◌, ◌++◌, arith, subst}
use Rattle.std.proofs.lemmas.Result.{err_from_is_err_and}
use Rattle.path_text.proofs.Wrote.{wrote_nothing}
use Rattle.retired_paths.specs.Retiring.{events_with}
use Rattle.retired_paths.proofs.RetiredEvents.{Printed, can_more, front_of_times, once_more, printed_all, printed_more}
use Rattle.retired_paths.proofs.RetiredMany.{printed_first}
use Rattle.retired_paths.proofs.retiring.Retiring.print_line.Goals as goal

pub loop-init : goal.loop-init
loop-init g c = record {
  printed = λ s events can.
      let image = c.args.image.now in
      let state = g.K.Sink.state c.args.out.now in
      let all = events_with events c.pass_plain-done.result c.args.line.now.event in
      printed_first image s c.args.id c.args.self.now c.pass_plain-done.new.self events all state
      (c.pass_plain-done.ensures.nothing s events can) (wrote_nothing state);
  within = c.pass_plain-done.ensures.few;
}

pub print_event-requires : goal.print_event-requires
print_event-requires g c =
    let s = c.requires.0 in
    let events = c.requires.1 in
    let line = c.args.line.now in
    let k = c.loop.counter in (
      s,
      events_with events k line.event,
      can_more c.args.image.now s c.args.self.now c.loop.self events line.event line.times k (omega arith) c.requires.2
          (c.loop.invariant.printed s events c.requires.2).stands,
    )

pub returns-in_err-print_event : goal.returns-in_err-print_event
returns-in_err-print_event g c s events can =
    let image = c.args.image.now in
    let line = c.args.line.now in
    let k = c.loop.counter in
    let so_far = c.loop.invariant.printed s events can in
    let more = can_more image s c.args.self.now c.loop.self events line.event line.times k (omega arith) can so_far.stands in
    let p = err_from_is_err_and c.from_residual.result c.from_residual.ensures.1 in
    rw p.1 (front_of_times image s c.args.id c.args.self.now c.loop.self c.print_event.new.self events line.event line.times k _ _ _
    c.in_err-print_event.field-0.0 p.0 (omega arith) can so_far (c.in_err-print_event.ensures s (events_with events k line.event) more))

pub loop-preserved : goal.loop-preserved
loop-preserved g c = record {
  printed = λ s events can.
      let image = c.args.image.now in
      let state = g.K.Sink.state in
      let line = c.args.line.now in
      let t = c.args.self.now in
      let k = c.loop.counter in
      let so_far = c.loop.invariant.printed s events can in
      let more = can_more image s t c.loop.self events line.event line.times k (omega arith) can so_far.stands in
      subst (λ all. Printed image s c.args.id t events c.print_event.new.self all (state c.args.out.now) (state c.print_event.new.out))
      (once_more events line.event k)
      (printed_more image s c.args.id t c.loop.self c.print_event.new.self events (events_with events k line.event)
      (events_with events k line.event ++ line.event ∷ []) _ _ _ c.in_ok-print_event.field-0 can.stands so_far
      (c.in_ok-print_event.ensures s (events_with events k line.event) more));
  within = omega arith;
}

pub returns : goal.returns
returns g c s events can =
    let image = c.args.image.now in
    let state = g.K.Sink.state in
    let line = c.args.line.now in
    let so_far = c.loop.invariant.printed s events can in
    let all : c.loop.counter ≡ line.times = omega (arith, c.loop.invariant.within) in
    printed_all image s c.args.id c.args.self.now c.loop.self events (events_with events line.times line.event) _ _ _
    (subst (λ n. Printed image s c.args.id c.args.self.now events c.loop.self (events_with events n line.event) (state c.args.out.now) (state c.loop.out))
    all so_far)
