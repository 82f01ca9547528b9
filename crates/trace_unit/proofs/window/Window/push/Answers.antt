use Rattle.std.proofs.Common.{◌≡◌, ◌<◌, length, refl, sym, ap, subst, ◌∙◌, arith}
use Rattle.trace_unit.specs.Effects.{counts_made, counts_retired}
use Rattle.trace_unit.specs.Places.{with_newest}
use Rattle.trace_unit.specs.WindowKept.{StepKept, StepsKept, without_stacks}
use Rattle.trace_unit.proofs.WindowHeld.{emptied_length, no_room, none_left}
use Rattle.trace_unit.proofs.window.Window.push.Goals as goal

-- what has no room is handed back
pub returns-in-Some : goal.returns-in-Some
returns-in-Some c =
    let w = c.self.inside in
    let was = w.ring.items in
    let now = c.push_back.new.self.items in
    let step : StepKept = record { p0 = c.args.p0; saved = c.args.saved } in
    let full = c.in-Some.ensures.full.0 refl in
    let space = subst (λ (k : StepsKept). 0 < k.room → length k.steps < k.room) (sym c.self.view_is) c.requires in
    let none = no_room w.ring.capacity (length (without_stacks w.emptied was)) space (emptied_length w.emptied was ∙ full) in
    let gone : now ≡ was = none_left now (omega (arith, c.push_back.ensures.bounded, c.push_back.ensures.capacity)) ∙ sym (none_left was (omega (arith, full))) in
    rw (← c.self.view_is) (λ k. record {
      steps = (ap (without_stacks w.emptied) gone ∙ sym (ap (λ n. with_newest n (without_stacks w.emptied was) step) none)) k;
      room = c.push_back.ensures.capacity k;
      counts = (c.commit.ensures ∙ ap (counts_retired 1) c.new-newest.ensures.made ∙ sym (ap (λ n. counts_made n w.ledger) none)) k;
    })
