use Rattle.std.proofs.Common.{◌-◌, length, ap, sym, ◌∙◌, arith, refl}
use Rattle.std.proofs.lemmas.List.{length-map, length_push}
use Rattle.std.specs.Prelude.{slice_set}
use Rattle.trace_unit.specs.WindowKept.{StepKept, StepsKept, p0s_in, turn_step, without_stacks}
use Rattle.trace_unit.proofs.WindowHeld.{emptied_length, emptied_turned, newest_is, newest_set}
use Rattle.trace_unit.proofs.window.Window.flip.Goals.{in-Some, in_default}
use Rattle.trace_unit.proofs.window.Window.flip.Goals as goal

pub flip-requires : goal.flip-requires
flip-requires c =
    let w = c.self.inside in
    let within = c.in-Some.ensures.in_range.0 refl in
    let ends = ap (λ (k : StepsKept). p0s_in k.steps) c.self.view_is ∙ c.requires.2 in
    (c.requires.1, newest_is w.emptied (c.len.result - 1) w.ring.items c.in-Some.newest.now _ _ (sym c.in-Some.ensures.value) (omega arith) ends)

pub returns : goal.returns
returns c =
    let was = c.self.inside in
    let items = was.ring.items in
    let ends = ap (λ (k : StepsKept). p0s_in k.steps) c.self.view_is ∙ c.requires.2 in
    elim c.match-get_mut.branch [
      | in-Some w ↦
          let n = c.len.result - 1 in
          let within = w.in-Some.ensures.in_range.0 refl in
          let turned = ap (slice_set items n) w.flip.ensures
          ∙ newest_set turn_step items n w.in-Some.newest.now (sym w.in-Some.ensures.value) (omega arith) in
          let steps = ap (without_stacks was.emptied) turned ∙ emptied_turned was.emptied items in
          rw (w.self-inside-is, ← c.self.view_is) (λ k. record { steps = steps k; room = was.ring.capacity; counts = was.ledger })
      | in_default w ↦
          let some = ap length ends ∙ length_push c.requires.0 _ in
          let size = length-map (without_stacks was.emptied items) (λ (s : StepKept). s.p0) in
          let many = emptied_length was.emptied items in
          absurd (let e = w.in_default.ensures.in_range.1 (omega arith) in cc)
    ]
