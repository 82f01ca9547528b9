use Rattle.std.proofs.Common.{◌∙◌, ◌+◌, ◌++◌, List, ℕ, ap, arith, drop, refl, subst, sym}
use Rattle.std.proofs.lemmas.Option.{slice_get_within}
use Rattle.std.proofs.lemmas.Result.{err_from_is_err_and}
use Rattle.woven_traces.proofs.WovenFrames.{cut_part, last_part, parts_more, weaves_cut, weaving_part}
use Rattle.woven_traces.proofs.WovenPlaces.{last_weave, next_weave}
use Rattle.woven_traces.specs.Weaving.{Weaves, all_left}
use Rattle.woven_traces.specs.Woven.{in_a_row, left_behind, next_of, under, woven}
use Rattle.trace_io.specs.declared.traits.Failed.{Failed}
use Rattle.woven_traces.proofs.weaving.push_woven.Goals as goal

pub returns-in_err-push_weave-clause-weaves : goal.returns-in_err-push_weave-clause-weaves
returns-in_err-push_weave-clause-weaves g c start pairs was =
    let now = g.K.Sink.state c.push_weave.new.out in
    let weaves = c.args.bench.now.weaves in
    let k = c.loop-weave.k in
    let w = c.in-Some.weave in
    let streams = all_left c.loop-weave.traces in
    let left = left_behind w.id w.count streams in
    let next = next_weave weaves k w streams left (sym c.in-Some.ensures.value) refl in
    let so_far = c.loop-weave.invariant.so_far start pairs was in
    let failed = c.in_err-push_weave.ensures.weaves start (pairs ++ so_far.0) so_far.1 in
    let whole = woven weaves (all_left c.args.traces.now) in
    let cut = cut_part pairs whole so_far.0 (woven (drop k weaves) streams) (under w.id (next_of w.id w.count streams)) (woven (drop (k + 1) weaves) left)
    so_far.2 next start now failed.cut in
    let p = err_from_is_err_and c.from_residual.result c.from_residual.ensures.1 in
    rw p.1 (weaves_cut c.push_weave.new.frames (pairs ++ whole) start now p.0 cut)

pub loop-weave-smaller : goal.loop-weave-smaller
loop-weave-smaller g c =
    let lt = slice_get_within c.args.bench.now.weaves c.loop-weave.k c.in-Some.weave (sym c.in-Some.ensures.value) in
    omega (arith, lt)

pub loop-weave-preserved : goal.loop-weave-preserved
loop-weave-preserved g c = record {
  ready = c.in_ok-push_weave.ensures.failed;
  so_far = λ start pairs was.
      let now = g.K.Sink.state c.push_weave.new.out in
      let weaves = c.args.bench.now.weaves in
      let k = c.loop-weave.k in
      let w = c.in-Some.weave in
      let streams = all_left c.loop-weave.traces in
      let left = all_left c.push_weave.new.traces in
      let next = next_weave weaves k w streams left (sym c.in-Some.ensures.value) c.in_ok-push_weave.ensures.left in
      let so_far = c.loop-weave.invariant.so_far start pairs was in
      let one = under w.id (next_of w.id w.count streams) in
      let done = c.in_ok-push_weave.ensures.weaves start (pairs ++ so_far.0) so_far.1 in
      let whole = woven weaves (all_left c.args.traces.now) in (
        so_far.0 ++ one,
        weaving_part c.push_weave.new.frames pairs so_far.0 one start now done.done,
        parts_more pairs whole so_far.0 (woven (drop k weaves) streams) one (woven (drop (k + 1) weaves) left) so_far.2 next,
      );
}

pub returns-clause-weaves : goal.returns-clause-weaves
returns-clause-weaves g c start pairs was =
    let now = g.K.Sink.state c.push_rest.new.out in
    let weaves = c.args.bench.now.weaves in
    let k = c.loop-weave.k in
    let streams = all_left c.loop-weave.traces in
    let so_far = c.loop-weave.invariant.so_far start pairs was in
    let last = last_weave weaves k streams (sym c.in_default.ensures.value) in
    let whole = woven weaves (all_left c.args.traces.now) in
    let parts = so_far.2 ∙ ap (λ (l : List (ℕ × ℕ)). so_far.0 ++ l) last in
    subst (λ (l : List (ℕ × ℕ)). Weaves {T = Unit {0}} {E = Failed} c.push_rest.new.frames l start now c.push_rest.result)
    (last_part pairs whole so_far.0 (in_a_row streams) parts) (c.push_rest.ensures.weaves start (pairs ++ so_far.0) so_far.1)
