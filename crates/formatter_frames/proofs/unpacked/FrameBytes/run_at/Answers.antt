use Rattle.std.proofs.Common.{◌≡◌, ℕ, ◌+◌, ◌-◌, List, length, take, drop, slice_get, slice_index_or, Some, sym, ap, subst, ◌∙◌, arith}
use Rattle.std.specs.List.{zip}
use Rattle.std.proofs.lemmas.List.{length-drop, length-take-le}
use Rattle.formatter_frames.specs.Symbols.{run_of}
use Rattle.formatter_frames.proofs.Zipped.{beside_at, beside_length, one_run, past_end, same_first, shown_length}
use Rattle.formatter_frames.proofs.unpacked.FrameBytes.run_at.Goals.{then-loop-end-test+else-self-end, else-loop-end-test}
use Rattle.formatter_frames.proofs.unpacked.FrameBytes.run_at.Goals as goal

pub returns-clause-none : goal.returns-clause-none
returns-clause-none c =
    let b = c.self.inside in
    let size : length c.args.self.now ≡ b.count =
    sym (ap length c.self.view_is) ∙ beside_length b.count b.ids b.bytes (omega (arith, c.self.invariant.0, c.self.told.0)) (omega (arith, c.self.invariant.0, c.self.told.1)) in
    (λ none. absurd cc, λ past. absurd (omega (arith, size, past, c.if-i-self.false)))

pub returns-clause-run : goal.returns-clause-run
returns-clause-run c =
    let b = c.self.inside in let i = c.loop-end.invariant in let k = c.loop-end.end - c.args.i in
    let run = take k (drop c.args.i b.bytes) in let id = slice_index_or b.ids c.args.i 0 in
    let many : length run ≡ k =
    length-take-le k (drop c.args.i b.bytes) (omega (arith, length-drop c.args.i b.bytes, i.last, i.first, c.self.invariant.0, c.self.told.1)) in
    let one = one_run c.args.i k b.count id b.ids b.bytes (omega (arith, i.last, i.first)) (omega (arith, c.self.invariant.0, c.self.told.0))
    (omega (arith, c.self.invariant.0, c.self.told.1)) (λ j from to. i.each j from (omega (arith, to, i.first))) in (
      omega (arith, many, i.first),
      subst (λ (n : ℕ). take n (drop c.args.i c.args.self.now) ≡ run_of id run) (sym many)
          (subst (λ (v : List (ℕ × ℕ)). take k (drop c.args.i v) ≡ run_of id run) c.self.view_is one),
    )

pub returns-clause-most : goal.returns-clause-most
returns-clause-most c =
    let b = c.self.inside in
    let size = shown_length b.count b.ids b.bytes c.args.self.now c.self.view_is c.self.invariant.0 c.self.told.0 c.self.told.1 in
    omega (arith, size, c.self.invariant.0)

pub returns-clause-longest : goal.returns-clause-longest
returns-clause-longest c next at =
    let b = c.self.inside in let i = c.loop-end.invariant in let k = c.loop-end.end - c.args.i in
    let run = take k (drop c.args.i b.bytes) in
    let many : length run ≡ k =
    length-take-le k (drop c.args.i b.bytes) (omega (arith, length-drop c.args.i b.bytes, i.last, i.first, c.self.invariant.0, c.self.told.1)) in
    let behind : c.args.i + length run ≡ c.loop-end.end = omega (arith, many, i.first) in
    let there = subst (λ (v : List (ℕ × ℕ)). slice_get v (c.args.i + length run) ≡ Some next) (sym c.self.view_is) at in
    let here = subst (λ (n : ℕ). slice_get (take b.count (zip b.ids b.bytes)) n ≡ Some next) behind there in
    elim c.loop-end-test.branch [
      | then-loop-end-test+else-self-end w ↦
          λ same. w.if-self-end.false (same_first _ next _ (sym (beside_at b.count c.loop-end.end b.ids b.bytes w.loop-end-test.true
          (omega (arith, c.self.invariant.0, c.self.told.0)) (omega (arith, c.self.invariant.0, c.self.told.1))) ∙ here) ∙ same)
      | else-loop-end-test w ↦
          absurd (past_end _ c.loop-end.end next (omega (
            arith,
            w.loop-end-test.false,
            i.last,
            beside_length b.count b.ids b.bytes (omega (arith, c.self.invariant.0, c.self.told.0)) (omega (arith, c.self.invariant.0, c.self.told.1)),
          )) here)
    ]
