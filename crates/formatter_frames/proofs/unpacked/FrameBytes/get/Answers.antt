use Rattle.std.proofs.Common.{◌≡◌, ℕ, List, Some, slice_get, slice_index_or, sym, subst, arith}
use Rattle.formatter_frames.proofs.Zipped.{beside_at, none_at, shown_length}
use Rattle.formatter_frames.proofs.unpacked.FrameBytes.get.Goals as goal

pub returns-then-i-self-clause-value : goal.returns-then-i-self-clause-value
returns-then-i-self-clause-value c =
    let b = c.self.inside in let few = c.self.invariant.0 in
    let here = beside_at b.count c.args.i b.ids b.bytes c.if-i-self.true (omega (arith, few, c.self.told.0)) (omega (arith, few, c.self.told.1)) in
    sym (subst (λ (v : List (ℕ × ℕ)). slice_get v c.args.i ≡ Some (slice_index_or b.ids c.args.i 0, slice_index_or b.bytes c.args.i 0)) c.self.view_is here)

pub returns-then-i-self-clause-none : goal.returns-then-i-self-clause-none
returns-then-i-self-clause-none c =
    let b = c.self.inside in
    let size = shown_length b.count b.ids b.bytes c.args.self.now c.self.view_is c.self.invariant.0 c.self.told.0 c.self.told.1 in
    (λ none. absurd cc, λ past. absurd (omega (arith, size, past, c.if-i-self.true)))

pub returns-else-i-self-clause-value : goal.returns-else-i-self-clause-value
returns-else-i-self-clause-value c =
    let b = c.self.inside in
    let size = shown_length b.count b.ids b.bytes c.args.self.now c.self.view_is c.self.invariant.0 c.self.told.0 c.self.told.1 in
    none_at c.args.self.now c.args.i (omega (arith, size, c.if-i-self.false))
