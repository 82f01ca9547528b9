use Rattle.std.proofs.Common.{ℕ, ◌<◌, ◌^◌, arith}
use Rattle.std.proofs.lemmas.List.Elements.{All-from_get_or}
use Rattle.return_stack.proofs.Joining.{filled_keeps, filled_shows}
use Rattle.return_stack.proofs.saved.SavedStack.joined.Goals as goal

pub invariant_of-result : goal.invariant_of-result
invariant_of-result c =
    let newer = c.args.newer.now in let older = c.args.older.now in
    let front = All-from_get_or (λ (a : ℕ). a < 2 ^ 64) newer 0 (λ i lt. omega (arith, c.type_inv.newer i)) in
    let back = All-from_get_or (λ (a : ℕ). a < 2 ^ 64) older 0 (λ i lt. omega (arith, c.type_inv.older i)) in
    rw (c.copy_from_slice.ensures.after, c.copy_from_slice-2.ensures.after) (filled_keeps newer older c.requires front back)

pub returns : goal.returns
returns c = rw (c.copy_from_slice.ensures.after, c.copy_from_slice-2.ensures.after) (filled_shows c.args.newer.now c.args.older.now)
