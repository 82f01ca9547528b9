use Rattle.std.proofs.Common.{◌≡◌, ◌<◌, ◌+◌, ◌∷◌, [], ℕ, suc, List, length, refl, ap, subst, arith}
use Rattle.etm_types.specs.declared.element.Thing.{Thing}
use Rattle.stream_decoder.specs.Waiting.{DropsDue, Waiting}
use Rattle.stream_decoder.proofs.LettingGo.{drops_more}
use Rattle.stream_decoder.proofs.machine.oldest.drop_each.Goals as goal

first_of : (xs : List Thing) → 0 < length xs → (x : Thing) × (others : List Thing) × (xs ≡ x ∷ others)
first_of [] some = absurd (omega (arith, some))
first_of (x ∷ xs) some = (x, xs, refl)

pub loop-k-init : goal.loop-k-init
loop-k-init c = record { drops = refl; due = omega arith; most = omega arith; holds = c.requires.holds }

pub loop-k-preserved : goal.loop-k-preserved
loop-k-preserved c =
    let i = c.loop-k.invariant in let w = c.loop-k.waiting in let w' = c.drop_due.new.self in let k = c.loop-k.k in
    let first = first_of w.due (omega (arith, i.due, c.loop-k-test.true, c.requires.due)) in
    let drops = c.drop_due.ensures.others first.0 first.1 first.2 in
    let more = drops_more c.args.waiting.now w w' k first.0 first.1 i.drops (first.2, drops, c.drop_due.ensures.holds) in
    let next : suc k ≡ k + 1 = omega arith in
    record {
      drops = subst (λ (n : ℕ). DropsDue c.args.waiting.now n w') next more;
      due = omega (arith, i.due, ap length first.2, ap (λ (v : Waiting). length v.due) drops);
      most = omega (arith, c.loop-k-test.true);
      holds = c.drop_due.ensures.holds;
    }

pub returns-clause-drops : goal.returns-clause-drops
returns-clause-drops c =
    let i = c.loop-k.invariant in let all : c.loop-k.k ≡ c.args.n = omega (arith, i.most, c.loop-k-test.false) in
    subst (λ (n : ℕ). DropsDue c.args.waiting.now n c.loop-k.waiting) all i.drops

pub returns-clause-holds : goal.returns-clause-holds
returns-clause-holds c = c.loop-k.invariant.holds
