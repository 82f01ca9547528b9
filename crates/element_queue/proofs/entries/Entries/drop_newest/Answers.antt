use Rattle.std.proofs.Common.{arith, subst}
use Rattle.element_queue.specs.Kept.{AreNewest, Kept, entries_in}
use Rattle.element_queue.proofs.EntryRuns.{as_many, newest_dropped}
use Rattle.element_queue.proofs.entries.Entries.drop_newest.Goals as goal

-- these are the newest, and so many fewer are left
newest : (c : goal.After-drop_back)
    → AreNewest c.args.n (entries_in c.self.inside.runs.items c.drop_back.new.self) (entries_in c.self.inside.runs.items c.self.inside.plain)
newest c =
    let q = c.self.inside in
    newest_dropped q.runs.items q.plain c.drop_back.new.self c.args.n c.drop_back.ensures (omega (arith, c.if-len-n.false, c.len.ensures.len))

pub overflow_sub-self : goal.overflow_sub-self
overflow_sub-self c = let fewer = as_many _ _ _ (newest c) in omega (arith, fewer, c.self.invariant.0)

pub invariant_of-self : goal.invariant_of-self
invariant_of-self c =
    let q = c.self.inside in let i = c.self.invariant in
    let fewer = as_many _ _ _ (newest_dropped q.runs.items q.plain c.drop_back.new.self c.args.n c.drop_back.ensures
    (omega (arith, c.if-len-n.false, c.len.ensures.len))) in
    (omega (arith, fewer, i.0), omega (arith, i.1), i.2)

pub returns-clause-rest : goal.returns-clause-rest
returns-clause-rest c taken =
    let q = c.self.inside in
    subst (λ (k : Kept). AreNewest c.args.n (entries_in q.runs.items c.drop_back.new.self) k.items) c.self.view_is
    (newest_dropped q.runs.items q.plain c.drop_back.new.self c.args.n c.drop_back.ensures (omega (arith, c.if-len-n.false, c.len.ensures.len)))
