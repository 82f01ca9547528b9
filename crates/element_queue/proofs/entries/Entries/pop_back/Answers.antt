use Rattle.std.proofs.Common.{◌≡◌, ◌+◌, [], ◌∷◌, ◌++◌, Bool, List, ap, arith, length, refl, sym, ◌∙◌}
use Rattle.element_queue.specs.Kept.{Kept, entries_in}
use Rattle.element_queue.specs.Queued.{plain_entry}
use Rattle.element_queue.proofs.EntryRuns.{longer, plain_popped, run_popped}
use Rattle.element_queue.proofs.Held.{none_left}
use Rattle.element_queue.proofs.entries.Entries.pop_back.Goals as goal

pub overflow_sub-self : goal.overflow_sub-self
overflow_sub-self c =
    let q = c.self.inside in
    let size = longer _ _ (plain_entry c.in-Some.taken) (plain_popped q.runs.items q.plain c.pop_back.new.self c.in-Some.taken c.in-Some.ensures.order) in
    omega (arith, size, c.self.invariant.0)

-- one fewer, where the newest was kept as a bit
fewer : (c : goal.After-from_atom)
    → length (entries_in c.self.inside.runs.items c.self.inside.plain) ≡ length (entries_in c.self.inside.runs.items c.pop_back.new.self) + 1
fewer c =
    let q = c.self.inside in
    longer _ _ (plain_entry c.in-Some.taken) (plain_popped q.runs.items q.plain c.pop_back.new.self c.in-Some.taken c.in-Some.ensures.order)

pub invariant_of-self : goal.invariant_of-self
invariant_of-self c =
    let i = c.self.invariant in let size = fewer c in (omega (arith, size, i.0), omega (arith, i.1), i.2)

pub returns-in-Some-clause-order : goal.returns-in-Some-clause-order
returns-in-Some-clause-order c =
    let q = c.self.inside in
    sym (ap (λ (k : Kept). k.items) c.self.view_is)
    ∙ plain_popped q.runs.items q.plain c.pop_back.new.self c.in-Some.taken c.in-Some.ensures.order
    ∙ ap (λ e. entries_in q.runs.items c.pop_back.new.self ++ e ∷ []) (sym c.from_atom.ensures)

pub returns-in-Some-clause-empty : goal.returns-in-Some-clause-empty
returns-in-Some-clause-empty c =
    let items = ap (λ (k : Kept). length k.items) c.self.view_is in let size = fewer c in (λ some. omega (arith, items, size), λ some. refl)

pub returns-in-Some-clause-bounded : goal.returns-in-Some-clause-bounded
returns-in-Some-clause-bounded c = let i = c.self.invariant in let size = fewer c in omega (arith, size, i.0, i.1)

-- or the last of the last run
parts : (c : goal.After-self-2-1) → entries_in c.self.inside.runs.items c.self.inside.plain
    ≡ entries_in c.pop_back-2.new.self.items c.replace.new.dest ++ c.in_ok-plain.field-0.last ∷ []
parts c =
    let q = c.self.inside in let run = c.in_ok-plain.field-0 in
    run_popped q.runs.items c.pop_back-2.new.self.items run q.plain c.in_ok-plain.ensures.order (none_left q.plain c.in_default.ensures.some.1)
    ∙ ap (λ (l : List Bool). entries_in c.pop_back-2.new.self.items l ++ run.last ∷ []) (sym c.replace.ensures.after)

pub invariant_of-self-2 : goal.invariant_of-self-2
invariant_of-self-2 c =
    let i = c.self.invariant in let size = longer _ _ c.in_ok-plain.field-0.last (parts c) in let same = c.in_ok-plain.ensures.capacity in
    (omega (arith, size, i.0), omega (arith, i.1, same), omega (arith, i.2, same))

pub returns-clause-order : goal.returns-clause-order
returns-clause-order c = sym (ap (λ (k : Kept). k.items) c.self.view_is) ∙ parts c

pub returns-clause-bounded : goal.returns-clause-bounded
returns-clause-bounded c =
    let i = c.self.invariant in let size = longer _ _ c.in_ok-plain.field-0.last (parts c) in
    omega (arith, size, i.0, i.1, c.in_ok-plain.ensures.capacity)
