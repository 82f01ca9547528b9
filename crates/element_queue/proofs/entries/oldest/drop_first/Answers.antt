use Rattle.std.proofs.Common.{◌≤◌, Bool, List, length, ap, arith, sym, ◌∙◌}
use Rattle.std.specs.Prelude.{slice_set}
use Rattle.element_queue.specs.Kept.{entries_in}
use Rattle.element_queue.proofs.EntryRuns.{are_oldest, first_dropped}
use Rattle.element_queue.proofs.entries.oldest.drop_first.Goals as goal

-- the first run has as many
within : (c : goal.After-runs-in-Some-1) → c.args.n ≤ length c.in-Some.run'.now.plain
within c = omega (arith, c.plain_count.ensures c.in-Some.run'.now (sym c.in-Some.ensures.value), c.if-plain_count-n.false)

pub returns-clause-rest : goal.returns-clause-rest
returns-clause-rest c taken plain =
    let runs = c.args.runs.now.items in let run = c.in-Some.run'.now in
    ap (λ (atoms : List Bool). entries_in (slice_set runs 0 (record run { plain = atoms })) plain) c.drop_front.ensures
    ∙ first_dropped runs run c.args.n plain (sym c.in-Some.ensures.value) (within c)

pub returns-clause-oldest : goal.returns-clause-oldest
returns-clause-oldest c taken plain = are_oldest c.args.runs.now.items c.in-Some.run'.now c.args.n plain (sym c.in-Some.ensures.value) (within c)
