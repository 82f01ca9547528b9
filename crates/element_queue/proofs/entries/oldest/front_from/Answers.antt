use Rattle.std.proofs.Common.{drop, sym, ◌∙◌}
use Rattle.element_queue.specs.Kept.{IsFront, entries_in}
use Rattle.element_queue.proofs.EntryRuns.{none_there}
use Rattle.element_queue.proofs.Fronts.{first_front, front_all, front_atoms, front_held, get_drop, plain_front}
use Rattle.element_queue.proofs.entries.oldest.front_from.Goals.{After-front, After-front-then-has_front}
use Rattle.element_queue.proofs.entries.oldest.front_from.Goals as goal

-- there are bits alone
only_bits : (c : After-front) → IsFront c.args.plain.now (entries_in (drop c.args.first c.args.runs.now.items) c.args.plain.now)
only_bits c =
    let runs = c.args.runs.now.items in
    plain_front (drop c.args.first runs) c.args.plain.now (none_there (drop c.args.first runs) (c.in_default.ensures.value ∙ sym (get_drop c.args.first runs)))

pub returns-in_default-clause-atoms : goal.returns-in_default-clause-atoms
returns-in_default-clause-atoms c = front_atoms c.args.plain.now _ _ c.front.result.count (only_bits c) c.front.ensures.atoms c.front.ensures.within

pub returns-in_default-clause-held : goal.returns-in_default-clause-held
returns-in_default-clause-held c = front_held c.args.plain.now _ c.front.result.count (only_bits c) c.front.ensures.within

pub returns-in_default-clause-all : goal.returns-in_default-clause-all
returns-in_default-clause-all c = front_all c.args.plain.now _ c.front.result.count (only_bits c) c.front.ensures.all

-- the bits of the run are all
run_bits : (c : After-front-then-has_front) → IsFront c.in-Some.run'.now.plain (entries_in (drop c.args.first c.args.runs.now.items) c.args.plain.now)
run_bits c =
    let runs = c.args.runs.now.items in let run = c.in-Some.run'.now in
    first_front (drop c.args.first runs) run c.args.plain.now (get_drop c.args.first runs ∙ sym c.in-Some.ensures.value) (c.has_front.ensures c.if-has_front.true)

pub returns-then-has_front-clause-atoms : goal.returns-then-has_front-clause-atoms
returns-then-has_front-clause-atoms c =
    front_atoms c.in-Some.run'.now.plain _ _ c.front-then-has_front.result.count (run_bits c) c.front-then-has_front.ensures.atoms c.front-then-has_front.ensures.within

pub returns-then-has_front-clause-held : goal.returns-then-has_front-clause-held
returns-then-has_front-clause-held c = front_held c.in-Some.run'.now.plain _ c.front-then-has_front.result.count (run_bits c) c.front-then-has_front.ensures.within

pub returns-then-has_front-clause-all : goal.returns-then-has_front-clause-all
returns-then-has_front-clause-all c = front_all c.in-Some.run'.now.plain _ c.front-then-has_front.result.count (run_bits c) c.front-then-has_front.ensures.all
