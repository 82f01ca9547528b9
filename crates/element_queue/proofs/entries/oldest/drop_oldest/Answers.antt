use Rattle.std.proofs.Common.{◌≡◌, ◌≤◌, Bool, List, length, take, ap, arith, ◌∙◌}
use Rattle.std.proofs.lemmas.List.{length-take-le}
use Rattle.element_queue.specs.Kept.{entries_in}
use Rattle.element_queue.proofs.EntryRuns.{plain_dropped, plain_oldest}
use Rattle.element_queue.proofs.entries.oldest.drop_oldest.Goals as goal

pub returns-clause-rest : goal.returns-clause-rest
returns-clause-rest c taken =
    let runs = c.args.runs.now.items in
    let none : length runs ≡ 0 = omega (arith, c.if-len-gt0.false, c.len.ensures.len) in
    ap (λ (plain : List Bool). entries_in runs plain) c.drop_front.ensures ∙ plain_dropped runs c.args.n c.args.plain.now none

pub returns-clause-oldest : goal.returns-clause-oldest
returns-clause-oldest c taken =
    let runs = c.args.runs.now.items in let n = c.args.n in let plain = c.args.plain.now in
    let none : length runs ≡ 0 = omega (arith, c.if-len-gt0.false, c.len.ensures.len) in
    let within : n ≤ length plain = omega (arith, c.if-len-n.false, c.len-2.ensures.len) in
    (take n plain, plain_oldest runs n plain none, length-take-le n plain within)
