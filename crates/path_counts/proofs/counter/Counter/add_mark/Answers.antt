use Rattle.std.proofs.Common.{◌∙◌, refl}
use Rattle.path_counts.specs.Counts.{Counting}
use Rattle.path_counts.specs.Levels.{levels_of}
use Rattle.path_counts.proofs.Counted.{mark_counted}
use Rattle.path_counts.proofs.counter.Counter.add_mark.Goals as goal

pub returns-clause-counted : goal.returns-clause-counted
returns-clause-counted c = λ image i has items is.
    let old : Counting = record { visits = levels_of c.self.inside.visits; taken = c.self.inside.taken; marks = c.self.inside.marks } in
    let new : Counting = record { visits = levels_of c.self.inside.visits; taken = c.self.inside.taken; marks = c.raise.new.self } in
    mark_counted image old new c.args.number i has refl refl c.raise.ensures.length c.raise.ensures.raised items (c.self.view_is ∙ is)
