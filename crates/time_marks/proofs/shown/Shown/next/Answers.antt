use Rattle.time_marks.proofs.Numbering.{one_shown}
use Rattle.time_marks.proofs.shown.Shown.next.Goals as goal

pub returns-then-new-clause-next : goal.returns-then-new-clause-next
returns-then-new-clause-next c done is = one_shown c.args.self.now done c.args.mark is

pub returns-else-new-clause-next : goal.returns-else-new-clause-next
returns-else-new-clause-next c done is = one_shown c.args.self.now done c.args.mark is
