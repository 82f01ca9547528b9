use Rattle.std.proofs.Common.{sym}
use Rattle.element_queue.proofs.Parts.{gone-length}
use Rattle.element_queue.proofs.outlook.Outlook.committed.Goals as goal

pub returns : goal.returns
returns c =
    let o = c.self.inside in rw (← c.self.view_is) (sym (gone-length o.committed o.count o.bits c.self.invariant.2))
