use Rattle.std.proofs.Common.{sym}
use Rattle.element_queue.proofs.Parts.{held-length}
use Rattle.element_queue.proofs.outlook.Outlook.held.Goals as goal

pub returns : goal.returns
returns c =
    let o = c.self.inside in rw (← c.self.view_is) (sym (held-length o.committed o.count o.bits))
