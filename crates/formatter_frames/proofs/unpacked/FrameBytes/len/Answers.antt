use Rattle.std.proofs.Common.{sym}
use Rattle.formatter_frames.proofs.Zipped.{shown_length}
use Rattle.formatter_frames.proofs.unpacked.FrameBytes.len.Goals as goal

pub returns-clause-count : goal.returns-clause-count
returns-clause-count c =
    let b = c.self.inside in sym (shown_length b.count b.ids b.bytes c.args.self.now c.self.view_is c.self.invariant.0 c.self.told.0 c.self.told.1)
