use Rattle.std.proofs.Common.{subst}
use Rattle.program_image.specs.Blocks.{HasGap}
use Rattle.program_image.proofs.Gaps.{gap_of}
use Rattle.program_image.proofs.image.Image.placed_run.Goals as goal

pub returns-clause-gap : goal.returns-clause-gap
returns-clause-gap c =
    let gap = gap_of c.self.inside.parts.items c.self.invariant.0 in
    subst HasGap c.self.view_is (record { address = gap.0; within = gap.1.0; aligned = gap.1.1; none = gap.1.2 })
