use Rattle.program_image.proofs.Gaps.{gap_of}
use Rattle.program_image.proofs.laws.each_image_has_a_gap.Goals as goal

pub returns : goal.returns
returns c = λ image is. let gap = gap_of image is in (gap.0, gap.1.0, gap.1.1, gap.1.2)
