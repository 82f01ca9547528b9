use Rattle.std.proofs.Common.{◌≡◌, length, reverse}
use Rattle.std.specs.Prelude.{fold}
use Rattle.program_image.specs.ImageText.{by_address, placed}
use Rattle.program_image.proofs.draft.Draft.by_address.Given as goal

abbrev pub invariant-loop-part : goal.invariant-loop-part
invariant-loop-part l = by_address l.fn.self ≡ fold placed l.sorted.items (reverse l.parts.items)

abbrev pub decreases-loop-part : goal.decreases-loop-part
decreases-loop-part l = length l.parts.items
