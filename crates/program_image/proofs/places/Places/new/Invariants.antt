use Rattle.std.proofs.Common.{length}
use Rattle.program_image.proofs.WordPlaces.{Counting}
use Rattle.program_image.proofs.places.Places.new.Given as goal

abbrev pub invariant-loop-part : goal.invariant-loop-part
invariant-loop-part l = Counting l.parts l.rest l.before.items l.words

abbrev pub decreases-loop-part : goal.decreases-loop-part
decreases-loop-part l = length l.rest
