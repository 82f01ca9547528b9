use Rattle.std.proofs.Common.{arith, ap, Err, inr}
use Rattle.program_image.proofs.TooLong.{too_long}
use Rattle.program_image.proofs.image.Image.read.Goals as goal

pub returns-in-Err-TooLong-clause-bad : goal.returns-in-Err-TooLong-clause-bad
returns-in-Err-TooLong-clause-bad g c = λ line why e.
    let taken = c.in-Err-TooLong.ensures.too_long (ap Err c.in-Err-TooLong.field-0-is) in
    (taken.0, taken.2, too_long taken.0 line why (omega (arith, taken.1)) (cc) (cc), inr (omega (arith, taken.1)))
