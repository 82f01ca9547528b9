use Rattle.std.proofs.Common.{arith, ap, Err, inr}
use Rattle.elf_image.proofs.First.{too_long}
use Rattle.elf_image.proofs.read.read_elf.Goals as goal

pub returns-in-Err-TooLong-clause-bad : goal.returns-in-Err-TooLong-clause-bad
returns-in-Err-TooLong-clause-bad g c = λ why e.
    let taken = c.in-Err-TooLong.ensures.too_long (ap Err c.in-Err-TooLong.field-0-is) in
    (taken.0, taken.2, too_long taken.0 why (omega (arith, taken.1)) (cc), inr (omega (arith, taken.1)))
