use Rattle.std.proofs.Common.{◌/◌, sym, subst}
use Rattle.packet_writer.proofs.Digits.{Putting, putting_first, putting_on}
use Rattle.packet_writer.proofs.numbers.put_number.Goals as goal

pub loop-rest-init : goal.loop-rest-init
loop-rest-init c = putting_first c.args.out.now c.args.n c.ranges.n.fits

pub loop-rest-preserved : goal.loop-rest-preserved
loop-rest-preserved c =
    subst (λ o. Putting c.args.out.now o c.args.n (c.loop-rest.rest / 128)) (sym c.put.ensures)
    (putting_on c.args.out.now c.loop-rest.out c.args.n c.loop-rest.rest c.loop-rest.invariant c.loop-rest-test.true)
