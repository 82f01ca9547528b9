use Rattle.std.proofs.Common.{arith, get_or, false}
use Rattle.packet_writer.proofs.Longest.{bit_within, row_found_is, row_more, row_small}
use Rattle.packet_writer.proofs.fronts.front_of_few.Goals as goal

pub overflow_mul-row : goal.overflow_mul-row
overflow_mul-row c =
    let small = row_small c.args.atoms.now c.loop-atom.atom-index c.loop-atom.row c.requires.some c.requires.few c.loop-atom.invariant in
    omega (arith, small)

pub overflow_add-row : goal.overflow_add-row
overflow_add-row c =
    let small = row_small c.args.atoms.now c.loop-atom.atom-index c.loop-atom.row c.requires.some c.requires.few c.loop-atom.invariant in
    let bit = bit_within (get_or c.args.atoms.now c.loop-atom.atom-index false) c.from.result c.from.ensures in
    omega (arith, small, bit)

pub loop-atom-preserved : goal.loop-atom-preserved
loop-atom-preserved c =
    row_more c.args.atoms.now c.loop-atom.atom-index c.loop-atom.row c.from.result c.loop-atom-test.true c.loop-atom.invariant c.from.ensures

pub offset_bounds-row : goal.offset_bounds-row
offset_bounds-row c =
    let small = row_small c.args.atoms.now c.loop-atom.atom-index c.loop-atom.row c.requires.some c.requires.few c.loop-atom.invariant in
    omega (arith, small)

pub bounds-byte-row : goal.bounds-byte-row
bounds-byte-row c =
    row_small c.args.atoms.now c.loop-atom.atom-index c.loop-atom.row c.requires.some c.requires.few c.loop-atom.invariant

pub bounds-count-row : goal.bounds-count-row
bounds-count-row c =
    row_small c.args.atoms.now c.loop-atom.atom-index c.loop-atom.row c.requires.some c.requires.few c.loop-atom.invariant

pub returns-clause-front : goal.returns-clause-front
returns-clause-front c =
    rw c.from-2.ensures
    (row_found_is c.args.atoms.now c.loop-atom.atom-index c.loop-atom.row c.requires.some c.requires.few c.loop-atom-test.false c.loop-atom.invariant).front

pub returns-clause-longest : goal.returns-clause-longest
returns-clause-longest c =
    rw c.from-2.ensures
    (row_found_is c.args.atoms.now c.loop-atom.atom-index c.loop-atom.row c.requires.some c.requires.few c.loop-atom-test.false c.loop-atom.invariant).longest
