use Rattle.std.proofs.Common.{◌≤◌, ◌+◌, arith, length, ap}
use Rattle.element_queue.proofs.LowBits.{atoms_behind, fits_word, grown, low_bits-length}
use Rattle.element_queue.proofs.plain_atoms.PlainAtoms.push_run.Goals as goal

pub overflow_add-self : goal.overflow_add-self
overflow_add-self c =
    let q = c.self.inside in
    let run = c.args.atoms.now in
    let size = low_bits-length q.count q.bits in
    let room : q.count + run.count ≤ 64 = omega (arith, c.requires.room, size, ap length c.self.view_is) in
    let more = grown q.count q.bits run.count run.bits c.from.result c.wrapping_shl.result c.self.invariant.1 room c.requires.few c.from.ensures
    c.wrapping_shl.ensures in
    let below = fits_word (q.count + run.count) _ more.fits room in
    omega (arith, more.whole, below)

pub invariant_of-self : goal.invariant_of-self
invariant_of-self c =
    let q = c.self.inside in
    let run = c.args.atoms.now in
    let size = low_bits-length q.count q.bits in
    let room : q.count + run.count ≤ 64 = omega (arith, c.requires.room, size, ap length c.self.view_is) in
    let more = grown q.count q.bits run.count run.bits c.from.result c.wrapping_shl.result c.self.invariant.1 room c.requires.few c.from.ensures
    c.wrapping_shl.ensures in
    rw (more.whole, c.from-2.ensures) (room, more.fits)

pub returns : goal.returns
returns c =
    let q = c.self.inside in
    let run = c.args.atoms.now in
    let size = low_bits-length q.count q.bits in
    let room : q.count + run.count ≤ 64 = omega (arith, c.requires.room, size, ap length c.self.view_is) in
    let more = grown q.count q.bits run.count run.bits c.from.result c.wrapping_shl.result c.self.invariant.1 room c.requires.few c.from.ensures
    c.wrapping_shl.ensures in
    rw (more.whole, c.from-2.ensures, ← c.self.view_is) (atoms_behind q.count q.bits run.count run.bits c.self.invariant.1)
