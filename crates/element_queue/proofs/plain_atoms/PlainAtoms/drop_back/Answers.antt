use Rattle.std.proofs.Common.{◌≡◌, ◌-◌, ◌%◌, ap, arith, length, sym, take, ◌∙◌}
use Rattle.std.proofs.lemmas.Nat.{one_shl}
use Rattle.etm_types.specs.Atoms.{low_bits}
use Rattle.element_queue.proofs.LowBits.{low_bits-length, low_bits-take}
use Rattle.element_queue.proofs.plain_atoms.PlainAtoms.drop_back.Goals as goal

pub overflow_sub-self : goal.overflow_sub-self
overflow_sub-self c =
    let q = c.self.inside in omega (arith, c.requires, low_bits-length q.count q.bits, ap length c.self.view_is)

pub returns-then-self-lt-MOST_PLAIN : goal.returns-then-self-lt-MOST_PLAIN
returns-then-self-lt-MOST_PLAIN c =
    let q = c.self.inside in let k = q.count - c.args.n in
    let size = low_bits-length q.count q.bits in
    let left : k ≡ length c.args.self.now - c.args.n = omega (arith, size, ap length c.self.view_is) in
    ap (λ m. low_bits k (q.bits % m)) (one_shl k 64 c.if-self-lt-MOST_PLAIN.true)
    ∙ sym (low_bits-take k q.count q.bits (omega arith))
    ∙ ap (take k) c.self.view_is ∙ ap (λ m. take m c.args.self.now) left
