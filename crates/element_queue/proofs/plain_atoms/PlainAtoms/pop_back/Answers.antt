use Rattle.std.proofs.Common.{◌≡◌, ◌<◌, ◌-◌, ◌+◌, ◌*◌, ◌/◌, ◌^◌, ◌%◌, ◌==◌, ℕ, [], ◌∷◌, ◌++◌, arith, ap, subst, ◌∙◌}
use Rattle.std.proofs.lemmas.Nat.{shl_whole, shr_below, shr_split}
use Rattle.etm_types.specs.Atoms.{low_bits}
use Rattle.element_queue.proofs.LowBits.{low_bits-length, low_bits-split}
use Rattle.element_queue.proofs.plain_atoms.PlainAtoms.pop_back.Goals as goal

-- the newest is the highest bit
one_less : (n bits : ℕ) → bits < 2 ^ (n + 1) → n < 64
    → low_bits (n + 1) bits ≡ low_bits n (bits - bits / 2 ^ n * 2 ^ n % 2 ^ 64) ++ (bits / 2 ^ n == 1) ∷ []
one_less n bits fits room =
    let turned : n + 1 ≡ 1 + n = omega arith in
    let top : bits / 2 ^ n < 2 ^ 1 = shr_below bits 1 n (subst (λ k. bits < 2 ^ k) turned fits) in
    let whole = shl_whole (bits / 2 ^ n) 1 n 64 top (omega arith) in
    let split = shr_split bits n in
    let rest : bits % 2 ^ n ≡ bits - bits / 2 ^ n * 2 ^ n % 2 ^ 64 = omega (arith, whole, split) in
    let one : bits / 2 ^ n % 2 ≡ bits / 2 ^ n = omega (arith, top) in
    low_bits-split n 1 bits ∙ ap (λ b. low_bits n (bits % 2 ^ n) ++ (b == 1) ∷ []) one
    ∙ ap (λ b. low_bits n b ++ (bits / 2 ^ n == 1) ∷ []) rest

pub returns-clause-order : goal.returns-clause-order
returns-clause-order c =
    let q = c.self.inside in
    let n = q.count - 1 in
    let count : q.count ≡ n + 1 = omega (arith, c.if-self-eq0.false) in
    let fits = subst (λ k. q.bits < 2 ^ k) count c.self.invariant.1 in
    rw (← c.self.view_is) (ap (λ k. low_bits k q.bits) count ∙ one_less n q.bits fits (omega (arith, c.self.invariant.0, count)))

pub returns-clause-room : goal.returns-clause-room
returns-clause-room c =
    rw low_bits-length (omega (arith, c.self.invariant.0, c.if-self-eq0.false))
