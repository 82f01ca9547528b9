-- What a ring ends as, once a `&mut` to one of its values has ended.
use Rattle.std.specs.Prelude.{ℕ, slice_set, Option}
use Rattle.std.specs.Borrow.{Fml, RattleType, MutBor, LendsIf}
use Rattle.spend_ring.specs.Ring.{Ring, ring}
use Rattle.spend_ring.specs.contracts.ring.SpendRing.{the_row}

-- at `Some` the i-th value is the last one written through r and the others stay, and at `None` the ring stays as it is
abbrev pub lends_item : (R : RattleType) → MutBor (Ring R.Denot) → ℕ → Option (MutBor R.Denot) → Fml
lends_item R b i r = LendsIf (the_row R) R b r (λ w. ring (slice_set b.now.items i w) b.now.capacity) b.now
