-- Room for bytes that are written in parts.
use Rattle.std.proofs.Common.{◌≡◌, ℕ, List, ◌++◌, length, ap, arith, length-append, vec_capacity}
use Rattle.std.specs.Prelude.{Vec}
use Rattle.trace_unit.specs.Room.{RoomForBytes}

pub room_first : {A : Type 0} (bytes : Vec ℕ A) (xs ys : List ℕ) → RoomForBytes bytes (xs ++ ys) → RoomForBytes bytes xs
room_first bytes xs ys room = omega (arith, room, length-append xs ys)

-- the first part was written
pub room_left : {A : Type 0} (old new : Vec ℕ A) (xs ys : List ℕ) → new.items ≡ old.items ++ xs → vec_capacity new ≡ vec_capacity old
    → RoomForBytes old (xs ++ ys) → RoomForBytes new ys
room_left old new xs ys e c room =
    omega (arith, room, length-append xs ys, length-append old.items xs, ap length e, old.ok.0, new.ok.0, c)
