use Rattle.std.proofs.Common.{◌++◌, [], length}
use Rattle.trace_unit.proofs.RoomLeft.{room_first, room_left}
use Rattle.trace_unit.specs.Ordered.{bytes_of, told_by}
use Rattle.trace_unit.specs.Orders.{Settle, Start, Sync, Tell}
use Rattle.trace_unit.specs.Room.{RoomForBytes}
use Rattle.trace_unit.proofs.follower.Follower.sync.Goals as goal
use Rattle.trace_unit.proofs.follower.Follower.sync.Goals.{After-held-announced}

-- room for the trace info and the start, behind what is settled
behind_settle : (c : After-held-announced)
    → let n = length c.args.self.now.places.window.p0s in
    let settled = told_by c.args.self.now.teller Settle in
    RoomForBytes c.settle.new.bytes (bytes_of settled (Tell (Sync n))
    ++ (bytes_of (told_by settled (Tell (Sync n))) (Tell (Start c.args.self.now.places.places.start c.args.ctx)) ++ []))
behind_settle c =
    let old = c.args.bytes.now in
    let new = c.settle.new.bytes in
    room_left old new (bytes_of c.args.self.now.teller Settle) _ c.settle.ensures.bytes c.settle.ensures.capacity c.requires.room

pub sync-requires-clause-room : goal.sync-requires-clause-room
sync-requires-clause-room c =
    rw (c.settle.ensures.teller, c.held-announced.ensures.held)
    (room_first c.settle.new.bytes _ _ (behind_settle (goal.at.sync-requires-clause-room c).After-held-announced))

pub start-requires-2-clause-room : goal.start-requires-2-clause-room
start-requires-2-clause-room c =
    let old = c.settle.new.bytes in
    let new = c.sync.new.bytes in
    let written = rw (c.settle.ensures.teller, c.held-announced.ensures.held) at c.sync.ensures.bytes in
    rw (c.sync.ensures.teller, c.settle.ensures.teller, c.start.ensures)
    (room_first new _ []
    (room_left old new _ _ written c.sync.ensures.capacity (behind_settle (goal.at.start-requires-2-clause-room c).After-held-announced)))
