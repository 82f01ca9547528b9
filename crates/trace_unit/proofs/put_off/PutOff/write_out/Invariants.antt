use Rattle.std.proofs.Common.{◌≡◌, ◌++◌, length, vec_capacity}
use Rattle.trace_unit.specs.Packets.{out_packets, packed}
use Rattle.trace_unit.specs.Room.{Affords, RoomForBytes}
use Rattle.trace_unit.specs.Whole.{out}
use Rattle.trace_unit.specs.Written.{spelled}
use Rattle.trace_unit.proofs.put_off.PutOff.write_out.Given as goal

-- what is still to be written of the atoms comes to the same
abbrev pub invariant-loop-self : goal.invariant-loop-self
invariant-loop-self l =
    record {
      waiting : out l.settings.depth l.self ≡ out l.settings.depth l.fn.self;
      none : l.self.cancels ≡ 0;
      affords : Affords l.settings.depth l.self;
      room : RoomForBytes l.bytes (spelled l.settings (packed l.self.atoms));
      bytes : l.bytes.items ++ spelled l.settings (packed l.self.atoms) ≡ l.fn.bytes.items ++ spelled l.settings (out_packets l.fn.self);
      capacity : vec_capacity l.bytes ≡ vec_capacity l.fn.bytes;
    }

abbrev pub decreases-loop-self : goal.decreases-loop-self
decreases-loop-self l = length l.self.atoms
