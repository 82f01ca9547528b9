-- The timestamp of a place in a trace (Arm IHI 0064, "Timestamp packet", "Trace Info packet").
use Rattle.std.specs.Prelude.{ℕ, ◌+◌, ◌*◌, ◌/◌, ◌^◌, ◌<◌, Bool, if◌then◌else◌, Option, Some, None}
use Rattle.std.specs.Option.{unwrap_or}
use Rattle.packet_grammar.specs.Ranges.{IsStampSize}
use Rattle.packet_grammar.specs.declared.packet.Packet.{Packet}
use Rattle.packet_grammar.specs.declared.packet.Packet.TheVariants as packet

-- where one is known
abbrev pub Stamp : Type 0
Stamp = Option ℕ

-- a timestamp with so many of its lowest bits replaced
abbrev pub with_low : ℕ → ℕ → ℕ → ℕ
with_low known bits low = known / 2 ^ bits * 2 ^ bits + low

-- The timestamp behind a packet, by whether a trace info packet came before it. A timestamp packet gives the lowest bits; those above them
-- stay, and are 0 where none was known. A trace info packet takes it away: the trace begins anew.
abbrev pub stamp_after : Bool → Stamp → Packet → Stamp
stamp_after informed stamp (packet.Info info key spec cyct) = None
stamp_after informed stamp (packet.Time bits low) = if informed then Some (with_low (unwrap_or stamp 0) bits low) else stamp
stamp_after informed stamp p = stamp

-- the bits of a timestamp packet are some that it can have
abbrev pub HasStamp : Packet → Type 0
HasStamp (packet.Time bits low) = IsStampSize bits × (low < 2 ^ bits)
HasStamp p = Unit {0}
