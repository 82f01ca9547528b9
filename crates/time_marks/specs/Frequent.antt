-- The packets that most traces are made of (Arm IHI 0064, atom packets, "Commit packet").
use Rattle.std.specs.Prelude.{◌≡◌, true, None}
use Rattle.packet_grammar.specs.declared.packet.Packet.{Packet}
use Rattle.packet_grammar.specs.declared.packet.Packet.TheVariants as packet
use Rattle.time_marks.specs.declared.frequent.Frequent.{Frequent}
use Rattle.time_marks.specs.declared.frequent.Frequent.TheVariants.{Atoms, Commit}
use Rattle.time_marks.specs.declared.timing.Timing.{Timing}

-- such a one among all packets
abbrev pub packet_of : Frequent → Packet
packet_of (Atoms run) = packet.Atoms run
packet_of (Commit n) = packet.Commit n

-- no fault was met, and such packets count and may come: a trace info packet came before, and no exception awaits its address
abbrev pub IsReady : Timing → Type 0
IsReady p = ((p.line).fault ≡ None) × ((p.maker).informed ≡ true) × ((p.maker).awaiting ≡ None)
