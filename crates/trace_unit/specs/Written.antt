-- The bytes that a trace unit writes for the events of a run.
use Rattle.std.specs.Prelude.{ℕ, List, ◌++◌}
use Rattle.std.specs.List.{flat_map}
use Rattle.etm_types.specs.Settings.{Sizes}
use Rattle.packet_grammar.specs.declared.packet.Packet.{Packet}
use Rattle.packet_writer.specs.Spelling.{spelling}
use Rattle.program_image.specs.declared.image.Image.{Image}
use Rattle.spec_run.specs.declared.event.Event.{Event}
use Rattle.trace_unit.specs.Effects.{orders}
use Rattle.trace_unit.specs.Packets.{nothing_shared, packets_all, settle_packets}
use Rattle.trace_unit.specs.Whole.{nothing_waits, waits_all}

abbrev pub spelled : Sizes → List Packet → List ℕ
spelled s packets = flat_map (spelling s) packets

-- what is written when the events are taken, with a return stack of so many addresses
abbrev pub written : Image → Sizes → ℕ → List Event → List ℕ
written image s most events = spelled s (packets_all s.depth nothing_waits nothing_shared (orders image s most events))

-- what waits behind them
abbrev pub pending : Image → Sizes → ℕ → List Event → List ℕ
pending image s most events = spelled s (settle_packets s.depth (waits_all s.depth nothing_waits (orders image s most events)))

-- the whole trace
abbrev pub settled : Image → Sizes → ℕ → List Event → List ℕ
settled image s most events = written image s most events ++ pending image s most events
