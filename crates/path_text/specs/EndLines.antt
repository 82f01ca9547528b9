-- The lines of how a stream ends, with the reasons of its faults.
use Rattle.std.specs.Prelude.{ℕ, List, [], ◌∷◌, ◌++◌, codes}
use Rattle.etm_types.specs.declared.queue_fault.QueueFault.{QueueFault}
use Rattle.etm_types.specs.declared.queue_fault.QueueFault.TheVariants as queue
use Rattle.etm_types.specs.declared.walk_fault.WalkFault.{WalkFault}
use Rattle.etm_types.specs.declared.walk_fault.WalkFault.TheVariants as walk
use Rattle.packet_grammar.specs.declared.fault.PacketFault.{PacketFault}
use Rattle.packet_grammar.specs.declared.fault.PacketFault.TheVariants as packet
use Rattle.packet_grammar.specs.declared.fault.RefusedKind.{RefusedKind}
use Rattle.packet_grammar.specs.declared.fault.RefusedKind.TheVariants as kind
use Rattle.packet_grammar.specs.declared.stream_fault.Fault.{Fault}
use Rattle.packet_grammar.specs.declared.stream_fault.Fault.TheVariants as fault
use Rattle.path_text.specs.Lines.{hex, decimal, byte_text, line_of}
use Rattle.packet_grammar.specs.declared.end.End.{End}
use Rattle.packet_grammar.specs.declared.end.End.TheVariants as end

abbrev pub refused_text : RefusedKind → List ℕ
refused_text kind.CycleCount = codes "cycle-count"
refused_text kind.TimeCycle = codes "time-cycle"
refused_text kind.DataSync = codes "data-sync"
refused_text kind.Conditional = codes "conditional"
refused_text kind.Q = codes "q"
refused_text kind.MProfile = codes "m-profile"
refused_text kind.Aarch32Address = codes "aarch32-address"

abbrev pub packet_fault_text : PacketFault → List ℕ
packet_fault_text (packet.Reserved byte) = codes "reserved " ++ byte_text byte
packet_fault_text (packet.Refused about byte) = codes "refused " ++ refused_text about ++ codes " " ++ byte_text byte
packet_fault_text (packet.Extension byte) = codes "extension " ++ byte_text byte
packet_fault_text packet.BrokenSync = codes "broken-sync"
packet_fault_text (packet.InfoControl byte) = codes "info-control " ++ byte_text byte
packet_fault_text (packet.InfoMode value) = codes "info-mode " ++ decimal value
packet_fault_text packet.NumberTooLong = codes "number-too-long"
packet_fault_text (packet.ExceptionTwoByte byte) = codes "exception-two-byte " ++ byte_text byte
packet_fault_text (packet.ExceptionForm byte) = codes "exception-form " ++ byte_text byte
packet_fault_text (packet.Aarch32Context byte) = codes "aarch32-context " ++ byte_text byte

abbrev pub queue_fault_text : QueueFault → List ℕ
queue_fault_text (queue.CommitOverrun asked held) = codes "commit-overrun " ++ decimal asked ++ codes " " ++ decimal held
queue_fault_text (queue.CancelOverrun asked held) = codes "cancel-overrun " ++ decimal asked ++ codes " " ++ decimal held
queue_fault_text (queue.NoAtomToFlip held) = codes "no-atom " ++ decimal held
queue_fault_text (queue.SpecTooDeep spec depth) = codes "spec-too-deep " ++ decimal spec ++ codes " " ++ decimal depth

abbrev pub walk_fault_text : WalkFault → List ℕ
walk_fault_text (walk.AddressMismatch known given) = codes "address-mismatch " ++ hex known ++ codes " " ++ hex given
walk_fault_text (walk.NoCode address) = codes "no-code " ++ hex address
walk_fault_text (walk.Odd address) = codes "odd " ++ hex address
walk_fault_text (walk.BadAtom address) = codes "bad-atom " ++ hex address
walk_fault_text (walk.ReturnMissed address ret) = codes "return-missed " ++ hex address ++ codes " " ++ hex ret

abbrev pub fault_text : Fault → List ℕ
fault_text (fault.Packet why) = packet_fault_text why
fault_text fault.AddressAwaited = codes "address-awaited"
fault_text (fault.Queue why) = queue_fault_text why
fault_text (fault.Walk why) = walk_fault_text why

abbrev pub end_text : End → List ℕ
end_text end.Clean = codes "end"
end_text (end.Cut n) = codes "cut " ++ decimal n
end_text end.NoSync = codes "nosync"
end_text (end.Fault at why) = codes "fault " ++ decimal at ++ codes " " ++ fault_text why

abbrev pub end_line : ℕ → End → List ℕ
end_line id last = line_of id (end_text last)

-- the line of a frame that was begun, of which so many bytes are there; it is of no stream
abbrev pub frame_cut_line : ℕ → List ℕ
frame_cut_line left = (codes "frame cut " ++ decimal left) ++ 10 ∷ []
