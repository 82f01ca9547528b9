-- What a packet or a byte more makes of what was taken of a stream.
use Rattle.std.specs.Prelude.{◌≡◌, ℕ, ◌+◌, ◌↔◌, List, [], ◌∷◌, ◌++◌, Option, Some, None, Result, Ok, IsOk, IsErr, IsTrue}
use Rattle.std.specs.List.{concat}
use Rattle.packet_grammar.specs.declared.fault.PacketFault.{PacketFault}
use Rattle.packet_grammar.specs.declared.packet.Packet.{Packet}
use Rattle.packet_grammar.specs.declared.stream_fault.Fault.{Fault}
use Rattle.path_text.specs.Writing.{Writes}
use Rattle.time_marks.specs.Marked.{IsMarked}
use Rattle.time_marks.specs.Timed.{HasTimes, IsInformed, IsTimed, Prints, StandsAt, Timed, fault_behind}
use Rattle.time_marks.specs.TimeList.{TimesGains}
use Rattle.time_marks.specs.Times.{Times, after_packets}
use Rattle.time_marks.specs.declared.timing.Timing.{Timing}
use Rattle.trace_io.specs.Calls.{Serves}
use Rattle.trace_io.specs.State.{IoState}
use Rattle.trace_io.specs.declared.traits.Failed.{Failed}

-- packets are taken, and then a fault of the bytes behind them, where one was found; their lines are printed
abbrev pub PrintsPackets : {T E : Type 0} → ℕ → List (ℕ × Packet) → Option (ℕ × PacketFault) → Timing → IoState → Timing → IoState → Result T E → Type 0
PrintsPackets id packets found p old p' new result =
    (t : Times) → HasTimes p t → t.fault ≡ None
    → let t' = after_packets ((p.line).queue).depth t packets in
    Prints id t t' old new result × (IsOk result → HasTimes p' t' × ((p'.line).fault ≡ fault_behind t'.fault found))

-- and what holds at any time goes on to hold
pub record TakesPackets {T E : Type 0} (id : ℕ) (packets : List (ℕ × Packet)) (found : Option (ℕ × PacketFault)) (p : Timing) (old : IoState) (p' : Timing)
    (new : IoState) (result : Result T E) : Type 0 where
  pub prints : PrintsPackets id packets found p old p' new result
  pub informed : IsOk result → IsInformed p'
  pub depth : ((p'.line).queue).depth ≡ ((p.line).queue).depth
  pub holds : IsMarked (p.line).queue → IsMarked (p'.line).queue
  pub serves : Serves old new result

-- A byte is taken, and the lines that it adds are printed to a sink that has a state. Behind a fault of the stream no line comes any more.
pub record TakesByte {K : Type 0} (state : K → IoState) (id byte : ℕ) (d : Timed) (old : K) (d' : Timed) (new : K) (result : Result (Unit {0}) Failed)
    : Type 0 where
  pub stands : IsOk result → (bytes : List ℕ) → StandsAt d bytes → StandsAt d' (bytes ++ byte ∷ [])
  pub gains : (bytes : List ℕ) → StandsAt d bytes
      → (lines : List (List ℕ)) × TimesGains (d.reader).settings id bytes byte lines × Writes (state old) (state new) result (concat lines)
  pub stopped : (stop : ℕ × Fault) → ((d.timing).line).fault ≡ Some stop
      → (result ≡ Ok tt) × (new ≡ old) × (d' ≡ record d { reader = d'.reader })
  pub serves : Serves (state old) (state new) result
  pub broken : IsTrue d'.broken ↔ IsErr result
  pub offset : (d'.reader).offset ≡ (d.reader).offset + 1
  pub settings : (d'.reader).settings ≡ (d.reader).settings
  pub kept : IsTimed d'
