-- What contracts see of the decoder of one stream's times, and at which bytes it stands.
use Rattle.std.specs.Prelude.{◌≡◌, ◌<◌, ℕ, Bool, false, All, List, ◌++◌, Option, Some, None, Result}
use Rattle.std.specs.List.{concat}
use Rattle.etm_types.specs.Settings.{AreSettings}
use Rattle.packet_grammar.specs.Parsed.{Ending, IsStream}
use Rattle.packet_grammar.specs.declared.fault.PacketFault.{PacketFault}
use Rattle.packet_grammar.specs.declared.packet.Packet.{Packet}
use Rattle.packet_grammar.specs.declared.stream_fault.Fault.{Fault}
use Rattle.packet_grammar.specs.declared.stream_fault.Fault.TheVariants as fault
use Rattle.packet_reader.specs.Answered.{fault_of}
use Rattle.packet_reader.specs.Stands.{PacketReading}
use Rattle.packet_reader.specs.Stands as reader
use Rattle.path_text.specs.Writing.{Writes}
use Rattle.time_marks.specs.Marked.{IsMarked}
use Rattle.time_marks.specs.TimeLines.{shown_of, time_lines}
use Rattle.time_marks.specs.Times.{Times, times_of}
use Rattle.time_marks.specs.declared.time_line.TimeLine.{TimeLine}
use Rattle.time_marks.specs.declared.timeline.Timeline.{Timeline}
use Rattle.time_marks.specs.declared.timing.Timing.{Timing}
use Rattle.trace_io.specs.State.{IoState}

-- the reader of packets, what its packets come to, and whether a write failed
pub record Timed : Type 0 where
  pub reader : PacketReading
  pub timing : Timing
  pub broken : Bool

abbrev pub depth_of : Timed → ℕ
depth_of d = ((d.reader).settings).depth

-- the P0 elements that are held and those that are committed are these
pub record HasMarks (l : Timeline) (t : Times) : Type 0 where
  pub pending : (l.queue).pending ≡ t.pending
  pub held : (l.queue).marks ≡ t.held
  pub counts : (l.queue).counts ≡ t.counts
  pub shown : l.shown ≡ shown_of t.done

-- and the first fault is this
pub record IsAt (l : Timeline) (t : Times) : Type 0 where
  pub marks : HasMarks l t
  pub fault : l.fault ≡ t.fault

-- what packets come to, but for the fault
pub record HasTimes (p : Timing) (t : Times) : Type 0 where
  pub told : p.maker ≡ t.told
  pub stamp : p.stamp ≡ t.stamp
  pub marks : HasMarks p.line t

-- the lines by which one grows to the other are written, or a front of them where a write fails
pub record Prints {T E : Type 0} (id : ℕ) (t t' : Times) (old new : IoState) (result : Result T E) : Type 0 where
  pub more : List TimeLine
  pub grows : t'.lines ≡ t.lines ++ more
  pub writes : Writes old new result (concat (time_lines id more))

-- the fault of packets, and where they have none that of the bytes behind them
abbrev pub fault_behind : Option (ℕ × Fault) → Option (ℕ × PacketFault) → Option (ℕ × Fault)
fault_behind (Some stop) found = Some stop
fault_behind None (Some found) = Some (found.0, fault.Packet found.1)
fault_behind None None = None

-- These bytes were taken, and no write failed: what is kept is what their packets come to.
pub record StandsAt (d : Timed) (bytes : List ℕ) : Type 0 where
  pub whole : d.broken ≡ false
  pub small : All (λ b. b < 256) bytes
  pub reads : reader.StandsAt d.reader bytes
  pub packets : List (ℕ × Packet)
  pub ending : Ending
  pub stream : IsStream ((d.reader).settings) bytes packets ending
  pub times : HasTimes d.timing (times_of (depth_of d) packets)
  pub fault : ((d.timing).line).fault ≡ fault_behind (times_of (depth_of d) packets).fault (fault_of ending)

-- a reader took some bytes, under settings
pub record IsReading (r : PacketReading) : Type 0 where
  pub settings : AreSettings r.settings
  pub bytes : List ℕ
  pub small : All (λ b. b < 256) bytes
  pub stands : reader.StandsAt r bytes

-- the queue knows of a trace info packet as soon as the packets so far have one
abbrev pub IsInformed : Timing → Type 0
IsInformed p = (p.line).fault ≡ None → (p.maker).informed ≡ (((p.line).queue).pending).informed

-- what holds at any time: one mark stands for each P0 element that was seen and is held, and no more are held than the depth
pub record IsTimed (d : Timed) : Type 0 where
  pub reads : IsReading d.reader
  pub marked : IsMarked ((d.timing).line).queue
  pub depth : (((d.timing).line).queue).depth ≡ depth_of d
  pub informed : d.broken ≡ false → IsInformed d.timing
