-- Which timestamp each P0 element has that is committed, and the lines of them and of events (Arm IHI 0064, "Timestamp packet", "Event
-- packet", "Commit packet"): what the packets of a stream come to, one after the other.
use Rattle.std.specs.Prelude.{ℕ, ◌+◌, ◌-◌, Bool, if◌then◌else◌, List, [], ◌∷◌, ◌++◌, length, take, drop, Option, Some, None, Ok, Err, is_some}
use Rattle.element_queue.specs.Counting.{counts_after, entries, made_by, no_counts}
use Rattle.element_queue.specs.Pending.{Gone, Pending, Taken, taken}
use Rattle.element_queue.specs.Resolved.{at_first}
use Rattle.element_queue.specs.declared.ledger.Counts.{Counts}
use Rattle.etm_types.specs.declared.element.Elem.{Elem}
use Rattle.etm_types.specs.declared.element.Elem.TheVariants as elem
use Rattle.packet_grammar.specs.declared.end.End.{End}
use Rattle.packet_grammar.specs.declared.end.End.TheVariants as end
use Rattle.packet_grammar.specs.declared.packet.Packet.{Packet}
use Rattle.packet_grammar.specs.declared.packet.Packet.TheVariants as packet
use Rattle.packet_grammar.specs.declared.stream_fault.Fault.{Fault}
use Rattle.packet_grammar.specs.declared.stream_fault.Fault.TheVariants.{AddressAwaited, Queue}
use Rattle.path_elements.specs.Elements.{Told, elements_of, is_misplaced, told_after, untold}
use Rattle.time_marks.specs.Stamps.{Stamp, stamp_after}
use Rattle.time_marks.specs.TimeLines.{mark_lines}
use Rattle.time_marks.specs.declared.time_line.TimeLine.{TimeLine}
use Rattle.time_marks.specs.declared.time_line.TimeLine.TheVariants.{Event}

-- what packets so far come to
pub record Times : Type 0 where
  -- what they gave
  pub told : Told
  -- the timestamp behind them
  pub stamp : Stamp
  -- what of their elements may still be taken back, and the marks of the P0 elements in it that were seen, oldest first
  pub pending : Pending
  pub held : List Stamp
  -- the marks of the P0 elements that are committed, oldest first
  pub done : List Stamp
  -- what is printed
  pub lines : List TimeLine
  -- what became of the P0 elements
  pub counts : Counts
  -- the first fault, with the offset of its packet; nothing follows it
  pub fault : Option (ℕ × Fault)

-- before the first packet
abbrev pub no_times : Times
no_times = record { told = untold; stamp = None; pending = at_first; held = []; done = []; lines = []; counts = no_counts; fault = None }

-- ---- marks

-- A P0 element has as its mark the timestamp of the packet at which it stands.
abbrev pub mark_of : Stamp → Elem → List Stamp
mark_of stamp (elem.P0 p0) = stamp ∷ []
mark_of stamp e = []

-- all but so many of the newest
abbrev pub but_newest : ℕ → List Stamp → List Stamp
but_newest n marks = take (length marks - n) marks

-- What goes, goes with its mark: the oldest marks are those of what is committed, and the newest those of what is cancelled or lost.
abbrev pub marks_out : Gone → List Stamp → List Stamp
marks_out gone marks = take (entries gone.committed) marks

abbrev pub marks_left : Gone → List Stamp → List Stamp
marks_left gone marks = but_newest (entries gone.cancelled + entries gone.lost) (drop (entries gone.committed) marks)

-- ---- elements

abbrev pub marks_with : Times → Elem → List Stamp
marks_with t e = t.held ++ mark_of t.stamp e

-- an element of the packet at an offset, by what it makes of those before it
abbrev pub taken_so : ℕ → Times → Elem → Taken → Times
taken_so at t e (Ok x) =
    record t {
      pending = x.0;
      held = marks_left x.1 (marks_with t e);
      done = t.done ++ marks_out x.1 (marks_with t e);
      lines = t.lines ++ mark_lines t.done (marks_out x.1 (marks_with t e));
      counts = counts_after t.counts (made_by e) x.1;
    }
taken_so at t e (Err f) = record t { fault = Some (at, Queue f) }

-- one element more, at a maximum speculation depth
abbrev pub after_element : ℕ → ℕ → Times → Elem → Times
after_element depth at t e = taken_so at t e (taken depth t.pending e)

-- elements, up to the first that has a fault
abbrev pub after_elements : ℕ → ℕ → Times → List Elem → Times
after_elements depth at t [] = t
after_elements depth at t (e ∷ elements) = if is_some t.fault then t else after_elements depth at (after_element depth at t e) elements

-- ---- packets

-- an event packet behind a trace info packet has a line, with the timestamp there
abbrev pub event_lines : Bool → Stamp → Packet → List TimeLine
event_lines informed stamp (packet.Event events) = if informed then Event events stamp ∷ [] else []
event_lines informed stamp p = []

-- a packet before its elements
abbrev pub opened : Times → Packet → Times
opened t p =
    record t {
      told = told_after t.told p;
      stamp = stamp_after t.told.informed t.stamp p;
      lines = t.lines ++ event_lines t.told.informed t.stamp p;
    }

-- one packet more, with its offset, behind which no fault was met
abbrev pub after_good : ℕ → Times → ℕ × Packet → Times
after_good depth t p =
    if is_misplaced t.told p.1 then record t { fault = Some (p.0, AddressAwaited) }
    else after_elements depth p.0 (opened t p.1) (elements_of t.told p.1)

abbrev pub after_packet : ℕ → Times → ℕ × Packet → Times
after_packet depth t p = if is_some t.fault then t else after_good depth t p

abbrev pub after_packets : ℕ → Times → List (ℕ × Packet) → Times
after_packets depth t [] = t
after_packets depth t (p ∷ packets) = after_packets depth (after_packet depth t p) packets

-- what the packets of a stream come to
abbrev pub times_of : ℕ → List (ℕ × Packet) → Times
times_of depth packets = after_packets depth no_times packets

-- how it ends: with that fault, and where there is none as its bytes do
abbrev pub end_behind : Option (ℕ × Fault) → End → End
end_behind None last = last
end_behind (Some stop) last = end.Fault stop.0 stop.1
