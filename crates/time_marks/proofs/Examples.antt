-- Timestamps, marks and lines worked out by hand, and what wrong rules would give.
use Rattle.std.proofs.Common.{◌≡◌, ℕ, ◌+◌, ◌*◌, ◌<◌, true, false, List, [], ◌∷◌, ◌++◌, length, map, Some, None, refl, ap, arith}
use Rattle.std.specs.Prelude.{codes, get_or}
use Rattle.std.proofs.lemmas.List.Elements.{All-head}
use Rattle.etm_types.specs.declared.address.AddrForm.TheVariants.{Short1}
use Rattle.packet_grammar.specs.declared.packet.Packet.{Packet}
use Rattle.packet_grammar.specs.declared.packet.Packet.TheVariants as packet
use Rattle.packet_grammar.specs.declared.stream_fault.Fault.TheVariants.{AddressAwaited, Queue}
use Rattle.etm_types.specs.declared.queue_fault.QueueFault.TheVariants.{CancelOverrun}
use Rattle.path_elements.specs.Elements.{untold}
use Rattle.path_text.specs.Lines.{in_base}
use Rattle.time_marks.specs.MarkLaws.{stamps_of}
use Rattle.time_marks.specs.Runs.{AreRuns, marks_of}
use Rattle.time_marks.specs.Stamps.{Stamp, stamp_after, with_low}
use Rattle.time_marks.specs.TimeLines.{time_line}
use Rattle.time_marks.specs.Times.{times_of}
use Rattle.time_marks.specs.declared.marks.EqualMarks.{EqualMarks}
use Rattle.time_marks.specs.declared.time_line.TimeLine.{TimeLine}
use Rattle.time_marks.specs.declared.time_line.TimeLine.TheVariants.{Event, P0}

-- ---- packets

-- where they stand counts for faults alone
abbrev at_zero : List Packet → List (ℕ × Packet)
at_zero packets = map (λ (p : Packet). (0, p)) packets

abbrev printed : ℕ → List Packet → List TimeLine
printed depth packets = (times_of depth (at_zero packets)).lines

abbrev info : Packet
info = packet.Info (Some 0) None None None

-- so many P0 elements from before the trace are not committed
abbrev announcing : ℕ → Packet
announcing n = packet.Info (Some 0) None (Some n) None

abbrev time : ℕ → Packet
time low = packet.Time 7 low

abbrev atom : Packet
atom = packet.Atoms (record { count = 1; bits = 1 })

abbrev atoms_3 : Packet
atoms_3 = packet.Atoms (record { count = 3; bits = 7 })

abbrev commit : ℕ → Packet
commit n = packet.Commit n

abbrev cancel : ℕ → Packet
cancel n = packet.Cancel n false

abbrev flip : Packet
flip = packet.Mispredict (record { count = 0; first = false })

abbrev exception : Packet
exception = packet.Exc 1 false

abbrev address : Packet
address = packet.Addr (Short1 0) None

-- ---- lines as numbers, so that two that differ are told apart

abbrev stamp_code : Stamp → ℕ
stamp_code None = 0
stamp_code (Some n) = n + 1

abbrev code : TimeLine → ℕ
code (Event events stamp) = 100 * (100 * events + 99) + stamp_code stamp
code (P0 number stamp) = 100 * number + stamp_code stamp

abbrev codes_of : List TimeLine → List ℕ
codes_of lines = map code lines

-- the line at a place
abbrev code_at : ℕ → List TimeLine → ℕ
code_at k lines = get_or (codes_of lines) k 0

-- ---- the timestamp behind a packet

pub low_bits : with_low 133 7 9 ≡ 137
low_bits = refl

pub none_above : with_low 0 7 127 ≡ 127
none_above = refl

pub all_bits : with_low 18446744073709551615 64 5 ≡ 5
all_bits = refl

pub fourteen_bits : with_low 18446744073709551615 14 133 ≡ 18446744073709535365
fourteen_bits = refl

pub seven_bits : with_low 18446744073709551615 7 5 ≡ 18446744073709551493
seven_bits = refl

-- the bits above are not lost
pub low_alone : with_low 133 7 9 ≡ 9 → ⊥
low_alone e = absurd (omega (arith, e))

pub begins_anew : stamp_after true (Some 5) info ≡ None
begins_anew = refl

pub before_any_info : stamp_after false None (time 5) ≡ None
before_any_info = refl

pub others_keep_it : stamp_after true (Some 5) packet.Overflow ≡ Some 5
others_keep_it = refl

-- ---- the timestamps of P0 elements

abbrev stamps : List Packet → List Stamp
stamps packets = stamps_of untold None (at_zero packets)

abbrev stamp_codes : List Stamp → List ℕ
stamp_codes marks = map stamp_code marks

pub those_of_one_packet : stamps (info ∷ atom ∷ time 5 ∷ atoms_3 ∷ time 6 ∷ atom ∷ commit 5 ∷ []) ≡ None ∷ Some 5 ∷ Some 5 ∷ Some 5 ∷ Some 6 ∷ []
those_of_one_packet = refl

pub that_of_one_cancelled : stamps (info ∷ time 5 ∷ atom ∷ time 6 ∷ atom ∷ cancel 1 ∷ time 7 ∷ atom ∷ []) ≡ Some 5 ∷ Some 6 ∷ Some 7 ∷ []
that_of_one_cancelled = refl

pub that_of_an_address : stamps (info ∷ time 5 ∷ exception ∷ time 6 ∷ address ∷ time 7 ∷ []) ≡ Some 6 ∷ []
that_of_an_address = refl

pub none_before_an_info : stamps (atom ∷ time 5 ∷ info ∷ atom ∷ []) ≡ None ∷ []
none_before_an_info = refl

pub not_that_of_the_commit : stamps (info ∷ time 5 ∷ atom ∷ time 6 ∷ commit 1 ∷ []) ≡ Some 6 ∷ [] → ⊥
not_that_of_the_commit e = absurd (omega (arith, ap (λ (marks : List Stamp). get_or (stamp_codes marks) 0 0) e))

-- ---- cancels

-- two atoms at 5, both cancelled, and two at 9
pub marks_of_cancelled : printed 4 (info ∷ time 5 ∷ atom ∷ atom ∷ cancel 2 ∷ time 9 ∷ atom ∷ atom ∷ commit 2 ∷ []) ≡ P0 0 (Some 9) ∷ []
marks_of_cancelled = refl

-- the timestamp is not taken back at a cancel
abbrev at_5_6_7 : List Packet
at_5_6_7 = info ∷ time 5 ∷ atom ∷ time 6 ∷ atom ∷ time 7 ∷ atom ∷ cancel 2 ∷ atom ∷ atom ∷ commit 3 ∷ []

pub not_taken_back : printed 4 at_5_6_7 ≡ P0 0 (Some 5) ∷ P0 1 (Some 7) ∷ []
not_taken_back = refl

pub taken_back : printed 4 at_5_6_7 ≡ P0 0 (Some 5) ∷ [] → ⊥
taken_back e = absurd (omega (arith, ap length e))

-- what was cancelled in between does not count
pub same_as_before : printed 4 (info ∷ time 5 ∷ atom ∷ time 6 ∷ atom ∷ cancel 1 ∷ time 5 ∷ atom ∷ commit 2 ∷ []) ≡ P0 0 (Some 5) ∷ []
same_as_before = refl

-- at a full queue the newest goes, and not the oldest
pub full_and_cancelled : printed 1 (info ∷ time 5 ∷ atom ∷ time 6 ∷ atom ∷ cancel 1 ∷ time 7 ∷ atom ∷ commit 1 ∷ []) ≡ P0 0 (Some 5) ∷ P0 1 (Some 7) ∷ []
full_and_cancelled = refl

pub full : printed 1 (info ∷ time 5 ∷ atom ∷ time 6 ∷ atom ∷ time 7 ∷ atom ∷ []) ≡ P0 0 (Some 5) ∷ P0 1 (Some 6) ∷ []
full = refl

-- ---- flips

pub a_flip_keeps_the_mark : printed 4 (info ∷ time 5 ∷ atom ∷ time 6 ∷ atom ∷ flip ∷ commit 2 ∷ []) ≡ P0 0 (Some 5) ∷ P0 1 (Some 6) ∷ []
a_flip_keeps_the_mark = refl

pub not_that_of_the_flip : printed 4 (info ∷ time 5 ∷ atom ∷ time 6 ∷ flip ∷ commit 1 ∷ []) ≡ P0 0 (Some 6) ∷ [] → ⊥
not_that_of_the_flip e = absurd (omega (arith, ap (code_at 0) e))

-- ---- gaps and trace infos

-- an overflow keeps the timestamp, and the gap has no number
pub over_a_gap : printed 4 (info ∷ time 5 ∷ atom ∷ atom ∷ commit 1 ∷ packet.Overflow ∷ atom ∷ commit 1 ∷ []) ≡ P0 0 (Some 5) ∷ []
over_a_gap = refl

-- what a discard loses goes with its mark
pub over_a_discard : printed 4 (info ∷ time 5 ∷ atom ∷ packet.Discard ∷ time 6 ∷ atom ∷ commit 1 ∷ []) ≡ P0 0 (Some 6) ∷ []
over_a_discard = refl

abbrev with_a_second_info : List Packet
with_a_second_info = info ∷ time 5 ∷ atom ∷ atom ∷ commit 1 ∷ packet.Async ∷ info ∷ atom ∷ commit 2 ∷ []

pub over_an_info : printed 4 with_a_second_info ≡ P0 0 (Some 5) ∷ P0 2 None ∷ []
over_an_info = refl

-- no timestamp is another one than 0
pub not_zero : printed 4 with_a_second_info ≡ P0 0 (Some 5) ∷ P0 2 (Some 0) ∷ [] → ⊥
not_zero e = absurd (omega (arith, ap (code_at 1) e))

pub none_like_none : printed 0 (info ∷ atom ∷ atom ∷ []) ≡ P0 0 None ∷ []
none_like_none = refl

pub none_unlike_zero : printed 0 (info ∷ atom ∷ time 0 ∷ atom ∷ info ∷ atom ∷ []) ≡ P0 0 None ∷ P0 1 (Some 0) ∷ P0 2 None ∷ []
none_unlike_zero = refl

-- those with the same mark as the one before have no line, and count
pub numbers_count_all : printed 0 (info ∷ atom ∷ time 5 ∷ atoms_3 ∷ time 5 ∷ atom ∷ time 6 ∷ atom ∷ [])
    ≡ P0 0 None ∷ P0 1 (Some 5) ∷ P0 5 (Some 6) ∷ []
numbers_count_all = refl

-- the mark is compared with that of the one before, not with the last one that has a line, which is the same
pub lines_of_lines : printed 0 (info ∷ time 5 ∷ atom ∷ time 6 ∷ atom ∷ time 5 ∷ atom ∷ []) ≡ P0 0 (Some 5) ∷ P0 1 (Some 6) ∷ P0 2 (Some 5) ∷ []
lines_of_lines = refl

-- ---- those from before the trace

-- a commit of one that was not seen takes no mark, and no number
pub unseen_first : printed 4 (announcing 2 ∷ time 5 ∷ atom ∷ commit 1 ∷ time 6 ∷ atom ∷ commit 1 ∷ commit 2 ∷ []) ≡ P0 0 (Some 5) ∷ P0 1 (Some 6) ∷ []
unseen_first = refl

abbrev unseen_alone : List Packet
unseen_alone = announcing 2 ∷ time 5 ∷ atom ∷ commit 1 ∷ []

pub none_shown : printed 4 unseen_alone ≡ []
none_shown = refl

pub unseen_is_none : printed 4 unseen_alone ≡ P0 0 (Some 5) ∷ [] → ⊥
unseen_is_none e = absurd (omega (arith, ap length e))

pub unseen_leave_a_full_queue : printed 2 (announcing 2 ∷ time 5 ∷ atom ∷ atom ∷ atom ∷ []) ≡ P0 0 (Some 5) ∷ []
unseen_leave_a_full_queue = refl

pub unseen_are_cancelled_last : printed 4 (announcing 2 ∷ cancel 1 ∷ time 5 ∷ atom ∷ commit 2 ∷ []) ≡ P0 0 (Some 5) ∷ []
unseen_are_cancelled_last = refl

-- ---- exceptions

-- its mark is that of the address packet, where the P0 element stands
pub at_the_address : printed 0 (info ∷ time 5 ∷ exception ∷ time 6 ∷ address ∷ atom ∷ []) ≡ P0 0 (Some 6) ∷ []
at_the_address = refl

pub not_at_the_exception : printed 0 (info ∷ time 5 ∷ exception ∷ time 6 ∷ address ∷ atom ∷ []) ≡ P0 0 (Some 5) ∷ P0 1 (Some 6) ∷ [] → ⊥
not_at_the_exception e = absurd (omega (arith, ap length e))

-- ---- events

pub events_before_info : printed 0 (packet.Event 1 ∷ time 5 ∷ info ∷ packet.Event 1 ∷ atom ∷ []) ≡ Event 1 None ∷ P0 0 None ∷ []
events_before_info = refl

pub events_among_elements : printed 4 (info ∷ packet.Event 1 ∷ time 5 ∷ packet.Event 2 ∷ exception ∷ packet.Event 15 ∷ address ∷ commit 1 ∷ [])
    ≡ Event 1 None ∷ Event 2 (Some 5) ∷ Event 15 (Some 5) ∷ P0 0 (Some 5) ∷ []
events_among_elements = refl

-- ---- faults

-- lines before a fault stand, and none behind it
abbrev with_a_fault : List (ℕ × Packet)
with_a_fault =
    (12, info) ∷ (15, time 5) ∷ (17, atom) ∷ (18, atom) ∷ (19, commit 1) ∷ (21, cancel 9)
    ∷ (23, packet.Event 1) ∷ (24, time 6) ∷ (26, atom) ∷ (27, commit 1) ∷ []

pub lines_before_a_fault : (times_of 4 with_a_fault).lines ≡ P0 0 (Some 5) ∷ []
lines_before_a_fault = refl

pub the_fault : (times_of 4 with_a_fault).fault ≡ Some (21, Queue (CancelOverrun 9 1))
the_fault = refl

-- the first one of a packet, whose flip would have another
pub the_first_fault : (times_of 4 ((12, info) ∷ (15, packet.Cancel 9 true) ∷ [])).fault ≡ Some (15, Queue (CancelOverrun 9 0))
the_first_fault = refl

-- and so within a packet: what its first elements commit is printed
pub within_a_packet : printed 1 (info ∷ time 5 ∷ atom ∷ packet.Cancel2 (record { count = 1; first = true }) ∷ []) ≡ P0 0 (Some 5) ∷ []
within_a_packet = refl

pub an_address_is_awaited : (times_of 4 ((12, info) ∷ (15, exception) ∷ (17, atom) ∷ [])).fault ≡ Some (17, AddressAwaited)
an_address_is_awaited = refl

pub events_behind_a_fault : printed 4 (info ∷ packet.Event 1 ∷ flip ∷ packet.Event 2 ∷ []) ≡ Event 1 None ∷ []
events_behind_a_fault = refl

-- ---- marks that are held

-- so many of each, oldest first; the runs of a mark that comes back stand apart
abbrev of_5 : ℕ → EqualMarks
of_5 count = record { stamp = 5; known = true; count = count }

abbrev of_none : ℕ → EqualMarks
of_none count = record { stamp = 5; known = false; count = count }

pub as_often_as_counted : marks_of (of_5 2 ∷ of_none 1 ∷ of_5 1 ∷ []) ≡ Some 5 ∷ Some 5 ∷ None ∷ Some 5 ∷ []
as_often_as_counted = refl

pub not_once_for_each_run : marks_of (of_5 2 ∷ of_none 1 ∷ of_5 1 ∷ []) ≡ Some 5 ∷ None ∷ Some 5 ∷ [] → ⊥
not_once_for_each_run e = absurd (omega (arith, ap (λ (marks : List Stamp). length marks) e))

pub not_joined : marks_of (of_5 2 ∷ of_none 1 ∷ of_5 1 ∷ []) ≡ Some 5 ∷ Some 5 ∷ Some 5 ∷ None ∷ [] → ⊥
not_joined e = absurd (omega (arith, ap (λ (marks : List Stamp). get_or (map stamp_code marks) 2 0) e))

-- a timestamp that is not known is none, whatever number stands there
pub not_known : marks_of (of_none 1 ∷ []) ≡ Some 5 ∷ [] → ⊥
not_known e = absurd (omega (arith, ap (λ (marks : List Stamp). get_or (map stamp_code marks) 0 0) e))

-- one that counts no mark is no run
pub none_is_no_run : AreRuns (of_5 0 ∷ []) → ⊥
none_is_no_run are = absurd (omega (arith, All-head (λ (run : EqualMarks). 0 < run.count) (of_5 0) [] are))

-- ---- texts

pub an_event : time_line 0x6f (Event 15 (Some 133)) ≡ codes "6f event 15 133" ++ 10 ∷ []
unfolding in_base
an_event = refl

pub a_p0_element : time_line 1 (P0 7 None) ≡ codes "01 p0 7 -" ++ 10 ∷ []
unfolding in_base
a_p0_element = refl
