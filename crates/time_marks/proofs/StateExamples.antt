-- What an element and a packet change of times in which everything is set, and bounds of what is told of marks.
use Rattle.std.proofs.Common.{◌≡◌, ◌<◌, ◌-◌, ◌^◌, ℕ, true, false, List, [], ◌∷◌, length, map, Option, Some, None, Ok, Err, refl, arith}
use Rattle.std.proofs.lemmas.List.Elements.{All-cons, All-nil}
use Rattle.element_queue.specs.Pending.{Gone, Pending}
use Rattle.element_queue.specs.declared.ledger.Counts.{Counts}
use Rattle.etm_types.specs.Pre.{nothing_told, trace_missing}
use Rattle.etm_types.specs.declared.context.Ctx.{Ctx}
use Rattle.etm_types.specs.declared.element.Elem.TheVariants as elem
use Rattle.etm_types.specs.declared.element.P0.TheVariants.{Atom, Exc}
use Rattle.etm_types.specs.declared.element.Thing.{Thing}
use Rattle.etm_types.specs.declared.element.Thing.TheVariants.{Gap, Seen, Unseen}
use Rattle.etm_types.specs.declared.queue_fault.QueueFault.TheVariants.{NoAtomToFlip}
use Rattle.packet_grammar.specs.declared.packet.Packet.TheVariants as packet
use Rattle.packet_grammar.specs.declared.stream_fault.Fault.{Fault}
use Rattle.packet_grammar.specs.declared.stream_fault.Fault.TheVariants.{AddressAwaited, Queue}
use Rattle.path_elements.specs.Elements.{Told}
use Rattle.path_elements.specs.declared.maker.Interrupt.{Interrupt}
use Rattle.time_marks.specs.MarkLaws.{MayBe, Rise}
use Rattle.time_marks.specs.Runs.{AreRuns}
use Rattle.time_marks.specs.Stamps.{Stamp, stamp_after}
use Rattle.time_marks.specs.TimeLines.{shown_of}
use Rattle.time_marks.specs.Times.{Times, after_good, no_times, opened, taken_so}
use Rattle.time_marks.specs.declared.marks.EqualMarks.{EqualMarks}
use Rattle.time_marks.specs.declared.time_line.TimeLine.{TimeLine}
use Rattle.time_marks.specs.declared.time_line.TimeLine.TheVariants.{Event, P0}

abbrev handler : Ctx
handler = record { el = 1; ns = true; vmid = 5; cid = 7 }

abbrev atom : Thing
atom = Seen (record { pre = nothing_told; p0 = Atom true })

abbrev told : Option Interrupt → Told
told awaiting = record { history = 0x3000 ∷ 0x2000 ∷ 0x1000 ∷ []; context = handler; informed = true; awaiting = awaiting }

abbrev held_things : List Thing
held_things = atom ∷ Unseen ∷ atom ∷ []

abbrev pending : List Thing → Pending
pending things = record { held = things; pre = trace_missing; informed = true }

abbrev counts : ℕ → ℕ → ℕ → ℕ → Counts
counts made committed cancelled lost = record { made = made; committed = committed; cancelled = cancelled; lost = lost }

-- two marks are held, and one is done
abbrev times : Pending → List Stamp → List Stamp → List TimeLine → Counts → Option (ℕ × Fault) → Times
times pending held done lines counts fault =
    record {
      told = told None;
      stamp = Some 5;
      pending = pending;
      held = held;
      done = done;
      lines = lines;
      counts = counts;
      fault = fault;
    }

abbrev loud : Times
loud = times (pending held_things) (Some 3 ∷ None ∷ []) (Some 1 ∷ []) (Event 1 (Some 2) ∷ []) (counts 10 4 3 1) (Some (9, AddressAwaited))

-- ---- an element: what is committed by an atom, cancelled, lost by an overflow; and one with a fault

abbrev gone : List Thing → List Thing → List Thing → Gone
gone committed cancelled lost = record { committed = committed; cancelled = cancelled; lost = lost }

pub behind_each_element :
    taken_so 7 loud (elem.P0 (Atom true)) (Ok (pending (Unseen ∷ atom ∷ atom ∷ []), gone (atom ∷ []) [] []))
    ∷ taken_so 7 loud (elem.Cancel 1) (Ok (pending (atom ∷ Unseen ∷ []), gone [] (atom ∷ []) []))
    ∷ taken_so 7 loud elem.Overflow (Ok (pending [], gone (Gap ∷ []) [] held_things))
    ∷ taken_so 7 loud elem.Flip (Err (NoAtomToFlip 0))
    ∷ []
    ≡ times (pending (Unseen ∷ atom ∷ atom ∷ [])) (None ∷ Some 5 ∷ []) (Some 1 ∷ Some 3 ∷ []) (Event 1 (Some 2) ∷ P0 1 (Some 3) ∷ []) (counts 11 5 3 1)
    (Some (9, AddressAwaited))
    ∷ times (pending (atom ∷ Unseen ∷ [])) (Some 3 ∷ []) (Some 1 ∷ []) (Event 1 (Some 2) ∷ []) (counts 10 4 4 1) (Some (9, AddressAwaited))
    ∷ times (pending []) [] (Some 1 ∷ []) (Event 1 (Some 2) ∷ []) (counts 10 4 3 3) (Some (9, AddressAwaited))
    ∷ times (pending held_things) (Some 3 ∷ None ∷ []) (Some 1 ∷ []) (Event 1 (Some 2) ∷ []) (counts 10 4 3 1) (Some (7, Queue (NoAtomToFlip 0)))
    ∷ []
behind_each_element = refl

-- ---- a packet

pub before_its_elements :
    opened loud (packet.Event 6) ∷ opened loud (packet.Time 7 9) ∷ opened loud (packet.Exc 3 true) ∷ opened loud packet.On ∷ []
    ≡ record loud { lines = Event 1 (Some 2) ∷ Event 6 (Some 5) ∷ [] }
    ∷ record loud { stamp = Some 9 }
    ∷ record loud { told = told (Some (record { kind = 3; target = true })) }
    ∷ loud ∷ []
before_its_elements = refl

-- one that may not come where an exception awaits its address changes nothing else
abbrev awaiting : Times
awaiting = record loud { told = told (Some (record { kind = 3; target = true })); fault = None }

pub misplaced : after_good 4 awaiting (7, packet.On) ≡ record awaiting { fault = Some (7, AddressAwaited) }
misplaced = refl

pub none_at_first :
    no_times
    ≡ record {
      told = record
          { history = 0 ∷ 0 ∷ 0 ∷ []; context = record { el = 0; ns = false; vmid = 0; cid = 0 }; informed = false; awaiting = None };
      stamp = None;
      pending = record { held = []; pre = trace_missing; informed = false };
      held = [];
      done = [];
      lines = [];
      counts = counts 0 0 0 0;
      fault = None;
    }
none_at_first = refl

-- a trace info takes the timestamp away, and before the first one none is known
pub behind_each_packet :
    map (stamp_after true (Some 0x1234)) (packet.Info None None None None ∷ packet.Time 7 9 ∷ packet.Time 14 9 ∷ packet.Event 1 ∷ packet.On ∷ [])
    ≡ None ∷ Some 0x1209 ∷ Some 9 ∷ Some 0x1234 ∷ Some 0x1234 ∷ []
behind_each_packet = refl

pub behind_none_known :
    stamp_after true None (packet.Time 7 9) ∷ stamp_after false (Some 0x1234) (packet.Time 7 9) ∷ stamp_after false None (packet.Time 7 9) ∷ []
    ≡ Some 9 ∷ Some 0x1234 ∷ None ∷ []
behind_none_known = refl

-- ---- marks

-- P0 elements are counted modulo 2^64
pub most_shown : (done : List Stamp) → length done ≡ 2 ^ 64 - 1 → (shown_of done).count ≡ 2 ^ 64 - 1
most_shown done many = rw many refl

pub counted_anew : (done : List Stamp) → length done ≡ 2 ^ 64 → (shown_of done).count ≡ 0
counted_anew done many = rw many refl

abbrev IsSome : EqualMarks → Type 0
IsSome run = 0 < run.count

abbrev once : EqualMarks
once = record { known = true; stamp = 5; count = 1 }

pub a_run_of_one : AreRuns (once ∷ [])
a_run_of_one = All-cons IsSome once [] (omega arith) (All-nil IsSome)

-- numbers rise by one at least, from the lowest up to below the highest
pub risen : Rise 3 (Some 3 ∷ Some 4 ∷ []) 5
risen = (omega arith, (omega arith, omega arith))

pub not_twice : Rise 3 (Some 3 ∷ Some 3 ∷ []) 5 → ⊥
not_twice rise = omega (arith, rise.1.0)

pub not_below : Rise 4 (Some 3 ∷ []) 5 → ⊥
not_below rise = omega (arith, rise.0)

pub not_at_the_end : Rise 3 (Some 5 ∷ []) 5 → ⊥
not_at_the_end rise = omega (arith, rise.1)

-- an atom may have been flipped, and an exception is the same
pub may_be : MayBe (Atom true) (Atom false) × MayBe (Exc 3 0x1000) (Exc 3 0x1000)
may_be = (tt, (refl, refl))

pub another_type : MayBe (Exc 3 0x1000) (Exc 4 0x1000) → ⊥
another_type is = omega (arith, is.0)

pub another_address : MayBe (Exc 3 0x1000) (Exc 3 0x1004) → ⊥
another_address is = omega (arith, is.1)

pub an_atom_for_an_exception : (MayBe (Atom true) (Exc 3 0x1000) → ⊥) × (MayBe (Exc 3 0x1000) (Atom true) → ⊥)
an_atom_for_an_exception = (λ is. is, λ is. is)
