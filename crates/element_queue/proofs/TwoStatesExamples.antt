-- Each element in two states: a loud one, in which all is given and a trace info came, and a quiet one, in which nothing is given and none
-- came. The same is held in both, and the oldest of it was not seen.
use Rattle.std.proofs.Common.{◌≡◌, ℕ, true, false, List, [], ◌∷◌, ap, Some, None, Ok, Err, refl}
use Rattle.std.specs.Prelude.{Bool, ◌-◌, ◌^◌}
use Rattle.etm_types.specs.Pre.{trace_missing}
use Rattle.etm_types.specs.declared.element.Elem.TheVariants as elem
use Rattle.etm_types.specs.declared.element.P0.TheVariants.{Atom, Exc}
use Rattle.etm_types.specs.declared.element.Pre.{Pre}
use Rattle.etm_types.specs.declared.element.Thing.{Thing}
use Rattle.etm_types.specs.declared.element.Thing.TheVariants.{Seen, Unseen, Gap, Stop}
use Rattle.etm_types.specs.declared.queue_fault.QueueFault.TheVariants.{SpecTooDeep}
use Rattle.element_queue.specs.declared.queue.PreElem.TheVariants as pre_elem
use Rattle.element_queue.specs.Counting.{counts_after, no_counts}
use Rattle.element_queue.specs.Pending.{Gone, Pending, Taken, losing, pre_behind, taken}
use Rattle.element_queue.specs.Queued.{Queued, committed_by, entry_of, noted}
use Rattle.element_queue.proofs.Examples.{first, handler, program, second, seen, third}

-- ---- the states

abbrev all_given : Pre
all_given = record { flush = true; on = true; lost = true; ctx = Some program; addr = Some 0x4000 }

abbrev none_given : Pre
none_given = record { flush = false; on = false; lost = false; ctx = None; addr = None }

abbrev newest : Pre
newest = record { flush = true; on = true; lost = true; ctx = Some program; addr = Some 0x3000 }

abbrev some_held : List Thing
some_held = Unseen ∷ seen all_given (Atom true) ∷ seen newest (Atom false) ∷ []

abbrev loud : Pending
loud = record { held = some_held; pre = all_given; informed = true }

abbrev quiet : Pending
quiet = record { held = some_held; pre = none_given; informed = false }

abbrev leaves : List Thing → List Thing → List Thing → Gone
leaves committed cancelled lost = record { committed = committed; cancelled = cancelled; lost = lost }

abbrev stays : List Thing → Pre → Bool → Taken
stays held pre informed = Ok (record { held = held; pre = pre; informed = informed }, leaves [] [] [])

-- ---- elements that give something

pub loud_info : taken 4 loud (elem.Info 1) ≡ stays some_held all_given true
loud_info = refl

pub quiet_info : taken 4 quiet (elem.Info 1)
    ≡ stays (Unseen ∷ seen all_given (Atom true) ∷ seen newest (Atom false) ∷ Unseen ∷ []) (record none_given { flush = true }) true
quiet_info = refl

pub first_loud_info : taken 4 (record loud { informed = false }) (elem.Info 0) ≡ stays some_held all_given true
first_loud_info = refl

pub loud_on : taken 4 loud elem.On ≡ stays some_held (record all_given { addr = None }) true
loud_on = refl

pub quiet_on : taken 4 quiet elem.On ≡ stays some_held (record none_given { on = true }) false
quiet_on = refl

pub loud_context : taken 4 loud (elem.Ctx handler) ≡ stays some_held (record all_given { ctx = Some handler }) true
loud_context = refl

pub quiet_context : taken 4 quiet (elem.Ctx handler) ≡ stays some_held (record none_given { ctx = Some handler }) false
quiet_context = refl

pub loud_address : taken 4 loud (elem.Addr 0x5000) ≡ stays some_held (record all_given { addr = Some 0x5000 }) true
loud_address = refl

pub quiet_address : taken 4 quiet (elem.Addr 0x5000) ≡ stays some_held (record none_given { addr = Some 0x5000 }) false
quiet_address = refl

-- ---- P0 elements, and what becomes of them

pub loud_atom : taken 2 loud (elem.P0 (Atom true))
    ≡ Ok (
      record { held = seen newest (Atom false) ∷ seen all_given (Atom true) ∷ []; pre = none_given; informed = true },
      leaves (Unseen ∷ seen all_given (Atom true) ∷ []) [] [],
    )
loud_atom = refl

pub quiet_atom : taken 3 quiet (elem.P0 (Atom true))
    ≡ Ok (
      record { held = seen all_given (Atom true) ∷ seen newest (Atom false) ∷ seen none_given (Atom true) ∷ []; pre = none_given; informed = false },
      leaves (Unseen ∷ []) [] [],
    )
quiet_atom = refl

pub loud_commit : taken 4 loud (elem.Commit 2)
    ≡ Ok (record { held = seen newest (Atom false) ∷ []; pre = all_given; informed = true }, leaves (Unseen ∷ seen all_given (Atom true) ∷ []) [] [])
loud_commit = refl

pub quiet_commit : taken 4 quiet (elem.Commit 3) ≡ Ok (record { held = []; pre = none_given; informed = false }, leaves some_held [] [])
quiet_commit = refl

pub loud_cancel : taken 4 loud (elem.Cancel 3) ≡ Ok (record { held = []; pre = trace_missing; informed = true }, leaves [] some_held [])
loud_cancel = refl

pub quiet_cancel : taken 4 quiet (elem.Cancel 1)
    ≡ Ok (record { held = Unseen ∷ seen all_given (Atom true) ∷ []; pre = newest; informed = false }, leaves [] (seen newest (Atom false) ∷ []) [])
quiet_cancel = refl

pub loud_flip : taken 4 loud elem.Flip
    ≡ stays (Unseen ∷ seen all_given (Atom true) ∷ seen newest (Atom true) ∷ []) (record all_given { addr = None }) true
loud_flip = refl

pub quiet_flip : taken 4 quiet elem.Flip ≡ stays (Unseen ∷ seen all_given (Atom true) ∷ seen newest (Atom true) ∷ []) none_given false
quiet_flip = refl

pub flip_behind_unseen : taken 4 (record quiet { held = Unseen ∷ [] }) elem.Flip ≡ stays (Unseen ∷ []) (record none_given { lost = true }) false
flip_behind_unseen = refl

-- of what is flipped only one that was not seen has trace missing behind it; a gap or a stop, which is never held, has not
pub given_behind_what_is_flipped : pre_behind (Unseen ∷ []) none_given ∷ pre_behind (first ∷ []) none_given ∷ pre_behind (Gap ∷ []) none_given ∷ pre_behind (Unseen ∷ Stop ∷ []) all_given ∷ pre_behind [] all_given ∷ []
    ≡ record none_given { lost = true } ∷ none_given ∷ none_given ∷ record all_given { addr = None } ∷ all_given ∷ []
given_behind_what_is_flipped = refl

pub not_missing_behind_a_stop : (pre_behind (Stop ∷ []) none_given).lost ≡ false
not_missing_behind_a_stop = refl

pub loud_overflow : taken 4 loud elem.Overflow ≡ Ok (record { held = []; pre = trace_missing; informed = true }, leaves (Gap ∷ []) [] some_held)
loud_overflow = refl

pub quiet_discard : taken 4 quiet elem.Discard ≡ Ok (record { held = []; pre = trace_missing; informed = false }, leaves (Stop ∷ []) [] some_held)
quiet_discard = refl

-- ---- what a call notes

pub noted_loud : noted all_given pre_elem.Info ∷ noted all_given pre_elem.On ∷ noted all_given (pre_elem.Ctx handler) ∷ noted all_given (pre_elem.Addr 0x5000) ∷ []
    ≡ all_given ∷ record { flush = true; on = true; lost = true; ctx = Some program; addr = None }
    ∷ record { flush = true; on = true; lost = true; ctx = Some handler; addr = Some 0x4000 }
    ∷ record { flush = true; on = true; lost = true; ctx = Some program; addr = Some 0x5000 } ∷ []
noted_loud = refl

pub noted_quiet : noted none_given pre_elem.Info ∷ noted none_given pre_elem.On ∷ noted none_given (pre_elem.Ctx handler) ∷ noted none_given (pre_elem.Addr 0x5000) ∷ []
    ≡ record { flush = true; on = false; lost = false; ctx = None; addr = None }
    ∷ record { flush = false; on = true; lost = false; ctx = None; addr = None }
    ∷ record { flush = false; on = false; lost = false; ctx = Some handler; addr = None }
    ∷ record { flush = false; on = false; lost = false; ctx = None; addr = Some 0x5000 } ∷ []
noted_quiet = refl

-- a later trace info announces nothing
pub not_announced_again : taken 4 loud (elem.Info 5) ≡ Err (SpecTooDeep 5 4) → ⊥
not_announced_again = λ e. cc

pub too_many_announced : taken 4 quiet (elem.Info 5) ≡ Err (SpecTooDeep 5 4)
too_many_announced = refl

-- ---- what one P0 element more commits

abbrev queue : ℕ → Queued
queue depth = record { held = some_held; pre = all_given; depth = depth; counts = no_counts }

pub commits_the_oldest : committed_by (queue 3) (Atom false) ∷ committed_by (queue 2) (Exc 2 0x6000) ∷ committed_by (queue 4) (Atom false) ∷ []
    ≡ (Unseen ∷ []) ∷ (Unseen ∷ seen all_given (Atom true) ∷ []) ∷ [] ∷ []
commits_the_oldest = refl

abbrev flush_before : List Thing → Bool
flush_before (Seen entry ∷ things) = entry.pre.flush
flush_before things = false

-- at depth 0 that one itself, with what was given before it
pub commits_itself : committed_by (record { held = []; pre = all_given; depth = 0; counts = no_counts }) (Exc 2 0x6000) ≡ seen all_given (Exc 2 0x6000) ∷ []
commits_itself = refl

pub commits_no_other : committed_by (record { held = []; pre = all_given; depth = 0; counts = no_counts }) (Exc 2 0x6000) ≡ seen none_given (Exc 2 0x6000) ∷ [] → ⊥
commits_no_other = λ e. let a = ap flush_before e in cc

pub with_an_address : entry_of (record { addr = Some 0x5000; taken = true })
    ≡ record { pre = record { flush = false; on = false; lost = false; ctx = None; addr = Some 0x5000 }; p0 = Atom true }
with_an_address = refl

pub with_none : entry_of (record { addr = None; taken = false })
    ≡ record { pre = record { flush = false; on = false; lost = false; ctx = None; addr = None }; p0 = Atom false }
with_none = refl

-- ---- counts

-- one count goes to its most, and others from there to 0 and on
pub counts_go_round : counts_after
    (record { made = 2 ^ 64 - 2; committed = 2 ^ 64 - 2; cancelled = 2 ^ 64 - 1; lost = 2 ^ 64 - 1 })
    1
    (leaves (first ∷ Unseen ∷ second ∷ []) (third ∷ []) (Unseen ∷ third ∷ first ∷ []))
    ≡ record { made = 2 ^ 64 - 1; committed = 0; cancelled = 0; lost = 1 }
counts_go_round = refl

pub counts_go_up : counts_after no_counts 1 (leaves (first ∷ second ∷ Gap ∷ []) (first ∷ second ∷ third ∷ []) (first ∷ second ∷ third ∷ third ∷ []))
    ≡ record { made = 1; committed = 2; cancelled = 3; lost = 4 }
counts_go_up = refl

-- what is lost is neither committed nor cancelled
pub lost_alone : losing (first ∷ Unseen ∷ []) ≡ leaves [] [] (first ∷ Unseen ∷ [])
lost_alone = refl
