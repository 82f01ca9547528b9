-- The rules at small states, each with near misses.
use Rattle.std.proofs.Common.{◌≡◌, ℕ, true, false, List, [], ◌∷◌, length, Some, None, Result, Ok, Err, ap, refl}
use Rattle.std.specs.Prelude.{Bool, slice_get, ◌==◌}
use Rattle.std.specs.Option.{option_map}
use Rattle.etm_types.specs.Pre.{nothing_told, trace_missing}
use Rattle.etm_types.specs.declared.context.Ctx.{Ctx}
use Rattle.etm_types.specs.declared.element.Elem.{Elem}
use Rattle.etm_types.specs.declared.element.Elem.TheVariants as elem
use Rattle.etm_types.specs.declared.element.P0.{P0}
use Rattle.etm_types.specs.declared.element.P0.TheVariants.{Atom, Exc}
use Rattle.etm_types.specs.declared.element.Pre.{Pre}
use Rattle.etm_types.specs.declared.element.Thing.{Thing}
use Rattle.etm_types.specs.declared.element.Thing.TheVariants.{Seen, Unseen, Gap, Stop}
use Rattle.etm_types.specs.declared.queue_fault.QueueFault.{QueueFault}
use Rattle.etm_types.specs.declared.queue_fault.QueueFault.TheVariants.{CommitOverrun, CancelOverrun, NoAtomToFlip, SpecTooDeep}
use Rattle.element_queue.specs.declared.ledger.Counts.{Counts}
use Rattle.element_queue.specs.Counting.{no_counts, p0s, tally}
use Rattle.element_queue.specs.Pending.{Pending, Taken, taken, nothing_gone, committing, cancelling}
use Rattle.element_queue.specs.Resolved.{Resolved, at_first, unresolved, resolve_all}

-- what an outcome without a fault gives, keeps and commits
abbrev given : Taken → Pre
given (Ok t) = (t.0).pre
given (Err fault) = nothing_told

abbrev kept : Taken → List Thing
kept (Ok t) = (t.0).held
kept (Err fault) = []

abbrev committed : Taken → List Thing
committed (Ok t) = (t.1).committed
committed (Err fault) = []

abbrev length_done : Result Resolved QueueFault → ℕ
length_done (Ok r) = length r.done
length_done (Err fault) = 0

-- whether an atom is E
abbrev e_atom : P0 → Bool
e_atom (Atom taken) = taken
e_atom (Exc kind ret) = false

abbrev pub is_e : Thing → Bool
is_e (Seen entry) = e_atom entry.p0
is_e thing = false

-- ---- the states

abbrev pub program : Ctx
program = record { el = 0; ns = true; vmid = 5; cid = 7 }

abbrev pub handler : Ctx
handler = record { el = 1; ns = true; vmid = 5; cid = 7 }

abbrev begun : Pre
begun = record nothing_told { on = true; ctx = Some handler; addr = Some 0x1000 }

abbrev since : Pre
since = record nothing_told { ctx = Some program; addr = Some 0x4000 }

abbrev pub seen : Pre → P0 → Thing
seen pre p0 = Seen (record { pre = pre; p0 = p0 })

abbrev pub first : Thing
first = seen begun (Atom true)

abbrev pub second : Thing
second = seen nothing_told (Exc 1 0x2000)

abbrev pub third : Thing
third = seen (record nothing_told { addr = Some 0x3000 }) (Atom false)

abbrev pub full : Pending
full = record { held = first ∷ second ∷ third ∷ []; pre = since; informed = true }

abbrev two : Pending
two = record { held = first ∷ second ∷ []; pre = since; informed = true }

abbrev empty : Pending
empty = record { held = []; pre = since; informed = true }

abbrev behind : Pending
behind = record { held = Unseen ∷ Unseen ∷ first ∷ []; pre = since; informed = true }

abbrev before : Pending
before = record { held = Unseen ∷ Unseen ∷ []; pre = since; informed = true }

-- ---- what is given to the next P0 element

pub first_info : taken 4 at_first (elem.Info 2)
    ≡ Ok (record { held = Unseen ∷ Unseen ∷ []; pre = record trace_missing { flush = true }; informed = true }, nothing_gone)
first_info = refl

pub first_info_is_not_passed_over : kept (taken 4 at_first (elem.Info 2)) ≡ [] → ⊥
first_info_is_not_passed_over = λ e. let a = ap length e in cc

pub first_info_of_the_depth : taken 2 at_first (elem.Info 2)
    ≡ Ok (record { held = Unseen ∷ Unseen ∷ []; pre = record trace_missing { flush = true }; informed = true }, nothing_gone)
first_info_of_the_depth = refl

pub first_info_of_the_depth_is_no_fault : taken 2 at_first (elem.Info 2) ≡ Err (SpecTooDeep 2 2) → ⊥
first_info_of_the_depth_is_no_fault = λ e. cc

pub first_info_too_deep : taken 4 at_first (elem.Info 5) ≡ Err (SpecTooDeep 5 4)
first_info_too_deep = refl

pub later_info : taken 4 full (elem.Info 1)
    ≡ Ok (record { held = first ∷ second ∷ third ∷ []; pre = record since { flush = true }; informed = true }, nothing_gone)
later_info = refl

pub later_info_announces_none : kept (taken 4 full (elem.Info 1)) ≡ first ∷ second ∷ third ∷ Unseen ∷ [] → ⊥
later_info_announces_none = λ e. let a = ap length e in cc

pub later_info_is_not_passed_over : given (taken 4 full (elem.Info 1)) ≡ since → ⊥
later_info_is_not_passed_over = λ e. let a = ap (λ (pre : Pre). pre.flush) e in cc

pub later_info_is_never_too_deep : taken 4 full (elem.Info 5)
    ≡ Ok (record { held = first ∷ second ∷ third ∷ []; pre = record since { flush = true }; informed = true }, nothing_gone)
later_info_is_never_too_deep = refl

pub on : taken 4 full elem.On
    ≡ Ok (record { held = first ∷ second ∷ third ∷ []; pre = record since { on = true; addr = None }; informed = true }, nothing_gone)
on = refl

pub on_takes_the_address_away : given (taken 4 full elem.On) ≡ record since { on = true } → ⊥
on_takes_the_address_away = λ e. let a = ap (λ (pre : Pre). pre.addr) e in cc

pub on_keeps_the_context : given (taken 4 full elem.On) ≡ record nothing_told { on = true } → ⊥
on_keeps_the_context = λ e. let a = ap (λ (pre : Pre). pre.ctx) e in cc

pub context : taken 4 full (elem.Ctx handler)
    ≡ Ok (record { held = first ∷ second ∷ third ∷ []; pre = record since { ctx = Some handler }; informed = true }, nothing_gone)
context = refl

pub later_context_counts : given (taken 4 full (elem.Ctx handler)) ≡ since → ⊥
later_context_counts = λ e. let a = ap (λ (pre : Pre). option_map (λ ctx. ctx.el) pre.ctx) e in cc

pub address : taken 4 full (elem.Addr 0x5000)
    ≡ Ok (record { held = first ∷ second ∷ third ∷ []; pre = record since { addr = Some 0x5000 }; informed = true }, nothing_gone)
address = refl

pub later_address_counts : given (taken 4 full (elem.Addr 0x5000)) ≡ since → ⊥
later_address_counts = λ e. let a = ap (λ (pre : Pre). option_map (λ addr. addr == 0x4000) pre.addr) e in cc

-- ---- P0 elements

pub atom_at_depth_0 : taken 0 empty (elem.P0 (Atom true))
    ≡ Ok (record { held = []; pre = nothing_told; informed = true }, committing (seen since (Atom true) ∷ []))
atom_at_depth_0 = refl

pub nothing_is_held_at_depth_0 : kept (taken 0 empty (elem.P0 (Atom true))) ≡ seen since (Atom true) ∷ [] → ⊥
nothing_is_held_at_depth_0 = λ e. let a = ap length e in cc

pub atom_with_room : taken 4 full (elem.P0 (Atom true))
    ≡ Ok (record { held = first ∷ second ∷ third ∷ seen since (Atom true) ∷ []; pre = nothing_told; informed = true }, nothing_gone)
atom_with_room = refl

pub not_one_too_early : committed (taken 4 full (elem.P0 (Atom true))) ≡ first ∷ [] → ⊥
not_one_too_early = λ e. let a = ap length e in cc

pub given_once : given (taken 4 full (elem.P0 (Atom true))) ≡ since → ⊥
given_once = λ e. let a = ap (λ (pre : Pre). pre.addr) e in cc

pub atom_without_room : taken 3 full (elem.P0 (Atom true))
    ≡ Ok (record { held = second ∷ third ∷ seen since (Atom true) ∷ []; pre = nothing_told; informed = true }, committing (first ∷ []))
atom_without_room = refl

pub not_one_too_late : committed (taken 3 full (elem.P0 (Atom true))) ≡ [] → ⊥
not_one_too_late = λ e. let a = ap length e in cc

pub exception_without_room : taken 3 behind (elem.P0 (Exc 2 0x6000))
    ≡ Ok (record { held = Unseen ∷ first ∷ seen since (Exc 2 0x6000) ∷ []; pre = nothing_told; informed = true }, committing (Unseen ∷ []))
exception_without_room = refl

-- ---- commits

pub commit_none : taken 4 full (elem.Commit 0) ≡ Ok (record { held = first ∷ second ∷ third ∷ []; pre = since; informed = true }, nothing_gone)
commit_none = refl

pub commit_two : taken 4 full (elem.Commit 2) ≡ Ok (record { held = third ∷ []; pre = since; informed = true }, committing (first ∷ second ∷ []))
commit_two = refl

pub commit_leaves_what_was_given : given (taken 4 full (elem.Commit 2)) ≡ nothing_told → ⊥
commit_leaves_what_was_given = λ e. let a = ap (λ (pre : Pre). pre.addr) e in cc

pub commit_all : taken 4 full (elem.Commit 3) ≡ Ok (record { held = []; pre = since; informed = true }, committing (first ∷ second ∷ third ∷ []))
commit_all = refl

pub all_can_be_committed : taken 4 full (elem.Commit 3) ≡ Err (CommitOverrun 3 3) → ⊥
all_can_be_committed = λ e. cc

pub commit_too_many : taken 4 full (elem.Commit 4) ≡ Err (CommitOverrun 4 3)
commit_too_many = refl

-- ---- cancels

pub cancel_none : taken 4 full (elem.Cancel 0) ≡ Ok (record { held = first ∷ second ∷ third ∷ []; pre = since; informed = true }, nothing_gone)
cancel_none = refl

pub cancel_of_none_leaves_what_was_given : given (taken 4 full (elem.Cancel 0)) ≡ trace_missing → ⊥
cancel_of_none_leaves_what_was_given = λ e. let a = ap (λ (pre : Pre). pre.addr) e in cc

pub cancel_one : taken 4 full (elem.Cancel 1)
    ≡ Ok (record { held = first ∷ second ∷ []; pre = record nothing_told { addr = Some 0x3000 }; informed = true }, cancelling (third ∷ []))
cancel_one = refl

pub what_was_given_before_comes_back : given (taken 4 full (elem.Cancel 1)) ≡ nothing_told → ⊥
what_was_given_before_comes_back = λ e. let a = ap (λ (pre : Pre). pre.addr) e in cc

pub cancel_two : taken 4 full (elem.Cancel 2)
    ≡ Ok (record { held = first ∷ []; pre = nothing_told; informed = true }, cancelling (second ∷ third ∷ []))
cancel_two = refl

pub what_was_given_since_goes : given (taken 4 full (elem.Cancel 2)) ≡ since → ⊥
what_was_given_since_goes = λ e. let a = ap (λ (pre : Pre). pre.addr) e in cc

pub not_the_newest_that_goes : given (taken 4 full (elem.Cancel 2)) ≡ record nothing_told { addr = Some 0x3000 } → ⊥
not_the_newest_that_goes = λ e. let a = ap (λ (pre : Pre). pre.addr) e in cc

pub cancel_all : taken 4 full (elem.Cancel 3) ≡ Ok (record { held = []; pre = begun; informed = true }, cancelling (first ∷ second ∷ third ∷ []))
cancel_all = refl

pub cancel_too_many : taken 4 full (elem.Cancel 4) ≡ Err (CancelOverrun 4 3)
cancel_too_many = refl

pub cancel_unseen : taken 4 behind (elem.Cancel 2)
    ≡ Ok (record { held = Unseen ∷ []; pre = trace_missing; informed = true }, cancelling (Unseen ∷ first ∷ []))
cancel_unseen = refl

pub trace_is_missing_before_an_unseen_one : given (taken 4 behind (elem.Cancel 2)) ≡ begun → ⊥
trace_is_missing_before_an_unseen_one = λ e. let a = ap (λ (pre : Pre). pre.lost) e in cc

-- ---- mispredicts

pub flip_atom : taken 4 full elem.Flip
    ≡ Ok (
      record {
        held = first ∷ second ∷ seen (record nothing_told { addr = Some 0x3000 }) (Atom true) ∷ [];
        pre = record since { addr = None };
        informed = true;
      },
      nothing_gone,
    )
flip_atom = refl

pub the_oldest_is_not_flipped : kept (taken 4 full elem.Flip) ≡ seen begun (Atom false) ∷ second ∷ third ∷ [] → ⊥
the_oldest_is_not_flipped = λ e. let a = ap (λ things. option_map is_e (slice_get things 0)) e in cc

pub flip_takes_the_address_away : given (taken 4 full elem.Flip) ≡ since → ⊥
flip_takes_the_address_away = λ e. let a = ap (λ (pre : Pre). pre.addr) e in cc

pub flip_exception : taken 4 two elem.Flip ≡ Err (NoAtomToFlip 2)
flip_exception = refl

pub an_exception_is_no_atom : taken 4 two elem.Flip ≡ Ok (two, nothing_gone) → ⊥
an_exception_is_no_atom = λ e. cc

pub flip_none : taken 4 empty elem.Flip ≡ Err (NoAtomToFlip 0)
flip_none = refl

pub flip_unseen : taken 4 before elem.Flip
    ≡ Ok (record { held = Unseen ∷ Unseen ∷ []; pre = record trace_missing { ctx = Some program }; informed = true }, nothing_gone)
flip_unseen = refl

pub trace_is_missing_behind_an_unseen_one : given (taken 4 before elem.Flip) ≡ record since { addr = None } → ⊥
trace_is_missing_behind_an_unseen_one = λ e. let a = ap (λ (pre : Pre). pre.lost) e in cc

-- ---- lost trace

pub overflow : taken 4 behind elem.Overflow
    ≡ Ok (record { held = []; pre = trace_missing; informed = true }, record { committed = Gap ∷ []; cancelled = []; lost = Unseen ∷ Unseen ∷ first ∷ [] })
overflow = refl

pub an_overflow_is_no_stop : committed (taken 4 behind elem.Overflow) ≡ Stop ∷ [] → ⊥
an_overflow_is_no_stop = λ e. cc

pub trace_is_missing_behind_an_overflow : given (taken 4 behind elem.Overflow) ≡ nothing_told → ⊥
trace_is_missing_behind_an_overflow = λ e. let a = ap (λ (pre : Pre). pre.lost) e in cc

pub discard : taken 4 full elem.Discard
    ≡ Ok (record { held = []; pre = trace_missing; informed = true }, record { committed = Stop ∷ []; cancelled = []; lost = first ∷ second ∷ third ∷ [] })
discard = refl

pub nothing_is_held_behind_a_discard : kept (taken 4 full elem.Discard) ≡ first ∷ second ∷ third ∷ [] → ⊥
nothing_is_held_behind_a_discard = λ e. let a = ap length e in cc

-- ---- lists of elements

-- at depth 2
abbrev elements : List Elem
elements =
    elem.Info 1 ∷ elem.On ∷ elem.Ctx handler ∷ elem.Addr 0x1000 ∷ elem.P0 (Atom true)
    ∷ elem.P0 (Exc 1 0x2000) ∷ elem.Addr 0x3000 ∷ elem.P0 (Atom false) ∷ elem.Flip
    ∷ elem.Commit 1 ∷ elem.P0 (Atom true) ∷ elem.Cancel 2 ∷ elem.P0 (Atom false) ∷ elem.Overflow
    ∷ elem.Info 1 ∷ elem.P0 (Atom true) ∷ elem.P0 (Atom false) ∷ elem.P0 (Atom true) ∷ []

abbrev done : List Thing
done =
    Unseen ∷ seen (record trace_missing { flush = true; on = true; ctx = Some handler; addr = Some 0x1000 }) (Atom true)
    ∷ second ∷ Gap ∷ seen (record trace_missing { flush = true }) (Atom true) ∷ []

abbrev left : Pending
left = record { held = seen nothing_told (Atom false) ∷ seen nothing_told (Atom true) ∷ []; pre = nothing_told; informed = true }

pub a_list : resolve_all 2 unresolved elements ≡ Ok (record { done = done; pending = left })
a_list = refl

pub a_list_has_its_gap : length_done (resolve_all 2 unresolved elements) ≡ 4 → ⊥
a_list_has_its_gap = λ e. cc

pub a_count : tally 2 at_first no_counts elements ≡ record { made = 8; committed = 3; cancelled = 2; lost = 1 }
a_count = refl

-- one that was not seen is committed, and in no count
pub unseen_ones_are_not_counted : tally 2 at_first no_counts elements ≡ record { made = 8; committed = 4; cancelled = 2; lost = 1 } → ⊥
unseen_ones_are_not_counted = λ e. let a = ap (λ (c : Counts). c.committed) e in cc

pub p0s_of_a_list : p0s elements ≡ 8
p0s_of_a_list = refl

pub exceptions_are_p0_elements : p0s elements ≡ 7 → ⊥
exceptions_are_p0_elements = λ e. cc

-- up to the first fault
pub a_fault : resolve_all 2 unresolved (elem.Info 1 ∷ elem.P0 (Atom true) ∷ elem.Commit 3 ∷ elem.P0 (Atom true) ∷ []) ≡ Err (CommitOverrun 3 2)
a_fault = refl

pub counted_up_to_a_fault : tally 2 at_first no_counts (elem.Info 1 ∷ elem.P0 (Atom true) ∷ elem.Commit 3 ∷ elem.P0 (Atom true) ∷ [])
    ≡ record { made = 1; committed = 0; cancelled = 0; lost = 0 }
counted_up_to_a_fault = refl

pub nothing_is_counted_behind_a_fault : tally 2 at_first no_counts (elem.Info 1 ∷ elem.P0 (Atom true) ∷ elem.Commit 3 ∷ elem.P0 (Atom true) ∷ [])
    ≡ record { made = 2; committed = 0; cancelled = 0; lost = 0 } → ⊥
nothing_is_counted_behind_a_fault = λ e. let a = ap (λ (c : Counts). c.made) e in cc
