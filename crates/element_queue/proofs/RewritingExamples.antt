-- The laws by which two ways of writing the same trace are resolved alike, at small states: what both come to is written out, and
-- near misses show that the conditions are needed.
use Rattle.std.proofs.Common.{◌≡◌, true, false, List, [], ◌∷◌, length, ap, Some, None, Result, Ok, Err, refl, arith, ◌++◌}
use Rattle.std.specs.Prelude.{Bool}
use Rattle.etm_types.specs.declared.element.Elem.{Elem}
use Rattle.etm_types.specs.declared.element.Elem.TheVariants as elem
use Rattle.etm_types.specs.declared.element.P0.TheVariants.{Atom, Exc}
use Rattle.etm_types.specs.declared.element.Pre.{Pre}
use Rattle.etm_types.specs.declared.element.Thing.{Thing}
use Rattle.etm_types.specs.declared.element.Thing.TheVariants.{Unseen, Gap}
use Rattle.etm_types.specs.declared.queue_fault.QueueFault.{QueueFault}
use Rattle.etm_types.specs.declared.queue_fault.QueueFault.TheVariants.{CancelOverrun}
use Rattle.element_queue.specs.Resolved.{Resolved, resolve_all, with_done}
use Rattle.element_queue.specs.Rewriting.{KeepsTrace, SpareAll, Spares, elements_of_run, room_made, taken_together}
use Rattle.element_queue.proofs.Examples.{program, second, seen}

abbrev all_given : Pre
all_given = record { flush = true; on = true; lost = true; ctx = Some program; addr = Some 0x4000 }

abbrev none_given : Pre
none_given = record { flush = false; on = false; lost = false; ctx = None; addr = None }

-- an atom before which all was given, and one before which nothing was
abbrev told : Bool → Thing
told taken = seen all_given (Atom taken)

abbrev bare : Bool → Thing
bare taken = seen none_given (Atom taken)

abbrev holding : List Thing → Pre → Resolved
holding held pre = record { done = Gap ∷ []; pending = record { held = held; pre = pre; informed = true } }

abbrev comes_to : List Thing → List Thing → Pre → Result Resolved QueueFault
comes_to done held pre = Ok (record { done = done; pending = record { held = held; pre = pre; informed = true } })

abbrev taken_atom : Elem
taken_atom = elem.P0 (Atom true)

abbrev other_atom : Elem
other_atom = elem.P0 (Atom false)

-- two are held
abbrev two : Resolved
two = holding (Unseen ∷ second ∷ []) all_given

abbrev held_in : Result Resolved QueueFault → List Thing
held_in (Ok r) = r.pending.held
held_in (Err fault) = []

abbrev done_in : Result Resolved QueueFault → List Thing
done_in (Ok r) = r.done
done_in (Err fault) = []

abbrev flush_in : Result Resolved QueueFault → Bool
flush_in (Ok r) = (r.pending.pre).flush
flush_in (Err fault) = false

-- ---- packing

pub three_at_once : resolve_all 3 two (elements_of_run (Atom true ∷ Atom false ∷ Exc 2 0x6000 ∷ []))
    ≡ comes_to (Gap ∷ Unseen ∷ second ∷ []) (told true ∷ bare false ∷ seen none_given (Exc 2 0x6000) ∷ []) none_given
three_at_once = refl

pub held_at_once : taken_together 3 two.pending (Atom true ∷ Atom false ∷ Exc 2 0x6000 ∷ [])
    ≡ Ok (
      record { held = told true ∷ bare false ∷ seen none_given (Exc 2 0x6000) ∷ []; pre = none_given; informed = true },
      record { committed = Unseen ∷ second ∷ []; cancelled = []; lost = [] },
    )
held_at_once = refl

-- without one, what was given stays
pub none_at_once : resolve_all 3 two (elements_of_run []) ≡ with_done two.done (taken_together 3 two.pending []) → ⊥
none_at_once = λ q. let a = ap flush_in q in cc

-- ---- inverting

pub other_atom_where_full : resolve_all 2 two (taken_atom ∷ elem.Flip ∷ []) ≡ comes_to (Gap ∷ Unseen ∷ []) (second ∷ told false ∷ []) none_given
other_atom_where_full = refl

pub committed_before_it_is_flipped : resolve_all 0 (holding [] all_given) (taken_atom ∷ elem.Flip ∷ []) ≡ resolve_all 0 (holding [] all_given) (other_atom ∷ []) → ⊥
committed_before_it_is_flipped = λ q. cc

-- ---- vanishing

pub as_many_vanish : resolve_all 4 two (taken_atom ∷ other_atom ∷ elem.Cancel 2 ∷ []) ≡ comes_to (Gap ∷ []) (Unseen ∷ second ∷ []) all_given
as_many_vanish = refl

pub one_more_goes : resolve_all 4 two (taken_atom ∷ other_atom ∷ elem.Cancel 3 ∷ []) ≡ comes_to (Gap ∷ []) (Unseen ∷ []) none_given
one_more_goes = refl

pub too_many_go : resolve_all 4 two (taken_atom ∷ other_atom ∷ elem.Cancel 5 ∷ []) ≡ Err (CancelOverrun 5 4)
too_many_go = refl

pub too_many_go_alone : resolve_all 4 two (elem.Cancel 3 ∷ []) ≡ Err (CancelOverrun 3 2)
too_many_go_alone = refl

-- from a full queue with the number that is held then
pub too_many_go_from_a_full_queue : resolve_all 2 two (taken_atom ∷ other_atom ∷ elem.Cancel 5 ∷ []) ≡ Err (CancelOverrun 5 2)
too_many_go_from_a_full_queue = refl

pub none_vanishes_from_a_full_queue : resolve_all 2 two (taken_atom ∷ elem.Cancel 1 ∷ []) ≡ resolve_all 2 two (elem.Cancel 0 ∷ []) → ⊥
none_vanishes_from_a_full_queue = λ q. let a = ap (λ x. length (done_in x)) q in cc

pub none_vanishes_at_depth_0 : resolve_all 0 (holding [] all_given) (taken_atom ∷ elem.Cancel 1 ∷ []) ≡ resolve_all 0 (holding [] all_given) (elem.Cancel 0 ∷ []) → ⊥
none_vanishes_at_depth_0 = λ q. cc

-- the first atom stays, with what was given before it
pub not_all_vanish : resolve_all 4 two (taken_atom ∷ other_atom ∷ elem.Cancel 1 ∷ []) ≡ resolve_all 4 two (elem.Cancel 0 ∷ []) → ⊥
not_all_vanish = λ q. let a = ap (λ x. length (held_in x)) q in cc

-- ---- joining

pub cancelled_twice : resolve_all 4 (holding (told true ∷ Unseen ∷ second ∷ []) all_given) (elem.Cancel 1 ∷ elem.Cancel 2 ∷ [])
    ≡ comes_to (Gap ∷ []) [] all_given
cancelled_twice = refl

pub second_goes_too_far : resolve_all 4 two (elem.Cancel 1 ∷ elem.Cancel 2 ∷ []) ≡ Err (CancelOverrun 2 1)
second_goes_too_far = refl

pub sum_goes_too_far : resolve_all 4 two (elem.Cancel 3 ∷ []) ≡ Err (CancelOverrun 3 2)
sum_goes_too_far = refl

-- ---- deferring

-- in a queue of three: two atoms, of which one commits the oldest, a cancel, a trace info, a commit and a mispredict
abbrev later : List Elem
later = taken_atom ∷ other_atom ∷ elem.Cancel 1 ∷ elem.Info 9 ∷ elem.P0 (Exc 2 0x6000) ∷ elem.Commit 1 ∷ taken_atom ∷ elem.Flip ∷ []

pub a_commit_before : resolve_all 3 two (elem.Commit 2 ∷ later)
    ≡ comes_to (Gap ∷ Unseen ∷ second ∷ told true ∷ []) (seen (record none_given { flush = true }) (Exc 2 0x6000) ∷ bare false ∷ []) none_given
a_commit_before = refl

pub room_for_later : room_made 3 two.pending later ≡ 1
room_for_later = refl

pub a_commit_behind : resolve_all 3 two (elem.Commit 2 ∷ later) ≡ resolve_all 3 two (later ++ elem.Commit 1 ∷ [])
a_commit_behind = refl

-- what a full queue has committed is not committed again
pub not_the_whole_commit : resolve_all 3 two (elem.Commit 2 ∷ later) ≡ resolve_all 3 two (later ++ elem.Commit 2 ∷ []) → ⊥
not_the_whole_commit = λ q. let a = ap (λ x. length (done_in x)) q in cc

-- only P0 elements make room, and each as much as it has to
pub room_by_each : room_made 3 two.pending (elem.Commit 1 ∷ []) ∷ room_made 1 two.pending (taken_atom ∷ other_atom ∷ []) ∷ room_made 4 two.pending (taken_atom ∷ other_atom ∷ []) ∷ [] ≡ 0 ∷ 3 ∷ 0 ∷ []
room_by_each = refl

pub not_behind_an_overflow : resolve_all 3 two (elem.Commit 1 ∷ elem.Overflow ∷ []) ≡ resolve_all 3 two (elem.Overflow ∷ elem.Commit 1 ∷ []) → ⊥
not_behind_an_overflow = λ q. cc

pub not_behind_a_discard : resolve_all 3 two (elem.Commit 1 ∷ elem.Discard ∷ []) ≡ resolve_all 3 two (elem.Discard ∷ elem.Commit 1 ∷ []) → ⊥
not_behind_a_discard = λ q. cc

-- it commits what is not held yet
pub not_behind_what_it_commits : resolve_all 4 two (elem.Commit 3 ∷ taken_atom ∷ []) ≡ resolve_all 4 two (taken_atom ∷ elem.Commit 3 ∷ []) → ⊥
not_behind_what_it_commits = λ q. cc

-- what it commits is turned over
pub not_behind_a_flip_of_it : resolve_all 3 (holding (told true ∷ []) all_given) (elem.Commit 1 ∷ elem.Flip ∷ [])
    ≡ resolve_all 3 (holding (told true ∷ []) all_given) (elem.Flip ∷ elem.Commit 1 ∷ []) → ⊥
not_behind_a_flip_of_it = λ q. cc

-- what it commits is committed by another
pub not_behind_a_commit_of_it : resolve_all 4 two (elem.Commit 1 ∷ elem.Commit 2 ∷ taken_atom ∷ []) ≡ resolve_all 4 two (elem.Commit 2 ∷ taken_atom ∷ elem.Commit 1 ∷ []) → ⊥
not_behind_a_commit_of_it = λ q. cc

-- what it commits is taken back
pub not_behind_a_cancel_of_it : resolve_all 3 two (elem.Commit 1 ∷ elem.Cancel 2 ∷ taken_atom ∷ []) ≡ resolve_all 3 two (elem.Cancel 2 ∷ taken_atom ∷ elem.Commit 1 ∷ []) → ⊥
not_behind_a_cancel_of_it = λ q. cc

-- what is spared at the most, and one more
pub spared : Spares 1 two.pending (elem.Cancel 1) × Spares 1 two.pending (elem.Commit 1) × Spares 1 two.pending elem.Flip
spared = (omega arith, omega arith, omega arith)

pub not_spared_by_a_cancel : Spares 1 two.pending (elem.Cancel 2) → ⊥
not_spared_by_a_cancel = λ h. absurd (omega (arith, h))

pub not_spared_by_a_commit : Spares 1 two.pending (elem.Commit 2) → ⊥
not_spared_by_a_commit = λ h. absurd (omega (arith, h))

pub not_spared_by_a_flip : Spares 2 two.pending elem.Flip → ⊥
not_spared_by_a_flip = λ h. absurd (omega (arith, h))

pub not_spared_where_trace_is_lost : (Spares 0 two.pending elem.Overflow → ⊥) × (Spares 0 two.pending elem.Discard → ⊥)
not_spared_where_trace_is_lost = (λ h. h, λ h. h)

-- all others spare all that is held
pub spared_by_others : Spares 9 two.pending (elem.Info 1) × Spares 9 two.pending elem.On × Spares 9 two.pending (elem.Ctx program)
    × Spares 9 two.pending (elem.Addr 0x5000) × Spares 9 two.pending taken_atom
spared_by_others = (tt, tt, tt, tt, tt)

pub trace_is_lost : (KeepsTrace elem.Overflow → ⊥) × (KeepsTrace elem.Discard → ⊥)
trace_is_lost = (λ h. h, λ h. h)

pub trace_is_kept : KeepsTrace (elem.Info 1) × KeepsTrace elem.On × KeepsTrace (elem.Ctx program) × KeepsTrace (elem.Addr 0x5000)
    × KeepsTrace taken_atom × KeepsTrace (elem.Commit 1) × KeepsTrace (elem.Cancel 1) × KeepsTrace elem.Flip
trace_is_kept = (tt, tt, tt, tt, tt, tt, tt, tt)

-- behind a fault nothing makes room
pub room_up_to_a_fault : room_made 2 two.pending (taken_atom ∷ elem.Commit 9 ∷ taken_atom ∷ []) ∷ room_made 2 two.pending (elem.Commit 9 ∷ []) ∷ [] ≡ 1 ∷ 0 ∷ []
room_up_to_a_fault = refl

-- the oldest is committed by the atom, so that one more may be taken back behind it; and behind a fault nothing is asked
pub spared_by_all : SpareAll 2 1 two.pending (taken_atom ∷ elem.Cancel 2 ∷ []) × SpareAll 2 1 two.pending (elem.Commit 1 ∷ elem.Info 1 ∷ []) × SpareAll 2 1 two.pending []
spared_by_all = ((tt, (omega arith, tt)), (omega arith, (tt, tt)), tt)

pub not_spared_by_the_second : SpareAll 4 1 two.pending (taken_atom ∷ elem.Cancel 3 ∷ []) → ⊥
not_spared_by_the_second = λ h. absurd (omega (arith, h.1.0))

pub not_spared_by_the_first : SpareAll 4 1 two.pending (elem.Cancel 2 ∷ []) → ⊥
not_spared_by_the_first = λ h. absurd (omega (arith, h.0))
