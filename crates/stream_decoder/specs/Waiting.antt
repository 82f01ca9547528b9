-- What contracts see of the P0 elements that wait: those that may still be taken back, and those that are due.
use Rattle.std.specs.Prelude.{◌≡◌, ◌≤◌, ℕ, zero, suc, Bool, List, [], ◌∷◌, ◌++◌, length, take, drop, Ok}
use Rattle.element_queue.specs.Counting.{AreCounts, Balances, add, counts_after, entries, made_by}
use Rattle.element_queue.specs.Pending.{Gone, Pending, committing, taken}
use Rattle.element_queue.specs.Queued.{Queued, committed_by as queue_commits}
use Rattle.element_queue.specs.declared.ledger.Counts.{Counts}
use Rattle.etm_types.specs.Pre.{nothing_told}
use Rattle.etm_types.specs.declared.element.Elem.{Elem}
use Rattle.etm_types.specs.declared.element.Elem.TheVariants as elem
use Rattle.etm_types.specs.declared.element.P0.{P0}
use Rattle.etm_types.specs.declared.element.P0.TheVariants.{Atom}
use Rattle.etm_types.specs.declared.element.Thing.{Thing}

-- what may still be taken back, what was committed by an element and is still to be given out, the most that may be held, and
-- what became of the others
pub record Waiting : Type 0 where
  pub pending : Pending
  pub due : List Thing
  pub depth : ℕ
  pub counts : Counts

-- of what a queue holds, the oldest may be due already
abbrev pub waiting_of : Queued → Bool → ℕ → Waiting
waiting_of q informed due =
    record {
      pending = record { held = drop due q.held; pre = q.pre; informed = informed };
      due = take due q.held;
      depth = q.depth;
      counts = q.counts;
    }

-- all that wait, oldest first
abbrev pub all_of : Waiting → List Thing
all_of w = w.due ++ (w.pending).held

-- what may still be taken back, as a queue of its own
abbrev pub queue_of : Waiting → Queued
queue_of w = record { held = (w.pending).held; pre = (w.pending).pre; depth = w.depth; counts = w.counts }

-- what one P0 element more commits
abbrev pub committed_by : Waiting → P0 → List Thing
committed_by w p0 = queue_commits (queue_of w) p0

-- what became of the P0 elements, once what is due is committed
abbrev pub counted_with : Counts → List Thing → Counts
counted_with c due = record c { committed = add c.committed (entries due) }

-- at depth 0, so many P0 elements more, at least one, are made and committed at once
abbrev pub counts_passed : ℕ → Counts → Counts
counts_passed n c = record c { made = add c.made n; committed = add c.committed n }

abbrev pub passed : ℕ → Waiting → Waiting
passed n w = record w { pending = record (w.pending) { pre = nothing_told }; counts = counts_passed n w.counts }

-- what holds at any time
pub record IsWaiting (w : Waiting) : Type 0 where
  pub few : length (w.due ++ (w.pending).held) ≤ w.depth
  pub balanced : Balances w.counts (entries (w.due ++ (w.pending).held))
  pub range : AreCounts w.counts

-- an element is taken; these of the things that it commits are given out, and the others are due
pub record Commits (w : Waiting) (e : Elem) (w' : Waiting) (things : List Thing) : Type 0 where
  pub gone : Gone
  pub rule : taken w.depth w.pending e ≡ Ok (w'.pending, gone)
  pub commits : gone.committed ≡ things ++ w'.due
  pub counts : counted_with w'.counts w'.due ≡ counts_after (counted_with w.counts w.due) (made_by e) gone
  pub depth : w'.depth ≡ w.depth

-- so many atoms that are next are taken, one after the other, and all that each commits is given out; these elements are left
abbrev pub TakesAtoms : Waiting → List Elem → ℕ → Waiting → List Elem → Type 0
TakesAtoms w elements zero w' elements' = (w' ≡ w) × (elements' ≡ elements)
TakesAtoms w elements (suc n) w' elements' =
    (taken : Bool) × (others : List Elem) × (next : Waiting) × (elements ≡ elem.P0 (Atom taken) ∷ others)
    × Commits w (elem.P0 (Atom taken)) next (committed_by w (Atom taken)) × IsWaiting next × TakesAtoms next others n w' elements'

-- so many atoms that are next are taken, one after the other, and none of them commits anything; these elements are left
abbrev pub HoldsAtoms : Waiting → List Elem → ℕ → Waiting → List Elem → Type 0
HoldsAtoms w elements zero w' elements' = (w' ≡ w) × (elements' ≡ elements)
HoldsAtoms w elements (suc n) w' elements' =
    (taken : Bool) × (others : List Elem) × (next : Waiting) × (elements ≡ elem.P0 (Atom taken) ∷ others)
    × Commits w (elem.P0 (Atom taken)) next [] × IsWaiting next × (next.due ≡ []) × HoldsAtoms next others n w' elements'

-- the oldest that is due was given out
abbrev pub DropsOldest : Waiting → Thing → List Thing → Waiting → Type 0
DropsOldest w thing others w' =
    (w.due ≡ thing ∷ others) × (w' ≡ record w { due = others; counts = counts_after w.counts 0 (committing (thing ∷ [])) }) × IsWaiting w'

-- so many that are due were given out, one after the other
abbrev pub DropsDue : Waiting → ℕ → Waiting → Type 0
DropsDue w zero w' = w' ≡ w
DropsDue w (suc n) w' = (thing : Thing) × (others : List Thing) × (next : Waiting) × DropsOldest w thing others next × DropsDue next n w'
