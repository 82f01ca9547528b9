-- What contracts see of the P0 elements that are held with their marks.
use Rattle.std.specs.Prelude.{◌≡◌, ◌≤◌, ℕ, Bool, false, List, [], ◌∷◌, ◌++◌, length, take, drop, Ok, ⊤}
use Rattle.element_queue.specs.Counting.{AreCounts, Balances, counts_after, entries, made_by, no_counts}
use Rattle.element_queue.specs.Pending.{Gone, Pending, committing, taken}
use Rattle.element_queue.specs.Queued.{Queued, pending_of}
use Rattle.element_queue.specs.Resolved.{at_first}
use Rattle.element_queue.specs.declared.ledger.Counts.{Counts}
use Rattle.etm_types.specs.declared.element.Elem.{Elem}
use Rattle.etm_types.specs.declared.element.Elem.TheVariants as elem
use Rattle.etm_types.specs.declared.element.Thing.{Thing}
use Rattle.etm_types.specs.declared.element.Thing.TheVariants.{Seen, Unseen}
use Rattle.time_marks.specs.Stamps.{Stamp}
use Rattle.time_marks.specs.Times.{mark_of, marks_left, marks_out}

-- what may still be taken back, the marks of the P0 elements in it that were seen, the most that may be held, and the counts
pub record Marked : Type 0 where
  pub pending : Pending
  pub marks : List Stamp
  pub depth : ℕ
  pub counts : Counts

abbrev pub nothing_marked : ℕ → Marked
nothing_marked depth = record { pending = at_first; marks = []; depth = depth; counts = no_counts }

abbrev pub marked_of : Queued → List Stamp → Bool → Marked
marked_of q marks informed = record { pending = pending_of q informed; marks = marks; depth = q.depth; counts = q.counts }

-- all were seen
abbrev pub AllSeen : List Thing → Type 0
AllSeen [] = ⊤
AllSeen (Seen entry ∷ things) = AllSeen things
AllSeen (thing ∷ things) = ⊥

-- those that were not seen are the oldest
abbrev pub UnseenFirst : List Thing → Type 0
UnseenFirst [] = ⊤
UnseenFirst (Unseen ∷ things) = UnseenFirst things
UnseenFirst (Seen entry ∷ things) = AllSeen things
UnseenFirst (thing ∷ things) = ⊥

-- there is one mark for each P0 element that was seen and is held
pub record IsMarked (m : Marked) : Type 0 where
  pub order : UnseenFirst (m.pending).held
  pub each : length m.marks ≡ entries (m.pending).held
  pub few : length (m.pending).held ≤ m.depth
  pub balanced : Balances m.counts (entries (m.pending).held)
  pub range : AreCounts m.counts
  pub begins : (m.pending).informed ≡ false → (m.pending).held ≡ []

-- a trace info
abbrev pub IsInfo : Elem → Type 0
IsInfo e = (spec : ℕ) × (e ≡ elem.Info spec)

-- an element that commits no P0 element that is held
abbrev pub IsQuiet : Elem → Type 0
IsQuiet (elem.P0 p0) = ⊥
IsQuiet (elem.Commit n) = ⊥
IsQuiet e = ⊤

-- before the first trace info no other element comes
abbrev pub MayCome : Marked → Elem → Type 0
MayCome m e = (m.pending).informed ≡ false → IsInfo e

-- an element of a packet with this timestamp is taken, and these are the marks of the P0 elements that it commits
pub record Moves (m : Marked) (stamp : Stamp) (e : Elem) (given : List Stamp) (m' : Marked) : Type 0 where
  pub gone : Gone
  pub rule : taken m.depth m.pending e ≡ Ok (m'.pending, gone)
  pub out : given ≡ marks_out gone (m.marks ++ mark_of stamp e)
  pub left : m'.marks ≡ marks_left gone (m.marks ++ mark_of stamp e)
  pub counts : m'.counts ≡ counts_after m.counts (made_by e) gone
  pub depth : m'.depth ≡ m.depth

-- the oldest so many are committed
abbrev pub less : Marked → ℕ → Marked
less m n =
    record m {
      pending = record (m.pending) { held = drop n (m.pending).held };
      marks = drop (entries (take n (m.pending).held)) m.marks;
      counts = counts_after m.counts 0 (committing (take n (m.pending).held));
    }

-- and these are their marks
abbrev pub out_first : Marked → ℕ → List Stamp
out_first m n = take (entries (take n (m.pending).held)) m.marks
