-- What contracts see of a queue.
use Rattle.std.specs.Prelude.{◌≡◌, ◌≢◌, ◌≤◌, ◌<◌, ℕ, ◌-◌, Bool, true, None, Some, Option, List, [], ◌∷◌, ◌++◌, All, length, map, take, drop, slice_get, Ok, Err, ⊤}
use Rattle.etm_types.specs.declared.element.Elem.{Elem}
use Rattle.etm_types.specs.declared.element.Elem.TheVariants as elem
use Rattle.etm_types.specs.Atoms.{atoms_in, most_atoms}
use Rattle.etm_types.specs.Pre.{nothing_told}
use Rattle.etm_types.specs.declared.element.Entry.{Entry}
use Rattle.etm_types.specs.declared.element.P0.{P0}
use Rattle.etm_types.specs.declared.element.P0.TheVariants.{Atom}
use Rattle.etm_types.specs.declared.element.Pre.{Pre}
use Rattle.etm_types.specs.declared.element.Thing.{Thing}
use Rattle.etm_types.specs.declared.element.Thing.TheVariants.{Seen, Unseen}
use Rattle.etm_types.specs.declared.queue_fault.QueueFault.{QueueFault}
use Rattle.element_queue.specs.declared.given_atoms.GivenAtoms.{GivenAtoms}
use Rattle.element_queue.specs.declared.ledger.Counts.{Counts}
use Rattle.element_queue.specs.declared.queue.AtomEntry.{AtomEntry}
use Rattle.element_queue.specs.declared.queue.Committed.{Committed}
use Rattle.element_queue.specs.declared.queue.Committed.TheVariants as committed
use Rattle.element_queue.specs.declared.queue.PreElem.{PreElem}
use Rattle.element_queue.specs.declared.queue.PreElem.TheVariants as pre_elem
use Rattle.element_queue.specs.Counting.{Balances, add, counts_after, entries, made_by}
use Rattle.element_queue.specs.Pending.{Gone, Pending, Taken, nothing_gone, taken}

-- what is held, oldest first, what was given since, the most that may be held, and the counts
pub record Queued : Type 0 where
  pub held : List Thing
  pub pre : Pre
  pub depth : ℕ
  pub counts : Counts

-- only P0 elements are held, seen or not
abbrev pub IsHeld : Thing → Type 0
IsHeld (Seen entry) = ⊤
IsHeld Unseen = ⊤
IsHeld thing = ⊥

-- what holds of every queue
pub record IsQueued (q : Queued) : Type 0 where
  pub few : length q.held ≤ q.depth
  pub things : All IsHeld q.held
  pub balanced : Balances q.counts (entries q.held)

-- A queue as it stands in the rules. It does not keep whether a trace info came.
abbrev pub pending_of : Queued → Bool → Pending
pending_of q informed = record { held = q.held; pre = q.pre; informed = informed }

-- the element is taken: what leaves by it is this, and it is counted
pub record Takes (q : Queued) (e : Elem) (gone : Gone) (q' : Queued) : Type 0 where
  pub rule : (informed : Bool) → taken q.depth (pending_of q informed) e ≡ Ok (pending_of q' informed, gone)
  pub counts : q'.counts ≡ counts_after q.counts (made_by e) gone
  pub depth : q'.depth ≡ q.depth

-- the element has this fault
abbrev pub Refuses : Queued → Elem → QueueFault → Type 0
Refuses q e fault = (informed : Bool) → taken q.depth (pending_of q informed) e ≡ Err fault

-- A trace info is taken, where one came before or where none did. From it on one came.
pub record TakesInfo (informed : Bool) (q : Queued) (spec : ℕ) (q' : Queued) : Type 0 where
  pub rule : taken q.depth (pending_of q informed) (elem.Info spec) ≡ Ok (pending_of q' true, nothing_gone)
  pub counts : q'.counts ≡ q.counts
  pub depth : q'.depth ≡ q.depth

-- an element that gives something to the next P0 element is taken: of trace infos any that is not the first, whatever it announces
abbrev pub TakesPre : Queued → PreElem → Queued → Type 0
TakesPre q pre_elem.Info q' = (spec : ℕ) → TakesInfo true q spec q'
TakesPre q pre_elem.On q' = Takes q elem.On nothing_gone q'
TakesPre q (pre_elem.Ctx ctx) q' = Takes q (elem.Ctx ctx) nothing_gone q'
TakesPre q (pre_elem.Addr addr) q' = Takes q (elem.Addr addr) nothing_gone q'

abbrev pub elem_of : PreElem → Elem
elem_of pre_elem.Info = elem.Info 0
elem_of pre_elem.On = elem.On
elem_of (pre_elem.Ctx ctx) = elem.Ctx ctx
elem_of (pre_elem.Addr addr) = elem.Addr addr

abbrev pub given_behind : Pre → Taken → Pre
given_behind pre (Ok t) = (t.0).pre
given_behind pre (Err fault) = pre

-- what such an element gives, with what was given before, by the rules
abbrev pub noted : Pre → PreElem → Pre
noted pre e = given_behind pre (taken 0 (record { held = []; pre = pre; informed = true }) (elem_of e))

-- what was given before the oldest of the newest entries, or else since the newest
abbrev pub given_since : Pre → List Entry → Pre
given_since pre [] = pre
given_since pre (entry ∷ entries) = entry.pre

-- what one P0 element more commits
abbrev pub committed_by : Queued → P0 → List Thing
committed_by q p0 = let all = q.held ++ Seen (record { pre = q.pre; p0 = p0 }) ∷ [] in take (length all - q.depth) all

-- an atom before which nothing was given but, where there is one, an address
abbrev pub entry_of : AtomEntry → Entry
entry_of atom = record { pre = record nothing_told { addr = atom.addr }; p0 = Atom atom.taken }

-- at depth 0, so many P0 elements more, at least one, are made and committed at once
abbrev pub passed : ℕ → Queued → Queued
passed n q =
    record q {
      pre = nothing_told;
      counts = record (q.counts) { made = add (q.counts).made n; committed = add (q.counts).committed n };
    }

-- what is committed, as a thing
abbrev pub thing_of : Committed → Thing
thing_of (committed.Seen entry) = Seen entry
thing_of committed.Unseen = Unseen

abbrev pub things_of : Option Committed → List Thing
things_of None = []
things_of (Some c) = thing_of c ∷ []

-- ---- many atoms together

-- a plain atom: nothing was given before it
abbrev pub plain_entry : Bool → Entry
plain_entry taken = entry_of (record { addr = None; taken = taken })

abbrev pub plain_atom : Bool → Thing
plain_atom taken = Seen (plain_entry taken)

-- so many of the oldest are plain atoms
abbrev pub AreOldestPlain : ℕ → List Thing → Type 0
AreOldestPlain n held = (oldest : List Bool) × (map plain_atom oldest ≡ take n held) × (length oldest ≡ n)

-- no plain atom stands at this place
abbrev pub NoPlainAtomAt : ℕ → List Thing → Type 0
NoPlainAtomAt n held = (taken : Bool) → slice_get held n ≢ Some (plain_atom taken)

-- atoms, before the first of which this address was given, or none
abbrev pub given_atoms : Option ℕ → List Bool → List Thing
given_atoms addr [] = []
given_atoms addr (taken ∷ others) = Seen (entry_of (record { addr = addr; taken = taken })) ∷ map plain_atom others

-- what is held begins with these atoms: 24, or all of them before the next thing that is no plain atom
pub record BeginsWith (given : GivenAtoms) (held : List Thing) : Type 0 where
  pub atoms : given_atoms given.addr (atoms_in given.atoms) ≡ take (given.atoms).count held
  pub some : 0 < (given.atoms).count
  pub most : (given.atoms).count ≤ most_atoms
  pub within : (given.atoms).count ≤ length held
  pub all : (given.atoms).count < most_atoms → NoPlainAtomAt (given.atoms).count held

-- where no more may be held and nothing was given, so many atoms more commit as many of the oldest
abbrev pub rotated : List Bool → Queued → Queued
rotated atoms q =
    record q {
      held = drop (length atoms) q.held ++ map plain_atom atoms;
      counts = record (q.counts) { made = add (q.counts).made (length atoms); committed = add (q.counts).committed (length atoms) };
    }

-- where so many more may be held and nothing was given, so many atoms more are held
abbrev pub holding : List Bool → Queued → Queued
holding atoms q =
    record q {
      held = q.held ++ map plain_atom atoms;
      counts = record (q.counts) { made = add (q.counts).made (length atoms) };
    }
