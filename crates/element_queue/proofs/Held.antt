-- What is held, as the code has it: so many things that were not seen, and the entries behind them.
use Rattle.std.proofs.Common.{Option, Some, None}
use Rattle.std.specs.Prelude.{IfSome, IsSome}
use Rattle.std.proofs.Common.{◌≡◌, ℕ, zero, suc, ◌+◌, ◌≤◌, ◌<◌, true, false, List, [], ◌∷◌, ◌++◌, length, map, replicate, All, refl, ap, arith, length-append}
use Rattle.std.proofs.lemmas.List.{length-map, length-replicate}
use Rattle.std.proofs.lemmas.List.Elements.{All-append, All-map, All-replicate}
use Rattle.etm_types.specs.declared.element.Entry.{Entry}
use Rattle.etm_types.specs.declared.element.Pre.{Pre}
use Rattle.etm_types.specs.declared.element.Thing.{Thing}
use Rattle.etm_types.specs.declared.element.Thing.TheVariants.{Seen, Unseen}
use Rattle.element_queue.specs.declared.ledger.Counts.{Counts}
use Rattle.element_queue.specs.Counting.{Balances, entries}
use Rattle.element_queue.specs.Queued.{IsHeld, IsQueued}

abbrev pub things : ℕ → List Entry → List Thing
things unseen seen = replicate unseen Unseen ++ map Seen seen

pub length-things : (unseen : ℕ) (seen : List Entry) → length (things unseen seen) ≡ unseen + length seen
length-things unseen seen = simp (length-append, length-replicate, length-map)

entries_seen : (seen : List Entry) → entries (map Seen seen) ≡ length seen
entries_seen [] = refl
entries_seen (x ∷ seen) = ap suc (entries_seen seen)

pub entries-things : (unseen : ℕ) (seen : List Entry) → entries (things unseen seen) ≡ length seen
entries-things zero seen = entries_seen seen
entries-things (suc unseen) seen = entries-things unseen seen

every_seen : (seen : List Entry) → All (λ x. IsHeld (Seen x)) seen
every_seen seen k d within = tt

pub things_held : (unseen : ℕ) (seen : List Entry) → All IsHeld (things unseen seen)
things_held unseen seen =
    All-append IsHeld (replicate unseen Unseen) (map Seen seen) (All-replicate IsHeld unseen Unseen tt) (All-map IsHeld Seen seen (every_seen seen))

pub queued : (unseen depth : ℕ) (seen : List Entry) (pre : Pre) (counts : Counts) → unseen + length seen ≤ depth → Balances counts (length seen)
    → IsQueued (record { held = things unseen seen; pre = pre; depth = depth; counts = counts })
queued unseen depth seen pre counts few balanced =
    record {
      few = omega (arith, length-things unseen seen);
      things = things_held unseen seen;
      balanced = rw entries-things balanced;
    }

pub none_held : (unseen : ℕ) (seen : List Entry) → things unseen seen ≡ [] → unseen + length seen ≡ 0
none_held unseen seen e = omega (arith, length-things unseen seen, ap length e)

pub if_some : {X : Type 0} (r : Option X) (P Q : X → Type 0) → ((x : X) → P x → Q x) → IfSome r P → IfSome r Q
if_some None P Q f p = p
if_some (Some x) P Q f p = f x p

-- an answer that is none tells nothing
pub which : {X : Type 0} (r : Option X) (P : X → Type 0) → IfSome r P → IsSome r → (x : X) × P x
which None P told some = absurd cc
which (Some x) P told some = (x, told)

pub none_there : {X : Type 0} (r : Option X) → r ≡ None → IsSome r → ⊥
none_there None is some = absurd cc
none_there (Some x) is some = absurd cc

-- a ring that gives nothing is empty
pub none_left : {X : Type 0} (xs : List X) → (0 < length xs → false ≡ true) → xs ≡ []
none_left [] h = refl
none_left (x ∷ xs) h = absurd (let e = h (omega arith) in cc)
