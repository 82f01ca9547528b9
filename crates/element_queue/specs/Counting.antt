-- How many P0 elements were made, and what became of them: four counts, each modulo 2^64.
use Rattle.std.specs.Prelude.{◌≡◌, ℕ, suc, ◌+◌, ◌%◌, ◌^◌, ◌<◌, List, [], ◌∷◌, Ok, Err}
use Rattle.etm_types.specs.declared.element.Elem.{Elem}
use Rattle.etm_types.specs.declared.element.Elem.TheVariants as elem
use Rattle.etm_types.specs.declared.element.Thing.{Thing}
use Rattle.etm_types.specs.declared.element.Thing.TheVariants.{Seen}
use Rattle.element_queue.specs.declared.ledger.Counts.{Counts}
use Rattle.element_queue.specs.Pending.{Pending, Gone, Taken, taken}

abbrev pub no_counts : Counts
no_counts = record { made = 0; committed = 0; cancelled = 0; lost = 0 }

-- counts as they are kept: each modulo 2^64
pub record AreCounts (c : Counts) : Type 0 where
  pub made : c.made < 2 ^ 64
  pub committed : c.committed < 2 ^ 64
  pub cancelled : c.cancelled < 2 ^ 64
  pub lost : c.lost < 2 ^ 64

-- how many of the things are P0 elements that were seen; others are in no count
abbrev pub entries : List Thing → ℕ
entries [] = 0
entries (Seen entry ∷ things) = suc (entries things)
entries (thing ∷ things) = entries things

-- how many P0 elements an element makes
abbrev pub made_by : Elem → ℕ
made_by (elem.P0 p0) = 1
made_by e = 0

-- how many of the elements are P0 elements
abbrev pub p0s : List Elem → ℕ
p0s [] = 0
p0s (elem.P0 p0 ∷ elements) = suc (p0s elements)
p0s (e ∷ elements) = p0s elements

abbrev pub add : ℕ → ℕ → ℕ
add count n = (count + n) % 2 ^ 64

-- so many are made, and some things leave
abbrev pub counts_after : Counts → ℕ → Gone → Counts
counts_after c made gone =
    record {
      made = add c.made made;
      committed = add c.committed (entries gone.committed);
      cancelled = add c.cancelled (entries gone.cancelled);
      lost = add c.lost (entries gone.lost);
    }

abbrev pub sum_of : Counts → Counts → Counts
sum_of a b = record { made = add a.made b.made; committed = add a.committed b.committed; cancelled = add a.cancelled b.cancelled; lost = add a.lost b.lost }

-- all that was made was committed, cancelled or lost, but for so many that are held
abbrev pub Balances : Counts → ℕ → Type 0
Balances c held = c.made ≡ (c.committed + c.cancelled + c.lost + held) % 2 ^ 64

-- the counts after elements, up to the first that has a fault
abbrev pub tally_step : Counts → Elem → Taken → (Pending → Counts → Counts) → Counts
tally_step c e (Ok t) next = next t.0 (counts_after c (made_by e) t.1)
tally_step c e (Err fault) next = c

abbrev pub tally : ℕ → Pending → Counts → List Elem → Counts
tally depth p c [] = c
tally depth p c (e ∷ elements) = tally_step c e (taken depth p e) (λ p' c'. tally depth p' c' elements)
