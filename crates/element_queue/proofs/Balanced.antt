-- The counts while P0 elements are made and end.
use Rattle.std.proofs.Common.{◌≡◌, ℕ, ◌+◌, ap, arith, ◌∙◌}
use Rattle.element_queue.specs.declared.ledger.Counts.{Counts}
use Rattle.element_queue.specs.Counting.{Balances, add}

pub made_one : (was now : Counts) (before held : ℕ)
    → now ≡ record was { made = add was.made 1 } → held ≡ before + 1 → Balances was before → Balances now held
made_one was now before held e h b =
    omega (arith, ap (λ c. c.made) e, ap (λ c. c.committed) e, ap (λ c. c.cancelled) e, ap (λ c. c.lost) e)

pub committed_one : (was now : Counts) (before held : ℕ)
    → now ≡ record was { committed = add was.committed 1 } → before ≡ held + 1 → Balances was before → Balances now held
committed_one was now before held e h b =
    omega (arith, ap (λ c. c.made) e, ap (λ c. c.committed) e, ap (λ c. c.cancelled) e, ap (λ c. c.lost) e)

pub same_counts : (a b : Counts) → a.made ≡ b.made → a.committed ≡ b.committed → a.cancelled ≡ b.cancelled → a.lost ≡ b.lost → a ≡ b
same_counts a b made committed cancelled lost k = record { made = made k; committed = committed k; cancelled = cancelled k; lost = lost k }

-- ---- many together

pub passed_many : (was now : Counts) (n held : ℕ)
    → now ≡ record was { made = add was.made n; committed = add was.committed n } → Balances was held → Balances now held
passed_many was now n held e b =
    omega (arith, ap (λ c. c.made) e, ap (λ c. c.committed) e, ap (λ c. c.cancelled) e, ap (λ c. c.lost) e)

pub made_many : (was now : Counts) (n before held : ℕ)
    → now ≡ record was { made = add was.made n } → held ≡ before + n → Balances was before → Balances now held
made_many was now n before held e h b =
    omega (arith, ap (λ c. c.made) e, ap (λ c. c.committed) e, ap (λ c. c.cancelled) e, ap (λ c. c.lost) e)

pub committed_many : (was now : Counts) (n before held : ℕ)
    → now ≡ record was { committed = add was.committed n } → before ≡ held + n → Balances was before → Balances now held
committed_many was now n before held e h b =
    omega (arith, ap (λ c. c.made) e, ap (λ c. c.committed) e, ap (λ c. c.cancelled) e, ap (λ c. c.lost) e)

pub cancelled_many : (was now : Counts) (n before held : ℕ)
    → now ≡ record was { cancelled = add was.cancelled n } → before ≡ held + n → Balances was before → Balances now held
cancelled_many was now n before held e h b =
    omega (arith, ap (λ c. c.made) e, ap (λ c. c.committed) e, ap (λ c. c.cancelled) e, ap (λ c. c.lost) e)

-- some were made, committed and cancelled
pub settled_counts : (was a b now : Counts) (made committed cancelled : ℕ)
    → a ≡ record was { made = add was.made made } → b ≡ record a { committed = add a.committed committed }
    → now ≡ record b { cancelled = add b.cancelled cancelled }
    → now ≡ record was { made = add was.made made; committed = add was.committed committed; cancelled = add was.cancelled cancelled }
settled_counts was a b now made committed cancelled first second third =
    third ∙ ap (λ (c : Counts). record c { cancelled = add c.cancelled cancelled }) second
    ∙ ap (λ (c : Counts). record c { committed = add c.committed committed; cancelled = add c.cancelled cancelled }) first

pub settled_many : (was now : Counts) (made committed cancelled before held : ℕ)
    → now ≡ record was { made = add was.made made; committed = add was.committed committed; cancelled = add was.cancelled cancelled }
    → held + committed + cancelled ≡ before + made → Balances was before → Balances now held
settled_many was now made committed cancelled before held e h b =
    omega (arith, ap (λ c. c.made) e, ap (λ c. c.committed) e, ap (λ c. c.cancelled) e, ap (λ c. c.lost) e)
