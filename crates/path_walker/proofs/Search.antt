-- The first number at which a property does not hold.
use Rattle.std.proofs.Common.{◌≡◌, ◌⊎◌, ℕ, zero, suc, ◌+◌, ◌<◌, Bool, true, false, refl, inl, inr, arith, below_more}
use Rattle.std.specs.Prelude.{nat_lt}
use Rattle.std.proofs.lemmas.Bool.{ltb-true, ltb-false}

pub cases : (b : Bool) → (b ≡ true) ⊎ (b ≡ false)
cases true = inl refl
cases false = inr refl

pub order : (a b : ℕ) → (a < b) ⊎ ((b < a) ⊎ (a ≡ b))
order a b =
    elim (cases (nat_lt a b)) [
      | inl t ↦ inl (ltb-true a b t)
      | inr f ↦ elim (cases (nat_lt b a)) [ inl t ↦ inr (inl (ltb-true b a t)) | inr g ↦ inr (inr (omega (arith, ltb-false a b f, ltb-false b a g))) ]
    ]

-- it holds of all numbers below n
abbrev pub Below : (ℕ → Type 0) → ℕ → Type 0
Below P n = (k : ℕ) → k < n → P k

-- it holds of all numbers below n, and not of n
pub record First (P : ℕ → Type 0) : Type 0 where
  pub n : ℕ
  pub below : Below P n
  pub not : P n → ⊥

pub first : (P : ℕ → Type 0) (bound : ℕ) → ((k : ℕ) → P k ⊎ (P k → ⊥)) → ((k : ℕ) → Below P k → k < bound) → (m n : ℕ) → n + m ≡ bound → Below P n → First P
first P bound decide short zero n sum below = absurd (omega (arith, short n below))
first P bound decide short (suc m) n sum below =
    elim (decide n) [
      | inl holds ↦ first P bound decide short m (n + 1) (omega arith) (below_more _ _ below holds)
      | inr not ↦ record { n = n; below = below; not = not }
    ]

-- there is one such number
pub same_first : (P : ℕ → Type 0) (m n : ℕ) → Below P m → (P m → ⊥) → Below P n → (P n → ⊥) → m ≡ n
same_first P m n p p_not q q_not =
    elim (order m n) [
      | inl fewer ↦ absurd (p_not (q m fewer))
      | inr (inl more) ↦ absurd (q_not (p n more))
      | inr (inr same) ↦ same
    ]
