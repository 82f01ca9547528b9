-- What a contract sees of a `ReturnStack` (Arm IHI 0064, "Return stack").
use Rattle.std.specs.Prelude.{ℕ, ◌≤◌, ◌<◌, ◌^◌, List, ◌∷◌, length, take, All, refl}
use Rattle.std.specs.Coded.{Coded, code_by, coded×, coded_list, coded_ℕ}

-- the most return addresses that a stack keeps
abbrev pub most_addresses : ℕ
most_addresses = 15

-- the return addresses, the newest first, and how many there may be
pub record Stack : Type 0 where
  pub addresses : List ℕ
  pub depth : ℕ

abbrev pub stack : List ℕ → ℕ → Stack
stack addresses n = record { addresses = addresses; depth = n }

abbrev pub stack_code : Coded Stack
stack_code = code_by (List ℕ × ℕ) (coded× (coded_list coded_ℕ) coded_ℕ) (λ s. (s.addresses, s.depth)) (λ p. stack p.0 p.1) (λ _. refl)

-- addresses of 64 bits, no more than the depth, which is in its range
pub record IsStack (s : Stack) : Type 0 where
  pub few : length s.addresses ≤ s.depth
  pub bounded : s.depth ≤ most_addresses
  pub addresses : All (λ a. a < 2 ^ 64) s.addresses

-- the list with an address put first; past the depth the oldest falls out
abbrev pub pushed : ℕ → ℕ → List ℕ → List ℕ
pushed depth addr list = take depth (addr ∷ list)
