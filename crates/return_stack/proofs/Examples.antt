-- Worked examples of stacks, and near misses.
use Rattle.std.proofs.Common.{◌≡◌, ◌<◌, ◌^◌, ℕ, List, [], ◌∷◌, refl, arith}
use Rattle.std.proofs.lemmas.List.Elements.{All-cons, All-nil}
use Rattle.return_stack.specs.Stack.{IsStack, stack, pushed}

abbrev three : List ℕ
three = 0x3000 ∷ 0x2000 ∷ 0x1000 ∷ []

pub with_room : pushed 4 0x4000 three ≡ 0x4000 ∷ 0x3000 ∷ 0x2000 ∷ 0x1000 ∷ []
with_room = refl

-- of a full stack the oldest falls out
pub full : pushed 3 0x4000 three ≡ 0x4000 ∷ 0x3000 ∷ 0x2000 ∷ []
full = refl

pub depth_1 : pushed 1 0x4000 (0x3000 ∷ []) ≡ 0x4000 ∷ []
depth_1 = refl

pub depth_0 : pushed 0 0x4000 [] ≡ []
depth_0 = refl

-- the same address twice is kept twice
pub twice : pushed 3 0x3000 (0x3000 ∷ []) ≡ 0x3000 ∷ 0x3000 ∷ []
twice = refl

pub deepest : IsStack (stack [] 15)
deepest = record { few = omega arith; bounded = omega arith; addresses = λ k a below. absurd (omega (arith, below)) }

abbrev is_address : ℕ → Type 0
is_address a = a < 2 ^ 64

-- as many addresses as there may be, and the greatest one
pub fullest : IsStack (stack (0xffffffffffffffff ∷ 0 ∷ []) 2)
fullest = record {
  few = omega arith;
  bounded = omega arith;
  addresses = All-cons is_address 0xffffffffffffffff (0 ∷ []) (omega arith) (All-cons is_address 0 [] (omega arith) (All-nil is_address));
}

pub too_deep : IsStack (stack [] 16) → ⊥
too_deep is = omega (arith, is.bounded)

pub too_many : IsStack (stack three 2) → ⊥
too_many is = omega (arith, is.few)

pub too_large : IsStack (stack (0x10000000000000000 ∷ []) 1) → ⊥
too_large is = let below : 0x10000000000000000 < 2 ^ 64 = is.addresses 0 0 (omega arith) in omega (arith, below)
