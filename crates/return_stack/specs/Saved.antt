-- What a `SavedStack` keeps of a return stack (Arm IHI 0064, "Return stack").
use Rattle.std.specs.Prelude.{ℕ, ◌≡◌, ◌≤◌, ◌<◌, ◌-◌, ◌^◌, List, ◌++◌, length, replicate, All}
use Rattle.return_stack.specs.Stack.{most_addresses}

-- the places of a list: its addresses, then 0 in each place that is left
abbrev pub places : List ℕ → List ℕ
places addresses = addresses ++ replicate (most_addresses - length addresses) 0

-- an array and a count keep this list of addresses of 64 bits, which is no longer than a stack
pub record Keeps (array : List ℕ) (count : ℕ) (addresses : List ℕ) : Type 0 where
  pub few : length addresses ≤ most_addresses
  pub bounded : All (λ a. a < 2 ^ 64) addresses
  pub counted : length addresses ≡ count
  pub placed : places addresses ≡ array
