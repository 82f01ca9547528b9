-- The address history: the three addresses that were traced last, the newest first. The address that a form gives by it,
-- and the form that is chosen for an address (Arm IHI 0064, address packets).
use Rattle.std.specs.Prelude.{◌≡◌, ◌≢◌, ◌<◌, ◌≤◌, ◌==◌, ℕ, ◌+◌, ◌*◌, ◌/◌, ◌%◌, ◌^◌, List, [], ◌∷◌, length, take, slice_index, find, All, Option, ⊤}
use Rattle.etm_types.specs.declared.address.AddrForm.{AddrForm}
use Rattle.etm_types.specs.declared.address.AddrForm.TheVariants.{Match, Short1, Short2, Long32, Long64}

-- three addresses of 64 bits
pub record IsHistory (entries : List ℕ) : Type 0 where
  pub three : length entries ≡ 3
  pub addresses : All (λ a. a < 2 ^ 64) entries

-- three times address 0, at the start of a trace and after a trace info packet
abbrev pub no_address : List ℕ
no_address = 0 ∷ 0 ∷ 0 ∷ []

-- an address is put first, and the oldest falls out
abbrev pub put_first : ℕ → List ℕ → List ℕ
put_first address history = address ∷ take 2 history

-- bits n - 1 to 2 of a value, the bits from n on of a base, and bits 1 and 0 as 0
abbrev pub with_low_bits : ℕ → ℕ → ℕ → ℕ
with_low_bits n value base = base / 2 ^ n * 2 ^ n + value % 2 ^ n / 4 * 4

-- the index of an exact match is that of an entry
abbrev pub HasEntry : AddrForm → Type 0
HasEntry (Match index) = index ≤ 2
HasEntry _ = ⊤

-- the address that a form gives
abbrev pub address_told : List ℕ → AddrForm → ℕ
address_told history (Match index) = slice_index history index
address_told history (Short1 value) = with_low_bits 9 value (slice_index history 0)
address_told history (Short2 value) = with_low_bits 17 value (slice_index history 0)
address_told history (Long32 value) = with_low_bits 32 value (slice_index history 0)
address_told history (Long64 value) = value / 4 * 4

-- the forms that could give an address, each with its bits in place, in the order in which they are tried
abbrev pub forms_of : ℕ → List AddrForm
forms_of a = Match 0 ∷ Match 1 ∷ Match 2 ∷ Short1 (a % 2 ^ 9) ∷ Short2 (a % 2 ^ 17) ∷ Long32 (a % 2 ^ 32) ∷ Long64 a ∷ []

-- the first of them that gives the address
abbrev pub first_form : List ℕ → ℕ → Option AddrForm
first_form history a = find (λ form. address_told history form == a) (forms_of a)

-- the upper bits that the form leaves out are those of the newest address, and a shorter form would leave out too many
abbrev pub IsNeeded : List ℕ → ℕ → AddrForm → Type 0
IsNeeded history a (Match index) = slice_index history index ≡ a
IsNeeded history a (Short1 value) = (a ≢ slice_index history 0) × (a / 2 ^ 9 ≡ slice_index history 0 / 2 ^ 9)
IsNeeded history a (Short2 value) = (a / 2 ^ 9 ≢ slice_index history 0 / 2 ^ 9) × (a / 2 ^ 17 ≡ slice_index history 0 / 2 ^ 17)
IsNeeded history a (Long32 value) = (a / 2 ^ 17 ≢ slice_index history 0 / 2 ^ 17) × (a / 2 ^ 32 ≡ slice_index history 0 / 2 ^ 32)
IsNeeded history a (Long64 value) = a / 2 ^ 32 ≢ slice_index history 0 / 2 ^ 32
