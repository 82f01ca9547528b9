-- What stands at the front of some bytes.
use Rattle.std.specs.Prelude.{◌≡◌, ◌⊎◌, ℕ, List, ◌++◌, Ok}
use Rattle.packet_grammar.specs.Parts.{Part}

-- a value of a part of a packet stands at the front of some bytes, and the rest follows it
pub record IsFront {A : Type 0} (part : Part A) (bytes : List ℕ) (value : A) (rest : List ℕ) : Type 0 where
  pub text : List ℕ
  pub parts : bytes ≡ text ++ rest
  pub spells : part (Ok value) text

-- the sizes in bytes that a VMID or a context ID may have
abbrev pub IsFieldSize : ℕ → Type 0
IsFieldSize size = (size ≡ 0) ⊎ (size ≡ 1) ⊎ (size ≡ 2) ⊎ (size ≡ 4)
