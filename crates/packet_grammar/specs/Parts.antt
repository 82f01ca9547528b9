-- A notation for what the figures of the standard show: bytes one after the other, of which some are there only where a bit
-- says so (Arm IHI 0064, "Descriptions of Trace Packets"). A part says which lists of bytes spell which value, and which show
-- which fault.
use Rattle.std.specs.Prelude.{◌≡◌, ◌⊎◌, ℕ, Bool, true, false, List, [], ◌∷◌, ◌++◌, length, Result, Ok, Err}
use Rattle.packet_grammar.specs.declared.fault.PacketFault.{PacketFault}

-- a value, or the fault that the last of the bytes shows
abbrev pub Outcome : Type 0 → Type 0
Outcome A = Result A PacketFault

abbrev pub Part : Type 0 → Type 1
Part A = Outcome A → List ℕ → Type 0

-- no byte: the outcome is known
abbrev pub Known : {A : Type 0} → Outcome A → Part A
Known known outcome [] = outcome ≡ known
Known known outcome (b ∷ bytes) = ⊥

-- a byte, and what follows such a byte
abbrev pub Byte : {A : Type 0} → (ℕ → Part A) → Part A
Byte next outcome [] = ⊥
Byte next outcome (b ∷ bytes) = next b outcome bytes

-- so many bytes, as they stand
abbrev pub Bytes : ℕ → Part (List ℕ)
Bytes n (Ok given) bytes = (given ≡ bytes) × (length bytes ≡ n)
Bytes n (Err fault) bytes = ⊥

-- the first of two parts where a test holds, and else the second
abbrev pub Where : {A : Type 0} → Bool → Part A → Part A → Part A
Where true first second outcome bytes = first outcome bytes
Where false first second outcome bytes = second outcome bytes

-- a part, and after it what follows such a value; or a part that shows a fault
abbrev pub Then : {A B : Type 0} → Part A → (A → Part B) → Part B
Then {A} first next outcome bytes =
    ((value : A) × (front : List ℕ) × (back : List ℕ) × (bytes ≡ front ++ back) × first (Ok value) front × next value outcome back)
    ⊎ ((fault : PacketFault) × (outcome ≡ Err fault) × first (Err fault) bytes)

-- the same bytes, for a value made of the part's value
abbrev pub As : {A B : Type 0} → Part A → (A → B) → Part B
As part made = Then part (λ value. Known (Ok (made value)))
