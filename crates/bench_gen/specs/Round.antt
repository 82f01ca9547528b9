-- A round of a stream: a core goes once round a loop, and decides its branch by the bits of a state, at once or wrongly first.
use Rattle.std.specs.Prelude.{ℕ, ◌+◌, ◌*◌, ◌/◌, ◌%◌, ◌^◌, ◌==◌, Bool, true, false, not, codes, List, [], ◌∷◌, ◌++◌, if◌then◌else◌}

-- the state of the next round
unfoldable pub next : ℕ → ℕ
next x = (x * 6364136223846793005 + 1442695040888963407) % 2 ^ 64

-- whether bit k of a state is set
abbrev pub bit : ℕ → ℕ → Bool
bit k x = x / 2 ^ k % 2 == 1

-- the line that decides the branch
abbrev pub decision : Bool → List ℕ
decision taken = if taken then codes "taken" else codes "not"

-- the line of the instruction behind the branch, on the side that was decided
abbrev pub side : Bool → List ℕ
side taken = if taken then codes "step" else codes "taken"

-- the right decision; or, where it is mispredicted, the wrong one and what takes it back
abbrev pub decided : Bool → Bool → List (List ℕ)
decided taken false = decision taken ∷ []
decided taken true = decision (not taken) ∷ side (not taken) ∷ codes "cancel 1" ∷ codes "flip" ∷ []

-- an exception and the return from it, behind each 16th round
abbrev pub exception : ℕ → List (List ℕ)
exception j =
    if j % 16 == 15 then codes "exc 14 20000 el1 ns 0 0" ∷ codes "eret 10000 el0 ns 0 0" ∷ codes "retire 2" ∷ [] else []

-- synchronisation behind each 64th round
abbrev pub sync : ℕ → List (List ℕ)
sync j = if j % 64 == 63 then codes "sync" ∷ [] else []

-- the lines of round j, by its state: one bit says whether the branch is taken, and one whether that is mispredicted
unfoldable pub round : ℕ → ℕ → List (List ℕ)
round j x =
    let taken = bit 63 x in
    codes "step" ∷ decided taken (bit 62 x) ++ (side taken ∷ codes "taken" ∷ codes "retire 4" ∷ []) ++ exception j ++ sync j
