-- Lines of instructions that differ in no digit but the last four.
use Rattle.std.specs.Prelude.{◌≡◌, ℕ, ◌+◌, ◌-◌, ◌*◌, ◌/◌, ◌%◌, ◌<◌, ◌≤◌, List}
use Rattle.path_text.specs.Lines.{AtAddress, address_line}

-- two addresses have at least four hex digits, and the same ones but for the last four
abbrev pub DifferInLastFour : ℕ → ℕ → Type 0
DifferInLastFour a b = (4096 ≤ a) × (4096 ≤ b) × (a / 65536 ≡ b / 65536)

-- the lines of so many instructions from an address on differ from that of another in no digit but the last four
abbrev pub AreNear : ℕ → ℕ → ℕ → Type 0
AreNear address start count = DifferInLastFour address start × (start % 65536 + 4 * (count - 1) < 65536)

-- the bytes are such a line
abbrev pub IsNearLine : AtAddress → List ℕ → Type 0
IsNearLine line bytes = (near : ℕ) × DifferInLastFour line.address near × (bytes ≡ address_line line.id near)
