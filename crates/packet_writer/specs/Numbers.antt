-- Numbers as they are written, in groups of seven bits or in bytes, the low ones first (Arm IHI 0064, "Descriptions of Trace
-- Packets": fields with a continuation bit).
use Rattle.std.specs.Prelude.{ℕ, zero, suc, ◌+◌, ◌-◌, ◌/◌, ◌^◌, if◌then◌else◌, List, [], ◌∷◌}
use Rattle.packet_grammar.specs.Fields.{continues, is_last, lowest}

-- a number in as few bytes as it needs, the last of which may come after so many
abbrev pub number_within : ℕ → ℕ → List ℕ
number_within zero n = n ∷ []
number_within (suc more) n = if is_last n then n ∷ [] else (continues + lowest 7 n) ∷ number_within more (n / 2 ^ 7)

-- a number below 2^32, in one to five bytes
abbrev pub number : ℕ → List ℕ
number n = number_within 4 n

-- so many groups of seven bits, and what is above them
abbrev pub groups : ℕ → ℕ → List ℕ
groups zero n = n ∷ []
groups (suc more) n = (continues + lowest 7 n) ∷ groups more (n / 2 ^ 7)

-- the lowest bits of a timestamp: seven bits a byte, and 64 bits in nine bytes
abbrev pub time_stamp : ℕ → ℕ → List ℕ
time_stamp bits low = groups (bits / 7 - 1) low

-- so many bytes of a number
abbrev pub low_bytes : ℕ → ℕ → List ℕ
low_bytes zero n = []
low_bytes (suc size) n = lowest 8 n ∷ low_bytes size (n / 2 ^ 8)
