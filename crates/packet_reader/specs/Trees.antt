-- What a reader may still meet, byte by byte (Arm IHI 0064, "Descriptions of Trace Packets").
use Rattle.std.specs.Prelude.{◌≡◌, ℕ, zero, suc, ◌+◌, ◌-◌, ◌*◌, ◌^◌, ◌==◌, ◌&&◌, not, Bool, [], ◌∷◌, Option, Some, None, Ok, Err, nat_lt, if◌then◌else◌}
use Rattle.packet_grammar.specs.declared.packet.Packet.{Packet}
use Rattle.packet_grammar.specs.declared.packet.Packet.TheVariants.{Async, Time}
use Rattle.packet_grammar.specs.declared.fault.PacketFault.TheVariants.{BrokenSync, NumberTooLong}
use Rattle.packet_grammar.specs.Parts.{Outcome, Part}
use Rattle.packet_grammar.specs.Fields.{continues, is_last}

-- the outcome is known, or a byte comes, which decides what may follow it
pub data Tree : Type 0 where
  known : Outcome Packet → Tree
  byte : (ℕ → Tree) → Tree

-- the bytes lead through the tree to an outcome, and end there
abbrev pub Leads : Tree → Part Packet
Leads (known given) outcome [] = outcome ≡ given
Leads (known given) outcome (b ∷ bytes) = ⊥
Leads (byte next) outcome [] = ⊥
Leads (byte next) outcome (b ∷ bytes) = Leads (next b) outcome bytes

-- what may follow a byte
abbrev pub after : Tree → ℕ → Tree
after (known given) b = known given
after (byte next) b = next b

-- The groups of a number. So many are left after the next one, and so many were read, of this value.
unfoldable pub number_tree : ℕ → ℕ → ℕ → (ℕ → Tree) → Tree
number_tree zero groups value more = byte (λ b. if nat_lt b (2 ^ 4) then more (value + b * 128 ^ groups) else known (Err NumberTooLong))
number_tree (suc left) groups value more =
    byte (λ b. if is_last b then more (value + b * 128 ^ groups)
    else number_tree left (groups + 1) (value + (b - continues) * 128 ^ groups) more)

-- The groups of a timestamp, in the same way.
unfoldable pub stamp_tree : ℕ → ℕ → ℕ → Tree
stamp_tree zero groups low = byte (λ b. known (Ok (Time (7 * groups + 8) (low + b * 128 ^ groups))))
stamp_tree (suc left) groups low =
    byte (λ b. if is_last b then known (Ok (Time (7 * groups + 7) (low + b * 128 ^ groups)))
    else stamp_tree left (groups + 1) (low + (b - continues) * 128 ^ groups))

-- The bytes of a field. So many are left, and so many were read, of this value.
unfoldable pub bytes_tree : ℕ → ℕ → ℕ → (ℕ → Tree) → Tree
bytes_tree zero count value more = more value
bytes_tree (suc left) count value more = byte (λ b. bytes_tree left (count + 1) (value + b * 256 ^ count) more)

-- a field where it is there; with no byte it never is
abbrev pub field_tree : Bool → ℕ → (Option ℕ → Tree) → Tree
field_tree there size more = if there && not (size == 0) then bytes_tree size 0 0 (λ value. more (Some value)) else more None

-- so many 00 more, and 80
unfoldable pub sync_tree : ℕ → Tree
sync_tree zero = byte (λ b. known (if b == 0x80 then Ok Async else Err BrokenSync))
sync_tree (suc left) = byte (λ b. if b == 0x00 then sync_tree left else known (Err BrokenSync))
