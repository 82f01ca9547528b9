-- Numbers in groups of seven bits, the low ones first (Arm IHI 0064, "Descriptions of Trace Packets": fields with a
-- continuation bit). Groups of zeros at the end leave the value as it is.
use Rattle.std.specs.Prelude.{ℕ, zero, suc, ◌+◌, ◌-◌, ◌*◌, ◌^◌, List, [], ◌∷◌, Ok, Err, nat_lt}
use Rattle.packet_grammar.specs.declared.fault.PacketFault.TheVariants.{NumberTooLong}
use Rattle.packet_grammar.specs.Parts.{Part, Known, Byte, Where, As}
use Rattle.packet_grammar.specs.Fields.{continues, is_last}

-- a number whose last byte may come after so many: that one has 4 bits
abbrev pub NumberWithin : ℕ → Part ℕ
NumberWithin zero = Byte (λ b. Where (nat_lt b (2 ^ 4)) (Known (Ok b)) (Known (Err NumberTooLong)))
NumberWithin (suc more) = Byte (λ b. Where (is_last b) (Known (Ok b)) (As (NumberWithin more) (λ high. b - continues + 2 ^ 7 * high)))

-- a number of one to five bytes, below 2^32
abbrev pub Number : Part ℕ
Number = NumberWithin 4

-- the lowest bits of a timestamp: how many, and their value
pub record Stamp : Type 0 where
  pub bits : ℕ
  pub low : ℕ

-- a timestamp whose last byte may come after so many: that one has 8 bits
abbrev pub StampWithin : ℕ → Part Stamp
StampWithin zero = Byte (λ b. Known (Ok (record { bits = 8; low = b })))
StampWithin (suc more) =
    Byte (λ b. Where (is_last b) (Known (Ok (record { bits = 7; low = b })))
    (As (StampWithin more) (λ high. record { bits = 7 + high.bits; low = b - continues + 2 ^ 7 * high.low })))

-- the lowest bits of a timestamp, in one to nine bytes
abbrev pub TimeStamp : Part Stamp
TimeStamp = StampWithin 8

-- the number of bytes, the low one first
abbrev pub little : List ℕ → ℕ
little [] = 0
little (b ∷ bytes) = b + 2 ^ 8 * little bytes
