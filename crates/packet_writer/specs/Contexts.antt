-- Contexts and addresses as they are written (Arm IHI 0064, "Context packet", "Address with Context packet", "Short Address packet",
-- "Long Address packets"). Each bit that a reader passes over is 0.
use Rattle.std.specs.Prelude.{ℕ, ◌+◌, ◌/◌, ◌^◌, Bool, if◌then◌else◌, List, [], ◌∷◌, ◌++◌, Option, Some, None}
use Rattle.std.specs.Option.{is_some}
use Rattle.etm_types.specs.Settings.{Sizes}
use Rattle.etm_types.specs.declared.context.CtxBits.{CtxBits}
use Rattle.packet_grammar.specs.Fields.{continues, field, from_bit}
use Rattle.packet_writer.specs.Numbers.{low_bytes}

-- the bit at a place, 1 where this is so
abbrev pub bit_where : ℕ → Bool → ℕ
bit_where place so = if so then from_bit place 1 else 0

-- a number of so many bytes, where it is there
abbrev pub sized : ℕ → Option ℕ → List ℕ
sized size None = []
sized size (Some n) = low_bytes size n

-- bits 1 and 0 (EL), bit 4 (SF), bit 5 (NS), bit 6 (V) and bit 7 (C) of an info byte
abbrev pub info_byte : CtxBits → ℕ
info_byte ctx = ctx.el + from_bit 4 1 + bit_where 5 ctx.ns + bit_where 6 (is_some ctx.vmid) + bit_where 7 (is_some ctx.cid)

abbrev pub context : Sizes → CtxBits → List ℕ
context s ctx = info_byte ctx ∷ sized s.vmid_bytes ctx.vmid ++ sized s.cid_bytes ctx.cid

-- bits 8 to 2
abbrev pub short_1 : ℕ → List ℕ
short_1 address = field 8 2 address ∷ []

-- and behind the continuation bit bits 16 to 9
abbrev pub short_2 : ℕ → List ℕ
short_2 address = (continues + field 8 2 address) ∷ field 16 9 address ∷ []

-- bits 8 to 2, bits 15 to 9, and so many whole bytes from bit 16 on
abbrev pub long : ℕ → ℕ → List ℕ
long size address = field 8 2 address ∷ field 15 9 address ∷ low_bytes size (address / 2 ^ 16)

abbrev pub long_32 : ℕ → List ℕ
long_32 address = long 2 address

abbrev pub long_64 : ℕ → List ℕ
long_64 address = long 6 address
