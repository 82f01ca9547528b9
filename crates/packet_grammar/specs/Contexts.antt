-- Contexts and addresses (Arm IHI 0064, "Context packet", "Address with Context packet", "Short Address packet", "Long Address
-- packets").
use Rattle.std.specs.Prelude.{ℕ, ◌+◌, ◌-◌, ◌==◌, ◌&&◌, not, Bool, List, ◌∷◌, Option, Some, None, Ok, Err}
use Rattle.etm_types.specs.Settings.{Sizes}
use Rattle.etm_types.specs.declared.address.AddrForm.{AddrForm}
use Rattle.etm_types.specs.declared.address.AddrForm.TheVariants.{Short1, Short2, Long32, Long64}
use Rattle.etm_types.specs.declared.context.CtxBits.{CtxBits}
use Rattle.packet_grammar.specs.declared.fault.PacketFault.TheVariants.{Aarch32Context}
use Rattle.packet_grammar.specs.Parts.{Part, Known, Byte, Bytes, Where, Then, As}
use Rattle.packet_grammar.specs.Fields.{bit, lowest, from_bit, continues, is_last}
use Rattle.packet_grammar.specs.Numbers.{little}

-- a field of so many bytes, the low one first, where it is there; with no byte it never is
abbrev pub Field : Bool → ℕ → Part (Option ℕ)
Field there size = Where (there && not (size == 0)) (As (Bytes size) (λ given. Some (little given))) (Known (Ok None))

-- An info byte with its fields: bits 1 and 0 (EL) are the exception level, bit 4 (SF) is 1 in AArch64 state, bit 5 (NS) is the
-- security state, bit 6 (V) says that the VMID follows, and bit 7 (C) that the context ID follows. Bits 2 and 3 are passed over.
abbrev pub Context : Sizes → Part CtxBits
Context s =
    Byte (λ info. Where (bit 4 info)
    (Then (Field (bit 6 info) s.vmid_bytes) (λ vmid.
    As (Field (bit 7 info) s.cid_bytes) (λ cid. record { el = lowest 2 info; ns = bit 5 info; vmid = vmid; cid = cid })))
    (Known (Err (Aarch32Context info))))

-- The bits of four or eight address bytes: bits 8 to 2, bits 15 to 9, and whole bytes from bit 16 on. Bit 7 of the first
-- two is passed over, and bits 1 and 0 are 0.
abbrev pub address_of : List ℕ → ℕ
address_of (a ∷ b ∷ high) = from_bit 2 (lowest 7 a) + from_bit 9 (lowest 7 b) + from_bit 16 (little high)
address_of _ = 0

-- bits 8 to 2, and behind the continuation bit bits 16 to 9
abbrev pub ShortAddress : Part AddrForm
ShortAddress =
    Byte (λ a. Where (is_last a) (Known (Ok (Short1 (from_bit 2 a))))
    (Byte (λ b. Known (Ok (Short2 (from_bit 2 (a - continues) + from_bit 9 b))))))

abbrev pub LongAddress32 : Part AddrForm
LongAddress32 = As (Bytes 4) (λ given. Long32 (address_of given))

abbrev pub LongAddress64 : Part AddrForm
LongAddress64 = As (Bytes 8) (λ given. Long64 (address_of given))
