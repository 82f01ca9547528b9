-- Each part of the grammar is a code.
use Rattle.std.proofs.Common.{ℕ, zero, suc, ◌+◌, ◌-◌, ◌*◌, ◌≤◌, ◌^◌, ◌%◌, ◌==◌, ◌&&◌}
use Rattle.std.proofs.Common.{◌||◌, not, Bool, Some, None, Ok, Err, inl, inr, arith, IsTrue, nat_lt}
use Rattle.std.specs.Prelude.{if◌then◌else◌}
use Rattle.std.proofs.lemmas.Bool.{eqb-true, or_cases}
use Rattle.etm_types.specs.Settings.{Sizes, AreSettings, is_vmid_size, is_cid_size}
use Rattle.etm_types.specs.declared.address.AddrForm.TheVariants.{Short1, Short2, Long32, Long64}
use Rattle.packet_grammar.specs.declared.packet.Packet.{Packet}
use Rattle.packet_grammar.specs.declared.packet.Packet.TheVariants.{Info}
use Rattle.packet_grammar.specs.declared.fault.PacketFault.TheVariants.{NumberTooLong, InfoControl, InfoMode, Aarch32Context}
use Rattle.packet_grammar.specs.Parts.{Outcome, Part, Known, Byte, Bytes, Where, Then, As}
use Rattle.packet_grammar.specs.Numbers.{NumberWithin, Number, StampWithin, TimeStamp, little}
use Rattle.packet_grammar.specs.Fields.{bit}
use Rattle.packet_grammar.specs.Contexts.{Field, Context, ShortAddress, LongAddress32, LongAddress64, address_of}
use Rattle.packet_grammar.specs.Spelling.{Section, Mode, TraceInfo}
use Rattle.packet_grammar.proofs.Table.{Exception, exception_by}
use Rattle.packet_grammar.proofs.Codes.{Code, loosen, known_code, byte_code, where_code, then_code, as_code, bytes_code}

-- the same, where it matters not how short it is
known_within : {A : Type 0} (n : ℕ) (known : Outcome A) → Code n (Known known)
known_within n known = loosen 0 n (omega arith) (known_code known)

number_within : (more : ℕ) → Code (suc more) (NumberWithin more)
number_within zero = byte_code 0 (λ b. Where (nat_lt b 16) (Known (Ok b)) (Known (Err NumberTooLong)))
    (λ b. where_code 0 (nat_lt b 16) (known_code (Ok b)) (known_code (Err NumberTooLong)))
number_within (suc more) =
    byte_code (suc more) (λ b. Where (nat_lt b 128) (Known (Ok b)) (As (NumberWithin more) (λ high. b - 128 + 128 * high)))
    (λ b. where_code (suc more) (nat_lt b 128) (known_within (suc more) (Ok b))
    (as_code (suc more) (NumberWithin more) (λ high. b - 128 + 128 * high) (number_within more)))

pub number_code : Code 5 Number
number_code = number_within 4

stamp_within : (more : ℕ) → Code (suc more) (StampWithin more)
stamp_within zero = byte_code 0 (λ b. Known (Ok (record { bits = 8; low = b }))) (λ b. known_code (Ok (record { bits = 8; low = b })))
stamp_within (suc more) =
    byte_code (suc more)
    (λ b. Where (nat_lt b 128) (Known (Ok (record { bits = 7; low = b })))
    (As (StampWithin more) (λ high. record { bits = 7 + high.bits; low = b - 128 + 128 * high.low })))
    (λ b. where_code (suc more) (nat_lt b 128) (known_within (suc more) (Ok (record { bits = 7; low = b })))
    (as_code (suc more) (StampWithin more) (λ high. record { bits = 7 + high.bits; low = b - 128 + 128 * high.low }) (stamp_within more)))

pub stamp_code : Code 9 TimeStamp
stamp_code = stamp_within 8

field_code : (there : Bool) (size : ℕ) → Code size (Field there size)
field_code there size =
    where_code size (there && not (size == 0)) (as_code size (Bytes size) (λ given. Some (little given)) (bytes_code size)) (known_within size (Ok None))

context_within : (s : Sizes) → Code (suc (s.vmid_bytes + s.cid_bytes)) (Context s)
context_within s =
    byte_code (s.vmid_bytes + s.cid_bytes)
    (λ info. Where (bit 4 info)
    (Then (Field (bit 6 info) s.vmid_bytes)
    (λ vmid. As (Field (bit 7 info) s.cid_bytes) (λ cid. record { el = info % 4; ns = bit 5 info; vmid = vmid; cid = cid })))
    (Known (Err (Aarch32Context info))))
    (λ info. where_code (s.vmid_bytes + s.cid_bytes) (bit 4 info)
    (then_code s.vmid_bytes s.cid_bytes (Field (bit 6 info) s.vmid_bytes)
    (λ vmid. As (Field (bit 7 info) s.cid_bytes) (λ cid. record { el = info % 4; ns = bit 5 info; vmid = vmid; cid = cid }))
    (field_code (bit 6 info) s.vmid_bytes)
    (λ vmid. as_code s.cid_bytes (Field (bit 7 info) s.cid_bytes) (λ cid. record { el = info % 4; ns = bit 5 info; vmid = vmid; cid = cid })
    (field_code (bit 7 info) s.cid_bytes)))
    (known_within (s.vmid_bytes + s.cid_bytes) (Err (Aarch32Context info))))

small_vmid : (n : ℕ) → IsTrue (is_vmid_size n) → n ≤ 4
small_vmid n h = elim (or_cases ((n == 0) || (n == 1) || (n == 2)) (n == 4) h) [
  | inl few ↦ elim (or_cases ((n == 0) || (n == 1)) (n == 2) few) [
    | inl fewer ↦ elim (or_cases (n == 0) (n == 1) fewer) [
      | inl none ↦ omega (arith, eqb-true n 0 none)
      | inr one ↦ omega (arith, eqb-true n 1 one)
    ]
    | inr two ↦ omega (arith, eqb-true n 2 two)
  ]
  | inr four ↦ omega (arith, eqb-true n 4 four)
]

small_cid : (n : ℕ) → IsTrue (is_cid_size n) → n ≤ 4
small_cid n h = elim (or_cases (n == 0) (n == 4) h) [
  | inl none ↦ omega (arith, eqb-true n 0 none)
  | inr four ↦ omega (arith, eqb-true n 4 four)
]

pub context_code : (s : Sizes) → AreSettings s → Code 9 (Context s)
context_code s are = loosen (suc (s.vmid_bytes + s.cid_bytes)) 9 (omega (arith, small_vmid s.vmid_bytes are.vmid, small_cid s.cid_bytes are.cid))
    (context_within s)

pub short_code : Code 2 ShortAddress
short_code =
    byte_code 1 (λ a. Where (nat_lt a 128) (Known (Ok (Short1 (a * 4)))) (Byte (λ b. Known (Ok (Short2 ((a - 128) * 4 + b * 2 ^ 9))))))
    (λ a. where_code 1 (nat_lt a 128) (known_within 1 (Ok (Short1 (a * 4))))
    (byte_code 0 (λ b. Known (Ok (Short2 ((a - 128) * 4 + b * 2 ^ 9)))) (λ b. known_code (Ok (Short2 ((a - 128) * 4 + b * 2 ^ 9))))))

pub long_32_code : Code 4 LongAddress32
long_32_code = as_code 4 (Bytes 4) (λ given. Long32 (address_of given)) (bytes_code 4)

pub long_64_code : Code 8 LongAddress64
long_64_code = as_code 8 (Bytes 8) (λ given. Long64 (address_of given)) (bytes_code 8)

section_code : (there : Bool) (number : Part ℕ) → Code 5 number → Code 5 (Section there number)
section_code there number code = where_code 5 there (as_code 5 number (λ n. Some n) code) (known_within 5 (Ok None))

mode_code : Code 5 Mode
mode_code =
    then_code 5 0 Number (λ mode. Known (if mode == 0 then Ok mode else Err (InfoMode mode))) number_code
    (λ mode. known_code (if mode == 0 then Ok mode else Err (InfoMode mode)))

sections_code : (control : ℕ) → Code 20
    (Then (Section (bit 0 control) Mode) (λ info. Then (Section (bit 1 control) Number) (λ key.
    Then (Section (bit 2 control) Number) (λ spec. As (Section (bit 3 control) Number) (λ cyct. Info info key spec cyct)))))
sections_code control =
    then_code 5 15 (Section (bit 0 control) Mode)
    (λ info. Then (Section (bit 1 control) Number)
    (λ key. Then (Section (bit 2 control) Number) (λ spec. As (Section (bit 3 control) Number) (λ cyct. Info info key spec cyct))))
    (section_code (bit 0 control) Mode mode_code)
    (λ info. then_code 5 10 (Section (bit 1 control) Number)
    (λ key. Then (Section (bit 2 control) Number) (λ spec. As (Section (bit 3 control) Number) (λ cyct. Info info key spec cyct)))
    (section_code (bit 1 control) Number number_code)
    (λ key. then_code 5 5 (Section (bit 2 control) Number) (λ spec. As (Section (bit 3 control) Number) (λ cyct. Info info key spec cyct))
    (section_code (bit 2 control) Number number_code)
    (λ spec. as_code 5 (Section (bit 3 control) Number) (λ cyct. Info info key spec cyct) (section_code (bit 3 control) Number number_code))))

pub info_code : Code 21 TraceInfo
info_code =
    byte_code 20
    (λ control. Where (nat_lt control 16)
    (Then (Section (bit 0 control) Mode) (λ info. Then (Section (bit 1 control) Number) (λ key.
    Then (Section (bit 2 control) Number) (λ spec. As (Section (bit 3 control) Number) (λ cyct. Info info key spec cyct)))))
    (Known (Err (InfoControl control))))
    (λ control. where_code 20 (nat_lt control 16) (sections_code control) (known_within 20 (Err (InfoControl control))))

exception_of : ℕ → Outcome Packet
exception_of b = exception_by (bit 7 b) (bit 6 b) (bit 0 b) b

pub exception_code : Code 1 Exception
unfolding exception_of
exception_code = byte_code 0 (λ b. Known (exception_of b)) (λ b. known_code (exception_of b))
