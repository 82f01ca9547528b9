-- Faults with bytes that show them. The values come from the standard's tables, worked out apart from the definitions.
use Rattle.std.proofs.Common.{◌≡◌, ℕ, suc, List, [], ◌∷◌, Option, Some, None, Err, refl, inl, inr, arith}
use Rattle.std.specs.Prelude.{map}
use Rattle.std.specs.List.{range_with_len}
use Rattle.etm_types.specs.Settings.{Sizes}
use Rattle.packet_grammar.specs.declared.fault.PacketFault.{PacketFault}
use Rattle.packet_grammar.specs.declared.fault.PacketFault.TheVariants.{Reserved, Refused, Extension, BrokenSync, InfoControl}
use Rattle.packet_grammar.specs.declared.fault.PacketFault.TheVariants.{InfoMode, NumberTooLong, ExceptionTwoByte, ExceptionForm, Aarch32Context}
use Rattle.packet_grammar.specs.declared.fault.RefusedKind.TheVariants.{CycleCount, TimeCycle, DataSync, Conditional, Q, MProfile, Aarch32Address}
use Rattle.packet_grammar.specs.Headers.{refused_headers, fault_in}
use Rattle.packet_grammar.specs.Faults.{in_sync, in_info, in_exception, in_number, in_context, in_context_of_32, in_context_of_64}
use Rattle.packet_grammar.specs.Parsed.{Spells}

-- what a header shows, where it is none of a packet
abbrev Shown : Type 0
Shown = Option (ℕ → PacketFault)

abbrev o : Shown
o = None

abbrev r : Shown
r = Some (λ h. Reserved h)

abbrev c : Shown
c = Some (λ h. Refused CycleCount h)

abbrev t : Shown
t = Some (λ h. Refused TimeCycle h)

abbrev d : Shown
d = Some (λ h. Refused DataSync h)

abbrev i : Shown
i = Some (λ h. Refused Conditional h)

abbrev q : Shown
q = Some (λ h. Refused Q h)

abbrev m : Shown
m = Some (λ h. Refused MProfile h)

abbrev a : Shown
a = Some (λ h. Refused Aarch32Address h)

-- what the headers from one on show
abbrev shown_from : ℕ → List Shown → List (Option PacketFault)
shown_from h [] = []
shown_from h (None ∷ headers) = None ∷ shown_from (suc h) headers
shown_from h (Some fault ∷ headers) = Some (fault h) ∷ shown_from (suc h) headers

-- the headers 00 to ff, sixteen to a line
abbrev by_sixteen : List Shown
by_sixteen =
    o ∷ o ∷ o ∷ t ∷ o ∷ m ∷ o ∷ m ∷ r ∷ r ∷ r ∷ r ∷ c ∷ c ∷ c ∷ c
    ∷ c ∷ c ∷ c ∷ c ∷ c ∷ c ∷ c ∷ c ∷ c ∷ c ∷ c ∷ c ∷ c ∷ c ∷ c ∷ c
    ∷ d ∷ d ∷ d ∷ d ∷ d ∷ d ∷ d ∷ d ∷ d ∷ d ∷ d ∷ d ∷ d ∷ o ∷ o ∷ o
    ∷ o ∷ o ∷ o ∷ o ∷ o ∷ o ∷ o ∷ o ∷ o ∷ o ∷ o ∷ o ∷ o ∷ o ∷ o ∷ o
    ∷ i ∷ i ∷ i ∷ i ∷ i ∷ i ∷ i ∷ r ∷ i ∷ i ∷ i ∷ r ∷ i ∷ i ∷ i ∷ r
    ∷ i ∷ i ∷ i ∷ i ∷ i ∷ i ∷ i ∷ i ∷ i ∷ i ∷ i ∷ i ∷ i ∷ i ∷ i ∷ i
    ∷ r ∷ r ∷ r ∷ r ∷ r ∷ r ∷ r ∷ r ∷ i ∷ i ∷ i ∷ i ∷ i ∷ i ∷ i ∷ i
    ∷ o ∷ o ∷ o ∷ o ∷ o ∷ o ∷ o ∷ o ∷ o ∷ o ∷ o ∷ o ∷ o ∷ o ∷ o ∷ o
    ∷ o ∷ o ∷ o ∷ a ∷ r ∷ o ∷ a ∷ r ∷ r ∷ r ∷ r ∷ r ∷ r ∷ r ∷ r ∷ r
    ∷ o ∷ o ∷ o ∷ r ∷ r ∷ o ∷ a ∷ r ∷ r ∷ r ∷ o ∷ a ∷ r ∷ o ∷ a ∷ r
    ∷ q ∷ q ∷ q ∷ r ∷ r ∷ q ∷ q ∷ r ∷ r ∷ r ∷ q ∷ q ∷ q ∷ r ∷ r ∷ q
    ∷ r ∷ r ∷ r ∷ r ∷ r ∷ r ∷ r ∷ r ∷ r ∷ r ∷ r ∷ r ∷ r ∷ r ∷ r ∷ r
    ∷ o ∷ o ∷ o ∷ o ∷ o ∷ o ∷ o ∷ o ∷ o ∷ o ∷ o ∷ o ∷ o ∷ o ∷ o ∷ o
    ∷ o ∷ o ∷ o ∷ o ∷ o ∷ o ∷ o ∷ o ∷ o ∷ o ∷ o ∷ o ∷ o ∷ o ∷ o ∷ o
    ∷ o ∷ o ∷ o ∷ o ∷ o ∷ o ∷ o ∷ o ∷ o ∷ o ∷ o ∷ o ∷ o ∷ o ∷ o ∷ o
    ∷ o ∷ o ∷ o ∷ o ∷ o ∷ o ∷ o ∷ o ∷ o ∷ o ∷ o ∷ o ∷ o ∷ o ∷ o ∷ o
    ∷ []

pub headers_show : map (λ h. fault_in refused_headers h) (range_with_len 0 256) ≡ shown_from 0 by_sixteen
unfolding refused_headers
headers_show = refl

-- behind 00: no extension; and an A-sync that breaks off at its third byte, by an 80 that comes early, by an 81 in place of the
-- 80, and by a twelfth 00
pub extension : (s : Sizes) → Spells s (Err (Extension 0x06)) (0x00 ∷ 0x06 ∷ [])
extension s = (in_sync, (0x06 ∷ [], refl, (refl, (λ e. absurd (omega (arith, e))), (λ e. absurd (omega (arith, e))), λ e. absurd (omega (arith, e)))))

pub broken_at_once : (s : Sizes) → Spells s (Err BrokenSync) (0x00 ∷ 0x00 ∷ 0x01 ∷ [])
broken_at_once s = (
  in_sync,
  (
    0x00 ∷ 0x01 ∷ [],
    refl,
    record {
      zeros = 1;
      last = 0x01;
      whole = refl;
      some = omega arith;
      most = omega arith;
      early = λ few same. absurd (omega (arith, few, same));
      late = λ all
          same. absurd (omega (arith, all, same));
    },
  ),
)

pub broken_by_80_early : (s : Sizes) → Spells s (Err BrokenSync) (0x00 ∷ 0x00 ∷ 0x00 ∷ 0x00 ∷ 0x00 ∷ 0x00 ∷ 0x00 ∷ 0x00 ∷ 0x00 ∷ 0x00 ∷ 0x80 ∷ [])
broken_by_80_early s = (
  in_sync,
  (
    0x00 ∷ 0x00 ∷ 0x00 ∷ 0x00 ∷ 0x00 ∷ 0x00 ∷ 0x00 ∷ 0x00 ∷ 0x00 ∷ 0x80 ∷ [],
    refl,
    record {
      zeros = 9;
      last = 0x80;
      whole = refl;
      some = omega arith;
      most = omega arith;
      early = λ few same. absurd (omega (arith, few, same));
      late = λ all
          same. absurd (omega (arith, all, same));
    },
  ),
)

pub broken_at_the_end : (s : Sizes) → Spells s (Err BrokenSync) (0x00 ∷ 0x00 ∷ 0x00 ∷ 0x00 ∷ 0x00 ∷ 0x00 ∷ 0x00 ∷ 0x00 ∷ 0x00 ∷ 0x00 ∷ 0x00 ∷ 0x81 ∷ [])
broken_at_the_end s = (
  in_sync,
  (
    0x00 ∷ 0x00 ∷ 0x00 ∷ 0x00 ∷ 0x00 ∷ 0x00 ∷ 0x00 ∷ 0x00 ∷ 0x00 ∷ 0x00 ∷ 0x81 ∷ [],
    refl,
    record {
      zeros = 10;
      last = 0x81;
      whole = refl;
      some = omega arith;
      most = omega arith;
      early = λ few same. absurd (omega (arith, few, same));
      late = λ
          all same. absurd (omega (arith, all, same));
    },
  ),
)

pub broken_by_a_twelfth_zero : (s : Sizes) → Spells s (Err BrokenSync) (0x00 ∷ 0x00 ∷ 0x00 ∷ 0x00 ∷ 0x00 ∷ 0x00 ∷ 0x00 ∷ 0x00 ∷ 0x00 ∷ 0x00 ∷ 0x00 ∷ 0x00 ∷ [])
broken_by_a_twelfth_zero s = (
  in_sync,
  (
    0x00 ∷ 0x00 ∷ 0x00 ∷ 0x00 ∷ 0x00 ∷ 0x00 ∷ 0x00 ∷ 0x00 ∷ 0x00 ∷ 0x00 ∷ 0x00 ∷ [],
    refl,
    record {
      zeros = 10;
      last = 0x00;
      whole = refl;
      some = omega arith;
      most = omega arith;
      early = λ few same. absurd (omega (arith, few, same));
      late = λ
          all same. absurd (omega (arith, all, same));
    },
  ),
)

-- Trace Info packet: bit 4 and bit 7 of the control byte; an INFO of 5; a KEY, and an INFO, that are too long
pub control_bit_4 : (s : Sizes) → Spells s (Err (InfoControl 0x10)) (0x01 ∷ 0x10 ∷ [])
control_bit_4 s = (in_info, (0x10 ∷ [], refl, refl))

pub control_bit_7 : (s : Sizes) → Spells s (Err (InfoControl 0x81)) (0x01 ∷ 0x81 ∷ [])
control_bit_7 s = (in_info, (0x81 ∷ [], refl, refl))

pub mode : (s : Sizes) → Spells s (Err (InfoMode 5)) (0x01 ∷ 0x01 ∷ 0x05 ∷ [])
mode s = (in_info, (0x01 ∷ 0x05 ∷ [], refl, inr (InfoMode 5, refl, inr (InfoMode 5, refl, inl (5, 0x05 ∷ [], [], refl, refl, refl)))))

pub mode_of_two_bytes : (s : Sizes) → Spells s (Err (InfoMode 128)) (0x01 ∷ 0x01 ∷ 0x80 ∷ 0x01 ∷ [])
mode_of_two_bytes s = (
  in_info,
  (
    0x01 ∷ 0x80 ∷ 0x01 ∷ [],
    refl,
    inr (InfoMode 128, refl, inr (InfoMode 128, refl, inl (128, 0x80 ∷ 0x01 ∷ [], [], refl, inl (1, 0x01 ∷ [], [], refl, refl, refl), refl))),
  ),
)

pub long_key : (s : Sizes) → Spells s (Err NumberTooLong) (0x01 ∷ 0x02 ∷ 0xff ∷ 0xff ∷ 0xff ∷ 0xff ∷ 0x10 ∷ [])
long_key s = (
  in_info,
  (
    0x02 ∷ 0xff ∷ 0xff ∷ 0xff ∷ 0xff ∷ 0x10 ∷ [],
    refl,
    inl (
      None,
      [],
      0xff ∷ 0xff ∷ 0xff ∷ 0xff ∷ 0x10 ∷ [],
      refl,
      refl,
      inr (
        NumberTooLong,
        refl,
        inr (NumberTooLong, refl, inr (NumberTooLong, refl, inr (NumberTooLong, refl, inr (NumberTooLong, refl, inr (NumberTooLong, refl, refl))))),
      ),
    ),
  ),
)

pub long_mode : (s : Sizes) → Spells s (Err NumberTooLong) (0x01 ∷ 0x01 ∷ 0x81 ∷ 0x80 ∷ 0x80 ∷ 0x80 ∷ 0x10 ∷ [])
long_mode s = (
  in_info,
  (
    0x01 ∷ 0x81 ∷ 0x80 ∷ 0x80 ∷ 0x80 ∷ 0x10 ∷ [],
    refl,
    inr (
      NumberTooLong,
      refl,
      inr (
        NumberTooLong,
        refl,
        inr (NumberTooLong, refl, inr (NumberTooLong, refl, inr (NumberTooLong, refl, inr (NumberTooLong, refl, inr (NumberTooLong, refl, refl))))),
      ),
    ),
  ),
)

-- Exception instruction trace packet: a second byte, whatever E1 and E0 are; and E1 E0 of 0 0 and 1 1, of the least type, 14 and
-- the greatest
pub two_byte : (s : Sizes) → Spells s (Err (ExceptionTwoByte 0x9d)) (0x06 ∷ 0x9d ∷ [])
two_byte s = (in_exception, (0x9d, refl, refl, refl))

pub two_byte_of_another_form : (s : Sizes) → Spells s (Err (ExceptionTwoByte 0x9c)) (0x06 ∷ 0x9c ∷ [])
two_byte_of_another_form s = (in_exception, (0x9c, refl, refl, refl))

pub two_byte_at_its_target : (s : Sizes) → Spells s (Err (ExceptionTwoByte 0xdc)) (0x06 ∷ 0xdc ∷ [])
two_byte_at_its_target s = (in_exception, (0xdc, refl, refl, refl))

pub form_00 : (s : Sizes) → Spells s (Err (ExceptionForm 0x1c)) (0x06 ∷ 0x1c ∷ [])
form_00 s = (in_exception, (0x1c, refl, refl, refl))

pub form_00_of_type_0 : (s : Sizes) → Spells s (Err (ExceptionForm 0x00)) (0x06 ∷ 0x00 ∷ [])
form_00_of_type_0 s = (in_exception, (0x00, refl, refl, refl))

pub form_00_of_type_31 : (s : Sizes) → Spells s (Err (ExceptionForm 0x3e)) (0x06 ∷ 0x3e ∷ [])
form_00_of_type_31 s = (in_exception, (0x3e, refl, refl, refl))

pub form_11 : (s : Sizes) → Spells s (Err (ExceptionForm 0x5d)) (0x06 ∷ 0x5d ∷ [])
form_11 s = (in_exception, (0x5d, refl, refl, refl))

pub form_11_of_type_0 : (s : Sizes) → Spells s (Err (ExceptionForm 0x41)) (0x06 ∷ 0x41 ∷ [])
form_11_of_type_0 s = (in_exception, (0x41, refl, refl, refl))

pub form_11_of_type_31 : (s : Sizes) → Spells s (Err (ExceptionForm 0x7f)) (0x06 ∷ 0x7f ∷ [])
form_11_of_type_31 s = (in_exception, (0x7f, refl, refl, refl))

-- numbers that are too long
pub long_commit : (s : Sizes) → Spells s (Err NumberTooLong) (0x2d ∷ 0xff ∷ 0xff ∷ 0xff ∷ 0xff ∷ 0x10 ∷ [])
long_commit s = (
  in_number,
  (
    0x2d,
    0xff ∷ 0xff ∷ 0xff ∷ 0xff ∷ 0x10 ∷ [],
    omega arith,
    omega arith,
    refl,
    inr (NumberTooLong, refl, inr (NumberTooLong, refl, inr (NumberTooLong, refl, inr (NumberTooLong, refl, refl)))),
  ),
)

pub long_cancel : (s : Sizes) → Spells s (Err NumberTooLong) (0x2e ∷ 0x80 ∷ 0x80 ∷ 0x80 ∷ 0x80 ∷ 0x80 ∷ [])
long_cancel s = (
  in_number,
  (
    0x2e,
    0x80 ∷ 0x80 ∷ 0x80 ∷ 0x80 ∷ 0x80 ∷ [],
    omega arith,
    omega arith,
    refl,
    inr (NumberTooLong, refl, inr (NumberTooLong, refl, inr (NumberTooLong, refl, inr (NumberTooLong, refl, refl)))),
  ),
)

pub long_cancel_and_mispredict : (s : Sizes) → Spells s (Err NumberTooLong) (0x2f ∷ 0x80 ∷ 0x80 ∷ 0x80 ∷ 0x80 ∷ 0xff ∷ [])
long_cancel_and_mispredict s = (
  in_number,
  (
    0x2f,
    0x80 ∷ 0x80 ∷ 0x80 ∷ 0x80 ∷ 0xff ∷ [],
    omega arith,
    omega arith,
    refl,
    inr (NumberTooLong, refl, inr (NumberTooLong, refl, inr (NumberTooLong, refl, inr (NumberTooLong, refl, refl)))),
  ),
)

-- info bytes in AArch32 state, which show it before any field
pub context_32 : (s : Sizes) → Spells s (Err (Aarch32Context 0x21)) (0x81 ∷ 0x21 ∷ [])
context_32 s = (in_context, (0x21 ∷ [], refl, refl))

pub context_32_behind_32_bits : (s : Sizes) → Spells s (Err (Aarch32Context 0xc1)) (0x82 ∷ 0x00 ∷ 0x08 ∷ 0x00 ∷ 0x00 ∷ 0xc1 ∷ [])
context_32_behind_32_bits s = (in_context_of_32, (0x00 ∷ 0x08 ∷ 0x00 ∷ 0x00 ∷ [], 0xc1 ∷ [], refl, refl, refl))

pub context_32_behind_64_bits : (s : Sizes) → Spells s (Err (Aarch32Context 0xef)) (0x85 ∷ 0x00 ∷ 0x08 ∷ 0x00 ∷ 0x00 ∷ 0x00 ∷ 0x00 ∷ 0x00 ∷ 0x00 ∷ 0xef ∷ [])
context_32_behind_64_bits s = (in_context_of_64, (0x00 ∷ 0x08 ∷ 0x00 ∷ 0x00 ∷ 0x00 ∷ 0x00 ∷ 0x00 ∷ 0x00 ∷ [], 0xef ∷ [], refl, refl, refl))
