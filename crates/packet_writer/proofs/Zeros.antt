-- The bits that a reader passes over are 0 in what is written.
use Rattle.std.proofs.Common.{◌≡◌, ℕ, ◌+◌, ◌/◌, ◌%◌, ◌^◌, ◌<◌, ◌≤◌, Bool, true, false, Option, Some, None, refl, subst, arith}
use Rattle.std.specs.Prelude.{IfSome}
use Rattle.std.specs.Option.{is_some}
use Rattle.etm_types.specs.Settings.{Sizes}
use Rattle.etm_types.specs.declared.address.AddrForm.TheVariants.{Match, Short1, Short2, Long32, Long64}
use Rattle.etm_types.specs.declared.context.CtxBits.{CtxBits}
use Rattle.packet_grammar.specs.Fields.{bit, field}
use Rattle.packet_grammar.specs.Ranges.{IsContext}
use Rattle.packet_grammar.specs.declared.packet.Packet.{Packet}
use Rattle.packet_grammar.specs.declared.packet.Packet.TheVariants.{Async, Discard, Overflow, Info, On, Ignore, Event, Time, Exc, Commit, Cancel, Mispredict}
use Rattle.packet_grammar.specs.declared.packet.Packet.TheVariants.{Cancel2, Cancel3, CtxSame, CtxInfo, Addr, Atoms}
use Rattle.packet_writer.specs.Contexts.{bit_where, info_byte}
use Rattle.packet_writer.specs.Spelling.{spelling}
use Rattle.packet_writer.specs.Fitting.{Fits}
use Rattle.packet_writer.specs.Laws.{PlainInfo, PassedOverAreZero, NoneIsSet}
use Rattle.packet_writer.proofs.Spelled.{bit_is, info_is}
use Rattle.packet_writer.proofs.Having.{spelled_fits}

-- bits 2 and 3
two_and_three : (el : ℕ) (ns vmid cid : Bool) → el ≤ 3 → field 3 2 (el + 16 + bit_where 5 ns + bit_where 6 vmid + bit_where 7 cid) ≡ 0
two_and_three el false false false le = omega (arith, le)
two_and_three el false false true le = omega (arith, le)
two_and_three el false true false le = omega (arith, le)
two_and_three el false true true le = omega (arith, le)
two_and_three el true false false le = omega (arith, le)
two_and_three el true false true le = omega (arith, le)
two_and_three el true true false le = omega (arith, le)
two_and_three el true true true le = omega (arith, le)

not_there : (size : ℕ) (value : Option ℕ) → IfSome value (λ n. (0 < size) × (n < 256 ^ size)) → size ≡ 0 → is_some value ≡ false
not_there size None is e = refl
not_there size (Some n) is e = absurd (omega (arith, is.0, e))

plain_info : (s : Sizes) (ctx : CtxBits) → IsContext s ctx → PlainInfo s (info_byte ctx)
plain_info s ctx is =
    let byte = info_is ctx.el ctx.ns (is_some ctx.vmid) (is_some ctx.cid) is.el in (
      two_and_three ctx.el ctx.ns (is_some ctx.vmid) (is_some ctx.cid) is.el,
      λ e. subst (λ b. bit 6 (info_byte ctx) ≡ b) (not_there s.vmid_bytes ctx.vmid is.vmid e) (bit_is (info_byte ctx) 6 (is_some ctx.vmid) byte.six),
      λ e. subst (λ b. bit 7 (info_byte ctx) ≡ b) (not_there s.cid_bytes ctx.cid is.cid e) (bit_is (info_byte ctx) 7 (is_some ctx.cid) byte.seven),
    )

seven_bits : (b : ℕ) → bit 7 (b % 128) ≡ false
seven_bits b = bit_is (b % 128) 7 false (omega arith)

none_set : (s : Sizes) (p : Packet) → Fits s p → PassedOverAreZero s p (spelling s p)
none_set s Async fits = tt
none_set s Discard fits = tt
none_set s Overflow fits = tt
none_set s (Info info key spec cyct) fits = tt
none_set s (Time bits low) fits = tt
none_set s On fits = tt
none_set s (Exc kind target) fits = tt
none_set s (Commit n) fits = tt
none_set s (Cancel n flip) fits = tt
none_set s (Mispredict atoms) fits = tt
none_set s (Cancel2 atoms) fits = tt
none_set s (Cancel3 e n) fits = tt
none_set s Ignore fits = tt
none_set s (Event n) fits = tt
none_set s CtxSame fits = tt
none_set s (CtxInfo ctx) fits = plain_info s ctx fits.0
none_set s (Addr (Match index) ctx) fits = tt
none_set s (Addr (Short1 a) ctx) fits = tt
none_set s (Addr (Short2 a) ctx) fits = tt
none_set s (Addr (Long32 a) None) fits = (seven_bits (a / 2 ^ 2), seven_bits (a / 2 ^ 9))
none_set s (Addr (Long64 a) None) fits = (seven_bits (a / 2 ^ 2), seven_bits (a / 2 ^ 9))
none_set s (Addr (Long32 a) (Some ctx)) fits = ((seven_bits (a / 2 ^ 2), seven_bits (a / 2 ^ 9)), plain_info s ctx fits.0.1)
none_set s (Addr (Long64 a) (Some ctx)) fits = ((seven_bits (a / 2 ^ 2), seven_bits (a / 2 ^ 9)), plain_info s ctx fits.0.1)
none_set s (Atoms run) fits = tt

pub none_is_set : NoneIsSet
none_is_set s p has = none_set s p (spelled_fits s p has)
