-- Each packet that is spelled has values in their ranges.
use Rattle.std.proofs.Common.{◌≡◌, ℕ, zero, suc, ◌+◌, ◌-◌, ◌*◌, ◌/◌, ◌%◌, ◌^◌, ◌<◌, ◌≤◌, ◌==◌, ◌&&◌, not, Bool, true, false}
use Rattle.std.proofs.Common.{List, [], ◌∷◌, ◌++◌, length, Option, Some, None, Ok, Err, nat_lt, refl, sym, ap, subst, ◌∙◌, inl, inr, arith}
use Rattle.std.specs.Prelude.{IfSome, if◌then◌else◌}
use Rattle.std.proofs.lemmas.Bool.{and_parts, eqb-true, ltb-true}
use Rattle.std.proofs.lemmas.Nat.{mod_below}
use Rattle.etm_types.specs.AddrForm.{IsAddrForm}
use Rattle.etm_types.specs.Atoms.{IsFewAtoms}
use Rattle.etm_types.specs.Settings.{Sizes}
use Rattle.etm_types.specs.declared.address.AddrForm.{AddrForm}
use Rattle.etm_types.specs.declared.address.AddrForm.TheVariants.{Match, Short1, Short2, Long32, Long64}
use Rattle.etm_types.specs.declared.context.CtxBits.{CtxBits}
use Rattle.packet_grammar.specs.declared.packet.Packet.{Packet}
use Rattle.packet_grammar.specs.declared.packet.Packet.TheVariants.{Async, Discard, Overflow, Info, On, Ignore, Event, Time, Exc}
use Rattle.packet_grammar.specs.declared.packet.Packet.TheVariants.{Commit, Cancel, Mispredict, Cancel2, Cancel3, CtxSame, CtxInfo, Addr, Atoms}
use Rattle.packet_grammar.specs.declared.fault.PacketFault.TheVariants.{InfoMode, InfoControl, Aarch32Context}
use Rattle.packet_grammar.specs.Parts.{Outcome, Part, Known, Byte, Bytes, Where, Then, As}
use Rattle.packet_grammar.specs.Numbers.{Number, Stamp, little}
use Rattle.packet_grammar.specs.Fields.{bit}
use Rattle.packet_grammar.specs.Contexts.{Field, Context, ShortAddress, LongAddress32, LongAddress64, address_of}
use Rattle.packet_grammar.specs.Headers.{few_atoms}
use Rattle.packet_grammar.specs.Spelling.{Section, Mode, TraceInfo, SpellsPacket}
use Rattle.packet_grammar.specs.Ranges.{IsPacket, IsContext, IsStampSize}
use Rattle.packet_grammar.specs.Laws.{ValuesFit}
use Rattle.packet_grammar.proofs.Inverse.{as_ok, then_ok}
use Rattle.packet_grammar.proofs.Fitting.{Small, StampFits, small_head, small_tail, small_front, small_back, value_of, number_below, stamp_fits, little_below}

abbrev FieldFits : ℕ → Option ℕ → Type 0
FieldFits size field = IfSome field (λ n. (0 < size) × (n < 256 ^ size))

positive : (size : ℕ) → not (size == 0) ≡ true → 0 < size
positive zero e = absurd cc
positive (suc size) e = omega arith

field_none : (size : ℕ) (v : Option ℕ) (bytes : List ℕ) → Known (Ok None) (Ok v) bytes → FieldFits size v
field_none size v [] is = subst (FieldFits size) (sym (value_of v None is)) tt
field_none size v (b ∷ bytes) is = absurd is

field_next : (size : ℕ) (v : Option ℕ) (bytes : List ℕ) (there test : Bool) → (there && not (size == 0)) ≡ test → Small bytes
    → Where test (As (Bytes size) (λ given. Some (little given))) (Known (Ok None)) (Ok v) bytes → FieldFits size v
field_next size v bytes there true e small is =
    let x = as_ok (Bytes size) (λ given. Some (little given)) v bytes is in
    let some = positive size (and_parts there (not (size == 0)) e).1 in
    let low : little x.0 < 256 ^ length x.0 = little_below x.0 (subst Small (sym x.1.0) small) in
    let long : length x.0 ≡ size = ap length x.1.0 ∙ x.1.1 in
    subst (FieldFits size) (sym x.2) (some, subst (λ n. little x.0 < 256 ^ n) long low)
field_next size v bytes there false e small is = field_none size v bytes is

field_fits : (there : Bool) (size : ℕ) (v : Option ℕ) (bytes : List ℕ) → Small bytes → Field there size (Ok v) bytes → FieldFits size v
field_fits there size v bytes small is = field_next size v bytes there (there && not (size == 0)) refl small is

context_as : (s : Sizes) (ctx other : CtxBits) → ctx ≡ other → IsContext s other → IsContext s ctx
context_as s ctx other e fits = subst (IsContext s) (sym e) fits

context_next : (s : Sizes) (info : ℕ) (ctx : CtxBits) (bytes : List ℕ) (test : Bool) → Small bytes
    → Where {A = CtxBits} test (Then (Field (bit 6 info) s.vmid_bytes) (λ vmid.
    As (Field (bit 7 info) s.cid_bytes) (λ cid. record { el = info % 4; ns = bit 5 info; vmid = vmid; cid = cid })))
    (Known (Err (Aarch32Context info))) (Ok ctx) bytes → IsContext s ctx
context_next s info ctx bytes true small is =
    let a =
    then_ok {B = CtxBits} (Field (bit 6 info) s.vmid_bytes)
    (λ vmid. As (Field (bit 7 info) s.cid_bytes) (λ cid. record { el = info % 4; ns = bit 5 info; vmid = vmid; cid = cid })) ctx bytes is in
    let b = as_ok {B = CtxBits} (Field (bit 7 info) s.cid_bytes) (λ cid. record { el = info % 4; ns = bit 5 info; vmid = a.0; cid = cid }) ctx a.2 a.5 in
    let vmid = field_fits (bit 6 info) s.vmid_bytes a.0 a.1 (small_front bytes a.1 a.2 a.3 small) a.4 in
    let cid = field_fits (bit 7 info) s.cid_bytes b.0 a.2 (small_back bytes a.1 a.2 a.3 small) b.1 in
    let level : info % 4 ≤ 3 = omega (arith, mod_below info 4 (omega arith)) in
    context_as s ctx (record { el = info % 4; ns = bit 5 info; vmid = a.0; cid = b.0 }) b.2 (record { el = level; vmid = vmid; cid = cid })
context_next s info ctx [] false small is = absurd cc
context_next s info ctx (b ∷ bytes) false small is = absurd is

context_fits : (s : Sizes) (ctx : CtxBits) (bytes : List ℕ) → Small bytes → Context s (Ok ctx) bytes → IsContext s ctx
context_fits s ctx [] small is = absurd is
context_fits s ctx (info ∷ bytes) small is = context_next s info ctx bytes (bit 4 info) (small_tail info bytes small) is

abbrev Below32 : Option ℕ → Type 0
Below32 v = IfSome v (λ n. n < 2 ^ 32)

section_none : (P : ℕ → Type 0) (v : Option ℕ) (bytes : List ℕ) → Known (Ok None) (Ok v) bytes → IfSome v P
section_none P v [] is = subst (λ x. IfSome x P) (sym (value_of v None is)) tt
section_none P v (b ∷ bytes) is = absurd is

section_fits : (P : ℕ → Type 0) (part : Part ℕ) (there : Bool) (v : Option ℕ) (bytes : List ℕ) → ((n : ℕ) → part (Ok n) bytes → P n)
    → Section there part (Ok v) bytes → IfSome v P
section_fits P part true v bytes each is =
    let x = as_ok part (λ n. Some n) v bytes is in
    subst (λ y. IfSome y P) (sym x.2) (each x.0 x.1)
section_fits P part false v bytes each is = section_none P v bytes is

mode_known : (mode n : ℕ) (test : Bool) → (mode == 0) ≡ test → ◌≡◌ {A = Outcome ℕ} (Ok n) (if test then Ok mode else Err (InfoMode mode)) → n ≡ 0
mode_known mode n true e is = value_of n mode is ∙ eqb-true mode 0 e
mode_known mode n false e is = absurd cc

mode_end : (mode n : ℕ) (bytes : List ℕ) → Known (if mode == 0 then Ok mode else Err (InfoMode mode)) (Ok n) bytes → n ≡ 0
mode_end mode n [] is = mode_known mode n (mode == 0) refl is
mode_end mode n (b ∷ bytes) is = absurd is

mode_zero : (n : ℕ) (bytes : List ℕ) → Mode (Ok n) bytes → n ≡ 0
mode_zero n bytes is =
    let x = then_ok Number (λ mode. Known (if mode == 0 then Ok mode else Err (InfoMode mode))) n bytes is in
    mode_end x.0 n x.2 x.5

fits_as : (s : Sizes) (p q : Packet) → p ≡ q → IsPacket s q → IsPacket s p
fits_as s p q e fits = subst (IsPacket s) (sym e) fits

info_next : (s : Sizes) (control : ℕ) (p : Packet) (bytes : List ℕ) (test : Bool) → Small bytes
    → Where test (Then (Section (bit 0 control) Mode) (λ info. Then (Section (bit 1 control) Number) (λ key.
    Then (Section (bit 2 control) Number) (λ spec. As (Section (bit 3 control) Number) (λ cyct. Info info key spec cyct)))))
    (Known (Err (InfoControl control))) (Ok p) bytes → IsPacket s p
info_next s control p bytes true small is =
    let a = then_ok (Section (bit 0 control) Mode)
    (λ info. Then (Section (bit 1 control) Number)
    (λ key. Then (Section (bit 2 control) Number) (λ spec. As (Section (bit 3 control) Number) (λ cyct. Info info key spec cyct)))) p bytes is in
    let b =
    then_ok (Section (bit 1 control) Number)
    (λ key. Then (Section (bit 2 control) Number) (λ spec. As (Section (bit 3 control) Number) (λ cyct. Info a.0 key spec cyct))) p a.2 a.5 in
    let c = then_ok (Section (bit 2 control) Number) (λ spec. As (Section (bit 3 control) Number) (λ cyct. Info a.0 b.0 spec cyct)) p b.2 b.5 in
    let d = as_ok (Section (bit 3 control) Number) (λ cyct. Info a.0 b.0 c.0 cyct) p c.2 c.5 in
    let small_a = small_back bytes a.1 a.2 a.3 small in
    let small_b = small_back a.2 b.1 b.2 b.3 small_a in
    let small_c = small_back b.2 c.1 c.2 c.3 small_b in
    let info = section_fits (λ n. n ≡ 0) Mode (bit 0 control) a.0 a.1 (λ n goes. mode_zero n a.1 goes) a.4 in
    let key = section_fits (λ n. n < 2 ^ 32) Number (bit 1 control) b.0 b.1 (λ n goes. number_below n b.1 (small_front a.2 b.1 b.2 b.3 small_a) goes) b.4 in
    let spec = section_fits (λ n. n < 2 ^ 32) Number (bit 2 control) c.0 c.1 (λ n goes. number_below n c.1 (small_front b.2 c.1 c.2 c.3 small_b) goes) c.4 in
    let cyct = section_fits (λ n. n < 2 ^ 32) Number (bit 3 control) d.0 c.2 (λ n goes. number_below n c.2 small_c goes) d.1 in
    fits_as s p (Info a.0 b.0 c.0 d.0) d.2 (info, key, spec, cyct)
info_next s control p [] false small is = absurd cc
info_next s control p (b ∷ bytes) false small is = absurd is

info_fits : (s : Sizes) (p : Packet) (bytes : List ℕ) → Small bytes → TraceInfo (Ok p) bytes → IsPacket s p
info_fits s p [] small is = absurd is
info_fits s p (control ∷ bytes) small is = info_next s control p bytes (nat_lt control 16) (small_tail control bytes small) is

few_cases : (a b c : Bool)
    → IsFewAtoms (if a then record { count = 0; first = false } else if b then record { count = 1; first = true }
    else if c then record { count = 2; first = true } else record { count = 1; first = false })
few_cases true b c = inl refl
few_cases false true c = inr (inl refl)
few_cases false false true = inr (inr (inl refl))
few_cases false false false = inr (inr (inr refl))

few_fits : (h : ℕ) → IsFewAtoms (few_atoms h)
few_fits h = few_cases (h % 4 == 0) (h % 4 == 1) (h % 4 == 2)

small_rest : (bytes : List ℕ) (h : ℕ) (rest : List ℕ) → bytes ≡ h ∷ rest → Small bytes → Small rest
small_rest bytes h rest e small = small_tail h rest (subst Small e small)

short_next : (form : AddrForm) (a : ℕ) (bytes : List ℕ) (test : Bool) → nat_lt a 128 ≡ test → a < 256 → Small bytes
    → Where test (Known (Ok (Short1 (a * 4)))) (Byte (λ b. Known (Ok (Short2 ((a - 128) * 4 + b * 2 ^ 9))))) (Ok form) bytes → IsAddrForm form
short_next form a [] true low fits small is =
    subst IsAddrForm (sym (value_of form (Short1 (a * 4)) is)) (omega (arith, ltb-true a 128 low), omega arith)
short_next form a (b ∷ bytes) true low fits small is = absurd is
short_next form a [] false high fits small is = absurd is
short_next form a (b ∷ []) false high fits small is =
    subst IsAddrForm (sym (value_of form (Short2 ((a - 128) * 4 + b * 2 ^ 9)) is)) (omega (arith, fits, small_head b [] small), omega arith)
short_next form a (b ∷ c ∷ bytes) false high fits small is = absurd is

short_fits : (form : AddrForm) (bytes : List ℕ) → Small bytes → ShortAddress (Ok form) bytes → IsAddrForm form
short_fits form [] small is = absurd is
short_fits form (a ∷ bytes) small is = short_next form a bytes (nat_lt a 128) refl (small_head a bytes small) (small_tail a bytes small) is

address_fours : (bytes : List ℕ) → address_of bytes % 4 ≡ 0
address_fours [] = refl
address_fours (a ∷ []) = refl
address_fours (a ∷ b ∷ high) = omega arith

address_below : (bytes : List ℕ) → length bytes ≡ 4 → Small bytes → address_of bytes < 2 ^ 32
address_below [] long small = omega arith
address_below (a ∷ []) long small = omega arith
address_below (a ∷ b ∷ high) long small =
    let low = little_below high (small_tail b high (small_tail a (b ∷ high) small)) in
    let two : length high ≡ 2 = omega (arith, long) in
    let fits : little high < 256 ^ 2 = subst (λ n. little high < 256 ^ n) two low in
    omega (arith, fits, mod_below a 128 (omega arith), mod_below b 128 (omega arith))

long_32_fits : (form : AddrForm) (bytes : List ℕ) → Small bytes → LongAddress32 (Ok form) bytes → IsAddrForm form
long_32_fits form bytes small is =
    let x = as_ok (Bytes 4) (λ given. Long32 (address_of given)) form bytes is in
    subst IsAddrForm (sym x.2) (address_below x.0 (ap length x.1.0 ∙ x.1.1) (subst Small (sym x.1.0) small), address_fours x.0)

long_64_fits : (form : AddrForm) (bytes : List ℕ) → LongAddress64 (Ok form) bytes → IsAddrForm form
long_64_fits form bytes is =
    let x = as_ok (Bytes 8) (λ given. Long64 (address_of given)) form bytes is in
    subst IsAddrForm (sym x.2) (address_fours x.0)

stamp_size : (x : Stamp) → StampFits 8 x → IsStampSize x.bits
stamp_size x (fits, inl all) = inl (omega (arith, all))
stamp_size x (fits, inr groups) = inr groups

packet_fits : (s : Sizes) (p : Packet) (bytes : List ℕ) → Small bytes → SpellsPacket s p bytes → IsPacket s p
packet_fits s Async bytes small is = tt
packet_fits s Discard bytes small is = tt
packet_fits s Overflow bytes small is = tt
packet_fits s (Info info key spec cyct) bytes small (rest, e, is) = info_fits s (Info info key spec cyct) rest (small_rest bytes 1 rest e small) is
packet_fits s (Time bits low) bytes small (rest, e, is) =
    let fits = stamp_fits 8 (record { bits = bits; low = low }) rest (small_rest bytes 2 rest e small) is in
    (stamp_size (record { bits = bits; low = low }) fits, fits.0)
packet_fits s On bytes small is = tt
packet_fits s (Exc kind target) bytes small (b, e, b7, b6, b0, k) = omega (arith, k, mod_below (b / 2) 32 (omega arith))
packet_fits s (Commit n) bytes small (rest, e, is) = number_below n rest (small_rest bytes 45 rest e small) is
packet_fits s (Cancel n flip) bytes small (rest, e, is) = number_below n rest (small_rest bytes (if flip then 47 else 46) rest e small) is
packet_fits s (Mispredict few) bytes small (h, one, f) = subst IsFewAtoms (sym f) (few_fits h)
packet_fits s (Cancel2 few) bytes small (h, one, f) = subst IsFewAtoms (sym f) (few_fits h)
packet_fits s (Cancel3 e n) bytes small (h, one, f, g) = (omega (arith, g), omega (arith, g, mod_below (h / 2) 4 (omega arith)))
packet_fits s Ignore bytes small is = tt
packet_fits s (Event n) bytes small (h, (least, most, e), f) = (omega (arith, f, least, most), omega (arith, f, mod_below h 16 (omega arith)))
packet_fits s CtxSame bytes small is = tt
packet_fits s (CtxInfo ctx) bytes small (rest, e, is) = context_fits s ctx rest (small_rest bytes 129 rest e small) is
packet_fits s (Addr (Long32 a) (Some ctx)) bytes small (given, rest, e, is, goes) =
    let both = small_rest bytes 130 (given ++ rest) e small in (
      long_32_fits (Long32 a) given (small_front (given ++ rest) given rest refl both) is,
      context_fits s ctx rest
          (small_back (given ++ rest) given rest refl both) goes,
    )
packet_fits s (Addr (Long64 a) (Some ctx)) bytes small (given, rest, e, is, goes) =
    let both = small_rest bytes 133 (given ++ rest) e small in
    (long_64_fits (Long64 a) given is, context_fits s ctx rest (small_back (given ++ rest) given rest refl both) goes)
packet_fits s (Addr (Match index) (Some ctx)) bytes small is = absurd is
packet_fits s (Addr (Short1 a) (Some ctx)) bytes small is = absurd is
packet_fits s (Addr (Short2 a) (Some ctx)) bytes small is = absurd is
packet_fits s (Addr (Match index) None) bytes small (h, (least, most, e), f) = (omega (arith, f, most), tt)
packet_fits s (Addr (Short1 a) None) bytes small (rest, e, is) = (short_fits (Short1 a) rest (small_rest bytes 149 rest e small) is, tt)
packet_fits s (Addr (Short2 a) None) bytes small (rest, e, is) = (short_fits (Short2 a) rest (small_rest bytes 149 rest e small) is, tt)
packet_fits s (Addr (Long32 a) None) bytes small (rest, e, is) = (long_32_fits (Long32 a) rest (small_rest bytes 154 rest e small) is, tt)
packet_fits s (Addr (Long64 a) None) bytes small (rest, e, is) = (long_64_fits (Long64 a) rest is, tt)
packet_fits s (Atoms run) bytes small (h, one, fits, tells) = fits

pub values_fit : ValuesFit
values_fit s p bytes small is = packet_fits s p bytes small is
