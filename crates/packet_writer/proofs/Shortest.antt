-- No spelling of a packet has fewer bytes than those that are written.
use Rattle.std.proofs.Common.{◌≡◌, ℕ, ◌+◌, ◌-◌, ◌*◌, ◌%◌, ◌^◌, ◌==◌, ◌≤◌, ◌&&◌, not, Bool, true, false, List, [], ◌∷◌, ◌++◌, length}
use Rattle.std.proofs.Common.{Option, Some, None, Ok, Err, if◌then◌else◌, nat_lt, refl, sym, ap, subst, ◌∙◌, arith, length-append}
use Rattle.etm_types.specs.Settings.{Sizes}
use Rattle.etm_types.specs.declared.address.AddrForm.{AddrForm}
use Rattle.etm_types.specs.declared.address.AddrForm.TheVariants.{Match, Short1, Short2, Long32, Long64}
use Rattle.etm_types.specs.declared.context.CtxBits.{CtxBits}
use Rattle.packet_grammar.specs.Fields.{bit}
use Rattle.packet_grammar.specs.declared.fault.PacketFault.TheVariants.{Aarch32Context, InfoControl, InfoMode}
use Rattle.packet_grammar.specs.Parts.{Part, Known, Byte, Bytes, Where, Then, As}
use Rattle.packet_grammar.specs.Numbers.{Number, little}
use Rattle.packet_grammar.specs.Contexts.{Field, Context, address_of, ShortAddress, LongAddress32, LongAddress64}
use Rattle.packet_grammar.specs.Spelling.{Section, Mode, TraceInfo}
use Rattle.packet_grammar.specs.declared.packet.Packet.{Packet}
use Rattle.packet_grammar.specs.declared.packet.Packet.TheVariants.{Async, Discard, Overflow, Info, On, Ignore, Event, Time, Exc, Commit, Cancel, Mispredict}
use Rattle.packet_grammar.specs.declared.packet.Packet.TheVariants.{Cancel2, Cancel3, CtxSame, CtxInfo, Addr, Atoms}
use Rattle.packet_grammar.proofs.Fitting.{Small, small_tail, small_front, small_back, value_of}
use Rattle.packet_grammar.proofs.Inverse.{as_ok, then_ok}
use Rattle.packet_writer.specs.Numbers.{number}
use Rattle.packet_writer.specs.Contexts.{sized, context, long_32, long_64}
use Rattle.packet_writer.specs.Spelling.{section}
use Rattle.packet_writer.specs.Laws.{NoneIsShorter}
use Rattle.packet_writer.proofs.Digits.{number_shortest, stamp_shortest, length-low_bytes}

parted : (bytes front back : List ℕ) → bytes ≡ front ++ back → length bytes ≡ length front + length back
parted bytes front back e = ap length e ∙ length-append front back

-- ---- contexts

field_none : (size : ℕ) (v : Option ℕ) (bytes : List ℕ) → Known (Ok None) (Ok v) bytes → length (sized size v) ≤ length bytes
field_none size v [] is = subst (λ (x : Option ℕ). length (sized size x) ≤ 0) (sym (value_of v None is)) (omega arith)
field_none size v (b ∷ bytes) is = absurd is

field_by : (size : ℕ) (v : Option ℕ) (bytes : List ℕ) (test : Bool) → Where test (As (Bytes size) (λ given. Some (little given))) (Known (Ok None)) (Ok v) bytes
    → length (sized size v) ≤ length bytes
field_by size v bytes false is = field_none size v bytes is
field_by size v bytes true is =
    let x = as_ok (Bytes size) (λ given. Some (little given)) v bytes is in
    let count = length-low_bytes size (little x.0) in
    subst (λ (y : Option ℕ). length (sized size y) ≤ length bytes) (sym x.2) (omega (arith, count, x.1.1))

field_shortest : (there : Bool) (size : ℕ) (v : Option ℕ) (bytes : List ℕ) → Field there size (Ok v) bytes → length (sized size v) ≤ length bytes
field_shortest there size v bytes is = field_by size v bytes (there && not (size == 0)) is

abbrev After : Sizes → CtxBits → ℕ
After s ctx = length (sized s.vmid_bytes ctx.vmid) + length (sized s.cid_bytes ctx.cid)

context_by : (s : Sizes) (info : ℕ) (ctx : CtxBits) (bytes : List ℕ) (test : Bool)
    → Where {A = CtxBits} test (Then (Field (bit 6 info) s.vmid_bytes) (λ vmid.
    As (Field (bit 7 info) s.cid_bytes) (λ cid. record { el = info % 4; ns = bit 5 info; vmid = vmid; cid = cid })))
    (Known (Err (Aarch32Context info))) (Ok ctx) bytes → After s ctx ≤ length bytes
context_by s info ctx [] false is = absurd cc
context_by s info ctx (b ∷ bytes) false is = absurd is
context_by s info ctx bytes true is =
    let a =
    then_ok {B = CtxBits} (Field (bit 6 info) s.vmid_bytes)
    (λ vmid. As (Field (bit 7 info) s.cid_bytes) (λ cid. record { el = info % 4; ns = bit 5 info; vmid = vmid; cid = cid })) ctx bytes is in
    let b = as_ok {B = CtxBits} (Field (bit 7 info) s.cid_bytes) (λ cid. record { el = info % 4; ns = bit 5 info; vmid = a.0; cid = cid }) ctx a.2 a.5 in
    let vmid = field_shortest (bit 6 info) s.vmid_bytes a.0 a.1 a.4 in
    let cid = field_shortest (bit 7 info) s.cid_bytes b.0 a.2 b.1 in
    let parts = parted bytes a.1 a.2 a.3 in
    let some : length (sized s.vmid_bytes a.0) + length (sized s.cid_bytes b.0) ≤ length bytes = omega (arith, vmid, cid, parts) in
    subst (λ (c : CtxBits). After s c ≤ length bytes) (sym b.2) some

context_shortest : (s : Sizes) (ctx : CtxBits) (bytes : List ℕ) → Context s (Ok ctx) bytes → length (context s ctx) ≤ length bytes
context_shortest s ctx [] is = absurd is
context_shortest s ctx (info ∷ bytes) is =
    let some = context_by s info ctx bytes (bit 4 info) is in
    omega (arith, some, length-append (sized s.vmid_bytes ctx.vmid) (sized s.cid_bytes ctx.cid))

-- ---- addresses

short_2_by : (v a : ℕ) (bytes : List ℕ) (test : Bool)
    → Where test (Known (Ok (Short1 (a * 4)))) (Byte (λ b. Known (Ok (Short2 ((a - 128) * 4 + b * 2 ^ 9))))) (Ok (Short2 v)) bytes → 1 ≤ length bytes
short_2_by v a [] true is = absurd (let e = value_of (Short2 v) (Short1 (a * 4)) is in cc)
short_2_by v a (b ∷ bytes) true is = absurd is
short_2_by v a [] false is = absurd is
short_2_by v a (b ∷ bytes) false is = omega arith

short_some : (form : AddrForm) (bytes : List ℕ) → ShortAddress (Ok form) bytes → 1 ≤ length bytes
short_some form [] is = absurd is
short_some form (a ∷ bytes) is = omega arith

short_2_shortest : (v : ℕ) (bytes : List ℕ) → ShortAddress (Ok (Short2 v)) bytes → 2 ≤ length bytes
short_2_shortest v [] is = absurd is
short_2_shortest v (a ∷ bytes) is = let some = short_2_by v a bytes (nat_lt a 128) is in omega (arith, some)

long_32_bytes : (form : AddrForm) (bytes : List ℕ) → LongAddress32 (Ok form) bytes → length bytes ≡ 4
long_32_bytes form bytes is = let x = as_ok (Bytes 4) (λ given. Long32 (address_of given)) form bytes is in x.1.1

long_64_bytes : (form : AddrForm) (bytes : List ℕ) → LongAddress64 (Ok form) bytes → length bytes ≡ 8
long_64_bytes form bytes is = let x = as_ok (Bytes 8) (λ given. Long64 (address_of given)) form bytes is in x.1.1

-- ---- trace info

section_none : (v : Option ℕ) (bytes : List ℕ) → Known (Ok None) (Ok v) bytes → length (section v) ≤ length bytes
section_none v [] is = subst (λ (x : Option ℕ). length (section x) ≤ 0) (sym (value_of v None is)) (omega arith)
section_none v (b ∷ bytes) is = absurd is

section_shortest : (part : Part ℕ) (there : Bool) (v : Option ℕ) (bytes : List ℕ) → ((n : ℕ) → part (Ok n) bytes → length (number n) ≤ length bytes)
    → Section there part (Ok v) bytes → length (section v) ≤ length bytes
section_shortest part false v bytes each is = section_none v bytes is
section_shortest part true v bytes each is =
    let x = as_ok part (λ n. Some n) v bytes is in
    subst (λ (y : Option ℕ). length (section y) ≤ length bytes) (sym x.2) (each x.0 x.1)

mode_end : (mode n : ℕ) (bytes : List ℕ) (test : Bool) → Known (if test then Ok mode else Err (InfoMode mode)) (Ok n) bytes → (n ≡ mode) × (bytes ≡ [])
mode_end mode n [] true is = (value_of n mode is, refl)
mode_end mode n [] false is = absurd cc
mode_end mode n (b ∷ bytes) test is = absurd is

mode_shortest : (n : ℕ) (bytes : List ℕ) → Small bytes → Mode (Ok n) bytes → length (number n) ≤ length bytes
mode_shortest n bytes small is =
    let x = then_ok Number (λ mode. Known (if mode == 0 then Ok mode else Err (InfoMode mode))) n bytes is in
    let end = mode_end x.0 n x.2 (x.0 == 0) x.5 in
    let some = number_shortest x.0 x.1 (small_front bytes x.1 x.2 x.3 small) x.4 in
    let no_more : length (number n) ≤ length x.1 = subst (λ k. length (number k) ≤ length x.1) (sym end.0) some in
    omega (arith, no_more, parted bytes x.1 x.2 x.3)

abbrev Sections : Packet → ℕ
Sections (Info info key spec cyct) = length (section info ++ (section key ++ (section spec ++ section cyct)))
Sections p = 0

as_info : (p q : Packet) (n : ℕ) → p ≡ q → Sections q ≤ n → Sections p ≤ n
as_info p q n e some = subst (λ (x : Packet). Sections x ≤ n) (sym e) some

info_by : (control : ℕ) (p : Packet) (bytes : List ℕ) (test : Bool) → Small bytes
    → Where test (Then (Section (bit 0 control) Mode) (λ info. Then (Section (bit 1 control) Number) (λ key.
    Then (Section (bit 2 control) Number) (λ spec. As (Section (bit 3 control) Number) (λ cyct. Info info key spec cyct)))))
    (Known (Err (InfoControl control))) (Ok p) bytes → Sections p ≤ length bytes
info_by control p [] false small is = absurd cc
info_by control p (b ∷ bytes) false small is = absurd is
info_by control p bytes true small is =
    let a = then_ok (Section (bit 0 control) Mode)
    (λ info. Then (Section (bit 1 control) Number)
    (λ key. Then (Section (bit 2 control) Number) (λ spec. As (Section (bit 3 control) Number) (λ cyct. Info info key spec cyct)))) p bytes is in
    let b =
    then_ok (Section (bit 1 control) Number)
    (λ key. Then (Section (bit 2 control) Number) (λ spec. As (Section (bit 3 control) Number) (λ cyct. Info a.0 key spec cyct))) p a.2 a.5 in
    let c = then_ok (Section (bit 2 control) Number) (λ spec. As (Section (bit 3 control) Number) (λ cyct. Info a.0 b.0 spec cyct)) p b.2 b.5 in
    let d = as_ok (Section (bit 3 control) Number) (λ cyct. Info a.0 b.0 c.0 cyct) p c.2 c.5 in
    let small_a = small_back bytes a.1 a.2 a.3 small in
    let small_b = small_back a.2 b.1 b.2 b.3 small_a in
    let small_c = small_back b.2 c.1 c.2 c.3 small_b in
    let info = section_shortest Mode (bit 0 control) a.0 a.1 (λ n goes. mode_shortest n a.1 (small_front bytes a.1 a.2 a.3 small) goes) a.4 in
    let key = section_shortest Number (bit 1 control) b.0 b.1 (λ n goes. number_shortest n b.1 (small_front a.2 b.1 b.2 b.3 small_a) goes) b.4 in
    let spec = section_shortest Number (bit 2 control) c.0 c.1 (λ n goes. number_shortest n c.1 (small_front b.2 c.1 c.2 c.3 small_b) goes) c.4 in
    let cyct = section_shortest Number (bit 3 control) d.0 c.2 (λ n goes. number_shortest n c.2 small_c goes) d.1 in
    let parts_a : length bytes ≡ length a.1 + length a.2 = parted bytes a.1 a.2 a.3 in
    let parts_b : length a.2 ≡ length b.1 + length b.2 = parted a.2 b.1 b.2 b.3 in
    let parts_c : length b.2 ≡ length c.1 + length c.2 = parted b.2 c.1 c.2 c.3 in
    let some : Sections (Info a.0 b.0 c.0 d.0) ≤ length bytes =
    omega (
      arith,
      info,
      key,
      spec,
      cyct,
      parts_a,
      parts_b,
      parts_c,
      length-append (section a.0) (section b.0 ++ (section c.0 ++ section d.0)),
      length-append (section b.0) (section c.0 ++ section d.0),
      length-append (section c.0) (section d.0),
    ) in
    as_info p (Info a.0 b.0 c.0 d.0) (length bytes) d.2 some

info_shortest : (p : Packet) (bytes : List ℕ) → Small bytes → TraceInfo (Ok p) bytes → Sections p + 1 ≤ length bytes
info_shortest p [] small is = absurd is
info_shortest p (control ∷ bytes) small is =
    let some = info_by control p bytes (nat_lt control 16) (small_tail control bytes small) is in omega (arith, some)

-- ---- packets

rest_small : (h : ℕ) (bytes rest : List ℕ) → bytes ≡ h ∷ rest → Small bytes → Small rest
rest_small h bytes rest e small = small_tail h rest (subst Small e small)

alone : (h : ℕ) (bytes : List ℕ) → bytes ≡ h ∷ [] → 1 ≤ length bytes
alone h bytes e = omega (arith, ap length e)

behind : (h n : ℕ) (bytes rest : List ℕ) → bytes ≡ h ∷ rest → n ≤ length rest → n + 1 ≤ length bytes
behind h n bytes rest e some = omega (arith, ap length e, some)

with_context : (h n : ℕ) (s : Sizes) (ctx : CtxBits) (bytes given rest : List ℕ) → bytes ≡ h ∷ given ++ rest → length given ≡ n → Context s (Ok ctx) rest
    → n + length (context s ctx) + 1 ≤ length bytes
with_context h n s ctx bytes given rest e count is =
    let some = context_shortest s ctx rest is in
    omega (arith, ap length e, length-append given rest, count, some)

pub none_is_shorter : NoneIsShorter
none_is_shorter s Async bytes small is = omega (arith, ap length is)
none_is_shorter s Discard bytes small is = omega (arith, ap length is)
none_is_shorter s Overflow bytes small is = omega (arith, ap length is)
none_is_shorter s (Info info key spec cyct) bytes small (rest, e, is) =
    let some = info_shortest (Info info key spec cyct) rest (rest_small 1 bytes rest e small) is in omega (arith, ap length e, some)
none_is_shorter s (Time bits low) bytes small (rest, e, is) = let some = stamp_shortest bits low rest is in omega (arith, ap length e, some)
none_is_shorter s On bytes small is = omega (arith, ap length is)
none_is_shorter s (Exc kind target) bytes small (b, e, b7, b6, b0, is) = omega (arith, ap length e)
none_is_shorter s (Commit n) bytes small (rest, e, is) =
    let some = number_shortest n rest (rest_small 0x2d bytes rest e small) is in omega (arith, ap length e, some)
none_is_shorter s (Cancel n flip) bytes small (rest, e, is) =
    let some = number_shortest n rest (rest_small (if flip then 0x2f else 0x2e) bytes rest e small) is in omega (arith, ap length e, some)
none_is_shorter s (Mispredict atoms) bytes small (h, one, is) = alone h bytes one.2
none_is_shorter s (Cancel2 atoms) bytes small (h, one, is) = alone h bytes one.2
none_is_shorter s (Cancel3 a n) bytes small (h, one, is_e, is_n) = alone h bytes one.2
none_is_shorter s Ignore bytes small is = omega (arith, ap length is)
none_is_shorter s (Event n) bytes small (h, one, is) = alone h bytes one.2
none_is_shorter s CtxSame bytes small is = omega (arith, ap length is)
none_is_shorter s (CtxInfo ctx) bytes small (rest, e, is) = let some = context_shortest s ctx rest is in omega (arith, ap length e, some)
none_is_shorter s (Addr (Match index) None) bytes small (h, one, is) = alone h bytes one.2
none_is_shorter s (Addr (Short1 a) None) bytes small (rest, e, is) = let some = short_some (Short1 a) rest is in omega (arith, ap length e, some)
none_is_shorter s (Addr (Short2 a) None) bytes small (rest, e, is) = let some = short_2_shortest a rest is in omega (arith, ap length e, some)
none_is_shorter s (Addr (Long32 a) None) bytes small (rest, e, is) = let count = long_32_bytes (Long32 a) rest is in omega (arith, ap length e, count)
none_is_shorter s (Addr (Long64 a) None) bytes small (rest, e, is) = let count = long_64_bytes (Long64 a) rest is in omega (arith, ap length e, count)
none_is_shorter s (Addr (Match index) (Some ctx)) bytes small is = absurd is
none_is_shorter s (Addr (Short1 a) (Some ctx)) bytes small is = absurd is
none_is_shorter s (Addr (Short2 a) (Some ctx)) bytes small is = absurd is
none_is_shorter s (Addr (Long32 a) (Some ctx)) bytes small (given, rest, e, is, goes) =
    let some = with_context 0x82 4 s ctx bytes given rest e (long_32_bytes (Long32 a) given is) goes in
    omega (arith, some, length-append (long_32 a) (context s ctx))
none_is_shorter s (Addr (Long64 a) (Some ctx)) bytes small (given, rest, e, is, goes) =
    let some = with_context 0x85 8 s ctx bytes given rest e (long_64_bytes (Long64 a) given is) goes in
    omega (arith, some, length-append (long_64 a) (context s ctx))
none_is_shorter s (Atoms run) bytes small (h, one, fits, tells) = alone h bytes one.2
