-- A packet has a spelling exactly where its values fit, and what is written for it are bytes.
use Rattle.std.proofs.Common.{◌≡◌, ℕ, zero, suc, ◌+◌, ◌-◌, ◌*◌, ◌/◌, ◌%◌, ◌^◌, ◌<◌, ◌≤◌, Bool, true, false, List, [], ◌∷◌, ◌++◌, length, Option, Some, None}
use Rattle.std.proofs.Common.{Ok, if◌then◌else◌, nat_lt, refl, sym, ap, subst, ◌∙◌, inl, inr, arith}
use Rattle.std.specs.Prelude.{IfSome, replicate}
use Rattle.std.specs.Option.{is_some}
use Rattle.std.proofs.lemmas.Bool.{ltb-true}
use Rattle.std.proofs.lemmas.List.Elements.{All-cons, All-nil, All-append}
use Rattle.std.proofs.lemmas.Nat.{pow-add}
use Rattle.std.proofs.Math.Nat.{pow-suc}
use Rattle.etm_types.specs.Settings.{Sizes}
use Rattle.etm_types.specs.Atoms.{atoms_in}
use Rattle.etm_types.specs.declared.address.AddrForm.TheVariants.{Match, Short1, Short2, Long32, Long64}
use Rattle.etm_types.specs.declared.context.CtxBits.{CtxBits}
use Rattle.atom_formats.proofs.Rows.{no_other_tells}
use Rattle.packet_grammar.specs.Fields.{from_bit}
use Rattle.packet_grammar.specs.Parts.{Bytes}
use Rattle.packet_grammar.specs.Numbers.{little}
use Rattle.packet_grammar.specs.Contexts.{address_of, LongAddress64}
use Rattle.packet_grammar.specs.Ranges.{IsContext, IsStampSize}
use Rattle.packet_grammar.specs.Spelling.{SpellsPacket}
use Rattle.packet_grammar.specs.declared.packet.Packet.{Packet}
use Rattle.packet_grammar.specs.declared.packet.Packet.TheVariants.{Async, Discard, Overflow, Info, On, Ignore, Event, Time, Exc, Commit, Cancel, Mispredict}
use Rattle.packet_grammar.specs.declared.packet.Packet.TheVariants.{Cancel2, Cancel3, CtxSame, CtxInfo, Addr, Atoms}
use Rattle.packet_grammar.proofs.Fitting.{Small, small_front, small_tail, little_below}
use Rattle.packet_grammar.proofs.InRange.{values_fit}
use Rattle.packet_grammar.proofs.Inverse.{as_ok}
use Rattle.packet_writer.specs.Numbers.{number_within, number, groups, time_stamp, low_bytes}
use Rattle.packet_writer.specs.Contexts.{bit_where, sized, info_byte, context, long}
use Rattle.packet_writer.specs.Atoms.{few, run_byte}
use Rattle.packet_writer.specs.Spelling.{section, control, spelling}
use Rattle.packet_writer.specs.Fitting.{Fits, HasForm, HasSpelling}
use Rattle.packet_writer.specs.Laws.{ItSpells, OfBytes, SpelledWhereFits}
use Rattle.packet_writer.proofs.Spelled.{fits_spelled, few_is, byte_told}

-- ---- from a spelling to the values

address_below : (bytes : List ℕ) → length bytes ≡ 8 → Small bytes → address_of bytes < 2 ^ 64
address_below [] long small = omega arith
address_below (a ∷ []) long small = omega arith
address_below (a ∷ b ∷ high) long small =
    let low = little_below high (small_tail b high (small_tail a (b ∷ high) small)) in
    let six : length high ≡ 6 = omega (arith, long) in
    let fits : little high < 256 ^ 6 = subst (λ n. little high < 256 ^ n) six low in
    omega (arith, fits)

long_64_below : (a : ℕ) (bytes : List ℕ) → Small bytes → LongAddress64 (Ok (Long64 a)) bytes → a < 2 ^ 64
long_64_below a bytes small is =
    let x = as_ok (Bytes 8) (λ given. Long64 (address_of given)) (Long64 a) bytes is in
    let e : a ≡ address_of x.0 = cc in
    omega (arith, e, address_below x.0 (ap length x.1.0 ∙ x.1.1) (subst Small (sym x.1.0) small))

has_form : (s : Sizes) (p : Packet) (bytes : List ℕ) → Small bytes → SpellsPacket s p bytes → HasForm p
has_form s Async bytes small is = tt
has_form s Discard bytes small is = tt
has_form s Overflow bytes small is = tt
has_form s (Info info key spec cyct) bytes small is = tt
has_form s (Time bits low) bytes small is = tt
has_form s On bytes small is = tt
has_form s (Exc kind target) bytes small is = tt
has_form s (Commit n) bytes small is = tt
has_form s (Cancel n flip) bytes small is = tt
has_form s (Mispredict atoms) bytes small is = tt
has_form s (Cancel2 atoms) bytes small is = tt
has_form s (Cancel3 e n) bytes small is = tt
has_form s Ignore bytes small is = tt
has_form s (Event n) bytes small is = tt
has_form s CtxSame bytes small is = tt
has_form s (CtxInfo ctx) bytes small is = tt
has_form s (Addr (Match index) None) bytes small is = tt
has_form s (Addr (Short1 a) None) bytes small is = tt
has_form s (Addr (Short2 a) None) bytes small is = tt
has_form s (Addr (Long32 a) None) bytes small is = tt
has_form s (Addr (Long64 a) None) bytes small (rest, e, is) = long_64_below a rest (small_tail 0x9d rest (subst Small e small)) is
has_form s (Addr (Match index) (Some ctx)) bytes small is = absurd is
has_form s (Addr (Short1 a) (Some ctx)) bytes small is = absurd is
has_form s (Addr (Short2 a) (Some ctx)) bytes small is = absurd is
has_form s (Addr (Long32 a) (Some ctx)) bytes small is = tt
has_form s (Addr (Long64 a) (Some ctx)) bytes small (given, rest, e, is, is_context) =
    long_64_below a given (small_front (given ++ rest) given rest refl (small_tail 0x85 (given ++ rest) (subst Small e small))) is
has_form s (Atoms run) bytes small (h, one, fits, tells) = (h, tells)

pub spelled_fits : (s : Sizes) (p : Packet) → HasSpelling s p → Fits s p
spelled_fits s p (bytes, small, is) = (values_fit s p bytes small is, has_form s p bytes small is)

pub it_spells : ItSpells
it_spells s p has = fits_spelled s p (spelled_fits s p has)

-- ---- bytes

one : (b : ℕ) → b < 256 → Small (b ∷ [])
one b less = All-cons (λ (x : ℕ). x < 256) b [] less (All-nil (λ (x : ℕ). x < 256))

then_bytes : (b : ℕ) (bytes : List ℕ) → b < 256 → Small bytes → Small (b ∷ bytes)
then_bytes b bytes less small = All-cons (λ (x : ℕ). x < 256) b bytes less small

both : (xs ys : List ℕ) → Small xs → Small ys → Small (xs ++ ys)
both xs ys a b = All-append (λ (x : ℕ). x < 256) xs ys a b

nothing : Small []
nothing = All-nil (λ (x : ℕ). x < 256)

number_bytes : (more n : ℕ) → n < 16 * 128 ^ more → Small (number_within more n)
number_bytes zero n less = one n (omega (arith, less))
number_bytes (suc more) n less = by (nat_lt n 128) (λ t. ltb-true n 128 t) (number_bytes more (n / 128) (omega (arith, less)))
  where
    by : (t : Bool) → (t ≡ true → n < 128) → Small (number_within more (n / 128)) → Small (if t then n ∷ [] else (128 + n % 128) ∷ number_within more (n / 128))
    by true few rest = one n (omega (arith, few refl))
    by false few rest = then_bytes (128 + n % 128) (number_within more (n / 128)) (omega arith) rest

number_is_bytes : (n : ℕ) → n < 2 ^ 32 → Small (number n)
number_is_bytes n less = number_bytes 4 n (omega (arith, less))

-- so many groups of seven bits and a byte have room for a number
pub groups_bytes : (k n : ℕ) → n < 256 * 128 ^ k → Small (groups k n)
groups_bytes zero n less = one n (omega (arith, less))
groups_bytes (suc k) n less = then_bytes (128 + n % 128) (groups k (n / 128)) (omega arith) (groups_bytes k (n / 128) (omega (arith, less)))

seven_each : (k : ℕ) → 2 ^ (7 * k) ≡ 128 ^ k
seven_each zero = refl
seven_each (suc k) =
    let parts : 2 ^ (7 * suc k) ≡ 2 ^ (7 + 7 * k) = ap (λ n. 2 ^ n) (omega arith) in
    let power : 2 ^ (7 + 7 * k) ≡ 2 ^ 7 * 2 ^ (7 * k) = pow-add 2 7 (7 * k) in
    let later = seven_each k in
    let whole : 128 ^ suc k ≡ 128 ^ k * 128 = pow-suc 128 k in
    omega (arith, parts, power, later, whole)

pub stamp_room : (bits low : ℕ) → IsStampSize bits → low < 2 ^ bits → low < 256 * 128 ^ (bits / 7 - 1)
stamp_room bits low (inl all) less =
    let most : bits / 7 - 1 ≡ 8 = omega (arith, all) in
    let fits : low < 2 ^ 64 = subst (λ n. low < 2 ^ n) all less in
    subst (λ k. low < 256 * 128 ^ k) (sym most) fits
stamp_room bits low (inr (count, some, most, e)) less =
    let k : ℕ = bits / 7 - 1 in
    let parts : bits ≡ 7 + 7 * k = omega (arith, e, some) in
    let power : 2 ^ (7 + 7 * k) ≡ 2 ^ 7 * 2 ^ (7 * k) = pow-add 2 7 (7 * k) in
    let fits : low < 2 ^ (7 + 7 * k) = subst (λ n. low < 2 ^ n) parts less in
    omega (arith, fits, power, seven_each k)

low_bytes_are : (size n : ℕ) → Small (low_bytes size n)
low_bytes_are zero n = nothing
low_bytes_are (suc size) n = then_bytes (n % 256) (low_bytes size (n / 256)) (omega arith) (low_bytes_are size (n / 256))

sized_bytes : (size : ℕ) (value : Option ℕ) → Small (sized size value)
sized_bytes size None = nothing
sized_bytes size (Some n) = low_bytes_are size n

section_bytes : (value : Option ℕ) → IfSome value (λ n. n < 2 ^ 32) → Small (section value)
section_bytes None less = nothing
section_bytes (Some n) less = number_is_bytes n less

zero_small : (value : Option ℕ) → IfSome value (λ n. n ≡ 0) → IfSome value (λ n. n < 2 ^ 32)
zero_small None is = tt
zero_small (Some n) is = omega (arith, is)

pub bit_most : (place : ℕ) (b : Bool) → bit_where place b ≤ from_bit place 1
bit_most place true = omega arith
bit_most place false = omega arith

control_below : (a b c d : Bool) → bit_where 0 a + bit_where 1 b + bit_where 2 c + bit_where 3 d < 256
control_below a b c d = omega (arith, bit_most 0 a, bit_most 1 b, bit_most 2 c, bit_most 3 d)

info_below : (ctx : CtxBits) → ctx.el ≤ 3 → info_byte ctx < 256
info_below ctx le = omega (arith, le, bit_most 5 ctx.ns, bit_most 6 (is_some ctx.vmid), bit_most 7 (is_some ctx.cid))

context_bytes : (s : Sizes) (ctx : CtxBits) → IsContext s ctx → Small (context s ctx)
context_bytes s ctx is =
    then_bytes (info_byte ctx) (sized s.vmid_bytes ctx.vmid ++ sized s.cid_bytes ctx.cid) (info_below ctx is.el)
    (both (sized s.vmid_bytes ctx.vmid) (sized s.cid_bytes ctx.cid) (sized_bytes s.vmid_bytes ctx.vmid) (sized_bytes s.cid_bytes ctx.cid))

long_bytes : (size a : ℕ) → Small (long size a)
long_bytes size a =
    then_bytes (a / 2 ^ 2 % 128) (a / 2 ^ 9 % 128 ∷ low_bytes size (a / 2 ^ 16)) (omega arith)
    (then_bytes (a / 2 ^ 9 % 128) (low_bytes size (a / 2 ^ 16)) (omega arith) (low_bytes_are size (a / 2 ^ 16)))

flip_below : (flip : Bool) → (if flip then 0x2f else 0x2e) < 256
flip_below true = omega arith
flip_below false = omega arith

zeros_bytes : (count : ℕ) → Small (replicate count 0 ++ 0x80 ∷ [])
zeros_bytes zero = one 0x80 (omega arith)
zeros_bytes (suc count) = then_bytes 0 (replicate count 0 ++ 0x80 ∷ []) (omega arith) (zeros_bytes count)

bytes_of : (s : Sizes) (p : Packet) → Fits s p → Small (spelling s p)
bytes_of s Async (is, form) = zeros_bytes 11
bytes_of s Discard (is, form) = then_bytes 0 (3 ∷ []) (omega arith) (one 3 (omega arith))
bytes_of s Overflow (is, form) = then_bytes 0 (5 ∷ []) (omega arith) (one 5 (omega arith))
bytes_of s (Info info key spec cyct) (is, form) =
    let sections : List ℕ = section info ++ (section key ++ (section spec ++ section cyct)) in
    then_bytes 1 (control info key spec cyct ∷ sections) (omega arith)
    (then_bytes (control info key spec cyct) sections (control_below (is_some info) (is_some key) (is_some spec) (is_some cyct))
    (both (section info) (section key ++ (section spec ++ section cyct)) (section_bytes info (zero_small info is.0))
    (both (section key) (section spec ++ section cyct) (section_bytes key is.1)
    (both (section spec) (section cyct) (section_bytes spec is.2) (section_bytes cyct is.3)))))
bytes_of s (Time bits low) (is, form) = then_bytes 2 (time_stamp bits low) (omega arith) (groups_bytes (bits / 7 - 1) low (stamp_room bits low is.0 is.1))
bytes_of s On (is, form) = one 4 (omega arith)
bytes_of s (Exc kind true) (is, form) = then_bytes 6 ((from_bit 1 kind + 0x40 + 0) ∷ []) (omega arith) (one (from_bit 1 kind + 0x40 + 0) (omega (arith, is)))
bytes_of s (Exc kind false) (is, form) = then_bytes 6 ((from_bit 1 kind + 0 + 1) ∷ []) (omega arith) (one (from_bit 1 kind + 0 + 1) (omega (arith, is)))
bytes_of s (Commit n) (is, form) = then_bytes 0x2d (number n) (omega arith) (number_is_bytes n is)
bytes_of s (Cancel n flip) (is, form) = then_bytes (if flip then 0x2f else 0x2e) (number n) (flip_below flip) (number_is_bytes n is)
bytes_of s (Mispredict atoms) (is, form) = one (0x30 + few atoms) (omega (arith, (few_is atoms is).most))
bytes_of s (Cancel2 atoms) (is, form) = one (0x34 + few atoms) (omega (arith, (few_is atoms is).most))
bytes_of s (Cancel3 e n) (is, form) = one (0x38 + from_bit 1 (n - 2) + bit_where 0 e) (omega (arith, is.1, bit_most 0 e))
bytes_of s Ignore (is, form) = one 0x70 (omega arith)
bytes_of s (Event n) (is, form) = one (0x70 + n) (omega (arith, is.1))
bytes_of s CtxSame (is, form) = one 0x80 (omega arith)
bytes_of s (CtxInfo ctx) (is, form) = then_bytes 0x81 (context s ctx) (omega arith) (context_bytes s ctx is)
bytes_of s (Addr (Match index) None) (is, form) = one (0x90 + index) (omega (arith, is.0))
bytes_of s (Addr (Short1 a) None) (is, form) = then_bytes 0x95 (a / 4 % 128 ∷ []) (omega arith) (one (a / 4 % 128) (omega arith))
bytes_of s (Addr (Short2 a) None) (is, form) =
    then_bytes 0x95 ((128 + a / 4 % 128) ∷ a / 2 ^ 9 % 256 ∷ []) (omega arith)
    (then_bytes (128 + a / 4 % 128) (a / 2 ^ 9 % 256 ∷ []) (omega arith) (one (a / 2 ^ 9 % 256) (omega arith)))
bytes_of s (Addr (Long32 a) None) (is, form) = then_bytes 0x9a (long 2 a) (omega arith) (long_bytes 2 a)
bytes_of s (Addr (Long64 a) None) (is, form) = then_bytes 0x9d (long 6 a) (omega arith) (long_bytes 6 a)
bytes_of s (Addr (Match index) (Some ctx)) (is, form) = absurd form
bytes_of s (Addr (Short1 a) (Some ctx)) (is, form) = absurd form
bytes_of s (Addr (Short2 a) (Some ctx)) (is, form) = absurd form
bytes_of s (Addr (Long32 a) (Some ctx)) (is, form) =
    then_bytes 0x82 (long 2 a ++ context s ctx) (omega arith) (both (long 2 a) (context s ctx) (long_bytes 2 a) (context_bytes s ctx is.1))
bytes_of s (Addr (Long64 a) (Some ctx)) (is, form) =
    then_bytes 0x85 (long 6 a ++ context s ctx) (omega arith) (both (long 6 a) (context s ctx) (long_bytes 6 a) (context_bytes s ctx is.1))
bytes_of s (Atoms run) (is, (byte, tells)) =
    let within = no_other_tells byte (atoms_in run) tells in one (run_byte run) (omega (arith, byte_told byte run tells, within.1))

pub of_bytes : OfBytes
of_bytes s p has = bytes_of s p (spelled_fits s p has)

pub spelled_where_fits : SpelledWhereFits
spelled_where_fits s p = (λ has. spelled_fits s p has, λ fits. (spelling s p, bytes_of s p fits, fits_spelled s p fits))
