-- In the spelling of a packet that is no A-sync, ten bytes 00 never stand in a row, and one at most stands at its front.
use Rattle.std.proofs.Common.{◌≡◌, ◌⊎◌, ℕ, zero, suc, ◌+◌, ◌-◌, ◌*◌, ◌^◌, ◌<◌, ◌≤◌, ◌==◌, ◌&&◌, not, Bool, true, false, List, [], ◌∷◌, ◌++◌, length}
use Rattle.std.proofs.Common.{Option, Some, None, Ok, Err, nat_lt, refl, sym, ap, subst, ◌∙◌, inl, inr, arith, length-append, append-nil}
use Rattle.std.proofs.lemmas.Bool.Decides.{nat_tests}
use Rattle.std.specs.Prelude.{IsTrue, if◌then◌else◌}
use Rattle.etm_types.specs.Settings.{Sizes, AreSettings, is_vmid_size, is_cid_size}
use Rattle.etm_types.specs.declared.address.AddrForm.{AddrForm}
use Rattle.etm_types.specs.declared.address.AddrForm.TheVariants.{Match, Short1, Short2, Long32, Long64}
use Rattle.etm_types.specs.declared.context.CtxBits.{CtxBits}
use Rattle.packet_grammar.specs.declared.packet.Packet.{Packet}
use Rattle.packet_grammar.specs.declared.packet.Packet.TheVariants.{Async, Discard, Overflow, Info, On, Ignore, Event, Time, Exc, Commit, Cancel}
use Rattle.packet_grammar.specs.declared.packet.Packet.TheVariants.{Mispredict, Cancel2, Cancel3, CtxSame, CtxInfo, Addr, Atoms}
use Rattle.packet_grammar.specs.declared.fault.PacketFault.{PacketFault}
use Rattle.packet_grammar.specs.declared.fault.PacketFault.TheVariants.{InfoControl, InfoMode, NumberTooLong, Aarch32Context}
use Rattle.packet_grammar.specs.Parts.{Outcome, Part, Known, Byte, Bytes, Where, Then, As}
use Rattle.packet_grammar.specs.Numbers.{NumberWithin, Number, Stamp, StampWithin, little}
use Rattle.packet_grammar.specs.Fields.{bit}
use Rattle.packet_grammar.specs.Contexts.{Field, Context, ShortAddress, LongAddress32, LongAddress64, address_of}
use Rattle.packet_grammar.specs.Spelling.{Section, Mode, TraceInfo, SpellsPacket}
use Rattle.packet_grammar.proofs.Zeros.{Calm, calmer, short, joined, Tame, with_header}

-- ---- parts

well_or_not : {A : Type 0} (a : A) (f : PacketFault) → ◌≡◌ {A = Outcome A} (Ok a) (Err f) → ⊥
well_or_not a f e = absurd cc

where_one : {A : Type 0} (test : Bool) (first second : Part A) (o : Outcome A) (bytes : List ℕ) → Where test first second o bytes
    → ((test ≡ true) × first o bytes) ⊎ ((test ≡ false) × second o bytes)
where_one true first second o bytes w = inl (refl, w)
where_one false first second o bytes w = inr (refl, w)

known_none : {A : Type 0} (known o : Outcome A) (bytes : List ℕ) → Known known o bytes → bytes ≡ []
known_none known o [] k = refl
known_none known o (b ∷ bytes) k = absurd k

known_fault : {A : Type 0} (f : PacketFault) (a : A) (bytes : List ℕ) → Known (Err f) (Ok a) bytes → ⊥
known_fault f a [] k = well_or_not a f k
known_fault f a (b ∷ bytes) k = k

-- the part alone has all the bytes
as_all : {A B : Type 0} (part : Part A) (made : A → B) (b : B) (bytes : List ℕ) → As part made (Ok b) bytes → (a : A) × part (Ok a) bytes
as_all part made b bytes (inl (a, front, back, e, is, k)) =
    let none = known_none (Ok (made a)) (Ok b) back k in
    (a, subst (λ l. part (Ok a) l) (sym (e ∙ ap (λ l. front ++ l) none ∙ append-nil front)) is)
as_all part made b bytes (inr (f, e, is)) = absurd (well_or_not b f e)

-- ---- numbers

one_byte : (b : ℕ) (bytes back : List ℕ) (r : ℕ) → r ≤ 8 → bytes ≡ [] → Calm back r → Calm (b ∷ bytes ++ back) (suc r)
one_byte zero bytes back r le e c = subst (λ l. Calm (l ++ back) r) (sym e) c
one_byte (suc b) bytes back r le e c = subst (λ l. Calm (l ++ back) 9) (sym e) (calmer back r 9 (omega (arith, le)) c)

more_bytes : (b : ℕ) (bytes back : List ℕ) (r : ℕ) → r ≤ 8 → nat_lt b 128 ≡ false → Calm (bytes ++ back) (suc r) → Calm (b ∷ bytes ++ back) (suc r)
more_bytes zero bytes back r le e c = absurd cc
more_bytes (suc b) bytes back r le e c = calmer (bytes ++ back) (suc r) 9 (omega (arith, le)) c

number_calm : (m n : ℕ) (bytes back : List ℕ) (r : ℕ) → r ≤ 8 → NumberWithin m (Ok n) bytes → Calm back r → Calm (bytes ++ back) (suc r)
number_calm zero n [] back r le is c = absurd is
number_calm zero n (b ∷ bytes) back r le is c = elim (where_one (nat_lt b 16) (Known (Ok b)) (Known (Err NumberTooLong)) (Ok n) bytes is) [
  | inl k ↦ one_byte b bytes back r le (known_none (Ok b) (Ok n) bytes k.1) c
  | inr k ↦ absurd (known_fault NumberTooLong n bytes k.1)
]
number_calm (suc m) n [] back r le is c = absurd is
number_calm (suc m) n (b ∷ bytes) back r le is c =
    elim (where_one (nat_lt b 128) (Known (Ok b)) (As (NumberWithin m) _) (Ok n) bytes is) [
      | inl k ↦ one_byte b bytes back r le (known_none (Ok b) (Ok n) bytes k.1) c
      | inr k ↦ let all = as_all (NumberWithin m) _ n bytes k.1 in more_bytes b bytes back r le k.0 (number_calm m all.0 bytes back r le all.1 c)
    ]

number_alone : (m n : ℕ) (bytes : List ℕ) → NumberWithin m (Ok n) bytes → Calm bytes 9
number_alone m n bytes is = calmer bytes 1 9 (omega arith) (subst (λ l. Calm l 1) (append-nil bytes) (number_calm m n bytes [] 0 (omega arith) is tt))

stamp_short : (m : ℕ) (st : Stamp) (bytes : List ℕ) → StampWithin m (Ok st) bytes → length bytes ≤ m + 1
stamp_short zero st [] is = absurd is
stamp_short zero st (b ∷ bytes) is = omega (arith, ap length (known_none _ (Ok st) bytes is))
stamp_short (suc m) st [] is = absurd is
stamp_short (suc m) st (b ∷ bytes) is = elim (where_one (nat_lt b 128) (Known _) (As (StampWithin m) _) (Ok st) bytes is) [
  | inl k ↦ omega (arith, ap length (known_none _ (Ok st) bytes k.1))
  | inr k ↦ let all = as_all (StampWithin m) _ st bytes k.1 in omega (arith, stamp_short m all.0 bytes all.1)
]

-- ---- trace info

abbrev CalmPart : Part ℕ → Type 0
CalmPart part = (n : ℕ) (bytes back : List ℕ) (r : ℕ) → r ≤ 8 → part (Ok n) bytes → Calm back r → Calm (bytes ++ back) (suc r)

section_calm : (there : Bool) (part : Part ℕ) (o : Option ℕ) (bytes back : List ℕ) (r : ℕ)
    → CalmPart part → r ≤ 8 → Section there part (Ok o) bytes → Calm back r → Calm (bytes ++ back) (suc r)
section_calm there part o bytes back r calm le is c = elim (where_one there (As part (λ n. Some n)) (Known (Ok None)) (Ok o) bytes is) [
  | inl k ↦ let all = as_all part (λ n. Some n) o bytes k.1 in calm all.0 bytes back r le all.1 c
  | inr k ↦ subst (λ l. Calm (l ++ back) (suc r)) (sym (known_none (Ok None) (Ok o) bytes k.1)) (calmer back r (suc r) (omega arith) c)
]

mode_calm : CalmPart Mode
mode_calm n bytes back r le (inl (m, front, rest, e, is, k)) c =
    let none = known_none (if m == 0 then Ok m else Err (InfoMode m)) (Ok n) rest k in
    number_calm 4 m bytes back r le (subst (λ l. Number (Ok m) l) (sym (e ∙ ap (λ l. front ++ l) none ∙ append-nil front)) is) c
mode_calm n bytes back r le (inr (f, e, is)) c = absurd (well_or_not n f e)

four_calm : (a b c d bytes x y : List ℕ) → bytes ≡ a ++ x → x ≡ b ++ y → y ≡ c ++ d → Calm (a ++ (b ++ (c ++ d))) 8 → Calm bytes 8
four_calm a b c d bytes x y e f g h = subst (λ l. Calm l 8) (sym (e ∙ ap (λ l. a ++ l) (f ∙ ap (λ l. b ++ l) g))) h

info_rest : (control : ℕ) (p : Packet) (bytes : List ℕ)
    → Then (Section (bit 0 control) Mode) (λ info. Then (Section (bit 1 control) Number) (λ key.
    Then (Section (bit 2 control) Number) (λ spec. As (Section (bit 3 control) Number) (λ cyct. Info info key spec cyct)))) (Ok p) bytes → Calm bytes 8
info_rest control p bytes (inr (f, e, is)) = absurd (well_or_not p f e)
info_rest control p bytes (inl (a, f1, b1, e1, i1, inr (f, e, is))) = absurd (well_or_not p f e)
info_rest control p bytes (inl (a, f1, b1, e1, i1, inl (b, f2, b2, e2, i2, inr (f, e, is)))) = absurd (well_or_not p f e)
info_rest control p bytes (inl (a, f1, b1, e1, i1, inl (b, f2, b2, e2, i2, inl (c, f3, b3, e3, i3, k)))) =
    let last = as_all (Section (bit 3 control) Number) _ p b3 k in
    let num : CalmPart Number = number_calm 4 in
    let c4 : Calm b3 5 = subst (λ l. Calm l 5) (append-nil b3) (section_calm (bit 3 control) Number last.0 b3 [] 4 num (omega arith) last.1 tt) in
    let c3 = section_calm (bit 2 control) Number c f3 b3 5 num (omega arith) i3 c4 in
    let c2 = section_calm (bit 1 control) Number b f2 (f3 ++ b3) 6 num (omega arith) i2 c3 in
    let c1 = section_calm (bit 0 control) Mode a f1 (f2 ++ (f3 ++ b3)) 7 mode_calm (omega arith) i1 c2 in
    four_calm f1 f2 f3 b3 bytes b1 b2 e1 e2 e3 c1

any_byte : (b : ℕ) (bytes : List ℕ) → Calm bytes 8 → Calm (b ∷ bytes) 9
any_byte zero bytes c = c
any_byte (suc b) bytes c = calmer bytes 8 9 (omega arith) c

info_calm : (p : Packet) (bytes : List ℕ) → TraceInfo (Ok p) bytes → Calm bytes 9
info_calm p [] is = absurd is
info_calm p (control ∷ bytes) is = elim (where_one (nat_lt control 16) _ (Known (Err (InfoControl control))) (Ok p) bytes is) [
  | inl k ↦ any_byte control bytes (info_rest control p bytes k.1)
  | inr k ↦ absurd (known_fault (InfoControl control) p bytes k.1)
]

-- ---- contexts

vmid_few : (n : ℕ) → IsTrue (is_vmid_size n) → n ≤ 4
vmid_few n e = grind (arith, nat_tests, e)

cid_few : (n : ℕ) → IsTrue (is_cid_size n) → n ≤ 4
cid_few n e = grind (arith, nat_tests, e)

field_short : (there : Bool) (size : ℕ) (o : Option ℕ) (bytes : List ℕ) → Field there size (Ok o) bytes → length bytes ≤ size
field_short there size o bytes is =
    elim (where_one (there && not (size == 0)) (As (Bytes size) (λ given. Some (little given))) (Known (Ok None)) (Ok o) bytes is) [
      | inl k ↦ let all = as_all (Bytes size) (λ given. Some (little given)) o bytes k.1 in omega (arith, all.1.1)
      | inr k ↦ omega (arith, ap length (known_none (Ok None) (Ok o) bytes k.1))
    ]

fields_short : (s : Sizes) (v c : Bool) (made : Option ℕ → Option ℕ → CtxBits) (o : CtxBits) (bytes : List ℕ) → AreSettings s
    → Then (Field v s.vmid_bytes) (λ vmid. As (Field c s.cid_bytes) (λ cid. made vmid cid)) (Ok o) bytes → length bytes ≤ 8
fields_short s v c made o bytes are (inl (x, front, back, e, is, k)) =
    let all = as_all (Field c s.cid_bytes) (λ cid. made x cid) o back k in
    omega (
      arith,
      ap length e,
      length-append front back,
      field_short v s.vmid_bytes x front is,
      field_short c s.cid_bytes all.0 back all.1,
      vmid_few s.vmid_bytes are.vmid,
      cid_few s.cid_bytes are.cid,
    )
fields_short s v c made o bytes are (inr (f, e, is)) = absurd (well_or_not o f e)

behind_info : (info : ℕ) (bytes : List ℕ) (r : ℕ) → bit 4 info ≡ true → length bytes ≤ 8 → Calm (info ∷ bytes) r
behind_info zero bytes r e le = absurd cc
behind_info (suc info) bytes r e le = short bytes 9 (omega (arith, le)) (omega arith)

context_calm : (s : Sizes) (o : CtxBits) (bytes : List ℕ) → AreSettings s → Context s (Ok o) bytes → (r : ℕ) → Calm bytes r
context_calm s o [] are is r = absurd is
context_calm s o (info ∷ bytes) are is r = elim (where_one (bit 4 info) _ (Known (Err (Aarch32Context info))) (Ok o) bytes is) [
  | inl k ↦ behind_info info bytes r k.0 (fields_short s (bit 6 info) (bit 7 info) _ o bytes are k.1)
  | inr k ↦ absurd (known_fault (Aarch32Context info) o bytes k.1)
]

-- ---- addresses

second_byte : (a base : ℕ) (o : AddrForm) (bytes : List ℕ) → Byte (λ b. Known (Ok (Short2 (base + b * 2 ^ 9)))) (Ok o) bytes → length (a ∷ bytes) ≤ 2
second_byte a base o [] k = absurd k
second_byte a base o (b ∷ bytes) k = omega (arith, ap length (known_none (Ok (Short2 (base + b * 2 ^ 9))) (Ok o) bytes k))

short_short : (o : AddrForm) (bytes : List ℕ) → ShortAddress (Ok o) bytes → length bytes ≤ 2
short_short o [] is = absurd is
short_short o (a ∷ bytes) is =
    elim (where_one (nat_lt a 128) (Known (Ok (Short1 (a * 4)))) (Byte (λ b. Known (Ok (Short2 ((a - 128) * 4 + b * 2 ^ 9))))) (Ok o) bytes is) [
      | inl k ↦ omega (arith, ap length (known_none (Ok (Short1 (a * 4))) (Ok o) bytes k.1))
      | inr k ↦ second_byte a ((a - 128) * 4) o bytes k.1
    ]

long_32 : (o : AddrForm) (bytes : List ℕ) → LongAddress32 (Ok o) bytes → length bytes ≤ 4
long_32 o bytes is = let all = as_all (Bytes 4) (λ given. Long32 (address_of given)) o bytes is in omega (arith, all.1.1)

long_64 : (o : AddrForm) (bytes : List ℕ) → LongAddress64 (Ok o) bytes → length bytes ≤ 8
long_64 o bytes is = let all = as_all (Bytes 8) (λ given. Long64 (address_of given)) o bytes is in omega (arith, all.1.1)

-- ---- packets

header : (h : ℕ) (rest text : List ℕ) → 0 < h → text ≡ h ∷ rest → Calm rest 9 → Tame text
header h rest text lt e c = subst Tame (sym e) (with_header h rest lt c)

alone : (h : ℕ) (text : List ℕ) → 0 < h → text ≡ h ∷ [] → Tame text
alone h text lt e = header h [] text lt e tt

pub tame : (s : Sizes) → AreSettings s → (p : Packet) (text : List ℕ) → SpellsPacket s p text → (p ≡ Async) ⊎ Tame text
tame s are Async text is = inl refl
tame s are Discard text is = inr (subst Tame (sym is) (record { calm = tt; head = λ rest. omega arith; some = omega arith }))
tame s are Overflow text is = inr (subst Tame (sym is) (record { calm = tt; head = λ rest. omega arith; some = omega arith }))
tame s are (Info info key spec cyct) text (rest, e, is) = inr (header 1 rest text (omega arith) e (info_calm _ rest is))
tame s are (Time bits low) text (rest, e, is) = inr (header 2 rest text (omega arith) e (short rest 9 (omega (arith, stamp_short 8 _ rest is)) (omega arith)))
tame s are On text is = inr (alone 4 text (omega arith) is)
tame s are (Exc kind target) text (b, e, f, g, h, i) = inr (header 6 (b ∷ []) text (omega arith) e (short (b ∷ []) 9 (omega arith) (omega arith)))
tame s are (Commit n) text (rest, e, is) = inr (header 0x2d rest text (omega arith) e (number_alone 4 n rest is))
tame s are (Cancel n true) text (rest, e, is) = inr (header 0x2f rest text (omega arith) e (number_alone 4 n rest is))
tame s are (Cancel n false) text (rest, e, is) = inr (header 0x2e rest text (omega arith) e (number_alone 4 n rest is))
tame s are (Mispredict few) text (h, is, more) = inr (alone h text (omega (arith, is.0)) is.2)
tame s are (Cancel2 few) text (h, is, more) = inr (alone h text (omega (arith, is.0)) is.2)
tame s are (Cancel3 e n) text (h, is, more, again) = inr (alone h text (omega (arith, is.0)) is.2)
tame s are Ignore text is = inr (alone 0x70 text (omega arith) is)
tame s are (Event n) text (h, is, more) = inr (alone h text (omega (arith, is.0)) is.2)
tame s are CtxSame text is = inr (alone 0x80 text (omega arith) is)
tame s are (CtxInfo ctx) text (rest, e, is) = inr (header 0x81 rest text (omega arith) e (context_calm s ctx rest are is 9))
tame s are (Addr (Long32 a) (Some ctx)) text (given, rest, e, is, more) =
    inr (header 0x82 (given ++ rest) text (omega arith) e
    (joined given rest 9 (omega (arith, long_32 _ given is)) (omega arith) (context_calm s ctx rest are more)))
tame s are (Addr (Long64 a) (Some ctx)) text (given, rest, e, is, more) =
    inr (header 0x85 (given ++ rest) text (omega arith) e
    (joined given rest 9 (omega (arith, long_64 _ given is)) (omega arith) (context_calm s ctx rest are more)))
tame s are (Addr (Match index) (Some ctx)) text is = absurd is
tame s are (Addr (Short1 a) (Some ctx)) text is = absurd is
tame s are (Addr (Short2 a) (Some ctx)) text is = absurd is
tame s are (Addr (Match index) None) text (h, is, more) = inr (alone h text (omega (arith, is.0)) is.2)
tame s are (Addr (Short1 a) None) text (rest, e, is) =
    inr (header 0x95 rest text (omega arith) e (short rest 9 (omega (arith, short_short _ rest is)) (omega arith)))
tame s are (Addr (Short2 a) None) text (rest, e, is) =
    inr (header 0x95 rest text (omega arith) e (short rest 9 (omega (arith, short_short _ rest is)) (omega arith)))
tame s are (Addr (Long32 a) None) text (rest, e, is) =
    inr (header 0x9a rest text (omega arith) e (short rest 9 (omega (arith, long_32 _ rest is)) (omega arith)))
tame s are (Addr (Long64 a) None) text (rest, e, is) =
    inr (header 0x9d rest text (omega arith) e (short rest 9 (omega (arith, long_64 _ rest is)) (omega arith)))
tame s are (Atoms run) text (h, is, more, again) = inr (alone h text (omega (arith, is.0)) is.2)
