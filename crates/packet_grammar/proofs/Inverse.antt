-- The spellings of a packet by its own section, and by the table of headers.
use Rattle.std.proofs.Common.{◌⊎◌, ◌≡◌, ℕ, zero, suc, ◌+◌, ◌-◌, ◌*◌, ◌^◌, ◌/◌, ◌%◌, ◌<◌, ◌≤◌, ◌==◌, ◌&&◌, ◌||◌, not, Bool, true, false}
use Rattle.std.proofs.Common.{List, [], ◌∷◌, ◌++◌, Option, Some, None, Ok, Err, nat_le, nat_lt, refl, sym, ap, subst, ◌∙◌, append-nil, inl, inr, arith}
use Rattle.std.specs.Prelude.{if◌then◌else◌, replicate}
use Rattle.std.specs.List.{list_all}
use Rattle.std.proofs.Math.Bool.{beq}
use Rattle.std.proofs.lemmas.Bool.{agree_below_at, and_parts, cases_lt, eqb-true, leb-true, ltb-true}
use Rattle.etm_types.specs.SameContext.{same_flag}
use Rattle.etm_types.specs.Settings.{Sizes}
use Rattle.etm_types.specs.Atoms.{atoms_in}
use Rattle.etm_types.specs.declared.address.AddrForm.{AddrForm}
use Rattle.etm_types.specs.declared.address.AddrForm.TheVariants.{Match, Short1, Short2, Long32, Long64}
use Rattle.etm_types.specs.declared.atoms.FewAtoms.{FewAtoms}
use Rattle.atom_formats.specs.Formats.{Spells as TellsAtoms}
use Rattle.atom_formats.proofs.Table.{each_from}
use Rattle.packet_grammar.specs.declared.packet.Packet.{Packet}
use Rattle.packet_grammar.specs.declared.packet.Packet.TheVariants.{Async, Discard, Overflow, Info, On, Ignore, Event, Time, Exc}
use Rattle.packet_grammar.specs.declared.packet.Packet.TheVariants.{Commit, Cancel, Mispredict, Cancel2, Cancel3, CtxSame, CtxInfo, Addr, Atoms}
use Rattle.packet_grammar.specs.declared.fault.PacketFault.{PacketFault}
use Rattle.packet_grammar.specs.declared.fault.PacketFault.TheVariants.{ExceptionTwoByte, ExceptionForm, InfoControl}
use Rattle.packet_grammar.specs.Parts.{Outcome, Part, Known, Byte, Bytes, Where, Then, As}
use Rattle.packet_grammar.specs.Numbers.{Number, Stamp, StampWithin, TimeStamp}
use Rattle.packet_grammar.specs.Fields.{bit}
use Rattle.packet_grammar.specs.Contexts.{Context, ShortAddress, LongAddress32, LongAddress64, address_of}
use Rattle.packet_grammar.specs.Headers.{few_atoms, refused_headers, fault_in}
use Rattle.packet_grammar.proofs.Table.{Body, alone, atoms, extension, trace_info, time_stamp, exception, commit, cancel, context, short_address, long_32}
use Rattle.packet_grammar.proofs.Table.{long_64, long_32_with_context, long_64_with_context, headers, body_in}
use Rattle.packet_grammar.proofs.Table.{body_of, pick, whole, Follows, Told, AfterZero, AtomsOf, Exception, exception_by}
use Rattle.packet_grammar.specs.Spelling.{Section, Mode, TraceInfo, SpellsPacket, OneOf}
use Rattle.packet_grammar.specs.Faults.{SpellsFault, ShowsAt, FaultyPart, in_header, in_sync}
use Rattle.packet_grammar.specs.Faults.{in_info, in_exception, in_number, in_context, in_context_of_32, in_context_of_64}
use Rattle.packet_grammar.specs.Parsed.{Spells}

-- a value of another value's part
pub as_ok : {A B : Type 0} (part : Part A) (made : A → B) (y : B) (bytes : List ℕ) → As part made (Ok y) bytes → (x : A) × part (Ok x) bytes × (y ≡ made x)
as_ok part made y bytes (inl (x, front, [], parts, is, e)) = (x, subst (λ t. part (Ok x) t) (sym (parts ∙ append-nil front)) is, cc)
as_ok part made y bytes (inl (x, front, b ∷ back, parts, is, e)) = absurd e
as_ok part made y bytes (inr (f, e, is)) = absurd cc

pub as_back : {A B : Type 0} (part : Part A) (made : A → B) (x : A) (bytes : List ℕ) → part (Ok x) bytes → As part made (Ok (made x)) bytes
as_back part made x bytes is = inl (x, bytes, [], sym (append-nil bytes), is, refl)

-- which row a header has
abbrev index_in : List (ℕ × ℕ × (ℕ → Body)) → ℕ → ℕ
index_in [] h = 0
index_in (row ∷ rows) h = if nat_le row.0 h && nat_le h row.1 then 0 else suc (index_in rows h)

abbrev nth_body : List (ℕ × ℕ × (ℕ → Body)) → ℕ → ℕ → Option Body
nth_body [] k h = None
nth_body (row ∷ rows) zero h = Some (row.2 h)
nth_body (row ∷ rows) (suc k) h = nth_body rows k h

by_test : (row : ℕ × ℕ × (ℕ → Body)) (rows : List (ℕ × ℕ × (ℕ → Body))) (h : ℕ) (test : Bool) → body_in rows h ≡ nth_body rows (index_in rows h) h
    → (if test then Some (row.2 h) else body_in rows h) ≡ nth_body (row ∷ rows) (if test then 0 else suc (index_in rows h)) h
by_test row rows h true later = refl
by_test row rows h false later = later

by_index : (rows : List (ℕ × ℕ × (ℕ → Body))) (h : ℕ) → body_in rows h ≡ nth_body rows (index_in rows h) h
by_index [] h = refl
by_index (row ∷ rows) h = by_test row rows h (nat_le row.0 h && nat_le h row.1) (by_index rows h)

in_row : (k h : ℕ) → (index_in headers h == k) ≡ true → body_of h ≡ pick (nth_body headers k h) (fault_in refused_headers h)
in_row k h e = ap (λ x. pick x (fault_in refused_headers h)) (by_index headers h ∙ ap (λ (n : ℕ). nth_body headers n h) (eqb-true (index_in headers h) k e))

event_row : (h : ℕ) → 113 ≤ h → h ≤ 127 → body_of h ≡ Some (whole (Event (h % 16)))
unfolding headers
event_row h least most = in_row 12 h (each_from 113 14 (λ (b : ℕ). index_in headers b == 12) refl h least most)

exc_known : (x7 x6 x0 target : Bool) (b kind : ℕ) → x7 ≡ false → x6 ≡ target → x0 ≡ not target → kind ≡ b / 2 % 32
    → ◌≡◌ {A = Outcome Packet} (Ok (Exc kind target)) (exception_by x7 x6 x0 b)
exc_known false false true false b kind a c d e = ap (λ k. Ok (Exc k false)) e
exc_known false true false true b kind a c d e = ap (λ k. Ok (Exc k true)) e
exc_known true x6 x0 target b kind a c d e = absurd cc
exc_known false true x0 false b kind a c d e = absurd cc
exc_known false false x0 true b kind a c d e = absurd cc
exc_known false false false false b kind a c d e = absurd cc
exc_known false true true true b kind a c d e = absurd cc

pub packet_back : (s : Sizes) (p : Packet) (bytes : List ℕ) → SpellsPacket s p bytes → Told s (Ok p) bytes
unfolding headers refused_headers
packet_back s Async bytes is = record { header = 0; rest = replicate 10 0 ++ 128 ∷ []; body = extension; whole = is; says = refl; follows = refl }
packet_back s Discard bytes is = record { header = 0; rest = 3 ∷ []; body = extension; whole = is; says = refl; follows = refl }
packet_back s Overflow bytes is = record { header = 0; rest = 5 ∷ []; body = extension; whole = is; says = refl; follows = refl }
packet_back s (Info info key spec cyct) bytes (rest, e, is) = record { header = 1; rest = rest; body = trace_info; whole = e; says = refl; follows = is }
packet_back s (Time bits low) bytes (rest, e, is) =
    record {
      header = 2;
      rest = rest;
      body = time_stamp;
      whole = e;
      says = refl;
      follows = as_back TimeStamp (λ stamp. Time stamp.bits stamp.low)
          (record { bits = bits; low = low }) rest is;
    }
packet_back s On bytes is = record { header = 4; rest = []; body = whole On; whole = is; says = refl; follows = refl }
packet_back s (Exc kind target) bytes (b, e, b7, b6, b0, k) = record {
  header = 6;
  rest = b ∷ [];
  body = exception;
  whole = e;
  says = refl;
  follows = exc_known (bit 7 b) (bit 6 b) (bit 0 b) target b kind b7 b6 b0 k;
}
packet_back s (Commit n) bytes (rest, e, is) = record
    { header = 45; rest = rest; body = commit; whole = e; says = refl; follows = as_back Number (λ m. Commit m) n rest is }
packet_back s (Cancel n true) bytes (rest, e, is) =
    record { header = 47; rest = rest; body = cancel true; whole = e; says = refl; follows = as_back Number (λ m. Cancel m true) n rest is }
packet_back s (Cancel n false) bytes (rest, e, is) =
    record { header = 46; rest = rest; body = cancel false; whole = e; says = refl; follows = as_back Number (λ m. Cancel m false) n rest is }
packet_back s (Mispredict few) bytes (h, (least, most, e), f) =
    let row = in_row 8 h (each_from 48 3 (λ (b : ℕ). index_in headers b == 8) refl h least most) in
    record { header = h; rest = []; body = whole (Mispredict few); whole = e; says = row ∙ ap (λ x. Some (whole (Mispredict x))) (sym f); follows = refl }
packet_back s (Cancel2 few) bytes (h, (least, most, e), f) =
    let row = in_row 9 h (each_from 52 3 (λ (b : ℕ). index_in headers b == 9) refl h least most) in
    record { header = h; rest = []; body = whole (Cancel2 few); whole = e; says = row ∙ ap (λ x. Some (whole (Cancel2 x))) (sym f); follows = refl }
packet_back s (Cancel3 one n) bytes (h, (least, most, e), f, g) =
    let row = in_row 10 h (each_from 56 7 (λ (b : ℕ). index_in headers b == 10) refl h least most) in
    record { header = h; rest = []; body = whole (Cancel3 one n); whole = e; says = row ∙ (λ i. Some (whole (Cancel3 (sym f i) (sym g i)))); follows = refl }
packet_back s Ignore bytes is = record { header = 112; rest = []; body = whole Ignore; whole = is; says = refl; follows = refl }
packet_back s (Event n) bytes (h, (least, most, e), f) =
    record {
      header = h;
      rest = [];
      body = whole (Event n);
      whole = e;
      says = event_row h least most
          ∙ ap (λ x. Some (whole (Event x))) (sym f);
      follows = refl;
    }
packet_back s CtxSame bytes is = record { header = 128; rest = []; body = whole CtxSame; whole = is; says = refl; follows = refl }
packet_back s (CtxInfo ctx) bytes (rest, e, is) =
    record { header = 129; rest = rest; body = context; whole = e; says = refl; follows = as_back (Context s) (λ c. CtxInfo c) ctx rest is }
packet_back s (Addr (Long32 a) (Some ctx)) bytes (given, rest, e, is, is_context) =
    record {
      header = 130;
      rest = given ++ rest;
      body = long_32_with_context;
      whole = e;
      says = refl;
      follows = inl
          (Long32 a, given, rest, refl, is, as_back (Context s) (λ c. Addr (Long32 a) (Some c)) ctx rest is_context);
    }
packet_back s (Addr (Long64 a) (Some ctx)) bytes (given, rest, e, is, is_context) =
    record {
      header = 133;
      rest = given ++ rest;
      body = long_64_with_context;
      whole = e;
      says = refl;
      follows = inl
          (Long64 a, given, rest, refl, is, as_back (Context s) (λ c. Addr (Long64 a) (Some c)) ctx rest is_context);
    }
packet_back s (Addr (Match index) (Some ctx)) bytes is = absurd is
packet_back s (Addr (Short1 a) (Some ctx)) bytes is = absurd is
packet_back s (Addr (Short2 a) (Some ctx)) bytes is = absurd is
packet_back s (Addr (Match index) None) bytes (h, (least, most, e), f) =
    let row = in_row 17 h (each_from 144 2 (λ (b : ℕ). index_in headers b == 17) refl h least most) in
    record {
      header = h;
      rest = [];
      body = whole (Addr (Match index) None);
      whole = e;
      says = row
          ∙ ap (λ x. Some (whole (Addr (Match x) None))) (sym f);
      follows = refl;
    }
packet_back s (Addr (Short1 a) None) bytes (rest, e, is) =
    record {
      header = 149;
      rest = rest;
      body = short_address;
      whole = e;
      says = refl;
      follows = as_back ShortAddress (λ form. Addr form None) (Short1 a) rest
          is;
    }
packet_back s (Addr (Short2 a) None) bytes (rest, e, is) =
    record {
      header = 149;
      rest = rest;
      body = short_address;
      whole = e;
      says = refl;
      follows = as_back ShortAddress (λ form. Addr form None) (Short2 a) rest
          is;
    }
packet_back s (Addr (Long32 a) None) bytes (rest, e, is) =
    record { header = 154; rest = rest; body = long_32; whole = e; says = refl; follows = as_back LongAddress32 (λ form. Addr form None) (Long32 a) rest is }
packet_back s (Addr (Long64 a) None) bytes (rest, e, is) =
    record { header = 157; rest = rest; body = long_64; whole = e; says = refl; follows = as_back LongAddress64 (λ form. Addr form None) (Long64 a) rest is }
packet_back s (Atoms run) bytes (h, (least, most, e), fits, tells) =
    let row = in_row 21 h (each_from 192 63 (λ (b : ℕ). index_in headers b == 21) refl h least most) in
    record { header = h; rest = []; body = atoms h; whole = e; says = row; follows = (run, refl, fits, tells, refl) }

same_bool : (a b : Bool) → beq a b ≡ true → a ≡ b
same_bool true true e = refl
same_bool false false e = refl
same_bool true false e = absurd cc
same_bool false true e = absurd cc

abbrev same_few : FewAtoms → FewAtoms → Bool
same_few a b = (a.count == b.count) && beq a.first b.first

few_same : (a b : FewAtoms) → same_few a b ≡ true → a ≡ b
few_same a b e =
    let parts = and_parts (a.count == b.count) (beq a.first b.first) e in
    let counts = eqb-true a.count b.count parts.0 in
    let firsts = same_bool a.first b.first parts.1 in
    (λ i. record { count = counts i; first = firsts i })

abbrev between : ℕ → ℕ → ℕ → Bool
between low high h = nat_le low h && nat_le h high

-- whether a packet of one byte has this one
abbrev fits_packet : ℕ → Packet → Bool
fits_packet h On = h == 4
fits_packet h (Mispredict few) = between 48 51 h && same_few few (few_atoms h)
fits_packet h (Cancel2 few) = between 52 55 h && same_few few (few_atoms h)
fits_packet h (Cancel3 e n) = between 56 63 h && (beq e (h % 2 == 1) && (n == h / 2 % 4 + 2))
fits_packet h Ignore = h == 112
fits_packet h (Event n) = between 113 127 h && (n == h % 16)
fits_packet h CtxSame = h == 128
fits_packet h (Addr (Match index) None) = between 144 146 h && (index == h - 144)
fits_packet h _ = false

-- whether what a header says is of this header
abbrev fits : ℕ → Body → Bool
fits h (alone (Ok p)) = fits_packet h p
fits h (alone (Err f)) = true
fits h (atoms k) = between 192 255 h && (k == h)
fits h extension = h == 0
fits h trace_info = h == 1
fits h time_stamp = h == 2
fits h exception = h == 6
fits h commit = h == 45
fits h (cancel flip) = h == (if flip then 47 else 46)
fits h context = h == 129
fits h short_address = h == 149
fits h long_32 = h == 154
fits h long_64 = h == 157
fits h long_32_with_context = h == 130
fits h long_64_with_context = h == 133

abbrev fits_found : ℕ → Option Body → Bool
fits_found h None = true
fits_found h (Some body) = fits h body

fits_below : (h : ℕ) → h < 256 → fits_found h (body_of h) ≡ true
unfolding headers refused_headers
fits_below h below = agree_below_at (λ (j : ℕ). fits_found j (body_of j)) (λ _. true) 256 h refl below

row_below : (row : ℕ × ℕ × (ℕ → Body)) (rows : List (ℕ × ℕ × (ℕ → Body))) (h : ℕ) (body : Body) (test : Bool) → (nat_le row.0 h && nat_le h row.1) ≡ test
    → nat_lt row.1 256 ≡ true
    → (body_in rows h ≡ Some body → h < 256) → (if test then Some (row.2 h) else body_in rows h) ≡ Some body → h < 256
row_below row rows h body true inside low later e =
    let upper = leb-true h row.1 (and_parts (nat_le row.0 h) (nat_le h row.1) inside).1 in
    omega (arith, upper, ltb-true row.1 256 low)
row_below row rows h body false outside low later e = later e

rows_below : (rows : List (ℕ × ℕ × (ℕ → Body))) → list_all (λ row. nat_lt row.1 256) rows ≡ true → (h : ℕ) (body : Body) → body_in rows h ≡ Some body → h < 256
rows_below [] all h body e = absurd cc
rows_below (row ∷ rows) all h body e =
    let parts = and_parts (nat_lt row.1 256) (list_all (λ (r : ℕ × ℕ × (ℕ → Body)). nat_lt r.1 256) rows) all in
    row_below row rows h body (nat_le row.0 h && nat_le h row.1) refl parts.0 (rows_below rows parts.1 h body) e

all_below : list_all (λ row. nat_lt row.1 256) headers ≡ true
unfolding headers
all_below = refl

fault_below : (row : ℕ × ℕ × (ℕ → PacketFault)) (rows : List (ℕ × ℕ × (ℕ → PacketFault))) (h : ℕ) (f : PacketFault) (test : Bool)
    → (nat_le row.0 h && nat_le h row.1) ≡ test
    → nat_lt row.1 256 ≡ true → (fault_in rows h ≡ Some f → h < 256) → (if test then Some (row.2 h) else fault_in rows h) ≡ Some f → h < 256
fault_below row rows h f true inside low later e =
    let upper = leb-true h row.1 (and_parts (nat_le row.0 h) (nat_le h row.1) inside).1 in
    omega (arith, upper, ltb-true row.1 256 low)
fault_below row rows h f false outside low later e = later e

faults_below : (rows : List (ℕ × ℕ × (ℕ → PacketFault))) → list_all (λ row. nat_lt row.1 256) rows ≡ true → (h : ℕ) (f : PacketFault)
    → fault_in rows h ≡ Some f → h < 256
faults_below [] all h f e = absurd cc
faults_below (row ∷ rows) all h f e =
    let parts = and_parts (nat_lt row.1 256) (list_all (λ (r : ℕ × ℕ × (ℕ → PacketFault)). nat_lt r.1 256) rows) all in
    fault_below row rows h f (nat_le row.0 h && nat_le h row.1) refl parts.0 (faults_below rows parts.1 h f) e

all_faults_below : list_all (λ row. nat_lt row.1 256) refused_headers ≡ true
unfolding refused_headers
all_faults_below = refl

pick_below : (h : ℕ) (body : Body) (found : Option Body) (shown : Option PacketFault) → body_in headers h ≡ found → fault_in refused_headers h ≡ shown
    → pick found shown ≡ Some body → h < 256
pick_below h body (Some b) shown e f is = rows_below headers all_below h b e
pick_below h body None (Some g) e f is = faults_below refused_headers all_faults_below h g f
pick_below h body None None e f is = absurd cc

header_below : (h : ℕ) (body : Body) → body_of h ≡ Some body → h < 256
header_below h body e = pick_below h body (body_in headers h) (fault_in refused_headers h) refl refl e

body_fits : (h : ℕ) (body : Body) → body_of h ≡ Some body → fits h body ≡ true
body_fits h body e = ap (fits_found h) (sym e) ∙ fits_below h (header_below h body e)

by_packet : (s : Sizes) (p q : Packet) (bytes : List ℕ) → p ≡ q → SpellsPacket s q bytes → SpellsPacket s p bytes
by_packet s p q bytes e is = subst (λ r. SpellsPacket s r bytes) (sym e) is

one_of : (low high h : ℕ) → between low high h ≡ true → OneOf low high h (h ∷ [])
one_of low high h e = let parts = and_parts (nat_le low h) (nat_le h high) e in (leb-true low h parts.0, leb-true h high parts.1, refl)

-- a packet of one byte
alone_to : (s : Sizes) (p : Packet) (h : ℕ) → fits_packet h p ≡ true → SpellsPacket s p (h ∷ [])
alone_to s On h e = let z = eqb-true h 4 e in (λ i. z i ∷ [])
alone_to s (Mispredict few) h e = let parts = and_parts (between 48 51 h) (same_few few (few_atoms h)) e in
    (h, one_of 48 51 h parts.0, few_same few (few_atoms h) parts.1)
alone_to s (Cancel2 few) h e = let parts = and_parts (between 52 55 h) (same_few few (few_atoms h)) e in
    (h, one_of 52 55 h parts.0, few_same few (few_atoms h) parts.1)
alone_to s (Cancel3 one n) h e =
    let parts = and_parts (between 56 63 h) (beq one (h % 2 == 1) && (n == h / 2 % 4 + 2)) e in
    let fields = and_parts (beq one (h % 2 == 1)) (n == h / 2 % 4 + 2) parts.1 in
    (h, one_of 56 63 h parts.0, same_bool one (h % 2 == 1) fields.0, eqb-true n (h / 2 % 4 + 2) fields.1)
alone_to s Ignore h e = let z = eqb-true h 112 e in (λ i. z i ∷ [])
alone_to s (Event n) h e = let parts = and_parts (between 113 127 h) (n == h % 16) e in (h, one_of 113 127 h parts.0, eqb-true n (h % 16) parts.1)
alone_to s CtxSame h e = let z = eqb-true h 128 e in (λ i. z i ∷ [])
alone_to s (Addr (Match index) None) h e = let parts = and_parts (between 144 146 h) (index == h - 144) e in
    (h, one_of 144 146 h parts.0, eqb-true index (h - 144) parts.1)
alone_to s p h e = absurd cc

same_packet : (p q : Packet) → ◌≡◌ {A = Outcome Packet} (Ok p) (Ok q) → p ≡ q
same_packet p q e = cc

known_to : (s : Sizes) (p : Packet) (h : ℕ) (rest : List ℕ) (outcome : Outcome Packet) → fits h (alone outcome) ≡ true → Known outcome (Ok p) rest
    → SpellsPacket s p (h ∷ rest)
known_to s p h [] (Ok q) e known = let same = same_packet p q known in by_packet s p q (h ∷ []) same (alone_to s q h e)
known_to s p h [] (Err f) e known = absurd cc
known_to s p h (b ∷ rest) outcome e known = absurd known

zero_to : (s : Sizes) (p : Packet) (h : ℕ) (rest : List ℕ) → h ≡ 0 → AfterZero (Ok p) rest → SpellsPacket s p (h ∷ rest)
zero_to s Async h rest z is = λ i. z i ∷ is i
zero_to s Discard h rest z is = λ i. z i ∷ is i
zero_to s Overflow h rest z is = λ i. z i ∷ is i
zero_to s p h rest z is = absurd is

-- a value of a part that another follows
pub then_ok : {A B : Type 0} (first : Part A) (next : A → Part B) (y : B) (bytes : List ℕ) → Then first next (Ok y) bytes
    → (x : A) × (front : List ℕ) × (back : List ℕ) × (bytes ≡ front ++ back) × first (Ok x) front × next x (Ok y) back
then_ok first next y bytes (inl is) = is
then_ok first next y bytes (inr (f, e, is)) = absurd cc

pub record IsInfo (p : Packet) : Type 0 where
  pub info : Option ℕ
  pub key : Option ℕ
  pub spec : Option ℕ
  pub cyct : Option ℕ
  pub is : p ≡ Info info key spec cyct

sections_to : (control : ℕ) (p : Packet) (bytes : List ℕ)
    → Then (Section (bit 0 control) Mode) (λ info. Then (Section (bit 1 control) Number) (λ key.
    Then (Section (bit 2 control) Number) (λ spec. As (Section (bit 3 control) Number) (λ cyct. Info info key spec cyct)))) (Ok p) bytes → IsInfo p
sections_to control p bytes is =
    let a = then_ok (Section (bit 0 control) Mode)
    (λ info. Then (Section (bit 1 control) Number)
    (λ key. Then (Section (bit 2 control) Number) (λ spec. As (Section (bit 3 control) Number) (λ cyct. Info info key spec cyct)))) p bytes is in
    let b =
    then_ok (Section (bit 1 control) Number)
    (λ key. Then (Section (bit 2 control) Number) (λ spec. As (Section (bit 3 control) Number) (λ cyct. Info a.0 key spec cyct))) p a.2 a.5 in
    let c = then_ok (Section (bit 2 control) Number) (λ spec. As (Section (bit 3 control) Number) (λ cyct. Info a.0 b.0 spec cyct)) p b.2 b.5 in
    let d = as_ok (Section (bit 3 control) Number) (λ cyct. Info a.0 b.0 c.0 cyct) p c.2 c.5 in
    record { info = a.0; key = b.0; spec = c.0; cyct = d.0; is = d.2 }

control_to : (control : ℕ) (p : Packet) (bytes : List ℕ) (test : Bool)
    → Where test (Then (Section (bit 0 control) Mode) (λ info. Then (Section (bit 1 control) Number) (λ key.
    Then (Section (bit 2 control) Number) (λ spec. As (Section (bit 3 control) Number) (λ cyct. Info info key spec cyct)))))
    (Known (Err (InfoControl control))) (Ok p) bytes → IsInfo p
control_to control p bytes true is = sections_to control p bytes is
control_to control p [] false is = absurd cc
control_to control p (b ∷ bytes) false is = absurd is

info_to : (p : Packet) (bytes : List ℕ) → TraceInfo (Ok p) bytes → IsInfo p
info_to p [] is = absurd is
info_to p (control ∷ bytes) is = control_to control p bytes (nat_lt control 16) is

exc_to : (s : Sizes) (x7 x6 x0 : Bool) (b : ℕ) (p : Packet) → bit 7 b ≡ x7 → bit 6 b ≡ x6 → bit 0 b ≡ x0
    → ◌≡◌ {A = Outcome Packet} (Ok p) (exception_by x7 x6 x0 b) → SpellsPacket s p (6 ∷ b ∷ [])
exc_to s false false true b p b7 b6 b0 e =
    by_packet s p (Exc (b / 2 % 32) false) (6 ∷ b ∷ []) (same_packet p (Exc (b / 2 % 32) false) e) (b, refl, b7, b6, b0, refl)
exc_to s false true false b p b7 b6 b0 e =
    by_packet s p (Exc (b / 2 % 32) true) (6 ∷ b ∷ []) (same_packet p (Exc (b / 2 % 32) true) e) (b, refl, b7, b6, b0, refl)
exc_to s true x6 x0 b p b7 b6 b0 e = absurd cc
exc_to s false true true b p b7 b6 b0 e = absurd cc
exc_to s false false false b p b7 b6 b0 e = absurd cc

exception_to : (s : Sizes) (p : Packet) (h : ℕ) (rest : List ℕ) → h ≡ 6 → Exception (Ok p) rest → SpellsPacket s p (h ∷ rest)
exception_to s p h [] z is = absurd is
exception_to s p h (b ∷ []) z is = subst (λ k. SpellsPacket s p (k ∷ b ∷ [])) (sym z) (exc_to s (bit 7 b) (bit 6 b) (bit 0 b) b p refl refl refl is)
exception_to s p h (b ∷ c ∷ rest) z is = absurd is

abbrev IsShort : AddrForm → Type 0
IsShort (Short1 a) = Unit {0}
IsShort (Short2 a) = Unit {0}
IsShort form = ⊥

same_form : (p q : AddrForm) → ◌≡◌ {A = Outcome AddrForm} (Ok p) (Ok q) → p ≡ q
same_form p q e = cc

short_kind : (form : AddrForm) (a : ℕ) (bytes : List ℕ) (test : Bool)
    → Where test (Known (Ok (Short1 (a * 4)))) (Byte (λ b. Known (Ok (Short2 ((a - 128) * 4 + b * 2 ^ 9))))) (Ok form) bytes → IsShort form
short_kind form a [] true is = subst IsShort (sym (same_form form (Short1 (a * 4)) is)) tt
short_kind form a (b ∷ bytes) true is = absurd is
short_kind form a [] false is = absurd is
short_kind form a (b ∷ []) false is = subst IsShort (sym (same_form form (Short2 ((a - 128) * 4 + b * 2 ^ 9)) is)) tt
short_kind form a (b ∷ c ∷ bytes) false is = absurd is

is_short : (form : AddrForm) (bytes : List ℕ) → ShortAddress (Ok form) bytes → IsShort form
is_short form [] is = absurd is
is_short form (a ∷ bytes) is = short_kind form a bytes (nat_lt a 128) is

short_to : (s : Sizes) (form : AddrForm) (h : ℕ) (rest : List ℕ) → h ≡ 149 → IsShort form → ShortAddress (Ok form) rest
    → SpellsPacket s (Addr form None) (h ∷ rest)
short_to s (Short1 a) h rest z short is = (rest, (λ i. z i ∷ rest), is)
short_to s (Short2 a) h rest z short is = (rest, (λ i. z i ∷ rest), is)
short_to s (Match index) h rest z short is = absurd short
short_to s (Long32 a) h rest z short is = absurd short
short_to s (Long64 a) h rest z short is = absurd short

cancel_to : (s : Sizes) (flip : Bool) (n h : ℕ) (rest : List ℕ) → h ≡ (if flip then 47 else 46) → Number (Ok n) rest
    → SpellsPacket s (Cancel n flip) (h ∷ rest)
cancel_to s flip n h rest z is = (rest, (λ i. z i ∷ rest), is)

module _ (s : Sizes) (p : Packet) (h : ℕ) (rest : List ℕ) where
  body_to : (body : Body) → fits h body ≡ true → Follows s body (Ok p) rest → SpellsPacket s p (h ∷ rest)
  body_to (alone outcome) e is = known_to s p h rest outcome e is
  body_to (atoms k) e (run, told, within, tells, none) =
      let parts = and_parts (between 192 255 h) (k == h) e in
      let same : k ≡ h = eqb-true k h parts.1 in
      let one = one_of 192 255 h parts.0 in
      by_packet s p (Atoms run) (h ∷ rest) (same_packet p (Atoms run) told)
      (h, (one.0, one.1, λ i. h ∷ none i), within, subst (λ n. TellsAtoms n (atoms_in run)) same tells)
  body_to extension e is = zero_to s p h rest (eqb-true h 0 e) is
  body_to trace_info e is =
      let z = eqb-true h 1 e in
      let info = info_to p rest is in
      by_packet s p (Info info.info info.key info.spec info.cyct) (h ∷ rest) info.is (rest, (λ i. z i ∷ rest), subst (λ q. TraceInfo (Ok q) rest) info.is is)
  body_to time_stamp e is =
      let z = eqb-true h 2 e in
      let x = as_ok TimeStamp (λ stamp. Time stamp.bits stamp.low) p rest is in
      by_packet s p (Time x.0.bits x.0.low) (h ∷ rest) x.2 (rest, (λ i. z i ∷ rest), x.1)
  body_to exception e is = exception_to s p h rest (eqb-true h 6 e) is
  body_to commit e is =
      let z = eqb-true h 45 e in
      let x = as_ok Number (λ n. Commit n) p rest is in
      by_packet s p (Commit x.0) (h ∷ rest) x.2 (rest, (λ i. z i ∷ rest), x.1)
  body_to (cancel flip) e is =
      let x = as_ok Number (λ n. Cancel n flip) p rest is in
      by_packet s p (Cancel x.0 flip) (h ∷ rest) x.2 (cancel_to s flip x.0 h rest (eqb-true h (if flip then 47 else 46) e) x.1)
  body_to context e is =
      let z = eqb-true h 129 e in
      let x = as_ok (Context s) (λ ctx. CtxInfo ctx) p rest is in
      by_packet s p (CtxInfo x.0) (h ∷ rest) x.2 (rest, (λ i. z i ∷ rest), x.1)
  body_to short_address e is =
      let x = as_ok ShortAddress (λ form. Addr form None) p rest is in
      by_packet s p (Addr x.0 None) (h ∷ rest) x.2 (short_to s x.0 h rest (eqb-true h 149 e) (is_short x.0 rest x.1) x.1)
  body_to long_32 e is =
      let z = eqb-true h 154 e in
      let x = as_ok LongAddress32 (λ form. Addr form None) p rest is in
      let y = as_ok (Bytes 4) (λ given. Long32 (address_of given)) x.0 rest x.1 in
      by_packet s p (Addr (Long32 (address_of y.0)) None) (h ∷ rest) (x.2 ∙ ap (λ f. Addr f None) y.2)
      (rest, (λ i. z i ∷ rest), subst (λ f. LongAddress32 (Ok f) rest) y.2 x.1)
  body_to long_64 e is =
      let z = eqb-true h 157 e in
      let x = as_ok LongAddress64 (λ form. Addr form None) p rest is in
      let y = as_ok (Bytes 8) (λ given. Long64 (address_of given)) x.0 rest x.1 in
      by_packet s p (Addr (Long64 (address_of y.0)) None) (h ∷ rest) (x.2 ∙ ap (λ f. Addr f None) y.2)
      (rest, (λ i. z i ∷ rest), subst (λ f. LongAddress64 (Ok f) rest) y.2 x.1)
  body_to long_32_with_context e is =
      let z = eqb-true h 130 e in
      let w = then_ok LongAddress32 (λ form. As (Context s) (λ ctx. Addr form (Some ctx))) p rest is in
      let x = as_ok (Context s) (λ ctx. Addr w.0 (Some ctx)) p w.2 w.5 in
      let y = as_ok (Bytes 4) (λ given. Long32 (address_of given)) w.0 w.1 w.4 in
      by_packet s p (Addr (Long32 (address_of y.0)) (Some x.0)) (h ∷ rest) (x.2 ∙ ap (λ f. Addr f (Some x.0)) y.2)
      (w.1, w.2, (λ i. z i ∷ w.3 i), subst (λ f. LongAddress32 (Ok f) w.1) y.2 w.4, x.1)
  body_to long_64_with_context e is =
      let z = eqb-true h 133 e in
      let w = then_ok LongAddress64 (λ form. As (Context s) (λ ctx. Addr form (Some ctx))) p rest is in
      let x = as_ok (Context s) (λ ctx. Addr w.0 (Some ctx)) p w.2 w.5 in
      let y = as_ok (Bytes 8) (λ given. Long64 (address_of given)) w.0 w.1 w.4 in
      by_packet s p (Addr (Long64 (address_of y.0)) (Some x.0)) (h ∷ rest) (x.2 ∙ ap (λ f. Addr f (Some x.0)) y.2)
      (w.1, w.2, (λ i. z i ∷ w.3 i), subst (λ f. LongAddress64 (Ok f) w.1) y.2 w.4, x.1)

pub packet_to : (s : Sizes) (p : Packet) (bytes : List ℕ) → Told s (Ok p) bytes → SpellsPacket s p bytes
packet_to s p bytes is = subst (λ t. SpellsPacket s p t) (sym is.whole)
    (body_to s p is.header is.rest is.body (body_fits is.header is.body is.says) is.follows)

-- no header stands in both tables, and the packets' headers show no fault
abbrev clash : Option Body → Option PacketFault → Bool
clash (Some body) (Some f) = false
clash _ _ = true

no_clash : (h : ℕ) → h < 256 → clash (body_in headers h) (fault_in refused_headers h) ≡ true
unfolding headers refused_headers
no_clash h below = agree_below_at (λ (j : ℕ). clash (body_in headers j) (fault_in refused_headers j)) (λ _. true) 256 h refl below

abbrev is_packet : Option Body → Bool
is_packet (Some (alone (Err f))) = false
is_packet _ = true

all_packets : (h : ℕ) → h < 256 → is_packet (body_in headers h) ≡ true
unfolding headers
all_packets h below = agree_below_at (λ (j : ℕ). is_packet (body_in headers j)) (λ _. true) 256 h refl below

pick_back : (f : PacketFault) (found : Option Body) (shown : Option PacketFault) → shown ≡ Some f → clash found shown ≡ true
    → pick found shown ≡ Some (alone (Err f))
pick_back f (Some body) (Some g) e apart = absurd cc
pick_back f None (Some g) e apart = let same : g ≡ f = cc in ap (λ x. Some (alone (Err x))) same
pick_back f found None e apart = absurd cc

fault_row : (h : ℕ) (f : PacketFault) → fault_in refused_headers h ≡ Some f → body_of h ≡ Some (alone (Err f))
fault_row h f e = pick_back f (body_in headers h) (fault_in refused_headers h) e (no_clash h (faults_below refused_headers all_faults_below h f e))

alone_fault : (f g : PacketFault) → ◌≡◌ {A = Option Body} (Some (alone (Err f))) (Some (alone (Err g))) → f ≡ g
alone_fault f g e = cc

pick_to : (f : PacketFault) (found : Option Body) (shown : Option PacketFault) → is_packet found ≡ true → pick found shown ≡ Some (alone (Err f))
    → shown ≡ Some f
pick_to f (Some body) shown packets e = let bad : is_packet (Some (alone (Err f))) ≡ true = ap is_packet (sym e) ∙ packets in absurd cc
pick_to f None (Some g) packets e = ap (λ x. Some x) (alone_fault g f e)
pick_to f None None packets e = absurd cc

row_fault : (h : ℕ) (f : PacketFault) → body_of h ≡ Some (alone (Err f)) → fault_in refused_headers h ≡ Some f
row_fault h f e = pick_to f (body_in headers h) (fault_in refused_headers h) (all_packets h (header_below h (alone (Err f)) e)) e

as_err : {A B : Type 0} (part : Part A) (made : A → B) (f : PacketFault) (bytes : List ℕ) → As part made (Err f) bytes → part (Err f) bytes
as_err part made f bytes (inl (x, front, [], parts, is, e)) = absurd cc
as_err part made f bytes (inl (x, front, b ∷ back, parts, is, e)) = absurd e
as_err part made f bytes (inr (g, e, is)) = let same : f ≡ g = cc in subst (λ k. part (Err k) bytes) (sym same) is

stamp_more : (more b : ℕ) (f : PacketFault) (bytes : List ℕ) (test : Bool) → (StampWithin more (Err f) bytes → ⊥)
    → Where {A = Stamp} test (Known (Ok (record { bits = 7; low = b })))
    (As (StampWithin more) (λ high. record { bits = 7 + high.bits; low = b - 128 + 128 * high.low })) (Err f) bytes → ⊥
stamp_more more b f [] true later is = absurd cc
stamp_more more b f (c ∷ bytes) true later is = absurd is
stamp_more more b f bytes false later is = later
    (as_err (StampWithin more) (λ high. record { bits = 7 + high.bits; low = b - 128 + 128 * high.low }) f bytes is)

stamp_fault : (more : ℕ) (f : PacketFault) (bytes : List ℕ) → StampWithin more (Err f) bytes → ⊥
stamp_fault zero f [] is = absurd is
stamp_fault zero f (b ∷ []) is = absurd cc
stamp_fault zero f (b ∷ c ∷ bytes) is = absurd is
stamp_fault (suc more) f [] is = absurd is
stamp_fault (suc more) f (b ∷ bytes) is = stamp_more more b f bytes (nat_lt b 128) (stamp_fault more f bytes) is

short_more : (f : PacketFault) (a : ℕ) (bytes : List ℕ) (test : Bool)
    → Where test (Known (Ok (Short1 (a * 4)))) (Byte (λ b. Known (Ok (Short2 ((a - 128) * 4 + b * 2 ^ 9))))) (Err f) bytes → ⊥
short_more f a [] true is = absurd cc
short_more f a (b ∷ bytes) true is = absurd is
short_more f a [] false is = absurd is
short_more f a (b ∷ []) false is = absurd cc
short_more f a (b ∷ c ∷ bytes) false is = absurd is

short_fault : (f : PacketFault) (bytes : List ℕ) → ShortAddress (Err f) bytes → ⊥
short_fault f [] is = absurd is
short_fault f (a ∷ bytes) is = short_more f a bytes (nat_lt a 128) is

exc_fault : (s : Sizes) (x7 x6 x0 : Bool) (b : ℕ) (f : PacketFault) → bit 7 b ≡ x7 → bit 6 b ≡ x6 → bit 0 b ≡ x0
    → ◌≡◌ {A = Outcome Packet} (Err f) (exception_by x7 x6 x0 b)
    → ((x7 || same_flag x6 x0) ≡ true) × (f ≡ (if x7 then ExceptionTwoByte b else ExceptionForm b))
exc_fault s false false true b f b7 b6 b0 e = absurd cc
exc_fault s false true false b f b7 b6 b0 e = absurd cc
exc_fault s true x6 x0 b f b7 b6 b0 e = (refl, cc)
exc_fault s false true true b f b7 b6 b0 e = (refl, cc)
exc_fault s false false false b f b7 b6 b0 e = (refl, cc)

exc_shown : (x7 x6 x0 : Bool) (b : ℕ) (f : PacketFault) → (x7 || same_flag x6 x0) ≡ true → f ≡ (if x7 then ExceptionTwoByte b else ExceptionForm b)
    → ◌≡◌ {A = Outcome Packet} (Err f) (exception_by x7 x6 x0 b)
exc_shown false false true b f wrong e = absurd cc
exc_shown false true false b f wrong e = absurd cc
exc_shown true x6 x0 b f wrong e = ap (λ k. Err k) e
exc_shown false true true b f wrong e = ap (λ k. Err k) e
exc_shown false false false b f wrong e = ap (λ k. Err k) e

exception_fault : (s : Sizes) (f : PacketFault) (h : ℕ) (rest : List ℕ) → h ≡ 6 → Exception (Err f) rest → SpellsFault s f (h ∷ rest)
exception_fault s f h [] z is = absurd is
exception_fault s f h (b ∷ []) z is =
    let x = exc_fault s (bit 7 b) (bit 6 b) (bit 0 b) b f refl refl refl is in
    (in_exception, (b, (λ i. z i ∷ b ∷ []), x.0, x.1))
exception_fault s f h (b ∷ c ∷ rest) z is = absurd is

known_fault : (s : Sizes) (f : PacketFault) (h : ℕ) (rest : List ℕ) (outcome : Outcome Packet) → body_of h ≡ Some (alone outcome)
    → Known outcome (Err f) rest → SpellsFault s f (h ∷ rest)
known_fault s f h [] (Err g) says is = let same : g ≡ f = cc in (in_header, (h, refl, row_fault h g says ∙ ap (λ k. Some k) same))
known_fault s f h [] (Ok p) says is = absurd cc
known_fault s f h (b ∷ rest) outcome says is = absurd is

number_fault : (s : Sizes) (f : PacketFault) (h : ℕ) (rest : List ℕ) → 45 ≤ h → h ≤ 47 → Number (Err f) rest → SpellsFault s f (h ∷ rest)
number_fault s f h rest least most is = (in_number, (h, rest, least, most, refl, is))

cancel_within : (h : ℕ) (flip : Bool) → h ≡ (if flip then 47 else 46) → (45 ≤ h) × (h ≤ 47)
cancel_within h true e = (omega (arith, e), omega (arith, e))
cancel_within h false e = (omega (arith, e), omega (arith, e))

module _ (s : Sizes) (f : PacketFault) (h : ℕ) (rest : List ℕ) where
  context_32_fault : h ≡ 130 → Then LongAddress32 (λ form. As (Context s) (λ ctx. Addr form (Some ctx))) (Err f) rest → SpellsFault s f (h ∷ rest)
  context_32_fault z (inl (form, front, back, parts, first, next)) =
      let y = as_ok (Bytes 4) (λ given. Long32 (address_of given)) form front first in
      (in_context_of_32, (front, back, (λ i. z i ∷ parts i), y.1.1, as_err (Context s) (λ ctx. Addr form (Some ctx)) f back next))
  context_32_fault z (inr (g, e, is)) = absurd (as_err (Bytes 4) (λ given. Long32 (address_of given)) g rest is)

  context_64_fault : h ≡ 133 → Then LongAddress64 (λ form. As (Context s) (λ ctx. Addr form (Some ctx))) (Err f) rest → SpellsFault s f (h ∷ rest)
  context_64_fault z (inl (form, front, back, parts, first, next)) =
      let y = as_ok (Bytes 8) (λ given. Long64 (address_of given)) form front first in
      (in_context_of_64, (front, back, (λ i. z i ∷ parts i), y.1.1, as_err (Context s) (λ ctx. Addr form (Some ctx)) f back next))
  context_64_fault z (inr (g, e, is)) = absurd (as_err (Bytes 8) (λ given. Long64 (address_of given)) g rest is)

  atoms_fault : (k : ℕ) → AtomsOf k (Err f) rest → SpellsFault s f (h ∷ rest)
  atoms_fault k (run, told, within, tells, none) = absurd cc

  body_fault : (body : Body) → body_of h ≡ Some body → fits h body ≡ true → Follows s body (Err f) rest → SpellsFault s f (h ∷ rest)
  body_fault (alone outcome) says e is = known_fault s f h rest outcome says is
  body_fault (atoms k) says e is = atoms_fault k is
  body_fault extension says e is = let z = eqb-true h 0 e in (in_sync, (rest, (λ i. z i ∷ rest), is))
  body_fault trace_info says e is = let z = eqb-true h 1 e in (in_info, (rest, (λ i. z i ∷ rest), is))
  body_fault time_stamp says e is = absurd (stamp_fault 8 f rest (as_err TimeStamp (λ stamp. Time stamp.bits stamp.low) f rest is))
  body_fault exception says e is = exception_fault s f h rest (eqb-true h 6 e) is
  body_fault commit says e is =
      let z = eqb-true h 45 e in number_fault s f h rest (omega (arith, z)) (omega (arith, z)) (as_err Number (λ n. Commit n) f rest is)
  body_fault (cancel flip) says e is =
      let within = cancel_within h flip (eqb-true h (if flip then 47 else 46) e) in
      number_fault s f h rest within.0 within.1 (as_err Number (λ n. Cancel n flip) f rest is)
  body_fault context says e is = let z = eqb-true h 129 e in (in_context, (rest, (λ i. z i ∷ rest), as_err (Context s) (λ ctx. CtxInfo ctx) f rest is))
  body_fault short_address says e is = absurd (short_fault f rest (as_err ShortAddress (λ form. Addr form None) f rest is))
  body_fault long_32 says e is = absurd (as_err (Bytes 4) (λ given. Long32 (address_of given)) f rest
      (as_err LongAddress32 (λ form. Addr form None) f rest is))
  body_fault long_64 says e is = absurd (as_err (Bytes 8) (λ given. Long64 (address_of given)) f rest
      (as_err LongAddress64 (λ form. Addr form None) f rest is))
  body_fault long_32_with_context says e is = context_32_fault (eqb-true h 130 e) is
  body_fault long_64_with_context says e is = context_64_fault (eqb-true h 133 e) is

fault_to : (s : Sizes) (f : PacketFault) (bytes : List ℕ) → Told s (Err f) bytes → SpellsFault s f bytes
fault_to s f bytes is = subst (λ t. SpellsFault s f t) (sym is.whole)
    (body_fault s f is.header is.rest is.body is.says (body_fits is.header is.body is.says) is.follows)

three : (h : ℕ) → 45 ≤ h → h ≤ 47 → (h ≡ 45) ⊎ ((h ≡ 46) ⊎ (h ≡ 47))
three h least most = elim (cases_lt h 46) [
  | inl low ↦ inl (omega (arith, low, least))
  | inr high ↦ elim (cases_lt h 47) [
    | inl middle ↦ inr (inl (omega (arith, high, middle)))
    | inr last ↦ inr (inr (omega (arith, last, most)))
  ]
]

module _ (s : Sizes) (f : PacketFault) (bytes : List ℕ) where
  number_back : (h : ℕ) (rest : List ℕ) → (h ≡ 45) ⊎ ((h ≡ 46) ⊎ (h ≡ 47)) → bytes ≡ h ∷ rest → Number (Err f) rest → Told s (Err f) bytes
  unfolding headers refused_headers
  number_back h rest (inl z) e is = record { header = 45; rest = rest; body = commit; whole = e ∙ (λ i. z i ∷ rest); says = refl; follows = inr (f, refl, is) }
  number_back h rest (inr (inl z)) e is = record
      { header = 46; rest = rest; body = cancel false; whole = e ∙ (λ i. z i ∷ rest); says = refl; follows = inr (f, refl, is) }
  number_back h rest (inr (inr z)) e is = record
      { header = 47; rest = rest; body = cancel true; whole = e ∙ (λ i. z i ∷ rest); says = refl; follows = inr (f, refl, is) }

  fault_back : (place : FaultyPart) → ShowsAt s place f bytes → Told s (Err f) bytes
  unfolding headers refused_headers
  fault_back in_header (h, e, row) = record { header = h; rest = []; body = alone (Err f); whole = e; says = fault_row h f row; follows = refl }
  fault_back in_sync (rest, e, is) = record { header = 0; rest = rest; body = extension; whole = e; says = refl; follows = is }
  fault_back in_info (rest, e, is) = record { header = 1; rest = rest; body = trace_info; whole = e; says = refl; follows = is }
  fault_back in_exception (b, e, wrong, is) =
      record { header = 6; rest = b ∷ []; body = exception; whole = e; says = refl; follows = exc_shown (bit 7 b) (bit 6 b) (bit 0 b) b f wrong is }
  fault_back in_number (h, rest, least, most, e, is) = number_back h rest (three h least most) e is
  fault_back in_context (rest, e, is) = record { header = 129; rest = rest; body = context; whole = e; says = refl; follows = inr (f, refl, is) }
  fault_back in_context_of_32 (given, rest, e, long, is) = record {
    header = 130;
    rest = given ++ rest;
    body = long_32_with_context;
    whole = e;
    says = refl;
    follows = inl (Long32 (address_of given), given, rest, refl, as_back (Bytes 4) (λ x. Long32 (address_of x)) given given (refl, long), inr (f, refl, is));
  }
  fault_back in_context_of_64 (given, rest, e, long, is) = record {
    header = 133;
    rest = given ++ rest;
    body = long_64_with_context;
    whole = e;
    says = refl;
    follows = inl (Long64 (address_of given), given, rest, refl, as_back (Bytes 8) (λ x. Long64 (address_of x)) given given (refl, long), inr (f, refl, is));
  }

pub told_to : (s : Sizes) (outcome : Outcome Packet) (bytes : List ℕ) → Told s outcome bytes → Spells s outcome bytes
told_to s (Ok p) bytes is = packet_to s p bytes is
told_to s (Err f) bytes is = fault_to s f bytes is

pub told_back : (s : Sizes) (outcome : Outcome Packet) (bytes : List ℕ) → Spells s outcome bytes → Told s outcome bytes
told_back s (Ok p) bytes is = packet_back s p bytes is
told_back s (Err f) bytes is = fault_back s f bytes is.0 is.1
