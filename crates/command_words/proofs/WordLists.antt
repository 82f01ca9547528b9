-- The words of a list of settings, and their parts.
use Rattle.std.proofs.Common.{◌≡◌, ◌≢◌, ℕ, ◌+◌, ◌-◌, ◌<◌, ◌==◌, ◌&&◌, nat_le, Bool, true, false, if◌then◌else◌, List, [], ◌∷◌, ◌++◌, All, Option, Some, None, IfSome, Result, Ok, Err, Bor, length}
use Rattle.std.proofs.Common.{option_map, suc, get_or, set, take, replicate, refl, sym, ap, subst, ◌∙◌, inl, inr, arith, codes}
use Rattle.std.proofs.lemmas.Bool.Decides.{nat_tests}
use Rattle.std.proofs.lemmas.Grind.{common_steps}
use Rattle.std.proofs.lemmas.Str.Pattern.{split_parts, IsSplitOnceResult}
use Rattle.std.proofs.lemmas.List.{get_or-set_same, get_or-set_other, get_or-replicate, length-set}
use Rattle.std.proofs.lemmas.List.Elements.{All-nil, All-cons, All-head, All-tail}
use Rattle.std.proofs.lemmas.List.Kept.{AllPairs-cons}
use Rattle.std.proofs.lemmas.List.Splits.{join_with_byte-slice_split, length-slice_split}
use Rattle.std.proofs.lemmas.List.Sums.{AllPass-from_list_all}
use Rattle.std.specs.Char.{is_ascii_digit}
use Rattle.std.specs.Option.{option_and_then}
use Rattle.std.specs.Prelude.{slice_index_or, slice_set}
use Rattle.std.specs.Result.{result_ok}
use Rattle.hex.proofs.HexLemmas.{decode_of-ok, decode_sized-ok, decode_sized-twice}
use Rattle.hex.specs.Hex.{decode_sized, is_hex_digit}
use Rattle.byteorder.specs.Endian.{big_number}
use Rattle.etm_types.specs.Id.{IsId}
use Rattle.etm_types.proofs.Tables.{all_alike}
use Rattle.etm_types.specs.Settings.{AreSettings, Sizes, default_sizes}
use Rattle.etm_types.specs.SettingsTable.{IsTable}
use Rattle.std.specs.List.{AllPass, join_with_byte, list_all, slice_split}
use Rattle.line_words.specs.Line.{decimal_of, number_of as hex_number, padded, two_digits_of}
use Rattle.clap.proofs.CutLemmas.{Lacks, list_any-Lacks, list_any-at, before_first-at, after_first-at, slice_split-Lacks, slice_split-at}
use Rattle.command_words.specs.declared.lists.Listed.{Listed}
use Rattle.command_words.specs.CommandLines.{AreApart, AreNamed, AreUnits, IsList, IsNamed}
use Rattle.command_words.specs.Lists.{cut_in_two, id_of, is_comma, listed_in, named_by, named_of, nothing_listed, sizes_of, sizes_spelled, units_by, with_one}
use Rattle.command_words.specs.Words.{Seen, number_of, sizes_in, units_in}
use Rattle.command_words.proofs.ListTables.{is_table, one_table, units_are, units_of}
use Rattle.command_words.proofs.WordLemmas.{map_some, sized_by, sizes_there, then_some, within}
use Rattle.command_words.proofs.WordTurns.{Lacks-cons, split}

pub cut_at : (xs ys : List ℕ) → Lacks 58 xs → cut_in_two (xs ++ 58 ∷ ys) ≡ Some (xs, ys)
cut_at xs ys lacks = rw (list_any-at 58 xs ys, before_first-at 58 xs ys lacks, after_first-at 58 xs ys lacks) refl

cut_without : (text : List ℕ) → Lacks 58 text → cut_in_two text ≡ None
cut_without text lacks = rw (list_any-Lacks 58 text lacks) refl

-- the clause of `split_once` at a colon
pub cut_is : (text : List ℕ) (r : Option (Bor (List ℕ) × Bor (List ℕ))) → IsSplitOnceResult 58 text r
    → option_map (λ parts. (parts.0.now, parts.1.now)) r ≡ cut_in_two text
cut_is text None cases = sym (cut_without text (split_parts 58 text None cases (omega arith)))
cut_is text (Some x) cases =
    let parts = split_parts 58 text (Some x) cases (omega arith) in sym (ap cut_in_two parts.0 ∙ cut_at x.0.now x.1.now parts.1)

-- ---- bytes that a number lacks

head_differs : (c x : ℕ) (xs : List ℕ) → Lacks c (x ∷ xs) → (x == c) ≡ false
head_differs c x xs lacks = let differ : x ≢ c = lacks 0 (grind (arith, common_steps)) in grind (arith, nat_tests)

Lacks-tail : (c x : ℕ) (xs : List ℕ) → Lacks c (x ∷ xs) → Lacks c xs
Lacks-tail c x xs lacks i within = let behind = lacks (i + 1) (grind (arith, common_steps)) in grind (arith, common_steps)

Lacks-append : (c : ℕ) (xs ys : List ℕ) → Lacks c xs → Lacks c ys → Lacks c (xs ++ ys)
Lacks-append c [] ys front behind = behind
Lacks-append c (x ∷ xs) ys front behind =
    Lacks-cons c x (xs ++ ys) (head_differs c x xs front) (Lacks-append c xs ys (Lacks-tail c x xs front) behind)

-- no byte is c where all bytes pass a test that c fails
lacks_by : (p : ℕ → Bool) (c : ℕ) (xs : List ℕ) → p c ≡ false → AllPass p xs → Lacks c xs
lacks_by p c xs fails pass i within same = let holds = ap p (sym same) ∙ pass i 0 within in let both = sym fails ∙ holds in absurd cc

decimal_lacks_by : (c : ℕ) (digits : List ℕ) (n : ℕ) (a b d : Bool) → is_ascii_digit c ≡ false → nat_le 1 (length digits) ≡ a
    → nat_le (length digits) 10 ≡ b → list_all is_ascii_digit digits ≡ d → decimal_of digits ≡ Some n → Lacks c digits
decimal_lacks_by c digits n true true true fails x y z e = lacks_by is_ascii_digit c digits fails (AllPass-from_list_all is_ascii_digit digits z)
decimal_lacks_by c digits n true true false fails x y z e = absurd (let f = simp (x, y, z) at e in cc)
decimal_lacks_by c digits n true false d fails x y z e = absurd (let f = simp (x, y) at e in cc)
decimal_lacks_by c digits n false b d fails x y z e = absurd (let f = simp x at e in cc)

decimal_lacks : (c : ℕ) (digits : List ℕ) (n : ℕ) → is_ascii_digit c ≡ false → decimal_of digits ≡ Some n → Lacks c digits
decimal_lacks c digits n fails e = decimal_lacks_by c digits n _ _ _ fails refl refl refl e

behind_front : (zeros word : List ℕ) (p : ℕ → Bool) → AllPass p (zeros ++ word) → AllPass p word
behind_front [] word p pass = pass
behind_front (zero' ∷ zeros) word p pass = behind_front zeros word p (All-tail (λ x. p x ≡ true) zero' (zeros ++ word) pass)

ok_some : {E X : Type 0} (r : Result X E) (x : X) → result_ok r ≡ Some x → r ≡ Ok x
ok_some (Ok y) x e = ap Ok cc
ok_some (Err y) x e = absurd cc

number_hex_by : (digits : List ℕ) (n : ℕ) (a : Bool) → (nat_le 1 (length digits) && nat_le (length digits) 16) ≡ a → hex_number digits ≡ Some n
    → AllPass is_hex_digit digits
number_hex_by digits n false is e = absurd (let f = simp is at e in cc)
number_hex_by digits n true is e =
    let f : option_map (big_number 8) (result_ok (decode_sized (padded digits) 8)) ≡ Some n = simp is at e in
    let b = map_some (result_ok (decode_sized (padded digits) 8)) (big_number 8) n f in
    let ok = ok_some (decode_sized (padded digits) 8) b.0 b.1 in
    let whole = decode_sized-twice (padded digits) 8 (decode_sized-ok (padded digits) 8 b.0 ok) in
    behind_front (take (16 - length digits) (codes "0000000000000000")) digits is_hex_digit (decode_of-ok (padded digits) b.0 (sym whole ∙ ok)).1

two_digits_lack : (c : ℕ) (digits : List ℕ) (n : ℕ) → is_hex_digit c ≡ false → two_digits_of digits ≡ Some n → Lacks c digits
two_digits_lack c digits n fails e = by (length digits == 2) refl
  where
    by : (b : Bool) → (length digits == 2) ≡ b → Lacks c digits
    by true is = lacks_by is_hex_digit c digits fails (number_hex_by digits n _ refl (simp is at e))
    by false is = absurd (let f = simp is at e in cc)

-- ---- a word

cut_found : (text : List ℕ) (parts : List ℕ × List ℕ) → cut_in_two text ≡ Some parts → text ≡ parts.0 ++ 58 ∷ parts.1
cut_found text parts e = elim (split 58 text) [
  | inl lacks ↦ absurd (let f = sym (cut_without text lacks) ∙ e in cc)
  | inr p ↦
      let same : (p.0, p.1) ≡ parts = (let f = sym (ap cut_in_two p.2 ∙ cut_at p.0 p.1 p.3) ∙ e in cc) in
      p.2 ∙ ap (λ (q : List ℕ × List ℕ). q.0 ++ 58 ∷ q.1) same
]

id_by : (n id : ℕ) (a b : Bool) → nat_le 1 n ≡ a → nat_le n 111 ≡ b → (if nat_le 1 n && nat_le n 111 then Some n else None) ≡ Some id
    → (n ≡ id) × IsId id
id_by n id true true x y e =
    let same : n ≡ id = (let f = simp (x, y) at e in cc) in (same, (grind (arith, nat_tests, x, same), grind (arith, nat_tests, y, same)))
id_by n id true false x y e = absurd (let f = simp (x, y) at e in cc)
id_by n id false b x y e = absurd (let f = simp x at e in cc)

sizes_are : (d v c : ℕ) (s : Sizes) → sizes_of d v c ≡ Some s
    → (record { depth = d; vmid_bytes = v; cid_bytes = c } ≡ s) × AreSettings s
sizes_are d v c s e = (sized_by d v c s _ refl e, subst (λ (o : Option Sizes). IfSome o AreSettings) e (within d v c))

id_is : (n id : ℕ) → (if nat_le 1 n && nat_le n 111 then Some n else None) ≡ Some id → (n ≡ id) × IsId id
id_is n id e = id_by n id _ _ refl refl e

id_found : (digits : List ℕ) (id : ℕ) → id_of digits ≡ Some id → (two_digits_of digits ≡ Some id) × IsId id
id_found digits id e =
    let n = then_some (two_digits_of digits) _ id e in let is = id_is n.0 id n.2 in (n.1 ∙ ap Some is.0, is.1)

id_said : (digits : List ℕ) (id : ℕ) → two_digits_of digits ≡ Some id → IsId id → id_of digits ≡ Some id
id_said digits id is within =
    let low : nat_le 1 id ≡ true = grind (arith, nat_tests, within.0) in let high : nat_le id 111 ≡ true = grind (arith, nat_tests, within.1) in
    simp (is, low, high)

-- what the four parts of a word say
record Says (digits depth vmid cid : List ℕ) (one : ℕ × Sizes) : Type 0 where
  digits_are : two_digits_of digits ≡ Some one.0
  is_id : IsId one.0
  depth_is : decimal_of depth ≡ Some one.1.depth
  vmid_is : decimal_of vmid ≡ Some one.1.vmid_bytes
  cid_is : decimal_of cid ≡ Some one.1.cid_bytes
  within : AreSettings one.1

sizes_found : (depth vmid cid : List ℕ) (s : Sizes) → sizes_spelled depth vmid cid ≡ Some s
    → (decimal_of depth ≡ Some s.depth) × (decimal_of vmid ≡ Some s.vmid_bytes) × (decimal_of cid ≡ Some s.cid_bytes) × AreSettings s
sizes_found depth vmid cid s e =
    let d = then_some (decimal_of depth) _ s e in let v = then_some (decimal_of vmid) _ s d.2 in let c = then_some (decimal_of cid) _ s v.2 in
    let are = sizes_are d.0 v.0 c.0 s c.2 in (
      d.1 ∙ ap (λ (t : Sizes). Some t.depth) are.0,
      v.1 ∙ ap (λ (t : Sizes). Some t.vmid_bytes) are.0,
      c.1 ∙ ap (λ (t : Sizes). Some t.cid_bytes) are.0,
      are.1,
    )

parts_found : (digits depth vmid cid : List ℕ) (one : ℕ × Sizes) → named_by digits depth vmid cid ≡ Some one → Says digits depth vmid cid one
parts_found digits depth vmid cid one e =
    let id = then_some (id_of digits) _ one e in let s = map_some (sizes_spelled depth vmid cid) _ one id.2 in
    let this = id_found digits one.0 (id.1 ∙ ap (λ (o : ℕ × Sizes). Some o.0) s.2) in
    let are = sizes_found depth vmid cid one.1 (s.1 ∙ ap (λ (o : ℕ × Sizes). Some o.1) s.2) in
    record { digits_are = this.0; is_id = this.1; depth_is = are.0; vmid_is = are.1; cid_is = are.2; within = are.3 }

named_found : (word : List ℕ) (one : ℕ × Sizes) → named_of word ≡ Some one → IsNamed word one.0 one.1
named_found word one e =
    let a = then_some (cut_in_two word) _ one e in let b = then_some (cut_in_two a.0.1) _ one a.2 in
    let c = then_some (cut_in_two b.0.1) _ one b.2 in let says = parts_found a.0.0 b.0.0 c.0.0 c.0.1 one c.2 in
    record {
      digits = a.0.0;
      depth = b.0.0;
      vmid = c.0.0;
      cid = c.0.1;
      row = cut_found word a.0 a.1
          ∙ ap (λ (r : List ℕ). a.0.0 ++ 58 ∷ r) (cut_found a.0.1 b.0 b.1 ∙ ap (λ (r : List ℕ). b.0.0 ++ 58 ∷ r) (cut_found b.0.1 c.0 c.1));
      digits_are = says.digits_are;
      is_id = says.is_id;
      depth_is = says.depth_is;
      vmid_is = says.vmid_is;
      cid_is = says.cid_is;
      within = says.within;
    }

named_said : (word : List ℕ) (one : ℕ × Sizes) → IsNamed word one.0 one.1 → named_of word ≡ Some one
named_said word one is =
    let behind = is.vmid ++ 58 ∷ is.cid in
    let a = cut_at is.digits (is.depth ++ 58 ∷ behind) (two_digits_lack 58 is.digits one.0 refl is.digits_are) in
    let b = cut_at is.depth behind (decimal_lacks 58 is.depth one.1.depth refl is.depth_is) in
    let c = cut_at is.vmid is.cid (decimal_lacks 58 is.vmid one.1.vmid_bytes refl is.vmid_is) in
    let id = id_said is.digits one.0 is.digits_are is.is_id in
    let d = is.depth_is in let v = is.vmid_is in let w = is.cid_is in let s = sizes_there one.1 is.within in
    let sizes : sizes_spelled is.depth is.vmid is.cid ≡ Some one.1 = simp (d, v, w, s) in
    let parts : named_by is.digits is.depth is.vmid is.cid ≡ Some one = simp (id, sizes) in
    ap named_of is.row
    ∙ ap (option_and_then (λ one. option_and_then (λ two. option_and_then (λ three. named_by one.0 two.0 three.0 three.1)
    (cut_in_two two.1)) (cut_in_two one.1))) a
    ∙ ap (option_and_then (λ two. option_and_then (λ three. named_by is.digits two.0 three.0 three.1) (cut_in_two two.1))) b
    ∙ ap (option_and_then (λ three. named_by is.digits is.depth three.0 three.1)) c ∙ parts

-- ---- the words of a list

-- the ID has not been named
abbrev Free : List Bool → ℕ × Sizes → Type 0
Free named one = slice_index_or named (one.0 - 1) false ≡ false

abbrev Differs : ℕ × Sizes → ℕ × Sizes → Type 0
Differs one other = one.0 ≢ other.0

abbrev with_this : ℕ × Sizes → Listed → Listed
with_this one l = record { table = slice_set l.table (one.0 - 1) one.1; named = slice_set l.named (one.0 - 1) true }

one_found : (one : ℕ × Sizes) (l next : Listed) (b : Bool) → slice_index_or l.named (one.0 - 1) false ≡ b → with_one one l ≡ Some next
    → Free l.named one × (with_this one l ≡ next)
one_found one l next true is e = absurd (let f = simp is at e in cc)
one_found one l next false is e = (is, let f = simp is at e in cc)

set_place : (named : List Bool) (i j : ℕ) (b : Bool) → (j == i) ≡ b → i < length named → get_or (set named i true) j false ≡ false
    → (i ≢ j) × (get_or named j false ≡ false)
set_place named i j true is within e =
    let same : j ≡ i = grind (arith, nat_tests) in
    let there = get_or-set_same named i true false within in
    absurd (let f = sym there ∙ ap (λ (k : ℕ). get_or (set named i true) k false) (sym same) ∙ e in cc)
set_place named i j false is within e =
    let differ : j ≢ i = grind (arith, nat_tests) in (λ same. differ (sym same), sym (get_or-set_other named i j true false differ) ∙ e)

-- an ID that is free behind another was free before, and is another
still_free : (one other : ℕ × Sizes) (named : List Bool) → IsId one.0 → length named ≡ 111 → Free (slice_set named (one.0 - 1) true) other
    → Differs one other × Free named other
still_free one other named is long free =
    let place = set_place named (one.0 - 1) (other.0 - 1) _ refl (omega (arith, is.0, is.1, long)) free in
    (λ same. place.0 (ap (λ (n : ℕ). n - 1) same), place.1)

now_free : (one other : ℕ × Sizes) (named : List Bool) → IsId one.0 → IsId other.0 → Differs one other → Free named other
    → Free (slice_set named (one.0 - 1) true) other
now_free one other named is also differ free =
    let apart : other.0 - 1 ≢ one.0 - 1 = λ same. differ (omega (arith, same, is.0, also.0)) in
    get_or-set_other named (one.0 - 1) (other.0 - 1) true false apart ∙ free

-- what words that are taken name
record Found (words : List (List ℕ)) (l end : Listed) : Type 0 where
  ones : List (ℕ × Sizes)
  are : AreNamed words ones
  free : All (Free l.named) ones
  apart : AreApart ones
  table_is : end.table ≡ units_of ones l.table

words_found : (words : List (List ℕ)) (l end : Listed) → length l.named ≡ 111 → listed_in words l ≡ Some end → Found words l end
words_found [] l end long e =
    let same : l ≡ end = cc in
    record {
      ones = [];
      are = tt;
      free = All-nil (Free l.named);
      apart = λ i j d before within. absurd (omega arith);
      table_is = ap (λ (x : Listed). x.table) (sym same);
    }
words_found (word ∷ words) l end long e =
    let step = then_some (option_and_then (λ one. with_one one l) (named_of word)) _ end e in
    let named = then_some (named_of word) _ step.0 step.1 in let one = named.0 in
    let is = named_found word one named.1 in let next = one_found one l step.0 _ refl named.2 in
    let more = words_found words (with_this one l) end (length-set l.named (one.0 - 1) true ∙ long) (ap (listed_in words) next.1 ∙ step.2) in
    record {
      ones = one ∷ more.ones;
      are = (is, more.are);
      free = All-cons (Free l.named) one more.ones next.0
          (λ k d within. (still_free one (slice_index_or more.ones k d) l.named is.is_id long (more.free k d within)).1);
      apart = AllPairs-cons Differs one more.ones
          (λ k d within. (still_free one (slice_index_or more.ones k d) l.named is.is_id long (more.free k d within)).0) more.apart;
      table_is = more.table_is;
    }

ids_of : (words : List (List ℕ)) (ones : List (ℕ × Sizes)) → AreNamed words ones → All (λ one. IsId one.0) ones
ids_of [] [] are = All-nil (λ one. IsId one.0)
ids_of [] (one ∷ ones) are = absurd are
ids_of (word ∷ words) [] are = absurd are
ids_of (word ∷ words) (one ∷ ones) are = All-cons (λ one. IsId one.0) one ones are.0.is_id (ids_of words ones are.1)

-- words that name free IDs, no two the same, are taken
words_said : (words : List (List ℕ)) (ones : List (ℕ × Sizes)) (l : Listed) → AreNamed words ones → All (Free l.named) ones → AreApart ones
    → (end : Listed) × (listed_in words l ≡ Some end) × (end.table ≡ units_of ones l.table)
words_said [] [] l are free apart = (l, refl, refl)
words_said [] (one ∷ ones) l are free apart = absurd are
words_said (word ∷ words) [] l are free apart = absurd are
words_said (word ∷ words) (one ∷ ones) l are free apart =
    let ids = ids_of words ones are.1 in let named = named_said word one are.0 in
    let this = All-head (Free l.named) one ones free in let others = All-tail (Free l.named) one ones free in
    let taken : with_one one l ≡ Some (with_this one l) = simp this in
    let behind : All (Free (with_this one l).named) ones = λ k d within.
    now_free one (slice_index_or ones k d) l.named are.0.is_id (ids k d within) (apart 0 (suc k) d (omega arith) (omega arith)) (others k d within) in
    let more = words_said words ones (with_this one l) are.1 behind (λ i j d before within. apart (suc i) (suc j) d (omega arith) (omega arith)) in
    (more.0, ap (option_and_then (λ next. listed_in words next)) (ap (option_and_then (λ one. with_one one l)) named ∙ taken) ∙ more.1, more.2)

-- ---- the list

is_comma_free : (word : List ℕ) (one : ℕ × Sizes) → IsNamed word one.0 one.1 → Lacks 44 word
is_comma_free word one is =
    let digits = two_digits_lack 44 is.digits one.0 refl is.digits_are in let depth = decimal_lacks 44 is.depth one.1.depth refl is.depth_is in
    let vmid = decimal_lacks 44 is.vmid one.1.vmid_bytes refl is.vmid_is in let cid = decimal_lacks 44 is.cid one.1.cid_bytes refl is.cid_is in
    let third_text = is.vmid ++ 58 ∷ is.cid in let second_text = is.depth ++ 58 ∷ third_text in
    let third = Lacks-append 44 is.vmid (58 ∷ is.cid) vmid (Lacks-cons 44 58 is.cid refl cid) in
    let second = Lacks-append 44 is.depth (58 ∷ third_text) depth (Lacks-cons 44 58 third_text refl third) in
    let first = Lacks-append 44 is.digits (58 ∷ second_text) digits (Lacks-cons 44 58 second_text refl second) in
    subst (Lacks 44) (sym is.row) first

split_joined : (words : List (List ℕ)) (ones : List (ℕ × Sizes)) → AreNamed words ones → words ≢ [] → slice_split is_comma (join_with_byte 44 words) ≡ words
split_joined [] ones are some = absurd (some refl)
split_joined (word ∷ words) [] are some = absurd are
split_joined (word ∷ []) (one ∷ ones) are some = slice_split-Lacks 44 word (is_comma_free word one are.0)
split_joined (word ∷ other ∷ words) (one ∷ ones) are some =
    slice_split-at 44 word (join_with_byte 44 (other ∷ words)) (is_comma_free word one are.0)
    ∙ ap (λ (w : List (List ℕ)). word ∷ w) (split_joined (other ∷ words) ones are.1 (λ none. absurd cc))

pub list_found : (text : List ℕ) (all : Sizes) (end : Listed) → listed_in (slice_split is_comma text) (nothing_listed all) ≡ Some end
    → (ones : List (ℕ × Sizes)) × IsList text ones × AreUnits all ones end.table
list_found text all end e =
    let f = words_found (slice_split is_comma text) (nothing_listed all) end refl e in
    let are = units_are f.ones all (ids_of (slice_split is_comma text) f.ones f.are) f.apart in (
      f.ones,
      record {
        words = slice_split is_comma text;
        row = sym (join_with_byte-slice_split 44 text);
        some = λ none. absurd (omega (arith, ap length none, length-slice_split is_comma text));
        words_are = f.are;
        apart = f.apart;
      },
      subst (AreUnits all f.ones) (sym f.table_is) are,
    )

pub list_said : (text : List ℕ) (ones : List (ℕ × Sizes)) (all : Sizes) (units : List Sizes) → IsList text ones → AreUnits all ones units
    → (end : Listed) × (listed_in (slice_split is_comma text) (nothing_listed all) ≡ Some end) × (end.table ≡ units)
list_said text ones all units is are =
    let ids = ids_of is.words ones is.words_are in
    let free : All (Free (replicate 111 false)) ones = λ k d within.
    let one = slice_index_or ones k d in let id = ids k d within in
    get_or-replicate 111 (one.0 - 1) false false (omega (arith, id.0, id.1)) in
    let t = words_said is.words ones (nothing_listed all) is.words_are free is.apart in
    let cut : slice_split is_comma text ≡ is.words = ap (slice_split is_comma) is.row ∙ split_joined is.words ones is.words_are is.some in
    let same = one_table all ones (units_of ones (replicate 111 all)) units (units_are ones all ids is.apart) are in
    (t.0, ap (λ (w : List (List ℕ)). listed_in w (nothing_listed all)) cut ∙ t.1, t.2 ∙ same)

-- where no list stands, all IDs have the same
pub alike_found : (all : Sizes) → AreUnits all [] (replicate 111 all)
alike_found all = units_are [] all (All-nil (λ one. IsId one.0)) (λ i j d before within. absurd (omega arith))

pub alike_said : (all : Sizes) (units : List Sizes) → AreUnits all [] units → units ≡ replicate 111 all
alike_said all units are = one_table all [] units (replicate 111 all) are (alike_found all)

-- ---- the sizes that words tell are those of settings

settings_of_ones : (words : List (List ℕ)) (ones : List (ℕ × Sizes)) → AreNamed words ones → All (λ one. AreSettings one.1) ones
settings_of_ones [] [] are = All-nil (λ one. AreSettings one.1)
settings_of_ones [] (one ∷ ones) are = absurd are
settings_of_ones (word ∷ words) [] are = absurd are
settings_of_ones (word ∷ words) (one ∷ ones) are = All-cons (λ one. AreSettings one.1) one ones are.0.within (settings_of_ones words ones are.1)

told_settings : (seen : Seen) (s : Sizes) → sizes_in seen ≡ Some s → AreSettings s
told_settings seen s e =
    let depth = then_some (number_of default_sizes.depth seen.depth) _ s e in
    let vmid = then_some (number_of default_sizes.vmid_bytes seen.vmid) _ s depth.2 in
    let cid = then_some (number_of default_sizes.cid_bytes seen.cid) _ s vmid.2 in (sizes_are depth.0 vmid.0 cid.0 s cid.2).1

told_table : (list : Option (List ℕ)) (all : Sizes) (units : List Sizes) → AreSettings all → units_by list all ≡ Some units → IsTable units
told_table None all units are e = let same : replicate 111 all ≡ units = cc in subst IsTable same (all_alike all are)
told_table (Some list) all units are e =
    let l = map_some (listed_in (slice_split is_comma list) (nothing_listed all)) _ units e in let is = list_found list all l.0 l.1 in
    subst IsTable l.2 (is_table all is.0 l.0.table are (settings_of_ones is.1.words is.0 is.1.words_are) is.2)

pub told_units : (seen : Seen) (units : List Sizes) → units_in seen ≡ Some units → IsTable units
told_units seen units e = let all = then_some (sizes_in seen) _ units e in told_table seen.settings all.0 units (told_settings seen all.0 all.1) all.2
