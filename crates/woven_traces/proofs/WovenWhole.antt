-- Streams that are woven come out whole.
use Rattle.std.proofs.Common.{◌≡◌, ◌≢◌, ℕ, ◌<◌, ◌==◌, if◌then◌else◌, Bool, true, false, List, [], ◌∷◌, ◌++◌, drop, take, inl, inr}
use Rattle.std.proofs.Common.{refl, sym, ap, subst, ◌∙◌, append-nil}
use Rattle.std.specs.Prelude.{All, ◌||◌, slice_index_or}
use Rattle.std.proofs.lemmas.Bool.{eq-eqb, eqb-false, eqb-true}
use Rattle.std.proofs.lemmas.Bool.Decides.{eqb_tells}
use Rattle.std.proofs.lemmas.List.{take-append-drop}
use Rattle.std.proofs.lemmas.List.Elements.{All-append, All-cons, All-drop, All-head, All-map, All-nil, All-tail, All-take, All-weaker}
use Rattle.capture_streams.proofs.Bodies.{of-append}
use Rattle.capture_streams.proofs.Parted.{of_others}
use Rattle.capture_streams.specs.Texts.{of}
use Rattle.run_file.specs.declared.line.Weave.{Weave}
use Rattle.woven_traces.specs.Woven.{AreApart, OthersHaveNoByte, WovenAlone, WovenBytes, WovenWhole, has_id, in_a_row, left_behind, next_of, under, woven}

-- ---- tests

pub neither : (a b : Bool) → (a || b) ≡ false → (a ≡ false) × (b ≡ false)
neither true b e = absurd cc
neither false b e = (refl, e)

or_second : (a b : Bool) → b ≡ true → (a || b) ≡ true
or_second true b e = refl
or_second false b e = e

differ : (a b : ℕ) → a ≢ b → (a == b) ≡ false
differ a b differs = elim (eqb_tells a b) [ inl same ↦ absurd (differs same.1) | inr other ↦ other.0 ]

-- ---- one stream

of_own : (id : ℕ) (bytes : List ℕ) → of id (under id bytes) ≡ bytes
of_own id [] = refl
of_own id (b ∷ bytes) =
    ap (λ (t : Bool). if t then b ∷ of id (under id bytes) else of id (under id bytes)) (eq-eqb id id refl) ∙ ap (λ (l : List ℕ). b ∷ l) (of_own id bytes)

of_none : (id other : ℕ) (bytes : List ℕ) → other ≢ id → of id (under other bytes) ≡ []
of_none id other [] differs = refl
of_none id other (b ∷ bytes) differs = of_others id other b (under other bytes) differs ∙ of_none id other bytes differs

-- the bytes of the stream with an ID
abbrev bytes_with : ℕ → List (ℕ × List ℕ) → List ℕ
bytes_with id [] = []
bytes_with id (s ∷ streams) = if s.0 == id then s.1 else bytes_with id streams

-- ---- in a row

row_none : (id : ℕ) (streams : List (ℕ × List ℕ)) → has_id id streams ≡ false → of id (in_a_row streams) ≡ []
row_none id [] none = refl
row_none id (s ∷ streams) none =
    let parts = neither (s.0 == id) (has_id id streams) none in
    of-append id (under s.0 s.1) (in_a_row streams)
    ∙ ap (λ (l : List ℕ). l ++ of id (in_a_row streams)) (of_none id s.0 s.1 (eqb-false s.0 id parts.0)) ∙ row_none id streams parts.1

row_is : (id : ℕ) (streams : List (ℕ × List ℕ)) → AreApart streams → of id (in_a_row streams) ≡ bytes_with id streams
row_is id [] apart = refl
row_is id (s ∷ streams) apart = of-append id (under s.0 s.1) (in_a_row streams) ∙ elim (eqb_tells s.0 id) [
  | inl is ↦
      ap (λ (i : ℕ). of i (under s.0 s.1) ++ of id (in_a_row streams)) (sym is.1) ∙ ap (λ (l : List ℕ). l ++ of id (in_a_row streams)) (of_own s.0 s.1)
      ∙ ap (λ (l : List ℕ). s.1 ++ l) (row_none id streams (ap (λ (i : ℕ). has_id i streams) (sym is.1) ∙ apart.0)) ∙ append-nil s.1
      ∙ sym (ap (λ (t : Bool). if t then s.1 else bytes_with id streams) is.0)
  | inr other ↦
      ap (λ (l : List ℕ). l ++ of id (in_a_row streams)) (of_none id s.0 s.1 other.1) ∙ row_is id streams apart.1
      ∙ sym (ap (λ (t : Bool). if t then s.1 else bytes_with id streams) other.0)
]

-- ---- one weave

own_next : (id n : ℕ) (streams : List (ℕ × List ℕ)) → next_of id n streams ++ bytes_with id (left_behind id n streams) ≡ bytes_with id streams
own_next id n [] = refl
own_next id n (s ∷ streams) = by (s.0 == id) refl (own_next id n streams)
  where
    by : (t : Bool) → (s.0 == id) ≡ t → next_of id n streams ++ bytes_with id (left_behind id n streams) ≡ bytes_with id streams
        → (if t then take n s.1 else next_of id n streams)
        ++ bytes_with id (if t then (s.0, drop n s.1) ∷ streams else s ∷ left_behind id n streams) ≡ (if t then s.1 else bytes_with id streams)
    by true e more = ap (λ (t : Bool). take n s.1 ++ (if t then drop n s.1 else bytes_with id streams)) e ∙ take-append-drop n s.1
    by false e more = ap (λ (t : Bool). next_of id n streams ++ (if t then s.1 else bytes_with id (left_behind id n streams))) e ∙ more

other_next : (id i n : ℕ) (streams : List (ℕ × List ℕ)) → i ≢ id → bytes_with id (left_behind i n streams) ≡ bytes_with id streams
other_next id i n [] differs = refl
other_next id i n (s ∷ streams) differs = by (s.0 == i) refl (other_next id i n streams differs)
  where
    by : (t : Bool) → (s.0 == i) ≡ t → bytes_with id (left_behind i n streams) ≡ bytes_with id streams
        → bytes_with id (if t then (s.0, drop n s.1) ∷ streams else s ∷ left_behind i n streams)
        ≡ bytes_with id (s ∷ streams)
    by true e more =
        let other = differ s.0 id (λ same. differs (sym (eqb-true s.0 i e) ∙ same)) in
        ap (λ (t : Bool). if t then drop n s.1 else bytes_with id streams) other ∙ sym (ap (λ (t : Bool). if t then s.1 else bytes_with id streams) other)
    by false e more = ap (λ (l : List ℕ). if s.0 == id then s.1 else l) more

one_weave : (id i n : ℕ) (streams : List (ℕ × List ℕ))
    → of id (under i (next_of i n streams)) ++ bytes_with id (left_behind i n streams) ≡ bytes_with id streams
one_weave id i n streams = elim (eqb_tells i id) [
  | inl is ↦
      subst (λ (j : ℕ). of id (under j (next_of j n streams)) ++ bytes_with id (left_behind j n streams) ≡ bytes_with id streams) (sym is.1)
      (ap (λ (l : List ℕ). l ++ bytes_with id (left_behind id n streams)) (of_own id (next_of id n streams)) ∙ own_next id n streams)
  | inr other ↦
      ap (λ (l : List ℕ). l ++ bytes_with id (left_behind i n streams)) (of_none id i (next_of i n streams) other.1) ∙ other_next id i n streams other.1
]

same_ids : (id i n : ℕ) (streams : List (ℕ × List ℕ)) → has_id id (left_behind i n streams) ≡ has_id id streams
same_ids id i n [] = refl
same_ids id i n (s ∷ streams) = by (s.0 == i) (same_ids id i n streams)
  where
    by : (t : Bool) → has_id id (left_behind i n streams) ≡ has_id id streams
        → has_id id (if t then (s.0, drop n s.1) ∷ streams else s ∷ left_behind i n streams) ≡ has_id id (s ∷ streams)
    by true more = refl
    by false more = ap (λ (t : Bool). (s.0 == id) || t) more

stay_apart : (i n : ℕ) (streams : List (ℕ × List ℕ)) → AreApart streams → AreApart (left_behind i n streams)
stay_apart i n [] apart = tt
stay_apart i n (s ∷ streams) apart = by (s.0 == i) (stay_apart i n streams apart.1)
  where
    by : (t : Bool) → AreApart (left_behind i n streams) → AreApart (if t then (s.0, drop n s.1) ∷ streams else s ∷ left_behind i n streams)
    by true more = apart
    by false more = (same_ids s.0 i n streams ∙ apart.0, more)

-- ---- all weaves

woven_is : (weaves : List Weave) (streams : List (ℕ × List ℕ)) (id : ℕ) → AreApart streams → of id (woven weaves streams) ≡ bytes_with id streams
woven_is [] streams id apart = row_is id streams apart
woven_is (w ∷ weaves) streams id apart =
    let more = left_behind w.id w.count streams in
    of-append id (under w.id (next_of w.id w.count streams)) (woven weaves more)
    ∙ ap (λ (l : List ℕ). of id (under w.id (next_of w.id w.count streams)) ++ l) (woven_is weaves more id (stay_apart w.id w.count streams apart))
    ∙ one_weave id w.id w.count streams

none_of_them : (id : ℕ) (streams : List (ℕ × List ℕ)) → has_id id streams ≡ false → All (λ (s : ℕ × List ℕ). (id == s.0) ≡ false) streams
none_of_them id [] none = All-nil (λ (s : ℕ × List ℕ). (id == s.0) ≡ false)
none_of_them id (s ∷ streams) none =
    let parts = neither (s.0 == id) (has_id id streams) none in
    All-cons (λ (t : ℕ × List ℕ). (id == t.0) ≡ false) s streams (differ id s.0 (λ same. eqb-false s.0 id parts.0 (sym same)))
    (none_of_them id streams parts.1)

found : (streams : List (ℕ × List ℕ)) → AreApart streams → All (λ (s : ℕ × List ℕ). bytes_with s.0 streams ≡ s.1) streams
found [] apart = All-nil (λ (s : ℕ × List ℕ). bytes_with s.0 [] ≡ s.1)
found (s ∷ streams) apart =
    let others = none_of_them s.0 streams apart.0 in
    let here = found streams apart.1 in
    All-cons (λ (t : ℕ × List ℕ). bytes_with t.0 (s ∷ streams) ≡ t.1) s streams
    (ap (λ (t : Bool). if t then s.1 else bytes_with s.0 streams) (eq-eqb s.0 s.0 refl))
    (λ k d within. ap (λ (t : Bool). if t then s.1 else bytes_with (slice_index_or streams k d).0 streams) (others k d within) ∙ here k d within)

pub woven_whole : WovenWhole
woven_whole weaves streams apart =
    let here = found streams apart in
    λ k d within. woven_is weaves streams (slice_index_or streams k d).0 apart ∙ here k d within

-- ---- nothing else

abbrev IsIn : List (ℕ × List ℕ) → ℕ × ℕ → Type 0
IsIn streams pair = has_id pair.0 streams ≡ true

under_are : (P : ℕ × ℕ → Type 0) (id : ℕ) (bytes : List ℕ) → All (λ (b : ℕ). P (id, b)) bytes → All P (under id bytes)
under_are P id bytes are = All-map P (λ (b : ℕ). (id, b)) bytes are

row_alone : (streams : List (ℕ × List ℕ)) → All (IsIn streams) (in_a_row streams)
row_alone [] = All-nil (IsIn [])
row_alone (s ∷ streams) =
    let own : has_id s.0 (s ∷ streams) ≡ true = ap (λ (t : Bool). t || has_id s.0 streams) (eq-eqb s.0 s.0 refl) in
    All-append (IsIn (s ∷ streams)) (under s.0 s.1) (in_a_row streams) (under_are (IsIn (s ∷ streams)) s.0 s.1 (λ k d within. own))
    (All-weaker (IsIn streams) (IsIn (s ∷ streams)) (λ pair is. or_second (s.0 == pair.0) (has_id pair.0 streams) is) (in_a_row streams)
    (row_alone streams))

pub next_none : (i n : ℕ) (streams : List (ℕ × List ℕ)) → has_id i streams ≡ false → next_of i n streams ≡ []
next_none i n [] none = refl
next_none i n (s ∷ streams) none =
    let parts = neither (s.0 == i) (has_id i streams) none in
    ap (λ (t : Bool). if t then take n s.1 else next_of i n streams) parts.0 ∙ next_none i n streams parts.1

next_alone : (i n : ℕ) (streams : List (ℕ × List ℕ)) → All (IsIn streams) (under i (next_of i n streams))
next_alone i n streams = by (has_id i streams) refl
  where
    by : (t : Bool) → has_id i streams ≡ t → All (IsIn streams) (under i (next_of i n streams))
    by true e = under_are (IsIn streams) i (next_of i n streams) (λ k d within. e)
    by false e = subst (λ (l : List ℕ). All (IsIn streams) (under i l)) (sym (next_none i n streams e)) (All-nil (IsIn streams))

pub woven_alone : WovenAlone
woven_alone [] streams = row_alone streams
woven_alone (w ∷ weaves) streams =
    let more = left_behind w.id w.count streams in
    All-append (IsIn streams) (under w.id (next_of w.id w.count streams)) (woven weaves more) (next_alone w.id w.count streams)
    (All-weaker (IsIn more) (IsIn streams) (λ pair is. sym (same_ids pair.0 w.id w.count streams) ∙ is) (woven weaves more) (woven_alone weaves more))

of_absent : (streams : List (ℕ × List ℕ)) (id : ℕ) (pairs : List (ℕ × ℕ)) → has_id id streams ≡ false → All (IsIn streams) pairs → of id pairs ≡ []
of_absent streams id [] none are = refl
of_absent streams id (pair ∷ pairs) none are =
    let is = All-head (IsIn streams) pair pairs are in
    of_others id pair.0 pair.1 pairs (λ same. let no : true ≡ false = sym is ∙ ap (λ (i : ℕ). has_id i streams) same ∙ none in absurd cc)
    ∙ of_absent streams id pairs none (All-tail (IsIn streams) pair pairs are)

pub others_have_no_byte : OthersHaveNoByte
others_have_no_byte weaves streams id none = of_absent streams id (woven weaves streams) none (woven_alone weaves streams)

-- ---- bytes

abbrev IsByte : ℕ → Type 0
IsByte b = b < 256

abbrev AreBytes : ℕ × List ℕ → Type 0
AreBytes s = All IsByte s.1

abbrev HasByte : ℕ × ℕ → Type 0
HasByte pair = pair.1 < 256

row_bytes : (streams : List (ℕ × List ℕ)) → All AreBytes streams → All HasByte (in_a_row streams)
row_bytes [] are = All-nil HasByte
row_bytes (s ∷ streams) are =
    All-append HasByte (under s.0 s.1) (in_a_row streams) (under_are HasByte s.0 s.1 (All-head AreBytes s streams are))
    (row_bytes streams (All-tail AreBytes s streams are))

next_bytes : (i n : ℕ) (streams : List (ℕ × List ℕ)) → All AreBytes streams → All IsByte (next_of i n streams)
next_bytes i n [] are = All-nil IsByte
next_bytes i n (s ∷ streams) are = by (s.0 == i) (next_bytes i n streams (All-tail AreBytes s streams are))
  where
    by : (t : Bool) → All IsByte (next_of i n streams) → All IsByte (if t then take n s.1 else next_of i n streams)
    by true more = All-take IsByte n s.1 (All-head AreBytes s streams are)
    by false more = more

left_bytes : (i n : ℕ) (streams : List (ℕ × List ℕ)) → All AreBytes streams → All AreBytes (left_behind i n streams)
left_bytes i n [] are = All-nil AreBytes
left_bytes i n (s ∷ streams) are = by (s.0 == i) (left_bytes i n streams (All-tail AreBytes s streams are))
  where
    by : (t : Bool) → All AreBytes (left_behind i n streams) → All AreBytes (if t then (s.0, drop n s.1) ∷ streams else s ∷ left_behind i n streams)
    by true more =
        All-cons AreBytes (s.0, drop n s.1) streams (All-drop IsByte n s.1 (All-head AreBytes s streams are)) (All-tail AreBytes s streams are)
    by false more = All-cons AreBytes s (left_behind i n streams) (All-head AreBytes s streams are) more

pub woven_bytes : WovenBytes
woven_bytes [] streams are = row_bytes streams are
woven_bytes (w ∷ weaves) streams are =
    let more = left_behind w.id w.count streams in
    All-append HasByte (under w.id (next_of w.id w.count streams)) (woven weaves more)
    (under_are HasByte w.id (next_of w.id w.count streams) (next_bytes w.id w.count streams are))
    (woven_bytes weaves more (left_bytes w.id w.count streams are))
