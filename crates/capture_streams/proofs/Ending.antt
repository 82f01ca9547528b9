-- The lines of how streams end, one after the other.
use Rattle.std.proofs.Common.{◌≡◌, ◌≢◌, inl, inr, ℕ, zero, suc, ◌+◌, ◌-◌, ◌≤◌, ◌<◌, Bool, true, false, List, [], ◌∷◌, ◌++◌}
use Rattle.std.proofs.Common.{length, Result, Ok, Err, refl, sym, ap, subst, ◌∙◌, arith, append_assoc, append-nil}
use Rattle.std.specs.Prelude.{◌||◌, ◌&&◌, not, nat_lt, IfOk, None, if◌then◌else◌}
use Rattle.std.specs.List.{range_with_len}
use Rattle.std.proofs.lemmas.Bool.{lt-ltb}
use Rattle.std.proofs.lemmas.Bool.Decides.{eqb_tells}
use Rattle.path_text.proofs.Wrote.{Wrote, all_written, fails_after, fails_first, last_fails, wrote_by, wrote_more, wrote_nothing, writes_all}
use Rattle.path_text.specs.EndLines.{frame_cut_line}
use Rattle.path_text.specs.Writing.{Writes}
use Rattle.capture_streams.specs.Streams.{StandFrom, source_count}
use Rattle.capture_streams.specs.Texts.{EndsOf, IsEnding, IsSum, Listing, Printed, StreamEnds, by_sizes, cut_lines, of, sources, text_of}
use Rattle.etm_types.specs.Settings.{Sizes}
use Rattle.capture_streams.proofs.Bodies.{text_of-append}
use Rattle.capture_streams.proofs.BySizes.{ends_by}
use Rattle.trace_io.specs.State.{IoState}

-- the IDs from one to another, which is not one of them
abbrev pub ids : ℕ → ℕ → List ℕ
ids from to = range_with_len from (to - from)

or_right : (a : Bool) → a ≡ (a || false)
or_right true = refl
or_right false = refl

or_true : (a : Bool) → (a || true) ≡ true
or_true true = refl
or_true false = refl

or_assoc : (a b c : Bool) → (a || (b || c)) ≡ ((a || b) || c)
or_assoc true b c = refl
or_assoc false b c = refl

not_or : (a b : Bool) → (not a && not b) ≡ not (a || b)
not_or true b = refl
not_or false b = refl

-- ends of joined lists of IDs
pub ends-append : (g : Listing) (pairs : List (ℕ × ℕ)) (xs ys : List ℕ) (lines more : List Printed) (one others : Bool) → EndsOf g pairs xs lines one
    → EndsOf g pairs ys more others → EndsOf g pairs (xs ++ ys) (lines ++ more) (one || others)
ends-append g pairs [] ys lines more one others (none, no_fault) ends =
    subst (λ (l : List Printed). EndsOf g pairs ys (l ++ more) (one || others)) (sym none)
    (subst (λ (b : Bool). EndsOf g pairs ys more (b || others)) (sym no_fault) ends)
ends-append g pairs (id ∷ xs) ys lines more one others (first, rest, f, o, here, later, all, fault) ends = (
  first,
  rest ++ more,
  f,
  o || others,
  here,
  ends-append g pairs xs ys rest more o others later ends,
  ap (λ (l : List Printed). l ++ more) all ∙ append_assoc first rest more,
  ap (λ (b : Bool). b || others) fault ∙ sym (or_assoc f o others),
)

one_end : (g : Listing) (pairs : List (ℕ × ℕ)) (id : ℕ) (lines : List Printed) (faulty : Bool) → StreamEnds g id (of id pairs) lines faulty
    → EndsOf g pairs (id ∷ []) lines faulty
one_end g pairs id lines faulty ends = (lines, [], faulty, false, ends, (refl, refl), sym (append-nil lines), or_right faulty)

-- the ends of the streams of these IDs were written, in calls that did not fail, and all are whole or not
pub record EndedOf (g : Listing) (pairs : List (ℕ × ℕ)) (list : List ℕ) (whole : Bool) (old new : IoState) : Type 0 where
  pub lines : List Printed
  pub faulty : Bool
  pub ends : EndsOf g pairs list lines faulty
  pub same : whole ≡ not faulty
  pub wrote : Wrote old new (text_of lines)

abbrev pub EndedTo : Listing → List (ℕ × ℕ) → ℕ → ℕ → Bool → IoState → IoState → Type 0
EndedTo g pairs from to whole old new = EndedOf g pairs (ids from to) whole old new

pub none_ended : (g : Listing) (pairs : List (ℕ × ℕ)) (a : IoState) → EndedTo g pairs 1 1 true a a
none_ended g pairs a = record { lines = []; faulty = false; ends = (refl, refl); same = refl; wrote = wrote_nothing a }

range-append : (from m n : ℕ) → range_with_len from (m + n) ≡ range_with_len from m ++ range_with_len (from + m) n
range-append from zero n =
    ap (λ k. range_with_len from k) (let e : zero + n ≡ n = omega arith in e) ∙ ap (λ f. range_with_len f n) (let e : from ≡ from + zero = omega arith in e)
range-append from (suc m) n =
    ap (range_with_len from) (let e : suc m + n ≡ suc (m + n) = omega arith in e)
    ∙ ap (λ l. from ∷ l)
    (range-append (from + 1) m n ∙ ap (λ f. range_with_len (from + 1) m ++ range_with_len f n) (let e : from + 1 + m ≡ from + suc m = omega arith in e))

range_one : (from : ℕ) → range_with_len from 1 ≡ from ∷ []
range_one from = refl

pub ids_more : (to : ℕ) → 1 ≤ to → ids 1 (to + 1) ≡ ids 1 to ++ to ∷ []
ids_more to from =
    let count : to + 1 - 1 ≡ (to - 1) + 1 = omega (arith, from) in let last : 1 + (to - 1) ≡ to = omega (arith, from) in
    ap (range_with_len 1) count ∙ range-append 1 (to - 1) 1 ∙ ap (λ n. range_with_len 1 (to - 1) ++ n ∷ []) last

-- those before one, it, and those after it are all of them
pub ids_parts : (id count : ℕ) → 1 ≤ id → id + suc count ≡ 112 → (ids 1 id ++ id ∷ []) ++ range_with_len (id + 1) count ≡ sources
unfolding sources
ids_parts id count from is =
    let behind : 1 + id ≡ id + 1 = omega arith in let all : (id + 1 - 1) + count ≡ 111 = omega (arith, is, from) in
    let next : 1 + (id + 1 - 1) ≡ id + 1 = omega (arith, from) in
    ap (λ l. l ++ range_with_len (id + 1) count) (sym (ids_more id from))
    ∙ ap (λ f. range_with_len 1 (id + 1 - 1) ++ range_with_len f count) (sym next)
    ∙ sym (range-append 1 (id + 1 - 1) count) ∙ ap (range_with_len 1) all

-- ---- streams that are abandoned

-- these streams end in some way
abbrev pub SomeEnds : Listing → List (ℕ × ℕ) → List ℕ → Type 0
SomeEnds g pairs list = (lines : List Printed) × (faulty : Bool) × EndsOf g pairs list lines faulty

-- of streams from an ID on these are left, and where those end in some way all do
pub record Remaining {X : Type 0} (stands : X → List ℕ → Type 0) (sizes : X → Sizes) (t : ℕ → Sizes) (g : Listing) (pairs : List (ℕ × ℕ)) (id : ℕ)
    (all left : List X) : Type 0 where
  pub at : ℕ
  pub stand : StandFrom stands sizes t at left pairs
  pub rest : SomeEnds g pairs (range_with_len at (length left)) → SomeEnds g pairs (range_with_len id (length all))

module _ {X : Type 0} (stands : X → List ℕ → Type 0) (sizes : X → Sizes) (t : ℕ → Sizes) (listing : Sizes → Listing) (pairs : List (ℕ × ℕ)) (id : ℕ)
    (all : List X) where
  abbrev pub Left : List X → Type 0
  Left = Remaining stands sizes t (by_sizes listing t) pairs id all

  pub all_remain : StandFrom stands sizes t id all pairs → Left all
  all_remain stand = record { at = id; stand = stand; rest = λ ends. ends }

  pub one_less : (stream : X) (left : List X) → Left (stream ∷ left)
      → ((i : ℕ) (bytes : List ℕ) → stands stream bytes → (lines : List Printed) × (faulty : Bool) × StreamEnds (listing (sizes stream)) i bytes lines faulty)
      → Left left
  one_less stream left was ends =
      let is = was.stand in
      let one = ends was.at (of was.at pairs) is.0 in
      let here : StreamEnds (by_sizes listing t) was.at (of was.at pairs) one.0 one.1 =
      ends_by listing t was.at (of was.at pairs) one.0 one.1
      (subst (λ (u : Sizes). StreamEnds (listing u) was.at (of was.at pairs) one.0 one.1) is.1 one.2) in
      record {
        at = was.at + 1;
        stand = subst (λ k. StandFrom stands sizes t k left pairs) (let e : suc was.at ≡ was.at + 1 = omega arith in e) is.2;
        rest = λ more. was.rest (one.0 ++ more.0, one.1 || more.1, (one.0, more.0, one.1, more.1, here, more.2, refl, refl));
      }

  pub none_remain : Left [] → SomeEnds (by_sizes listing t) pairs (range_with_len id (length all))
  none_remain was = was.rest ([], false, (refl, refl))

-- ---- streams that are finished

module _ (g : Listing) (pairs : List (ℕ × ℕ)) (list : List ℕ) (whole : Bool) (a b c : IoState) (was : EndedOf g pairs list whole a b) (id : ℕ)
    (lines : List Printed) (faulty : Bool) (ends : StreamEnds g id (of id pairs) lines faulty) where
  joined : EndsOf g pairs (list ++ id ∷ []) (was.lines ++ lines) (was.faulty || faulty)
  joined = ends-append g pairs list (id ∷ []) was.lines lines was.faulty faulty was.ends (one_end g pairs id lines faulty ends)

  pub one_more_ended : (one : Bool) → one ≡ not faulty → Wrote b c (text_of lines) → EndedOf g pairs (list ++ id ∷ []) (whole && one) a c
  one_more_ended one same wrote =
      record {
        lines = was.lines ++ lines;
        faulty = was.faulty || faulty;
        ends = joined;
        same = ap (λ (t : Bool). t && one) was.same ∙ ap (λ (t : Bool). not was.faulty && t) same ∙ not_or was.faulty faulty;
        wrote = subst (Wrote a c) (sym (text_of-append was.lines lines)) (wrote_more a b c (text_of was.lines) (text_of lines) was.wrote wrote);
      }

  -- where the line of a stream fails, a front of the lines of all is written
  pub end_fails : {T U E : Type 0} (e d : E) (later : List ℕ) (more : List Printed) (others : Bool) → EndsOf g pairs later more others
      → Writes {T = T} b c (Err e) (text_of lines)
      → (all : List Printed) × (fault : Bool) × EndsOf g pairs ((list ++ id ∷ []) ++ later) all fault × Writes {T = U} a c (Err d) (text_of all)
  end_fails e d later more others ended writes =
      let all = (was.lines ++ lines) ++ more in
      let text : text_of was.lines ++ (text_of lines ++ text_of more) ≡ text_of all =
      sym (append_assoc (text_of was.lines) (text_of lines) (text_of more)) ∙ ap (λ t. t ++ text_of more) (sym (text_of-append was.lines lines))
      ∙ sym (text_of-append (was.lines ++ lines) more) in (
        all,
        (was.faulty || faulty) || others,
        ends-append g pairs (list ++ id ∷ []) later (was.lines ++ lines) more (was.faulty || faulty) others joined ended,
        fails_after a b c e d (text_of was.lines) (text_of lines) (text_of more) (text_of all) text was.wrote writes,
      )

-- the ends of so many streams as there are sources are those of all
pub all_sources : {X : Type 0} (g : Listing) (pairs : List (ℕ × ℕ)) (streams : List X) (lines : List Printed) (faulty : Bool) → length streams ≡ source_count
    → EndsOf g pairs (range_with_len 1 (length streams)) lines faulty → EndsOf g pairs sources lines faulty
unfolding sources
all_sources g pairs streams lines faulty count ends = subst (λ n. EndsOf g pairs (range_with_len 1 n) lines faulty) count ends

-- ---- all of them

pub none_left : {X : Type 0} (xs : List X) → (0 < length xs → false ≡ true) → [] ≡ xs
none_left [] none = refl
none_left (x ∷ xs) none = let e : false ≡ true = none (omega arith) in cc

pub all_ended : (g : Listing) (pairs : List (ℕ × ℕ)) (id : ℕ) (whole : Bool) (a b : IoState) → id ≡ 112 → EndedTo g pairs 1 id whole a b
    → EndedOf g pairs sources whole a b
unfolding sources
all_ended g pairs id whole a b last ended = subst (λ k. EndedTo g pairs 1 k whole a b) last ended

pub written_ends : {E : Type 0} (g : Listing) (pairs : List (ℕ × ℕ)) (list : List ℕ) (whole : Bool) (a b : IoState) → EndedOf g pairs list whole a b
    → (lines : List Printed) × (faulty : Bool) × EndsOf g pairs list lines faulty × Writes {T = Bool} {E = E} a b (Ok whole) (text_of lines)
    × (whole ≡ not faulty)
written_ends g pairs list whole a b ended =
    (ended.lines, ended.faulty, ended.ends, writes_all a b whole (text_of ended.lines) ended.wrote, ended.same)

-- the stream of an ID, as it was finished
pub ends_here : (g : Sizes → Listing) (s : Sizes) (t : ℕ → Sizes) (given id : ℕ) (bytes : List ℕ) (lines : List Printed) (faulty : Bool) → s ≡ t id
    → given ≡ id → StreamEnds (g s) given bytes lines faulty → StreamEnds (by_sizes g t) id bytes lines faulty
ends_here g s t given id bytes lines faulty sizes same ends =
    ends_by g t id bytes lines faulty (subst (λ (u : Sizes). StreamEnds (g u) id bytes lines faulty) sizes
    (subst (λ (i : ℕ). StreamEnds (g s) i bytes lines faulty) same ends))

-- ---- the frame that is cut

-- the last lines of all, and what was written of them
abbrev pub Ends : {E : Type 0} → Listing → List (ℕ × ℕ) → ℕ → IoState → IoState → Result Bool E → Type 0
Ends g pairs left a c result =
    (all : List Printed) × (fault : Bool) × IsEnding g pairs left all fault × Writes a c result (text_of all) × IfOk result (λ (w : Bool). w ≡ not fault)

module _ (g : Listing) (pairs : List (ℕ × ℕ)) (left : ℕ) (sums : List Printed) (summed : IsSum g pairs sums) (own : List Printed) (faulty : Bool)
    (ends : EndsOf g pairs sources own faulty) where
  -- those before the frame
  abbrev lines : List Printed
  lines = sums ++ own

  ending : IsEnding g pairs left (lines ++ cut_lines left) (faulty || nat_lt 0 left)
  ending =
      record { sums = sums; summed = summed; ends = own; some_fault = faulty; ended = ends; all = append_assoc sums own (cut_lines left); fault = refl }

  -- a front of the lines of the sum was written
  pub sum_fails : {T E : Type 0} (a b : IoState) (e d : E) → Writes {T = T} a b (Err e) (text_of sums) → Ends {E = E} g pairs left a b (Err d)
  sum_fails a b e d writes = (
    lines ++ cut_lines left,
    faulty || nat_lt 0 left,
    ending,
    fails_first a b e d (text_of sums) (text_of (own ++ cut_lines left)) (text_of (lines ++ cut_lines left))
        (sym (text_of-append sums (own ++ cut_lines left)) ∙ ap text_of (sym (append_assoc sums own (cut_lines left)))) writes,
    tt,
  )

  pub ends_fail : {E : Type 0} (a b : IoState) (e d : E) → Writes {T = Bool} a b (Err e) (text_of lines) → Ends {E = E} g pairs left a b (Err d)
  ends_fail a b e d writes = (
    lines ++ cut_lines left,
    faulty || nat_lt 0 left,
    ending,
    fails_first a b e d (text_of lines) (text_of (cut_lines left)) (text_of (lines ++ cut_lines left)) (sym (text_of-append lines (cut_lines left))) writes,
    tt,
  )

  pub ends_uncut : {E : Type 0} (a b : IoState) (whole : Bool) → left ≡ 0 → Writes {T = Bool} {E = E} a b (Ok whole) (text_of lines) → whole ≡ not faulty
      → Ends {E = E} g pairs left a b (Ok whole)
  ends_uncut {E} a b whole none writes same =
      let cut : cut_lines left ≡ [] = ap cut_lines none in
      let no_fault : (faulty || nat_lt 0 left) ≡ faulty = ap (λ n. faulty || nat_lt 0 n) none ∙ sym (or_right faulty) in (
        lines ++ cut_lines left,
        faulty || nat_lt 0 left,
        ending,
        subst (λ t. Writes {T = Bool} {E = E} a b (Ok whole) (text_of t)) (sym (ap (λ l. lines ++ l) cut ∙ append-nil lines)) writes,
        same ∙ ap not (sym no_fault),
      )

  module _ (some : left ≢ 0) where
    one_line : cut_lines left ≡ record { id = None; line = frame_cut_line left } ∷ []
    one_line = elim (eqb_tells left 0) [
      | inl is ↦ absurd (some is.1)
      | inr other ↦ ap (λ (t : Bool). if t then [] else record { id = None; line = frame_cut_line left } ∷ []) other.0
    ]

    cut_text : text_of (cut_lines left) ≡ frame_cut_line left
    cut_text = ap text_of one_line ∙ append-nil (frame_cut_line left)

    text : text_of lines ++ frame_cut_line left ≡ text_of (lines ++ cut_lines left)
    text = ap (λ t. text_of lines ++ t) (sym cut_text) ∙ sym (text_of-append lines (cut_lines left))

    fault_is : (faulty || nat_lt 0 left) ≡ true
    fault_is = ap (λ t. faulty || t) (lt-ltb 0 left (omega (arith, some))) ∙ or_true faulty

    pub ends_cut : {T E : Type 0} (a b c : IoState) (whole : Bool) (x : T) → Writes {T = Bool} {E = E} a b (Ok whole) (text_of lines)
        → Writes {T = T} {E = E} b c (Ok x) (frame_cut_line left) → Ends {E = E} g pairs left a c (Ok false)
    ends_cut a b c whole x first last = (
      lines ++ cut_lines left,
      faulty || nat_lt 0 left,
      ending,
      all_written a b c x false (text_of lines) (frame_cut_line left) (text_of (lines ++ cut_lines left)) text
          (wrote_by a b whole (text_of lines) first) last,
      ap not (sym fault_is),
    )

    pub cut_fails : {T E : Type 0} (a b c : IoState) (whole : Bool) (e d : E) → Writes {T = Bool} {E = E} a b (Ok whole) (text_of lines)
        → Writes {T = T} {E = E} b c (Err e) (frame_cut_line left) → Ends {E = E} g pairs left a c (Err d)
    cut_fails a b c whole e d first last = (
      lines ++ cut_lines left,
      faulty || nat_lt 0 left,
      ending,
      last_fails a b c e d (text_of lines) (frame_cut_line left) (text_of (lines ++ cut_lines left)) text
          (wrote_by a b whole (text_of lines) first) last,
      tt,
    )
