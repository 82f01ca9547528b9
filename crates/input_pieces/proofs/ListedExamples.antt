-- Answers that were worked out by hand, for one stream of which little is printed, and answers near them that no input has.
use Rattle.std.proofs.Common.{◌≡◌, ℕ, ◌-◌, ◌≤◌, Bool, true, false, List, [], ◌∷◌, ◌++◌, length, take, Some, None, Result, Ok, Err, refl, sym, ap, subst, ◌∙◌, inl, inr, arith}
use Rattle.std.proofs.Common.{append-nil, length-append}
use Rattle.std.specs.Prelude.{get_or}
use Rattle.answer_lines.specs.declared.status.Status.{Status}
use Rattle.answer_lines.specs.declared.status.Status.TheVariants as status
use Rattle.capture_streams.proofs.OneText.{one_body}
use Rattle.capture_streams.proofs.Sums.{no_sum}
use Rattle.etm_types.specs.declared.item.Item.TheVariants as item
use Rattle.input_pieces.specs.Listed.{Breaks, Completes, IsTaken, Listed, most_at_once, most_input}
use Rattle.path_elements.specs.PathLaws.{BeginsWith}
use Rattle.capture_streams.proofs.Printing.{PrintsBy, body, body_of, gains_once, printing, prints_by}
use Rattle.capture_streams.specs.Demuxed.{raw_pairs}
use Rattle.capture_streams.specs.Laid.{raw_laid}
use Rattle.capture_streams.specs.Texts.{BodyFrom, IsText, Listing, PairGains, Printed, lines_under, sources, text_of}
use Rattle.trace_io.specs.State.{IoState}
use Rattle.trace_io.specs.declared.traits.Failed.{Failed}

-- ---- what is printed: by each byte a line of it, at the end a line 0, and a byte 9 is a fault

abbrev byte_line : ℕ → ℕ → ℕ → List ℕ
byte_line id had byte = byte ∷ 10 ∷ []

abbrev last_line : ℕ → ℕ → List ℕ
last_line id had = 0 ∷ 10 ∷ []

abbrev each : Listing
each = printing byte_line last_line

-- these bytes are shown, and so many calls failed
abbrev shows : List ℕ → ℕ → IoState
shows bytes faults = record { bytes = Some bytes; faults = faults }

-- An input of these bytes is answered so, where these are left of it, so many reads failed, and this was printed behind a byte 7.
abbrev Says : List ℕ → List ℕ → ℕ → List ℕ → Result Status Failed → Type 0
Says input left failed printed result = Listed raw_laid each (shows input 0) (shows left failed) (shows (7 ∷ []) 0) (shows (7 ∷ printed) 0) result

abbrev two : List ℕ
two = 40 ∷ 41 ∷ []

abbrev two_lines : List Printed
two_lines = lines_under 1 ((40 ∷ 10 ∷ []) ∷ (41 ∷ 10 ∷ []) ∷ (0 ∷ 10 ∷ []) ∷ [])

two_prints : PrintsBy byte_line last_line (raw_pairs two) 0 two_lines false
unfolding sources
two_prints = prints_by byte_line last_line (raw_pairs two) 0

-- ---- an input that is read to its end

pub done : Says two [] 0 (40 ∷ 10 ∷ 41 ∷ 10 ∷ 0 ∷ 10 ∷ []) (Ok status.Done)
done = record { bytes = two; read = (refl, refl); few = omega arith; lines = two_lines; shown = two_prints.is; printed = refl }

-- it has no other text and no fault
completes_once : (left printed : List ℕ) (failed : ℕ) (faulty : Bool)
    → Completes raw_laid each (shows two 0) (shows left failed) (shows (7 ∷ []) 0) (shows (7 ∷ printed) 0) faulty
    → (left ≡ []) × (printed ≡ 40 ∷ 10 ∷ 41 ∷ 10 ∷ 0 ∷ 10 ∷ []) × (faulty ≡ false)
completes_once left printed failed faulty all =
    let bytes : all.bytes ≡ two = sym (append-nil all.bytes) ∙ ap (λ l. all.bytes ++ l) (sym all.read.1) ∙ sym all.read.0 in
    let same = two_prints.only all.lines faulty (subst (λ b. IsText each (raw_pairs b) 0 all.lines faulty) bytes all.shown) in
    let text : 7 ∷ printed ≡ 7 ∷ 40 ∷ 10 ∷ 41 ∷ 10 ∷ 0 ∷ 10 ∷ [] = all.printed ∙ ap (λ l. 7 ∷ text_of l) same.0 in
    (all.read.1, cc, same.1)

-- the line of the end does not wait
pub without_its_end : Says two [] 0 (40 ∷ 10 ∷ 41 ∷ 10 ∷ []) (Ok status.Done) → ⊥
without_its_end says = absurd (omega (arith, ap length (completes_once [] (40 ∷ 10 ∷ 41 ∷ 10 ∷ []) 0 false says).1))

-- nor is a line left out
pub without_a_line : Says two [] 0 (41 ∷ 10 ∷ 0 ∷ 10 ∷ []) (Ok status.Done) → ⊥
without_a_line says = absurd (omega (arith, ap length (completes_once [] (41 ∷ 10 ∷ 0 ∷ 10 ∷ []) 0 false says).1))

-- it is not at its end while a byte is left
pub before_its_end : Says two (41 ∷ []) 0 (40 ∷ 10 ∷ 0 ∷ 10 ∷ []) (Ok status.Done) → ⊥
before_its_end says = absurd (omega (arith, ap length (completes_once (41 ∷ []) (40 ∷ 10 ∷ 0 ∷ 10 ∷ []) 0 false says).0))

-- and it has no fault
pub without_a_fault : Says two [] 0 (40 ∷ 10 ∷ 41 ∷ 10 ∷ 0 ∷ 10 ∷ []) (Ok status.Faulted) → ⊥
without_a_fault says = absurd (let same = (completes_once [] (40 ∷ 10 ∷ 41 ∷ 10 ∷ 0 ∷ 10 ∷ []) 0 true says).2 in cc)

-- an input with a fault
nine_prints : PrintsBy byte_line last_line (raw_pairs (9 ∷ [])) 0 (lines_under 1 ((9 ∷ 10 ∷ []) ∷ (0 ∷ 10 ∷ []) ∷ [])) true
unfolding sources
nine_prints = prints_by byte_line last_line (raw_pairs (9 ∷ [])) 0

pub faulted : Says (9 ∷ []) [] 0 (9 ∷ 10 ∷ 0 ∷ 10 ∷ []) (Ok status.Faulted)
faulted = record {
  bytes = 9 ∷ [];
  read = (refl, refl);
  few = omega arith;
  lines = lines_under 1 ((9 ∷ 10 ∷ []) ∷ (0 ∷ 10 ∷ []) ∷ []);
  shown = nine_prints.is;
  printed = refl;
}

pub a_fault_is_done : Says (9 ∷ []) [] 0 (9 ∷ 10 ∷ 0 ∷ 10 ∷ []) (Ok status.Done) → ⊥
a_fault_is_done says =
    let bytes : says.bytes ≡ 9 ∷ [] = sym (append-nil says.bytes) ∙ sym says.read.0 in
    let same = (nine_prints.only says.lines false (subst (λ b. IsText each (raw_pairs b) 0 says.lines false) bytes says.shown)).1 in absurd cc

-- ---- a read that fails: the lines of the bytes before it, and no end

-- what is printed of bytes behind which no more is taken
taken : (bytes : List ℕ) → IsTaken raw_pairs each bytes (body_of byte_line last_line [] (raw_pairs bytes))
taken bytes =
    let lines = body_of byte_line last_line [] (raw_pairs bytes) in (
      lines,
      [],
      body byte_line last_line [] (raw_pairs bytes),
      no_sum each (λ id before byte. refl) refl (raw_pairs bytes),
      sym (append-nil lines),
    )

-- and nothing else
taken_once : (bytes : List ℕ) (lines : List Printed) → IsTaken raw_pairs each bytes lines → lines ≡ body_of byte_line last_line [] (raw_pairs bytes)
taken_once bytes lines (first, sums, from, (items, added, none), is) =
    is ∙ ap (λ (l : List Printed). first ++ l) none ∙ append-nil first
    ∙ one_body each (gains_once byte_line last_line) [] (raw_pairs bytes) first (body_of byte_line last_line [] (raw_pairs bytes)) from
    (body byte_line last_line [] (raw_pairs bytes))

-- 1 GiB, and 4 KiB
pub most_bytes : (most_input ≡ 1073741824) × (most_at_once ≡ 4096)
most_bytes = (refl, refl)

-- each byte is an item as well, and the sum says how many there are: its line stands behind those of the bytes
abbrev counting : Listing
counting = record {
  gains = λ id had byte lines. lines ≡ (byte ∷ 10 ∷ []) ∷ [];
  ends = λ id had line faulty. (line ≡ 0 ∷ 10 ∷ []) × (faulty ≡ false);
  adds = λ id had byte items. items ≡ item.Stop ∷ [];
  sums = λ items. (length items ∷ 10 ∷ []) ∷ [];
}

pub taken_with_its_sum : IsTaken raw_pairs counting (40 ∷ [])
    (record { id = Some 1; line = 40 ∷ 10 ∷ [] } ∷ record { id = None; line = 1 ∷ 10 ∷ [] } ∷ [])
taken_with_its_sum = (
  record { id = Some 1; line = 40 ∷ 10 ∷ [] } ∷ [],
  record { id = None; line = 1 ∷ 10 ∷ [] } ∷ [],
  ((40 ∷ 10 ∷ []) ∷ [], [], refl, refl, refl),
  ((1, item.Stop) ∷ [], (item.Stop ∷ [], [], refl, refl, refl), refl),
  refl,
)

pub broken : Says two (41 ∷ []) 1 (40 ∷ 10 ∷ []) (Ok status.ReadFault)
broken = record {
  bytes = 40 ∷ [];
  took = refl;
  few = omega arith;
  printed = (lines_under 1 ((40 ∷ 10 ∷ []) ∷ []), taken (40 ∷ []), refl);
  rose = omega arith;
}

one_before : (bytes : List ℕ) → two ≡ bytes ++ 41 ∷ [] → bytes ≡ 40 ∷ []
one_before [] is = absurd (omega (arith, ap length is))
one_before (a ∷ []) is = cc
one_before (a ∷ b ∷ bytes) is = absurd (omega (arith, ap length is, length-append bytes (41 ∷ [])))

breaks_once : (printed : List ℕ) (failed : ℕ)
    → Breaks raw_laid each (shows two 0) (shows (41 ∷ []) failed) (shows (7 ∷ []) 0) (shows (7 ∷ printed) 0) → printed ≡ 40 ∷ 10 ∷ []
breaks_once printed failed all =
    let (lines, printed_of, is) = all.printed in
    let same = taken_once (40 ∷ []) lines (subst (λ b. IsTaken raw_pairs each b lines) (one_before all.bytes all.took) printed_of) in
    let text : 7 ∷ printed ≡ 7 ∷ 40 ∷ 10 ∷ [] = is ∙ ap (λ l. 7 ∷ text_of l) same in cc

pub broken_with_an_end : Says two (41 ∷ []) 1 (40 ∷ 10 ∷ 0 ∷ 10 ∷ []) (Ok status.ReadFault) → ⊥
broken_with_an_end says = absurd (omega (arith, ap length (breaks_once (40 ∷ 10 ∷ 0 ∷ 10 ∷ []) 1 says)))

pub broken_without_its_lines : Says two (41 ∷ []) 1 [] (Ok status.ReadFault) → ⊥
broken_without_its_lines says = absurd (omega (arith, ap length (breaks_once [] 1 says)))

-- no read failed
pub broken_by_none : Says two (41 ∷ []) 0 (40 ∷ 10 ∷ []) (Ok status.ReadFault) → ⊥
broken_by_none says = absurd (omega (arith, says.rose))

-- ---- an input of one byte more than the most, and of just as many

pub exceeds : (bytes : List ℕ) (byte : ℕ) → length bytes ≡ most_input
    → Says (bytes ++ byte ∷ []) [] 0 (text_of (body_of byte_line last_line [] (raw_pairs bytes))) (Ok status.InputTooLong)
exceeds bytes byte many = record {
  bytes = bytes;
  byte = byte;
  took = sym (append-nil (bytes ++ byte ∷ []));
  many = many;
  printed = (body_of byte_line last_line [] (raw_pairs bytes), taken bytes, refl);
}

pub just_as_many : (bytes printed : List ℕ) → length bytes ≡ most_input → Says bytes [] 0 printed (Ok status.InputTooLong) → ⊥
just_as_many bytes printed many says =
    let all : length bytes ≡ length ((says.bytes ++ says.byte ∷ []) ++ []) = ap length says.took in
    absurd (omega (arith, many, says.many, all, length-append (says.bytes ++ says.byte ∷ []) [], length-append says.bytes (says.byte ∷ [])))

-- ---- an answer that no input decides

pub no_usage : Says two [] 0 [] (Ok status.Usage) → ⊥
no_usage says = says

-- ---- a write that fails: some front of the text

pub cut_short : (failed : Failed) → Says two [] 0 (40 ∷ 10 ∷ 41 ∷ []) (Err failed)
cut_short failed = record {
  bytes = two;
  took = refl;
  few = omega arith;
  shown = 40 ∷ 10 ∷ 41 ∷ [];
  printed = refl;
  late = inl (raw_pairs two, body_of byte_line last_line [] (raw_pairs two), ([], refl), body byte_line last_line [] (raw_pairs two), (10 ∷ [], refl));
  early = ([], refl, (40 ∷ 10 ∷ 41 ∷ [], refl));
}

-- nothing is short enough for few bytes
pub cut_to_nothing : (failed : Failed) → Says two [] 0 [] (Err failed)
cut_to_nothing failed = record {
  bytes = two;
  took = refl;
  few = omega arith;
  shown = [];
  printed = refl;
  late = inl (raw_pairs two, body_of byte_line last_line [] (raw_pairs two), ([], refl), body byte_line last_line [] (raw_pairs two), (text_of (body_of byte_line last_line [] (raw_pairs two)), refl));
  early = ([], refl, ([], refl));
}

-- but no more than 4096 bytes wait for their lines
pub held_back : (failed : Failed) (more : List ℕ) → length more ≡ most_at_once → Says (40 ∷ more) [] 0 [] (Err failed) → ⊥
held_back failed more many says =
    let bytes : says.bytes ≡ 40 ∷ more = sym (append-nil says.bytes) ∙ sym says.took in
    let nothing : says.shown ≡ [] = let is : 7 ∷ [] ≡ 7 ∷ says.shown = says.printed in cc in
    let (lines, from, begins) = says.early in
    let one : length (40 ∷ more) - most_at_once ≡ 1 = omega (arith, many) in
    let first : take (length says.bytes - most_at_once) says.bytes ≡ 40 ∷ [] =
    ap (λ (b : List ℕ). take (length b - most_at_once) b) bytes ∙ ap (λ (n : ℕ). take n (40 ∷ more)) one in
    let same = one_body each (gains_once byte_line last_line) [] (raw_pairs (40 ∷ [])) lines (lines_under 1 ((40 ∷ 10 ∷ []) ∷ []))
    (subst (λ b. BodyFrom each [] (raw_pairs b) lines) first from) (body byte_line last_line [] (raw_pairs (40 ∷ []))) in
    let text : [] ≡ (40 ∷ 10 ∷ []) ++ begins.0 = sym nothing ∙ begins.1 ∙ ap (λ l. text_of l ++ begins.0) same in
    absurd (omega (arith, ap length text))

-- and nothing is printed that is not of the text: a line of no byte of it
first_line : (pairs : List (ℕ × ℕ)) (lines : List Printed) → BeginsWith pairs (raw_pairs two) → BodyFrom each [] pairs lines
    → BeginsWith (40 ∷ 41 ∷ []) (text_of lines) → ⊥
first_line [] lines front none (rest, is) = absurd (omega (arith, ap length (sym (ap text_of none) ∙ is)))
first_line (pair ∷ pairs) lines (behind, front) (first, others, gains, later, all) (rest, is) =
    let one : pair ≡ (1, 40) = cc in
    let line : first ≡ (40 ∷ 10 ∷ []) ∷ [] = subst (λ (p : ℕ × ℕ). PairGains each [] p first) one gains in
    let text : text_of lines ≡ 40 ∷ 10 ∷ text_of others = ap text_of all ∙ ap (λ (l : List (List ℕ)). text_of (lines_under pair.0 l ++ others)) line in
    absurd (omega (arith, ap (λ (l : List ℕ). get_or l 1 0) (sym text ∙ is)))

first_of_text : (lines : List Printed) (faulty : Bool) → IsText each (raw_pairs two) 0 lines faulty → BeginsWith (40 ∷ 41 ∷ []) (text_of lines) → ⊥
first_of_text lines faulty is (rest, begins) =
    let same : text_of lines ≡ text_of two_lines = ap text_of (two_prints.only lines faulty is).0 in
    absurd (omega (arith, ap (λ (l : List ℕ). get_or l 1 0) (sym same ∙ begins)))

pub another_line : (failed : Failed) → Says two [] 0 (40 ∷ 41 ∷ []) (Err failed) → ⊥
another_line failed says =
    let bytes : says.bytes ≡ two = sym (append-nil says.bytes) ∙ sym says.took in
    let shown : says.shown ≡ 40 ∷ 41 ∷ [] = let is : 7 ∷ 40 ∷ 41 ∷ [] ≡ 7 ∷ says.shown = says.printed in cc in
    elim says.late [
      | inl (pairs, lines, front, from, begins) ↦
          first_line pairs lines (subst (λ b. BeginsWith pairs (raw_pairs (take most_input b))) bytes front) from
          (subst (λ s. BeginsWith s (text_of lines)) shown begins)
      | inr (inl (end, few, inl (pairs, lines, front, from, begins))) ↦
          first_line pairs lines (subst (λ b. BeginsWith pairs (raw_pairs b)) bytes front) from (subst (λ s. BeginsWith s (text_of lines)) shown begins)
      | inr (inl (end, few, inr (lines, faulty, is, begins))) ↦
          first_of_text lines faulty (subst (λ b. IsText each (raw_pairs b) 0 lines faulty) bytes is)
          (subst (λ s. BeginsWith s (text_of lines)) shown begins)
      | inr (inr (stopped, (lines, is, begins))) ↦
          let here = taken_once two lines (subst (λ b. IsTaken raw_pairs each (take most_input b) lines) bytes is) in
          first_line (raw_pairs two) lines ([], sym (append-nil (raw_pairs two)))
          (subst (λ (l : List Printed). BodyFrom each [] (raw_pairs two) l) (sym here) (body byte_line last_line [] (raw_pairs two)))
          (subst (λ s. BeginsWith s (text_of lines)) shown begins)
    ]

-- a front that ends within the line of the end, where the input is at its end
pub cut_in_its_end : (failed : Failed) → Says two [] 0 (40 ∷ 10 ∷ 41 ∷ 10 ∷ 0 ∷ []) (Err failed)
cut_in_its_end failed = record {
  bytes = two;
  took = refl;
  few = omega arith;
  shown = 40 ∷ 10 ∷ 41 ∷ 10 ∷ 0 ∷ [];
  printed = refl;
  late = inr (inl (refl, omega arith, inr (two_lines, false, two_prints.is, (10 ∷ [], refl))));
  early = ([], refl, (40 ∷ 10 ∷ 41 ∷ 10 ∷ 0 ∷ [], refl));
}

-- while a byte is left, and no read failed, nothing of that line is printed
front_of_one : (pairs : List (ℕ × ℕ)) (lines : List Printed) → BeginsWith pairs (raw_pairs (40 ∷ [])) → BodyFrom each [] pairs lines
    → length (text_of lines) ≤ 2
front_of_one [] lines front none = omega (arith, ap (λ (l : List Printed). length (text_of l)) none)
front_of_one (p ∷ []) lines (rest, is) from =
    let same : p ∷ [] ≡ raw_pairs (40 ∷ []) = cc in
    let once = one_body each (gains_once byte_line last_line) [] (raw_pairs (40 ∷ [])) lines (lines_under 1 ((40 ∷ 10 ∷ []) ∷ []))
    (subst (λ (q : List (ℕ × ℕ)). BodyFrom each [] q lines) same from) (body byte_line last_line [] (raw_pairs (40 ∷ []))) in
    omega (arith, ap (λ (l : List Printed). length (text_of l)) once)
front_of_one (p ∷ q ∷ pairs) lines (rest, is) from = absurd (omega (arith, ap length is))

pub an_end_before_its_end : (failed : Failed) → Says two (41 ∷ []) 0 (40 ∷ 10 ∷ 0 ∷ []) (Err failed) → ⊥
an_end_before_its_end failed says =
    let bytes = one_before says.bytes says.took in
    let shown : says.shown ≡ 40 ∷ 10 ∷ 0 ∷ [] = let is : 7 ∷ 40 ∷ 10 ∷ 0 ∷ [] ≡ 7 ∷ says.shown = says.printed in cc in
    elim says.late [
      | inl (pairs, lines, front, from, (rest, begins)) ↦
          let few = front_of_one pairs lines (subst (λ b. BeginsWith pairs (raw_pairs (take most_input b))) bytes front) from in
          absurd (omega (arith, few, ap length begins, ap length shown, length-append says.shown rest))
      | inr (inl (end, few, text)) ↦ absurd (omega (arith, ap length end))
      | inr (inr (inl many, text)) ↦ absurd (omega (arith, many, ap length bytes))
      | inr (inr (inr rose, text)) ↦ absurd (omega (arith, rose))
    ]
