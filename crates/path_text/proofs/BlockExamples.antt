-- Lines that are put and written, and the parts of a line, written out by hand.
use Rattle.std.proofs.Common.{◌≡◌, ℕ, zero, suc, ◌*◌, ◌<◌, List, [], ◌∷◌, ◌++◌, Ok, Err, Some, codes, length, take, drop, refl, sym, ap, ◌∙◌, get_or, arith}
use Rattle.std.proofs.lemmas.List.{length-append}
use Rattle.trace_io.specs.State.{IoState}
use Rattle.path_text.specs.Blocks.{HoldsLines, Puts}
use Rattle.path_text.specs.PageLines.{HoldsEnds, line_end, line_head}
use Rattle.path_text.proofs.Wrote.{wrote_nothing, writes_all}

-- a sink that took these bytes, and so many of whose calls failed
abbrev shows : List ℕ → ℕ → IoState
shows bytes faults = record { bytes = Some bytes; faults = faults }

abbrev first : List ℕ
first = codes "01 1000" ++ (10 ∷ [])

abbrev second : List ℕ
second = codes "01 1004" ++ (10 ∷ [])

abbrev third : List ℕ
third = codes "01 1008" ++ (10 ∷ [])

-- a call of a block over a sink that took nothing yet: the texts put before, put by it and left, and the bytes of the sink then
abbrev Succeeds : (put text left bytes : List ℕ) → Type 0
Succeeds put text left bytes = Puts {T = Unit {0}} {E = Unit {0}} (shows [] 0) (shows bytes 0) put left (Ok tt) text

abbrev Fails : (put text left bytes : List ℕ) → Type 0
Fails put text left bytes = Puts {T = Unit {0}} {E = Unit {0}} (shows [] 0) (shows bytes 1) put left (Err tt) text

-- ---- what is put and what is written

pub there_is_room : Succeeds first second (first ++ second) []
there_is_room =
    record {
      out = [];
      rest = first ++ second;
      parts = refl;
      writes = writes_all (shows [] 0) (shows [] 0) tt [] (wrote_nothing (shows [] 0));
      left = λ _. refl;
    }

-- it is full before the third line, and what was put is written
pub written_in_between : Succeeds first (second ++ third) third (first ++ second)
written_in_between =
    record {
      out = first ++ second;
      rest = third;
      parts = refl;
      writes = writes_all (shows [] 0) (shows (first ++ second) 0) tt (first ++ second) (record { appended = refl; shows = refl; kept = refl });
      left = λ _. refl;
    }

-- a write failed behind five bytes
pub a_write_failed : Fails first second [] (codes "01 10")
a_write_failed =
    record {
      out = first;
      rest = second;
      parts = refl;
      writes = record {
        whole = tt;
        front = record { front = codes "01 10"; rest = codes "00" ++ (10 ∷ []); whole = refl; appended = refl };
        shows = refl;
        cause = record { later = omega arith; kept = tt; failed = omega arith };
      };
      left = λ ok. absurd cc;
    }

pub not_written_twice : Succeeds first [] [] (first ++ first) → ⊥
not_written_twice p =
    let all : 8 ≡ length (p.out ++ p.rest) = ap length p.parts in let out : 16 ≡ length p.out = ap length p.writes.whole in
    omega (arith, all, out, length-append p.out p.rest)

pub not_lost : Succeeds first [] [] [] → ⊥
not_lost p =
    let all : 8 ≡ length (p.out ++ p.rest) = ap length p.parts in let out : 0 ≡ length p.out = ap length p.writes.whole in
    let rest : 0 ≡ length p.rest = ap length (p.left refl) in
    omega (arith, all, out, rest, length-append p.out p.rest)

pub not_out_of_order : Succeeds first second first second → ⊥
not_out_of_order p =
    let turned : first ++ second ≡ second ++ first =
    p.parts ∙ ap (λ t. t ++ p.rest) (sym p.writes.whole) ∙ ap (λ t. second ++ t) (sym (p.left refl)) in
    let digit : 48 ≡ 52 = ap (λ t. get_or t 6 0) turned in
    omega (arith, digit)

-- what no call took is not said to be written
pub not_told_as_written : Fails [] first [] second → ⊥
not_told_as_written p =
    let f = p.writes.front in
    let bytes : second ≡ f.front = f.appended in
    let all : first ≡ (second ++ f.rest) ++ p.rest = p.parts ∙ ap (λ t. t ++ p.rest) (f.whole ∙ ap (λ t. t ++ f.rest) (sym bytes)) in
    let digit : 48 ≡ 52 = ap (λ t. get_or t 6 0) all in
    omega (arith, digit)

-- ---- the parts of a line

pub heads : (line_head 1 0x1000 ≡ codes "01 ") × (line_head 1 0x12345678 ≡ codes "01 1234") × (line_head 0x6f 0x10000 ≡ codes "6f 1")
heads = (refl, refl, refl)

pub no_digit_of_the_last_four : line_head 1 0x1000 ≡ codes "01 1" → ⊥
no_digit_of_the_last_four e = let size : 3 ≡ 4 = ap length e in omega (arith, size)

pub ends : (line_end 0 ≡ codes "000" ++ (10 ∷ [])) × (line_end 3 ≡ codes "00c" ++ (10 ∷ [])) × (line_end 1023 ≡ codes "ffc" ++ (10 ∷ []))
ends = (refl, refl, refl)

pub not_the_number_of_the_place : line_end 1 ≡ codes "001" ++ (10 ∷ []) → ⊥
not_the_number_of_the_place e = let digit : 52 ≡ 49 = ap (λ t. get_or t 2 0) e in omega (arith, digit)

abbrev two_ends : List ℕ
two_ends = codes "000" ++ (10 ∷ codes "004") ++ (10 ∷ [])

each_of_two : (place : ℕ) → place < 2 → take 4 (drop (4 * place) two_ends) ≡ line_end place
each_of_two zero before = refl
each_of_two (suc zero) before = refl
each_of_two (suc (suc n)) before = absurd (omega (arith, before))

pub two_places : HoldsEnds two_ends 2
two_places = record { each = each_of_two }

pub no_third_place : HoldsEnds two_ends 3 → ⊥
no_third_place h = let size : 0 ≡ 4 = ap length (h.each 2 (omega arith)) in omega (arith, size)

-- ---- a block: one line may be put, and its page is 10000 to 1ffff

abbrev one_head : List ℕ
one_head = codes "01 1............"

pub a_block : (table : List ℕ) → HoldsEnds table 1024 → HoldsLines 1 0x10000 4 8 one_head table
a_block table holds =
    record { room = omega arith; short = omega arith; start = refl; apart = λ some. omega (arith, some); whole = λ page. refl; table = holds }

-- with no page nothing is known of a head but its ID
pub no_page : (table : List ℕ) → HoldsEnds table 1024 → HoldsLines 1 65535 9 8 one_head table
no_page table holds =
    record { room = omega arith; short = omega arith; start = refl; apart = λ some. omega arith; whole = λ page. absurd (omega (arith, page)); table = holds }

pub no_head_of_another_page : (table : List ℕ) → HoldsLines 1 0x20000 4 8 one_head table → ⊥
no_head_of_another_page table h = let digit : 49 ≡ 50 = ap (λ t. get_or t 3 0) (h.whole refl) in omega (arith, digit)

pub no_head_of_another_stream : (table : List ℕ) → HoldsLines 2 65535 4 8 one_head table → ⊥
no_head_of_another_stream table h = let digit : 49 ≡ 50 = ap (λ t. get_or t 1 0) h.start in omega (arith, digit)
