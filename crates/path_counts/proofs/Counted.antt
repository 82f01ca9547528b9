-- The counts of items, and those of the items with others behind them.
use Rattle.std.proofs.Common.{◌≡◌, ℕ, zero, suc, ◌+◌, ◌-◌, ◌%◌, ◌^◌, ◌<◌, ◌≤◌, List, [], ◌∷◌, ◌++◌, length, refl, sym, ap, ◌∙◌, arith}
use Rattle.std.proofs.Common.{Bool, true, false, subst, get_or, append-nil, append_assoc, replicate, None, Some}
use Rattle.std.specs.Prelude.{◌==◌, ◌&&◌, IsSome, slice_get}
use Rattle.std.specs.List.{range_with_len}
use Rattle.std.proofs.lemmas.Bool.{eq-eqb}
use Rattle.std.proofs.lemmas.List.{ext_get_or, get_or-map, length-map}
use Rattle.std.proofs.lemmas.List.FromFn.{get_or-range_with_len, length-range_with_len}
use Rattle.std.proofs.lemmas.Option.{slice_get-get_or}
use Rattle.etm_types.specs.Walked.{instructions}
use Rattle.etm_types.specs.declared.context.Ctx.{Ctx}
use Rattle.etm_types.specs.declared.item.Item.{Item}
use Rattle.etm_types.specs.declared.item.Item.TheVariants as item
use Rattle.program_image.specs.Part.{IsImage, Part, word_of}
use Rattle.program_image.specs.Blocks.{behind}
use Rattle.program_image.specs.Places.{AreWords, word_addresses, word_count, words_below}
use Rattle.program_image.proofs.WordPlaces.{length_addresses, word_at}
use Rattle.path_counts.specs.Levels.{AreNumbers, Raises, RaisesLast, RaisesRun, is_within, one_if, place_behind}
use Rattle.path_counts.specs.Counts.{Counting, Counts, HasNumber, counts_by, counts_of, is_at, is_mark, mark_count, times, took_at}
use Rattle.path_counts.proofs.Kth.{few_words, no_marks, none_took, took_hits}
use Rattle.path_counts.proofs.Stretches.{stretch_hits}

pub times-append : (test : Item → Bool) (xs ys : List Item) → times test (xs ++ ys) ≡ times test xs + times test ys
times-append test [] ys = omega arith
times-append test (x ∷ xs) ys = let rest = times-append test xs ys in omega (arith, rest)

pub taken_few : (a : ℕ) (items : List Item) → times (took_at a) items ≤ times (is_at a) items
taken_few a [] = omega arith
taken_few a (item.Instr b ctx true ∷ items) = let rest = taken_few a items in omega (arith, rest)
taken_few a (item.Instr b ctx false ∷ items) = let rest = taken_few a items in omega (arith, rest)
taken_few a (item.On ∷ items) = let rest = taken_few a items in omega (arith, rest)
taken_few a (item.Unknown ∷ items) = let rest = taken_few a items in omega (arith, rest)
taken_few a (item.Gap ∷ items) = let rest = taken_few a items in omega (arith, rest)
taken_few a (item.Stop ∷ items) = let rest = taken_few a items in omega (arith, rest)
taken_few a (item.Exc kind ret ∷ items) = let rest = taken_few a items in omega (arith, rest)

-- ---- counts by keys

counts_at : (test : ℕ → Item → Bool) (keys : List ℕ) (items : List Item) (j : ℕ) → j < length keys
    → get_or (counts_by test keys items) j 0 ≡ times (test (get_or keys j 0)) items % 2 ^ 64
counts_at test keys items j lt = get_or-map (λ key. times (test key) items % 2 ^ 64) keys j 0 0 lt

pub length_counts : (test : ℕ → Item → Bool) (keys : List ℕ) (items : List Item) → length (counts_by test keys items) ≡ length keys
length_counts test keys items = length-map keys (λ key. times (test key) items % 2 ^ 64)

are_counts : (test : ℕ → Item → Bool) (keys : List ℕ) (items : List Item) (numbers : List ℕ) → numbers ≡ counts_by test keys items
    → AreNumbers numbers (λ j. times (test (get_or keys j 0)) items)
are_counts test keys items numbers is j lt =
    let len = ap (λ (l : List ℕ). length l) is in
    ap (λ (l : List ℕ). get_or l j 0) is ∙ counts_at test keys items j (omega (arith, lt, len, length_counts test keys items))

pub counts_are : (test : ℕ → Item → Bool) (keys : List ℕ) (items : List Item) (numbers : List ℕ) → length numbers ≡ length keys
    → AreNumbers numbers (λ j. times (test (get_or keys j 0)) items) → numbers ≡ counts_by test keys items
counts_are test keys items numbers long are =
    ext_get_or 0 numbers (counts_by test keys items) (long ∙ sym (length_counts test keys items))
    (λ j lt. are j lt ∙ sym (counts_at test keys items j (omega (arith, lt, long))))

counts_more : (test : ℕ → Item → Bool) (keys : List ℕ) (items more : List Item) (old new : List ℕ) (add : ℕ → Bool) → old ≡ counts_by test keys items
    → length new ≡ length old → Raises old new add → ((j : ℕ) → j < length keys → times (test (get_or keys j 0)) more ≡ one_if (add j))
    → new ≡ counts_by test keys (items ++ more)
counts_more test keys items more old new add is long raised hits =
    let len : length old ≡ length keys = ap (λ (l : List ℕ). length l) is ∙ length_counts test keys items in
    counts_are test keys (items ++ more) new (long ∙ len)
    (λ j lt.
    let key = get_or keys j 0 in
    let parts = times-append (test key) items more in
    let hit = hits j (omega (arith, lt, long, len)) in
    let all : times (test key) items + one_if (add j) ≡ times (test key) (items ++ more) = omega (arith, parts, hit) in
    raised (λ i. times (test (get_or keys i 0)) items) (are_counts test keys items old is) j lt ∙ ap (λ n. n % 2 ^ 64) all)

counts_same : (test : ℕ → Item → Bool) (keys : List ℕ) (items more : List Item) (old new : List ℕ) → old ≡ counts_by test keys items
    → new ≡ old → ((key : ℕ) → times (test key) more ≡ 0) → new ≡ counts_by test keys (items ++ more)
counts_same test keys items more old new is same none =
    let len : length old ≡ length keys = ap (λ (l : List ℕ). length l) is ∙ length_counts test keys items in
    same ∙ counts_are test keys (items ++ more) old len
    (λ j lt.
    let key = get_or keys j 0 in
    let parts = times-append (test key) items more in
    let zero = none key in
    let all : times (test key) items ≡ times (test key) (items ++ more) = omega (arith, parts, zero) in
    are_counts test keys items old is j lt ∙ ap (λ n. n % 2 ^ 64) all)

-- no item has no counts
counts_none : (test : ℕ → Item → Bool) (keys : List ℕ) (n : ℕ) → n ≡ length keys → replicate n 0 ≡ counts_by test keys []
counts_none test [] zero is = refl
counts_none test [] (suc n) is = absurd (omega (arith, is))
counts_none test (key ∷ keys) zero is = absurd (omega (arith, is))
counts_none test (key ∷ keys) (suc n) is = ap (λ (l : List ℕ). 0 ∷ l) (counts_none test keys n (omega (arith, is)))

-- ---- all three counts

same_counting : (c : Counting) (visits taken marks : List ℕ) → c.visits ≡ visits → c.taken ≡ taken → c.marks ≡ marks
    → c ≡ record { visits = visits; taken = taken; marks = marks }
same_counting c visits taken marks v t m =
    let first : record { visits = c.visits; taken = c.taken; marks = c.marks } ≡ record { visits = visits; taken = c.taken; marks = c.marks } =
    ap (λ (l : List ℕ). record { visits = l; taken = c.taken; marks = c.marks }) v in
    let second : record { visits = visits; taken = c.taken; marks = c.marks } ≡ record { visits = visits; taken = taken; marks = c.marks } =
    ap (λ (l : List ℕ). record { visits = visits; taken = l; marks = c.marks }) t in
    let third : record { visits = visits; taken = taken; marks = c.marks } ≡ record { visits = visits; taken = taken; marks = marks } =
    ap (λ (l : List ℕ). record { visits = visits; taken = taken; marks = l }) m in
    first ∙ second ∙ third

pub none_counted : (image : List Part) (c : Counting) (words : ℕ) → IsImage image → words ≡ word_count image → c.visits ≡ replicate words 0
    → c.taken ≡ replicate words 0 → c.marks ≡ replicate mark_count 0 → c ≡ counts_of image []
none_counted image c words is count visits taken marks =
    let len : words ≡ length (word_addresses image) = count ∙ sym (length_addresses image is.parts) in
    same_counting c _ _ _ (visits ∙ counts_none is_at (word_addresses image) words len) (taken ∙ counts_none took_at (word_addresses image) words len)
    (marks ∙ counts_none is_mark (range_with_len 0 mark_count) mark_count (sym (length-range_with_len 0 mark_count)))

pub counts_nothing : (image : List Part) (c : Counting) → Counts image c c []
counts_nothing image c items is = is ∙ ap (counts_of image) (sym (append-nil items))

pub counts_then : (image : List Part) (a b c : Counting) (xs ys : List Item) → Counts image a b xs → Counts image b c ys → Counts image a c (xs ++ ys)
counts_then image a b c xs ys first second items is =
    second (items ++ xs) (first items is) ∙ ap (counts_of image) (append_assoc items xs ys)

-- ---- an item that is no instruction

no_instruction : (number : ℕ) (i : Item) (a : ℕ) → HasNumber number i → (is_at a i ≡ false) × (took_at a i ≡ false)
no_instruction number (item.Instr b ctx took) a has = let never = has number in absurd (let yes = eq-eqb number number refl in cc)
no_instruction number item.On a has = (refl, refl)
no_instruction number item.Unknown a has = (refl, refl)
no_instruction number item.Gap a has = (refl, refl)
no_instruction number item.Stop a has = (refl, refl)
no_instruction number (item.Exc kind ret) a has = (refl, refl)

pub mark_counted : (image : List Part) (old new : Counting) (number : ℕ) (i : Item) → HasNumber number i → new.visits ≡ old.visits → new.taken ≡ old.taken
    → length new.marks ≡ length old.marks → ((f : ℕ → ℕ) → AreNumbers old.marks f → AreNumbers new.marks (λ j. f j + one_if (number == j)))
    → Counts image old new (i ∷ [])
mark_counted image old new number i has visits taken long raised items is =
    let keys = range_with_len 0 mark_count in
    same_counting new _ _ _
    (counts_same is_at (word_addresses image) items (i ∷ []) old.visits new.visits (ap (λ (c : Counting). c.visits) is) visits
    (λ key. let none = ap one_if (no_instruction number i key has).0 in omega (arith, none)))
    (counts_same took_at (word_addresses image) items (i ∷ []) old.taken new.taken (ap (λ (c : Counting). c.taken) is) taken
    (λ key. let none = ap one_if (no_instruction number i key has).1 in omega (arith, none)))
    (counts_more is_mark keys items (i ∷ []) old.marks new.marks (λ j. number == j) (ap (λ (c : Counting). c.marks) is) long raised
    (λ j lt.
    let key : get_or keys j 0 ≡ j = get_or-range_with_len 0 mark_count j 0 (omega (arith, lt, length-range_with_len 0 mark_count)) ∙ omega arith in
    let here = ap one_if (has (get_or keys j 0)) ∙ ap (λ k. one_if (number == k)) key in
    omega (arith, here)))

-- ---- a run of instructions

-- what is known of it
pub record Run (image : List Part) (start count place : ℕ) : Type 0 where
  pub is : IsImage image
  pub lt : start < 2 ^ 64
  pub at : slice_get (word_addresses image) place ≡ Some start
  pub some : 0 < count
  pub are : AreWords image start count

run_visits : (image : List Part) (start count place n : ℕ) (ctx : Ctx) (took : Bool) → Run image start count place → n ≡ word_count image
    → (j : ℕ) → j < length (word_addresses image)
    → times (is_at (get_or (word_addresses image) j 0)) (instructions ctx start count took) ≡ one_if (is_within n place count j)
run_visits image start count place n ctx took r ring j short =
    let first = word_at image place start r.is r.at in
    let a = get_or (word_addresses image) j 0 in
    let word = word_at image j a r.is (slice_get-get_or (word_addresses image) j 0 short) in
    let few = few_words image start count r.is first.aligned r.lt r.are in
    stretch_hits image ctx start count a took r.is first.aligned r.lt few r.are word.aligned word.small word.some
    ∙ ap (λ m. one_if (is_within m (words_below image start) count (words_below image a))) (sym ring)
    ∙ ap (λ p. one_if (is_within n p count (words_below image a))) (sym first.place)
    ∙ ap (λ p. one_if (is_within n place count p)) (sym word.place)

run_taken : (image : List Part) (start count place n : ℕ) (ctx : Ctx) (took : Bool) → Run image start count place → n ≡ word_count image
    → (j : ℕ) → j < length (word_addresses image)
    → times (took_at (get_or (word_addresses image) j 0)) (instructions ctx start count took) ≡ one_if (took && (place_behind n place (count - 1) == j))
run_taken image start count place n ctx false r ring j short = none_took ctx start count (get_or (word_addresses image) j 0)
run_taken image start count place n ctx true r ring j short =
    let first = word_at image place start r.is r.at in
    let a = get_or (word_addresses image) j 0 in
    let word = word_at image j a r.is (slice_get-get_or (word_addresses image) j 0 short) in
    let m = count - 1 in
    let whole : count ≡ suc m = omega (arith, r.some) in
    ap (λ k. times (took_at a) (instructions ctx start k true)) whole
    ∙ took_hits image ctx start m a r.is first.aligned r.lt (subst (λ k. AreWords image start k) whole r.are) word.aligned word.some
    ∙ ap (λ k. one_if (place_behind k (words_below image start) m == words_below image a)) (sym ring)
    ∙ ap (λ p. one_if (place_behind n p m == words_below image a)) (sym first.place)
    ∙ ap (λ p. one_if (place_behind n place m == p)) (sym word.place)

pub run_counted : (image : List Part) (old new : Counting) (start count place : ℕ) (ctx : Ctx) (took : Bool) → Run image start count place
    → length old.visits ≡ word_count image → RaisesRun old.visits new.visits place count
    → RaisesLast old.taken new.taken took (place_behind (length old.visits) place (count - 1)) → new.marks ≡ old.marks
    → length new.visits ≡ length old.visits → length new.taken ≡ length old.taken → Counts image old new (instructions ctx start count took)
run_counted image old new start count place ctx took r ring visits taken marks long long' items is =
    same_counting new _ _ _
    (counts_more is_at (word_addresses image) items (instructions ctx start count took) old.visits new.visits (is_within (length old.visits) place count)
    (ap (λ (c : Counting). c.visits) is) long visits (run_visits image start count place (length old.visits) ctx took r ring))
    (counts_more took_at (word_addresses image) items (instructions ctx start count took) old.taken new.taken
    (λ j. took && (place_behind (length old.visits) place (count - 1) == j)) (ap (λ (c : Counting). c.taken) is) long' taken
    (run_taken image start count place (length old.visits) ctx took r ring))
    (counts_same is_mark (range_with_len 0 mark_count) items (instructions ctx start count took) old.marks new.marks (ap (λ (c : Counting). c.marks) is) marks
    (λ key. no_marks ctx start count key took))

-- no word stands there: there is no instruction
pub no_run : (image : List Part) (c : Counting) (start count : ℕ) (ctx : Ctx) (took : Bool) → count ≡ 0 → Counts image c c (instructions ctx start count took)
no_run image c start count ctx took none =
    subst (λ n. Counts image c c (instructions ctx start n took)) (sym none) (counts_nothing image c)

pub no_words : (image : List Part) (start count : ℕ) → start < 2 ^ 64 → word_of image start ≡ None → AreWords image start count → count ≡ 0
no_words image start zero lt none are = refl
no_words image start (suc n) lt none are =
    let at : behind start 0 ≡ start = omega (arith, lt) in
    let some : IsSome (word_of image start) = subst (λ b. IsSome (word_of image b)) at (are 0 (omega arith)) in
    absurd (let gone = none in cc)
