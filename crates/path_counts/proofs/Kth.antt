-- The place of the last word of a stretch, and how long a stretch can be.
use Rattle.std.proofs.Common.{◌≡◌, ℕ, zero, suc, ◌+◌, ◌*◌, ◌-◌, ◌%◌, ◌^◌, ◌<◌, ◌≤◌, ◌⊎◌, List, [], ◌∷◌, refl, ap, ◌∙◌, arith, inl, inr, Bool, true, false, subst}
use Rattle.std.specs.Prelude.{◌==◌, IsSome, nat_lt, if◌then◌else◌}
use Rattle.std.proofs.lemmas.Bool.{lt-ltb, le-ltb}
use Rattle.std.proofs.lemmas.Bool.Decides.{leb_tells}
use Rattle.etm_types.specs.Walked.{instructions}
use Rattle.etm_types.specs.declared.context.Ctx.{Ctx}
use Rattle.program_image.specs.Blocks.{behind}
use Rattle.program_image.specs.Part.{IsImage, Part, total, word_of}
use Rattle.path_counts.specs.Levels.{one_if}
use Rattle.program_image.specs.Places.{AreWords, word_count, words_below}
use Rattle.path_counts.specs.Counts.{is_mark, times, took_at}
use Rattle.path_counts.proofs.Rings.{IsNext}
use Rattle.path_counts.proofs.Stretches.{next_place, same_place}
use Rattle.program_image.proofs.WordsBelow.{place_is_one, place_within}

-- so far round a ring of n places, at most once past its end
abbrev pub IsRound : ℕ → ℕ → ℕ → Type 0
IsRound n place far = (place ≡ far) ⊎ (place + n ≡ far)

rounds : (n from far place next : ℕ) → far ≤ n → from < n → IsRound n place (from + far) → suc far ≤ n → IsNext n place next → IsRound n next (from + suc far)
rounds n from far place next few within (inl here) more (inl step) = inl (omega (arith, here, step))
rounds n from far place next few within (inl here) more (inr step) = inr (omega (arith, here, step.0, step.1))
rounds n from far place next few within (inr here) more (inl step) = inr (omega (arith, here, step))
rounds n from far place next few within (inr here) more (inr step) = absurd (omega (arith, here, step.1, within, more))

-- the place of the k-th word of a stretch
pub kth_place : (image : List Part) (start k : ℕ) → IsImage image → start % 4 ≡ 0 → start < 2 ^ 64 → k ≤ word_count image → AreWords image start (suc k)
    → IsRound (word_count image) (words_below image (behind start k)) (words_below image start + k)
kth_place image start zero is aligned lt few are =
    let at : behind start 0 ≡ start = omega (arith, lt) in
    inl (ap (words_below image) at ∙ omega arith)
kth_place image start (suc k) is aligned lt few are =
    let at : behind start 0 ≡ start = omega (arith, lt) in
    let first = place_within image start is aligned lt (subst (λ b. IsSome (word_of image b)) at (are 0 (omega arith))) in
    let before = kth_place image start k is aligned lt (omega (arith, few)) (λ j short. are j (omega (arith, short))) in
    let next : (behind start k + 4) % 2 ^ 64 ≡ behind start (suc k) = omega arith in
    let step = next_place image (behind start k) is (omega (arith, aligned)) (omega arith) (are k (omega arith)) in
    rounds (word_count image) (words_below image start) k (words_below image (behind start k)) (words_below image (behind start (suc k))) (omega (arith, few)) first before few
    (subst (λ b. IsNext (word_count image) (words_below image (behind start k)) (words_below image b)) next step)

pub last_is : (n place far : ℕ) → place < n → IsRound n place far → place ≡ (if nat_lt far n then far else far - n)
last_is n place far lt (inl here) = rw (lt-ltb far n (omega (arith, lt, here))) here
last_is n place far lt (inr here) = rw (le-ltb far n (omega (arith, here))) (omega (arith, here))

-- ---- a stretch has no more words than the image

few_below : (parts : List Part) (a : ℕ) → 4 * words_below parts a ≤ total parts
few_below [] a = omega arith
few_below (part ∷ parts) a = let rest = few_below parts a in omega (arith, rest)

pub few_words : (image : List Part) (start count : ℕ) → IsImage image → start % 4 ≡ 0 → start < 2 ^ 64 → AreWords image start count → count ≤ word_count image
few_words image start count is aligned lt are = elim (leb_tells count (word_count image)) [
  | inl few ↦ few.1
  | inr many ↦
      let n = word_count image in
      let all : AreWords image start (suc n) = λ k short. are k (omega (arith, short, many.1)) in
      let at : behind start 0 ≡ start = omega (arith, lt) in
      let some : IsSome (word_of image start) = subst (λ b. IsSome (word_of image b)) at (all 0 (omega arith)) in
      let first = place_within image start is aligned lt some in
      let last = place_within image (behind start n) is (omega (arith, aligned)) (omega arith) (all n (omega arith)) in
      let small = few_below image (2 ^ 64) in
      let limit = is.small in
      elim (kth_place image start n is aligned lt (omega arith) all) [
        | inl here ↦ absurd (omega (arith, here, last))
        | inr here ↦
            let same = place_is_one image (behind start n) start is (omega (arith, aligned)) aligned (all n (omega arith)) some (omega (arith, here)) in
            absurd (omega (arith, same, first, small, limit, lt))
      ]
]

-- ---- what else a stretch shows

pub no_marks : (ctx : Ctx) (start n place : ℕ) (took : Bool) → times (is_mark place) (instructions ctx start n took) ≡ 0
no_marks ctx start zero place took = refl
no_marks ctx start (suc n) place took = let rest = no_marks ctx ((start + 4) % 2 ^ 64) n place took in omega (arith, rest)

pub none_took : (ctx : Ctx) (start n a : ℕ) → times (took_at a) (instructions ctx start n false) ≡ 0
none_took ctx start zero a = refl
none_took ctx start (suc zero) a = refl
none_took ctx start (suc (suc n)) a = let rest = none_took ctx ((start + 4) % 2 ^ 64) (suc n) a in omega (arith, rest)

last_took : (ctx : Ctx) (start m a : ℕ) → start < 2 ^ 64 → times (took_at a) (instructions ctx start (suc m) true) ≡ one_if (behind start m == a)
last_took ctx start zero a lt =
    let at : behind start 0 ≡ start = omega (arith, lt) in
    rw at (omega arith)
last_took ctx start (suc m) a lt =
    let next : behind ((start + 4) % 2 ^ 64) m ≡ behind start (suc m) = omega arith in
    let rest = last_took ctx ((start + 4) % 2 ^ 64) m a (omega arith) in
    let same = ap (λ b. one_if (b == a)) next in
    omega (arith, rest, same)

-- the last of a stretch was taken: it is counted at its place
pub took_hits : (image : List Part) (ctx : Ctx) (start m a : ℕ) → IsImage image → start % 4 ≡ 0 → start < 2 ^ 64 → AreWords image start (suc m)
    → a % 4 ≡ 0 → IsSome (word_of image a)
    → times (took_at a) (instructions ctx start (suc m) true)
    ≡ one_if ((if nat_lt (words_below image start + m) (word_count image) then words_below image start + m else words_below image start + m - word_count image)
    == words_below image a)
took_hits image ctx start m a is aligned lt are aligned' some =
    let few = few_words image start (suc m) is aligned lt are in
    let here = are m (omega arith) in
    let within = place_within image (behind start m) is (omega (arith, aligned)) (omega arith) here in
    let place = last_is (word_count image) (words_below image (behind start m)) (words_below image start + m) within
    (kth_place image start m is aligned lt (omega (arith, few)) are) in
    last_took ctx start m a lt ∙ same_place image (behind start m) a is (omega (arith, aligned)) aligned' here some
    ∙ ap (λ p. one_if (p == words_below image a)) place
