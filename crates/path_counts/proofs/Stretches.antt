-- The instructions of a stretch stand at the places of a run.
use Rattle.std.proofs.Common.{◌≡◌, ℕ, zero, suc, ◌+◌, ◌%◌, ◌^◌, ◌<◌, ◌≤◌, List, refl, sym, ap, ◌∙◌, arith, inl, inr, Bool, subst}
use Rattle.std.specs.Prelude.{◌==◌, IsSome}
use Rattle.std.proofs.lemmas.Bool.{ne_eqb, eq-eqb}
use Rattle.std.proofs.lemmas.Bool.Decides.{leb_tells, eqb_tells}
use Rattle.etm_types.specs.Walked.{instructions}
use Rattle.etm_types.specs.declared.context.Ctx.{Ctx}
use Rattle.program_image.specs.Blocks.{behind}
use Rattle.program_image.specs.Part.{IsImage, Part, word_of}
use Rattle.path_counts.specs.Levels.{is_within, one_if}
use Rattle.program_image.specs.Places.{AreWords, word_count, words_below}
use Rattle.path_counts.specs.Counts.{is_at, times}
use Rattle.path_counts.proofs.Rings.{IsNext, none_within, run_steps}
use Rattle.program_image.proofs.WordsBelow.{word_more, place_within, place_is_one, below_rises, none_at_first}

-- the place of the next word
pub next_place : (image : List Part) (start : ℕ) → IsImage image → start % 4 ≡ 0 → start < 2 ^ 64 → IsSome (word_of image start)
    → IsNext (word_count image) (words_below image start) (words_below image ((start + 4) % 2 ^ 64))
next_place image start is aligned lt some = elim (word_more image start is.parts is.order aligned) [
  | inr none ↦ absurd (let gone = none.0 in cc)
  | inl more ↦ elim (leb_tells (2 ^ 64) (start + 4)) [
    | inl last ↦
        let at : start + 4 ≡ 2 ^ 64 = omega (arith, last.1, lt, aligned) in
        let round : (start + 4) % 2 ^ 64 ≡ 0 = omega (arith, at) in
        let first = none_at_first image in
        let count = ap (words_below image) at in
        inr (ap (words_below image) round ∙ first, omega (arith, more.1, count))
    | inr early ↦
        let at : (start + 4) % 2 ^ 64 ≡ start + 4 = omega (arith, early.1) in
        inl (ap (words_below image) at ∙ more.1)
  ]
]

-- words have one address where they have one place
pub same_place : (image : List Part) (start a : ℕ) → IsImage image → start % 4 ≡ 0 → a % 4 ≡ 0 → IsSome (word_of image start) → IsSome (word_of image a)
    → one_if (start == a) ≡ one_if (words_below image start == words_below image a)
same_place image start a is aligned aligned' some some' = elim (eqb_tells start a) [
  | inl same ↦ rw (same.0, eq-eqb (words_below image start) (words_below image a) (ap (words_below image) same.1)) refl
  | inr other ↦
      rw (other.0, ne_eqb (words_below image start) (words_below image a) (λ e. other.1 (place_is_one image start a is aligned aligned' some some' e))) refl
]

rest_words : (image : List Part) (start m : ℕ) → AreWords image start (suc m) → AreWords image ((start + 4) % 2 ^ 64) m
rest_words image start m are k lt =
    let at : behind ((start + 4) % 2 ^ 64) k ≡ behind start (suc k) = omega arith in
    subst (λ a. IsSome (word_of image a)) (sym at) (are (suc k) (omega (arith, lt)))

-- how often a word stands in a stretch: once, where its place is of the run
pub stretch_hits : (image : List Part) (ctx : Ctx) (start count a : ℕ) (took : Bool) → IsImage image → start % 4 ≡ 0 → start < 2 ^ 64 → count ≤ word_count image
    → AreWords image start count → a % 4 ≡ 0 → a < 2 ^ 64 → IsSome (word_of image a)
    → times (is_at a) (instructions ctx start count took) ≡ one_if (is_within (word_count image) (words_below image start) count (words_below image a))
stretch_hits image ctx start zero a took is aligned lt few are aligned' lt' some =
    rw (none_within (word_count image) (words_below image start) (words_below image a) (below_rises image start (2 ^ 64) (omega (arith, lt)))) refl
stretch_hits image ctx start (suc m) a took is aligned lt few are aligned' lt' some =
    let at : behind start 0 ≡ start = omega (arith, lt) in
    let here : IsSome (word_of image start) = subst (λ b. IsSome (word_of image b)) at (are 0 (omega arith)) in
    let next = (start + 4) % 2 ^ 64 in
    let rest = stretch_hits image ctx next m a took is (omega (arith, aligned)) (omega arith) (omega (arith, few)) (rest_words image start m are) aligned' lt' some in
    let first = same_place image start a is aligned aligned' here some in
    let steps = run_steps (word_count image) (words_below image start) (words_below image next) m (words_below image a) few
    (place_within image start is aligned lt here) (place_within image a is aligned' lt' some) (next_place image start is aligned lt here) in
    omega (arith, first, rest, steps)
