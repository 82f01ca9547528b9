-- Runs of plain words: by the class of a word and the run from the next word on, and how long they can be.
use Rattle.std.proofs.Common.{◌≡◌, ◌≢◌, ℕ, zero, suc, ◌+◌, ◌-◌, ◌*◌, ◌/◌, ◌%◌, ◌^◌, ◌<◌, ◌≤◌}
use Rattle.std.proofs.Common.{List, Option, Some, None, sym, ap, ◌∙◌, inl, inr, arith, below_more, nat_le, nat_lt}
use Rattle.std.proofs.lemmas.Bool.{cases_Bool, leb-true, leb-false, ltb-true, ltb-false}
use Rattle.std.specs.Option.{option_map}
use Rattle.a64_branches.specs.Classes.{class_of}
use Rattle.a64_branches.specs.declared.class.Class.{Class}
use Rattle.a64_branches.specs.declared.class.Class.TheVariants.{Plain, Jump, Cond, Isb, Ind, Eret, Odd}
use Rattle.program_image.specs.Part.{IsImage, Part, total}
use Rattle.program_image.specs.Blocks.{class_at, behind, IsPlainRun, HasGap}
use Rattle.program_image.specs.Runs.{IsRun, IsRunLength, run_from}
use Rattle.program_image.specs.declared.run.PlainRun.{PlainRun}
use Rattle.program_image.proofs.Gaps.{near_gap}

pub one_more : (image : List Part) (address n : ℕ) → IsPlainRun image address n → class_at image (behind address n) ≡ Some Plain
    → IsPlainRun image address (n + 1)
one_more image address n run plain = below_more _ _ run plain

-- addresses count modulo 2^64
pub run_moved : (image : List Part) (a b n : ℕ) → a % 2 ^ 64 ≡ b % 2 ^ 64 → IsRunLength image a n → IsRunLength image b n
run_moved image a b n same run =
    let at : (k : ℕ) → behind a k ≡ behind b k = λ k. omega (arith, same) in
    ((λ k below. ap (class_at image) (sym (at k)) ∙ run.0 k below), (λ e. run.1 (ap (class_at image) (at n) ∙ e)))

-- no run where the word is not plain
pub no_run : (image : List Part) (a : ℕ) (class : Option Class) → a < 2 ^ 64 → class_at image a ≡ class → class ≢ Some Plain → IsRunLength image a 0
no_run image a class fits is not =
    let here : behind a 0 ≡ a = omega (arith, fits) in
    ((λ k below. absurd (omega (arith, below))), (λ e. not (sym is ∙ ap (class_at image) (sym here) ∙ e)))

plain_after : (image : List Part) (a n : ℕ) → a < 2 ^ 64 → class_at image a ≡ Some Plain → IsPlainRun image (a + 4) n → (k : ℕ) → k < suc n
    → class_at image (behind a k) ≡ Some Plain
plain_after image a n fits plain next zero below = let here : behind a 0 ≡ a = omega (arith, fits) in ap (class_at image) here ∙ plain
plain_after image a n fits plain next (suc k) below =
    let at : behind a (suc k) ≡ behind (a + 4) k = omega arith in ap (class_at image) at ∙ next k (omega (arith, below))

longer : (image : List Part) (a n : ℕ) → a < 2 ^ 64 → class_at image a ≡ Some Plain → IsRunLength image (a + 4) n → IsRunLength image a (n + 1)
longer image a n fits plain next =
    let at : behind a (n + 1) ≡ behind (a + 4) n = omega arith in
    ((λ k below. plain_after image a n fits plain next.0 k (omega (arith, below))), (λ e. next.1 (ap (class_at image) (sym at) ∙ e)))

-- ---- the same with the class of what stands behind

pub moved : (image : List Part) (a b : ℕ) (run : PlainRun) → a % 2 ^ 64 ≡ b % 2 ^ 64 → IsRun image a run → IsRun image b run
moved image a b run same is =
    let at : behind b run.plain ≡ behind a run.plain = omega (arith, same) in (run_moved image a b run.plain same is.0, ap (class_at image) at ∙ is.1)

pub ended : (image : List Part) (a : ℕ) (class : Option Class) → a < 2 ^ 64 → class_at image a ≡ class → class ≢ Some Plain
    → IsRun image a (record { plain = 0; class = class })
ended image a class fits is not = let here : behind a 0 ≡ a = omega (arith, fits) in (no_run image a class fits is not, ap (class_at image) here ∙ is)

longer_run : (image : List Part) (a : ℕ) (next : PlainRun) → a < 2 ^ 64 → class_at image a ≡ Some Plain → IsRun image (a + 4) next
    → IsRun image a (run_from Plain next)
longer_run image a next fits plain is =
    let at : behind a (next.plain + 1) ≡ behind (a + 4) next.plain = omega arith in
    (longer image a next.plain fits plain is.0, ap (class_at image) at ∙ is.1)

-- the run from a word on
pub run_steps : (image : List Part) (a : ℕ) (next : PlainRun) (class : Class) → a < 2 ^ 64 → class_at image a ≡ Some class → IsRun image (a + 4) next
    → IsRun image a (run_from class next)
run_steps image a next Plain fits is after = longer_run image a next fits is after
run_steps image a next (Jump off link) fits is after = ended image a _ fits is (λ e. cc)
run_steps image a next (Cond off) fits is after = ended image a _ fits is (λ e. cc)
run_steps image a next Isb fits is after = ended image a _ fits is (λ e. cc)
run_steps image a next (Ind link) fits is after = ended image a _ fits is (λ e. cc)
run_steps image a next Eret fits is after = ended image a _ fits is (λ e. cc)
run_steps image a next Odd fits is after = ended image a _ fits is (λ e. cc)

-- each multiple of 4 stands so many words after another one
reached : (from to : ℕ) → from % 4 ≡ 0 → to % 4 ≡ 0 → to < 2 ^ 64 → (n : ℕ) × (n < 2 ^ 62) × (behind from n ≡ to)
reached from to aligned also lower =
    let low : ℕ = from % 2 ^ 64 in
    elim (cases_Bool (nat_le low to)) [
      | inl t ↦ let le = leb-true _ _ t in ((to - low) / 4, omega arith, omega arith)
      | inr f ↦ let lt = leb-false _ _ f in ((to + 2 ^ 64 - low) / 4, omega arith, omega arith)
    ]

-- a run of plain words does not go past a gap
pub run_short : (image : List Part) (address n : ℕ) → address % 4 ≡ 0 → HasGap image → IsPlainRun image address n → n < 2 ^ 62
run_short image address n aligned gap run =
    let far = reached address gap.address aligned gap.aligned gap.within in
    elim (cases_Bool (nat_lt far.0 n)) [
      | inl t ↦
          let plain = run far.0 (ltb-true _ _ t) in
          let nothing : class_at image (behind address far.0) ≡ None = ap (class_at image) far.2 ∙ ap (option_map class_of) gap.none in
          absurd (let x = sym plain ∙ nothing in cc)
      | inr f ↦ omega (arith, ltb-false _ _ f, far.1)
    ]

-- a run from address 0 on is no longer than the parts
pub zero_run_short : (image : List Part) (n : ℕ) → IsImage image → IsPlainRun image 0 n → n ≤ total image
zero_run_short image n is run =
    let gap = near_gap image is in
    let far : ℕ = gap.0 / 4 in
    elim (cases_Bool (nat_lt far n)) [
      | inl t ↦
          let there : behind 0 far ≡ gap.0 = omega (arith, gap.2.0, gap.2.1) in
          let nothing : class_at image (behind 0 far) ≡ None = ap (class_at image) there ∙ ap (option_map class_of) gap.2.2 in
          absurd (let x = sym (run far (ltb-true _ _ t)) ∙ nothing in cc)
      | inr f ↦ omega (arith, ltb-false _ _ f, gap.1)
    ]

-- the word after a run from address 0 on
zero_next : (image : List Part) (n address : ℕ) → IsImage image → IsPlainRun image 0 n → address ≡ n * 4 → behind 0 n ≡ address
zero_next image n address is run at = omega (arith, at, zero_run_short image n is run, is.small)

pub zero_run_more : (image : List Part) (n address : ℕ) → IsImage image → IsPlainRun image 0 n → address ≡ n * 4 → class_at image address ≡ Some Plain
    → IsPlainRun image 0 (n + 1) × (n + 1 ≤ total image)
zero_run_more image n address is run at plain =
    let more = one_more image 0 n run (ap (class_at image) (zero_next image n address is run at) ∙ plain) in
    (more, zero_run_short image (n + 1) is more)
