-- What is read of bytes in memory is all of them, and no read of them fails.
use Rattle.std.proofs.Common.{◌≡◌, ℕ, ◌<◌, ◌≤◌, List, ◌++◌, length, Ok, Err, refl, sym, ap, subst, ◌∙◌, inl, inr, arith}
use Rattle.std.proofs.Common.{append-nil, length-append}
use Rattle.std.proofs.lemmas.Bool.{lt-ltb}
use Rattle.bench_gen.specs.Bench.{generated}
use Rattle.bench_gen.specs.Texts.{Texts}
use Rattle.run_file.specs.BenchText.{parsed}
use Rattle.run_file.specs.Parts.{BenchParts}
use Rattle.run_file.specs.Refusals.{bench_of, most_text}
use Rattle.run_file.specs.declared.fault.BenchWhy.{BenchWhy}
use Rattle.program_image.proofs.TooLong.{too_long}
use Rattle.program_image.specs.Answers.{TakesImage, TakesNoImage}
use Rattle.program_image.specs.ImageText.{image_of, most_text as most_image_text}
use Rattle.program_image.specs.declared.fault.ImageWhy.{ImageWhy}
use Rattle.run_file.specs.declared.fault.BenchWhy.TheVariants as why
use Rattle.program_image.specs.declared.fault.ImageWhy.TheVariants as image_why
use Rattle.program_image.specs.declared.image.Image.{Image}
use Rattle.retired_paths.proofs.RetiredStreams.{bench_accepted}
use Rattle.retired_paths.specs.Retired.{TakesBench, TakesNoBench}
use Rattle.traced_runs.specs.Selftest.{AreGood}
use Rattle.traced_runs.specs.Traced.{AreAccepted}
use Rattle.trace_io.specs.Bytes.{TakesAll}
use Rattle.trace_io.specs.Causes.{Rose}
use Rattle.trace_io.specs.Memory.{Pieces, pieces_state}

module _ (s s' : Pieces) where
  pub all_taken : (text : List ℕ) → TakesAll (pieces_state s) (pieces_state s') text → text ≡ s.left
  all_taken text (took, ended) = sym (append-nil text) ∙ ap (λ (rest : List ℕ). text ++ rest) (sym ended) ∙ sym took

  pub none_failed : Rose (pieces_state s) (pieces_state s') → ⊥
  none_failed rose = absurd (omega (arith, rose))

  -- a front that is too long is one of a text that is
  longer : (most : ℕ) (text : List ℕ) → s.left ≡ text ++ s'.left → most < length text → most < length s.left
  longer most text took long = omega (arith, ap length took, length-append text s'.left, long)

  -- ---- an image

  pub image_read : (image : Image) → TakesImage (pieces_state s) (pieces_state s') image → image_of s.left ≡ Ok image
  image_read image (text, took, is) = subst (λ (t : List ℕ). image_of t ≡ Ok image) (all_taken text took) is

  pub no_image_read : (line : ℕ) (why : ImageWhy) → TakesNoImage (pieces_state s) (pieces_state s') line why → image_of s.left ≡ Err (line, why)
  no_image_read line why (text, took, is, inl ended) =
      subst (λ (t : List ℕ). image_of t ≡ Err (line, why)) (all_taken text (took, ended)) is
  no_image_read line why (text, took, is, inr long) =
      too_long s.left 0 image_why.TooLong (longer most_image_text text took long) refl refl
      ∙ sym (too_long text 0 image_why.TooLong long refl refl) ∙ is

  -- ---- a run file

  pub bench_read : (b : BenchParts) → TakesBench (pieces_state s) (pieces_state s') b → (parsed s.left ≡ Ok b) × (length s.left ≤ most_text)
  bench_read b (text, took, few, is) =
      let same = all_taken text took in
      (subst (λ (t : List ℕ). parsed t ≡ Ok b) same is, subst (λ (t : List ℕ). length t ≤ most_text) same few)

  long_bench : (image : Image) (text : List ℕ) → most_text < length text → bench_of image text ≡ Err (0, why.TooLong)
  long_bench image text long = let test = lt-ltb most_text (length text) long in rw test refl

  pub no_bench_read : (line : ℕ) (reason : BenchWhy) → TakesNoBench (pieces_state s) (pieces_state s') line reason → (image : Image)
      → bench_of image s.left ≡ Err (line, reason)
  no_bench_read line reason (text, took, inl ended, is) image =
      subst (λ (t : List ℕ). bench_of image t ≡ Err (line, reason)) (all_taken text (took, ended)) (is image)
  no_bench_read line reason (text, took, inr long, is) image =
      long_bench image s.left (longer most_text text took long) ∙ sym (long_bench image text long) ∙ is image

-- ---- both

-- texts of a number that were read, and whose events are all accepted
pub are_good : (n : ℕ) (texts : Texts) (image : Image) (b : BenchParts) → texts ≡ generated n → image_of texts.image ≡ Ok image
    → parsed texts.bench ≡ Ok b → length texts.bench ≤ most_text → AreAccepted image b → AreGood n image b
are_good n texts image b same image_is bench_is few accepted = record {
  image_is = ap (λ (t : Texts). image_of t.image) (sym same) ∙ image_is;
  bench_is = ap (λ (t : Texts). bench_of image t.bench) (sym same) ∙ bench_accepted image texts.bench b few bench_is accepted;
}
