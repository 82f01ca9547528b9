-- A text above the limit.
use Rattle.std.proofs.Common.{◌≡◌, ℕ, ◌<◌, List, length, Result, Err, ap, ◌∙◌, refl}
use Rattle.std.proofs.lemmas.Bool.{lt-ltb}
use Rattle.program_image.specs.ImageText.{image_of, most_text}
use Rattle.program_image.specs.declared.fault.ImageWhy.{ImageWhy}
use Rattle.program_image.specs.declared.fault.ImageWhy.TheVariants.{TooLong}

same_fault : {A : Type 0} (r : Result A (ℕ × ImageWhy)) (a b : ℕ) (v w : ImageWhy) → r ≡ Err (a, v) → a ≡ b → v ≡ w → r ≡ Err (b, w)
same_fault r a b v w e n why = e ∙ ap (λ (l : ℕ). Err (l, v)) n ∙ ap (λ (y : ImageWhy). Err (b, y)) why

pub too_long : (text : List ℕ) (line : ℕ) (why : ImageWhy) → most_text < length text → 0 ≡ line → TooLong ≡ why → image_of text ≡ Err (line, why)
unfolding image_of
too_long text line why long is_line is_why =
    let test = lt-ltb most_text (length text) long in
    same_fault (image_of text) 0 line TooLong why (rw test refl) is_line is_why
