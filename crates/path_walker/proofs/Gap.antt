-- A run of plain words ends before a gap of the image.
use Rattle.std.proofs.Common.{◌≡◌, ℕ, ◌+◌, ◌-◌, ◌/◌, ◌%◌, ◌^◌, ◌<◌, None, sym, ap, ◌∙◌, inl, inr, arith}
use Rattle.std.specs.Prelude.{nat_le, nat_lt}
use Rattle.std.specs.Option.{option_map}
use Rattle.std.proofs.lemmas.Bool.{leb-true, leb-false, ltb-true, ltb-false}
use Rattle.a64_branches.specs.Classes.{class_of}
use Rattle.program_image.specs.Blocks.{class_at, behind, IsPlainRun, HasGap}
use Rattle.program_image.specs.declared.image.Image.{Image}
use Rattle.path_walker.proofs.Search.{cases}

-- each multiple of 4 stands so many words after another one
reached : (from to : ℕ) → from % 4 ≡ 0 → to % 4 ≡ 0 → to < 2 ^ 64 → (n : ℕ) × (n < 2 ^ 62) × (behind from n ≡ to)
reached from to aligned also lower =
    let low : ℕ = from % 2 ^ 64 in
    elim (cases (nat_le low to)) [
      | inl t ↦ let le = leb-true _ _ t in ((to - low) / 4, omega arith, omega arith)
      | inr f ↦ let lt = leb-false _ _ f in ((to + 2 ^ 64 - low) / 4, omega arith, omega arith)
    ]

pub run_short : (image : Image) (address n : ℕ) → address % 4 ≡ 0 → HasGap image → IsPlainRun image address n → n < 2 ^ 62
run_short image address n aligned gap run =
    let far = reached address gap.address aligned gap.aligned gap.within in
    elim (cases (nat_lt far.0 n)) [
      | inl t ↦
          let plain = run far.0 (ltb-true _ _ t) in
          let nothing : class_at image (behind address far.0) ≡ None = ap (class_at image) far.2 ∙ ap (option_map class_of) gap.none in
          absurd (let x = sym plain ∙ nothing in cc)
      | inr f ↦ omega (arith, ltb-false _ _ f, far.1)
    ]
