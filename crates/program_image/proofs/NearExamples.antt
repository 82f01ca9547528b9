-- A part that is kept at hand, beside near misses.
use Rattle.std.proofs.Common.{◌≡◌, ℕ, zero, suc, ◌^◌, ◌-◌, [], ◌∷◌, None, arith, refl, subst}
use Rattle.program_image.specs.Blocks.{IsPlainRun}
use Rattle.program_image.specs.Near.{Fits, HasNoRunAt, HasRunAt, IsNear, IsOfPart, Near}
use Rattle.program_image.specs.Runs.{IsRun}
use Rattle.program_image.specs.declared.run.PlacedRun.{PlacedRun}
use Rattle.program_image.specs.declared.run.PlainRun.{PlainRun}
use Rattle.program_image.specs.declared.run.WordBehind.TheVariants as word_behind
use Rattle.a64_branches.specs.Classes.{class_of}
use Rattle.program_image.proofs.PlaceExamples.{three}

-- the second part of three words: one plain word, and none behind it
abbrev last_word : PlainRun
last_word = record { plain = 1; class = None }

abbrev second : ℕ → Near
second first = record { start = 0x2000; runs = last_word ∷ []; first = first; part = 1 }

one_plain : IsPlainRun three 0x2000 1
unfolding class_of
one_plain zero within = refl
one_plain (suc k) within = absurd (omega (arith, within))

pub kept : IsNear three (second 2)
kept zero run is = let same : last_word ≡ run = cc in (subst (IsRun three 0x2000) same ((one_plain, λ e. cc), refl), refl)
kept (suc k) run is = absurd cc

-- its word has the place 2
pub not_at_3 : IsNear three (second 3) → ⊥
not_at_3 is = let there = (is 0 last_word refl).1 in cc

-- and none behind it is plain
pub not_of_two_plain : IsNear three (record (second 2) { runs = record { plain = 2; class = None } ∷ [] }) → ⊥
not_of_two_plain is = let plain = (is 0 (record { plain = 2; class = None }) refl).0.0.0 1 (omega arith) in cc

pub of_part : IsOfPart 1 (second 2) (record { start = 0x2000; bytes = 0x1f ∷ 0x20 ∷ 0x03 ∷ 0xd5 ∷ [] })
of_part = record { start = refl; whole = refl; place = refl }

-- each word of the part is kept
pub not_of_none : IsOfPart 1 (record (second 2) { runs = [] }) (record { start = 0x2000; bytes = 0x1f ∷ 0x20 ∷ 0x03 ∷ 0xd5 ∷ [] }) → ⊥
not_of_none is = let e = is.whole in cc

pub fits : Fits (second 2)
fits = record { aligned = refl; within = omega arith; few = omega arith }

-- the last word of all addresses too
pub fits_at_the_end : Fits (record (second 2) { start = 2 ^ 64 - 4 })
fits_at_the_end = record { aligned = refl; within = omega arith; few = omega arith }

pub not_past_the_end : Fits (record (second 2) { start = 2 ^ 64 - 4; runs = last_word ∷ last_word ∷ [] }) → ⊥
not_past_the_end is = absurd (omega (arith, is.within))

pub not_at_half_a_word : Fits (record (second 2) { start = 0x2002 }) → ⊥
not_at_half_a_word is = let e = is.aligned in cc

pub not_past_the_last_place : Fits (second (2 ^ 64 - 1)) → ⊥
not_past_the_last_place is = absurd (omega (arith, is.few))

-- ---- what is looked up

abbrev placed : ℕ → PlacedRun
placed place = record { place = place; part = 1; run = record { plain = 1; behind = word_behind.NoWord } }

pub has_run : HasRunAt (second 2) 0x2000 (placed 2)
has_run = record { word = 0; begins = refl; run = refl; place = refl; part = refl }

pub not_with_place_3 : HasRunAt (second 2) 0x2000 (placed 3) → ⊥
not_with_place_3 has = absurd (omega (arith, has.begins, has.place))

pub none_behind : HasNoRunAt (second 2) 0x2004
none_behind k within is = absurd (omega (arith, within, is))

pub not_none_there : HasNoRunAt (second 2) 0x2000 → ⊥
not_none_there none = none 0 (omega arith) refl
