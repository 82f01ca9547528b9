-- Words that walks show, beside near misses.
use Rattle.std.proofs.Common.{ℕ, zero, suc, true, false, Some, None, refl, arith}
use Rattle.a64_branches.specs.Classes.{class_of}
use Rattle.etm_types.specs.declared.walked.Walked.{Walked}
use Rattle.path_walker.proofs.Examples.{code, one_plain, user}
use Rattle.path_walker.specs.Walk.{AreWalked, IsStretchOfWords, ShowsWords}
use Rattle.path_walker.specs.declared.stretch.Stretch.{Stretch}
use Rattle.program_image.specs.Places.{AreWords}

two_words : AreWords code 0x1000 2
two_words zero short = refl
two_words (suc zero) short = refl
two_words (suc (suc k)) short = absurd (omega (arith, short))

-- 1000: NOP, and a branch by its condition, which was taken
pub taken_branch : AreWalked code 0x1000 2 1 true
unfolding class_of
taken_branch = record { words = two_words; run = one_plain code 0x1000 refl; cond = λ taken. refl }

-- B is no branch by a condition
pub not_taken_by_a_condition : AreWalked code 0x1008 2 1 true → ⊥
unfolding class_of
not_taken_by_a_condition walked = let cond = walked.cond refl in cc

-- the branch is not plain
pub not_two_plain : AreWalked code 0x1000 2 2 true → ⊥
unfolding class_of
not_two_plain walked = let plain = walked.run 1 (omega arith) in cc

-- no word stands behind the last one of a part
pub not_past_the_part : AreWalked code 0x1008 3 1 false → ⊥
not_past_the_part walked = let word = walked.words 2 (omega arith) in cc

-- what the atom of that branch shows
abbrev shown : Walked
shown = record { on = false; unknown = false; ctx = user; start = 0x1000; count = 2; took = true; exc = None }

pub atom_words : ShowsWords code shown
atom_words known = taken_branch

-- before an exception all are plain
abbrev before_irq : ℕ → Walked
before_irq count = record shown { count = count; took = false; exc = Some (record { kind = 14; ret = 0x1004 }) }

pub one_before_irq : ShowsWords code (before_irq 1)
unfolding class_of
one_before_irq known = record {
  words = λ k short. two_words k (omega (arith, short));
  run = one_plain code 0x1000 refl;
  cond = λ taken. absurd cc;
}

pub not_two_before_irq : ShowsWords code (before_irq 2) → ⊥
unfolding class_of
not_two_before_irq words = let plain = (words refl).run 1 (omega arith) in cc

-- nothing is said where the address is not known
pub unknown_words : ShowsWords code (record shown { unknown = true; start = 0 })
unknown_words known = absurd cc

pub not_where_none_is : ShowsWords code (record shown { start = 0x2000; took = false }) → ⊥
not_where_none_is words = let word = (words refl).words 0 (omega arith) in cc

-- the stretch of that atom, whose first word has the place 0
abbrev stretch_at : ℕ → Stretch
stretch_at place = record { start = 0x1000; place = place; count = 2; took = true; to_register = false }

pub stretch_of_words : IsStretchOfWords code (stretch_at 0)
unfolding class_of
stretch_of_words = (taken_branch, record { some = omega arith; place = refl; last = refl })

pub not_at_place_1 : IsStretchOfWords code (stretch_at 1) → ⊥
not_at_place_1 words = let place = words.1.place in cc

pub not_of_three : IsStretchOfWords code (record (stretch_at 0) { count = 3; took = false }) → ⊥
unfolding class_of
not_of_three words = let plain = words.0.run 1 (omega arith) in cc
