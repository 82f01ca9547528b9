-- The offset of what stands behind plain words.
use Rattle.std.proofs.Common.{◌≡◌, ℕ, Option, Some, None, subst}
use Rattle.std.specs.Option.{option_map}
use Rattle.a64_branches.specs.Classes.{class_of, HasWholeOffset}
use Rattle.a64_branches.specs.declared.class.Class.{Class}
use Rattle.a64_branches.proofs.Whole.{whole_offset}

-- a class of a word has an offset of whole instructions
pub whole_class : (word : Option ℕ) (class : Class) → option_map class_of word ≡ Some class → HasWholeOffset class
whole_class None class e = absurd cc
whole_class (Some word) class e = let same : class_of word ≡ class = cc in subst HasWholeOffset same (whole_offset word)
