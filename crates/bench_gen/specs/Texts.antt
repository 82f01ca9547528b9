-- The texts of an image and of a run file, and what their lines are made of.
use Rattle.std.specs.Prelude.{ℕ, ◌/◌, ◌%◌, codes, List, [], ◌∷◌, ◌++◌, slice_index}
use Rattle.std.specs.List.{flat_map}

-- what a contract sees of a `Generated`: the bytes of the image and those of the run file
pub record Texts : Type 0 where
  pub image : List ℕ
  pub bench : List ℕ

-- the text of lines, each of which ends with LF
abbrev pub text : List (List ℕ) → List ℕ
text lines = flat_map (λ line. line ++ 10 ∷ []) lines

-- a lower case hex digit
abbrev pub digit : ℕ → ℕ
digit value = slice_index (codes "0123456789abcdef") value

-- the two digits of an ID
abbrev pub id : ℕ → List ℕ
id i = digit (i / 16) ∷ digit (i % 16) ∷ []
