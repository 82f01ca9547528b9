-- The first line of a text that has a fault.
use Rattle.std.specs.Prelude.{◌≡◌, ℕ, ◌+◌, List, [], ◌∷◌, ◌++◌, length, Ok, Err}
use Rattle.std.specs.Str.Lines.{lines}
use Rattle.program_image.specs.Part.{Part}
use Rattle.program_image.specs.ImageText.{add_line, add_lines}
use Rattle.program_image.specs.declared.fault.ImageWhy.{ImageWhy}

-- the lines before it spell parts, and it has this fault after them
pub record IsFirstFault (text : List ℕ) (line : ℕ) (why : ImageWhy) : Type 0 where
  pub before : List (List ℕ)
  pub bad : List ℕ
  pub rest : List (List ℕ)
  pub told : List Part
  pub text_is : lines text ≡ before ++ bad ∷ rest
  pub line_is : line ≡ length before + 1
  pub good : add_lines 1 [] before ≡ Ok told
  pub fault : add_line told bad ≡ Err why
