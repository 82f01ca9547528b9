-- The line of an image that is bad.
use Rattle.std.specs.Prelude.{ℕ, List, [], ◌∷◌, ◌++◌, codes}
use Rattle.path_text.specs.Lines.{decimal}
use Rattle.program_image.specs.Faults.{why_text}
use Rattle.program_image.specs.declared.fault.ImageWhy.{ImageWhy}

abbrev pub image_line : ℕ → ImageWhy → List ℕ
image_line line why = codes "image line " ++ decimal line ++ codes ": " ++ why_text why ++ 10 ∷ []
