-- The summary of a number.
use Rattle.std.specs.Prelude.{ℕ, List, [], ◌∷◌, ◌++◌, codes, Option, Some, None}
use Rattle.bench_gen.specs.Bench.{rounds, streams}
use Rattle.path_text.specs.Lines.{decimal}

-- whether all was read
abbrev pub word_of : Option ℕ → List ℕ
word_of None = codes "same"
word_of (Some cut) = codes "cut"

-- how many there are of something
abbrev pub counted : ℕ → List ℕ → List ℕ
counted count things = decimal count ++ codes " " ++ things ++ codes ", "

abbrev pub summary_line : ℕ → Option ℕ → ℕ → List ℕ
summary_line n cut lines =
    codes "selftest " ++ decimal n ++ codes ": " ++ counted (streams n) (codes "streams") ++ counted (rounds n) (codes "rounds")
    ++ counted lines (codes "lines") ++ word_of cut ++ 10 ∷ []
