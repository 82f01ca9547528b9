-- The line of usage.
use Rattle.std.specs.Prelude.{ℕ, List, [], ◌∷◌, ◌++◌, codes}

abbrev pub usage_line : List ℕ
usage_line = codes "usage: etm path|packets|trace|retired|selftest|times" ++ 10 ∷ []
