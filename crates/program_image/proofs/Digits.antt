-- The bytes of words, a word at a time.
use Rattle.std.proofs.Common.{ℕ, List, ◌++◌, Option}
use Rattle.std.specs.Option.{option_map}

-- bytes before further bytes
abbrev pub before : List ℕ → Option (List ℕ) → Option (List ℕ)
before bytes more = option_map (λ more. bytes ++ more) more
