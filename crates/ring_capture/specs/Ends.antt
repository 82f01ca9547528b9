-- The last part of a list.
use Rattle.std.specs.Prelude.{◌≡◌, List, ◌++◌}

-- a list ends with another
abbrev pub EndsWith : {X : Type 0} → List X → List X → Type 0
EndsWith {X} last whole = (front : List X) × (whole ≡ front ++ last)
