-- What a call printed.
use Rattle.std.specs.Prelude.{ℕ, List}
use Rattle.trace_io.specs.Bytes.{AppendsAll, AppendsFront}
use Rattle.trace_io.specs.State.{IoState}

-- a text of this kind was printed, or a front of it
abbrev pub Prints : (List ℕ → Type 0) → IoState → IoState → Type 0
Prints kind out out' = (text : List ℕ) × kind text × AppendsAll out out' text

abbrev pub PrintsFront : (List ℕ → Type 0) → IoState → IoState → Type 0
PrintsFront kind out out' = (text : List ℕ) × kind text × AppendsFront out out' text
