-- What contracts see of a writer of frames.
use Rattle.std.specs.Prelude.{◌≡◌, ℕ, List, ◌++◌, Bool, false, Option, None, Result, OnOk, OnErr, is_err}
use Rattle.trace_io.specs.State.{IoState}
use Rattle.trace_io.specs.Bytes.{AppendsAll, AppendsShorter}
use Rattle.formatter_frames.specs.declared.symbol.Symbol.{Symbol}
use Rattle.formatter_frames.specs.Sizes.{frame_symbols}
use Rattle.formatter_frames.specs.Symbols.{symbols_of, id_after}
use Rattle.formatter_frames.specs.Framed.{begun, frames_of}
use Rattle.formatter_frames.specs.Pieces.{left_over}

-- the symbols of the begun frame, the ID that holds, and whether a call failed
pub record Begun : Type 0 where
  pub symbols : List Symbol
  pub current : Option ℕ
  pub failed : Bool

-- these pairs were pushed, and no call failed
pub record StandsAt (writer : Begun) (pairs : List (ℕ × ℕ)) : Type 0 where
  pub symbols : writer.symbols ≡ begun pairs
  pub current : writer.current ≡ id_after None (symbols_of None pairs)
  pub not_failed : writer.failed ≡ false

-- A call appends the bytes by which `after` is longer than `before`; where it fails, a front of them.
pub record AppendsGrowth {T E : Type 0} (old new : IoState) (before after : List ℕ) (result : Result T E) : Type 0 where
  pub growth : List ℕ
  pub grows : after ≡ before ++ growth
  pub ok : OnOk result (AppendsAll old new growth)
  pub failed : OnErr result (AppendsShorter old new growth)

-- Symbols join those of the begun frame. A frame that they fill is appended, and what is left begins the next.
pub record Puts {T E : Type 0} (writer next : Begun) (symbols : List Symbol) (old new : IoState) (result : Result T E) : Type 0 where
  pub begun : OnOk result (next.symbols ≡ left_over frame_symbols (writer.symbols ++ symbols))
  pub ok : OnOk result (AppendsAll old new (frames_of (writer.symbols ++ symbols)))
  pub failed : OnErr result (AppendsShorter old new (frames_of (writer.symbols ++ symbols)))
  pub fails : next.failed ≡ is_err result
