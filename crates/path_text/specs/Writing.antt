-- What a function does that writes a text to a sink.
use Rattle.std.specs.Prelude.{ℕ, List, Result, OnOk, OnErr}
use Rattle.trace_io.specs.State.{IoState}
use Rattle.trace_io.specs.Bytes.{AppendsAll, AppendsFront, ShowsAsBefore}
use Rattle.trace_io.specs.Causes.{HasCause}

-- it writes the text, or a front of it where a write fails
pub record Writes {T E : Type 0} (old new : IoState) (result : Result T E) (text : List ℕ) : Type 0 where
  pub whole : OnOk result (AppendsAll old new text)
  pub front : OnErr result (AppendsFront old new text)
  pub shows : ShowsAsBefore old new
  pub cause : HasCause old new result
