-- What any call keeps of a source that it reads from, or of a sink that it writes to, whatever else it does.
use Rattle.std.specs.Prelude.{ℕ, ◌≤◌, Result}
use Rattle.trace_io.specs.Bytes.{ShowsAsBefore}
use Rattle.trace_io.specs.Causes.{HasCause}
use Rattle.trace_io.specs.State.{IoState}

-- The object shows its bytes now exactly where it showed them before; an error comes only with a fault of it, and a success without.
pub record Serves {T E : Type 0} (before now : IoState) (result : Result T E) : Type 0 where
  pub shows : ShowsAsBefore before now
  pub cause : HasCause before now result

-- The same of a call whose result tells of other things too: the object shows its bytes as before, and no fault of it is forgotten.
pub record Lasts (before now : IoState) : Type 0 where
  pub shows : ShowsAsBefore before now
  pub later : before.faults ≤ now.faults
