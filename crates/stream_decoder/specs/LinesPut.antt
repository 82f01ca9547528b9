-- What follows a path by its lines does between two of its values.
use Rattle.std.specs.Prelude.{◌≡◌, List, [], Some, Result, Ok, Err, IsOk, IsTrue}
use Rattle.etm_types.specs.declared.context.Ctx.{Ctx}
use Rattle.etm_types.specs.declared.item.Item.{Item}
use Rattle.path_text.specs.Blocks.{Block, Puts}
use Rattle.path_text.specs.PathLines.{lines_of, shown_after_all}
use Rattle.path_text.specs.Writing.{Writes}
use Rattle.trace_io.specs.State.{IoState}
use Rattle.trace_io.specs.declared.traits.Failed.{Failed}

-- what is seen of it: what its sink took, the block of lines, and whether a write failed
pub record Following : Type 0 where
  pub sink : IoState
  pub lines : Block
  pub result : Result (Unit {0}) Failed

-- the lines of the items are put behind what was put before, as far as no write fails, and what there is no room for is written
pub record PutsLines (old : Following) (items : List Item) (new : Following) : Type 0 where
  pub puts : Puts old.sink new.sink (old.lines).put (new.lines).put new.result (lines_of (old.lines).id (old.lines).shown items)
  pub shown : IsOk new.result → (new.lines).shown ≡ shown_after_all (old.lines).shown items

-- behind a write that failed nothing is written
pub record WritesNothing (old new : Following) : Type 0 where
  pub sink : new.sink ≡ old.sink
  pub result : new.result ≡ old.result

abbrev pub PutsUnless : Result (Unit {0}) Failed → Following → List Item → Following → Type 0
PutsUnless (Ok done) old items new = PutsLines old items new
PutsUnless (Err failed) old items new = WritesNothing old new

-- it takes items: the lines are of the stream that they were of before
pub record TakesLines (old : Following) (items : List Item) (new : Following) : Type 0 where
  pub id : (new.lines).id ≡ (old.lines).id
  pub takes : PutsUnless old.result old items new

-- what was put is written
pub record WritesPut (old new : Following) : Type 0 where
  pub writes : Writes old.sink new.sink new.result ((old.lines).put)
  pub shown : (new.lines).shown ≡ (old.lines).shown
  pub nothing : (old.lines).put ≡ [] → (new.sink ≡ old.sink) × (new.result ≡ old.result)

abbrev pub WritesUnless : Result (Unit {0}) Failed → Following → Following → Type 0
WritesUnless (Ok done) old new = WritesPut old new
WritesUnless (Err failed) old new = WritesNothing old new

-- lines near the last one are put without a line of their context only where that is this one
abbrev pub IsIn : Ctx → Following → Type 0
IsIn ctx f = IsOk f.result → IsTrue ((f.lines).near) → (f.lines).shown ≡ Some ctx
