-- Lines of instructions that are put into memory and written many together.
use Rattle.std.specs.Prelude.{◌≡◌, ℕ, ◌%◌, ◌<◌, ◌≤◌, Bool, List, ◌++◌, take, Option, Result, IsOk}
use Rattle.etm_types.specs.declared.context.Ctx.{Ctx}
use Rattle.path_text.specs.Lines.{line_start}
use Rattle.path_text.specs.PageLines.{HoldsEnds, line_head}
use Rattle.path_text.specs.Writing.{Writes}
use Rattle.trace_io.specs.State.{IoState}

-- What is seen of a block of lines: the ID of their stream, the lines that were put and are not written yet, the context that was printed
-- last, and whether lines near the last one may follow without a line of their context.
pub record Block : Type 0 where
  pub id : ℕ
  pub put : List ℕ
  pub shown : Option Ctx
  pub near : Bool

-- A text is put behind what was put before. Of all this a front is written, as far as no write fails, and the rest stays put.
pub record Puts {T E : Type 0} (old new : IoState) (put put' : List ℕ) (result : Result T E) (text : List ℕ) : Type 0 where
  pub out : List ℕ
  pub rest : List ℕ
  pub parts : put ++ text ≡ out ++ rest
  pub writes : Writes old new result out
  pub left : IsOk result → put' ≡ rest

-- what the fields of a block keep: the lines that were put stand in front; the head is that of the ID, and of the page where there is one;
-- and the ends are those of 1,024 places
pub record HoldsLines (id page len at : ℕ) (head ends : List ℕ) : Type 0 where
  pub room : at ≤ 4096
  pub short : len ≤ 15
  pub start : take 3 head ≡ line_start id
  pub apart : 0 < page % 65536 → 4 ≤ page % 65536
  pub whole : page % 65536 ≡ 0 → take len head ≡ line_head id page
  pub table : HoldsEnds ends 1024
