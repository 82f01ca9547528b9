-- What stands while the bytes of traces are woven into frames.
use Rattle.std.specs.Prelude.{ℕ, ◌≤◌, ◌==◌, Bool, List, drop, map, Result, OnErr, OnOk}
use Rattle.formatter_frames.specs.Framed.{whole_frames}
use Rattle.formatter_frames.specs.Writer.{Begun, StandsAt}
use Rattle.woven_traces.specs.declared.weaving.Trace.{Trace}
use Rattle.trace_io.specs.Bytes.{AppendsAll, AppendsFront, ShowsAsBefore}
use Rattle.trace_io.specs.Causes.{KeepsFaults, Rose}
use Rattle.trace_io.specs.State.{IoState}

-- what is left of a trace, with the ID of its stream
abbrev pub left_of : Trace → ℕ × List ℕ
left_of t = (t.id, drop t.woven t.bytes.items)

abbrev pub all_left : List Trace → List (ℕ × List ℕ)
all_left traces = map left_of traces

-- the trace has this ID
abbrev pub is_of : ℕ → Trace → Bool
is_of id t = t.id == id

-- these pairs were pushed, and the frames that they fill are written
pub record IsWeaving (frames : Begun) (pairs : List (ℕ × ℕ)) (start now : IoState) : Type 0 where
  pub stands : StandsAt frames pairs
  pub written : AppendsAll start now (whole_frames pairs)
  pub shows : ShowsAsBefore start now
  pub kept : KeepsFaults start now

-- a write failed, and a front of those frames is written
pub record IsCut (pairs : List (ℕ × ℕ)) (start now : IoState) : Type 0 where
  pub written : AppendsFront start now (whole_frames pairs)
  pub shows : ShowsAsBefore start now
  pub later : start.faults ≤ now.faults
  pub rose : Rose start now

-- one or the other
pub record Weaves {T E : Type 0} (frames : Begun) (pairs : List (ℕ × ℕ)) (start now : IoState) (result : Result T E) : Type 0 where
  pub done : OnOk result (IsWeaving frames pairs start now)
  pub cut : OnErr result (IsCut pairs start now)
