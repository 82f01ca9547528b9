-- What a failed call owes: the object's count of faults rose, or stands at its last value.
use Rattle.std.specs.Prelude.{◌≡◌, ℕ, ◌+◌, ◌-◌, ◌^◌, ◌≤◌, min, Result, OnOk, OnErr}
use Rattle.trace_io.specs.State.{IoState}

-- the count after one more fault: it is kept in 64 bits, and stays at its last value
abbrev pub one_more : ℕ → ℕ
one_more count = min (count + 1) (2 ^ 64 - 1)

-- the count rose, or stands at its last value
abbrev pub Rose : IoState → IoState → Type 0
Rose before now = one_more before.faults ≤ now.faults

-- no call failed
abbrev pub KeepsFaults : IoState → IoState → Type 0
KeepsFaults before now = now.faults ≡ before.faults

-- a success leaves the count as it was, and an error comes only where it rose
pub record HasCause {T E : Type 0} (before now : IoState) (result : Result T E) : Type 0 where
  pub later : before.faults ≤ now.faults
  pub kept : OnOk result (KeepsFaults before now)
  pub failed : OnErr result (Rose before now)

-- a failure is counted as one, and a success is not counted
pub record Counts {T E : Type 0} (before now : IoState) (result : Result T E) : Type 0 where
  pub kept : OnOk result (KeepsFaults before now)
  pub counted : OnErr result (now.faults ≡ one_more before.faults)
