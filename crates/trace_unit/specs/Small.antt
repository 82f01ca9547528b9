-- How much a unit keeps behind a run.
use Rattle.std.specs.Prelude.{◌≡◌, ℕ, ◌+◌, ◌≤◌, All, length, Option, Some, None}
use Rattle.spec_run.specs.Runs.{Running}
use Rattle.spec_run.specs.Steps.{p0s}
use Rattle.trace_unit.specs.Places.{Places, Saved}
use Rattle.trace_unit.specs.Whole.{PutOff}

-- the P0 steps that are not retired
abbrev pub unretired : Option Running → ℕ
unretired None = 0
unretired (Some r) = p0s r.held

-- Each number of what waits is small, and together they tell the same P0 steps as the run does.
pub record Small (depth unretired : ℕ) (u : PutOff) : Type 0 where
  pub held : u.held ≤ depth
  pub cancels : u.cancels ≤ u.held
  pub atoms : length u.atoms ≤ 23
  pub commits : u.commits ≤ depth + 23
  pub balance : u.held + length u.atoms ≡ u.commits + unretired + u.cancels

-- one place is saved for each P0 step that is held, and return stacks have their depth
pub record IsWithin (most unretired : ℕ) (p : Places) : Type 0 where
  pub saved : length p.saved ≡ unretired
  pub stack : length p.stack ≤ most
  pub stacks : All (λ (v : Saved). length v.stack ≤ most) p.saved
