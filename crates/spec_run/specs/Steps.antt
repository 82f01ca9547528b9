-- Lists of steps, oldest first.
use Rattle.std.specs.Prelude.{ℕ, ◌+◌, ◌-◌, Bool, false, if◌then◌else◌, List, [], ◌∷◌, length, take, drop}
use Rattle.etm_types.specs.declared.context.Ctx.{Ctx}
use Rattle.spec_run.specs.Kinds.{is_cond, is_isb, is_p0_kind}
use Rattle.spec_run.specs.declared.step.RunStep.{RunStep}

abbrev pub is_p0 : RunStep → Bool
is_p0 s = is_p0_kind s.kind

-- how many P0 steps there are
abbrev pub p0s : List RunStep → ℕ
p0s [] = 0
p0s (s ∷ steps) = (if is_p0 s then 1 else 0) + p0s steps

-- whether the newest step is an ISB, where that of the steps before these is so or not
abbrev pub isb_behind : Bool → List RunStep → Bool
isb_behind before [] = before
isb_behind before (s ∷ steps) = isb_behind (is_isb s.kind) steps

abbrev pub ends_in_isb : List RunStep → Bool
ends_in_isb steps = isb_behind false steps

-- whether the newest step is a conditional branch
abbrev pub ends_in_cond : List RunStep → Bool
ends_in_cond [] = false
ends_in_cond (s ∷ []) = is_cond s.kind
ends_in_cond (s ∷ t ∷ steps) = ends_in_cond (t ∷ steps)

-- all but the n newest, and the n newest
abbrev pub kept : {X : Type 0} → ℕ → List X → List X
kept n xs = take (length xs - n) xs

abbrev pub newest : {X : Type 0} → ℕ → List X → List X
newest n xs = drop (length xs - n) xs

-- where the oldest of the steps stands, and in which context; where there is none, the place given
abbrev pub pc_at : ℕ → List RunStep → ℕ
pc_at pc [] = pc
pc_at pc (s ∷ steps) = s.addr

abbrev pub ctx_at : Ctx → List RunStep → Ctx
ctx_at ctx [] = ctx
ctx_at ctx (s ∷ steps) = s.ctx

-- where the newest of the steps leads; where there is none, the place given
abbrev pub next_behind : ℕ → List RunStep → ℕ
next_behind pc [] = pc
next_behind pc (s ∷ steps) = next_behind s.next steps
