-- Kinds of steps.
use Rattle.std.specs.Prelude.{Bool, true, false}
use Rattle.spec_run.specs.declared.step.StepKind.{StepKind}
use Rattle.spec_run.specs.declared.step.StepKind.TheVariants.{Plain, Isb, Cond}

-- every step but a plain one is a P0 step
abbrev pub is_p0_kind : StepKind → Bool
is_p0_kind Plain = false
is_p0_kind kind = true

abbrev pub is_isb : StepKind → Bool
is_isb Isb = true
is_isb kind = false

abbrev pub is_cond : StepKind → Bool
is_cond (Cond taken) = true
is_cond kind = false

-- it is a conditional branch, and was taken
abbrev pub took_of : StepKind → Bool
took_of (Cond taken) = taken
took_of kind = false
