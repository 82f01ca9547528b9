-- What stands while the streams of a run file are traced.
use Rattle.std.specs.Prelude.{◌≡◌, ℕ, List, Option, Some}
use Rattle.run_file.specs.declared.fault.BenchWhy.{BenchWhy}
use Rattle.program_image.specs.declared.image.Image.{Image}
use Rattle.run_file.specs.declared.fault.BenchWhy.TheVariants.{Run}
use Rattle.spec_run.specs.declared.event.Event.{Event}
use Rattle.spec_run.specs.declared.run_fault.RunFault.{RunFault}
use Rattle.trace_unit.specs.Kept.{Kept, StandsAt}
use Rattle.trace_unit.specs.Written.{written}

-- the unit stands behind these events, and these bytes are what it wrote of them
pub record IsTracing (image : Image) (unit : Kept) (bytes : List ℕ) (events : List Event) : Type 0 where
  pub stands : StandsAt image unit events
  pub wrote : bytes ≡ written image unit.settings unit.stack_depth events

-- the event of this line is refused
abbrev pub refused_at : ℕ → RunFault → Option (ℕ × BenchWhy)
refused_at line fault = Some (line, Run fault)
