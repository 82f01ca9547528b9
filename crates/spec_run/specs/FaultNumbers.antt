-- The number of each refusal of a run.
use Rattle.std.specs.Prelude.{ℕ}
use Rattle.spec_run.specs.declared.run_fault.RunFault.{RunFault}
use Rattle.spec_run.specs.declared.run_fault.RunFault.TheVariants.{NotOn, AlreadyOn, WrongKind, NoCode, Odd, Unaligned, TooDeep}
use Rattle.spec_run.specs.declared.run_fault.RunFault.TheVariants.{RetireTooMany, CancelTooMany, NoBranchToFlip, ContextPlace, WindowFull}

abbrev pub fault_number : RunFault → ℕ
fault_number NotOn = 1
fault_number AlreadyOn = 2
fault_number (WrongKind addr) = 3
fault_number (NoCode addr) = 4
fault_number (Odd addr) = 5
fault_number (Unaligned addr) = 6
fault_number (TooDeep p0 depth) = 7
fault_number (RetireTooMany asked held) = 8
fault_number (CancelTooMany asked held) = 9
fault_number NoBranchToFlip = 10
fault_number ContextPlace = 11
fault_number WindowFull = 12
