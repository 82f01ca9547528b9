-- The line of a run file that is bad.
use Rattle.std.specs.Prelude.{ℕ, List, [], ◌∷◌, ◌++◌, codes}
use Rattle.run_file.specs.declared.fault.BenchWhy.{BenchWhy}
use Rattle.path_text.specs.Lines.{decimal, hex}
use Rattle.run_file.specs.declared.fault.BenchWhy.TheVariants as why
use Rattle.spec_run.specs.declared.run_fault.RunFault.{RunFault}
use Rattle.spec_run.specs.declared.run_fault.RunFault.TheVariants as fault

abbrev pub at_address : List ℕ → ℕ → List ℕ
at_address word addr = word ++ codes " " ++ hex addr

abbrev pub two_counts : List ℕ → ℕ → ℕ → List ℕ
two_counts word a b = word ++ codes " " ++ decimal a ++ codes " " ++ decimal b

abbrev pub fault_text : RunFault → List ℕ
fault_text fault.NotOn = codes "not-on"
fault_text fault.AlreadyOn = codes "already-on"
fault_text (fault.WrongKind addr) = at_address (codes "wrong-kind") addr
fault_text (fault.NoCode addr) = at_address (codes "no-code") addr
fault_text (fault.Odd addr) = at_address (codes "odd") addr
fault_text (fault.Unaligned addr) = at_address (codes "unaligned") addr
fault_text (fault.TooDeep p0 depth) = two_counts (codes "too-deep") p0 depth
fault_text (fault.RetireTooMany asked held) = two_counts (codes "retire-too-many") asked held
fault_text (fault.CancelTooMany asked held) = two_counts (codes "cancel-too-many") asked held
fault_text fault.NoBranchToFlip = codes "no-branch"
fault_text fault.ContextPlace = codes "context-place"
fault_text fault.WindowFull = codes "window-full"

abbrev pub bench_why_text : BenchWhy → List ℕ
bench_why_text why.Header = codes "header"
bench_why_text why.Syntax = codes "syntax"
bench_why_text why.IdRange = codes "id-range"
bench_why_text why.DuplicateId = codes "duplicate-id"
bench_why_text why.Range = codes "range"
bench_why_text why.TooLong = codes "too-long"
bench_why_text (why.Run refused) = fault_text refused

abbrev pub bench_line : ℕ → BenchWhy → List ℕ
bench_line line reason = codes "bench line " ++ decimal line ++ codes ": " ++ bench_why_text reason ++ 10 ∷ []
