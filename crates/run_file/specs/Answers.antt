-- How readers answer for what a text says; want of memory is free.
use Rattle.std.specs.Prelude.{◌≡◌, ℕ, Result, Ok, Err, ⊤}
use Rattle.run_file.specs.declared.fault.BenchFault.{BenchFault}
use Rattle.run_file.specs.declared.fault.BenchFault.TheVariants as bench_fault
use Rattle.run_file.specs.declared.fault.BenchWhy.{BenchWhy}
use Rattle.run_file.specs.declared.fault.LineFault.{LineFault}
use Rattle.run_file.specs.declared.fault.LineFault.TheVariants as line_fault

-- the value that a line gives, as view shows it, or its fault
abbrev pub Answers : {X Y : Type 0} → (X → Y) → Result X LineFault → Result Y BenchWhy → Type 0
Answers view (Ok x) given = given ≡ Ok (view x)
Answers view (Err (line_fault.Bad why)) given = given ≡ Err why
Answers view (Err line_fault.Memory) given = ⊤

-- the same of a text, with the line of the fault
abbrev pub AnswersText : {X : Type 0} → Result X BenchFault → Result X (ℕ × BenchWhy) → Type 0
AnswersText (Ok x) given = given ≡ Ok x
AnswersText (Err (bench_fault.Bad line why)) given = given ≡ Err (line, why)
AnswersText (Err bench_fault.Memory) given = ⊤
