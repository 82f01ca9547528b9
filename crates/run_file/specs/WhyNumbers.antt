-- The number of each reason for which a line of a run file is bad.
use Rattle.std.specs.Prelude.{ℕ}
use Rattle.run_file.specs.declared.fault.BenchWhy.{BenchWhy}
use Rattle.run_file.specs.declared.fault.BenchWhy.TheVariants.{Header, Syntax, IdRange, DuplicateId, Range, TooLong, Run}

abbrev pub why_number : BenchWhy → ℕ
why_number Header = 1
why_number Syntax = 2
why_number IdRange = 3
why_number DuplicateId = 4
why_number Range = 5
why_number TooLong = 6
why_number (Run fault) = 7
