-- The exit status of each answer.
use Rattle.std.specs.Prelude.{ℕ}
use Rattle.answer_lines.specs.declared.status.Status.{Status}
use Rattle.answer_lines.specs.declared.status.Status.TheVariants as status

-- the number of each answer
abbrev pub code_of : Status → ℕ
code_of status.Done = 0
code_of status.Usage = 1
code_of (status.ImageBad line why) = 2
code_of (status.BenchBad line why) = 3
code_of status.Faulted = 4
code_of status.ReadFault = 5
code_of status.WriteFault = 6
code_of status.NoMemory = 7
code_of status.InputTooLong = 8
code_of (status.ElfBad why) = 9
