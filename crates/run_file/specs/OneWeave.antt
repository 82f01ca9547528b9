-- One word of a weave line.
use Rattle.std.specs.Prelude.{ℕ, ◌&&◌, nat_le, List, Result, Ok, Err, if◌then◌else◌, not}
use Rattle.run_file.specs.BenchText.{weave_of}
use Rattle.run_file.specs.EventLines.{need}
use Rattle.run_file.specs.Parts.{BenchStream, has_stream}
use Rattle.run_file.specs.declared.fault.BenchWhy.{BenchWhy}
use Rattle.run_file.specs.declared.fault.BenchWhy.TheVariants.{IdRange, Range}
use Rattle.run_file.specs.declared.line.Weave.{Weave}

-- a weave of a stream that is declared, of a count in range
abbrev pub checked : List BenchStream → Weave → Result Weave BenchWhy
checked streams w =
    if not (has_stream w.id streams) then Err IdRange else if not (nat_le 1 w.count && nat_le w.count 1048576) then Err Range else Ok w

abbrev pub one_weave : List BenchStream → List ℕ → Result Weave BenchWhy
one_weave streams word = need (weave_of word) (checked streams)
