-- Answers of one step.
use Rattle.std.proofs.Common.{◌≡◌, ◌<◌, Option, Result, Err, arith}
use Rattle.packet_grammar.specs.declared.stream_fault.Fault.{Fault}
use Rattle.stream_decoder.specs.Decoding.{AtRest, Decoding}
use Rattle.stream_decoder.specs.Yields.{left}
use Rattle.stream_decoder.specs.declared.found.Found.{Found}

abbrev failing : Fault → Result (Option Found) Fault
failing f = Err f

pub same_error : (f g : Fault) → failing f ≡ failing g → f ≡ g
same_error f g e = cc

no_more : (d : Decoding) → AtRest d → left d ≡ 0
no_more d done = rw done.due (rw done.todo (omega arith))

-- where nothing is left to do, that is at rest
pub nothing_left : (d : Decoding) → AtRest d → 0 < left d → ⊥
nothing_left d done some = let e = no_more d done in absurd (omega (arith, e, some))
