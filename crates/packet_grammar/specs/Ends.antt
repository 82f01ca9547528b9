-- How the trace of a stream ends, where its bytes parse so.
use Rattle.std.specs.Prelude.{Bool, true, false}
use Rattle.packet_grammar.specs.Parsed.{Ending, no_sync, clean, cut, fault}
use Rattle.packet_grammar.specs.declared.end.End.{End}
use Rattle.packet_grammar.specs.declared.end.End.TheVariants as end
use Rattle.packet_grammar.specs.declared.stream_fault.Fault.TheVariants as stream

abbrev pub end_of : Ending → End
end_of no_sync = end.NoSync
end_of clean = end.Clean
end_of (cut n) = end.Cut n
end_of (fault at f) = end.Fault at (stream.Packet f)

abbrev pub is_fault : End → Bool
is_fault end.Clean = false
is_fault (end.Cut n) = false
is_fault end.NoSync = false
is_fault (end.Fault at f) = true
