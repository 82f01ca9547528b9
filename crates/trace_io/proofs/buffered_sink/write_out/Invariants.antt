use Rattle.std.proofs.Common.{◌≤◌, length, take}
use Rattle.std.specs.Io.KnownBytes.{Appends}
use Rattle.trace_io.proofs.buffered_sink.write_out.Given as goal

abbrev pub invariant-loop : goal.invariant-loop
invariant-loop g l =
    (l.done ≤ length l.bytes) × Appends (g.W.Write.contents l.fn.to) (g.W.Write.contents l.to) (take l.done l.bytes)
