use Rattle.std.proofs.Common.{◌≡◌, length}
use Rattle.packet_list.proofs.PacketRuns.{Along}
use Rattle.packet_list.proofs.packet_list.take_bytes.Given as goal
use Rattle.trace_io.specs.Bytes.{ShowsAsBefore}
use Rattle.trace_io.specs.Causes.{KeepsFaults}

abbrev pub invariant-loop-byte : goal.invariant-loop-byte
invariant-loop-byte g l =
    let state = g.K.Sink.state in
    record {
      line : l.line ≡ l.fn.line;
      along : Along l.fn.line l.fn.reader l.reader l.fn.fault l.fault (state l.fn.sink) (state l.sink) l.run l.rest;
      kept : KeepsFaults (state l.fn.sink) (state l.sink);
      shows : ShowsAsBefore (state l.fn.sink) (state l.sink);
    }

abbrev pub decreases-loop-byte : goal.decreases-loop-byte
decreases-loop-byte g l = length l.rest
