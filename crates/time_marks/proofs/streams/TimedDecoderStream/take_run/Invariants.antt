use Rattle.std.proofs.Common.{◌≡◌, ◌≤◌, ◌+◌, ℕ, List, ◌++◌, length, take, false}
use Rattle.capture_streams.proofs.Runs.{RunWritten}
use Rattle.time_marks.specs.Timed.{StandsAt}
use Rattle.time_marks.specs.TimeList.{times}
use Rattle.time_marks.proofs.streams.TimedDecoderStream.take_run.Given as goal
use Rattle.trace_io.specs.Bytes.{ShowsAsBefore}
use Rattle.trace_io.specs.Causes.{KeepsFaults}

abbrev pub invariant-loop-byte : goal.invariant-loop-byte
invariant-loop-byte g l =
    let state = g.K.Sink.state in
    record {
      stands : (bytes : List ℕ) → StandsAt l.fn.self bytes → StandsAt l.self (bytes ++ take l.byte-index l.run);
      written : (bytes : List ℕ) → StandsAt l.fn.self bytes
          → RunWritten (times l.fn.self.reader.settings) l.id bytes (take l.byte-index l.run) (state l.fn.sink) (state l.sink);
      kept : KeepsFaults (state l.fn.sink) (state l.sink);
      shows : ShowsAsBefore (state l.fn.sink) (state l.sink);
      offset : l.self.reader.offset ≡ l.fn.self.reader.offset + l.byte-index;
      whole : l.self.broken ≡ false;
      sizes : l.self.reader.settings ≡ l.fn.self.reader.settings;
      most : length l.fn.self.timing.line.queue.pending.held ≤ l.fn.self.reader.settings.depth
          → length l.self.timing.line.queue.pending.held ≤ l.self.reader.settings.depth;
    }
