use Rattle.std.proofs.Common.{◌≡◌, ◌-◌, ◌≤◌, [], List, ℕ, length, false}
use Rattle.capture_streams.proofs.Writing.{Gained}
use Rattle.etm_types.specs.Settings.{Sizes}
use Rattle.input_pieces.specs.Listed.{Takes, most_input}
use Rattle.input_pieces.proofs.input.take_input.Given as goal
use Rattle.trace_io.specs.Bytes.{ShowsAsBefore}
use Rattle.trace_io.specs.Causes.{KeepsFaults}

abbrev pub invariant-loop-count : goal.invariant-loop-count
invariant-loop-count g l =
    let input = g.J.Source.state in let out = g.K.Sink.state in
    record {
      few : l.taken ≤ most_input;
      whole : g.P.Printer.broken l.printer ≡ false;
      count : g.P.Printer.offset l.printer ≡ l.taken;
      frames : g.P.Printer.frames l.printer ≡ g.P.Printer.frames l.fn.printer;
      so_far : (t : ℕ → Sizes) → g.P.Printer.stands l.shared t l.fn.printer []
          → (bytes : List ℕ) × (length bytes ≡ l.taken) × Takes (input l.fn.input) (input l.input) bytes
          × g.P.Printer.stands l.shared t l.printer bytes
          × Gained (g.P.Printer.laid (g.P.Printer.frames l.fn.printer)).carried (g.P.Printer.listing l.shared t) [] bytes (out l.fn.out) (out l.out);
      input_kept : KeepsFaults (input l.fn.input) (input l.input);
      input_shows : ShowsAsBefore (input l.fn.input) (input l.input);
      kept : KeepsFaults (out l.fn.out) (out l.out);
      shows : ShowsAsBefore (out l.fn.out) (out l.out);
    }

abbrev pub decreases-loop-count : goal.decreases-loop-count
decreases-loop-count g l = most_input - l.taken
