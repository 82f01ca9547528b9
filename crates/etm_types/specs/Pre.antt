-- What elements gave since the last P0 element, at the two values from which a reader starts.
use Rattle.std.specs.Prelude.{true, false, None}
use Rattle.etm_types.specs.declared.element.Pre.{Pre}

abbrev pub nothing_told : Pre
nothing_told = record { flush = false; on = false; lost = false; ctx = None; addr = None }

-- nothing was given, and trace is missing
abbrev pub trace_missing : Pre
trace_missing = record { flush = false; on = false; lost = true; ctx = None; addr = None }
