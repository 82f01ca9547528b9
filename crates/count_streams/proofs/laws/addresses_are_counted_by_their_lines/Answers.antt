use Rattle.count_streams.proofs.LinesOfExceptions.{exceptions_are_lines}
use Rattle.count_streams.proofs.LinesOfItems.{addresses_are_lines, marks_are_lines}
use Rattle.count_streams.proofs.laws.addresses_are_counted_by_their_lines.Goals as goal

pub returns-clause-addresses : goal.returns-clause-addresses
returns-clause-addresses c = addresses_are_lines

pub returns-clause-marks : goal.returns-clause-marks
returns-clause-marks c = marks_are_lines

pub returns-clause-exceptions : goal.returns-clause-exceptions
returns-clause-exceptions c = exceptions_are_lines
