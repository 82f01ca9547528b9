use Rattle.run_file.proofs.WrittenOut.{accepted, one_line, refused, refused_behind}
use Rattle.run_file.proofs.laws.repeated_lines_are_written_out.Goals as goal

pub returns-clause-events : goal.returns-clause-events
returns-clause-events c = one_line

pub returns-clause-refused : goal.returns-clause-refused
returns-clause-refused c = refused

pub returns-clause-accepted : goal.returns-clause-accepted
returns-clause-accepted c = accepted

pub returns-clause-refused_behind : goal.returns-clause-refused_behind
returns-clause-refused_behind c = refused_behind
