use Rattle.retired_paths.proofs.RetiredSteps.{closed_stands}
use Rattle.retired_paths.proofs.retiring.Retiring.print_done.Goals as goal

pub returns-in-Overflowed-clause-path : goal.returns-in-Overflowed-clause-path
returns-in-Overflowed-clause-path g c steps at = rw (c.in-Overflowed.is, c.close.ensures) (closed_stands c.args.self.now.path)

pub returns-in-Stopped-clause-path : goal.returns-in-Stopped-clause-path
returns-in-Stopped-clause-path g c steps at = rw (c.in-Stopped.is, c.close-in-Stopped.ensures) (closed_stands c.args.self.now.path)
