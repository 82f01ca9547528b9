use Rattle.run_file.proofs.Entries.{stack_within}
use Rattle.run_file.proofs.bench.Bench.stack_of.Goals as goal

pub returns-clause-within : goal.returns-clause-within
returns-clause-within c = stack_within c.self.inside.streams.streams c.args.s _ c.stack_at.ensures c.self.invariant.streams
