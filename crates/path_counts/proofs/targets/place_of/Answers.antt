use Rattle.std.proofs.Common.{rules}
use Rattle.std.proofs.lemmas.List.Sorted.{IsPartitionPoint-from_clause}
use Rattle.path_counts.specs.Targets.{pair_lt, pair_of}
use Rattle.path_counts.proofs.targets.place_of.Goals as goal

pub returns-clause-value : goal.returns-clause-value
returns-clause-value c =
    IsPartitionPoint-from_clause (λ e. pair_lt (pair_of e) (c.args.from, c.args.to)) c.args.entries.now c.partition_point.result
    c.partition_point.ensures.partitioned c.requires (λ a r f called. search rules)
