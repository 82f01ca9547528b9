use Rattle.std.proofs.Common.{nat_le, rules}
use Rattle.std.proofs.lemmas.List.Sorted.{IsPartitionPoint-from_clause}
use Rattle.program_image.proofs.lookup.begun_at.Goals as goal

pub returns-clause-value : goal.returns-clause-value
returns-clause-value c =
    IsPartitionPoint-from_clause (λ part. nat_le part.start c.args.addr) c.args.parts.now c.partition_point.result c.partition_point.ensures.partitioned
    c.requires (λ a r f called. search rules)
