use Rattle.std.proofs.Common.{nat_le, rules}
use Rattle.std.proofs.lemmas.List.Sorted.{IsPartitionPoint-from_clause}
use Rattle.program_image.proofs.places.begun_at.Goals as goal

pub returns-clause-value : goal.returns-clause-value
returns-clause-value c =
    IsPartitionPoint-from_clause (λ words. nat_le words c.args.place) c.args.before.now c.partition_point.result c.partition_point.ensures.partitioned
    c.requires (λ a r f called. search rules)
