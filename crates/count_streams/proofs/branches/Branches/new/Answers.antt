use Rattle.std.proofs.Common.{None, arith}
use Rattle.std.proofs.lemmas.List.{get_or-replicate}
use Rattle.count_streams.proofs.branches.Branches.new.Goals as goal

pub returns : goal.returns
returns c image =
    record { targets = c.in_ok-new.ensures; left = λ id within. get_or-replicate 112 id None None (omega (arith, within.1)) }
