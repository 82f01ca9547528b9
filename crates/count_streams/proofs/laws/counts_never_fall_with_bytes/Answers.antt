use Rattle.count_streams.proofs.MoreBytes.{added_items_stay, counts_never_fall}
use Rattle.count_streams.proofs.laws.counts_never_fall_with_bytes.Goals as goal

pub returns-clause-stay : goal.returns-clause-stay
returns-clause-stay c = added_items_stay

pub returns-clause-never : goal.returns-clause-never
returns-clause-never c = counts_never_fall
