use Rattle.std.proofs.Common.{ap, ◌∙◌}
use Rattle.spend_ring.proofs.Laid.{all_empty}
use Rattle.spend_ring.proofs.ring.SpendRing.close.Goals as goal

pub give_back-requires : goal.give_back-requires
give_back-requires g c =
    let r = c.self.inside in let was = c.self.invariant in let none = ap (λ v. v.items) c.self.view_is ∙ c.requires.empty in
    record { block = was.0; empty = all_empty r.start r.count r.capacity r.cells.held was.1 none }
