use Rattle.std.proofs.Common.{◌≡◌, true, rules, subst, sym}
use Rattle.run_file.specs.GivenSettings.{IsGiven, are_allowed}
use Rattle.run_file.proofs.Settled.{own_settled}
use Rattle.run_file.proofs.draft.Draft.take_stream.Goals as goal

pub settings-requires : goal.settings-requires
settings-requires c =
    let allowed : are_allowed c.self.inside.version c.in_ok-new.new.own ≡ true = search rules in
    subst IsGiven (sym c.or-all.ensures) (own_settled c.self.inside.version c.in_ok-new.new.own c.self.inside.given allowed c.self.invariant)

pub stack-requires : goal.stack-requires
stack-requires c =
    let allowed : are_allowed c.self.inside.version c.in_ok-new.new.own ≡ true = search rules in
    subst IsGiven (sym c.or-all.ensures) (own_settled c.self.inside.version c.in_ok-new.new.own c.self.inside.given allowed c.self.invariant)
