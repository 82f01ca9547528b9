use Rattle.std.proofs.Common.{◌≡◌, refl, rules}
use Rattle.std.specs.Prelude.{◌↔◌, IsTrue}
use Rattle.packet_writer.proofs.Runs.{run_is, run_or_none}
use Rattle.packet_writer.proofs.atoms.tells.Goals as goal

pub returns-in-Some : goal.returns-in-Some
returns-in-Some c =
    let same : IsTrue c.eq.result ↔ (c.in-Some.found ≡ c.args.run.now) = search rules in
    run_is c.args.byte c.in-Some.found c.args.run.now c.eq.result same c.in-Some.ensures.within c.requires c.in-Some.ensures.run

pub returns-in-None : goal.returns-in-None
returns-in-None c = (λ t. absurd cc, λ tells. absurd (run_or_none c.args.byte c.args.run.now c.requires (c.in-None.ensures.none.0 refl) tells))
