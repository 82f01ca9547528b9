use Rattle.std.proofs.Common.{◌+◌, subst}
use Rattle.program_image.specs.Near.{HasRunAt, Near}
use Rattle.program_image.proofs.NearParts.{found, word_at}
use Rattle.program_image.proofs.near_part.NearPart.run_at.Goals as goal

pub returns : goal.returns
returns c =
    let near = c.self.inside in let run = c.in_ok-run.run' in
    subst (λ (n : Near). HasRunAt n c.args.addr (record { place = near.first + word_at near.start c.args.addr; part = near.part; run = run })) c.self.view_is
    (found _ c.args.addr run c.self.invariant c.requires c.ranges.addr.fits c.in_ok-run.ensures)
