use Rattle.std.proofs.Common.{◌≡◌, ◌%◌, rules, ap, ◌∙◌}
use Rattle.a64_branches.specs.Offsets.{target}
use Rattle.a64_branches.proofs.Whole.{aligned_target}
use Rattle.a64_branches.proofs.offset.target.Goals as goal

pub returns-clause-aligned : goal.returns-clause-aligned
returns-clause-aligned c =
    let value : c.wrapping_add_signed.result ≡ target c.args.addr c.args.off = search rules in
    λ aligned whole. ap (λ n. n % 4) value ∙ aligned_target c.args.addr c.args.off aligned whole
