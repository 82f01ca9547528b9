use Rattle.std.proofs.Common.{◌+◌, ◌-◌, ◌*◌, ◌/◌, ◌%◌, ◌<◌, ◌≤◌, refl, sym, ap, ◌∙◌, arith}
use Rattle.path_text.specs.Near.{AreNear, IsNearLine}
use Rattle.path_text.proofs.AddressLines.{long_address}
use Rattle.path_text.proofs.path_lines.write_lines_of.Goals as goal

pub write_near_lines-requires : goal.write_near_lines-requires
write_near_lines-requires g c =
    let first = c.args.first.now in
    let same = c.address.ensures in
    let four = long_address first.id first.address (omega (arith, c.requires.len, c.requires.sizes)) in
    let over : 65536 ≤ first.address % 65536 + 4 * (c.args.count - 1) → ⊥ = λ more. omega (arith, more, (c.requires.near (omega (arith, more))).1) in
    let within : first.address % 65536 + 4 * (c.args.count - 1) < 65536 = omega (arith, over) in
    let near : AreNear first.address c.address.result c.args.count = ((four, omega (arith, four, same), ap (λ n. n / 65536) (sym same)), omega (arith, within, same)) in
    let line : IsNearLine first c.copy_from_slice.new.self = (first.address, (four, four, refl), c.copy_from_slice.ensures.after ∙ c.bytes.ensures.line) in
    (omega (arith, c.requires.sizes), (near, (line, omega (arith, c.requires.sizes))))
