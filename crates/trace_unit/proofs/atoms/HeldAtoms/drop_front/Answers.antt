use Rattle.std.proofs.Common.{◌≡◌, ◌-◌, ◌≤◌, length, take, drop, sym, ap, ◌∙◌, arith}
use Rattle.std.proofs.lemmas.List.{length-take-le}
use Rattle.trace_unit.proofs.AtomsHeld.{moved}
use Rattle.trace_unit.proofs.atoms.HeldAtoms.drop_front.Goals as goal

pub returns : goal.returns
returns c =
    let within : c.self.inside.count ≤ length c.self.inside.atoms = omega (arith, c.self.invariant, c.self.told) in
    let size : length c.args.self.now ≡ c.self.inside.count =
    ap length (sym c.self.view_is) ∙ length-take-le c.self.inside.count c.self.inside.atoms within in
    ap (take (c.self.inside.count - c.args.n)) c.copy_within.ensures.after
    ∙ moved c.self.inside.atoms c.args.n c.self.inside.count (omega (arith, size, c.requires)) within ∙ ap (drop c.args.n) c.self.view_is
