use Rattle.std.proofs.Common.{◌-◌, ◌<◌, length, ap, ◌∙◌, arith}
use Rattle.trace_unit.proofs.AtomsHeld.{turned}
use Rattle.trace_unit.specs.Whole.{turn_last}
use Rattle.trace_unit.proofs.atoms.HeldAtoms.turn_newest.Goals as goal

pub returns-then-self-gt0 : goal.returns-then-self-gt0
returns-then-self-gt0 c =
    let newest : c.self.inside.count - 1 < length c.self.inside.atoms = omega (arith, c.self.invariant, c.self.told, c.if-self-gt0.true) in
    turned c.self.inside.count c.self.inside.atoms c.if-self-gt0.true newest ∙ ap turn_last c.self.view_is
