use Rattle.std.proofs.Common.{arith, subst, sym}
use Rattle.etm_types.specs.Settings.{FitsSettings}
use Rattle.trace_unit.proofs.OrderSpelled.{nothing_is_shared}
use Rattle.unit_speed.proofs.rounds.begin.Goals as goal

pub accept-requires : goal.accept-requires
accept-requires c =
    let s = c.args.unit.now.settings in
    (omega arith, subst (FitsSettings s) (sym c.initial.ensures) (nothing_is_shared s).context)
