use Rattle.etm_types.proofs.Tables.{all_alike, at_alike}
use Rattle.etm_types.proofs.settings_table.SettingsTable.new.Goals as goal

pub invariant_of-result : goal.invariant_of-result
invariant_of-result c = all_alike c.args.all c.depth.ensures.within

pub returns-clause-each : goal.returns-clause-each
returns-clause-each c = λ id is. at_alike c.args.all id is

pub returns-clause-table : goal.returns-clause-table
returns-clause-table c = all_alike c.args.all c.depth.ensures.within
