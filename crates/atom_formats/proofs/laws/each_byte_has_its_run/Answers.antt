use Rattle.atom_formats.proofs.Rows.{each_byte_tells, no_other_tells, one_byte_a_run, one_run_a_byte, runs_are_short}
use Rattle.atom_formats.proofs.laws.each_byte_has_its_run.Goals as goal

pub returns-clause-told : goal.returns-clause-told
returns-clause-told c = each_byte_tells

pub returns-clause-no_other : goal.returns-clause-no_other
returns-clause-no_other c = no_other_tells

pub returns-clause-one_run : goal.returns-clause-one_run
returns-clause-one_run c = one_run_a_byte

pub returns-clause-one_byte : goal.returns-clause-one_byte
returns-clause-one_byte c = one_byte_a_run

pub returns-clause-short : goal.returns-clause-short
returns-clause-short c = runs_are_short
