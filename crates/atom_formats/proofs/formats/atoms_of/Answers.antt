use Rattle.std.proofs.Common.{arith}
use Rattle.atom_formats.proofs.Table.{row_told, run_told}
use Rattle.atom_formats.proofs.formats.atoms_of.Goals as goal

pub returns-clause-run : goal.returns-clause-run
returns-clause-run c =
    rw (c.from.ensures, c.in_ok-row.ensures.1) (run_told c.args.byte _ _ (row_told c.args.byte c.in_ok-row.ensures.0 (omega arith))).0

pub returns-clause-within : goal.returns-clause-within
returns-clause-within c =
    rw (c.from.ensures, c.in_ok-row.ensures.1) (run_told c.args.byte _ _ (row_told c.args.byte c.in_ok-row.ensures.0 (omega arith))).1
