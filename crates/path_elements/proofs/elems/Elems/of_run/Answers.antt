use Rattle.std.proofs.Common.{[], arith}
use Rattle.std.proofs.lemmas.List.{append-nil}
use Rattle.etm_types.specs.Atoms.{atoms_in}
use Rattle.path_elements.specs.Elements.{atoms}
use Rattle.path_elements.proofs.AtomElems.{count_all, atoms_are_elements}
use Rattle.path_elements.proofs.elems.Elems.of_run.Goals as goal

pub invariant_of-result : goal.invariant_of-result
invariant_of-result c =
    let run = c.args.run.now in
    record {
      most = omega (arith, count_all run.count run.bits [], c.requires);
      each = rw (append-nil (atoms (atoms_in run))) (atoms_are_elements (atoms_in run));
    }
