use Rattle.std.proofs.Common.{◌≡◌, ◌∷◌, ◌++◌, [], Bool, List, Some, map, slice_get, ap, sym, ◌∙◌}
use Rattle.etm_types.specs.declared.element.Entry.{Entry}
use Rattle.element_queue.specs.Queued.{entry_of, plain_entry}
use Rattle.element_queue.proofs.EntryRuns.{none_at}
use Rattle.element_queue.proofs.entries.AtomsAndEntry.oldest_atom.Goals as goal

same_entry : (x y : Entry) → Some x ≡ Some y → x ≡ y
same_entry x y e = cc

pub returns-in-None-clause-some : goal.returns-in-None-clause-some
returns-in-None-clause-some c atom plain is =
    let run = c.args.self.now in
    let none : run.plain ≡ [] = none_at run.plain (sym c.get.ensures ∙ c.in-None.is) in
    let first : Some run.last ≡ Some (entry_of atom) =
    sym (ap (λ (l : List Bool). slice_get (map plain_entry l ++ run.last ∷ map plain_entry plain) 0) none) ∙ is in
    c.atom.ensures.some atom (c.packed.ensures ∙ same_entry run.last (entry_of atom) first)
