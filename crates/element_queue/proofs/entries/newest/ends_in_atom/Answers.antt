use Rattle.std.proofs.Common.{◌-◌, [], arith, ap, refl, subst, sym, take, ◌∙◌}
use Rattle.std.specs.Prelude.{IsSome}
use Rattle.element_queue.specs.Kept.{entries_in}
use Rattle.element_queue.proofs.EntryRuns.{newest_entry}
use Rattle.element_queue.proofs.Flipped.{atom_flips, atom_of, newest_of}
use Rattle.element_queue.proofs.entries.newest.ends_in_atom.Goals as goal

pub returns-in-Some : goal.returns-in-Some
returns-in-Some c =
    let runs = c.args.runs.now.items in let run = c.in-Some.run'.now in let k = c.len-count.result - 1 in let seen = entries_in runs [] in
    let newest = newest_entry runs (take k runs) run (newest_of runs k run (sym c.in-Some.ensures.value) (omega arith)) in
    let p0 = ap (λ e. e.p0) c.packed.ensures in (
      λ h.
          let atom = c.is_atom.ensures.0 h in
          subst IsSome (sym (atom_flips 0 seen newest.0 run.last atom.0 newest.1 newest.2 (sym p0 ∙ atom.1))) refl,
      λ some.
          let atom = atom_of seen newest.0 run.last newest.1 newest.2 some in
          c.is_atom.ensures.1 (atom.0, p0 ∙ atom.1),
    )
