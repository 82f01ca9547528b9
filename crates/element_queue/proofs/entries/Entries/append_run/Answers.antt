use Rattle.std.proofs.Common.{◌≡◌, ◌++◌, ap, arith, length, length-append, map, ◌∙◌}
use Rattle.std.proofs.lemmas.List.{length-map}
use Rattle.etm_types.specs.Atoms.{atoms_in}
use Rattle.element_queue.specs.Kept.{Kept, entries_in}
use Rattle.element_queue.specs.Queued.{plain_entry}
use Rattle.element_queue.proofs.EntryRuns.{more_plain, same_kept}
use Rattle.element_queue.proofs.LowBits.{low_bits-length}
use Rattle.element_queue.proofs.entries.Entries.append_run.Goals as goal

-- the entries with those of the run behind them
more : (c : goal.After-self-1) → entries_in c.self.inside.runs.items c.push_run.new.self
    ≡ entries_in c.self.inside.runs.items c.self.inside.plain ++ map plain_entry (atoms_in c.args.atoms.now)
more c =
    let q = c.self.inside in
    ap (entries_in q.runs.items) c.push_run.ensures ∙ more_plain q.runs.items q.plain (atoms_in c.args.atoms.now)

pub invariant_of-self : goal.invariant_of-self
invariant_of-self c =
    let q = c.self.inside in let i = c.self.invariant in let run = c.args.atoms.now in
    let size = ap length (more c) in let joined = length-append (entries_in q.runs.items q.plain) (map plain_entry (atoms_in run)) in
    let count = length-map (atoms_in run) plain_entry in let bits = low_bits-length run.count run.bits in
    let items = ap (λ (k : Kept). length k.items) c.self.view_is in let most = ap (λ (k : Kept). k.capacity) c.self.view_is in (
      omega (arith, size, joined, count, bits, i.0, c.from-count.ensures),
      omega (arith, i.0, items, most, c.requires.room, c.from-count.ensures),
      i.2,
    )

pub returns : goal.returns
returns c =
    same_kept _ _ _ _ (more c ∙ ap (λ (k : Kept). k.items ++ map plain_entry (atoms_in c.args.atoms.now)) c.self.view_is)
    (ap (λ (k : Kept). k.capacity) c.self.view_is)
