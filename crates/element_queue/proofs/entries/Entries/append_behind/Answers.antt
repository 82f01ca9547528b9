use Rattle.std.proofs.Common.{◌≡◌, ◌-◌, ◌/◌, [], ◌∷◌, ◌++◌, Bool, List, ap, append_assoc, arith, length, length-append, map, sym, ◌∙◌}
use Rattle.std.proofs.lemmas.List.{length-map}
use Rattle.etm_types.specs.Atoms.{atoms_in, low_bits}
use Rattle.etm_types.specs.declared.element.Entry.{Entry}
use Rattle.element_queue.specs.Kept.{Kept, entries_in}
use Rattle.element_queue.specs.Queued.{plain_entry}
use Rattle.element_queue.proofs.EntryRuns.{few_runs, more_plain, same_kept}
use Rattle.element_queue.proofs.LowBits.{low_bits-first, low_bits-length}
use Rattle.element_queue.proofs.entries.Entries.append_behind.Goals as goal

pub put_behind-requires : goal.put_behind-requires
put_behind-requires c =
    let q = c.self.inside in let items = ap (λ (k : Kept). length k.items) c.self.view_is in let most = ap (λ (k : Kept). k.capacity) c.self.view_is in
    record { room = omega (arith, few_runs q.runs.items q.plain, items, most, c.requires.some, c.requires.room) }

-- the entries with those of the run behind them
more : (c : goal.After-self-1) → entries_in c.put_behind.new.runs.items c.push_run.new.self
    ≡ entries_in c.self.inside.runs.items c.self.inside.plain ++ map plain_entry (atoms_in c.args.atoms.now)
more c =
    let q = c.self.inside in let run = c.args.atoms.now in let all = entries_in q.runs.items q.plain in
    let others = low_bits (run.count - 1) (run.bits / 2) in
    ap (λ (l : List Bool). entries_in c.put_behind.new.runs.items l) c.push_run.ensures
    ∙ more_plain c.put_behind.new.runs.items c.put_behind.new.plain others
    ∙ ap (λ (l : List Entry). l ++ map plain_entry others) c.put_behind.ensures.entries
    ∙ append_assoc all (c.from_atom-first.result ∷ []) (map plain_entry others)
    ∙ ap (λ (e : Entry). all ++ e ∷ map plain_entry others) c.from_atom-first.ensures
    ∙ ap (λ (l : List Bool). all ++ map plain_entry l) (sym (low_bits-first run.count run.bits c.requires.some))

pub invariant_of-self : goal.invariant_of-self
invariant_of-self c =
    let q = c.self.inside in let i = c.self.invariant in let run = c.args.atoms.now in
    let size = ap length (more c) in let joined = length-append (entries_in q.runs.items q.plain) (map plain_entry (atoms_in run)) in
    let count = length-map (atoms_in run) plain_entry in let bits = low_bits-length run.count run.bits in
    let items = ap (λ (k : Kept). length k.items) c.self.view_is in let most = ap (λ (k : Kept). k.capacity) c.self.view_is in (
      omega (arith, size, joined, count, bits, i.0, c.from.ensures),
      omega (arith, i.0, items, most, c.requires.room, c.from.ensures, c.put_behind.ensures.capacity),
      omega (arith, i.2, c.put_behind.ensures.capacity),
    )

pub returns : goal.returns
returns c =
    same_kept _ _ _ _ (more c ∙ ap (λ (k : Kept). k.items ++ map plain_entry (atoms_in c.args.atoms.now)) c.self.view_is)
    (c.put_behind.ensures.capacity ∙ ap (λ (k : Kept). k.capacity) c.self.view_is)
