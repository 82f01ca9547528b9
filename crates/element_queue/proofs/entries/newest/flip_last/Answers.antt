use Rattle.std.proofs.Common.{[], ◌∷◌, arith, ap, length, length-append}
use Rattle.element_queue.specs.Kept.{entries_in}
use Rattle.element_queue.proofs.EntryRuns.{last_flips, newest_entry, same_count}
use Rattle.element_queue.proofs.Flipped.{atom_of}
use Rattle.element_queue.proofs.entries.newest.flip_last.Goals as goal

pub flip-requires : goal.flip-requires
flip-requires c =
    let runs = c.args.runs.now.items in
    let newest = newest_entry runs c.pop_back.new.self.items c.in-Some.field-0 c.in-Some.ensures.order in
    atom_of (entries_in runs []) newest.0 c.in-Some.field-0.last newest.1 newest.2 c.requires.atom

pub put-requires : goal.put-requires
put-requires c =
    record {
      room = omega (
        arith,
        ap length c.in-Some.ensures.order,
        length-append c.pop_back.new.self.items (c.in-Some.field-0 ∷ []),
        c.len.ensures.len,
        c.len.ensures.bounded,
        c.in-Some.ensures.capacity,
      );
    }

pub returns-in-Some-clause-flipped : goal.returns-in-Some-clause-flipped
returns-in-Some-clause-flipped c =
    let runs = c.args.runs.now.items in let run = c.in-Some.field-0 in
    let newest = newest_entry runs c.pop_back.new.self.items run c.in-Some.ensures.order in
    let atom = atom_of (entries_in runs []) newest.0 run.last newest.1 newest.2 c.requires.atom in
    last_flips runs c.pop_back.new.self.items c.put.new.runs.items run c.flip.new.self atom.0 c.in-Some.ensures.order atom.1
    (c.flip.ensures atom.0 atom.1) c.put.ensures.items

pub returns-in-Some-clause-count : goal.returns-in-Some-clause-count
returns-in-Some-clause-count c =
    same_count c.args.runs.now.items c.pop_back.new.self.items c.put.new.runs.items c.in-Some.field-0 c.flip.new.self c.in-Some.ensures.order c.put.ensures.items
