use Rattle.std.proofs.Common.{◌++◌, length, sym, ap, subst, ◌∙◌}
use Rattle.trace_unit.proofs.WaitingOut.{spills, spills_packets}
use Rattle.trace_unit.specs.Room.{RoomForBytes}
use Rattle.trace_unit.specs.Whole.{PutOff, with_atom}
use Rattle.trace_unit.specs.Written.{spelled}
use Rattle.trace_unit.proofs.put_off.PutOff.branch.Goals as goal

pub spill-requires-clause-room : goal.spill-requires-clause-room
spill-requires-clause-room c =
    let depth = c.args.settings.now.depth in
    let inside = c.self.inside in
    let before : PutOff = record { atoms = inside.atoms; cancels = inside.cancels; commits = inside.commits; held = inside.held } in
    let pushed : PutOff = with_atom depth before c.args.taken in
    let same = c.retire_at_once.ensures ∙ ap (λ l. record pushed { atoms = l }) c.push.ensures
    ∙ ap (λ (w : PutOff). with_atom depth w c.args.taken) c.self.view_is in
    let size = c.len.ensures.value ∙ ap (λ (w : PutOff). length w.atoms) c.self-2.view_is in
    subst (λ packets. RoomForBytes c.args.bytes.now (spelled c.args.settings.now packets))
    (sym (spills_packets c.len.result (with_atom depth c.args.self.now c.args.taken) c.retire_at_once.new.self same size c.if-len-eq-MOST_HELD.true))
    c.requires.room

pub returns-then-len-eq-MOST_HELD-clause-waiting : goal.returns-then-len-eq-MOST_HELD-clause-waiting
returns-then-len-eq-MOST_HELD-clause-waiting c =
    let depth = c.args.settings.now.depth in
    let inside = c.self.inside in
    let before : PutOff = record { atoms = inside.atoms; cancels = inside.cancels; commits = inside.commits; held = inside.held } in
    let pushed : PutOff = with_atom depth before c.args.taken in
    let same = c.retire_at_once.ensures ∙ ap (λ l. record pushed { atoms = l }) c.push.ensures
    ∙ ap (λ (w : PutOff). with_atom depth w c.args.taken) c.self.view_is in
    let size = c.len.ensures.value ∙ ap (λ (w : PutOff). length w.atoms) c.self-2.view_is in
    c.spill.ensures.waiting
    ∙ spills depth c.len.result (with_atom depth c.args.self.now c.args.taken) c.retire_at_once.new.self same size c.if-len-eq-MOST_HELD.true

pub returns-then-len-eq-MOST_HELD-clause-bytes : goal.returns-then-len-eq-MOST_HELD-clause-bytes
returns-then-len-eq-MOST_HELD-clause-bytes c =
    let depth = c.args.settings.now.depth in
    let inside = c.self.inside in
    let before : PutOff = record { atoms = inside.atoms; cancels = inside.cancels; commits = inside.commits; held = inside.held } in
    let pushed : PutOff = with_atom depth before c.args.taken in
    let same = c.retire_at_once.ensures ∙ ap (λ l. record pushed { atoms = l }) c.push.ensures
    ∙ ap (λ (w : PutOff). with_atom depth w c.args.taken) c.self.view_is in
    let size = c.len.ensures.value ∙ ap (λ (w : PutOff). length w.atoms) c.self-2.view_is in
    c.spill.ensures.bytes
    ∙ ap (λ packets. c.args.bytes.now.items ++ spelled c.args.settings.now packets)
    (spills_packets c.len.result (with_atom depth c.args.self.now c.args.taken) c.retire_at_once.new.self same size c.if-len-eq-MOST_HELD.true)
