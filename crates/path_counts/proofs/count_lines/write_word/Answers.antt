use Rattle.std.proofs.Common.{refl, append_assoc}
use Rattle.std.proofs.lemmas.Result.{err_from_is_err_and}
use Rattle.path_text.proofs.Wrote.{wrote_by, wrote_more, then_writes, fails_after, fails_first}
use Rattle.path_counts.specs.CountLines.{at_key, from_entries, number_line, taken_key, to_lines}
use Rattle.path_counts.proofs.count_lines.write_word.Goals as goal

pub returns-in_err-write_address-clause-text : goal.returns-in_err-write_address-clause-text
returns-in_err-write_address-clause-text g c =
    let p = err_from_is_err_and c.from_residual.result c.from_residual.ensures.1 in
    rw p.1 (fails_first _ _ c.in_err-write_address.field-0.0 p.0 _ _ _ refl c.in_err-write_address.ensures)

pub returns-in_err-write_address-2-clause-text : goal.returns-in_err-write_address-2-clause-text
returns-in_err-write_address-2-clause-text g c =
    let p = err_from_is_err_and c.from_residual-in_err-write_address-2.result c.from_residual-in_err-write_address-2.ensures.1 in
    rw p.1 (fails_after _ _ _ c.in_err-write_address-2.field-0.0 p.0 _ _ (to_lines (from_entries c.args.addr c.args.entries.now)) _ refl
    (wrote_by _ _ _ _ c.in_ok-write_address.ensures) c.in_err-write_address-2.ensures)

pub returns-clause-text : goal.returns-clause-text
returns-clause-text g c =
    let at = number_line (at_key c.args.addr) c.args.visits in
    let taken = number_line (taken_key c.args.addr) c.args.taken in
    then_writes _ _ _ c.write_targets.result _ _ _ (append_assoc at taken (to_lines (from_entries c.args.addr c.args.entries.now)))
    (wrote_more _ _ _ at taken (wrote_by _ _ _ _ c.in_ok-write_address.ensures) (wrote_by _ _ _ _ c.in_ok-write_address-2.ensures))
    c.write_targets.ensures.text
