use Rattle.std.proofs.Common.{◌+◌, ◌++◌, ◌∙◌, [], refl, sym, ap, arith, append_assoc, drop}
use Rattle.std.proofs.lemmas.Result.{err_from_is_err_and}
use Rattle.path_text.proofs.Wrote.{wrote_nothing, wrote_by, wrote_more, fails_after}
use Rattle.path_counts.specs.CountLines.{mark_key, marks_text, number_line}
use Rattle.path_counts.proofs.TextSteps.{marks_next}
use Rattle.path_counts.proofs.count_lines.write_marks.Goals as goal

pub loop-number-init : goal.loop-number-init
loop-number-init g c = record { within = omega arith; so_far = ([], wrote_nothing _, refl) }

pub returns-in_err-write_mark : goal.returns-in_err-write_mark
returns-in_err-write_mark g c =
    let p = err_from_is_err_and c.from_residual.result c.from_residual.ensures.1 in
    let i = c.loop-number.invariant in
    let marks = c.args.marks.now in
    let number = c.loop-number.number in
    let next = marks_next marks number (omega (arith, c.loop-number-test.true, c.len.ensures)) in
    let shown = ap (λ n. number_line (mark_key number) n ++ marks_text (number + 1) (drop (number + 1) marks)) c.at.ensures in
    rw p.1 (fails_after _ _ _ c.in_err-write_mark.field-0.0 p.0 i.so_far.0 _ _ _ (ap (λ t. i.so_far.0 ++ t) (shown ∙ sym next) ∙ i.so_far.2) i.so_far.1
    c.in_err-write_mark.ensures)

pub loop-number-preserved : goal.loop-number-preserved
loop-number-preserved g c =
    let i = c.loop-number.invariant in
    let marks = c.args.marks.now in
    let number = c.loop-number.number in
    let short = c.loop-number-test.true in
    let next = marks_next marks number (omega (arith, short, c.len.ensures)) in
    let rest = marks_text (number + 1) (drop (number + 1) marks) in
    let shown = ap (λ n. number_line (mark_key number) n ++ rest) c.at.ensures in
    record {
      within = omega (arith, short, c.len.ensures);
      so_far = (
        i.so_far.0 ++ number_line (mark_key number) c.at.result,
        wrote_more _ _ _ _ _ i.so_far.1 (wrote_by _ _ _ _ c.in_ok-write_mark.ensures),
        append_assoc i.so_far.0 (number_line (mark_key number) c.at.result) rest ∙ ap (λ t. i.so_far.0 ++ t) (shown ∙ sym next) ∙ i.so_far.2,
      );
    }
