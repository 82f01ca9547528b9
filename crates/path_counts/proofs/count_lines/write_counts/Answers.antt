use Rattle.std.proofs.Common.{◌++◌, ◌∙◌, List, ap, append_assoc}
use Rattle.std.proofs.lemmas.Result.{err_from_is_err_and}
use Rattle.program_image.specs.Places.{word_addresses}
use Rattle.path_text.proofs.Wrote.{wrote_by, wrote_more, then_writes, fails_after, fails_first}
use Rattle.path_counts.specs.declared.targets.Target.{Target}
use Rattle.path_counts.specs.CountLines.{marks_text, more_line, words_text}
use Rattle.path_counts.proofs.count_lines.write_counts.Goals as goal

pub returns-in_err-write_words : goal.returns-in_err-write_words
returns-in_err-write_words g c =
    let p = err_from_is_err_and c.from_residual.result c.from_residual.ensures.1 in
    let left = more_line c.args.targets.now.more ++ marks_text 0 c.args.marks.now in
    let all = ap (λ (e : List Target). words_text (word_addresses c.args.image.now) c.args.visits.now c.args.taken.now e ++ left) c.entries.ensures.value in
    rw p.1 (fails_first _ _ c.in_err-write_words.field-0.0 p.0 _ left _ all c.in_err-write_words.ensures)

pub returns-in_err-write_more : goal.returns-in_err-write_more
returns-in_err-write_more g c =
    let p = err_from_is_err_and c.from_residual-in_err-write_more.result c.from_residual-in_err-write_more.ensures.1 in
    let marks = marks_text 0 c.args.marks.now in
    let left = more_line c.args.targets.now.more ++ marks in
    let words = words_text (word_addresses c.args.image.now) c.args.visits.now c.args.taken.now c.entries.result.now in
    let all = ap (λ n. words ++ (more_line n ++ marks)) c.more.ensures
    ∙ ap (λ (e : List Target). words_text (word_addresses c.args.image.now) c.args.visits.now c.args.taken.now e ++ left) c.entries.ensures.value in
    rw p.1 (fails_after _ _ _ c.in_err-write_more.field-0.0 p.0 words (more_line c.more.result) marks _ all
    (wrote_by _ _ _ _ c.in_ok-write_words.ensures) c.in_err-write_more.ensures)

pub returns : goal.returns
returns g c =
    let marks = marks_text 0 c.args.marks.now in
    let left = more_line c.args.targets.now.more ++ marks in
    let words = words_text (word_addresses c.args.image.now) c.args.visits.now c.args.taken.now c.entries.result.now in
    let more = more_line c.more.result in
    let all = append_assoc words more marks ∙ ap (λ n. words ++ (more_line n ++ marks)) c.more.ensures
    ∙ ap (λ (e : List Target). words_text (word_addresses c.args.image.now) c.args.visits.now c.args.taken.now e ++ left) c.entries.ensures.value in
    then_writes _ _ _ c.write_marks.result (words ++ more) marks _ all
    (wrote_more _ _ _ words more (wrote_by _ _ _ _ c.in_ok-write_words.ensures) (wrote_by _ _ _ _ c.in_ok-write_more.ensures)) c.write_marks.ensures
