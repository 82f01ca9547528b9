use Rattle.std.proofs.Common.{◌≡◌, rules}
use Rattle.std.specs.Prelude.{codes}
use Rattle.std.proofs.lemmas.Slice.Eq.{HasBytesAt, text_from_reads}
use Rattle.run_file.proofs.event_line.bare_of.Goals as goal

pub returns-in-overflow : goal.returns-in-overflow
returns-in-overflow c =
    let same : HasBytesAt c.args.word.now 0 (codes "overflow") = search rules in
    let word : c.args.word.now ≡ codes "overflow" = text_from_reads _ (codes "overflow") (search rules) same in
    rw word
