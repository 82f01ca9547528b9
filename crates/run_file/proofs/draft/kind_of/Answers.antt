use Rattle.std.proofs.Common.{◌≡◌, rules}
use Rattle.std.specs.Prelude.{codes}
use Rattle.std.proofs.lemmas.Slice.Eq.{HasBytesAt, text_from_reads}
use Rattle.run_file.proofs.draft.kind_of.Goals as goal

pub returns-in-stream : goal.returns-in-stream
returns-in-stream c =
    let same : HasBytesAt c.args.word.now 0 (codes "stream") = search rules in
    let word : c.args.word.now ≡ codes "stream" = text_from_reads _ (codes "stream") (search rules) same in
    rw word
