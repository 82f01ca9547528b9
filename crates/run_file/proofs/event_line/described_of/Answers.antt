use Rattle.std.proofs.Common.{◌≡◌, rules}
use Rattle.std.specs.Prelude.{codes}
use Rattle.std.proofs.lemmas.Slice.Eq.{HasBytesAt, text_from_reads}
use Rattle.run_file.proofs.event_line.described_of.Goals as goal

pub returns-in-retire : goal.returns-in-retire
returns-in-retire c =
    let same : HasBytesAt c.args.word.now 0 (codes "retire") = search rules in
    let word : c.args.word.now ≡ codes "retire" = text_from_reads _ (codes "retire") (search rules) same in
    rw word c.retire.ensures

pub returns-in-cancel : goal.returns-in-cancel
returns-in-cancel c =
    let same : HasBytesAt c.args.word.now 0 (codes "cancel") = search rules in
    let word : c.args.word.now ≡ codes "cancel" = text_from_reads _ (codes "cancel") (search rules) same in
    rw word c.cancel.ensures

pub returns-in-context : goal.returns-in-context
returns-in-context c =
    let same : HasBytesAt c.args.word.now 0 (codes "context") = search rules in
    let word : c.args.word.now ≡ codes "context" = text_from_reads _ (codes "context") (search rules) same in
    rw word c.context.ensures
