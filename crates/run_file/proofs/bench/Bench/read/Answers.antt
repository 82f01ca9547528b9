use Rattle.std.proofs.Common.{◌∙◌, Ok, Option, ap}
use Rattle.std.specs.Str.Lines.{lines}
use Rattle.run_file.specs.Kept.{TextDraft, drafts_in}
use Rattle.run_file.proofs.Benches.{text_good}
use Rattle.run_file.proofs.bench.Bench.read.Goals as goal

pub into_bench-requires : goal.into_bench-requires
into_bench-requires c =
    text_good (lines c.args.text.now) c.in-Some.draft.draft (c.in_ok-draft.ensures ∙ ap (λ (o : Option TextDraft). Ok (drafts_in o)) c.in-Some.is)
