use Rattle.std.proofs.Common.{◌≡◌, ◌∙◌, ◌++◌, ◌∷◌, [], ap, subst}
use Rattle.a64_branches.specs.Classes.{class_of}
use Rattle.program_image.specs.Runs.{run_from}
use Rattle.program_image.specs.declared.run.PlainRun.{PlainRun}
use Rattle.program_image.proofs.Tables.{word_counted}
use Rattle.program_image.proofs.run_table.Runs.of_bytes.Goals as goal

pub loop-before-preserved : goal.loop-before-preserved
loop-before-preserved c =
    let run = c.run_from-run.ensures.value ∙ ap (λ word. run_from (class_of word) c.loop-before.run) c.read_u32.ensures in
    let pushed = subst (λ (r : PlainRun). c.push.new.self.items ≡ c.loop-before.of_words.items ++ r ∷ []) c.new.ensures c.in_ok-push.ensures.items in
    word_counted c.args.bytes.now c.loop-before.rest.now c.in-Some.before.now c.in-Some.word.now c.loop-before.of_words.items c.push.new.self.items
    c.args.next c.loop-before.run c.run_from-run.result
    c.in-Some.ensures.cases run c.run_from-run.ensures.small pushed c.loop-before.invariant
