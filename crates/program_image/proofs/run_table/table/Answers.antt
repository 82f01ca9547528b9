use Rattle.std.proofs.Common.{◌+◌, ◌%◌, ◌^◌, ◌≤◌, ◌∙◌, length, ap}
use Rattle.std.specs.Prelude.{◌==◌}
use Rattle.program_image.specs.Part.{end_of}
use Rattle.program_image.specs.Runs.{first_run, runs_of}
use Rattle.program_image.proofs.Tables.{next_fits, part_tabled}
use Rattle.program_image.proofs.run_table.table.Goals as goal

pub of_bytes-requires-clause-fits : goal.of_bytes-requires-clause-fits
of_bytes-requires-clause-fits c =
    let part = c.in-Some.part.now in
    let fits =
    next_fits c.args.parts.now c.loop-part.rest.now c.in-Some.before.now part c.loop-part.table.items c.loop-part.start c.loop-part.run c.run_after-next.result
    (end_of part % 2 ^ 64 == c.loop-part.start) c.loop-part.invariant c.in-Some.ensures.cases.0 c.run_after-next.ensures in
    rw c.bytes.ensures fits

pub loop-part-preserved : goal.loop-part-preserved
loop-part-preserved c =
    let part = c.in-Some.part.now in
    let next = c.run_after-next.result in
    let runs = c.in_ok-runs.ensures.value ∙ ap (λ bytes. runs_of bytes next) c.bytes.ensures in
    let more : (first_run c.in_ok-runs.runs next).plain ≤ next.plain + length part.bytes = rw c.bytes.ensures at c.in_ok-runs.ensures.small in
    part_tabled c.args.parts.now c.loop-part.rest.now c.in-Some.before.now part c.loop-part.table.items c.push.new.self.items c.in_ok-runs.runs
    c.loop-part.start c.loop-part.run next
    c.start-start.result c.first-run.result c.requires c.loop-part.invariant c.in-Some.ensures.cases.0 c.run_after-next.ensures runs c.first-run.ensures more
    c.in_ok-push.ensures.items c.start-start.ensures
