use Rattle.std.proofs.Common.{inl, sym}
use Rattle.std.proofs.lemmas.Result.{err_from_is_err_and}
use Rattle.retired_paths.proofs.RetiredStreams.{bad_bench, refuses_so, retired_so}
use Rattle.retired_paths.specs.Retired.{retired_text}
use Rattle.run_file.specs.declared.fault.BenchWhy.TheVariants.{Run}
use Rattle.retired_paths.proofs.retired.retire_input.Goals as goal

pub returns-in-Some-clause-answer : goal.returns-in-Some-clause-answer
returns-in-Some-clause-answer g c =
    let image = c.args.image.now in
    let bench = c.in-Ok.bench in
    refuses_so _ image _ _ _ _ c.in-Some.line (Run c.in-Some.fault) c.refuse-in-Some.result
    (bad_bench image (g.J.Source.state c.args.input.now) (g.J.Source.state c.read_bench.new.input) bench c.in-Some.line (Run c.in-Some.fault)
    c.in-Ok.ensures.ok (sym c.in-Some.ensures))
    c.refuse-in-Some.ensures.written c.refuse-in-Some.ensures.status

pub returns-in_err-print_retired-clause-answer : goal.returns-in_err-print_retired-clause-answer
returns-in_err-print_retired-clause-answer g c =
    let image = c.args.image.now in
    let bench = c.in-Ok.bench in
    let accepted = sym c.in_default-first_refusal.ensures in
    let p = err_from_is_err_and c.from_residual.result c.from_residual.ensures.1 in
    rw p.1 (inl (
      retired_text image bench,
      retired_so image (g.J.Source.state c.args.input.now) (g.J.Source.state c.read_bench.new.input) bench c.in-Ok.ensures.ok accepted,
      c.in_err-print_retired.ensures.front,
    ))

pub returns-clause-answer : goal.returns-clause-answer
returns-clause-answer g c =
    let image = c.args.image.now in
    let bench = c.in-Ok.bench in
    let accepted = sym c.in_default-first_refusal.ensures in (
      retired_text image bench,
      retired_so image (g.J.Source.state c.args.input.now) (g.J.Source.state c.read_bench.new.input) bench c.in-Ok.ensures.ok accepted,
      c.in_ok-print_retired.ensures.whole,
    )
