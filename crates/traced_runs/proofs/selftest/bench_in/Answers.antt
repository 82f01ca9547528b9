use Rattle.std.proofs.Common.{◌≡◌, ℕ, Err, sym, ap, ◌∙◌}
use Rattle.run_file.specs.Refusals.{bench_of}
use Rattle.run_file.specs.declared.fault.BenchWhy.{BenchWhy}
use Rattle.traced_runs.proofs.SelftestTexts.{no_bench_read}
use Rattle.traced_runs.proofs.selftest.bench_in.Goals as goal

pub returns-in-Err-Bad-clause-bad : goal.returns-in-Err-Bad-clause-bad
returns-in-Err-Bad-clause-bad c line why same image =
    let b = c.in-Err-Bad in
    let bad = no_bench_read c.in-Ok.source c.read_bench.new.input b.line b.why (b.ensures.bad b.line b.why (ap Err b.field-0-is)) image in
    let at : b.line ≡ line = cc in
    let reason : b.why ≡ why = cc in
    ap (bench_of image) (sym c.in-Ok.ensures.0) ∙ bad ∙ ap (λ (n : ℕ). Err (n, b.why)) at ∙ ap (λ (y : BenchWhy). Err (line, y)) reason
