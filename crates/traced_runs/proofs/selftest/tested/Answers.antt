use Rattle.std.proofs.Common.{◌≡◌, ◌≤◌, ℕ, List, length, ap, arith, subst, sym, ◌∙◌}
use Rattle.std.proofs.lemmas.Result.{IfOk-weaker}
use Rattle.program_image.specs.ImageText.{image_of}
use Rattle.program_image.specs.declared.image.Image.{Image}
use Rattle.run_file.specs.BenchText.{parsed}
use Rattle.run_file.specs.Parts.{BenchParts}
use Rattle.run_file.specs.Refusals.{most_text}
use Rattle.traced_runs.proofs.SelftestLines.{Counts, kept_ok}
use Rattle.traced_runs.proofs.SelftestTexts.{are_good}
use Rattle.input_pieces.specs.Listed.{most_input}
use Rattle.traced_runs.specs.Selftest.{AreGood, kept_of}
use Rattle.traced_runs.specs.Traced.{trace_frames}
use Rattle.traced_runs.proofs.selftest.tested.Goals as goal

pub returns-clause-lines : goal.returns-clause-lines
returns-clause-lines c =
    let n = c.args.number in
    let image = c.in_ok-image.image in
    let bench = c.in_ok-bench.bench in
    let made = c.in_ok-frames.ensures.frames in
    let all = trace_frames image bench in
    let good = are_good n c.args.texts.now image bench c.requires (ap image_of (sym c.image.ensures) ∙ c.in_ok-image.ensures.good)
    (ap parsed (sym c.bench.ensures) ∙ c.in_ok-bench.ensures.good.0)
    (subst (λ (l : List ℕ). length l ≤ most_text) c.bench.ensures c.in_ok-bench.ensures.good.1) made.1 in
    let few : length all ≤ most_input = omega (arith, ap length c.written.ensures, ap length made.0, c.if-written-gt-MOST_INPUT.false) in
    let read : c.kept-read.result.now ≡ kept_of c.args.cut all = c.kept-read.ensures ∙ ap (kept_of c.args.cut) (c.written-2.ensures ∙ made.0) in
    let counted = IfOk-weaker c.count_lines.result (Counts image bench c.kept-read.result.now)
    (λ count. (i : Image) × (b : BenchParts) × AreGood n i b × (length (trace_frames i b) ≤ most_input)
    × Counts i b (kept_of c.args.cut (trace_frames i b)) count)
    (λ count has. (image, bench, good, few, subst (λ (l : List ℕ). Counts image bench l count) read has)) c.count_lines.ensures in
    kept_ok c.count_lines.result c.map_err.result _ _ c.map_err.ensures.cases counted
