use Rattle.std.proofs.Common.{◌≡◌, ℕ, Err, sym, ap, ◌∙◌}
use Rattle.program_image.specs.ImageText.{image_of}
use Rattle.program_image.specs.declared.fault.ImageWhy.{ImageWhy}
use Rattle.traced_runs.proofs.SelftestTexts.{no_image_read}
use Rattle.traced_runs.proofs.selftest.image_in.Goals as goal

pub returns-in-Err-Bad-clause-bad : goal.returns-in-Err-Bad-clause-bad
returns-in-Err-Bad-clause-bad c line why same =
    let b = c.in-Err-Bad in
    let bad = no_image_read c.in-Ok.source c.read.new.source b.line b.why (b.ensures.bad b.line b.why (ap Err b.field-0-is)) in
    let at : b.line ≡ line = cc in
    let reason : b.why ≡ why = cc in
    ap image_of (sym c.in-Ok.ensures.0) ∙ bad ∙ ap (λ (n : ℕ). Err (n, b.why)) at ∙ ap (λ (y : ImageWhy). Err (line, y)) reason
