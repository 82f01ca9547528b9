use Rattle.std.proofs.Common.{◌+◌, subst, sym, arith}
use Rattle.path_text.specs.PageLines.{HoldsEnds}
use Rattle.path_text.proofs.PageLemmas.{holds_more}
use Rattle.path_text.proofs.page_lines.fill_ends.Goals as goal

pub loop-place-preserved : goal.loop-place-preserved
loop-place-preserved c =
    let place = c.loop-place.place in
    subst (λ ends. HoldsEnds ends (place + 1)) (sym c.put_end.ensures)
    (holds_more c.loop-place.ends place (omega (arith, c.loop-place-test.true, c.loop-place.auto.ends, c.requires)) c.loop-place.invariant)
