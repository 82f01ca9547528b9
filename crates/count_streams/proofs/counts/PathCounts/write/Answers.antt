use Rattle.std.proofs.Common.{◌≡◌, ℕ, List, true, false, sym, ap, subst, ◌∙◌}
use Rattle.path_counts.specs.CountLines.{counts_text}
use Rattle.path_counts.specs.Counts.{Counting, counts_of}
use Rattle.path_text.specs.Writing.{Writes}
use Rattle.count_streams.proofs.Fitting.{counts_fit}
use Rattle.count_streams.specs.Counted.{CountsAre, PathCounting, items_alone}
use Rattle.count_streams.proofs.counts.PathCounts.write.Goals as goal

pub returns-then-fits-clause-text : goal.returns-then-fits-clause-text
returns-then-fits-clause-text g c items is =
    let image = c.args.image.now in let state = g.K.Sink.state in
    let all = subst (λ (x : PathCounting). CountsAre image x items) (sym c.self.view_is) is in
    subst (λ (text : List ℕ). Writes (state c.args.sink.now) (state c.write.new.sink) c.write.result text)
    (ap (λ (k : Counting). counts_text image k c.targets.result.now) all.counts
    ∙ ap (counts_text image (counts_of image (items_alone items))) (c.targets.ensures ∙ all.branches.targets)) c.write.ensures

-- it has the counts of no items over this image
pub returns-else-fits-clause-text : goal.returns-else-fits-clause-text
returns-else-fits-clause-text g c items is =
    let image = c.args.image.now in let counts = ap (λ (x : PathCounting). x.counts) c.self.view_is ∙ is.counts in
    let fits = c.fits.ensures.value.1 (counts_fit image c.self.inside.counter (items_alone items) c.fits.ensures.parts counts) in
    absurd (let e : true ≡ false = sym fits ∙ c.if-fits.false in cc)
