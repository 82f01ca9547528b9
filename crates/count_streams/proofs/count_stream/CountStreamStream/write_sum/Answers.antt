use Rattle.std.proofs.Common.{List, ℕ, sym, subst}
use Rattle.path_counts.specs.Counts.{counts_of}
use Rattle.path_counts.specs.Targets.{targets_of}
use Rattle.path_text.specs.Writing.{Writes}
use Rattle.count_streams.specs.Counted.{items_alone}
use Rattle.count_streams.specs.Pairs.{pairs_of}
use Rattle.count_streams.proofs.Texts.{counts_joined}
use Rattle.count_streams.proofs.count_stream.CountStreamStream.write_sum.Goals as goal

pub returns-clause-lines : goal.returns-clause-lines
returns-clause-lines g c s items is =
    let image = c.args.image.now in let state = g.K.Sink.state in
    subst (λ (text : List ℕ). Writes (state c.args.sink.now) (state c.write.new.sink) c.write.result text)
    (sym (counts_joined image (counts_of image (items_alone items)) (targets_of (pairs_of image items)))) (c.write.ensures.text items is)
