use Rattle.std.proofs.Common.{◌≡◌, ◌==◌, [], length, subst, if◌then◌else◌, not}
use Rattle.std.specs.Prelude.{IfOk}
use Rattle.packet_grammar.specs.Ends.{is_fault}
use Rattle.path_elements.specs.Path.{IsPath}
use Rattle.path_text.specs.EndLines.{end_line}
use Rattle.path_text.specs.Writing.{Writes}
use Rattle.stream_decoder.specs.Decoding.{Decoding}
use Rattle.stream_decoder.specs.Follows.{CameTo}
use Rattle.stream_decoder.proofs.followed.FollowedStream.finish.Goals as goal

pub returns-clause-line : goal.returns-clause-line
returns-clause-line g c image bytes items last came path =
    let state = g.K.Sink.state in
    subst (λ (d : Decoding). CameTo image d bytes → IsPath image d.reader.settings bytes items last
    → Writes (state c.args.sink.now) (state c.finish.new.sink) c.finish.result (if length bytes == 0 then [] else end_line c.args.id last)
    × IfOk c.finish.result (λ whole. whole ≡ not (is_fault last))) c.self.view_is (c.finish.ensures.line image bytes items last) came path
