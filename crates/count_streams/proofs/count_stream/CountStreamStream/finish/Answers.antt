use Rattle.std.proofs.Common.{◌≡◌, List, sym, subst, ◌∙◌}
use Rattle.capture_streams.specs.Texts.{Printed, StreamEnds, text_of}
use Rattle.stream_decoder.specs.Decoding.{Decoding}
use Rattle.stream_decoder.specs.Follows.{CameTo}
use Rattle.std.specs.Prelude.{Bool, IfOk, not}
use Rattle.path_text.specs.Writing.{Writes}
use Rattle.count_streams.specs.Counted.{counted}
use Rattle.count_streams.proofs.Ending.{came_path, counted_finished}
use Rattle.count_streams.proofs.count_stream.CountStreamStream.finish.Goals as goal

pub returns-clause-ends : goal.returns-clause-ends
returns-clause-ends g c image bytes came =
    let d = c.self.inside.stream in let state = g.K.Sink.state in let a = state c.args.sink.now in let b = state c.finish.new.sink in
    let there = subst (λ (x : Decoding). CameTo image x bytes) (sym c.self.view_is) came in
    let path = came_path image d bytes there in
    let line = c.finish.ensures.line image bytes path.0 path.1 there path.2 in
    subst (λ (x : Decoding). (lines : List Printed) × (faulty : Bool) × StreamEnds (counted image x.reader.settings) c.args.id bytes lines faulty
    × Writes a b c.finish.result (text_of lines) × IfOk c.finish.result (λ (w : Bool). w ≡ not faulty)) c.self.view_is
    (counted_finished image d c.args.id bytes c.finish.result a b path.0 path.1 path.2 line.0 line.1
    (λ none. c.finish.ensures.nothing (sym (there.1.reads.0) ∙ none)))
