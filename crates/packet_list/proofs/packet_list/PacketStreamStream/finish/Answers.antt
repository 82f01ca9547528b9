use Rattle.std.proofs.Common.{◌≡◌, ℕ, Bool, true, false, List, [], ◌∷◌, length, Result, Ok, Err, refl, sym, ap, subst, ◌∙◌}
use Rattle.std.specs.Prelude.{IfOk, not}
use Rattle.capture_streams.proofs.Standing.{by_err}
use Rattle.capture_streams.specs.Texts.{Printed, StreamEnds, lines_under, text_of}
use Rattle.packet_grammar.specs.Ends.{end_of, is_fault}
use Rattle.packet_grammar.specs.Parsed.{IsStream}
use Rattle.path_text.proofs.Wrote.{answers_err, answers_ok, wrote_nothing, writes_all}
use Rattle.path_text.specs.EndLines.{end_line}
use Rattle.path_text.specs.Writing.{Writes}
use Rattle.packet_list.proofs.PacketLists.{nothing_ends, stream_ends, whole_line, whole_where}
use Rattle.packet_list.specs.PacketList.{HasRead, Listed, packet_lists}
use Rattle.trace_io.specs.declared.traits.Failed.{Failed}
use Rattle.packet_list.proofs.packet_list.PacketStreamStream.finish.Goals as goal

pub returns-then-offset-eq0-clause-ends : goal.returns-then-offset-eq0-clause-ends
returns-then-offset-eq0-clause-ends g c shared bytes at =
    let state = g.K.Sink.state c.args.sink.now in
    let taken = c.offset.ensures.value ∙ ap (λ (l : Listed). l.reader.offset) c.self.view_is in
    let none : length bytes ≡ 0 = at.read.stands.0 ∙ sym taken ∙ c.if-offset-eq0.true in
    ([], false, nothing_ends c.args.self.reader.settings c.args.id bytes none, writes_all state state true [] (wrote_nothing state), refl)

pub returns-in_err-write_end-clause-ends : goal.returns-in_err-write_end-clause-ends
returns-in_err-write_end-clause-ends g c shared bytes at =
    let id = c.args.id in let a = g.K.Sink.state c.args.sink.now in let b = g.K.Sink.state c.write_end.new.sink in
    let taken = c.offset.ensures.value ∙ ap (λ (l : Listed). l.reader.offset) c.self.view_is in
    let some : length bytes ≡ 0 → ⊥ = λ none. c.if-offset-eq0.false (taken ∙ sym at.read.stands.0 ∙ none) in
    let read = subst (λ (l : Listed). HasRead l.reader l.fault bytes) (sym c.self.view_is) at.read in
    let stream = subst (λ (l : Listed). IsStream l.reader.settings bytes read.packets read.ending) c.self.view_is read.stream in
    by_err
    (λ (r : Result Bool Failed). (lines : List Printed) × (faulty : Bool) × StreamEnds (packet_lists c.args.self.reader.settings) id bytes lines faulty
    × Writes a b r (text_of lines) × IfOk r (λ whole. whole ≡ not faulty))
    c.from_residual.result c.from_residual.ensures.0 (λ d.
    let wrote = answers_err {U = Bool} a b c.in_err-write_end.field-0.0 d (end_line id c.end_at.result) c.in_err-write_end.ensures in (
      lines_under id (end_line id (end_of read.ending) ∷ []),
      is_fault (end_of read.ending),
      stream_ends c.args.self.reader.settings id bytes read.packets read.ending some stream,
      subst (λ (text : List ℕ). Writes {T = Bool} {E = Failed} a b (Err d) text)
          (whole_line c.args.self.reader.settings id c.end_at.result read.ending (c.end_at.ensures bytes read)) wrote,
      tt,
    ))

pub returns-clause-ends : goal.returns-clause-ends
returns-clause-ends g c shared bytes at =
    let id = c.args.id in let a = g.K.Sink.state c.args.sink.now in let b = g.K.Sink.state c.write_end.new.sink in
    let taken = c.offset.ensures.value ∙ ap (λ (l : Listed). l.reader.offset) c.self.view_is in
    let some : length bytes ≡ 0 → ⊥ = λ none. c.if-offset-eq0.false (taken ∙ sym at.read.stands.0 ∙ none) in
    let read = subst (λ (l : Listed). HasRead l.reader l.fault bytes) (sym c.self.view_is) at.read in
    let stream = subst (λ (l : Listed). IsStream l.reader.settings bytes read.packets read.ending) c.self.view_is read.stream in
    let wrote = answers_ok {U = Bool} a b c.in_ok-write_end.field-0 c.is_none.result (end_line id c.end_at.result) c.in_ok-write_end.ensures in (
      lines_under id (end_line id (end_of read.ending) ∷ []),
      is_fault (end_of read.ending),
      stream_ends c.args.self.reader.settings id bytes read.packets read.ending some stream,
      subst (λ (text : List ℕ). Writes {T = Bool} {E = Failed} a b (Ok c.is_none.result) text)
          (whole_line c.args.self.reader.settings id c.end_at.result read.ending (c.end_at.ensures bytes read)) wrote,
      whole_where read.ending c.self.inside.fault c.is_none.result read.fault c.is_none.ensures,
    )
