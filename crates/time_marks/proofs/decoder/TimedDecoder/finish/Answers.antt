use Rattle.std.proofs.Common.{◌≡◌, ℕ, Bool, List, length, true, Ok, Err, sym, ap, subst, ◌∙◌, not}
use Rattle.std.proofs.lemmas.Result.{err_from_is_err_and}
use Rattle.packet_grammar.specs.Ends.{is_fault}
use Rattle.path_text.proofs.Wrote.{answers_err, answers_ok, wrote_nothing, writes_all}
use Rattle.path_text.specs.EndLines.{end_line}
use Rattle.path_text.specs.Writing.{Writes}
use Rattle.stream_decoder.proofs.Standing.{printed_end, printed_nothing}
use Rattle.time_marks.proofs.Ends.{nothing_ends_whole}
use Rattle.time_marks.specs.Timed.{IsTimed, Timed}
use Rattle.trace_io.specs.declared.traits.Failed.{Failed}
use Rattle.time_marks.proofs.decoder.TimedDecoder.finish.Goals as goal

pub returns-then-taken-eq0-clause-line : goal.returns-then-taken-eq0-clause-line
returns-then-taken-eq0-clause-line g c bytes t last stands times =
    let is = subst IsTimed c.self.view_is c.self.invariant in
    let none : length bytes ≡ 0 = stands.reads.0 ∙ sym (c.offset-taken.ensures.value ∙ ap (λ (d : Timed). (d.reader).offset) c.self.view_is) ∙ c.if-taken-eq0.true in
    let state = g.K.Sink.state c.args.sink.now in (
      subst (λ (x : List ℕ). Writes {T = Bool} {E = Failed} state state (Ok true) x) (printed_nothing c.args.id bytes last none)
          (writes_all state state true _ (wrote_nothing state)),
      sym (ap not (nothing_ends_whole c.args.self.reader.settings is.reads.settings bytes t last none times)),
    )

pub returns-in_err-write_end-clause-line : goal.returns-in_err-write_end-clause-line
returns-in_err-write_end-clause-line g c bytes t last stands times =
    let some : length bytes ≡ 0 → ⊥ =
    λ none. c.if-taken-eq0.false (c.offset-taken.ensures.value ∙ ap (λ (d : Timed). (d.reader).offset) c.self.view_is ∙ sym stands.reads.0 ∙ none) in
    let known = c.end-end.ensures bytes t last stands times in
    let a = g.K.Sink.state c.args.sink.now in let b = g.K.Sink.state c.write_end.new.sink in
    let p = err_from_is_err_and c.from_residual.result c.from_residual.ensures.1 in
    let wrote = answers_err {U = Bool} a b c.in_err-write_end.field-0.0 p.0 (end_line c.args.id c.end-end.result) c.in_err-write_end.ensures in
    rw p.1 (
      subst (λ (x : List ℕ). Writes {T = Bool} {E = Failed} a b (Err p.0) x)
          (ap (end_line c.args.id) known ∙ printed_end c.args.id bytes last some) wrote,
      tt,
    )

pub returns-clause-line : goal.returns-clause-line
returns-clause-line g c bytes t last stands times =
    let some : length bytes ≡ 0 → ⊥ =
    λ none. c.if-taken-eq0.false (c.offset-taken.ensures.value ∙ ap (λ (d : Timed). (d.reader).offset) c.self.view_is ∙ sym stands.reads.0 ∙ none) in
    let known = c.end-end.ensures bytes t last stands times in
    let a = g.K.Sink.state c.args.sink.now in let b = g.K.Sink.state c.write_end.new.sink in
    let answer = not c.is_fault.result in
    let wrote = answers_ok {U = Bool} a b _ answer (end_line c.args.id c.end-end.result) c.in_ok-write_end.ensures in (
      subst (λ (x : List ℕ). Writes {T = Bool} {E = Failed} a b (Ok answer) x) (ap (end_line c.args.id) known ∙ printed_end c.args.id bytes last some) wrote,
      ap not (c.is_fault.ensures ∙ ap is_fault known),
    )
