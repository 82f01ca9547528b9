use Rattle.std.proofs.Common.{◌≡◌, ℕ, Bool, List, [], length, None, Ok, Err, sym, ap, subst, ◌∙◌, not, true}
use Rattle.std.proofs.lemmas.Result.{err_from_is_err_and}
use Rattle.packet_grammar.specs.Ends.{is_fault}
use Rattle.packet_grammar.specs.Parsed.{Ending, IsStream}
use Rattle.packet_grammar.specs.declared.end.End.{End}
use Rattle.packet_grammar.specs.declared.packet.Packet.{Packet}
use Rattle.packet_reader.specs.Answered.{fault_of}
use Rattle.packet_reader.specs.Stands as reader
use Rattle.path_text.proofs.Wrote.{answers_err, answers_ok, wrote_nothing, writes_all}
use Rattle.path_text.specs.EndLines.{end_line}
use Rattle.path_text.specs.Writing.{Writes}
use Rattle.stream_decoder.specs.Decoding.{Decoding}
use Rattle.stream_decoder.specs.Stands.{end_at}
use Rattle.stream_decoder.proofs.Standing.{end_known, nothing_ends_whole, printed_end, printed_nothing}
use Rattle.trace_io.specs.declared.traits.Failed.{Failed}
use Rattle.stream_decoder.proofs.ending.finish.Goals as goal

-- the end that a decoding gives
abbrev Gives : End → Decoding → Type 0
Gives known d =
    (bytes : List ℕ) (packets : List (ℕ × Packet)) (ending : Ending) → reader.StandsAt d.reader bytes → IsStream d.reader.settings bytes packets ending
    → (d.fault ≡ None → fault_of ending ≡ None) → known ≡ end_at d.fault ending

pub returns-then-taken-eq0-clause-line : goal.returns-then-taken-eq0-clause-line
returns-then-taken-eq0-clause-line g c image bytes items last stands path =
    let are = c.requires.holds.reads.settings in
    let none : length bytes ≡ 0 = stands.1.reads.0 ∙ sym c.offset-taken.ensures ∙ c.if-taken-eq0.true in
    let state = g.K.Sink.state c.args.sink.now in (
      subst (λ (t : List ℕ). Writes {T = Bool} {E = Failed} state state (Ok true) t) (printed_nothing c.args.id bytes last none)
          (writes_all state state true [] (wrote_nothing state)),
      ap not (nothing_ends_whole image c.args.decoding.reader.settings are bytes items last path.0 none path.1),
    )

pub returns-clause-line : goal.returns-clause-line
returns-clause-line g c image bytes items last stands path =
    let are = c.requires.holds.reads.settings in
    let some : length bytes ≡ 0 → ⊥ =
    λ none. c.if-taken-eq0.false (c.offset-taken.ensures ∙ sym stands.1.reads.0 ∙ none) in
    let ends : Gives c.end-end.result c.args.decoding = c.end-end.ensures in
    let known : c.end-end.result ≡ last =
    end_known image c.args.decoding bytes stands.0 stands.1 are items last path.0 path.1 c.end-end.result
    (λ packets ending stream free. ends bytes packets ending stands.1.reads stream free) in
    let a = g.K.Sink.state c.args.sink.now in let b = g.K.Sink.state c.write_end.new.sink in
    let answer = not c.is_fault.result in
    let wrote = answers_ok {U = Bool} a b _ answer (end_line c.args.id c.end-end.result) c.in_ok-write_end.ensures in (
      subst (λ (t : List ℕ). Writes {T = Bool} {E = Failed} a b (Ok answer) t) (ap (end_line c.args.id) known ∙ printed_end c.args.id bytes last some) wrote,
      ap not (c.is_fault.ensures ∙ ap is_fault known),
    )

pub returns-in_err-write_end-clause-line : goal.returns-in_err-write_end-clause-line
returns-in_err-write_end-clause-line g c image bytes items last stands path =
    let are = c.requires.holds.reads.settings in
    let some : length bytes ≡ 0 → ⊥ =
    λ none. c.if-taken-eq0.false (c.offset-taken.ensures ∙ sym stands.1.reads.0 ∙ none) in
    let ends : Gives c.end-end.result c.args.decoding = c.end-end.ensures in
    let known : c.end-end.result ≡ last =
    end_known image c.args.decoding bytes stands.0 stands.1 are items last path.0 path.1 c.end-end.result
    (λ packets ending stream free. ends bytes packets ending stands.1.reads stream free) in
    let a = g.K.Sink.state c.args.sink.now in let b = g.K.Sink.state c.write_end.new.sink in
    let p = err_from_is_err_and c.from_residual.result c.from_residual.ensures.1 in
    let wrote = answers_err {U = Bool} a b c.in_err-write_end.field-0.0 p.0 (end_line c.args.id c.end-end.result) c.in_err-write_end.ensures in
    rw p.1 (
      subst (λ (t : List ℕ). Writes {T = Bool} {E = Failed} a b (Err p.0) t)
          (ap (end_line c.args.id) known ∙ printed_end c.args.id bytes last some) wrote,
      tt,
    )
