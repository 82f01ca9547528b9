use Rattle.std.proofs.Common.{◌≡◌, ◌∙◌, Err, Ok, Result, List, ap, rules, subst, sym, true}
use Rattle.std.proofs.lemmas.Result.{err_from_is_err_and}
use Rattle.std.specs.Prelude.{⊤}
use Rattle.line_words.specs.Line.{words_in}
use Rattle.run_file.specs.Answers.{Answers}
use Rattle.run_file.specs.BenchText.{Draft, add_event, is_empty}
use Rattle.run_file.specs.EventLines.{then_ok}
use Rattle.run_file.specs.Kept.{TextDraft, draft_of}
use Rattle.run_file.specs.Parts.{BenchStream}
use Rattle.run_file.specs.declared.fault.BenchWhy.{BenchWhy}
use Rattle.run_file.specs.declared.fault.LineFault.{LineFault}
use Rattle.run_file.proofs.Drafts.{event_draft, refused_draft}
use Rattle.run_file.proofs.draft.Draft.take_event.Goals as goal

pub returns-in_err-push_event-clause-line : goal.returns-in_err-push_event-clause-line
returns-in_err-push_event-clause-line c =
    let number = c.args.place.number in
    let word = c.args.word.now in
    let words = words_in c.args.rest.now in
    let d = (draft_of c.self.inside).draft in
    let new : Draft = record d { streams = c.push_event.new.self.streams } in
    let fault = c.in_err-push_event.field-0.0 in
    let none : is_empty d.weaves ≡ true = search rules in
    let p = err_from_is_err_and c.from_residual.result c.from_residual.ensures.1 in
    let result : c.from_residual.result ≡ Err fault = let e = p.1 in let f = p.2 in cc in
    subst (λ (v : TextDraft). Answers (λ (u : ⊤). new) c.from_residual.result (add_event number v.draft word words)) c.self.view_is
    (subst (λ (r : Result ⊤ LineFault). Answers (λ (u : ⊤). new) r (add_event number d word words)) (sym result)
    (subst (Answers (λ (u : ⊤). new) (Err fault)) (sym (event_draft number d word words none))
    (refused_draft (λ (u : ⊤). c.push_event.new.self.streams) (λ (u : ⊤). new) fault _ _ c.in_err-push_event.ensures.streams)))

pub returns-in_ok-push_event-clause-line : goal.returns-in_ok-push_event-clause-line
returns-in_ok-push_event-clause-line c =
    let number = c.args.place.number in
    let word = c.args.word.now in
    let words = words_in c.args.rest.now in
    let d = (draft_of c.self.inside).draft in
    let none : is_empty d.weaves ≡ true = search rules in
    ap (λ (v : TextDraft). add_event number v.draft word words) (sym c.self.view_is)
    ∙ event_draft number d word words none
    ∙ ap (λ (r : Result (List BenchStream) BenchWhy). then_ok r (λ streams. Ok (record d { streams = streams }))) c.in_ok-push_event.ensures.streams
