use Rattle.std.proofs.Common.{◌≡◌, [], refl, ap, subst, ◌∙◌, inl, inr}
use Rattle.clap.specs.Kinds.{HasKind}
use Rattle.clap.specs.Words.{App, fault_of, is_simple, is_simple_and_free, subcommand_of}
use Rattle.command_words.specs.Words.{texts}
use Rattle.command_words.proofs.WordMeaning.{etm_is_free, etm_is_simple}
use Rattle.command_words.proofs.parser.matches_of.Goals as goal

pub returns-in-Ok-clause-taken : goal.returns-in-Ok-clause-taken
returns-in-Ok-clause-taken c =
    let app = c.in_ok-commands.ensures in
    let none = c.in-Ok.ensures.kinds (ap is_simple_and_free app ∙ etm_is_free) in
    (λ some. subst (λ (a : App). fault_of a (texts c.args.words.now) ≡ []) app none, λ no_fault. refl)

pub returns-in-Ok-clause-found : goal.returns-in-Ok-clause-found
returns-in-Ok-clause-found c =
    let app = c.in_ok-commands.ensures in
    let found = c.in-Ok.ensures.matches (ap is_simple app ∙ etm_is_simple) in
    found.1 ∙ ap (λ (a : App). subcommand_of a (texts c.args.words.now)) app

pub returns-clause-taken : goal.returns-clause-taken
returns-clause-taken c =
    let app = c.in_ok-commands.ensures in
    let has = subst (λ (a : App). HasKind (fault_of a (texts c.args.words.now)) c.in-Err.error) app
    (c.in-Err.ensures.kinds (ap is_simple_and_free app ∙ etm_is_free)) in (
      λ never. absurd cc,
      λ none. elim (subst (λ k. HasKind k c.in-Err.error) none has) [
        | inl memory ↦
            let same = c.kind.ensures ∙ memory in let told = simp same at c.eq.ensures in absurd (let not_told = c.if-eq.false in cc)
        | inr other ↦ absurd other
      ],
    )
