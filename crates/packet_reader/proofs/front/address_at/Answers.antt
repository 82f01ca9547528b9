use Rattle.std.proofs.Common.{None, List, ℕ, ◌∷◌, refl, sym, ap, subst, ◌∙◌, rules}
use Rattle.packet_grammar.specs.declared.packet.Packet.TheVariants.{Addr}
use Rattle.packet_grammar.specs.Parsed.{Spells}
use Rattle.packet_reader.specs.Fronts.{IsFront}
use Rattle.packet_reader.proofs.Fronts.{match_front, long_32_front, long_64_front, context_32_front, context_64_front}
use Rattle.packet_reader.proofs.front.address_at.Goals as goal

pub returns-in_ok-ctx-in-130-clause-front : goal.returns-in_ok-ctx-in-130-clause-front
returns-in_ok-ctx-in-130-clause-front c =
    let a = c.in_ok-value-in-130.ensures.front in
    context_32_front c.args.settings.now _ _ _ _ a.0 _ _ _ c.in_ok-header.ensures.cases.0 c.in-130.is a.1 a.2 a.3 c.in_ok-ctx-in-130.ensures.front

pub returns-in_ok-ctx-in-133-clause-front : goal.returns-in_ok-ctx-in-133-clause-front
returns-in_ok-ctx-in-133-clause-front c =
    let a = c.in_ok-value-in-133.ensures.front in
    context_64_front c.args.settings.now _ _ _ _ a.0 _ _ _ c.in_ok-header.ensures.cases.0 c.in-133.is a.1 a.2 a.3 c.in_ok-ctx-in-133.ensures.front

pub returns-in_ok-form-in-149-clause-front : goal.returns-in_ok-form-in-149-clause-front
returns-in_ok-form-in-149-clause-front c =
    let s = c.args.settings.now in let rest = c.in_ok-form-in-149.rest.now in
    let parts = c.in_ok-header.ensures.cases.0 ∙ ap (λ h. h ∷ c.in_ok-header.rest.now) c.in-149.is in
    subst (λ (bytes : List ℕ). IsFront (Spells s) bytes (Addr c.in_ok-form-in-149.form None) rest) (sym parts) (c.in_ok-form-in-149.ensures.front s)

pub returns-in_ok-value-in-154-clause-front : goal.returns-in_ok-value-in-154-clause-front
returns-in_ok-value-in-154-clause-front c =
    let a = c.in_ok-value-in-154.ensures.front in
    long_32_front c.args.settings.now _ _ _ a.0 _ _ c.in_ok-header.ensures.cases.0 c.in-154.is a.1 a.2 a.3

pub returns-in_ok-value-in-157-clause-front : goal.returns-in_ok-value-in-157-clause-front
returns-in_ok-value-in-157-clause-front c =
    let a = c.in_ok-value-in-157.ensures.front in
    long_64_front c.args.settings.now _ _ _ a.0 _ _ c.in_ok-header.ensures.cases.0 c.in-157.is a.1 a.2 a.3

pub returns-in-144-to-146-clause-front : goal.returns-in-144-to-146-clause-front
returns-in-144-to-146-clause-front c =
    match_front c.args.settings.now _ _ _ _ c.in_ok-header.ensures.cases.0 (search rules) (search rules) refl
