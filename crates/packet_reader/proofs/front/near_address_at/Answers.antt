use Rattle.std.proofs.Common.{IfSome, None, List, ℕ, ◌∷◌, ap, arith, refl, subst, sym, ◌∙◌}
use Rattle.packet_grammar.specs.declared.packet.Packet.TheVariants.{Addr}
use Rattle.packet_grammar.specs.Parsed.{Spells}
use Rattle.packet_reader.specs.Fronts.{IsFront}
use Rattle.packet_reader.proofs.Fronts.{match_front}
use Rattle.packet_reader.proofs.front.near_address_at.Goals as goal

pub returns-then-header : goal.returns-then-header
returns-then-header c =
    let parts = c.in_ok-header.ensures.cases.0 ∙ ap (λ h. h ∷ c.in_ok-header.rest.now) c.if-header.true in
    record {
      front = λ s. subst (λ (bytes : List ℕ). IfSome c.short_at.result (λ r. IsFront (Spells s) bytes (Addr r.0 None) r.1.now)) (sym parts)
          (c.short_at.ensures.front s);
    }

pub returns : goal.returns
returns c =
    record {
      front = λ s.
          match_front s _ _ _ _ c.in_ok-header.ensures.cases.0 (omega (arith, c.if-header-lt-EXACT_MATCH.false))
          (omega (arith, c.if-header-gt-LAST_EXACT_MATCH.false)) refl;
    }
