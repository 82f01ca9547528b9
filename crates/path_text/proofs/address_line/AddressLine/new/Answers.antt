use Rattle.std.proofs.Common.{◌/◌, ◌%◌, ◌∷◌, [], ap, ◌∙◌, arith}
use Rattle.path_text.specs.Lines.{in_base, digit}
use Rattle.path_text.proofs.address_line.AddressLine.new.Goals as goal

pub invariant_of-result : goal.invariant_of-result
unfolding in_base
invariant_of-result c = (
  omega arith,
  ap (λ d. d ∷ c.digit-2.result ∷ 32 ∷ 48 ∷ 10 ∷ []) (c.digit.ensures ∙ ap (λ n. digit (n / 16)) c.get-number.ensures.value)
      ∙ ap (λ d. digit (c.args.id / 16) ∷ d ∷ 32 ∷ 48 ∷ 10 ∷ []) (c.digit-2.ensures ∙ ap (λ n. digit (n % 16)) c.get-number.ensures.value),
)
